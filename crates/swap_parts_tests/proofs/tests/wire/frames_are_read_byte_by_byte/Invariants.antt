use Rattle.std.proofs.Common.{◌≡◌}
use Rattle.swap_parts_tests.proofs.tests.wire.frames_are_read_byte_by_byte.Given as goal

abbrev pub invariant-loop-msg : goal.invariant-loop-msg
invariant-loop-msg g l = (l.device.page_bytes ≡ 8) × (l.lender.page_bytes ≡ 8)

abbrev pub invariant-loop-msg-2 : goal.invariant-loop-msg-2
invariant-loop-msg-2 g l = l.lender.page_bytes ≡ 8
