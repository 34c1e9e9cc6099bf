use Rattle.std.proofs.Common.{◌≡◌}
use Rattle.swap_parts_tests.proofs.tests.wire.read_bytes.Given as goal

abbrev pub invariant-loop-i : goal.invariant-loop-i
invariant-loop-i g l = l.decoder.page_bytes ≡ 8
