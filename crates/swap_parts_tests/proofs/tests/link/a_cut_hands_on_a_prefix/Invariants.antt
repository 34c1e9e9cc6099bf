use Rattle.std.proofs.Common.{◌≡◌, length}
use Rattle.swap_parts_tests.proofs.tests.link.a_cut_hands_on_a_prefix.Given as goal

abbrev pub invariant-loop-to_lender : goal.invariant-loop-to_lender
invariant-loop-to_lender g l = (l.harbor.sizes.page_bytes ≡ 8) × (length l.harbor.channels ≡ 1)

abbrev pub invariant-loop-to_device : goal.invariant-loop-to_device
invariant-loop-to_device g l = (l.harbor.sizes.page_bytes ≡ 8) × (length l.harbor.channels ≡ 1)
