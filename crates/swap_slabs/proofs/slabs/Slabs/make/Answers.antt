use Rattle.std.proofs.Common.{rules, ◌≡◌}
use Rattle.swap_slabs.specs.Slabs.{all_local}
use Rattle.swap_slabs.proofs.Lost.{new_fits}
use Rattle.swap_slabs.proofs.slabs.Slabs.make.Goals as goal

pub invariant_of-result : goal.invariant_of-result
invariant_of-result c =
    let made : c.in-Ok.states.items ≡ all_local c.slabs.result = search rules in
    new_fits c.slabs.result c.in-Ok.states.items c.in_ok-rows.rows.items c.slabs.type_inv made c.in_ok-rows.ensures
