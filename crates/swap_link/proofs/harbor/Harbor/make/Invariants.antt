use Rattle.std.proofs.Common.{◌≡◌, take}
use Rattle.std.specs.Prelude.{map}
use Rattle.swap_link.specs.Harbor.{new_channel}
use Rattle.swap_link.proofs.harbor.Harbor.make.Given as goal

abbrev pub invariant-loop-spec : goal.invariant-loop-spec
invariant-loop-spec l = l.channels.items ≡ map (λ spec. new_channel l.geometry spec) (take l.spec-index l.specs)
