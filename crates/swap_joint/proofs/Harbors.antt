-- The lenders in memory, as a fabric.
use Rattle.std.proofs.Common.{◌≡◌}
use Rattle.swap_wire.specs.declared.fabric.Fabric.{Ghosts as FabricMeaning}
use Rattle.swap_link.specs.Harbor as harbor
use Rattle.swap_link.specs.Harbor.{Harbor, of_harbor, KeepsAt, OwesAt}

abbrev pub harbor_meaning : FabricMeaning Harbor
harbor_meaning = record { of = of_harbor; moves = harbor.Moves; fresh = harbor.IsFresh; keeps = KeepsAt; owes = OwesAt; answers = λ page given. page ≡ given }
