-- A device finds no link down that it takes to be up.
use Rattle.std.specs.Prelude.{◌≡◌}
use Rattle.swap_wire.specs.declared.fabric.Sent.TheVariants as sent
use Rattle.swap_wire.specs.Fabric.{FabricCall, FabricAnswer, Connect, Send, Take, End, Give, Cut, Crash, Host}
use Rattle.swap_table.specs.Goes.{Asked, Nothing, OfDisk, OfFabric}

-- a send is taken
abbrev pub IsTaken : (c : FabricCall) → FabricAnswer c → Type 0
IsTaken (Connect l link) r = Unit {0}
IsTaken (Send l q) r = r ≡ sent.Sent
IsTaken (Take l) r = Unit {0}
IsTaken (End l) r = Unit {0}
IsTaken (Give l) r = Unit {0}
IsTaken (Cut l to_lender to_device) r = Unit {0}
IsTaken (Crash l) r = Unit {0}
IsTaken (Host l used word) r = Unit {0}

abbrev pub FindsUp : Asked → Type 0
FindsUp Nothing = Unit {0}
FindsUp (OfDisk c r) = Unit {0}
FindsUp (OfFabric c r) = IsTaken c r
