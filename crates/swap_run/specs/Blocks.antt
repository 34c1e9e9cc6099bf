-- A call before a sink that gathers what it takes: what the sink behind it took in the end.
use Rattle.std.specs.Prelude.{◌≡◌, ℕ, ◌⊎◌, Bool, true, false, List, [], Option, None, Some}
use Rattle.std.specs.Io.KnownBytes.{Keeps}
use Rattle.swap_io.specs.Causes.{Rose}
use Rattle.swap_io.specs.Gathered.{Gathered, gathered_bytes}
use Rattle.swap_run.specs.declared.Ending.{Ending}
use Rattle.swap_run.specs.declared.Ending.TheVariants as ending

-- a sink that took nothing yet, where it tells it
abbrev pub IsFresh : Option (List ℕ) → Type 0
IsFresh None = Unit {0}
IsFresh (Some bytes) = bytes ≡ []

-- the endings at which a transcript, or a verdict, is written whole
abbrev pub is_whole : Ending → Bool
is_whole ending.Done = true
is_whole ending.Faulted = true
is_whole ending.NotLegal = true
is_whole _ = false

-- what was gathered is handed on whole, or the last write failed
abbrev pub LastWrite : Ending → Gathered → Gathered → Ending → Type 0
LastWrite ran before now end =
    Keeps (gathered_bytes before) (gathered_bytes now)
    × (((end ≡ ran) × (now.held ≡ [])) ⊎ ((end ≡ ending.WriteFailed) × Rose before.faults now.faults))

abbrev pub HandsOnAt : Bool → Ending → Gathered → Gathered → Ending → Type 0
HandsOnAt true ran before now end = LastWrite ran before now end
HandsOnAt false ran before now end = (end ≡ ran) × (now ≡ before)

-- only what was written whole is handed on
abbrev pub HandsOn : Ending → Gathered → Gathered → Ending → Type 0
HandsOn ran before now end = HandsOnAt (is_whole ran) ran before now end
