-- What the calls of a board make of its world, act by act, and who made each.
use Rattle.std.specs.Prelude.{◌≡◌, ◌+◌, ◌≤◌, ℕ, suc, Bool, true, false, List, [], ◌∷◌, ◌++◌, length, Option, None, Some}
use Rattle.swap_wire.specs.Input.{Input, IsInRange}
use Rattle.swap_wire.specs.declared.Event.{Event}
use Rattle.swap_wire.specs.declared.Event.TheVariants as event
use Rattle.swap_wire.specs.declared.Seen.{Seen}
use Rattle.swap_wire.specs.Fabric.{FabricCall, FabricAnswer}
use Rattle.swap_disk.specs.Port.{DiskCall, DiskAnswer}
use Rattle.swap_table.specs.Ports.{Along}
use Rattle.swap_table.specs.declared.DiskStep.{DiskStep}
use Rattle.swap_table.specs.Device.{Device, disk_take, of_device}
use Rattle.swap_table.specs.Happens.{see_disk}
use Rattle.swap_world.specs.World.{IsEvent}
use Rattle.swap_world.specs.Runs.{WorldView, has_effect, event_of}
use Rattle.rand_pcg.specs.Lcg.{Lcg}
use Rattle.rand_pcg.specs.Pcg.{pcg32}

-- who makes an event: a caller or a pump, a call that paces itself by a Round first, or the operator
pub data Maker : Type 0 where
  Player : Maker
  Pacer : Maker
  Operator : Maker

-- an event that was made, with what was seen of it, or a poll of the disk
pub data Act : Type 0 where
  Made : Maker → Input → Seen → Act
  Polled : DiskStep → Act

-- The acts from a device, its disk and its fabric to these, the newest first. Acts without an effect are among them.
pub data IsActed {D F : Type 0} (disk_moves : D → (c : DiskCall) → DiskAnswer c → D → Type 0)
    (moves : F → (c : FabricCall) → FabricAnswer c → F → Type 0) (first : Device) (disk : D) (fabric : F) :
    List Act → Device → D → F → Type 0 where
  opens : IsActed disk_moves moves first disk fabric [] first disk fabric
  makes : {acts : List Act} {d : Device} {k : D} {f : F} (by : Maker) (i : Input) (s : Seen) (d' : Device) (k' : D)
      (f' : F)
      → IsActed disk_moves moves first disk fabric acts d k f → IsInRange first.sizes first.lenders i.event
      → IsEvent disk_moves moves d k f i s d' k' f'
      → IsActed disk_moves moves first disk fabric (Made by i s ∷ acts) d' k' f'
  polls : {acts : List Act} {d : Device} {k : D} {f : F} (step : DiskStep) (d' : Device) (k' : D) (f' : F)
      → IsActed disk_moves moves first disk fabric acts d k f
      → Along disk_moves moves (disk_take d) k f k' f' (d', step)
      → IsActed disk_moves moves first disk fabric (Polled step ∷ acts) d' k' f'

-- what an act leaves in the log: its event, where that had an effect, with what was seen of it
abbrev pub line_if : Bool → Event → Seen → List (Event × Seen)
line_if true e s = (e, s) ∷ []
line_if false e s = []

abbrev pub line_with : Option Event → Seen → List (Event × Seen)
line_with None s = []
line_with (Some e) s = (e, s) ∷ []

abbrev pub line_of : Act → List (Event × Seen)
line_of (Made by i s) = line_if (has_effect i.event s) i.event s
line_of (Polled step) = line_with (event_of step) (see_disk step)

-- the log of acts, the oldest first
abbrev pub lines_of : List Act → List (Event × Seen)
lines_of [] = []
lines_of (act ∷ acts) = lines_of acts ++ line_of act

-- these acts led from one world to the other, and stand in its log
pub record Makes {D F : Type 0} (disk_moves : D → (c : DiskCall) → DiskAnswer c → D → Type 0)
    (moves : F → (c : FabricCall) → FabricAnswer c → F → Type 0) (acts : List Act) (w w' : WorldView D F) : Type 0 where
  pub acted : IsActed disk_moves moves w.core.device w.core.disk w.core.fabric acts w'.core.device w'.core.disk
      w'.core.fabric
  pub logged : w'.log ≡ w.log ++ lines_of acts
  pub of : of_device w'.core.device ≡ of_device w.core.device

-- how many calls were begun since the last Round, whoever made it
abbrev pub since_after : Event → ℕ → ℕ
since_after (event.PageOut c p) n = suc n
since_after (event.PageIn c p) n = suc n
since_after (event.Round word) n = 0
since_after e n = n

abbrev pub calls_since : List Act → ℕ
calls_since [] = 0
calls_since (Made by i s ∷ acts) = since_after i.event (calls_since acts)
calls_since (Polled step ∷ acts) = calls_since acts

-- how many calls were begun
abbrev pub calls_after : Event → ℕ → ℕ
calls_after (event.PageOut c p) n = suc n
calls_after (event.PageIn c p) n = suc n
calls_after e n = n

abbrev pub calls_in : List Act → ℕ
calls_in [] = 0
calls_in (Made by i s ∷ acts) = calls_after i.event (calls_in acts)
calls_in (Polled step ∷ acts) = calls_in acts

-- the generator after the Rounds that were made to pace the calls
abbrev pub drawn_by : Maker → Lcg → Lcg
drawn_by Player g = g
drawn_by Pacer g = (pcg32 g).1
drawn_by Operator g = g

abbrev pub seed_after : Lcg → List Act → Lcg
seed_after seed [] = seed
seed_after seed (Made by i s ∷ acts) = drawn_by by (seed_after seed acts)
seed_after seed (Polled step ∷ acts) = seed_after seed acts

-- what callers and pumps make
abbrev pub IsPlayers : Event → Type 0
IsPlayers (event.PageOut c p) = Unit {0}
IsPlayers (event.PageIn c p) = Unit {0}
IsPlayers (event.Finish c) = Unit {0}
IsPlayers event.Start = Unit {0}
IsPlayers (event.Disk which ok) = Unit {0}
IsPlayers (event.Give l) = Unit {0}
IsPlayers (event.Take l) = Unit {0}
IsPlayers _ = ⊥

-- what an operator's list may hold
abbrev pub IsOperators : Event → Type 0
IsOperators (event.Map slab l) = Unit {0}
IsOperators (event.Connect l) = Unit {0}
IsOperators (event.Cut l a b) = Unit {0}
IsOperators (event.Crash l) = Unit {0}
IsOperators (event.Host l used word) = Unit {0}
IsOperators (event.Round word) = Unit {0}
IsOperators _ = ⊥

-- an event is its maker's: a Round that paces has the generator's next word
abbrev pub IsOf : Lcg → Maker → Event → Type 0
IsOf g Player e = IsPlayers e
IsOf g Pacer e = e ≡ event.Round (pcg32 g).0
IsOf g Operator e = IsOperators e

-- how many calls may be begun with no Round between them
abbrev pub PACE : ℕ
PACE = 256

-- each act is its maker's, and never more than so many calls were begun since the last Round
abbrev pub AreMade : Lcg → List Act → Type 0
AreMade seed [] = Unit {0}
AreMade seed (Made by i s ∷ acts) =
    IsOf (seed_after seed acts) by i.event × (since_after i.event (calls_since acts) ≤ PACE) × AreMade seed acts
AreMade seed (Polled step ∷ acts) = AreMade seed acts

-- the operator's events, the oldest first
abbrev pub with_operated : Maker → Event → List Event → List Event
with_operated Player e es = es
with_operated Pacer e es = es
with_operated Operator e es = es ++ e ∷ []

abbrev pub operator_events : List Act → List Event
operator_events [] = []
operator_events (Made by i s ∷ acts) = with_operated by i.event (operator_events acts)
operator_events (Polled step ∷ acts) = operator_events acts

-- the length that the log had before each of them
abbrev pub with_place : Maker → ℕ → List ℕ → List ℕ
with_place Player n ns = ns
with_place Pacer n ns = ns
with_place Operator n ns = ns ++ n ∷ []

abbrev pub places : ℕ → List Act → List ℕ
places first [] = []
places first (Made by i s ∷ acts) = with_place by (first + length (lines_of acts)) (places first acts)
places first (Polled step ∷ acts) = places first acts

-- no Round among them
abbrev pub IsNoRound : Event → Type 0
IsNoRound (event.Round word) = ⊥
IsNoRound _ = Unit {0}

abbrev pub AreNoRounds : List Act → Type 0
AreNoRounds [] = Unit {0}
AreNoRounds (Made by i s ∷ acts) = IsNoRound i.event × AreNoRounds acts
AreNoRounds (Polled step ∷ acts) = AreNoRounds acts
