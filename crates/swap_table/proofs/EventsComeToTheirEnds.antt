-- One event over any disk and any fabric comes to what it may.
use Rattle.std.proofs.Common.{◌≡◌, ℕ, List}
use Rattle.swap_base.specs.Sizes.{Sizes}
use Rattle.swap_disk.specs.Port.{DiskCall, DiskAnswer}
use Rattle.swap_wire.specs.Fabric.{FabricCall, FabricAnswer}
use Rattle.swap_wire.specs.Input.{IsInRange}
use Rattle.swap_wire.specs.declared.Event.{Event}
use Rattle.swap_wire.specs.declared.Event.TheVariants as event
use Rattle.swap_wire.specs.declared.Seen.{Seen}
use Rattle.swap_remote.specs.Remote.{Remote}
use Rattle.swap_base.specs.declared.Lender.{Lender}
use Rattle.swap_table.specs.Ports.{Leads}
use Rattle.swap_table.specs.Device.{Device, lost_after}
use Rattle.swap_table.proofs.Programs.{Leads-implies}
use Rattle.swap_table.specs.Happens.{happens}
use Rattle.swap_table.specs.Moves.{of_sizes, within_any, quiet_speaker, Move}
use Rattle.swap_table.specs.Comes.{ComesTo, Linked, as_was, sent_on, let_go}
use Rattle.swap_table.proofs.MovesKeepInvariants.{Goes-leads}
use Rattle.swap_table.proofs.EventsGoByMoves.{Names, happens_fares}

-- an event names what there is, or anything
abbrev pub Hands : (Lender → Type 0) → (List ℕ → Type 0) → List ℕ → Event → Type 0
Hands far may page (event.PageOut c p) = may page
Hands far may page (event.Give l) = far l
Hands far may page (event.Cut l a b) = far l
Hands far may page (event.Crash l) = far l
Hands far may page (event.Host l used word) = far l
Hands far may page e = Unit {0}

pub names_there :
    (s : Sizes) (n : ℕ) (far : Lender → Type 0) (may : List ℕ → Type 0) (d : Device) (page : List ℕ) (e : Event) → IsInRange s n e → Hands far may page e
    → Names (of_sizes s n far may) d page e
names_there s n far may d page (event.PageOut c p) range hands = (range.1, hands)
names_there s n far may d page (event.PageIn c p) range hands = range
names_there s n far may d page (event.Finish c) range hands = range
names_there s n far may d page (event.Map t l) range hands = range.0
names_there s n far may d page (event.Connect l) range hands = range
names_there s n far may d page (event.Give l) range hands = hands
names_there s n far may d page (event.Cut l a b) range hands = hands
names_there s n far may d page (event.Crash l) range hands = hands
names_there s n far may d page (event.Host l used word) range hands = hands
names_there s n far may d page e range hands = tt

pub names_anything : (d : Device) (page : List ℕ) (e : Event) → Names within_any d page e
names_anything d page (event.PageOut c p) = (tt, tt)
names_anything d page (event.PageIn c p) = (tt, tt)
names_anything d page (event.Finish c) = tt
names_anything d page (event.Map t l) = tt
names_anything d page (event.Connect l) = tt
names_anything d page (event.Give l) = tt
names_anything d page (event.Cut l a b) = tt
names_anything d page (event.Crash l) = tt
names_anything d page (event.Host l used word) = tt
names_anything d page e = tt

module _ {D F : Type 0} (disk_moves : D → (c : DiskCall) → DiskAnswer c → D → Type 0) (moves : F → (c : FabricCall) → FabricAnswer c → F → Type 0) where
  pub happens_comes :
      (d : Device) (k : D) (f : F) (page : List ℕ) (e : Event) → Leads disk_moves moves (happens d page e) k f (λ a _ _. ComesTo d page e a.0 a.1)
  happens_comes d k f page e =
      Leads-implies disk_moves moves (happens d page e) k f _ _ (λ a _ _ r. r.1.1)
      (Goes-leads (Move within_any) disk_moves moves (λ _ _ _. Unit {0}) (λ s asked t k k' f f' m went h. tt)
      (λ (a : Device × Seen) s. (s ≡ quiet_speaker a.0) × ComesTo d page e a.0 a.1) k f (happens_fares within_any d page e (names_anything d page e)) tt)

-- what requests leave, and the loss of a link keeps, holds once a device's links were used
pub linked_keep :
    (P : Device → Type 0) → ((e : Device) (r : Remote) (made : ℕ) → P e → P (record e { remote = r; links_made = made }))
    → ((e : Device) (l : Lender) → P e → P (lost_after e l)) → (d d' : Device) → Linked d d' → P d → P d'
linked_keep P same loses d d' as_was h = h
linked_keep P same loses d d' (sent_on {e = e} linked r made) h = same e r made (linked_keep P same loses d e linked h)
linked_keep P same loses d d' (let_go {e = e} linked l) h = loses e l (linked_keep P same loses d e linked h)
