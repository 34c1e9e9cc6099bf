-- What a call leaves to be sent: messages in their order, each with the link it goes to, and the slots told to go.
use Rattle.std.specs.Prelude.{◌≡◌, ℕ, ◌≤◌, if◌then◌else◌, List, [], ◌∷◌, drop, Option, None, Some}
use Rattle.swap_base.specs.declared.Link.{Link}
use Rattle.swap_wire.specs.declared.Msg.{Msg}
use Rattle.swap_wire.specs.Fabric.{Parcel, carries_page}
use Rattle.swap_lender.specs.declared.Lending.{Lending}

-- the messages with their pages, the set of slots that the last call told to go, how many messages it has room for, and
-- the length of a page
pub record OutboxView : Type 0 where
  pub parcels : List (Link × Parcel)
  pub evicted : ℕ
  pub room : ℕ
  pub page_bytes : ℕ

abbrev pub nothing_outgoing : ℕ → ℕ → OutboxView
nothing_outgoing slots page_bytes = record { parcels = []; evicted = 0; room = slots; page_bytes = page_bytes }

-- an outbox with these messages and slots in place of its own
abbrev pub outbox_with : OutboxView → List (Link × Parcel) → ℕ → OutboxView
outbox_with o parcels evicted = record o { parcels = parcels; evicted = evicted }

-- nothing is left in it, and it is made for a lender of these sizes
pub record IsReady (o : OutboxView) (s : Lending) : Type 0 where
  pub empty : o.parcels ≡ []
  pub slots : s.spec.slots ≤ o.room
  pub page : o.page_bytes ≡ s.page_bytes

-- the first message with its link
abbrev pub first_message : List (Link × Parcel) → Option (Link × Msg)
first_message [] = None
first_message (parcel ∷ parcels) = Some (parcel.0, parcel.1.msg)

-- its page where it carries one, else the buffer as it was
abbrev pub first_page : List (Link × Parcel) → List ℕ → List ℕ
first_page [] page = page
first_page (parcel ∷ parcels) page = if carries_page parcel.1.msg then parcel.1.page else page

-- the outbox without its first message
abbrev pub pop_after : OutboxView → OutboxView
pop_after o = record o { parcels = drop 1 o.parcels }
