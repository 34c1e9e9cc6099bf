-- Calls of the lenders in memory with their answers, and what they hand on over the link to a lender.
use Rattle.std.specs.Prelude.{ℕ, Bool, false, ◌==◌, if◌then◌else◌, List, [], ◌∷◌, ◌++◌}
use Rattle.swap_base.specs.declared.Lender.{Lender}
use Rattle.swap_base.specs.declared.Link.{Link}
use Rattle.swap_wire.specs.declared.fabric.Sent.{Sent}
use Rattle.swap_wire.specs.declared.fabric.Sent.TheVariants as sent_is
use Rattle.swap_wire.specs.declared.fabric.Gave.{Gave}
use Rattle.swap_wire.specs.declared.fabric.Gave.TheVariants as gave_is
use Rattle.swap_wire.specs.Fabric.{Parcel, parcel_of, same_lender, Handed, Brought, NothingCame, LinkLost, FabricCall, Connect, Send, Take, Give, Host, FabricAnswer}
use Rattle.swap_lender.specs.Table.{took_after, host}
use Rattle.swap_link.specs.Channel.{Channel}
use Rattle.swap_link.specs.Harbor.{Harbor, channel_of, lender_of, ask}

-- a call with its answer, and the lenders before it
pub record Made : Type 0 where
  pub before : Harbor
  pub call : FabricCall
  pub answer : FabricAnswer call

-- calls made one after another, and the lenders after them
abbrev pub calls_made : Harbor → List FabricCall → List Made
calls_made h [] = []
calls_made h (c ∷ cs) = record { before = h; call = c; answer = (ask h c).0 } ∷ calls_made (ask h c).1 cs

abbrev pub lenders_after : Harbor → List FabricCall → Harbor
lenders_after h [] = h
lenders_after h (c ∷ cs) = lenders_after (ask h c).1 cs

-- whether a call connects a lender
abbrev pub connects : Lender → FabricCall → Bool
connects l (Connect lender link) = same_lender l lender
connects l _ = false

-- what the device was told Sent for by a call
abbrev pub sent_as : Parcel → Sent → List Parcel
sent_as p sent_is.Sent = p ∷ []
sent_as p sent_is.Down = []

abbrev pub told_by : Channel → (c : FabricCall) → FabricAnswer c → List Parcel
told_by ch (Send lender p) answer = sent_as p answer
told_by ch _ answer = []

-- what the device took by one
abbrev pub taken_as : Handed → List Parcel
taken_as (Brought p) = p ∷ []
taken_as NothingCame = []
taken_as LinkLost = []

abbrev pub taken_by : Channel → (c : FabricCall) → FabricAnswer c → List Parcel
taken_by ch (Take lender) answer = taken_as answer
taken_by ch _ answer = []

-- what the lender took by one, to serve it or to end the link by it: the message that give answers, with the page of
-- the first one under way
abbrev pub first_page : List Parcel → List ℕ
first_page [] = []
first_page (p ∷ ps) = p.page

abbrev pub served_as : List ℕ → Gave → List Parcel
served_as page (gave_is.Got m reply evicted) = record { msg = m; page = page } ∷ []
served_as page (gave_is.Ended m) = record { msg = m; page = page } ∷ []
served_as page gave_is.End = []
served_as page gave_is.Nothing = []

abbrev pub served_by : Channel → (c : FabricCall) → FabricAnswer c → List Parcel
served_by ch (Give lender) answer = served_as (first_page ch.to_lender.parcels) answer
served_by ch _ answer = []

-- of what a lender sends, the messages for the link of this number
abbrev pub on_link : Link → List (Link × Parcel) → List Parcel
on_link n [] = []
on_link n (p ∷ ps) = (if p.0.0 == n.0 then parcel_of p.1.msg p.1.page ∷ [] else []) ++ on_link n ps

-- what the lender sent on its link by a call: its replies, and what its table says that it asks or tells beside them
abbrev pub answered_as : Channel → List ℕ → Gave → List Parcel
answered_as ch page (gave_is.Got m reply evicted) = on_link ch.number (took_after ch.lender ch.number m page).parcels
answered_as ch page _ = []

abbrev pub answered_by : Channel → (c : FabricCall) → FabricAnswer c → List Parcel
answered_by ch (Give lender) answer = answered_as ch (first_page ch.to_lender.parcels) answer
answered_by ch (Host lender used word) answer = on_link ch.number (host ch.lender used word).parcels
answered_by ch _ answer = []

-- by each of the calls that are for a lender, in their order
abbrev pub gather_parcels : (Channel → (c : FabricCall) → FabricAnswer c → List Parcel) → Lender → List Made
    → List Parcel
gather_parcels by l [] = []
gather_parcels by l (m ∷ ms) =
    (if same_lender l (lender_of m.call) then by (channel_of m.before l) m.call m.answer else [])
    ++ gather_parcels by l ms

-- what the device was told Sent for, and what the lender took
abbrev pub told_sent : Lender → List Made → List Parcel
told_sent l ms = gather_parcels told_by l ms

abbrev pub lender_took : Lender → List Made → List Parcel
lender_took l ms = gather_parcels served_by l ms

-- what the lender sent, and what the device took
abbrev pub lender_sent : Lender → List Made → List Parcel
lender_sent l ms = gather_parcels answered_by l ms

abbrev pub device_took : Lender → List Made → List Parcel
device_took l ms = gather_parcels taken_by l ms
