-- What a fabric of links is asked and answers, and what each call does to the pages that it keeps and owes.
use Rattle.std.specs.Prelude.{◌≡◌, ℕ, Bool, true, false, ◌&&◌, ◌==◌, List, [], length, if◌then◌else◌, Option}
use Rattle.swap_base.specs.declared.Lender.{Lender}
use Rattle.swap_base.specs.declared.Link.{Link}
use Rattle.swap_base.specs.declared.Lease.{Lease}
use Rattle.swap_base.specs.Sizes.{Sizes}
use Rattle.swap_wire.specs.declared.Msg.{Msg}
use Rattle.swap_wire.specs.declared.Msg.TheVariants as msg
use Rattle.swap_wire.specs.declared.fabric.Sent.{Sent}
use Rattle.swap_wire.specs.declared.fabric.Sent.TheVariants as sent
use Rattle.swap_wire.specs.declared.fabric.Took.{Took}
use Rattle.swap_wire.specs.declared.fabric.Took.TheVariants as took
use Rattle.swap_wire.specs.declared.fabric.Gave.{Gave}
use Rattle.swap_wire.specs.declared.fabric.Hosted.{Hosted}

-- a message with the page that goes with it; a message without one has none
pub record Parcel : Type 0 where
  pub msg : Msg
  pub page : List ℕ

-- whether a message carries a page
abbrev pub carries_page : Msg → Bool
carries_page (msg.Write lease place) = true
carries_page (msg.PageIs lease place) = true
carries_page _ = false

abbrev pub parcel_of : Msg → List ℕ → Parcel
parcel_of m page = record { msg = m; page = if carries_page m then page else [] }

-- a write of these bytes, and a read
abbrev pub write_parcel : Lease → ℕ → List ℕ → Parcel
write_parcel k i bytes = parcel_of (msg.Write k i) bytes

abbrev pub read_parcel : Lease → ℕ → Parcel
read_parcel k i = parcel_of (msg.Read k i) []

-- what a take hands over
pub data Handed : Type 0 where
  Brought : (parcel : Parcel) → Handed
  NothingCame : Handed
  LinkLost : Handed

-- from the answer and the buffer after the call
abbrev pub handed_of : Took → List ℕ → Handed
handed_of (took.Got m) page = Brought (parcel_of m page)
handed_of took.Nothing page = NothingCame
handed_of took.Lost page = LinkLost

-- what is asked of a fabric
pub data FabricCall : Type 0 where
  Connect : (lender : Lender) (link : Link) → FabricCall
  Send : (lender : Lender) (parcel : Parcel) → FabricCall
  Take : (lender : Lender) → FabricCall
  End : (lender : Lender) → FabricCall
  Give : (lender : Lender) → FabricCall
  Cut : (lender : Lender) (to_lender to_device : ℕ) → FabricCall
  Crash : (lender : Lender) → FabricCall
  Host : (lender : Lender) (used word : ℕ) → FabricCall

-- what it answers
abbrev pub FabricAnswer : FabricCall → Type 0
FabricAnswer (Connect lender link) = Unit {0}
FabricAnswer (Send lender parcel) = Sent
FabricAnswer (Take lender) = Handed
FabricAnswer (End lender) = Unit {0}
FabricAnswer (Give lender) = Gave
FabricAnswer (Cut lender to_lender to_device) = Bool
FabricAnswer (Crash lender) = Bool
FabricAnswer (Host lender used word) = Option Hosted

-- what a fabric is of: the sizes of its device, and how many lenders there are
pub record FabricOf : Type 0 where
  pub sizes : Sizes
  pub lenders : ℕ

-- a page that is taken has the length of a page
abbrev pub PageFits : ℕ → Handed → Type 0
PageFits page_bytes (Brought p) = carries_page p.msg ≡ true → length p.page ≡ page_bytes
PageFits page_bytes NothingCame = Unit {0}
PageFits page_bytes LinkLost = Unit {0}

abbrev pub TakenFits : ℕ → (c : FabricCall) → FabricAnswer c → Type 0
TakenFits page_bytes (Take lender) answer = PageFits page_bytes answer
TakenFits page_bytes _ answer = Unit {0}

abbrev pub same_lender : Lender → Lender → Bool
same_lender l m = l.0 == m.0

-- a message to the lender that ends what is kept at a place of a lease: the place is written anew, or the lease is done
abbrev pub replaces : Lease → ℕ → Msg → Bool
replaces k i (msg.Write lease place) = (lease.0 == k.0) && (place == i)
replaces k i (msg.Done lease) = lease.0 == k.0
replaces k i _ = false

-- a message to the device that lends this lease
abbrev pub lends : Lease → Msg → Bool
lends k (msg.Lent slab lease) = lease.0 == k.0
lends k _ = false

abbrev pub is_read : Msg → Bool
is_read (msg.Read lease place) = true
is_read _ = false

abbrev pub is_page : Msg → Bool
is_page (msg.PageIs lease place) = true
is_page _ = false

-- a send on this link that replaces what is kept, or finds the link down
abbrev pub send_ends_keeping : Lease → ℕ → Parcel → Sent → Bool
send_ends_keeping k i p sent.Sent = replaces k i p.msg
send_ends_keeping k i p sent.Down = true

-- a take on this link that brings the lease anew, or finds the link lost
abbrev pub take_ends_keeping : Lease → Handed → Bool
take_ends_keeping k (Brought p) = lends k p.msg
take_ends_keeping k NothingCame = false
take_ends_keeping k LinkLost = true

-- whether a call ends what a lender keeps at a place of a lease; no call for another lender does
abbrev pub ends_keeping : Lender → Lease → ℕ → (c : FabricCall) → FabricAnswer c → Bool
ends_keeping l k i (Connect lender link) answer = same_lender l lender
ends_keeping l k i (Send lender p) answer = same_lender l lender && send_ends_keeping k i p answer
ends_keeping l k i (Take lender) answer = same_lender l lender && take_ends_keeping k answer
ends_keeping l k i (End lender) answer = same_lender l lender
ends_keeping l k i (Give lender) answer = false
ends_keeping l k i (Cut lender to_lender to_device) answer = false
ends_keeping l k i (Crash lender) answer = false
ends_keeping l k i (Host lender used word) answer = false

-- a send on this link that asks for one page more, or finds the link down
abbrev pub send_changes_owing : Parcel → Sent → Bool
send_changes_owing p sent.Sent = is_read p.msg
send_changes_owing p sent.Down = true

-- a take on this link that brings a page, or finds the link lost
abbrev pub take_changes_owing : Handed → Bool
take_changes_owing (Brought p) = is_page p.msg
take_changes_owing NothingCame = false
take_changes_owing LinkLost = true

-- whether a call changes what a lender's link owes; no call for another lender does
abbrev pub changes_owing : Lender → (c : FabricCall) → FabricAnswer c → Bool
changes_owing l (Connect lender link) answer = same_lender l lender
changes_owing l (Send lender p) answer = same_lender l lender && send_changes_owing p answer
changes_owing l (Take lender) answer = same_lender l lender && take_changes_owing answer
changes_owing l (End lender) answer = same_lender l lender
changes_owing l (Give lender) answer = false
changes_owing l (Cut lender to_lender to_device) answer = false
changes_owing l (Crash lender) answer = false
changes_owing l (Host lender used word) answer = false
