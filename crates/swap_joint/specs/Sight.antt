-- What a link sees of the device, and what leaves it as it is.
use Rattle.std.specs.Prelude.{◌≡◌, true, List, Some}
use Rattle.std.specs.List.{AllByRecursion}
use Rattle.swap_base.specs.declared.Page.{Page}
use Rattle.swap_base.specs.declared.Slab.{Slab}
use Rattle.swap_base.specs.declared.Lender.{Lender}
use Rattle.swap_base.specs.declared.Lease.{Lease}
use Rattle.swap_base.specs.declared.EntryNo.{EntryNo}
use Rattle.swap_base.specs.Sizes.{Sizes, zeros}
use Rattle.swap_record.specs.History.{History, array}
use Rattle.swap_slabs.specs.Slabs.{has_lease, state_of}
use Rattle.swap_slabs.specs.declared.SlabState.{SlabState}
use Rattle.swap_rings.specs.Rings.{ring_of, is_up}
use Rattle.swap_remote.specs.Remote.{state_for, has_page}
use Rattle.swap_table.specs.Device.{Device}
use Rattle.swap_table.specs.Serves.{IsOut, bytes_of}
use Rattle.swap_calls.specs.Calls as calls_of
use Rattle.swap_calls.specs.Calls.{Calls}
use Rattle.swap_rings.specs.declared.Request.{Request}
use Rattle.swap_rings.specs.declared.Request.TheVariants.{Query, Borrow, Write, Read}
use Rattle.swap_joint.specs.Brought.{kept_entry}

-- each slab has the leases of the lender that it had, or none but those
abbrev pub SameLeases : Lender → List SlabState → List SlabState → Type 0
SameLeases l states states' =
    (t : Slab) (k : Lease) → has_lease l k (state_of states' t) ≡ has_lease l k (state_of states t)

abbrev pub FewerLeases : Lender → List SlabState → List SlabState → Type 0
FewerLeases l states states' =
    (t : Slab) (k : Lease) → has_lease l k (state_of states' t) ≡ true → has_lease l k (state_of states t) ≡ true

-- the slab of a request's page keeps its lease
abbrev pub KeepsLease : Sizes → Lender → List SlabState → List SlabState → Page → Type 0
KeepsLease s l states states' p =
    (k : Lease) → has_lease l k (state_for s states p) ≡ true → has_lease l k (state_for s states' p) ≡ true

abbrev pub StaysLeased : Sizes → Lender → List SlabState → List SlabState → Request → Type 0
StaysLeased s l states states' (Query t) = Unit {0}
StaysLeased s l states states' (Borrow t) = Unit {0}
StaysLeased s l states states' (Write p e) = KeepsLease s l states states' p
StaysLeased s l states states' (Read a p) = KeepsLease s l states states' p

-- page-outs stay page-outs, with their bytes
abbrev pub KeepsEntries : History → History → Type 0
KeepsEntries H H' = (p : Page) (e : EntryNo) → IsOut H p e → IsOut H' p e × (bytes_of H' e ≡ bytes_of H e)

-- a page at the lender whose bit is set had it set, and has the content that it had
abbrev pub KeepsBits : Lender → Device → Device → Type 0
KeepsBits l d d' =
    (p : Page) (k : Lease) → has_lease l k (state_for d.sizes d.remote.slabs p) ≡ true → has_page d'.remote p ≡ true
    → (has_page d.remote p ≡ true) × (array (zeros d.sizes) d'.history p ≡ array (zeros d.sizes) d.history p)

-- a call that reads keeps its entry, or reads no more
abbrev pub StillReads : Calls → Calls → Request → Type 0
StillReads calls calls' (Query t) = Unit {0}
StillReads calls calls' (Borrow t) = Unit {0}
StillReads calls calls' (Write p e) = Unit {0}
StillReads calls calls' (Read a p) =
    (e : EntryNo) → kept_entry (calls_of.state_of calls' a) ≡ Some e → kept_entry (calls_of.state_of calls a) ≡ Some e

-- what the lender has stays what the device has of it: a lease may go where no request under way is for its slab
pub record SeesSame (l : Lender) (d d' : Device) : Type 0 where
  pub sizes : d'.sizes ≡ d.sizes
  pub fewer : FewerLeases l d.remote.slabs d'.remote.slabs
  pub leased : AllByRecursion (StaysLeased d.sizes l d.remote.slabs d'.remote.slabs) (ring_of d.remote.links l)
  pub entries : KeepsEntries d.history d'.history
  pub bits : KeepsBits l d d'
  pub ring : ring_of d'.remote.links l ≡ ring_of d.remote.links l
  pub up : is_up d'.remote.links l ≡ is_up d.remote.links l
  pub calls : AllByRecursion (StillReads d.calls d'.calls) (ring_of d.remote.links l)
