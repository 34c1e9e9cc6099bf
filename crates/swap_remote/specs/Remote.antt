-- What a device keeps of its lenders: the pages that remote memory has, the state of each slab, and the links.
use Rattle.std.specs.Prelude.{ℕ, ◌+◌, ◌*◌, Bool, true, false, ◌&&◌, ◌==◌, not, if◌then◌else◌, List, [], ◌∷◌, Option, None, Some}
use Rattle.swap_base.specs.declared.Page.{Page}
use Rattle.swap_base.specs.declared.Slab.{Slab}
use Rattle.swap_base.specs.declared.Lender.{Lender}
use Rattle.swap_base.specs.declared.Lease.{Lease}
use Rattle.swap_base.specs.Sizes.{Sizes, pages_of, slab_of, place_of}
use Rattle.swap_bits.specs.Bits.{no_numbers, has, with_number, without_number, without_range}
use Rattle.swap_slabs.specs.Slabs as slabs
use Rattle.swap_slabs.specs.declared.Reply.TheVariants as reply
use Rattle.swap_slabs.specs.declared.SlabState.{SlabState}
use Rattle.swap_slabs.specs.declared.SlabState.TheVariants.{Local, Asking, Borrowing, Mapped, Draining}
use Rattle.swap_base.specs.declared.TheConstants.{MOST_LENDERS}
use Rattle.swap_rings.specs.Rings as rings
use Rattle.swap_rings.specs.Rings.{LinkState}
use Rattle.swap_rings.specs.declared.Request.{Request}
use Rattle.swap_rings.specs.declared.Request.TheVariants as request

-- a set bit says that the page can be read from its slab's lender
pub record Remote : Type 0 where
  pub bits : List Bool
  pub slabs : List SlabState
  pub links : List LinkState

-- with the sizes of the device
pub record RemoteView : Type 0 where
  pub sizes : Sizes
  pub remote : Remote

-- no link is up, no slab mapped, no bit set
abbrev pub remote_at_start : Sizes → Remote
remote_at_start s = record {
  bits = no_numbers (pages_of s);
  slabs = slabs.all_local s.slabs;
  links = rings.all_down
      MOST_LENDERS;
}

-- the slab of a page, and its state
abbrev pub slab_for : Sizes → Page → Slab
slab_for s page = record { 0 = slab_of s page.0 }

abbrev pub state_for : Sizes → List SlabState → Page → SlabState
state_for s states page = slabs.state_of states (slab_for s page)

-- where a page lies: the lender and the lease of its slab, while the slab is mapped
abbrev pub mapping : SlabState → Option (Lender × Lease)
mapping Local = None
mapping (Asking pair) = None
mapping (Borrowing lender) = None
mapping (Mapped lender lease flying) = Some (lender, lease)
mapping (Draining lender lease flying) = None

-- and where its link takes a request now
abbrev pub open_at : Sizes → List LinkState → Option (Lender × Lease) → Option (Lender × Lease)
open_at s links None = None
open_at s links (Some place) = if rings.may_send s.window (rings.link_of links place.0) then Some place else None

abbrev pub target : Sizes → Remote → Page → Option (Lender × Lease)
target s r page = open_at s r.links (mapping (state_for s r.slabs page))

-- the lenders from the n-th on whose link is up, of those that meet a test
abbrev pub up_from : (Lender → Bool) → List LinkState → ℕ → List ℕ
up_from test [] n = []
up_from test (link ∷ links) n =
    if link.up && test (record { 0 = n }) then n ∷ up_from test links (n + 1) else up_from test links (n + 1)

-- the lenders that may be asked for a slab: those that hold none, and the others
abbrev pub fresh_lenders : Remote → List ℕ
fresh_lenders r = up_from (λ l. not (slabs.holds r.slabs l)) r.links 0

abbrev pub other_lenders : Remote → List ℕ
other_lenders r = up_from (λ l. slabs.holds r.slabs l) r.links 0

-- remote memory can be read for this page
abbrev pub has_page : Remote → Page → Bool
has_page r page = has r.bits page.0

-- the message names the page: its slab has this lease of the lender, and the page this place
abbrev pub names_page : Sizes → Remote → Lender → Page → Lease → ℕ → Bool
names_page s r lender page lease place =
    slabs.has_lease lender lease (state_for s r.slabs page) && place_of s page.0 == place

-- a page was changed: remote memory can't be read for it
abbrev pub changed_after : Remote → Page → Remote
changed_after r page = record r { bits = without_number r.bits page.0 }

-- a request for a page was sent to the lender of its slab
abbrev pub sent_for : Sizes → Remote → Lender → Page → Request → Remote
sent_for s r lender page item =
    record r { slabs = slabs.begun_after r.slabs (slab_for s page); links = rings.sent_after r.links lender item }

-- a slab was asked for: of one lender, or of a second beside the first
abbrev pub query_sent : Remote → Slab → Option Lender → Lender → Remote
query_sent r slab None lender =
    record r {
      slabs = slabs.asked_after r.slabs slab lender None;
      links = rings.sent_after r.links lender
          (request.Query slab);
    }
query_sent r slab (Some first) lender =
    record r {
      slabs = slabs.asked_after r.slabs slab first (Some lender);
      links = rings.sent_after r.links lender
          (request.Query slab);
    }

-- a lender that was asked tells how many slots are free, or is gone
abbrev pub told_after : Remote → Lender → Slab → ℕ → Remote
told_after r lender slab free =
    record r {
      slabs = slabs.answered_after r.slabs slab lender (reply.Free free);
      links = rings.answered_after r.links
          lender;
    }

abbrev pub gone_after : Remote → Lender → Slab → Remote
gone_after r lender slab = record r { slabs = slabs.answered_after r.slabs slab lender reply.Gone }

-- a slab is borrowed, lent, or refused
abbrev pub borrow_sent : Remote → Slab → Lender → Remote
borrow_sent r slab lender =
    record r {
      slabs = slabs.borrowed_after r.slabs slab lender;
      links = rings.sent_after r.links lender
          (request.Borrow slab);
    }

abbrev pub lent_after : Remote → Lender → Slab → Lease → Remote
lent_after r lender slab lease = record r {
  slabs = slabs.lent_after r.slabs slab lease;
  links = rings.answered_after
      r.links lender;
}

abbrev pub refused_after : Remote → Lender → Slab → Remote
refused_after r lender slab = record r {
  slabs = slabs.refused_after r.slabs slab;
  links = rings.answered_after r.links
      lender;
}

-- the oldest request, one for this page, was answered
abbrev pub settled_for : Sizes → Remote → Lender → Page → Remote
settled_for s r lender page =
    record r { slabs = slabs.settled_after r.slabs (slab_for s page); links = rings.answered_after r.links lender }

-- and it was a write: remote memory can be read for the page where the slab is mapped and the page is as it was written
abbrev pub with_page_if : Bool → Remote → Page → Remote
with_page_if true r page = record r { bits = with_number r.bits page.0 }
with_page_if false r page = r

abbrev pub written_after : Sizes → Remote → Lender → Page → Bool → Remote
written_after s r lender page newest =
    with_page_if (newest && slabs.is_mapped (state_for s r.slabs page)) (settled_for s r lender page) page

-- the slab that is mapped at the lender with this lease
abbrev pub only_mapped : List SlabState → Option Slab → Option Slab
only_mapped states None = None
only_mapped states (Some slab) = if slabs.is_mapped (slabs.state_of states slab) then Some slab else None

abbrev pub mapped_by : List SlabState → Lender → Lease → Option Slab
mapped_by states lender lease = only_mapped states (slabs.by_lease states lender lease)

-- a mapped slab is taken back: no page of it can be read, and it drains
abbrev pub evicted_after : Sizes → Remote → Slab → Remote
evicted_after s r slab =
    record r {
      bits = without_range r.bits (slab.0 * s.pages_per_slab) (slab.0 * s.pages_per_slab + s.pages_per_slab);
      slabs = slabs.evicted_after r.slabs slab;
    }

-- the pages from n on that aren't at a lender
abbrev pub left_from : Sizes → List SlabState → Lender → List Bool → ℕ → List Bool
left_from s states lender [] n = []
left_from s states lender (bit ∷ bits) n =
    (bit && not (slabs.is_at lender (state_for s states (record { 0 = n })))) ∷ left_from s states lender bits (n + 1)

-- a link was lost: it is down, and the slabs at its lender are local with their bits cleared
abbrev pub lost_after : Sizes → Remote → Lender → Remote
lost_after s r lender =
    record {
      bits = left_from s r.slabs lender r.bits 0;
      slabs = slabs.lost_after r.slabs lender;
      links = rings.lost_after r.links lender;
    }

-- a link was made
abbrev pub raised_after : Remote → Lender → Remote
raised_after r lender = record r { links = rings.raised_after r.links lender }
