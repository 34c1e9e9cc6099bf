-- The outlets of a lender's links, by the numbers of the links, and the links whose last put failed and of which the
-- lender wasn't told yet, in the order in which they failed.
use Rattle.std.specs.Prelude.{◌≡◌, ℕ, ◌+◌, Bool, true, false, ◌&&◌, ◌==◌, nat_lt, if◌then◌else◌, List, [], ◌∷◌, ◌++◌, length, sum_by, slice_set, slice_index_or, replicate, Option, None, Some}
use Rattle.swap_base.specs.declared.Link.{Link}
use Rattle.swap_wire.specs.Fabric.{Parcel}
use Rattle.swap_node.specs.RepliesView.{RepliesView, Puts, frame_of}

pub record Board (K : Type 0) : Type 0 where
  pub lines : List (Option (RepliesView K))
  pub failed : List Link
  pub page_bytes : ℕ

-- the outlet of a link, if it has one
abbrev pub line_at : {K : Type 0} → Board K → Link → Option (RepliesView K)
line_at b link = slice_index_or b.lines link.0 None

abbrev pub with_line : {K : Type 0} → Board K → Link → Option (RepliesView K) → Board K
with_line b link o = record b { lines = slice_set b.lines link.0 o }

abbrev pub is_down : {K : Type 0} → Option (RepliesView K) → Bool
is_down None = false
is_down (Some o) = o.failed

-- an outlet fits a link whose number is one of those that there may be, and pages of the board's length
abbrev pub fits_line : {K : Type 0} → Board K → Link → RepliesView K → Bool
fits_line b link o = nat_lt link.0 (length b.lines) && (o.page_bytes == b.page_bytes)

-- one where a put may still fail
abbrev pub weight : {K : Type 0} → Option (RepliesView K) → ℕ
weight None = 0
weight (Some o) = if o.failed then 0 else 1

-- how many links there are of which the lender may still be told
abbrev pub count_unsettled : {K : Type 0} → Board K → ℕ
count_unsettled b = sum_by (λ o. weight o) b.lines + length b.failed

abbrev pub empty_board : {K : Type 0} → ℕ → ℕ → Board K
empty_board links page_bytes = record { lines = replicate links None; failed = []; page_bytes = page_bytes }

-- an outlet is made for these pages
abbrev pub IsFor : {K : Type 0} → ℕ → Option (RepliesView K) → Type 0
IsFor page_bytes None = Unit {0}
IsFor page_bytes (Some o) = o.page_bytes ≡ page_bytes

module _ {K : Type 0} (taken : K → Option (List ℕ)) (faults : K → ℕ) where
  -- a frame is put on an outlet; it is dropped where there is none or an earlier put on it failed
  pub record PutsOpen (before : RepliesView K) (bytes : List ℕ) (now : Option (RepliesView K)) (fails : Bool) : Type 0
    where
      pub next : RepliesView K
      pub is : now ≡ Some next
      pub fails_is : next.failed ≡ fails
      pub puts : Puts taken faults before bytes next

  abbrev pub PutsUnless : Bool → RepliesView K → List ℕ → Option (RepliesView K) → Bool → Type 0
  PutsUnless true before bytes now fails = (now ≡ Some before) × (fails ≡ false)
  PutsUnless false before bytes now fails = PutsOpen before bytes now fails

  abbrev pub PutsLine : Option (RepliesView K) → List ℕ → Option (RepliesView K) → Bool → Type 0
  PutsLine None bytes now fails = (now ≡ None) × (fails ≡ false)
  PutsLine (Some before) bytes now fails = PutsUnless before.failed before bytes now fails

  -- a frame for a link is put on its outlet
  pub record PutsAt (before : Board K) (link : Link) (bytes : List ℕ) (now : Board K) : Type 0 where
    pub line : Option (RepliesView K)
    pub fails : Bool
    pub puts : PutsLine (line_at before link) bytes line fails
    pub lines : now.lines ≡ slice_set before.lines link.0 line
    pub failed : now.failed ≡ (if fails then before.failed ++ link ∷ [] else before.failed)
    pub page_bytes : now.page_bytes ≡ before.page_bytes

  abbrev pub PutsWithin : Bool → Board K → Link → List ℕ → Board K → Type 0
  PutsWithin false before link bytes now = now ≡ before
  PutsWithin true before link bytes now = PutsAt before link bytes now

  abbrev pub PutsOn : Board K → Link → List ℕ → Board K → Type 0
  PutsOn before link bytes now = PutsWithin (nat_lt link.0 (length before.lines)) before link bytes now

  -- the frames of messages are put one after another, each on the outlet of its link
  abbrev pub PutsAll : Board K → List (Link × Parcel) → Board K → Type 0
  PutsAll before [] now = now ≡ before
  PutsAll before (p ∷ ps) now = (mid : Board K) × PutsOn before p.0 (frame_of p.1) mid × PutsAll mid ps now
