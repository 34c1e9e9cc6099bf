-- What a reply and a request under way say of the device, as the device moves.
use Rattle.std.proofs.Common.{◌≡◌, ℕ, true, List, [], ◌∷◌, sym, ap, ◌∙◌, Option, None, Some}
use Rattle.std.specs.List.{AllByRecursion}
use Rattle.swap_base.specs.declared.Page.{Page}
use Rattle.swap_base.specs.declared.Slab.{Slab}
use Rattle.swap_base.specs.declared.Caller.{Caller}
use Rattle.swap_base.specs.declared.Lender.{Lender}
use Rattle.swap_base.specs.declared.Lease.{Lease}
use Rattle.swap_base.specs.declared.EntryNo.{EntryNo}
use Rattle.swap_base.specs.Sizes.{Sizes, place_of}
use Rattle.swap_record.specs.History.{History}
use Rattle.swap_wire.specs.Fabric.{Parcel, write_parcel}
use Rattle.swap_calls.specs.Calls as calls
use Rattle.swap_calls.specs.Calls.{Calls}
use Rattle.swap_slabs.specs.Slabs.{has_lease, state_of}
use Rattle.swap_slabs.specs.declared.SlabState.{SlabState}
use Rattle.swap_rings.specs.declared.Request.{Request}
use Rattle.swap_rings.specs.declared.Request.TheVariants.{Query, Borrow, Write, Read}
use Rattle.swap_remote.specs.Remote.{slab_for, state_for}
use Rattle.swap_table.specs.Device.{write_reply, read_reply}
use Rattle.swap_link.specs.Lane.{Lane}
use Rattle.swap_link.specs.Channel.{Channel}
use Rattle.swap_link.specs.lemmas.KeepLaws.{unless-map}
use Rattle.swap_joint.specs.Order.{Names, Answers, Carries}
use Rattle.swap_joint.specs.Brought.{kept_entry, Brings, HoldsFor, Replied, Asked}
use Rattle.swap_joint.specs.Sight.{FewerLeases, KeepsLease, StaysLeased, KeepsEntries, StillReads}
use Rattle.swap_joint.proofs.Orders.{Ordered, order_map, all_served, all_under_way}
use Rattle.swap_base.proofs.Lists.{both}

-- an order of a link's own facts
abbrev pub OrderedAt : Sizes → History → Calls → List SlabState → List Request → Lender → Channel → Lane → Lane → List Request → List Request → Type 0
OrderedAt s H cs states ring l c a b S U = Ordered (Replied s H cs states l) (Asked s H cs states l c) ring a b S U

names_seen :
    (s : Sizes) (states states' : List SlabState) (l : Lender) (p : Page) (at : Option (Lease × ℕ)) → KeepsLease s l states states' p → Names s states l p at
    → Names s states' l p at
names_seen s states states' l p None leases h = absurd h
names_seen s states states' l p (Some at) leases h = (leases at.0 h.0, h.1)

pub answers_seen :
    (s : Sizes) (states states' : List SlabState) (l : Lender) (q : Parcel) (x : Request) → StaysLeased s l states states' x → Answers s states l q x
    → Answers s states' l q x
answers_seen s states states' l q (Query t) leases h = h
answers_seen s states states' l q (Borrow t) leases h = h
answers_seen s states states' l q (Write p e) leases h = names_seen s states states' l p (write_reply q.msg) leases h
answers_seen s states states' l q (Read c p) leases h = names_seen s states states' l p (read_reply q.msg) leases h

pub carries_seen :
    (s : Sizes) (H H' : History) (states states' : List SlabState) (l : Lender) (q : Parcel) (x : Request) → StaysLeased s l states states' x
    → KeepsEntries H H'
    → Carries s H states l q x → Carries s H' states' l q x
carries_seen s H H' states states' l q (Query t) leases entries h = h
carries_seen s H H' states states' l q (Borrow t) leases entries h = h
carries_seen s H H' states states' l q (Write p e) leases entries h =
    let now = entries p e h.3 in (h.0, h.1 ∙ ap (λ bytes. write_parcel h.0 (place_of s p.0) bytes) (sym now.1), leases h.0 h.2, now.0)
carries_seen s H H' states states' l q (Read c p) leases entries h = (h.0, h.1, leases h.0 h.2)

brings_seen : (H H' : History) (cs cs' : Calls) (q : Parcel) (x : Request) → KeepsEntries H H' → StillReads cs cs' x → Brings H cs q x → Brings H' cs' q x
brings_seen H H' cs cs' q (Query t) entries still h = tt
brings_seen H H' cs cs' q (Borrow t) entries still h = tt
brings_seen H H' cs cs' q (Write p e) entries still h = tt
brings_seen H H' cs cs' q (Read a p) entries still h = λ e is. let was = h e (still e is) in let now = entries p e was.0 in (now.0, was.1 ∙ sym now.1)

-- a read's page has no lease that it hadn't
abbrev pub NoNewLease : Sizes → List SlabState → List SlabState → Lender → Request → Type 0
NoNewLease s states states' l (Query t) = Unit {0}
NoNewLease s states states' l (Borrow t) = Unit {0}
NoNewLease s states states' l (Write p e) = Unit {0}
NoNewLease s states states' l (Read a p) = (k : Lease) → has_lease l k (state_for s states' p) ≡ true → has_lease l k (state_for s states p) ≡ true

pub fewer_new :
    (s : Sizes) (states states' : List SlabState) (l : Lender) (xs : List Request) → FewerLeases l states states'
    → AllByRecursion (NoNewLease s states states' l) xs
fewer_new s states states' l [] fewer = tt
fewer_new s states states' l (Query t ∷ xs) fewer = (tt, fewer_new s states states' l xs fewer)
fewer_new s states states' l (Borrow t ∷ xs) fewer = (tt, fewer_new s states states' l xs fewer)
fewer_new s states states' l (Write p e ∷ xs) fewer = (tt, fewer_new s states states' l xs fewer)
fewer_new s states states' l (Read a p ∷ xs) fewer = ((λ k at. fewer (slab_for s p) k at), fewer_new s states states' l xs fewer)

-- a request's slab keeps its lease where each slab does
pub leased_all :
    (s : Sizes) (l : Lender) (states states' : List SlabState) (xs : List Request)
    → ((t : Slab) (k : Lease) → has_lease l k (state_of states t) ≡ true → has_lease l k (state_of states' t) ≡ true)
    → AllByRecursion (StaysLeased s l states states') xs
leased_all s l states states' [] each = tt
leased_all s l states states' (Query t ∷ xs) each = (tt, leased_all s l states states' xs each)
leased_all s l states states' (Borrow t ∷ xs) each = (tt, leased_all s l states states' xs each)
leased_all s l states states' (Write p e ∷ xs) each = ((λ k at. each (slab_for s p) k at), leased_all s l states states' xs each)
leased_all s l states states' (Read a p ∷ xs) each = ((λ k at. each (slab_for s p) k at), leased_all s l states states' xs each)

pub still_all :
    (cs cs' : Calls) (xs : List Request) → ((a : Caller) (e : EntryNo) → kept_entry (calls.state_of cs' a) ≡ Some e → kept_entry (calls.state_of cs a) ≡ Some e)
    → AllByRecursion (StillReads cs cs') xs
still_all cs cs' [] each = tt
still_all cs cs' (Query t ∷ xs) each = (tt, still_all cs cs' xs each)
still_all cs cs' (Borrow t ∷ xs) each = (tt, still_all cs cs' xs each)
still_all cs cs' (Write p e ∷ xs) each = (tt, still_all cs cs' xs each)
still_all cs cs' (Read a p ∷ xs) each = (each a, still_all cs cs' xs each)

holds_seen :
    (s : Sizes) (H H' : History) (cs cs' : Calls) (states states' : List SlabState) (l : Lender) (c : Channel) (x : Request) → KeepsEntries H H'
    → StillReads cs cs' x → NoNewLease s states states' l x → HoldsFor s H cs states l c x → HoldsFor s H' cs' states' l c x
holds_seen s H H' cs cs' states states' l c (Query t) entries still none h = tt
holds_seen s H H' cs cs' states states' l c (Borrow t) entries still none h = tt
holds_seen s H H' cs cs' states states' l c (Write p e) entries still none h = tt
holds_seen s H H' cs cs' states states' l c (Read a p) entries still none h =
    λ k e at is. let was = h k e (none k at) (still e is) in let now = entries p e was.0 in (now.0, was.1 ∙ ap (λ b. Some b) (sym now.1))

-- the device moves
pub order_seen :
    (s : Sizes) (H H' : History) (cs cs' : Calls) (states states' : List SlabState) (ring : List Request) (l : Lender) (c : Channel) (a b : Lane)
    (S U : List Request)
    → AllByRecursion (StaysLeased s l states states') ring → KeepsEntries H H' → AllByRecursion (StillReads cs cs') ring
    → AllByRecursion (NoNewLease s states states' l) ring → OrderedAt s H cs states ring l c a b S U → OrderedAt s H' cs' states' ring l c a b S U
order_seen s H H' cs cs' states states' ring l c a b S U leases entries still none h =
    let R : Parcel → Request → Type 0 = Replied s H cs states l in
    let C : Parcel → Request → Type 0 = Asked s H cs states l c in
    let P : Request → Type 0 = λ x. StillReads cs cs' x × StaysLeased s l states states' x in
    let Q : Request → Type 0 = λ x. P x × NoNewLease s states states' l x in
    let fit : AllByRecursion P ring = both (StillReads cs cs') (StaysLeased s l states states') ring still leases in
    order_map R C (Replied s H' cs' states' l) (Asked s H' cs' states' l c) P Q ring a b S U
    (λ q x one k. (answers_seen s states states' l q x one.1 k.0, brings_seen H H' cs cs' q x entries one.0 k.1))
    (λ q x one k. (
      carries_seen s H H' states states' l q x one.0.1 entries k.0,
      unless-map c.lender_gone _ _ (holds_seen s H H' cs cs' states states' l c x entries one.0.0 one.1) k.1,
    ))
    h (all_served R C P ring a b S U h fit) (all_under_way R C Q ring a b S U h (both P (NoNewLease s states states' l) ring fit none))
