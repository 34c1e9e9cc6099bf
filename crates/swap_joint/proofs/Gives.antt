-- What may be sent stays so as a lender serves the first message under way to it.
use Rattle.std.proofs.Common.{◌≡◌, ℕ, ◌+◌, ◌⊎◌, inl, inr, Bool, true, false, cond, ◌==◌, ◌||◌, List, [], ◌∷◌, ◌++◌, length, set, refl, sym, ap, ◌∙◌, subst, eq-eqb, append-nil, Option, None, Some}
use Rattle.std.specs.Prelude.{option_map, is_none}
use Rattle.std.specs.List.{list_any, filter, AllByRecursion}
use Rattle.std.proofs.lemmas.Bool.{cond_both, cond-true, both_ways, false_from_ne_true, cases_lt, eqb-true, and_from, and_parts}
use Rattle.std.proofs.lemmas.List.Sums.{passes_at_first}
use Rattle.std.proofs.lemmas.List.{get_or_past}
use Rattle.swap_base.specs.declared.Slab.{Slab}
use Rattle.swap_base.specs.declared.Link.{Link}
use Rattle.swap_base.specs.declared.Lender.{Lender as LenderNo}
use Rattle.swap_base.specs.declared.Lease.{Lease}
use Rattle.swap_base.specs.Sizes.{Sizes}
use Rattle.swap_wire.specs.declared.Msg.{Msg}
use Rattle.swap_wire.specs.declared.Msg.TheVariants as msg
use Rattle.swap_wire.specs.declared.fabric.Gave.{Gave}
use Rattle.swap_wire.specs.Fabric.{Parcel, parcel_of}
use Rattle.swap_evict.specs.Rounds.{Round, answer}
use Rattle.swap_slabs.specs.Slabs.{has_lease, state_of}
use Rattle.swap_slabs.specs.declared.SlabState.{SlabState}
use Rattle.swap_slabs.specs.declared.SlabState.TheVariants.{Draining}
use Rattle.swap_record.specs.History.{History}
use Rattle.swap_base.specs.Sizes.{place_of}
use Rattle.swap_table.specs.Device.{Device, query_reply, borrow_reply, write_reply, read_reply}
use Rattle.swap_table.specs.Serves.{AreInOrder, MayPrecede}
use Rattle.swap_rings.specs.Rings.{ring_of}
use Rattle.swap_rings.specs.declared.Request.{Request}
use Rattle.swap_rings.specs.declared.Request.TheVariants as request
use Rattle.swap_lender.specs.declared.SlotState.{SlotState}
use Rattle.swap_lender.specs.declared.SlotState.TheVariants.{Free, Held}
use Rattle.swap_lender.specs.Lender.{Lender, slot_in, slot_of, has_greeted, first_where, is_free, lends, slots_free, page_in, with_page, blank_slab}
use Rattle.swap_lender.specs.Table.{Turn, serve, hello, lend, slots_due, may_send, opens, asked_slots, to_evict, measure_after, host}
use Rattle.swap_lender.specs.Calls.{tenant}
use Rattle.swap_link.specs.Fits.{IsSound}
use Rattle.swap_link.specs.Lane.{Lane}
use Rattle.swap_link.specs.Channel.{Channel, forward_after, deliver_after, give_after, given_from}
use Rattle.swap_link.specs.lemmas.KeepLaws.{took-served, unless, unless-at}
use Rattle.swap_joint.specs.Seats.{is_done}
use Rattle.swap_joint.specs.Stored.{gives_back, Joined}
use Rattle.swap_joint.specs.Order.{is_request, is_reply, asks_by, replies_by, IsRoomFor, IsReplyFor, Names, Answers, Carries}
use Rattle.swap_joint.specs.Brought.{Replied, Asked}
use Rattle.swap_joint.specs.Pairs.{Pairwise}
use Rattle.swap_joint.specs.Lenders.{IsReached}
use Rattle.swap_joint.specs.Turn.{AsksUntold, Lodges}
use Rattle.swap_joint.specs.Allowed.{is_hello, is_rate, borrows_in, refuses_in, is_borrow, is_refusal, Waits, IsToLender, Allows, Allowed}
use Rattle.swap_joint.specs.Left.{borrows}
use Rattle.swap_joint.proofs.Serving.{HeldOf, slot_found}
use Rattle.swap_joint.proofs.Pairs.{filter-first, pairs-first, all-back}
use Rattle.swap_joint.proofs.Lenders.{are_owned, untold_answer}
use Rattle.swap_joint.proofs.Notices.{asks_stay, posted_own}
use Rattle.swap_joint.proofs.Served.{allows_reply, allows_popped, allows_table, allows_greeted}
use Rattle.swap_joint.proofs.Granted.{allows_done, allows_rate, allows_settled, allows_granted, allows_opened, asked_low}
use Rattle.swap_base.proofs.Bools.{or_left, or_parts, or_none}
use Rattle.swap_joint.proofs.Serves.{ordered_back}
use Rattle.swap_joint.proofs.Turned.{stands_so}

-- a slot of which no test holds is free
pub lowest_free : (slots : List SlotState) → slot_in slots (first_where is_free slots) ≡ Free
lowest_free slots = elim (cases_lt (first_where is_free slots) (length slots)) [
  | inl within ↦ free_is _ (passes_at_first is_free slots Free within)
  | inr past ↦ get_or_past slots (first_where is_free slots) Free past
]
  where
    free_is : (x : SlotState) → is_free x ≡ true → x ≡ Free
    free_is Free e = refl
    free_is (Held n t k e) is = cc

-- what a served message wants of the device
pub record Wants (states : List SlabState) (ring : List Request) (l : LenderNo) (table : Lender) (n : Link) (come : List Parcel) (ended : Bool) (q : Parcel)
    (ps : List Parcel) : Type 0 where
  pub hello : has_greeted (hello table n).lender n ≡ true
  pub borrow :
      (t : Slab) → q.msg ≡ msg.Borrow t
      → ((borrows_in t ring ≡ true) ⊎ (ended ≡ true)) × (refuses_in t come ≡ false) × (list_any (λ (p : Parcel). borrows t p.msg) ps ≡ false)
  pub done : (j : Lease) → q.msg ≡ msg.Done j → (u : Slab) → has_lease l j (state_of states u) ≡ false

pub draining_leased : (l : LenderNo) (j : Lease) (x : SlabState) (f : ℕ) → x ≡ Draining l j f → has_lease l j x ≡ true
draining_leased l j x f is = ap (has_lease l j) is ∙ and_from (l.0 == l.0) (j.0 == j.0) (eq-eqb l.0 l.0 refl) (eq-eqb j.0 j.0 refl)

module _ (s : Sizes) (states : List SlabState) (ring : List Request) (l : LenderNo) (table : Lender) (n : Link) (b : Lane) (ended : Bool) (q : Parcel)
    (ps : List Parcel) (sound : IsSound table) (held : HeldOf table n) (untold : AsksUntold table.round table.slots)
    (wants : Wants states ring l table n b.parcels ended q ps) (h : Allows s states ring l table n b.parcels ended (q ∷ ps)) where
  pub serve_by :
      (m : Msg) (page : List ℕ) → q.msg ≡ m
      → Allows s states ring l (serve table n m page).lender n (forward_after n b (serve table n m page).parcels).parcels ended ps
  serve_by (msg.Hello version page_bytes pages_per_slab) page is =
      allows_greeted s states ring l table n b.parcels ended q ps (ap is_hello is) (λ k. ap (is_done k) is) wants.hello h
  serve_by (msg.Query t) page is =
      let r : Parcel = parcel_of (msg.Room t (slots_free table)) [] in
      subst (λ (z : Lane). Allows s states ring l table n z.parcels ended ps) (sym (posted_own n b r))
      (allows_reply s states ring l table n b r ended ps ((λ k. refl), (λ k. refl), (λ u i m k e refused _. both_ways false refl refused))
      (allows_popped s states ring l table n b.parcels ended q ps (λ k. ap (is_done k) is) (ap is_hello is) h))
  serve_by (msg.Borrow t) page is =
      let popped = allows_popped s states ring l table n b.parcels ended q ps (λ k. ap (is_done k) is) (ap is_hello is) h in
      let want = wants.borrow t is in
      cond_both (lends table) _ _ (λ (x : Turn). Allows s states ring l x.lender n (forward_after n b x.parcels).parcels ended ps)
      (λ _. let r : Parcel = parcel_of (msg.Lent t (record { 0 = table.next_lease })) [] in
      let now =
      allows_granted s states ring l table n b.parcels ended ps (first_where is_free table.slots) n t (record { 0 = table.next_lease })
      (set table.contents (first_where is_free table.slots) (blank_slab table.lending)) (table.next_lease + 1)
      (lowest_free table.slots) want.0 want.1 want.2 popped in
      subst (λ (z : Lane). Allows s states ring l (lend table n t (first_where is_free table.slots)).lender n z.parcels ended ps) (sym (posted_own n b r))
      (allows_reply s states ring l (lend table n t (first_where is_free table.slots)).lender n b r ended ps
      ((λ k. refl), (λ k. refl), (λ u i m k e refused _. both_ways false refl refused)) now))
      (λ _. let r : Parcel = parcel_of (msg.Refused t) [] in
      subst (λ (z : Lane). Allows s states ring l table n z.parcels ended ps) (sym (posted_own n b r))
      (allows_reply s states ring l table n b r ended ps (
        (λ k. refl),
        (λ k. refl),
        (λ u i m k e refused slot. h.free.0 u i m k e (is ∙ ap (λ (x : ℕ). msg.Borrow (record { 0 = x })) (eqb-true t.0 u.0 refused)) slot),
      )
      popped))
  serve_by (msg.Write j i) page is =
      let r : Parcel = parcel_of (msg.Wrote j i) [] in
      let after : Lender = record table { contents = with_page table.contents (slot_of table n j) i page } in
      subst (λ (z : Lane). Allows s states ring l after n z.parcels ended ps) (sym (posted_own n b r))
      (allows_reply s states ring l after n b r ended ps ((λ k. refl), (λ k. refl), (λ u x m k e refused _. both_ways false refl refused))
      (allows_table s states ring l table (record table { contents = with_page table.contents (slot_of table n j) i page }) n b.parcels ended ps refl refl refl
      (allows_popped s states ring l table n b.parcels ended q ps (λ k. ap (is_done k) is) (ap is_hello is) h)))
  serve_by (msg.Read j i) page is =
      let r : Parcel = parcel_of (msg.PageIs j i) (page_in table.contents (slot_of table n j) i) in
      subst (λ (z : Lane). Allows s states ring l table n z.parcels ended ps) (sym (posted_own n b r))
      (allows_reply s states ring l table n b r ended ps ((λ k. refl), (λ k. refl), (λ u x m k e refused _. both_ways false refl refused))
      (allows_popped s states ring l table n b.parcels ended q ps (λ k. ap (is_done k) is) (ap is_hello is) h))
  serve_by (msg.Rates j v) page is =
      let w : Waits table j = h.rates j (or_left (is_rate j q.msg) _ (ap (is_rate j) is ∙ eq-eqb j.0 j.0 refl)) in
      let at = slot_found table n j w.at w.link w.slab false sound w.held (held w.at w.link w.slab j false w.held) in
      let noted : Allows s states ring l (record table { round = option_map (answer (slot_of table n j) v) table.round }) n b.parcels ended ps =
      subst (λ i. Allows s states ring l (record table { round = option_map (answer i v) table.round }) n b.parcels ended ps) (sym at.is)
      (allows_rate s states ring l table n b.parcels ended sound q ps j v w is h)
      in
      allows_settled s states ring l (record table { round = option_map (answer (slot_of table n j) v) table.round }) n b ended ps
      (sound_round (option_map (answer (slot_of table n j) v) table.round)) (slots_due (option_map (answer (slot_of table n j) v) table.round)) refl
      (untold_answer table.round (slot_of table n j) v table.slots untold) noted
    where
      sound_round : (o : Option Round) → IsSound (record table { round = o })
      sound_round o = record { given = sound.given; differ = sound.differ; slots = sound.slots; places = sound.places }
  serve_by (msg.Done j) page is =
      let x = h.done j (or_left (is_done j q.msg) _ (ap (is_done j) is ∙ eq-eqb j.0 j.0 refl)) in
      let at = slot_found table n j x.0 x.1 x.2 true sound x.3 (held x.0 x.1 x.2 j true x.3) in
      subst (λ i. Allows s states ring l (record table { slots = set table.slots i Free }) n b.parcels ended ps) (sym at.is)
      (allows_done s states ring l table n b.parcels ended sound q ps j x.0 x.1 x.2 is x.3 (wants.done j is)
      (λ u f e. draining_leased l j (state_of states u) f e) h)
  serve_by _ page is = absurd (let wrong : ⊥ = subst IsToLender is h.kinds.0 in wrong)

-- what the ring says of borrows

pub any_back : {X : Type 0} (p : X → Bool) (xs ys : List X) → list_any p ys ≡ true → list_any p (xs ++ ys) ≡ true
any_back p [] ys e = e
any_back p (x ∷ xs) ys e = go (p x) (any_back p xs ys e)
  where
    go : (b : Bool) → list_any p (xs ++ ys) ≡ true → (b || list_any p (xs ++ ys)) ≡ true
    go true e = refl
    go false e = e

pub any_front : {X : Type 0} (p : X → Bool) (xs ys : List X) → list_any p xs ≡ true → list_any p (xs ++ ys) ≡ true
any_front p [] ys e = cc
any_front p (x ∷ xs) ys e = go (p x) e (any_front p xs ys)
  where
    go : (b : Bool) → (b || list_any p xs) ≡ true → (list_any p xs ≡ true → list_any p (xs ++ ys) ≡ true) → (b || list_any p (xs ++ ys)) ≡ true
    go true e more = refl
    go false e more = more e

-- no message of a list passes a test where none of their requests does
pub pairs_none :
    (P : Parcel → Request → Type 0) (test select : Parcel → Bool) (tests : Request → Bool) (ps : List Parcel) (rs : List Request)
    → ((p : Parcel) (r : Request) → P p r → test p ≡ true → tests r ≡ true) → ((p : Parcel) → test p ≡ true → select p ≡ true)
    → Pairwise P (filter select ps) rs
    → list_any tests rs ≡ false → list_any test ps ≡ false
pairs_none P test select tests [] rs each sub h none = refl
pairs_none P test select tests (p ∷ ps) rs each sub h none = go (select p) refl rs h none (λ rs h none. pairs_none P test select tests ps rs each sub h none)
  where
    go :
        (b : Bool) → select p ≡ b → (rs : List Request) → Pairwise P (cond b (p ∷ filter select ps) (filter select ps)) rs → list_any tests rs ≡ false
        → ((rs : List Request) → Pairwise P (filter select ps) rs → list_any tests rs ≡ false → list_any test ps ≡ false) → (test p || list_any test ps) ≡ false
    go true e [] h none more = absurd h
    go true e (r ∷ rs) h none more =
        or_none (test p) _ (false_from_ne_true _ (λ t. both_ways (tests r) (or_parts (tests r) (list_any tests rs) none).0 (each p r h.0 t)))
        (more rs h.1 (or_parts (tests r) (list_any tests rs) none).1)
    go false e rs h none more = or_none (test p) _ (false_from_ne_true _ (λ t. both_ways (select p) e (sub p t))) (more rs h none)

pub none_before : (t : Slab) (xs ys : List Request) → AreInOrder (xs ++ request.Borrow t ∷ ys) → list_any (is_borrow t) xs ≡ false
none_before t [] ys h = refl
none_before t (x ∷ xs) ys h = or_none (is_borrow t x) _ (apart x (all-back (MayPrecede x) xs (request.Borrow t ∷ ys) h.0).0) (none_before t xs ys h.1)
  where
    apart : (x : Request) → MayPrecede x (request.Borrow t) → is_borrow t x ≡ false
    apart (request.Query u) may = refl
    apart (request.Borrow u) may = false_from_ne_true _ (λ e. may (eqb-true u.0 t.0 e))
    apart (request.Write p e) may = refl
    apart (request.Read c p) may = refl

pub none_after : (t : Slab) (ys : List Request) → AllByRecursion (MayPrecede (request.Borrow t)) ys → list_any (is_borrow t) ys ≡ false
none_after t [] h = refl
none_after t (y ∷ ys) h = or_none (is_borrow t y) _ (apart y h.0) (none_after t ys h.1)
  where
    apart : (y : Request) → MayPrecede (request.Borrow t) y → is_borrow t y ≡ false
    apart (request.Query u) may = refl
    apart (request.Borrow u) may = false_from_ne_true _ (λ e. may (sym (eqb-true u.0 t.0 e)))
    apart (request.Write p e) may = refl
    apart (request.Read c p) may = refl

-- the request of a Borrow
pub is_for_borrow :
    (s : Sizes) (H : History) (states : List SlabState) (l : LenderNo) (q : Parcel) (x : Request) (t : Slab) → q.msg ≡ msg.Borrow t → Carries s H states l q x
    → x ≡ request.Borrow t
is_for_borrow s H states l q (request.Query u) t is h = absurd (clash (sym is ∙ ap (λ (p : Parcel). p.msg) h))
  where
    clash : msg.Borrow t ≡ msg.Query u → ⊥
    clash e = cc
is_for_borrow s H states l q (request.Borrow u) t is h = same (sym is ∙ ap (λ (p : Parcel). p.msg) h)
  where
    same : msg.Borrow t ≡ msg.Borrow u → request.Borrow u ≡ request.Borrow t
    same e = cc
is_for_borrow s H states l q (request.Write p e) t is h = absurd (clash (sym is ∙ ap (λ (p : Parcel). p.msg) h.1))
  where
    clash : msg.Borrow t ≡ msg.Write h.0 (place_of s p.0) → ⊥
    clash e = cc
is_for_borrow s H states l q (request.Read c p) t is h = absurd (clash (sym is ∙ ap (λ (p : Parcel). p.msg) h.1))
  where
    clash : msg.Borrow t ≡ msg.Read h.0 (place_of s p.0) → ⊥
    clash e = cc

pub borrow_of : (t : Slab) (m : Msg) → borrows t m ≡ true → m ≡ msg.Borrow t
borrow_of t (msg.Borrow u) e = ap (λ (i : ℕ). msg.Borrow (record { 0 = i })) (eqb-true u.0 t.0 e)
borrow_of t _ e = cc

refusal_of : (t : Slab) (m : Msg) → is_refusal t m ≡ true → m ≡ msg.Refused t
refusal_of t (msg.Refused u) e = ap (λ (i : ℕ). msg.Refused (record { 0 = i })) (eqb-true u.0 t.0 e)
refusal_of t _ e = cc

-- the request of a refusal
refusal_answers :
    (s : Sizes) (states : List SlabState) (l : LenderNo) (q : Parcel) (x : Request) (t : Slab) → q.msg ≡ msg.Refused t → Answers s states l q x
    → is_borrow t x ≡ true
refusal_answers s states l q (request.Query u) t is h = absurd (let wrong : ⊥ = subst (λ (m : Msg). IsRoomFor u (query_reply m)) is h in wrong)
refusal_answers s states l q (request.Borrow u) t is h =
    eq-eqb u.0 t.0 (sym (let same : t.0 ≡ u.0 = subst (λ (m : Msg). IsReplyFor u (borrow_reply m)) is h in same))
refusal_answers s states l q (request.Write p e) t is h = absurd (let wrong : ⊥ = subst (λ (m : Msg). Names s states l p (write_reply m)) is h in wrong)
refusal_answers s states l q (request.Read c p) t is h = absurd (let wrong : ⊥ = subst (λ (m : Msg). Names s states l p (read_reply m)) is h in wrong)

-- a Borrow that is under way to the lender: its request stands in the ring once, and nothing refuses its slab
borrow_wants :
    (d : Device) (l : LenderNo) (c : Channel) (q : Parcel) (ps : List Parcel) (t : Slab) → Joined d l c → AreInOrder (ring_of d.remote.links l)
    → c.to_lender.parcels ≡ q ∷ ps → q.msg ≡ msg.Borrow t
    → (borrows_in t (ring_of d.remote.links l) ≡ true) × (refuses_in t c.to_device.parcels ≡ false) × (list_any (λ (p : Parcel). borrows t p.msg) ps ≡ false)
borrow_wants d l c q ps t joined ordered front is =
    let o = joined.order in
    let A : Parcel → Request → Type 0 = Asked d.sizes d.history d.calls d.remote.slabs l c in
    let R : Parcel → Request → Type 0 = Replied d.sizes d.history d.calls d.remote.slabs l in
    let pairs : Pairwise A (q ∷ filter asks_by ps) o.under_way =
    subst (λ xs. Pairwise A xs o.under_way) (ap (filter asks_by) front ∙ filter-first asks_by q ps (ap is_request is)) o.requests in
    let f = pairs-first A q (filter asks_by ps) o.under_way pairs in
    let one : f.one ≡ request.Borrow t = is_for_borrow d.sizes d.history d.remote.slabs l q f.one t is f.here.0 in
    let way : o.under_way ≡ request.Borrow t ∷ f.rest = f.is ∙ ap (λ x. x ∷ f.rest) one in
    let ring : ring_of d.remote.links l ≡ (o.answered ++ o.unheard) ++ (request.Borrow t ∷ (f.rest ++ o.dropped)) =
    o.in_four ∙ ap (λ xs. (o.answered ++ o.unheard) ++ (xs ++ o.dropped)) way in
    let there : AreInOrder ((o.answered ++ o.unheard) ++ (request.Borrow t ∷ (f.rest ++ o.dropped))) = subst AreInOrder ring ordered in
    let before : list_any (is_borrow t) (o.answered ++ o.unheard) ≡ false = none_before t (o.answered ++ o.unheard) (f.rest ++ o.dropped) there in
    let after : list_any (is_borrow t) (f.rest ++ o.dropped) ≡ false =
    none_after t (f.rest ++ o.dropped) (ordered_back (o.answered ++ o.unheard) _ there).0 in (
      ap (borrows_in t) ring
          ∙ any_back (is_borrow t) (o.answered ++ o.unheard) _ (ap (λ b. b || list_any (is_borrow t) (f.rest ++ o.dropped)) (eq-eqb t.0 t.0 refl)),
      pairs_none R (λ p. is_refusal t p.msg) replies_by (is_borrow t) c.to_device.parcels o.answered
          (λ p r h e. refusal_answers d.sizes d.remote.slabs l p r t (refusal_of t p.msg e) h.0) (λ p e. ap is_reply (refusal_of t p.msg e)) o.replies
          (any_first (is_borrow t) o.answered o.unheard before),
      pairs_none A (λ p. borrows t p.msg) asks_by (is_borrow t) ps f.rest
          (λ p r h e. ap (is_borrow t) (is_for_borrow d.sizes d.history d.remote.slabs l p r t (borrow_of t p.msg e) h.0) ∙ eq-eqb t.0 t.0 refl)
          (λ p e. ap is_request (borrow_of t p.msg e)) f.there (any_first (is_borrow t) f.rest o.dropped after),
    )
  where
    any_first : {X : Type 0} (p : X → Bool) (xs ys : List X) → list_any p (xs ++ ys) ≡ false → list_any p xs ≡ false
    any_first p xs ys e = false_from_ne_true _ (λ t. both_ways (list_any p (xs ++ ys)) e (any_front p xs ys t))

-- the lender takes the first message, or its end leaves
pub allowed_given :
    (d : Device) (l : LenderNo) (c : Channel) → IsSound c.lender → AsksUntold c.lender.round c.lender.slots → Lodges c
    → (c.lender_gone ≡ false → has_greeted (hello c.lender c.number).lender c.number ≡ true) → Joined d l c → AreInOrder (ring_of d.remote.links l)
    → Allowed d l c [] → Allowed d l (give_after c).1 []
allowed_given d l c sound untold lodges greeted joined ordered h =
    cond_both c.lender_gone _ _ (λ (x : Gave × Channel). Allowed d l x.1 []) (λ _. h) (λ stands. from stands c.to_lender.parcels refl)
  where
    fine :
        c.lender_gone ≡ false → (q : Parcel) (ps : List Parcel) → c.to_lender.parcels ≡ q ∷ ps
        → Allowed d l (deliver_after (record c { to_lender = record c.to_lender { parcels = ps } }) (serve c.lender c.number q.msg q.page)) []
    fine stands q ps front =
        let A : List Parcel → Type 0 =
        λ out. Allows d.sizes d.remote.slabs (ring_of d.remote.links l) l c.lender c.number c.to_device.parcels c.to_lender.ended out in
        let now : Allows d.sizes d.remote.slabs (ring_of d.remote.links l) l c.lender c.number c.to_device.parcels c.to_lender.ended (q ∷ ps) =
        subst A (append-nil c.to_lender.parcels ∙ front) (unless-at c.lender_gone (A (c.to_lender.parcels ++ [])) stands h) in
        let stored = unless-at c.lender_gone _ stands joined.stored in
        let wants : Wants d.remote.slabs (ring_of d.remote.links l) l c.lender c.number c.to_device.parcels c.to_lender.ended q ps = record {
          hello = greeted stands;
          borrow = λ t is. (let w = borrow_wants d l c q ps t joined ordered front is in (inl w.0, w.1, w.2));
          done = λ j is. (stored.given j (ap (gives_back j) front ∙ or_left (is_done j q.msg) _ (ap (is_done j) is ∙ eq-eqb j.0 j.0 refl))).unleased;
        } in
        stands_so c.lender_gone _
        (subst
        (λ out.
        Allows d.sizes d.remote.slabs (ring_of d.remote.links l) l (serve c.lender c.number q.msg q.page).lender c.number
        (forward_after c.number c.to_device (serve c.lender c.number q.msg q.page).parcels).parcels c.to_lender.ended out)
        (sym (append-nil ps))
        (serve_by d.sizes d.remote.slabs (ring_of d.remote.links l) l c.lender c.number c.to_device c.to_lender.ended q ps sound
        (λ i m t k e is. (lodges i (record { link = m; slab = t; lease = k }) (ap tenant is)).1) untold wants now q.msg q.page refl))

    from : c.lender_gone ≡ false → (ps : List Parcel) → c.to_lender.parcels ≡ ps → Allowed d l (given_from c ps).1 []
    from stands [] is = cond_both c.to_lender.ended _ _ (λ (x : Gave × Channel). Allowed d l x.1 []) (λ _. tt) (λ _. h)
    from stands (q ∷ ps) is =
        cond_both (may_send c.lender c.number q.msg) _ _ (λ (x : Gave × Channel). Allowed d l x.1 [])
        (λ may.
        subst (λ (t : Turn). Allowed d l (deliver_after (record c { to_lender = record c.to_lender { parcels = ps } }) t) [])
        (sym (took-served c.lender c.number q.msg q.page may)) (fine stands q ps is))
        (λ _. tt)

-- the lender measures its host
pub allowed_hosted :
    (d : Device) (l : LenderNo) (c : Channel) (used word : ℕ) → IsReached c.lender → IsSound c.lender → Allowed d l c []
    → Allowed d l (deliver_after c (host c.lender used word)) []
allowed_hosted d l c used word reached sound h = go c.lender_gone refl
  where
    hosted_ :
        c.lender_gone ≡ false
        → Allows d.sizes d.remote.slabs (ring_of d.remote.links l) l (host c.lender used word).lender c.number
        (forward_after c.number c.to_device (host c.lender used word).parcels).parcels c.to_lender.ended (c.to_lender.parcels ++ [])
    hosted_ stands =
        let now : Allows d.sizes d.remote.slabs (ring_of d.remote.links l) l c.lender c.number c.to_device.parcels c.to_lender.ended
        (c.to_lender.parcels ++ []) =
        unless-at c.lender_gone _ stands h in
        let m : Lender = measure_after c.lender used in
        cond_both (opens (measure_after c.lender used)) _ _
        (λ (t : Turn). (host c.lender used word ≡ t)
        → Allows d.sizes d.remote.slabs (ring_of d.remote.links l) l t.lender c.number (forward_after c.number c.to_device t.parcels).parcels c.to_lender.ended
        (c.to_lender.parcels ++ []))
        (λ opens_ is.
        allows_opened d.sizes d.remote.slabs (ring_of d.remote.links l) l c.lender c.number c.to_device c.to_lender.ended (c.to_lender.parcels ++ []) sound
        (asked_slots (measure_after c.lender used) word) (to_evict (measure_after c.lender used)) (measure_after c.lender used).usage
        (none_is c.lender.round (and_parts (is_none c.lender.round) _ opens_).0)
        (λ i inside. (asked_low (measure_after c.lender used) word i inside, asks_stay c.lender used word reached (λ n r. (are_owned n r).round) is i inside))
        now)
        (λ _ is.
        allows_table d.sizes d.remote.slabs (ring_of d.remote.links l) l c.lender (measure_after c.lender used) c.number c.to_device.parcels c.to_lender.ended
        (c.to_lender.parcels ++ []) refl refl refl now)
        refl
      where
        none_is : (o : Option Round) → is_none o ≡ true → o ≡ None
        none_is None e = refl
        none_is (Some r) e = cc

    go : (b : Bool) → c.lender_gone ≡ b → Allowed d l (deliver_after c (host c.lender used word)) []
    go true left = unless c.lender_gone _ (λ stands. absurd (both_ways c.lender_gone stands left))
    go false stands = stands_so c.lender_gone _ (hosted_ stands)
