-- What is under way on a link that its device has lost, as its lender serves it.
use Rattle.std.proofs.Common.{◌≡◌, ℕ, ◌+◌, ◌<◌, inr, Bool, true, false, ◌==◌, ◌||◌, ◌&&◌, zero, suc, List, [], ◌∷◌, take, length, set, refl, sym, ap, ◌∙◌, subst, eq-eqb, lt-ltb, Option, None, Some}
use Rattle.std.specs.Prelude.{not, nat_lt, option_map, is_none}
use Rattle.std.specs.List.{list_any, AllByRecursion}
use Rattle.std.proofs.lemmas.Bool.{cond_both, both_ways, and_parts, and_from}
use Rattle.swap_base.specs.declared.Slab.{Slab}
use Rattle.swap_base.specs.declared.Link.{Link}
use Rattle.swap_base.specs.declared.Lender.{Lender as LenderNo}
use Rattle.swap_base.specs.declared.Lease.{Lease}
use Rattle.swap_base.specs.Sizes.{Sizes}
use Rattle.swap_wire.specs.declared.Msg.{Msg}
use Rattle.swap_wire.specs.declared.Msg.TheVariants as msg
use Rattle.swap_wire.specs.declared.fabric.Gave.{Gave}
use Rattle.swap_wire.specs.Fabric.{Parcel}
use Rattle.swap_choice.specs.Slots.{has}
use Rattle.swap_evict.specs.Rounds.{Round, answer}
use Rattle.swap_lender.specs.declared.SlotState.{SlotState}
use Rattle.swap_lender.specs.declared.SlotState.TheVariants.{Free, Held}
use Rattle.swap_lender.specs.Lender.{Lender, slot_in, slot_of, has_greeted, first_where, is_free, is_for, lends, holds}
use Rattle.swap_lender.specs.Table.{Turn, serve, settle_with, slots_due, mark_slots, mark_slot, may_send, may_hello, may_reach, opens, asked_slots, to_evict, measure_after, host}
use Rattle.swap_link.specs.Fits.{IsSound}
use Rattle.swap_link.specs.Lane.{Lane, empty_lane}
use Rattle.swap_link.specs.Channel.{Channel, deliver_after, give_after, given_from, cut_after, crash_after}
use Rattle.swap_link.specs.lemmas.KeepLaws.{unless, unless-map, took-served, unless-at}
use Rattle.swap_table.specs.Device.{hello as greeting}
use Rattle.swap_joint.specs.Seats.{is_done}
use Rattle.swap_joint.specs.Stored.{gives_back}
use Rattle.swap_joint.specs.Turn.{AsksUntold, Lodges}
use Rattle.swap_joint.specs.Lenders.{IsReached}
use Rattle.swap_joint.specs.Allowed.{is_hello, is_rate, rates_in, IsToLender, Allows, IsKnown}
use Rattle.swap_joint.specs.Left.{uses, borrows, HasHeld, IsReach, Orderly, Left}
use Rattle.swap_joint.proofs.Lenders.{are_owned, greeted_known}
use Rattle.swap_joint.proofs.Notices.{asks_stay}
use Rattle.swap_joint.proofs.Serves.{none-take}
use Rattle.swap_joint.proofs.Served.{allows_table}
use Rattle.swap_joint.proofs.Allowed.{allows_cut}
use Rattle.swap_joint.proofs.Serving.{HeldOf, slot_found, done_allowed, rates_allowed, none_for}
use Rattle.swap_joint.proofs.Granted.{one_lease, set_stays, freed_stays, allows_opened, asked_low}
use Rattle.swap_joint.proofs.Gives.{Wants, serve_by, lowest_free}
use Rattle.swap_joint.proofs.Fronts.{held_of, greeted_before, greets_first}
use Rattle.swap_joint.proofs.Lefts.{allows_left}
use Rattle.swap_base.proofs.Bools.{or_left}
use Rattle.swap_joint.proofs.Turned.{stands_so}

-- slots that stay where a message uses them

reach_map :
    (slots slots' : List SlotState) (places : ℕ) (m : Msg) → ((k : Lease) → uses k m ≡ true → HasHeld slots k → HasHeld slots' k) → IsReach slots places m
    → IsReach slots' places m
reach_map slots slots' places (msg.Write k i) each h = (each k (eq-eqb k.0 k.0 refl) h.0, h.1)
reach_map slots slots' places (msg.Read k i) each h = (each k (eq-eqb k.0 k.0 refl) h.0, h.1)
reach_map slots slots' places _ each h = tt

reach_all_map :
    (slots slots' : List SlotState) (places : ℕ) (ps : List Parcel)
    → ((k : Lease) → list_any (λ (p : Parcel). uses k p.msg) ps ≡ true → HasHeld slots k → HasHeld slots' k)
    → AllByRecursion (λ (q : Parcel). IsReach slots places q.msg) ps → AllByRecursion (λ (q : Parcel). IsReach slots' places q.msg) ps
reach_all_map slots slots' places [] each h = tt
reach_all_map slots slots' places (p ∷ ps) each h = (
  reach_map slots slots' places p.msg (λ k e held. each k (or_left (uses k p.msg) _ e) held) h.0,
  reach_all_map slots slots' places ps (λ k e held. each k (back_true (uses k p.msg) _ e) held) h.1,
)
  where
    back_true : (a b : Bool) → b ≡ true → (a || b) ≡ true
    back_true true b e = refl
    back_true false b e = e

orderly_map :
    (slots slots' : List SlotState) (places : ℕ) (ps : List Parcel)
    → ((k : Lease) → list_any (λ (p : Parcel). uses k p.msg) ps ≡ true → HasHeld slots k → HasHeld slots' k) → Orderly slots places ps
    → Orderly slots' places ps
orderly_map slots slots' places ps each h =
    record { reach = reach_all_map slots slots' places ps each h.reach; done_last = h.done_last; borrow_once = h.borrow_once }

orderly_rest : (slots : List SlotState) (places : ℕ) (q : Parcel) (ps : List Parcel) → Orderly slots places (q ∷ ps) → Orderly slots places ps
orderly_rest slots places q ps h = record { reach = h.reach.1; done_last = h.done_last.1; borrow_once = h.borrow_once.1 }

orderly_take : (slots : List SlotState) (places : ℕ) (n : ℕ) (ps : List Parcel) → Orderly slots places ps → Orderly slots places (take n ps)
orderly_take slots places zero ps h = record { reach = tt; done_last = tt; borrow_once = tt }
orderly_take slots places (suc n) [] h = record { reach = tt; done_last = tt; borrow_once = tt }
orderly_take slots places (suc n) (p ∷ ps) h =
    let rest = orderly_take slots places n ps (orderly_rest slots places p ps h) in
    record {
      reach = (h.reach.0, rest.reach);
      done_last = ((λ k e. none-take (λ (q : Parcel). uses k q.msg) n ps (h.done_last.0 k e)), rest.done_last);
      borrow_once = ((λ t e. none-take (λ (q : Parcel). borrows t q.msg) n ps (h.borrow_once.0 t e)), rest.borrow_once);
    }

marked_held :
    (set_ from : ℕ) (slots : List SlotState) (i : ℕ) (m : Link) (t : Slab) (k : Lease) (e : Bool) → slot_in slots i ≡ Held m t k e
    → (f : Bool) × (slot_in (mark_slots set_ from slots) i ≡ Held m t k f)
marked_held set_ from [] i m t k e is = (e, is)
marked_held set_ from (s ∷ ss) zero m t k e is = go (has set_ from)
  where
    go : (b : Bool) → (f : Bool) × (mark_slot b s ≡ Held m t k f)
    go true = (true, ap (mark_slot true) is)
    go false = (e, is)
marked_held set_ from (s ∷ ss) (suc i) m t k e is = marked_held set_ (from + 1) ss i m t k e is

orderly_settled :
    (places : ℕ) (table : Lender) (o : Option ℕ) (ps : List Parcel) → Orderly table.slots places ps → Orderly (settle_with table o).lender.slots places ps
orderly_settled places table None ps h = h
orderly_settled places table (Some set_) ps h =
    orderly_map table.slots (mark_slots set_ 0 table.slots) places ps
    (λ k _ held. let now = marked_held set_ 0 table.slots held.1.0 held.1.1 held.1.2 k held.0 held.1.3 in (now.0, (held.1.0, held.1.1, held.1.2, now.1))) h

module _ (s : Sizes) (l : LenderNo) (table : Lender) (n : Link) (q : Parcel) (ps : List Parcel) (sound : IsSound table) (held : HeldOf table n)
    (h : Allows s [] [] l table n [] true (q ∷ ps)) (orderly : Orderly table.slots s.pages_per_slab (q ∷ ps)) where
  -- what is left to be served reaches its slots
  pub serve_orderly : (m : Msg) (page : List ℕ) → q.msg ≡ m → Orderly (serve table n m page).lender.slots s.pages_per_slab ps
  serve_orderly (msg.Borrow t) page is =
      let rest = orderly_rest table.slots s.pages_per_slab q ps orderly in
      cond_both (lends table) _ _ (λ (x : Turn). Orderly x.lender.slots s.pages_per_slab ps)
      (λ _. let new : SlotState = Held n t (record { 0 = table.next_lease }) false in
      orderly_map table.slots (set table.slots (first_where is_free table.slots) new) s.pages_per_slab ps
      (λ k _ slot. (
        slot.0,
        (
          slot.1.0,
          slot.1.1,
          slot.1.2,
          set_stays table.slots (first_where is_free table.slots) slot.1.0 new slot.1.1 slot.1.2 k slot.0 (lowest_free table.slots) slot.1.3,
        ),
      ))
      rest)
      (λ _. rest)
  serve_orderly (msg.Rates j v) page is =
      orderly_settled s.pages_per_slab (record table { round = option_map (answer (slot_of table n j) v) table.round })
      (slots_due (option_map (answer (slot_of table n j) v) table.round)) ps (orderly_rest table.slots s.pages_per_slab q ps orderly)
  serve_orderly (msg.Done j) page is =
      let x = h.done j (or_left (is_done j q.msg) _ (ap (is_done j) is ∙ eq-eqb j.0 j.0 refl)) in
      let at = slot_found table n j x.0 x.1 x.2 true sound x.3 (held x.0 x.1 x.2 j true x.3) in
      orderly_map table.slots (set table.slots (slot_of table n j) Free) s.pages_per_slab ps
      (λ k used slot. (
        slot.0,
        (
          slot.1.0,
          slot.1.1,
          slot.1.2,
          freed_stays table.slots (slot_of table n j) slot.1.0
              (λ same. both_ways (list_any (λ (p : Parcel). uses k p.msg) ps)
              (orderly.done_last.0 k
              (ap (is_done k) is
              ∙ eq-eqb j.0 k.0 (sym (one_lease table.slots slot.1.0 x.0 slot.1.1 x.1 slot.1.2 x.2 k j slot.0 true (same ∙ at.is) slot.1.3 x.3))))
              used)
              ∙ slot.1.3,
        ),
      )) (orderly_rest table.slots s.pages_per_slab q ps orderly)
  serve_orderly _ page is = orderly_rest table.slots s.pages_per_slab q ps orderly

-- nothing is under way to a device that has lost the link
abbrev nothing_comes : Lane
nothing_comes = empty_lane true 0 0

pub left_at :
    (s : Sizes) (l : LenderNo) (c : Channel) → c.lender_gone ≡ false → Left s l c
    → Allows s [] [] l c.lender c.number [] true c.to_lender.parcels × Orderly c.lender.slots s.pages_per_slab c.to_lender.parcels
left_at s l c stands h = unless-at c.lender_gone _ stands h

-- the lender takes the first message, or its end leaves
pub left_given :
    (s : Sizes) (l : LenderNo) (c : Channel) → IsSound c.lender → AsksUntold c.lender.round c.lender.slots → Lodges c → IsKnown s c → Left s l c
    → Left s l (give_after c).1
left_given s l c sound untold lodges known h =
    cond_both c.lender_gone _ _ (λ (x : Gave × Channel). Left s l x.1) (λ _. h) (λ stands. from stands c.to_lender.parcels refl)
  where
    fine :
        c.lender_gone ≡ false → (q : Parcel) (ps : List Parcel) → c.to_lender.parcels ≡ q ∷ ps
        → Left s l (deliver_after (record c { to_lender = record c.to_lender { parcels = ps } }) (serve c.lender c.number q.msg q.page))
    fine stands q ps front =
        let both : Allows s [] [] l c.lender c.number [] true (q ∷ ps) × Orderly c.lender.slots s.pages_per_slab (q ∷ ps) =
        subst (λ out. Allows s [] [] l c.lender c.number [] true out × Orderly c.lender.slots s.pages_per_slab out) front (left_at s l c stands h) in
        let wants : Wants [] [] l c.lender c.number [] true q ps = record {
          hello = greeted_known s c stands known;
          borrow = λ t is. (inr refl, refl, both.1.borrow_once.0 t (ap (borrows t) is ∙ eq-eqb t.0 t.0 refl));
          done = λ j is u. refl;
        } in
        stands_so c.lender_gone _ (
          allows_left s [] [] l (serve c.lender c.number q.msg q.page).lender c.number _ true ps
              (serve_by s [] [] l c.lender c.number nothing_comes true q ps sound (held_of c lodges) untold wants both.0 q.msg q.page refl),
          serve_orderly s l c.lender c.number q ps sound (held_of c lodges) both.0 both.1 q.msg q.page refl,
        )

    from : c.lender_gone ≡ false → (ps : List Parcel) → c.to_lender.parcels ≡ ps → Left s l (given_from c ps).1
    from stands [] is = cond_both c.to_lender.ended _ _ (λ (x : Gave × Channel). Left s l x.1) (λ _. tt) (λ _. h)
    from stands (q ∷ ps) is =
        cond_both (may_send c.lender c.number q.msg) _ _ (λ (x : Gave × Channel). Left s l x.1)
        (λ may.
        subst (λ (t : Turn). Left s l (deliver_after (record c { to_lender = record c.to_lender { parcels = ps } }) t))
        (sym (took-served c.lender c.number q.msg q.page may)) (fine stands q ps is))
        (λ _. tt)

pub left_cut : (s : Sizes) (l : LenderNo) (c : Channel) (m n : ℕ) → Left s l c → Left s l (cut_after c m n).1
left_cut s l c m n h =
    unless-map c.lender_gone _ _
    (λ (b : Allows s [] [] l c.lender c.number [] true c.to_lender.parcels × Orderly c.lender.slots s.pages_per_slab c.to_lender.parcels). (
      allows_left s [] [] l c.lender c.number (take 0 []) true (take m c.to_lender.parcels)
          (allows_cut s [] [] l c.lender c.number [] true c.to_lender.parcels m 0 b.0),
      orderly_take c.lender.slots s.pages_per_slab m c.to_lender.parcels b.1,
    ))
    h

pub left_crashed : (s : Sizes) (l : LenderNo) (c : Channel) → Left s l (crash_after c)
left_crashed s l c =
    cond_both c.lender_gone _ _ (λ (x : Channel). Left s l x) (λ gone. unless c.lender_gone _ (λ stands. absurd (both_ways c.lender_gone stands gone)))
    (λ _. tt)

pub left_hosted :
    (s : Sizes) (l : LenderNo) (c : Channel) (used word : ℕ) → IsReached c.lender → IsSound c.lender → Left s l c
    → Left s l (deliver_after c (host c.lender used word))
left_hosted s l c used word reached sound h = unless-map c.lender_gone _ _
    (λ (b : Allows s [] [] l c.lender c.number [] true c.to_lender.parcels × Orderly c.lender.slots s.pages_per_slab c.to_lender.parcels).
    cond_both (opens (measure_after c.lender used)) _ _
    (λ (t : Turn). (host c.lender used word ≡ t)
    → Allows s [] [] l t.lender c.number [] true c.to_lender.parcels × Orderly t.lender.slots s.pages_per_slab c.to_lender.parcels)
    (λ opens_ is. (
      allows_left s [] [] l _ c.number _ true c.to_lender.parcels
          (allows_opened s [] [] l c.lender c.number nothing_comes true c.to_lender.parcels sound (asked_slots (measure_after c.lender used) word)
          (to_evict (measure_after c.lender used)) (measure_after c.lender used).usage (none_is c.lender.round (and_parts (is_none c.lender.round) _ opens_).0)
          (λ i inside. (asked_low (measure_after c.lender used) word i inside, asks_stay c.lender used word reached (λ n r. (are_owned n r).round) is i inside))
          b.0),
      b.1,
    ))
    (λ _ is. (allows_table s [] [] l c.lender (measure_after c.lender used) c.number [] true c.to_lender.parcels refl refl refl b.0, b.1)) refl) h
  where
    none_is : (o : Option Round) → is_none o ≡ true → o ≡ None
    none_is None e = refl
    none_is (Some r) e = cc

-- the first message under way is allowed
module _ (s : Sizes) (l : LenderNo) (c : Channel) (q : Parcel) (ps : List Parcel) (sound : IsSound c.lender) (known : IsKnown s c) (lodges : Lodges c)
    (allows : Allows s [] [] l c.lender c.number [] true (q ∷ ps)) (orderly : Orderly c.lender.slots s.pages_per_slab (q ∷ ps)) where
  greeted : is_hello q.msg ≡ false → has_greeted c.lender c.number ≡ true
  greeted plain = greeted_before s (has_greeted c.lender c.number) true q ps plain allows.greets

  hello_may : (v bytes pages : ℕ) → q.msg ≡ msg.Hello v bytes pages → may_hello c.lender c.number v bytes pages ≡ true
  hello_may v bytes pages e =
      let first = greets_first s (has_greeted c.lender c.number) true q ps (ap is_hello e) allows.greets in
      let same : msg.Hello v bytes pages ≡ (greeting s).msg = sym e ∙ ap (λ (p : Parcel). p.msg) first.1 in
      all_four (has_greeted c.lender c.number) (v == 1) (bytes == c.lender.lending.page_bytes) (pages == c.lender.lending.pages_per_slab) first.0
      (eq-eqb v 1 (version_is same)) (eq-eqb bytes c.lender.lending.page_bytes (bytes_is same ∙ sym known.page_bytes))
      (eq-eqb pages c.lender.lending.pages_per_slab (pages_is same ∙ sym known.pages_per_slab))
    where
      all_four : (a b e f : Bool) → a ≡ false → b ≡ true → e ≡ true → f ≡ true → (not a && b && e && f) ≡ true
      all_four a b e f x y z w = cc

      version_is : msg.Hello v bytes pages ≡ (greeting s).msg → v ≡ 1
      version_is e = cc

      bytes_is : msg.Hello v bytes pages ≡ (greeting s).msg → bytes ≡ s.page_bytes
      bytes_is e = cc

      pages_is : msg.Hello v bytes pages ≡ (greeting s).msg → pages ≡ s.pages_per_slab
      pages_is e = cc

  reaches : (k : Lease) (i : ℕ) → HasHeld c.lender.slots k → i < s.pages_per_slab → may_reach c.lender c.number k i ≡ true
  reaches k i (e, (x, m, t, is)) within =
      let at = slot_found c.lender c.number k x m t e sound is (held_of c lodges x m t k e is) in
      and_from (holds c.lender c.number k) (nat_lt i c.lender.lending.pages_per_slab)
      (lt-ltb (slot_of c.lender c.number k) (length c.lender.slots) (subst (λ j. j < length c.lender.slots) (sym at.is) at.within))
      (lt-ltb i c.lender.lending.pages_per_slab (subst (λ m. i < m) (sym known.pages_per_slab) within))

  may_of : (m : Msg) → q.msg ≡ m → may_send c.lender c.number m ≡ true
  may_of (msg.Hello v bytes pages) e = hello_may v bytes pages e
  may_of (msg.Query t) e = greeted (ap is_hello e)
  may_of (msg.Borrow t) e =
      and_from (has_greeted c.lender c.number) (not (list_any (is_for c.number t) c.lender.slots)) (greeted (ap is_hello e))
      (ap not (none_for c.number t c.lender.slots (λ i m k told held. allows.free.0 t i m k told e held)))
  may_of (msg.Write k i) e =
      let at : IsReach c.lender.slots s.pages_per_slab (msg.Write k i) = subst (λ (m : Msg). IsReach c.lender.slots s.pages_per_slab m) e orderly.reach.0 in
      reaches k i at.0 at.1
  may_of (msg.Read k i) e =
      let at : IsReach c.lender.slots s.pages_per_slab (msg.Read k i) = subst (λ (m : Msg). IsReach c.lender.slots s.pages_per_slab m) e orderly.reach.0 in
      reaches k i at.0 at.1
  may_of (msg.Rates k value) e =
      rates_allowed c.lender c.number k sound (held_of c lodges) (allows.rates k (ap (λ b. b || rates_in k ps) (ap (is_rate k) e ∙ eq-eqb k.0 k.0 refl)))
  may_of (msg.Done k) e =
      done_allowed c.lender c.number k sound (held_of c lodges) (allows.done k (ap (λ b. b || gives_back k ps) (ap (is_done k) e ∙ eq-eqb k.0 k.0 refl)))
  may_of _ e = absurd (subst IsToLender e allows.kinds.0)

  pub left_may : may_send c.lender c.number q.msg ≡ true
  left_may = may_of q.msg refl
