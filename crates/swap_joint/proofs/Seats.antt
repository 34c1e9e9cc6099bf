-- What a link has by a lease, through what its lender does.
use Rattle.std.proofs.Common.{◌≡◌, ℕ, ◌+◌, ◌<◌, ◌≤◌, inl, inr, Bool, true, false, zero, suc, List, [], ◌∷◌, length, get_or, set, refl, sym, ap, ◌∙◌, subst, arith, eq-eqb, get_or-set_same, get_or-set_other, length-set, Option, None, Some}
use Rattle.std.specs.Prelude.{◌==◌, option_map}
use Rattle.std.proofs.lemmas.Bool.{cond_both, and_parts, and_from, ltb-true, cases_lt, both_ways, false_from_ne_true}
use Rattle.std.proofs.lemmas.List.{get_or_past}
use Rattle.std.proofs.lemmas.List.Folds.{position_or_len-set}
use Rattle.std.proofs.lemmas.List.Sums.{passes_at_first, position_or_len_is}
use Rattle.swap_base.specs.declared.Link.{Link}
use Rattle.swap_base.specs.declared.Slab.{Slab}
use Rattle.swap_base.specs.declared.Lease.{Lease}
use Rattle.swap_wire.specs.declared.Msg.{Msg}
use Rattle.swap_wire.specs.declared.Msg.TheVariants as msg
use Rattle.swap_choice.specs.Slots.{has}
use Rattle.swap_evict.specs.Rounds.{answer}
use Rattle.swap_lender.specs.declared.SlotState.{SlotState}
use Rattle.swap_lender.specs.declared.SlotState.TheVariants.{Free, Held}
use Rattle.swap_lender.specs.Lender.{Lender, is_free, has_lease, first_where, lends, holds, slot_of, slot_in}
use Rattle.swap_lender.specs.Table.{Turn, mark_slots, mark_slot, settle_with, slots_due, lend, may_send, serve, done_after, host, measure_after, opens}
use Rattle.swap_lender.proofs.FreeSlots.{free_there, lends_room}
use Rattle.swap_link.specs.Fits.{IsSound}
use Rattle.swap_link.specs.lemmas.Slots.{lease-has, lacks, found, found-lease, marked-first, lowest-has}
use Rattle.swap_joint.specs.Seats.{seat_in, HasSeat, AreSlots, is_done}

-- a seat is in one of the slots
pub seat_within : (l : Lender) (n : Link) (k : Lease) (t : Slab) → HasSeat l n k t → slot_of l n k < length l.slots
seat_within l n k t h =
    elim (cases_lt (slot_of l n k) (length l.slots))
    [ inl within ↦ within | inr past ↦ absurd (none_some (sym (ap seat_in (get_or_past l.slots (slot_of l n k) Free past)) ∙ h.1)) ]
  where
    none_some : {x : Slab × Bool} → None ≡ Some x → ⊥
    none_some e = cc

-- and its lease was given
pub seat_given : (l : Lender) (n : Link) (k : Lease) (t : Slab) → IsSound l → HasSeat l n k t → k.0 < l.next_lease
seat_given l n k t s h = s.given (slot_of l n k) k.0 (found-lease l n k (seat_within l n k t h))

seat_same :
    (l m : Lender) (n : Link) (k : Lease) (t : Slab) → slot_of m n k ≡ slot_of l n k → slot_in m.slots (slot_of l n k) ≡ slot_in l.slots (slot_of l n k)
    → HasSeat l n k t → HasSeat m n k t
seat_same l m n k t place state h = (h.0, ap (λ i. seat_in (slot_in m.slots i)) place ∙ ap seat_in state ∙ h.1)

-- a slot that is lent

free_has : (n : Link) (k : Lease) (x : SlotState) → is_free x ≡ true → has_lease n k x ≡ false
free_has n k Free e = refl
free_has n k (Held other slab lease evicting) e = cc

abbrev lent_slot : Lender → Link → Slab → SlotState
lent_slot l n t = Held n t (record { 0 = l.next_lease }) false

seat_lend_other :
    (l : Lender) (n : Link) (u : Slab) (k : Lease) (t : Slab) → IsSound l → HasSeat l n k t → HasSeat (lend l n u (first_where is_free l.slots)).lender n k t
seat_lend_other l n u k t s h =
    let less : k.0 < l.next_lease = seat_given l n k t s h in
    let new : has_lease n k (lent_slot l n u) ≡ has_lease n k (get_or l.slots (first_where is_free l.slots) Free) =
    lacks n k (lent_slot l n u) l.next_lease refl (λ e. absurd (omega (arith, less, e))) ∙ sym (lowest-has l.slots n k) in
    seat_same l (lend l n u (first_where is_free l.slots)).lender n k t
    (position_or_len-set (has_lease n k) l.slots (first_where is_free l.slots) (lent_slot l n u) Free new)
    (get_or-set_other l.slots (first_where is_free l.slots) (slot_of l n k) (lent_slot l n u) Free
    (λ e.
    both_ways (has_lease n k (get_or l.slots (slot_of l n k) Free))
    (subst (λ i. has_lease n k (get_or l.slots i Free) ≡ false) (sym e) (lowest-has l.slots n k)) (found l n k (seat_within l n k t h))))
    h

pub seat_lend :
    (l : Lender) (n : Link) (t : Slab) → IsSound l → AreSlots l → lends l ≡ true
    → HasSeat (lend l n t (first_where is_free l.slots)).lender n (record { 0 = l.next_lease }) t
seat_lend l n t s slots may =
    let k : Lease = record { 0 = l.next_lease } in
    let room = (lends_room l may).0 in
    let j : ℕ = first_where is_free l.slots in
    let within : first_where is_free l.slots < length l.slots = free_there l.slots (omega (arith, room, slots)) in
    let xs : List SlotState = set l.slots (first_where is_free l.slots) (lent_slot l n t) in
    let here : get_or xs (first_where is_free l.slots) Free ≡ lent_slot l n t =
    get_or-set_same l.slots (first_where is_free l.slots) (lent_slot l n t) Free within in
    let own : has_lease n k (lent_slot l n t) ≡ true =
    and_from (n.0 == n.0) (l.next_lease == l.next_lease) (eq-eqb n.0 n.0 refl) (eq-eqb l.next_lease l.next_lease refl) in
    let place : first_where (has_lease n k) xs ≡ first_where is_free l.slots =
    position_or_len_is (has_lease n k) xs (first_where is_free l.slots) Free
    (subst (λ m. first_where is_free l.slots ≤ m) (sym (length-set l.slots (first_where is_free l.slots) (lent_slot l n t))) (omega (arith, within)))
    (λ i less. false_from_ne_true _ (λ e.
    let old : get_or xs i Free ≡ get_or l.slots i Free =
    get_or-set_other l.slots (first_where is_free l.slots) i (lent_slot l n t) Free (λ same. absurd (omega (arith, less, same))) in
    let given : l.next_lease < l.next_lease = s.given i l.next_lease (lease-has n k (get_or l.slots i Free) (sym (ap (has_lease n k) old) ∙ e)) in
    absurd (omega (arith, given))))
    (λ _. ap (has_lease n k) here ∙ own)
    in
    (false, ap (λ i. seat_in (get_or xs i Free)) place ∙ ap seat_in here)

-- slots that are told to go

get_or_marked : (set from : ℕ) (slots : List SlotState) (i : ℕ)
    → get_or (mark_slots set from slots) i Free ≡ mark_slot (has set (from + i)) (get_or slots i Free)
get_or_marked set from [] i = sym (marks_free (has set (from + i)))
  where
    marks_free : (b : Bool) → mark_slot b Free ≡ Free
    marks_free true = refl
    marks_free false = refl
get_or_marked set from (s ∷ ss) zero = ap (λ m. mark_slot (has set m) s) (omega arith)
get_or_marked set from (s ∷ ss) (suc i) = get_or_marked set (from + 1) ss i ∙ ap (λ m. mark_slot (has set m) (get_or ss i Free)) (omega arith)

abbrev seated : Slab → Bool → Option (Slab × Bool)
seated u told = Some (u, told)

told_seat : (b : Bool) (x : SlotState) (t : Slab) (told : Bool) → seat_in x ≡ Some (t, told) → (now : Bool) × (seat_in (mark_slot b x) ≡ Some (t, now))
told_seat false x t told e = (told, e)
told_seat true Free t told e = cc
told_seat true (Held n u k evicting) t told e = (true, ap (λ (x : Slab). seated x true) (slab_is u t evicting told e))
  where
    slab_is : (u t : Slab) (a b : Bool) → seated u a ≡ seated t b → u ≡ t
    slab_is u t a b e = ap (λ (n : ℕ). record { 0 = n }) (let F : Option (Slab × Bool) → ℕ = number in ap F e)
      where
        number : Option (Slab × Bool) → ℕ
        number None = 0
        number (Some x) = x.0.0

pub seat_settle : (l : Lender) (o : Option ℕ) (n : Link) (k : Lease) (t : Slab) → HasSeat l n k t → HasSeat (settle_with l o).lender n k t
seat_settle l None n k t h = h
seat_settle l (Some set) n k t h =
    let after = told_seat (has set (0 + slot_of l n k)) (slot_in l.slots (slot_of l n k)) t h.0 h.1 in (
      after.0,
      ap (λ i. seat_in (slot_in (mark_slots set 0 l.slots) i)) (marked-first n k set 0 l.slots) ∙ ap seat_in (get_or_marked set 0 l.slots (slot_of l n k))
          ∙ after.1,
    )

-- a slot that is given back
seat_done :
    (l : Lender) (n : Link) (j k : Lease) (t : Slab) → slot_of l n j < length l.slots → (j.0 ≡ k.0 → ⊥) → HasSeat l n k t
    → HasSeat (done_after l n j).lender n k t
seat_done l n j k t within other h =
    seat_same l (done_after l n j).lender n k t
    (position_or_len-set (has_lease n k) l.slots (slot_of l n j) Free Free
    (sym (lacks n k (get_or l.slots (slot_of l n j) Free) j.0 (found-lease l n j within) other)))
    (get_or-set_other l.slots (slot_of l n j) (slot_of l n k) Free Free (λ e.
    both_ways (has_lease n k (get_or l.slots (slot_of l n k) Free))
    (subst (λ i. has_lease n k (get_or l.slots i Free) ≡ false) (sym e)
    (lacks n k (get_or l.slots (slot_of l n j) Free) j.0 (found-lease l n j within) other))
    (found l n k (seat_within l n k t h))))
    h

-- a message that is served, but the lease's end
pub seat_served :
    (l : Lender) (n : Link) (m : Msg) (page : List ℕ) (k : Lease) (t : Slab) → IsSound l → may_send l n m ≡ true → is_done k m ≡ false → HasSeat l n k t
    → HasSeat (serve l n m page).lender n k t
seat_served l n (msg.Borrow u) page k t s may kept h =
    cond_both (lends l) _ _ (λ (x : Turn). HasSeat x.lender n k t) (λ _. seat_lend_other l n u k t s h) (λ _. h)
seat_served l n (msg.Rates j value) page k t s may kept h =
    seat_settle (record l { round = option_map (answer (slot_of l n j) value) l.round }) (slots_due (option_map (answer (slot_of l n j) value) l.round)) n k t h
seat_served l n (msg.Done j) page k t s may kept h =
    seat_done l n j k t (ltb-true (slot_of l n j) (length l.slots) (and_parts (holds l n j) _ may).0) (λ e. both_ways (j.0 == k.0) kept (eq-eqb j.0 k.0 e)) h
seat_served l n (msg.Write j i) page k t s may kept h = h
seat_served l n _ page k t s may kept h = h

pub seat_host : (l : Lender) (used word : ℕ) (n : Link) (k : Lease) (t : Slab) → HasSeat l n k t → HasSeat (host l used word).lender n k t
seat_host l used word n k t h = cond_both (opens (measure_after l used)) _ _ (λ (x : Turn). HasSeat x.lender n k t) (λ _. h) (λ _. h)
