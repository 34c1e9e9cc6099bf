-- What a lender says in a turn may be taken in turn, after what is under way.
use Rattle.std.proofs.Common.{◌≡◌, ℕ, ◌+◌, inl, inr, Bool, true, false, cond, ◌&&◌, zero, suc, List, [], ◌∷◌, set, refl, sym, ap, ◌∙◌, subst, arith, eqb, eq-eqb, Option, None, Some}
use Rattle.std.specs.Prelude.{◌==◌, nat_lt, not, min, option_map, bit_and}
use Rattle.std.specs.Int.{bit_not, w64}
use Rattle.std.specs.List.{filter, range_with_len, list_any}
use Rattle.std.proofs.lemmas.Bool.{cond_both, both_ways, cases_lt, cond-true}
use Rattle.swap_base.specs.declared.Slab.{Slab}
use Rattle.swap_base.specs.declared.Link.{Link}
use Rattle.swap_base.specs.declared.Lease.{Lease}
use Rattle.swap_wire.specs.declared.Msg.{Msg}
use Rattle.swap_wire.specs.declared.Msg.TheVariants as msg
use Rattle.swap_wire.specs.Fabric.{Parcel, parcel_of}
use Rattle.swap_choice.specs.Slots.{has, size}
use Rattle.swap_choice.specs.Least.{least_of, rank}
use Rattle.swap_choice.proofs.Ranks.{has-set_of, any-filter, any-filter-out}
use Rattle.swap_evict.specs.Rounds.{Round, round_at_start, answer, waiting_slots, standing_slots, slots_to_evict}
use Rattle.swap_evict.proofs.Bits.{has-and}
use Rattle.swap_choice.proofs.Chosen.{has-zero}
use Rattle.swap_lender.specs.declared.SlotState.{SlotState}
use Rattle.swap_lender.specs.declared.SlotState.TheVariants.{Free, Held}
use Rattle.swap_lender.specs.declared.Notice.TheVariants as notice
use Rattle.swap_lender.specs.Lender.{Lender, slot_in, slot_of, is_evicting, is_staying, is_free, first_where, slots_free, lends, page_in}
use Rattle.swap_lender.specs.Table.{Turn, parcels_told, mark_slot, mark_slots, settle_with, slots_due, serve, host, measure_after, opens, open_round, asked_slots, to_evict}
use Rattle.swap_lender.specs.Calls.{Host as Hosts, AsksStaying, IsLive}
use Rattle.swap_link.specs.Fits.{IsSound, lease_of, lease_at}
use Rattle.swap_link.specs.Lane.{Lane, append_after}
use Rattle.swap_link.specs.Channel.{post_after, forward_after}
use Rattle.swap_joint.specs.Order.{is_request}
use Rattle.swap_joint.specs.Lenders.{IsReached}
use Rattle.swap_joint.specs.Turn.{InTurn, Stays, AsksUntold}
use Rattle.swap_joint.proofs.Lenders.{reached_more}
use Rattle.swap_joint.proofs.InTurn.{Ready, Differ, turn_reply, stays_reply, stays_lent, stays_free, asks_turn, asks_after, evicts_turn, evicts_after}
use Rattle.swap_base.proofs.Bools.{and_first}

-- the slots that a round gives are among those that it asked

least_among : (rates : List ℕ) (among count i : ℕ) → has (least_of rates among count) i ≡ true → has among i ≡ true
unfolding least_of
least_among rates among count i e = elim (cases_lt i 64) [
  | inl within ↦ and_first (has among i) _ (sym (any-filter test 0 64 i (omega arith) within) ∙ found)
  | inr past ↦ absurd (both_ways (list_any (λ x. eqb i x) (filter test (range_with_len 0 64))) (any-filter-out test 0 64 i (inr past)) found)
]
  where
    test : ℕ → Bool
    test slot = has among slot && nat_lt (rank rates among slot) count

    found : list_any (λ x. eqb i x) (filter test (range_with_len 0 64)) ≡ true
    found = has-set_of (filter test (range_with_len 0 64)) i ∙ e

pub given_asked : (r : Round) (set i : ℕ) → slots_to_evict r ≡ Some set → has set i ≡ true → has r.asked i ≡ true
given_asked r set i is e = go (waiting_slots r == 0) is
  where
    standing_asked : has (standing_slots r) i ≡ true → has r.asked i ≡ true
    standing_asked h =
        and_first (has r.asked i) (has r.answered i)
        (sym (has-and r.asked r.answered i)
        ∙ and_first (has (bit_and r.asked r.answered) i) _ (sym (has-and (bit_and r.asked r.answered) (bit_not w64 r.gone) i) ∙ h))

    go : (b : Bool) → cond b (Some (least_of r.values (standing_slots r) (min r.count (size (standing_slots r))))) None ≡ Some set → has r.asked i ≡ true
    go true same =
        let one : least_of r.values (standing_slots r) (min r.count (size (standing_slots r))) ≡ set = cc in
        standing_asked (least_among r.values (standing_slots r) (min r.count (size (standing_slots r))) i (subst (λ s. has s i ≡ true) (sym one) e))
    go false same = cc

pub due_asked :
    (o : Option Round) (slots : List SlotState) (set i : ℕ) → AsksUntold o slots → slots_due o ≡ Some set → has set i ≡ true
    → is_evicting (slot_in slots i) ≡ false
due_asked None slots set i h is e = cc
due_asked (Some r) slots set i h is e = h i (given_asked r set i is e)

-- slots that differ by their leases
pub differ_of : (l : Lender) → IsSound l → Differ l.slots
differ_of l sound i j n m t u k o e f a b same = sound.differ i j k.0 (leased i n t k e a) (leased j m u o f b ∙ ap (λ x. Some x) (sym same))
  where
    leased : (i : ℕ) (n : Link) (t : Slab) (k : Lease) (e : Bool) → slot_in l.slots i ≡ Held n t k e → lease_at l.slots i ≡ Some k.0
    leased i n t k e is = ap lease_of is

-- a slot that stays once some were marked was there before, and isn't of the set
unmarked :
    (set from : ℕ) (slots : List SlotState) (i : ℕ) (n : Link) (t : Slab) (k : Lease) → slot_in (mark_slots set from slots) i ≡ Held n t k false
    → (slot_in slots i ≡ Held n t k false) × (has set (from + i) ≡ false)
unmarked set from [] i n t k e = cc
unmarked set from (s ∷ ss) zero n t k e = go (has set from) refl s e
  where
    evicting_of : SlotState → Bool
    evicting_of Free = false
    evicting_of (Held link slab lease evicting) = evicting

    no_told : true ≡ false → ⊥
    no_told e = cc

    go : (b : Bool) → has set from ≡ b → (x : SlotState) → mark_slot b x ≡ Held n t k false → (x ≡ Held n t k false) × (has set (from + 0) ≡ false)
    go false out x e = (e, subst (λ m. has set m ≡ false) (omega arith) out)
    go true out Free e = cc
    go true out (Held m u j parcels_told) e = absurd (no_told (ap evicting_of e))
unmarked set from (s ∷ ss) (suc i) n t k e = let rest = unmarked set (from + 1) ss i n t k e in (rest.0, subst (λ m. has set m ≡ false) (omega arith) rest.1)

-- a round is closed, or stays
pub settle_turns :
    (M : Lease → Type 0) (n : Link) (l : Lender) (o : Option ℕ) (b : Lane) → Differ l.slots
    → ((set i : ℕ) → o ≡ Some set → has set i ≡ true → is_evicting (slot_in l.slots i) ≡ false) → InTurn M b.parcels → Stays M l.slots b
    → InTurn M (forward_after n b (settle_with l o).parcels).parcels × Stays M (settle_with l o).lender.slots (forward_after n b (settle_with l o).parcels)
settle_turns M n l None b differ untold h stays = (h, stays)
settle_turns M n l (Some set) b differ untold h stays = (
  evicts_turn M n set 0 l.slots b differ h ready_,
  λ open_ i m t k held.
      let was = unmarked set 0 l.slots i m t k held in
      evicts_after M n set 0 l.slots b k (λ j m' t' k' e inside at same.
      let one : j ≡ i = differ j i m' m t' t k' k e false at was.0 same in
      both_ways (has set i) (subst (λ x. has set x ≡ false) (omega arith) was.1)
      (subst (λ x. has set x ≡ true) one (subst (λ x. has set x ≡ true) (omega arith) inside)))
      (λ e. stays e i m t k was.0) open_,
)
  where
    evicting_is : (x : SlotState) (m : Link) (t : Slab) (k : Lease) (e : Bool) → x ≡ Held m t k e → is_evicting x ≡ false → x ≡ Held m t k false
    evicting_is x m t k e is off = is ∙ ap (λ b. Held m t k b) (sym (ap is_evicting is) ∙ off)

    ready_ : Ready M set 0 l.slots b
    ready_ open_ i m t k e inside held =
        stays open_ i m t k (evicting_is (slot_in l.slots i) m t k e held (untold set i refl (subst (λ x. has set x ≡ true) (omega arith) inside)))

-- a message is served that is no request
pub serve_turns :
    (M : Lease → Type 0) (n : Link) (l : Lender) (m : Msg) (page : List ℕ) (b : Lane) → is_request m ≡ false → IsSound l → AsksUntold l.round l.slots
    → InTurn M b.parcels → Stays M l.slots b
    → InTurn M (forward_after n b (serve l n m page).parcels).parcels × Stays M (serve l n m page).lender.slots (forward_after n b (serve l n m page).parcels)
serve_turns M n l (msg.Query slab) page b plain sound untold h stays = cc
serve_turns M n l (msg.Borrow slab) page b plain sound untold h stays = cc
serve_turns M n l (msg.Write lease place) page b plain sound untold h stays = cc
serve_turns M n l (msg.Read lease place) page b plain sound untold h stays = cc
serve_turns M n l (msg.Rates lease value) page b plain sound untold h stays =
    settle_turns M n (record l { round = option_map (answer (slot_of l n lease) value) l.round })
    (slots_due (option_map (answer (slot_of l n lease) value) l.round)) b (differ_of l sound)
    (λ set i is inside. due_asked (option_map (answer (slot_of l n lease) value) l.round) l.slots set i (answered l.round untold) is inside) h stays
  where
    answered : (o : Option Round) → AsksUntold o l.slots → AsksUntold (option_map (answer (slot_of l n lease) value) o) l.slots
    answered None u = tt
    answered (Some r) u = u
serve_turns M n l (msg.Done lease) page b plain sound untold h stays = (h, stays_free M l.slots b (slot_of l n lease) stays)
serve_turns M n l (msg.Hello version page_bytes pages_per_slab) page b plain sound untold h stays = (h, stays)
serve_turns M n l _ page b plain sound untold h stays = (h, stays)

-- the slots that a new round asks stay
pub asks_stay :
    (l : Lender) (used word : ℕ) → IsReached l → ((m : Lender) → IsReached m → AsksStaying m.round m.slots)
    → host l used word ≡ open_round (measure_after l used) (asked_slots (measure_after l used) word) → (i : ℕ)
    → has (asked_slots (measure_after l used) word) i ≡ true
    → is_staying (slot_in l.slots i) ≡ true
asks_stay l used word reached live is i inside =
    let P : Turn → Type 0 = λ t. AsksStaying t.lender.round t.lender.slots in
    let alive : IsLive (round_at_start (asked_slots (measure_after l used) word) (to_evict (measure_after l used))) l.slots =
    subst P is (live (host l used word).lender (reached_more l (Hosts used word) reached)) in
    alive.waits i (all_three (has (asked_slots (measure_after l used) word) i) (has 0 i) (has 0 i) inside (has-zero i) (has-zero i))
  where
    all_three : (a b c : Bool) → a ≡ true → b ≡ false → c ≡ false → (a && not b && not c) ≡ true
    all_three a b c e f g = cc

-- a host is measured
pub host_turns :
    (M : Lease → Type 0) (n : Link) (l : Lender) (used word : ℕ) (b : Lane) → IsReached l → ((m : Lender) → IsReached m → AsksStaying m.round m.slots)
    → InTurn M b.parcels → Stays M l.slots b
    → InTurn M (forward_after n b (host l used word).parcels).parcels × Stays M (host l used word).lender.slots (forward_after n b (host l used word).parcels)
host_turns M n l used word b reached live h stays =
    cond_both (opens (measure_after l used)) _ _
    (λ (t : Turn). (host l used word ≡ t) → InTurn M (forward_after n b t.parcels).parcels × Stays M t.lender.slots (forward_after n b t.parcels))
    (λ _ is. opens_round is) (λ _ is. (h, stays)) refl
  where
    now : Lender
    now = measure_after l used

    set : ℕ
    set = asked_slots (measure_after l used) word

    opens_round :
        host l used word ≡ open_round (measure_after l used) (asked_slots (measure_after l used) word)
        → InTurn M (forward_after n b (parcels_told notice.AskRates (asked_slots (measure_after l used) word) 0 l.slots)).parcels
        × Stays M l.slots (forward_after n b (parcels_told notice.AskRates (asked_slots (measure_after l used) word) 0 l.slots))
    opens_round is = (
      asks_turn M n (asked_slots (measure_after l used) word) 0 l.slots b h
          (λ open_ i m t k e inside held.
          stays open_ i m t k
          (staying_is (slot_in l.slots i) m t k e held (all_stay is i (subst (λ x. has (asked_slots (measure_after l used) word) x
          ≡ true) (omega arith) inside)))),
      λ open_ i m t k held. asks_after M n (asked_slots (measure_after l used) word) 0 l.slots b k (λ e. stays e i m t k held) open_,
    )
      where
        staying_is : (x : SlotState) (m : Link) (t : Slab) (k : Lease) (e : Bool) → x ≡ Held m t k e → is_staying x ≡ true → x ≡ Held m t k false
        staying_is x m t k true is at = absurd (both_ways (is_staying x) (ap is_staying is) at)
        staying_is x m t k false is at = is

        all_stay :
            host l used word ≡ open_round (measure_after l used) (asked_slots (measure_after l used) word) → (i : ℕ)
            → has (asked_slots (measure_after l used) word) i ≡ true
            → is_staying (slot_in l.slots i) ≡ true
        all_stay is i inside = asks_stay l used word reached live is i inside

-- a request is served: its reply comes, and where it lends a slot, the reply names the lease
pub posted_own : (n : Link) (b : Lane) (q : Parcel) → post_after n b n q ≡ append_after b q
posted_own n b q = cond-true (n.0 == n.0) (append_after b q) b (eq-eqb n.0 n.0 refl)

request_turns : (M : Lease → Type 0) (n : Link) (l : Lender) (m : Msg) (page : List ℕ) (b : Lane) → is_request m ≡ true → InTurn M b.parcels → Stays M l.slots b
    → InTurn M (forward_after n b (serve l n m page).parcels).parcels × Stays M (serve l n m page).lender.slots (forward_after n b (serve l n m page).parcels)
request_turns M n l (msg.Query slab) page b asks h stays =
    let q : Parcel = parcel_of (msg.Room slab (slots_free l)) [] in
    subst (λ (z : Lane). InTurn M z.parcels × Stays M l.slots z) (sym (posted_own n b q)) (turn_reply M b q refl h, stays_reply M l.slots b q refl stays)
request_turns M n l (msg.Borrow slab) page b asks h stays =
    cond_both (lends l) _ _ (λ (t : Turn). InTurn M (forward_after n b t.parcels).parcels × Stays M t.lender.slots (forward_after n b t.parcels))
    (λ _. let q : Parcel = parcel_of (msg.Lent slab (record { 0 = l.next_lease })) [] in
    let slots : List SlotState = set l.slots (first_where is_free l.slots) (Held n slab (record { 0 = l.next_lease }) false) in
    subst (λ (z : Lane). InTurn M z.parcels × Stays M slots z) (sym (posted_own n b q))
    (turn_reply M b q refl h, stays_lent M l.slots b q (first_where is_free l.slots) n slab (record { 0 = l.next_lease }) refl stays))
    (λ _. let q : Parcel = parcel_of (msg.Refused slab) [] in
    subst (λ (z : Lane). InTurn M z.parcels × Stays M l.slots z) (sym (posted_own n b q)) (turn_reply M b q refl h, stays_reply M l.slots b q refl stays))
request_turns M n l (msg.Write lease place) page b asks h stays =
    let q : Parcel = parcel_of (msg.Wrote lease place) [] in
    subst (λ (z : Lane). InTurn M z.parcels × Stays M l.slots z) (sym (posted_own n b q)) (turn_reply M b q refl h, stays_reply M l.slots b q refl stays)
request_turns M n l (msg.Read lease place) page b asks h stays =
    let q : Parcel = parcel_of (msg.PageIs lease place) (page_in l.contents (slot_of l n lease) place) in
    subst (λ (z : Lane). InTurn M z.parcels × Stays M l.slots z) (sym (posted_own n b q)) (turn_reply M b q refl h, stays_reply M l.slots b q refl stays)
request_turns M n l _ page b asks h stays = cc

pub served_turns :
    (M : Lease → Type 0) (n : Link) (l : Lender) (m : Msg) (page : List ℕ) (b : Lane) → IsSound l → AsksUntold l.round l.slots → InTurn M b.parcels
    → Stays M l.slots b
    → InTurn M (forward_after n b (serve l n m page).parcels).parcels × Stays M (serve l n m page).lender.slots (forward_after n b (serve l n m page).parcels)
served_turns M n l m page b sound untold h stays = go (is_request m) refl
  where
    go :
        (asks : Bool) → is_request m ≡ asks
        → InTurn M (forward_after n b (serve l n m page).parcels).parcels
        × Stays M (serve l n m page).lender.slots (forward_after n b (serve l n m page).parcels)
    go true asks = request_turns M n l m page b asks h stays
    go false plain = serve_turns M n l m page b plain sound untold h stays
