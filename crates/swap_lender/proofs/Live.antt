-- An open round waits only for slots that are held and not being evicted.
use Rattle.std.proofs.Common.{◌≡◌, ◌≢◌, ℕ, zero, suc, ◌+◌, ◌<◌, ◌/◌, ◌%◌, ◌^◌, Bool, true, false, ◌&&◌, not, cond, if◌then◌else◌, List, [], ◌∷◌, ◌++◌, length, map, get_or, set, take, drop, bit_or, Option, None, Some, refl, sym, subst, arith, inl, inr, ⊎_elim, eq-eqb}
use Rattle.std.specs.Prelude.{◌⊎◌, option_map, remove}
use Rattle.std.specs.Int.{bit_at}
use Rattle.std.specs.List.{fold, filter, range_with_len}
use Rattle.std.proofs.lemmas.Bool.{eqb-true, cases_eq}
use Rattle.std.proofs.lemmas.Nat.Bits.{bit_at_or, bit_at-lt, bit_at-pow_same, bit_at-pow_other, bit_at-zero}
use Rattle.swap_base.specs.declared.Link.{Link}
use Rattle.swap_base.specs.declared.Slab.{Slab}
use Rattle.swap_base.specs.declared.Lease.{Lease}
use Rattle.swap_wire.specs.declared.Msg.{Msg}
use Rattle.swap_choice.specs.Slots.{has, slots, set_of}
use Rattle.swap_choice.specs.Picks.{first_picks, picks}
use Rattle.swap_evict.specs.Rounds.{Round, answer, leave, waits_for}
use Rattle.swap_lender.specs.declared.SlotState.{SlotState}
use Rattle.swap_lender.specs.declared.SlotState.TheVariants.{Free, Held}
use Rattle.swap_lender.specs.Lender.{Lender, lender_at_start, slot_in, is_free, is_of, is_staying, is_evicting, first_where, numbers_where, slot_of, holds, lends}
use Rattle.swap_lender.specs.Table.{Turn, took_after, host, gone_after, settle, free_slot, round_left, without_peer, lend, measure_after, has_room, staying_slots, to_ask, asked_slots}
use Rattle.swap_lender.specs.Calls.{Call, Arrive, Took, Host, Gone, Restart, step, run, IsLive, AsksStaying, LiveRounds}
use Rattle.swap_lender.proofs.Steps.{choose, took_each, settle_each, host_each}
use Rattle.swap_base.proofs.Bools.{and_first, and_second}

-- bits

has_or : (s x i : ℕ) → has s i ≡ true → has (bit_or s (2 ^ x)) i ≡ true
has_or s x i e =
    let one : bit_at s i ≡ 1 = eqb-true (bit_at s i) 1 e in
    eq-eqb (bit_at (bit_or s (2 ^ x)) i) 1 (omega (arith, bit_at_or s (2 ^ x) i, one, bit_at-lt (2 ^ x) i))

has_new : (s x : ℕ) → has (bit_or s (2 ^ x)) x ≡ true
has_new s x = eq-eqb (bit_at (bit_or s (2 ^ x)) x) 1 (omega (arith, bit_at_or s (2 ^ x) x, bit_at-pow_same x, bit_at-lt s x))

or_has : (s x i : ℕ) → has (bit_or s (2 ^ x)) i ≡ true → (has s i ≡ true) ⊎ (i ≡ x)
or_has s x i e =
    let one : bit_at (bit_or s (2 ^ x)) i ≡ 1 = eqb-true (bit_at (bit_or s (2 ^ x)) i) 1 e in
    ⊎_elim (λ (same : i ≡ x). inr same)
    (λ (other : i ≢ x). inl (eq-eqb (bit_at s i) 1 (omega (arith, bit_at_or s (2 ^ x) i, one, bit_at-pow_other x i other))))
    (cases_eq i x)

-- what holds of every number of a list

abbrev Each : (ℕ → Type 0) → List ℕ → Type 0
Each P [] = Unit {0}
Each P (x ∷ xs) = P x × Each P xs

each_take : (P : ℕ → Type 0) (n : ℕ) (xs : List ℕ) → Each P xs → Each P (take n xs)
each_take P zero xs e = tt
each_take P (suc n) [] e = tt
each_take P (suc n) (x ∷ xs) e = (e.0, each_take P n xs e.1)

each_drop : (P : ℕ → Type 0) (n : ℕ) (xs : List ℕ) → Each P xs → Each P (drop n xs)
each_drop P zero xs e = e
each_drop P (suc n) [] e = tt
each_drop P (suc n) (x ∷ xs) e = each_drop P n xs e.1

each_append : (P : ℕ → Type 0) (xs ys : List ℕ) → Each P xs → Each P ys → Each P (xs ++ ys)
each_append P [] ys e f = f
each_append P (x ∷ xs) ys e f = (e.0, each_append P xs ys e.1 f)

each_get : (P : ℕ → Type 0) (xs : List ℕ) (i d : ℕ) → i < length xs → Each P xs → P (get_or xs i d)
each_get P [] i d lt e = absurd (omega arith)
each_get P (x ∷ xs) zero d lt e = e.0
each_get P (x ∷ xs) (suc i) d lt e = each_get P xs i d (omega arith) e.1

each_pick : (P : ℕ → Type 0) (n word : ℕ) (xs : List ℕ) → Each P xs → Each P (first_picks n word xs)
each_pick P zero word xs e = tt
each_pick P (suc n) word [] e = tt
each_pick P (suc n) word (x ∷ xs) e =
    let k = word % length (x ∷ xs) in (
      each_get P (x ∷ xs) k 0 (omega arith) e,
      each_pick P n (word / length (x ∷ xs)) (remove (x ∷ xs) k)
          (each_append P (take k (x ∷ xs)) (drop (suc k) (x ∷ xs)) (each_take P k (x ∷ xs) e) (each_drop P (suc k) (x ∷ xs) e)),
    )

filter_if : (P : ℕ → Type 0) (b : Bool) (x : ℕ) (rest : List ℕ) → (b ≡ true → P x) → Each P rest → Each P (cond b (x ∷ rest) rest)
filter_if P true x rest here e = (here refl, e)
filter_if P false x rest here e = e

each_filter : (test : ℕ → Bool) (xs : List ℕ) → Each (λ i. test i ≡ true) (filter test xs)
each_filter test [] = tt
each_filter test (x ∷ xs) = filter_if (λ i. test i ≡ true) (test x) x (filter test xs) (λ e. e) (each_filter test xs)

each_slot : (s : ℕ) → Each (λ i. has s i ≡ true) (slots s)
unfolding slots
each_slot s = each_filter (has s) (range_with_len 0 64)

-- who is in the set of a list
in_set : (P : ℕ → Type 0) (s i : ℕ) (xs : List ℕ) → (has s i ≡ true → P i) → Each P xs → has (fold (λ set slot. bit_or set (2 ^ slot)) s xs) i ≡ true → P i
in_set P s i [] before e h = before h
in_set P s i (x ∷ xs) before e h =
    in_set P (bit_or s (2 ^ x)) i xs
    (λ (now : has (bit_or s (2 ^ x)) i ≡ true). ⊎_elim before (λ (same : i ≡ x). subst P (sym same) e.0) (or_has s x i now)) e.1 h

in_set_of : (P : ℕ → Type 0) (i : ℕ) (xs : List ℕ) → Each P xs → has (set_of xs) i ≡ true → P i
in_set_of P i xs e h =
    in_set P 0 i xs
    (λ (none : has 0 i ≡ true).
    absurd (let zero_bit : bit_at 0 i ≡ 0 = bit_at-zero i in let one : bit_at 0 i ≡ 1 = eqb-true (bit_at 0 i) 1 none in omega (arith, zero_bit, one)))
    e h

numbers_if : (P : ℕ → Type 0) (b : Bool) (x : ℕ) (rest : List ℕ) → (b ≡ true → P x) → Each P rest → Each P (if b then x ∷ rest else rest)
numbers_if P true x rest here e = (here refl, e)
numbers_if P false x rest here e = e

each_number :
    (P : ℕ → Type 0) (test : SlotState → Bool) (from : ℕ) (states : List SlotState) → ((i : ℕ) → test (get_or states i Free) ≡ true → P (from + i))
    → Each P (numbers_where test from states)
each_number P test from [] here = tt
each_number P test from (state ∷ states) here =
    numbers_if P (test state) from (numbers_where test (from + 1) states) (λ e. subst P (omega arith) (here 0 e))
    (each_number P test (from + 1) states (λ i e. subst P (omega arith) (here (suc i) e)))

-- the slots that a round asks stay
asked_stay : (l : Lender) (word i : ℕ) → has (asked_slots l word) i ≡ true → is_staying (slot_in l.slots i) ≡ true
asked_stay l word i e =
    let kept : has (staying_slots l) i ≡ true =
    in_set_of (λ k. has (staying_slots l) k ≡ true) i (take (to_ask l) (picks word (slots (staying_slots l))))
    (each_take (λ k. has (staying_slots l) k ≡ true) (to_ask l) (picks word (slots (staying_slots l)))
    (each_pick (λ k. has (staying_slots l) k ≡ true) (length (slots (staying_slots l))) word (slots (staying_slots l)) (each_slot (staying_slots l))))
    e in
    in_set_of (λ k. is_staying (slot_in l.slots k) ≡ true) i (numbers_where is_staying 0 l.slots)
    (each_number (λ k. is_staying (slot_in l.slots k) ≡ true) is_staying 0 l.slots
    (λ k h. subst (λ n. is_staying (slot_in l.slots n) ≡ true) (omega arith) h))
    kept

-- rounds

first_of : (a b c : Bool) → (a && not b && not c) ≡ true → a ≡ true
first_of true b c e = refl
first_of false b c e = e

not_true : (b : Bool) → not b ≡ true → b ≡ true → ⊥
not_true true e f = cc
not_true false e f = cc

not_so : (b : Bool) → (b ≡ true → ⊥) → b ≡ false
not_so true e = absurd (e refl)
not_so false e = refl

pub all_three : (a b c : Bool) → a ≡ true → b ≡ false → c ≡ false → (a && not b && not c) ≡ true
all_three a b c e f g = cc

-- a slot is waited for where it was, with fewer answers and fewer gone
waited : (a b b2 c c2 : Bool) → (b ≡ true → b2 ≡ true) → (c ≡ true → c2 ≡ true) → (a && not b2 && not c2) ≡ true → (a && not b && not c) ≡ true
waited a b b2 c c2 f g e =
    let front : (a && not b2) ≡ true = and_first (a && not b2) (not c2) e in
    all_three a b c (and_first a (not b2) front) (not_so b (λ h. not_true b2 (and_second a (not b2) front) (f h)))
    (not_so c (λ h. not_true c2 (and_second (a && not b2) (not c2) e) (g h)))

answer_waits : (r : Round) (slot value i : ℕ) → waits_for (answer slot value r) i ≡ true → waits_for r i ≡ true
answer_waits r slot value i e =
    waited (has r.asked i) (has r.answered i) (has (bit_or r.answered (2 ^ slot)) i) (has r.gone i) (has r.gone i) (has_or r.answered slot i) (λ g. g) e

leave_waits : (r : Round) (slot i : ℕ) → waits_for (leave slot r) i ≡ true → waits_for r i ≡ true
leave_waits r slot i e =
    waited (has r.asked i) (has r.answered i) (has r.answered i) (has r.gone i) (has (bit_or r.gone (2 ^ slot)) i) (λ g. g) (has_or r.gone slot i) e

left_waits : (xs : List ℕ) (r : Round) (i : ℕ) → waits_for (fold (λ r slot. leave slot r) r xs) i ≡ true → waits_for r i ≡ true
left_waits [] r i e = e
left_waits (x ∷ xs) r i e = leave_waits r x i (left_waits xs (leave x r) i e)

gone_stays : (xs : List ℕ) (r : Round) (i : ℕ) → has r.gone i ≡ true → has (fold (λ r slot. leave slot r) r xs).gone i ≡ true
gone_stays [] r i e = e
gone_stays (x ∷ xs) r i e = gone_stays xs (leave x r) i (has_or r.gone x i e)

gone_if :
    (b : Bool) (from : ℕ) (rest : List ℕ) (r : Round) → b ≡ true → has (fold (λ r slot. leave slot r) r (if b then from ∷ rest else rest)).gone from ≡ true
gone_if true from rest r e = gone_stays rest (leave from r) from (has_new r.gone from)
gone_if false from rest r e = absurd (cc)

gone_later :
    (b : Bool) (from : ℕ) (rest : List ℕ) (r : Round) (i : ℕ) → ((r2 : Round) → has (fold (λ r slot. leave slot r) r2 rest).gone i ≡ true)
    → has (fold (λ r slot. leave slot r) r (if b then from ∷ rest else rest)).gone i ≡ true
gone_later true from rest r i e = e (leave from r)
gone_later false from rest r i e = e r

gone_there :
    (link : Link) (states : List SlotState) (from i : ℕ) (r : Round) → is_of link (get_or states i Free) ≡ true
    → has (fold (λ r slot. leave slot r) r (numbers_where (is_of link) from states)).gone (from + i) ≡ true
gone_there link [] from i r e = absurd (cc)
gone_there link (state ∷ states) from zero r e =
    subst (λ n. has (fold (λ r slot. leave slot r) r (numbers_where (is_of link) from (state ∷ states))).gone n ≡ true) (omega arith)
    (gone_if (is_of link state) from (numbers_where (is_of link) (from + 1) states) r e)
gone_there link (state ∷ states) from (suc i) r e =
    subst (λ n. has (fold (λ r slot. leave slot r) r (numbers_where (is_of link) from (state ∷ states))).gone n ≡ true) (omega arith)
    (gone_later (is_of link state) from (numbers_where (is_of link) (from + 1) states) r (from + 1 + i) (λ r2. gone_there link states (from + 1) i r2 e))

last_of : (a b c : Bool) → (a && not b && not c) ≡ true → c ≡ true → ⊥
last_of a b c e f = not_true c (and_second (a && not b) (not c) e) f

-- slots

freed_stays :
    (link : Link) (states : List SlotState) (i : ℕ) → (is_of link (get_or states i Free) ≡ true → ⊥) → is_staying (get_or states i Free) ≡ true
    → is_staying (get_or (map (free_slot link) states) i Free) ≡ true
freed_stays link [] i other e = e
freed_stays link (state ∷ states) zero other e =
    elim (is_of link state) as (λ b. (b ≡ true → ⊥) → is_staying (if b then Free else state) ≡ true) [ true ↦ λ o. absurd (o refl) | false ↦ λ o. e ] other
freed_stays link (state ∷ states) (suc i) other e = freed_stays link states i other e

not_both_stay : (state : SlotState) → is_evicting state ≡ true → is_staying state ≡ true → ⊥
not_both_stay Free e f = cc
not_both_stay (Held link slab lease true) e f = cc
not_both_stay (Held link slab lease false) e f = cc

done_stays :
    (states : List SlotState) (k i : ℕ) → is_evicting (get_or states k Free) ≡ true → is_staying (get_or states i Free) ≡ true
    → is_staying (get_or (set states k Free) i Free) ≡ true
done_stays [] k i e f = f
done_stays (state ∷ states) zero zero e f = absurd (not_both_stay state e f)
done_stays (state ∷ states) zero (suc i) e f = f
done_stays (state ∷ states) (suc k) zero e f = f
done_stays (state ∷ states) (suc k) (suc i) e f = done_stays states k i e f

lent_stays :
    (states : List SlotState) (k i : ℕ) (link : Link) (slab : Slab) (lease : Lease) → is_staying (get_or states i Free) ≡ true
    → is_staying (get_or (set states k (Held link slab lease false)) i Free) ≡ true
lent_stays [] k i link slab lease f = f
lent_stays (state ∷ states) zero zero link slab lease f = refl
lent_stays (state ∷ states) zero (suc i) link slab lease f = f
lent_stays (state ∷ states) (suc k) zero link slab lease f = f
lent_stays (state ∷ states) (suc k) (suc i) link slab lease f = lent_stays states k i link slab lease f

-- a round goes on to wait for staying slots where it waits for no others than before, and these stay
live_on :
    (r r2 : Round) (states states2 : List SlotState) → ((i : ℕ) → waits_for r2 i ≡ true → waits_for r i ≡ true)
    → ((i : ℕ) → waits_for r2 i ≡ true → is_staying (slot_in states i) ≡ true → is_staying (slot_in states2 i) ≡ true) → IsLive r states → IsLive r2 states2
live_on r r2 states states2 f g live = record { waits = λ i e. g i e (live.waits i (f i e)) }

asks_slots :
    (o : Option Round) (states states2 : List SlotState) → ((i : ℕ) → is_staying (slot_in states i) ≡ true → is_staying (slot_in states2 i) ≡ true)
    → AsksStaying o states → AsksStaying o states2
asks_slots None states states2 g live = tt
asks_slots (Some r) states states2 g live = live_on r r states states2 (λ i e. e) (λ i e. g i) live

abbrev TurnLive : Turn → Type 0
TurnLive t = AsksStaying t.lender.round t.lender.slots

settle_live : (l : Lender) → AsksStaying l.round l.slots → TurnLive (settle l)
settle_live l live = settle_each TurnLive l live (λ told_to. tt)

rates_live : (o : Option Round) (states : List SlotState) (slot value : ℕ) → AsksStaying o states → AsksStaying (option_map (answer slot value) o) states
rates_live None states slot value live = tt
rates_live (Some r) states slot value live = live_on r (answer slot value r) states states (λ i e. answer_waits r slot value i e) (λ i e f. f) live

left_live :
    (o : Option Round) (link : Link) (states : List SlotState) → AsksStaying o states
    → AsksStaying (option_map (round_left link states) o) (map (free_slot link) states)
left_live None link states live = tt
left_live (Some r) link states live =
    live_on r (round_left link states r) states (map (free_slot link) states) (λ i e. left_waits (numbers_where (is_of link) 0 states) r i e)
    (λ i e f.
    freed_stays link states i
    (λ mine.
    last_of (has (round_left link states r).asked i) (has (round_left link states r).answered i) (has (round_left link states r).gone i) e
    (subst (λ n. has (round_left link states r).gone n ≡ true) (omega arith) (gone_there link states 0 i r mine)))
    f)
    live

took_live : (l : Lender) (link : Link) (m : Msg) (page : List ℕ) → AsksStaying l.round l.slots → TurnLive (took_after l link m page)
took_live l link m page live =
    took_each TurnLive l link m page
    (record {
      quiet = live;
      hello = live;
      query = λ slab. live;
      borrow =
          λ slab may.
          choose TurnLive (lends l) (lend l link slab (first_where is_free l.slots)) _
          (λ _. asks_slots l.round l.slots _ (λ i e. lent_stays l.slots (first_where is_free l.slots) i link slab (record { 0 = l.next_lease }) e) live)
          live;
      write = λ lease place. live;
      read = λ lease place. live;
      rates =
          λ lease value.
          settle_live (record l { round = option_map (answer (slot_of l link lease) value) l.round })
          (rates_live l.round l.slots (slot_of l link lease) value live);
      done =
          λ lease may.
          asks_slots l.round l.slots _
          (λ i e.
          done_stays l.slots (slot_of l link lease) i (and_second (holds l link lease) (is_evicting (slot_in l.slots (slot_of l link lease))) may) e)
          live;
    })

host_live : (l : Lender) (usage word : ℕ) → AsksStaying l.round l.slots → TurnLive (host l usage word)
host_live l usage word live =
    host_each TurnLive l usage word live
    (record { waits = λ i e. asked_stay (measure_after l usage) word i (first_of (has (asked_slots (measure_after l usage) word) i) (has 0 i) (has 0 i) e) })

gone_live : (l : Lender) (link : Link) → AsksStaying l.round l.slots → TurnLive (gone_after l link)
gone_live l link live =
    settle_live (record l { slots = map (free_slot link) l.slots; peers = without_peer link l.peers; round = option_map (round_left link l.slots) l.round })
    (left_live l.round link l.slots live)

if_live :
    (b : Bool) (l m : Lender) → AsksStaying l.round l.slots → AsksStaying m.round m.slots → AsksStaying (if b then l else m).round (if b then l else m).slots
if_live true l m p q = p
if_live false l m p q = q

step_live : (l : Lender) (call : Call) → AsksStaying l.round l.slots → TurnLive (step l call)
step_live l (Arrive link) live = if_live (has_room l) _ l live live
step_live l (Took link m page) live = took_live l link m page live
step_live l (Host usage word) live = host_live l usage word live
step_live l (Gone link) live = gone_live l link live
step_live l Restart live = tt

run_live : (l : Lender) (calls : List Call) → AsksStaying l.round l.slots → AsksStaying (run l calls).round (run l calls).slots
run_live l [] live = live
run_live l (call ∷ calls) live = run_live (step l call).lender calls (step_live l call live)

pub live_rounds : LiveRounds
live_rounds s calls = run_live (lender_at_start s) calls tt
