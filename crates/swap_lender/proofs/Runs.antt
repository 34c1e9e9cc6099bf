-- What each call keeps, every list of calls keeps.
use Rattle.std.proofs.Common.{◌≡◌, ℕ, suc, ◌+◌, Bool, true, false, ◌&&◌, not, if◌then◌else◌, List, [], ◌∷◌, ◌++◌, length, map, refl, sym, ap, ◌∙◌, arith, inl, inr, ⊎_elim}
use Rattle.std.specs.Prelude.{◌⊎◌, ◌||◌, option_map}
use Rattle.std.specs.List.{list_any, range_with_len}
use Rattle.swap_base.specs.declared.Link.{Link}
use Rattle.swap_base.specs.declared.Slab.{Slab}
use Rattle.swap_wire.specs.declared.Msg.{Msg}
use Rattle.swap_wire.specs.Fabric.{Parcel}
use Rattle.swap_choice.specs.Slots.{has}
use Rattle.swap_evict.specs.Rounds.{answer}
use Rattle.swap_lender.specs.declared.Notice.{Notice}
use Rattle.swap_lender.specs.declared.Notice.TheVariants.{AskRates, Evict}
use Rattle.swap_lender.specs.declared.SlotState.{SlotState}
use Rattle.swap_lender.specs.declared.SlotState.TheVariants.{Free, Held}
use Rattle.swap_lender.specs.Lender.{Lender, lender_at_start, is_for, is_free, first_where, slot_of, has_greeted, lends}
use Rattle.swap_lender.specs.Table.{Turn, took_after, gone_after, settle, free_slot, round_left, without_peer, may_borrow, lend, borrow, tell_slot, parcels_told, has_room}
use Rattle.swap_lender.specs.Calls.{IsOwned, Call, Arrive, Took, Host, Gone, Restart, step, run, lent_in, leases_lent, is_restart, AlwaysOwned, LeasesInOrder, SizesStay}
use Rattle.swap_lender.proofs.Steps.{choose, took_each, settle_each, host_each, took_lending, host_lending, gone_lending}
use Rattle.swap_lender.proofs.Owned.{owned_part, part_free, part_freed, part_marked, owned_lent, owned_fresh}

-- owned

abbrev TurnOwned : Turn → Type 0
TurnOwned t = IsOwned t.lender.slots t.lender.next_lease

not_both : (a b : Bool) → (a && not b) ≡ true → b ≡ false
not_both true true e = sym e
not_both true false e = refl
not_both false b e = absurd (cc)

settle_owned : (l : Lender) → IsOwned l.slots l.next_lease → TurnOwned (settle l)
settle_owned l owned = settle_each TurnOwned l owned (λ told_to. owned_part _ l.slots l.next_lease (part_marked told_to l.slots) owned)

borrow_owned : (l : Lender) (link : Link) (slab : Slab) → IsOwned l.slots l.next_lease → may_borrow l link slab ≡ true → TurnOwned (borrow l link slab)
borrow_owned l link slab owned may =
    choose TurnOwned (lends l) (lend l link slab (first_where is_free l.slots)) _
    (λ _.
    owned_lent l.slots (first_where is_free l.slots) link slab l.next_lease (not_both (has_greeted l link) (list_any (is_for link slab) l.slots) may) owned)
    owned

took_owned : (l : Lender) (link : Link) (m : Msg) (page : List ℕ) → IsOwned l.slots l.next_lease → TurnOwned (took_after l link m page)
took_owned l link m page owned =
    took_each TurnOwned l link m page
    (record {
      quiet = owned;
      hello = owned;
      query = λ slab. owned;
      borrow = λ slab may. borrow_owned l link slab owned may;
      write = λ lease place. owned;
      read = λ lease place. owned;
      rates = λ lease value. settle_owned (record l { round = option_map (answer (slot_of l link lease) value) l.round }) owned;
      done = λ lease may. owned_part _ l.slots l.next_lease (part_free l.slots (slot_of l link lease)) owned;
    })

gone_owned : (l : Lender) (link : Link) → IsOwned l.slots l.next_lease → TurnOwned (gone_after l link)
gone_owned l link owned =
    settle_owned (record l { slots = map (free_slot link) l.slots; peers = without_peer link l.peers; round = option_map (round_left link l.slots) l.round })
    (owned_part _ l.slots l.next_lease (part_freed link l.slots) owned)

if_lender : (P : Lender → Type 0) (b : Bool) (l m : Lender) → P l → P m → P (if b then l else m)
if_lender P true l m p q = p
if_lender P false l m p q = q

step_owned : (l : Lender) (call : Call) → IsOwned l.slots l.next_lease → TurnOwned (step l call)
step_owned l (Arrive link) owned = if_lender (λ m. IsOwned m.slots m.next_lease) (has_room l) _ l owned owned
step_owned l (Took link m page) owned = took_owned l link m page owned
step_owned l (Host usage word) owned = host_each TurnOwned l usage word owned owned
step_owned l (Gone link) owned = gone_owned l link owned
step_owned l Restart owned = owned_fresh l.lending.spec.slots 0

run_owned : (l : Lender) (calls : List Call) → IsOwned l.slots l.next_lease → IsOwned (run l calls).slots (run l calls).next_lease
run_owned l [] owned = owned
run_owned l (call ∷ calls) owned = run_owned (step l call).lender calls (step_owned l call owned)

pub always_owned : AlwaysOwned
always_owned s calls = run_owned (lender_at_start s) calls (owned_fresh s.spec.slots 0)

-- leases

-- no lease is lent, or the next one
abbrev LendsNext : Lender → Turn → Type 0
LendsNext l t =
    ((lent_in t.parcels ≡ []) × (t.lender.next_lease ≡ l.next_lease)) ⊎ ((lent_in t.parcels ≡ l.next_lease ∷ []) × (t.lender.next_lease ≡ l.next_lease + 1))

tell_lends_none : (kind : Notice) (b : Bool) (state : SlotState) (rest : List (Link × Parcel)) → lent_in (tell_slot kind b state ++ rest) ≡ lent_in rest
tell_lends_none kind false state rest = refl
tell_lends_none kind true Free rest = refl
tell_lends_none AskRates true (Held link slab lease evicting) rest = refl
tell_lends_none Evict true (Held link slab lease evicting) rest = refl

told_lends_none : (kind : Notice) (told_to from : ℕ) (slots : List SlotState) → lent_in (parcels_told kind told_to from slots) ≡ []
told_lends_none kind told_to from [] = refl
told_lends_none kind told_to from (state ∷ slots) =
    tell_lends_none kind (has told_to from) state (parcels_told kind told_to (from + 1) slots) ∙ told_lends_none kind told_to (from + 1) slots

settle_lends : (l m : Lender) → m.next_lease ≡ l.next_lease → LendsNext l (settle m)
settle_lends l m same = settle_each (LendsNext l) m (inl (refl, same)) (λ told_to. inl (told_lends_none Evict told_to 0 m.slots, same))

took_lends : (l : Lender) (link : Link) (m : Msg) (page : List ℕ) → LendsNext l (took_after l link m page)
took_lends l link m page =
    took_each (LendsNext l) l link m page
    (record {
      quiet = inl (refl, refl);
      hello = inl (refl, refl);
      query = λ slab. inl (refl, refl);
      borrow = λ slab may. choose (LendsNext l) (lends l) (lend l link slab (first_where is_free l.slots)) _ (λ _. inr (refl, refl)) (inl (refl, refl));
      write = λ lease place. inl (refl, refl);
      read = λ lease place. inl (refl, refl);
      rates = λ lease value. settle_lends l (record l { round = option_map (answer (slot_of l link lease) value) l.round }) refl;
      done = λ lease may. inl (refl, refl);
    })

step_lends : (l : Lender) (call : Call) → is_restart call ≡ false → LendsNext l (step l call)
step_lends l (Arrive link) e = inl (refl, if_lender (λ m. m.next_lease ≡ l.next_lease) (has_room l) _ l refl refl)
step_lends l (Took link m page) e = took_lends l link m page
step_lends l (Host usage word) e = host_each (LendsNext l) l usage word (inl (refl, refl)) (inl (told_lends_none AskRates _ 0 l.slots, refl))
step_lends l (Gone link) e =
    settle_lends l (record l { slots = map (free_slot link) l.slots; peers = without_peer link l.peers; round = option_map (round_left link l.slots) l.round })
    refl
step_lends l Restart e = absurd (cc)

or_first : (a b : Bool) → (a || b) ≡ false → a ≡ false
or_first true b e = e
or_first false b e = refl

or_rest : (a b : Bool) → (a || b) ≡ false → b ≡ false
or_rest true b e = absurd (cc)
or_rest false b e = e

abbrev InOrder : ℕ → List ℕ → ℕ → Type 0
InOrder next leases after = (leases ≡ range_with_len next (length leases)) × (after ≡ next + length leases)

order_step :
    (next later after : ℕ) (now leases : List ℕ) → ((now ≡ []) × (later ≡ next)) ⊎ ((now ≡ next ∷ []) × (later ≡ next + 1)) → InOrder later leases after
    → InOrder next (now ++ leases) after
order_step next later after now leases c rest =
    ⊎_elim
    (λ (h : (now ≡ []) × (later ≡ next)).
    let listed : now ++ leases ≡ leases = ap (λ l. l ++ leases) h.0 in (
      listed ∙ rest.0 ∙ ap (λ n. range_with_len n (length leases)) h.1 ∙ sym (ap (λ l. range_with_len next (length l)) listed),
      rest.1 ∙ ap (λ n. n + length leases) h.1 ∙ sym (ap (λ l. next + length l) listed),
    ))
    (λ (h : (now ≡ next ∷ []) × (later ≡ next + 1)).
    let listed : now ++ leases ≡ next ∷ leases = ap (λ l. l ++ leases) h.0 in (
      listed ∙ ap (λ l. next ∷ l) (rest.0 ∙ ap (λ n. range_with_len n (length leases)) h.1) ∙ sym (ap (λ l. range_with_len next (length l)) listed),
      let size : length (now ++ leases) ≡ suc (length leases) = ap length listed in
          omega (arith, rest.1, h.1, size),
    ))
    c

pub leases_in_order : LeasesInOrder
leases_in_order l [] none = (refl, omega arith)
leases_in_order l (call ∷ calls) none =
    order_step l.next_lease (step l call).lender.next_lease (run (step l call).lender calls).next_lease (lent_in (step l call).parcels)
    (leases_lent (step l call).lender calls) (step_lends l call (or_first (is_restart call) (list_any is_restart calls) none))
    (leases_in_order (step l call).lender calls (or_rest (is_restart call) (list_any is_restart calls) none))

pub sizes_stay : SizesStay
sizes_stay l (Arrive link) = if_lender (λ m. m.lending ≡ l.lending) (has_room l) _ l refl refl
sizes_stay l (Took link m page) = took_lending l link m page
sizes_stay l (Host usage word) = host_lending l usage word
sizes_stay l (Gone link) = gone_lending l link
sizes_stay l Restart = refl
