-- Slots are held for links that have greeted.
use Rattle.std.proofs.Common.{◌≡◌, ℕ, inl, inr, Bool, true, false, cond, ◌==◌, ◌||◌, zero, suc, List, [], ◌∷◌, map, refl, sym, ap, ◌∙◌, subst, eq-eqb, Option, None, Some}
use Rattle.std.specs.Prelude.{not, option_map, replicate}
use Rattle.std.specs.List.{list_any}
use Rattle.std.proofs.lemmas.Bool.{cond_both, both_ways, eqb-true, and_parts, and_from}
use Rattle.swap_base.specs.declared.Slab.{Slab}
use Rattle.swap_base.specs.declared.Link.{Link}
use Rattle.swap_base.specs.declared.Lease.{Lease}
use Rattle.swap_wire.specs.declared.Msg.{Msg}
use Rattle.swap_wire.specs.declared.Msg.TheVariants as msg
use Rattle.swap_lender.specs.declared.SlotState.{SlotState}
use Rattle.swap_lender.specs.declared.SlotState.TheVariants.{Free, Held}
use Rattle.swap_lender.specs.declared.Peer.{Peer}
use Rattle.swap_lender.specs.Lender.{Lender, lender_at_start, slot_in, slot_of, has_greeted, is_greeted, is_peer, is_of, first_where, is_free, lends, is_for}
use Rattle.swap_lender.specs.Table.{Turn, serve, took_after, may_send, greet_peer, settle_with, slots_due, free_slot, round_left, without_peer, has_room, arrive, gone_after, restart, host, measure_after, opens}
use Rattle.swap_lender.specs.Calls.{Call, Arrive, Took, Host as Hosts, Gone, Restart, run}
use Rattle.swap_evict.specs.Rounds.{answer}
use Rattle.swap_joint.specs.Lenders.{IsReached}
use Rattle.swap_joint.proofs.Lenders.{EachKeeps}
use Rattle.swap_joint.proofs.Serving.{was_marked}
use Rattle.swap_joint.proofs.Granted.{freed_was, set_is}
use Rattle.swap_joint.proofs.Gives.{any_front}

abbrev HeldGreet : Lender → Type 0
HeldGreet l = (i : ℕ) (m : Link) (t : Slab) (k : Lease) (e : Bool) → slot_in l.slots i ≡ Held m t k e → has_greeted l m ≡ true

or_step : (a b c e : Bool) → (a ≡ true → b ≡ true) → (c ≡ true → e ≡ true) → (a || c) ≡ true → (b || e) ≡ true
or_step true b c e f g h = front b (f refl)
  where
    front : (b : Bool) → b ≡ true → (b || e) ≡ true
    front true x = refl
    front false x = cc
or_step false true c e f g h = refl
or_step false false c e f g h = g h

greet_keeps : (n m : Link) (p : Peer) → is_greeted m p ≡ true → is_greeted m (greet_peer n p) ≡ true
greet_keeps n m p h =
    cond_both (is_peer n p) _ _ (λ (x : Peer). is_greeted m x ≡ true) (λ _. and_from (p.link.0 == m.0) true (and_parts (p.link.0 == m.0) p.greeted h).0 refl)
    (λ _. h)

any_greets : (n m : Link) (ps : List Peer) → list_any (is_greeted m) ps ≡ true → list_any (is_greeted m) (map (greet_peer n) ps) ≡ true
any_greets n m [] h = h
any_greets n m (p ∷ ps) h = or_step (is_greeted m p) _ _ _ (greet_keeps n m p) (any_greets n m ps) h

any_stays : (n m : Link) (ps : List Peer) → (m.0 ≡ n.0 → ⊥) → list_any (is_greeted m) ps ≡ true → list_any (is_greeted m) (without_peer n ps) ≡ true
any_stays n m [] other h = h
any_stays n m (p ∷ ps) other h = go (not (is_peer n p)) refl (any_stays n m ps other) h
  where
    is_kept : is_greeted m p ≡ true → not (is_peer n p) ≡ true
    is_kept e = not_peer (is_peer n p) refl
      where
        not_peer : (b : Bool) → is_peer n p ≡ b → not b ≡ true
        not_peer true is = absurd (other (sym (eqb-true p.link.0 m.0 (and_parts (p.link.0 == m.0) p.greeted e).0) ∙ eqb-true p.link.0 n.0 is))
        not_peer false is = refl

    go :
        (b : Bool) → not (is_peer n p) ≡ b → (list_any (is_greeted m) ps ≡ true → list_any (is_greeted m) (without_peer n ps) ≡ true)
        → (is_greeted m p || list_any (is_greeted m) ps) ≡ true → list_any (is_greeted m) (cond b (p ∷ without_peer n ps) (without_peer n ps)) ≡ true
    go true is more h = or_step (is_greeted m p) (is_greeted m p) _ _ (λ e. e) more h
    go false is more h = dropped (is_greeted m p) refl h
      where
        dropped : (b : Bool) → is_greeted m p ≡ b → (b || list_any (is_greeted m) ps) ≡ true → list_any (is_greeted m) (without_peer n ps) ≡ true
        dropped true e h = absurd (both_ways (not (is_peer n p)) is (is_kept e))
        dropped false e h = more h

freed_other :
    (n : Link) (slots : List SlotState) (i : ℕ) (m : Link) (t : Slab) (k : Lease) (e : Bool) → slot_in (map (free_slot n) slots) i ≡ Held m t k e
    → (m.0 ≡ n.0 → ⊥) × (slot_in slots i ≡ Held m t k e)
freed_other n [] i m t k e h = cc
freed_other n (s ∷ ss) zero m t k e h = go s (is_of n s) refl h
  where
    go : (x : SlotState) (b : Bool) → is_of n x ≡ b → cond b Free x ≡ Held m t k e → (m.0 ≡ n.0 → ⊥) × (x ≡ Held m t k e)
    go x true is h = cc
    go x false is h = ((λ same. both_ways (is_of n x) is (ap (is_of n) h ∙ eq-eqb m.0 n.0 same)), h)
freed_other n (s ∷ ss) (suc i) m t k e h = freed_other n ss i m t k e h

greet_settle : (l : Lender) (o : Option ℕ) → HeldGreet l → HeldGreet (settle_with l o).lender
greet_settle l None h = h
greet_settle l (Some set_) h = λ i m t k e held. let was = was_marked set_ 0 l.slots i m t k e held in h i m t k was.0 was.1

greet_serve : (l : Lender) (n : Link) (m : Msg) (page : List ℕ) → may_send l n m ≡ true → HeldGreet l → HeldGreet (serve l n m page).lender
greet_serve l n (msg.Hello version page_bytes pages_per_slab) page may h = λ i m t k e held. any_greets n m l.peers (h i m t k e held)
greet_serve l n (msg.Borrow u) page may h = cond_both (lends l) _ _ (λ (x : Turn). HeldGreet x.lender)
    (λ _ i m t k e held. elim (set_is l.slots (first_where is_free l.slots) i (Held n u (record { 0 = l.next_lease }) false)) [
      | inl here ↦
          subst (λ (x : Link). has_greeted l x ≡ true) (link_is m t k e (sym here.1 ∙ held))
          (and_parts (has_greeted l n) (not (list_any (is_for n u) l.slots)) may).0
      | inr there ↦ h i m t k e (sym there ∙ held)
    ])
    (λ _. h)
  where
    link_is : (m : Link) (t : Slab) (k : Lease) (e : Bool) → Held n u (record { 0 = l.next_lease }) false ≡ Held m t k e → n ≡ m
    link_is m t k e is = cc
greet_serve l n (msg.Rates j value) page may h =
    greet_settle (record l { round = option_map (answer (slot_of l n j) value) l.round }) (slots_due (option_map (answer (slot_of l n j) value) l.round)) h
greet_serve l n (msg.Done j) page may h = λ i m t k e held. h i m t k e (freed_was l.slots (slot_of l n j) i m t k e held).1
greet_serve l n _ page may h = h

none_free : (count i : ℕ) (m : Link) (t : Slab) (k : Lease) (e : Bool) → slot_in (replicate count Free) i ≡ Held m t k e → ⊥
none_free zero i m t k e h = cc
none_free (suc count) zero m t k e h = cc
none_free (suc count) (suc i) m t k e h = none_free count i m t k e h

greet_each : EachKeeps HeldGreet
greet_each = record {
  arrives =
      λ l n h.
      cond_both (has_room l) _ _ HeldGreet (λ _ i m t k e held. any_front (is_greeted m) l.peers (record { link = n; greeted = false } ∷ []) (h i m t k e held))
      (λ _. h);
  takes = λ l n m page h. cond_both (may_send l n m) _ _ (λ (x : Turn). HeldGreet x.lender) (λ may. greet_serve l n m page may h) (λ _. h);
  hosts = λ l used word h. cond_both (opens (measure_after l used)) _ _ (λ (x : Turn). HeldGreet x.lender) (λ _. h) (λ _. h);
  leaves =
      λ l n h.
      greet_settle (record l { slots = map (free_slot n) l.slots; peers = without_peer n l.peers; round = option_map (round_left n l.slots) l.round })
      (slots_due (option_map (round_left n l.slots) l.round))
      (λ i m t k e held. let was = freed_other n l.slots i m t k e held in any_stays n m l.peers was.0 (h i m t k e was.1));
  restarts = λ l h i m t k e held. absurd (none_free l.lending.spec.slots i m t k e held);
}

run_keeps : (P : Lender → Type 0) → EachKeeps P → (l : Lender) (calls : List Call) → P l → P (run l calls)
run_keeps P each l [] h = h
run_keeps P each l (Arrive n ∷ calls) h = run_keeps P each (arrive l n) calls (each.arrives l n h)
run_keeps P each l (Took n m page ∷ calls) h = run_keeps P each (took_after l n m page).lender calls (each.takes l n m page h)
run_keeps P each l (Hosts used word ∷ calls) h = run_keeps P each (host l used word).lender calls (each.hosts l used word h)
run_keeps P each l (Gone n ∷ calls) h = run_keeps P each (gone_after l n).lender calls (each.leaves l n h)
run_keeps P each l (Restart ∷ calls) h = run_keeps P each (restart l) calls (each.restarts l h)

-- each held slot is of a link that has greeted
pub held_greeted : (l : Lender) → IsReached l → (i : ℕ) (m : Link) (t : Slab) (k : Lease) (e : Bool) → slot_in l.slots i ≡ Held m t k e → has_greeted l m ≡ true
held_greeted l r =
    subst HeldGreet (sym r.is)
    (run_keeps HeldGreet greet_each (lender_at_start r.lending) r.calls (λ i m t k e held. absurd (none_free r.lending.spec.slots i m t k e held)))
