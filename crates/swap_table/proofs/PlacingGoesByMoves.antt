-- The hottest local slab is asked for: the programs go by moves, and leave what a link that is used leaves.
use Rattle.std.proofs.Common.{◌≡◌, ℕ, ◌<◌, Bool, true, false, length, refl, sym, subst, Option, None, Some}
use Rattle.swap_base.specs.declared.Slab.{Slab}
use Rattle.swap_base.specs.declared.Lender.{Lender}
use Rattle.swap_wire.specs.declared.fabric.Sent.TheVariants as sent
use Rattle.swap_slabs.specs.Slabs as slabs
use Rattle.swap_slabs.specs.declared.SlabState.TheVariants.{Asking}
use Rattle.swap_rings.specs.Rings.{link_of, may_send}
use Rattle.swap_rates.specs.Table as rates
use Rattle.swap_rates.specs.lemmas.Hottest.{hottest_within}
use Rattle.swap_choice.specs.declared.lenders.Asked.{Asked}
use Rattle.swap_choice.specs.declared.lenders.Asked.TheVariants as picked
use Rattle.swap_choice.specs.Asked as choice
use Rattle.swap_remote.specs.Remote as remote
use Rattle.swap_remote.proofs.Asked.{asked_differ}
use Rattle.swap_table.specs.Ports.{Prog}
use Rattle.swap_table.specs.Device.{Device, lost_after, may_map, not_asked, query, placed_at, placed_beside, ask_one, ask_second, ask, place_at, place}
use Rattle.swap_table.specs.Goes.{Goes, ends, asks_fabric, by}
use Rattle.swap_table.specs.Moves.{Within, Speaker, quiet_speaker, Move, sends, finds_down}
use Rattle.swap_table.specs.Moves as moves
use Rattle.swap_base.proofs.Lists.{chosen}
use Rattle.swap_table.proofs.LinkTables.{state-same}
use Rattle.swap_table.proofs.MovesKeepInvariants.{Goes-implies, Goes-then, Goes-answering}
use Rattle.swap_table.proofs.LossesGoByMoves.{Leaves, leaves_trans, leaves_all, leaves_lost, leaves_sent, lose_passes}

module _ (W : Within) where
  -- a program that goes by moves from a device, ends at one that has what this one leaves, and answers by a test
  abbrev pub Answers : {R : Type 0} → (Device × R → Type 0) → Device → Speaker → Prog (Device × R) → Type 0
  Answers {R} P d s p = Goes (Move W) (λ (a : Device × R) t. (t ≡ quiet_speaker a.0) × Leaves W d a.0 × P a) s p

  abbrev pub Any : {R : Type 0} → Device × R → Type 0
  Any a = Unit {0}

  -- a lender is asked for a local slab, which asks it from then on
  abbrev Asks : Slab → Lender → Device × Bool → Type 0
  Asks t l a = a.1 ≡ true → slabs.state_of a.0.remote.slabs t ≡ Asking (slabs.pair_of l None)

  never : {P : Type 0} → false ≡ true → P
  never e = let no : ⊥ = cc in absurd no

  first_asked : (d : Device) (t : Slab) (l : Lender) → t.0 < length d.remote.slabs → Answers (Asks t l) d (quiet_speaker d) (query d t None l)
  first_asked d t l within =
      chosen (λ (p : Prog (Device × Bool)). Answers (Asks t l) d (quiet_speaker d) p) (may_map d t l) _ _
      (λ may.
      asks_fabric (elim [
        | sent.Sent ↦
            by (sends (moves.query within may)) (ends (refl, leaves_sent W d t _ l _, λ _. state-same d.remote.slabs t (Asking (slabs.pair_of l None)) within))
        | sent.Down ↦
            by (finds_down (moves.query within may))
            (Goes-answering (Move W) _ _ not_asked (λ e s q. (q.0, leaves_trans W d (lost_after d l) e (leaves_lost W d l) q.1, λ no. never no))
            (lose_passes W d l))
      ]))
      (λ _. ends (refl, leaves_all W d, λ no. never no))

  -- a second is asked beside the first
  second_asked :
      (d : Device) (t : Slab) (m l : Lender) → t.0 < length d.remote.slabs → slabs.state_of d.remote.slabs t ≡ Asking (slabs.pair_of m None) → (m.0 ≡ l.0 → ⊥)
      → Answers Any d (quiet_speaker d) (query d t (Some m) l)
  second_asked d t m l within state other =
      chosen (λ (p : Prog (Device × Bool)). Answers Any d (quiet_speaker d) p) (may_send d.sizes.window (link_of d.remote.links l)) _ _
      (λ may.
      asks_fabric (elim [
        | sent.Sent ↦ by (sends (moves.query_too within state other may)) (ends (refl, leaves_sent W d t _ l _, tt))
        | sent.Down ↦
            by (finds_down (moves.query_too within state other may))
            (Goes-answering (Move W) _ _ not_asked (λ e s q. (q.0, leaves_trans W d (lost_after d l) e (leaves_lost W d l) q.1, tt)) (lose_passes W d l))
      ]))
      (λ _. ends (refl, leaves_all W d, tt))

  one_asked : (d : Device) (t : Slab) (l : Lender) → t.0 < length d.remote.slabs → Answers Any d (quiet_speaker d) (ask_one d t l)
  one_asked d t l within = Goes-answering (Move W) _ _ (λ (r : Device × Bool). (r.0, placed_at t l r.1)) (λ a s q. (q.0, q.1, tt)) (first_asked d t l within)

  from : {R : Type 0} (d e : Device) (s : Speaker) (p : Prog (Device × R)) → s ≡ quiet_speaker e → Leaves W d e → Answers Any e (quiet_speaker e) p
      → Answers Any d s p
  from d e s p same leaves goes =
      let P : Speaker → Type 0 = λ x. Answers Any d x p in
      subst P (sym same) (Goes-implies (Move W) _ _ (λ a t q. (q.0, leaves_trans W d e a.0 leaves q.1, tt)) goes)

  two_asked :
      (d : Device) (t : Slab) (m l : Lender) → t.0 < length d.remote.slabs → (m.0 ≡ l.0 → ⊥) → (a : Device × Bool) (s : Speaker)
      → (s ≡ quiet_speaker a.0) × Leaves W d a.0 × Asks t m a → Answers Any d s (ask_second t m l a)
  two_asked d t m l within other (e, true) s q =
      let there : t.0 < length e.remote.slabs = subst (λ n. t.0 < n) (sym q.1.slabs) within in
      from d e s (ask_second t m l (e, true)) q.0 q.1
      (Goes-answering (Move W) _ _ (λ (r : Device × Bool). (r.0, placed_beside t m l r.1)) (λ a u r. (r.0, r.1, tt))
      (second_asked e t m l there (q.2 refl) other))
  two_asked d t m l within other (e, false) s q =
      let there : t.0 < length e.remote.slabs = subst (λ n. t.0 < n) (sym q.1.slabs) within in from d e s (ask_one e t l) q.0 q.1 (one_asked e t l there)

  ask_goes :
      (d : Device) (t : Slab) (asked : Asked) → t.0 < length d.remote.slabs → ((n m : ℕ) → asked ≡ picked.Two n m → n ≡ m → ⊥)
      → Answers Any d (quiet_speaker d) (ask d t asked)
  ask_goes d t picked.Nobody within other = ends (refl, leaves_all W d, tt)
  ask_goes d t (picked.One n) within other = one_asked d t (record { 0 = n }) within
  ask_goes d t (picked.Two n m) within other =
      Goes-then (Move W) _ _ (ask_second t (record { 0 = n }) (record { 0 = m }))
      (λ a s q. two_asked d t (record { 0 = n }) (record { 0 = m }) within (other n m refl) a s q) (first_asked d t (record { 0 = n }) within)

  pub place_goes : (d : Device) (word : ℕ) → Answers Any d (quiet_speaker d) (place d word)
  place_goes d word = go (rates.hottest d.sizes.hot d.remote.slabs d.rates) refl
    where
      go : (slab : Option Slab) → rates.hottest d.sizes.hot d.remote.slabs d.rates ≡ slab → Answers Any d (quiet_speaker d) (place_at d word slab)
      go None is = ends (refl, leaves_all W d, tt)
      go (Some t) is =
          ask_goes d t (choice.two_asked word (remote.fresh_lenders d.remote) (remote.other_lenders d.remote))
          (hottest_within d.sizes.hot d.remote.slabs d.rates t is)
          (λ n m two. asked_differ word d.remote n m two)
