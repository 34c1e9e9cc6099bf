-- Links that came, one after another, and that ended, one after another.
use Rattle.std.proofs.Common.{◌≡◌, ℕ, ◌+◌, ◌≤◌, List, [], ◌∷◌, ◌++◌, length, map, refl, sym, ap, subst, ◌∙◌, arith, Option, inl}
use Rattle.swap_base.specs.declared.Link.{Link}
use Rattle.swap_sock.specs.Dealings.{Dealings, Left, gave_one, got_back}
use Rattle.swap_node.specs.declared.node.Ear.{Ear}
use Rattle.swap_serve.specs.Hearing.{IsHeard}
use Rattle.swap_serve.specs.declared.links.NodeFault.{NodeFault}
use Rattle.swap_serve.specs.declared.links.NodeFault.TheVariants as fault
use Rattle.swap_serve.specs.Serving.{all_given, all_back, AskedLast, AreHeard, IsServed, BreaksOff}
use Rattle.swap_serve.specs.Slots.{Visit, AreNumbered, AreKeptBy, IsParted}

link_is : (l : Link) (n : ℕ) → l.0 ≡ n → l ≡ record { 0 = n }
link_is l n e = let F : ℕ → Link = λ k. record { 0 = k } in ap F e

module _ {S : Type 0} where
  map_last : (vs : List (Visit S)) (v : Visit S) → map (λ (v : Visit S). v.given) (vs ++ v ∷ []) ≡ map (λ (v : Visit S). v.given) vs ++ v.given ∷ []
  map_last [] v = refl
  map_last (x ∷ vs) v = ap (λ (ss : List S). x.given ∷ ss) (map_last vs v)

  as_many_given : (vs : List (Visit S)) → length (map (λ (v : Visit S). v.given) vs) ≡ length vs
  as_many_given [] = refl
  as_many_given (x ∷ vs) = omega (arith, as_many_given vs)

  pub numbered_last :
      (page_bytes n : ℕ) (vs : List (Visit S)) (v : Visit S) → AreNumbered page_bytes n vs → v.link.0 ≡ n + length vs → v.page_bytes ≡ page_bytes
      → AreNumbered page_bytes n (vs ++ v ∷ [])
  numbered_last page_bytes n [] v each link pages = (link_is v.link n (omega (arith, link)), pages, tt)
  numbered_last page_bytes n (x ∷ vs) v each link pages = (each.0, each.1, numbered_last page_bytes (n + 1) vs v each.2 (omega (arith, link)) pages)

module _ {S K : Type 0} where
  pub given_last : (ss : List S) (s : S) (d : Dealings (Unit {0}) S (Left S K)) → all_given (ss ++ s ∷ []) d ≡ gave_one tt s (all_given ss d)
  given_last [] s d = refl
  given_last (x ∷ ss) s d = given_last ss s (gave_one tt x d)

  pub back_last : (bs : List (Left S K)) (b : Left S K) (d : Dealings (Unit {0}) S (Left S K)) → all_back (bs ++ b ∷ []) d ≡ got_back b (all_back bs d)
  back_last [] b d = refl
  back_last (x ∷ bs) b d = back_last bs b (got_back x d)

  -- one link more came
  pub came_last :
      (vs : List (Visit S)) (v : Visit S) (d e f : Dealings (Unit {0}) S (Left S K)) → e ≡ all_given (map (λ (v : Visit S). v.given) vs) d
      → f ≡ gave_one tt v.given e
      → f ≡ all_given (map (λ (v : Visit S). v.given) (vs ++ v ∷ [])) d
  came_last vs v d e f was now =
      now ∙ ap (λ (x : Dealings (Unit {0}) S (Left S K)). gave_one tt v.given x) was ∙ sym (given_last (map (λ (v : Visit S). v.given) vs) v.given d)
      ∙ ap (λ (ss : List S). all_given ss d) (sym (map_last vs v))

  module _ (left : S → Option (List ℕ)) (faults : S → ℕ) (sink_faults : K → ℕ) where
    pub kept_last :
        (vs : List (Visit S)) (backs : List (Left S K)) (ears : List Ear) (v : Visit S) (b : Left S K) (e : Ear)
        → AreKeptBy left faults sink_faults vs backs ears
        → IsHeard left faults sink_faults v.page_bytes v.given v.link b e
        → AreKeptBy left faults sink_faults (vs ++ v ∷ []) (backs ++ b ∷ []) (ears ++ e ∷ [])
    kept_last [] [] [] v b e kept heard = (heard, tt)
    kept_last (x ∷ vs) (y ∷ backs) (z ∷ ears) v b e kept heard = (kept.0, kept_last vs backs ears v b e kept.1 heard)
    kept_last [] [] (z ∷ ears) v b e kept heard = absurd kept
    kept_last [] (y ∷ backs) ears v b e kept heard = absurd kept
    kept_last (x ∷ vs) [] ears v b e kept heard = absurd kept
    kept_last (x ∷ vs) (y ∷ backs) [] v b e kept heard = absurd kept

    pub as_many : (vs : List (Visit S)) (backs : List (Left S K)) (ears : List Ear) → AreKeptBy left faults sink_faults vs backs ears → length ears ≡ length vs
    as_many [] [] [] kept = refl
    as_many (x ∷ vs) (y ∷ backs) (z ∷ ears) kept = omega (arith, as_many vs backs ears kept.1)
    as_many [] [] (z ∷ ears) kept = absurd kept
    as_many [] (y ∷ backs) ears kept = absurd kept
    as_many (x ∷ vs) [] ears kept = absurd kept
    as_many (x ∷ vs) (y ∷ backs) [] kept = absurd kept

    heard_all :
        (page_bytes n : ℕ) (vs : List (Visit S)) (backs : List (Left S K)) (ears : List Ear) → AreNumbered page_bytes n vs
        → AreKeptBy left faults sink_faults vs backs ears
        → AreHeard left faults sink_faults page_bytes n (map (λ (v : Visit S). v.given) vs) backs ears
    heard_all page_bytes n [] [] [] each kept = tt
    heard_all page_bytes n (v ∷ vs) (b ∷ backs) (e ∷ ears) each kept = (
      subst (λ (k : ℕ). IsHeard left faults sink_faults k v.given (record { 0 = n }) b e) each.1
          (subst (λ (l : Link). IsHeard left faults sink_faults v.page_bytes v.given l b e) each.0 kept.0),
      heard_all page_bytes (n + 1) vs backs ears each.2 kept.1,
    )
    heard_all page_bytes n [] [] (z ∷ ears) each kept = absurd kept
    heard_all page_bytes n [] (y ∷ backs) ears each kept = absurd kept
    heard_all page_bytes n (x ∷ vs) [] ears each kept = absurd kept
    heard_all page_bytes n (x ∷ vs) (y ∷ backs) [] each kept = absurd kept

    -- so many links came, and all ended
    pub served :
        (page_bytes links : ℕ) (vs : List (Visit S)) (before mid now : Dealings (Unit {0}) S (Left S K)) (ears : List Ear) → length vs ≡ links
        → AreNumbered page_bytes 0 vs
        → mid ≡ all_given (map (λ (v : Visit S). v.given) vs) before
        → IsParted left faults sink_faults vs mid now ears
        → IsServed left faults sink_faults page_bytes links before now ears
    served page_bytes links vs before mid now ears number each came parted = record {
      givens = map (λ (v : Visit S). v.given) vs;
      backs = parted.backs;
      number = as_many vs parted.backs ears parted.each ∙ number;
      dealings = parted.dealings ∙ ap (λ (d : Dealings (Unit {0}) S (Left S K)). all_back parted.backs d) came;
      each = heard_all page_bytes 0 vs parted.backs ears each parted.each;
    }

    -- some links came and all ended, and then none came
    pub broke : (page_bytes links : ℕ) (why : NodeFault) (vs : List (Visit S)) (before mid now : Dealings (Unit {0}) S (Left S K)) (ears : List Ear)
        → length vs ≤ links → AreNumbered page_bytes 0 vs
        → AskedLast why (all_given (map (λ (v : Visit S). v.given) vs) before) mid
        → IsParted left faults sink_faults vs mid now ears
        → BreaksOff left faults sink_faults page_bytes links why before now
    broke page_bytes links why vs before mid now ears few each asked parted = record {
      givens = map (λ (v : Visit S). v.given) vs;
      backs = parted.backs;
      ears = ears;
      number = omega (arith, few, as_many_given vs);
      last = mid;
      asked = asked;
      dealings = parted.dealings;
      each = heard_all page_bytes 0 vs parted.backs ears each parted.each;
    }

    -- memory ran out before any was asked for
    pub none_came : (page_bytes links : ℕ) (before now : Dealings (Unit {0}) S (Left S K)) → now ≡ before
        → BreaksOff left faults sink_faults page_bytes links fault.NoMemory before now
    none_came page_bytes links before now same = record {
      givens = [];
      backs = [];
      ears = [];
      number = omega arith;
      last = now;
      asked = inl same;
      dealings = refl;
      each = tt;
    }
