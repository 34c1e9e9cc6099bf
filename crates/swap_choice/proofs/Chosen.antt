-- A set that is split into the slots chosen and those left.
use Rattle.std.proofs.Common.{◌≡◌, ℕ, zero, suc, ◌+◌, ◌-◌, ◌/◌, ◌%◌, ◌<◌, ◌≤◌, Bool, true, false, eqb, not, ◌&&◌, ◌||◌, List, [], ◌∷◌, length, get_or, take, Some, refl, sym, ap, ap₂, subst, ◌∙◌, arith, rules, inl, inr, ◌⊎◌, IsSome}
use Rattle.std.specs.List.{remove, slice_get, fold}
use Rattle.std.proofs.Math.Nat.{mod-lt}
use Rattle.std.proofs.lemmas.Bool.{eq-eqb, eqb-true, both_ways, and_parts, or_cases, not-true}
use Rattle.std.proofs.lemmas.Nat.Bits.{bit_at-zero}
use Rattle.std.proofs.lemmas.List.Edits.{length-remove}
use Rattle.swap_choice.specs.Picks.{first_picks, picks}
use Rattle.swap_choice.specs.Slots.{has, slots, size}
use Rattle.swap_choice.specs.Least.{IsBelow}
use Rattle.swap_choice.proofs.Filtered.{Passes, passes, first_least, filter-remove, length-less}

-- a slot by its place is in the set
pub slot_there : (set place slot : ℕ) → slice_get (slots set) place ≡ Some slot → Passes (has set) 0 64 slot
unfolding slots
slot_there set place slot got = passes (has set) 0 64 place slot got

pub slots-without :
    (set less place slot : ℕ) → slice_get (slots set) place ≡ Some slot → ((i : ℕ) → i < 64 → has less i ≡ (not (eqb i slot) && has set i))
    → slots less ≡ remove (slots set) place
unfolding slots
slots-without set less place slot got without =
    filter-remove (has set) (has less) 0 64 place slot got (λ i low high. without i (omega arith))

pub lowest_slot : (set slot other : ℕ) → slice_get (slots set) 0 ≡ Some slot → other < 64 → has set other ≡ true → slot ≤ other
unfolding slots
lowest_slot set slot other got within there = first_least (has set) 0 64 slot other got (omega arith) (omega arith) there

-- one pick more
pub pick_more :
    (f : ℕ → ℕ → ℕ) (chosen word m : ℕ) (list : List ℕ) → 0 < length list
    → fold f chosen (take (suc m) (picks word list))
    ≡ fold f (f chosen (get_or list (word % length list) 0)) (take m (picks (word / length list) (remove list (word % length list))))
pick_more f chosen word m [] some = absurd (omega arith)
pick_more f chosen word m (x ∷ xs) some =
    let removed = length-remove (x ∷ xs) (word % length (x ∷ xs)) (mod-lt word {m = length (x ∷ xs)} (omega arith)) in
    let fewer : length xs ≡ length (remove (x ∷ xs) (word % length (x ∷ xs))) = omega arith in
    ap
    (λ n.
    fold f (f chosen (get_or (x ∷ xs) (word % length (x ∷ xs)) 0))
    (take m (first_picks n (word / length (x ∷ xs)) (remove (x ∷ xs) (word % length (x ∷ xs))))))
    fewer

pub record Split (whole chosen left : ℕ) : Type 0 where
  pub part : (i : ℕ) → i < 64 → has whole i ≡ (has chosen i || has left i)
  pub apart : (i : ℕ) → i < 64 → has chosen i ≡ true → has left i ≡ false

part_moved : (e c l w : Bool) → w ≡ (c || l) → (e ≡ true → l ≡ true) → w ≡ ((e || c) || (not e && l))
part_moved true true true w h k = h
part_moved true false true w h k = h
part_moved true c false w h k = absurd (search (rules, k refl))
part_moved false c l w h k = h

apart_moved : (e c l : Bool) → (c ≡ true → l ≡ false) → (e || c) ≡ true → (not e && l) ≡ false
apart_moved true c l h k = refl
apart_moved false c l h k = h k

-- one slot more is chosen
pub moved :
    (whole chosen left chosen' left' slot : ℕ) → Split whole chosen left → has left slot ≡ true
    → ((i : ℕ) → i < 64 → has chosen' i ≡ (eqb i slot || has chosen i)) → ((i : ℕ) → i < 64 → has left' i ≡ (not (eqb i slot) && has left i))
    → Split whole chosen' left'
moved whole chosen left chosen' left' slot split there with_it without_it = record {
  part =
      λ i within. part_moved (eqb i slot) (has chosen i) (has left i) (has whole i) (split.part i within) (λ same. ap (has left) (eqb-true i slot same) ∙ there)
      ∙ sym (ap₂ (λ a b. a || b) (with_it i within) (without_it i within));
  apart = λ i within is. without_it i within ∙ apart_moved (eqb i slot) (has chosen i) (has left i) (split.apart i within) (sym (with_it i within) ∙ is);
}

-- sizes: one slot less, and one slot more
pub size-without :
    (set less slot : ℕ) → slot < 64 → has set slot ≡ true → ((i : ℕ) → i < 64 → has less i ≡ (not (eqb i slot) && has set i)) → size less + 1 ≡ size set
unfolding slots
size-without set less slot within there without =
    length-less (has set) (has less) 0 64 slot (omega arith) (omega arith) there (λ i low high. without i (omega arith))

taken_back : (e s m : Bool) → m ≡ (e || s) → (e ≡ true → s ≡ false) → s ≡ (not e && m)
taken_back true s m is out = out refl
taken_back false s m is out = sym is

pub size-with : (set more slot : ℕ) → slot < 64 → has set slot ≡ false → ((i : ℕ) → i < 64 → has more i ≡ (eqb i slot || has set i)) → size more ≡ size set + 1
size-with set more slot within out with_it =
    sym
    (size-without more set slot within (with_it slot within ∙ ap (λ b. b || has set slot) (eq-eqb slot slot refl))
    (λ i inside. taken_back (eqb i slot) (has set i) (has more i) (with_it i inside) (λ same. ap (has set) (eqb-true i slot same) ∙ out)))

pub has-zero : (slot : ℕ) → has 0 slot ≡ false
has-zero slot = ap (λ b. eqb b 1) (bit_at-zero slot)

-- at first nothing is chosen
pub start_split : (whole : ℕ) → Split whole 0 whole
start_split whole = record {
  part = λ i within. ap (λ b. b || has whole i) (sym (has-zero i));
  apart = λ i within is. absurd (both_ways (has 0 i) (has-zero i) is);
}

pub size-zero : size 0 ≡ 0
unfolding slots
size-zero = refl

pub not_chosen : (c l : Bool) → (c ≡ true → l ≡ false) → l ≡ true → c ≡ false
not_chosen true l apart left = absurd (both_ways l (apart refl) left)
not_chosen false l apart left = refl

-- the chosen ones stay below those left
pub below_more :
    (rates : List ℕ) (chosen left chosen' left' slot : ℕ) → ((i j : ℕ) → i < 64 → j < 64 → has chosen i ≡ true → has left j ≡ true → IsBelow rates i j)
    → ((j : ℕ) → j < 64 → has left j ≡ true → (j ≡ slot) ⊎ IsBelow rates slot j) → ((i : ℕ) → i < 64 → has chosen' i ≡ (eqb i slot || has chosen i))
    → ((i : ℕ) → i < 64 → has left' i ≡ (not (eqb i slot) && has left i)) → (i j : ℕ) → i < 64 → j < 64 → has chosen' i ≡ true → has left' j ≡ true
    → IsBelow rates i j
below_more rates chosen left chosen' left' slot below least with_it without_it i j iw jw is there =
    let parts = and_parts (not (eqb j slot)) (has left j) (sym (without_it j jw) ∙ there) in
    elim (or_cases (eqb i slot) (has chosen i) (sym (with_it i iw) ∙ is)) [
      | inl now ↦ elim (least j jw parts.1) [
        | inl same ↦ absurd (both_ways (eqb j slot) (not-true (eqb j slot) parts.0) (eq-eqb j slot same))
        | inr above ↦ subst (λ k. IsBelow rates k j) (sym (eqb-true i slot now)) above
      ]
      | inr before ↦ below i j iw jw before parts.1
    ]

pub some_within : {X : Type 0} (xs : List X) (k : ℕ) → k < length xs → IsSome (slice_get xs k)
some_within [] k within = absurd (omega arith)
some_within (x ∷ xs) zero within = refl
some_within (x ∷ xs) (suc k) within = some_within xs k (omega arith)

got_read : (xs : List ℕ) (k x : ℕ) → slice_get xs k ≡ Some x → x ≡ get_or xs k 0
got_read [] k x got = cc
got_read (y ∷ ys) zero x got = cc
got_read (y ∷ ys) (suc k) x got = got_read ys k x got

pub picks_step :
    (f : ℕ → ℕ → ℕ) (chosen chosen' rest next left left' place slot count taken whole : ℕ) → taken < count → 0 < size left → place ≡ rest % size left
    → next ≡ rest / size left → slice_get (slots left) place ≡ Some slot → chosen' ≡ f chosen slot → slots left' ≡ remove (slots left) place
    → fold f chosen (take (count - taken) (picks rest (slots left))) ≡ whole → fold f chosen' (take (count - (taken + 1)) (picks next (slots left'))) ≡ whole
picks_step f chosen chosen' rest next left left' place slot count taken whole early some place_is next_is got chosen_is left_is before =
    let one_more : count - taken ≡ suc (count - (taken + 1)) = omega arith in
    let more = pick_more f chosen rest (count - (taken + 1)) (slots left) some in
    let read = got_read (slots left) place slot got in
    ap (λ l. fold f chosen' (take (count - (taken + 1)) (picks next l))) (left_is ∙ ap (λ k. remove (slots left) k) place_is)
    ∙ ap₂ (λ a w. fold f a (take (count - (taken + 1)) (picks w (remove (slots left) (rest % length (slots left))))))
    (chosen_is ∙ ap (f chosen) (read ∙ ap (λ k. get_or (slots left) k 0) place_is)) next_is
    ∙ sym more ∙ ap (λ k. fold f chosen (take k (picks rest (slots left)))) (sym one_more) ∙ before

pub is_part : (whole chosen left slot : ℕ) → Split whole chosen left → slot < 64 → has chosen slot ≡ true → has whole slot ≡ true
is_part whole chosen left slot split within is = split.part slot within ∙ ap (λ b. b || has left slot) is

left_over : (w c l : Bool) → w ≡ (c || l) → w ≡ true → (c ≡ true → ⊥) → l ≡ true
left_over w true l part there out = absurd (out refl)
left_over w false l part there out = sym part ∙ there

pub is_left : (whole chosen left slot : ℕ) → Split whole chosen left → slot < 64 → has whole slot ≡ true → (has chosen slot ≡ true → ⊥) → has left slot ≡ true
is_left whole chosen left slot split within there out =
    left_over (has whole slot) (has chosen slot) (has left slot) (split.part slot within) there out
