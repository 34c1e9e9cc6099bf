-- Lanes over their places.
use Rattle.std.proofs.Common.{◌≡◌, ℕ, ◌+◌, ◌-◌, ◌<◌, ◌≤◌, min, List, [], ◌∷◌, ◌++◌, zero, suc, length, take, drop, refl, sym, ap, ◌∙◌, arith, inl, inr}
use Rattle.std.proofs.Common.{true}
use Rattle.std.specs.Prelude.{map, All}
use Rattle.std.proofs.lemmas.Bool.{cond-true}
use Rattle.std.proofs.lemmas.List.Elements.{All-map, All-take, All-weaker}
use Rattle.swap_wire.specs.Fabric.{Parcel, carries_page}
use Rattle.std.proofs.lemmas.Bool.{cases_lt}
use Rattle.std.proofs.lemmas.List.{take-take, take_all, take-map, length-take, take-append-le, length_push}
use Rattle.swap_link.specs.Lane.{Kept, parcel_in, parcels_in, rest}

-- the first of the first
pub take_of_take : {X : Type 0} (n m : ℕ) (xs : List X) → take n (take m xs) ≡ take (min m n) xs
take_of_take n m xs = elim (cases_lt m n) [ inl h ↦ less h | inr h ↦ more h ]
  where
    less : m < n → take n (take m xs) ≡ take (min m n) xs
    less h =
        let e : min m n ≡ m = omega arith in let le : length (take m xs) ≤ n = omega (arith, length-take m xs) in
        take_all n (take m xs) le ∙ ap (λ k. take k xs) (sym e)

    more : n ≤ m → take n (take m xs) ≡ take (min m n) xs
    more h = let e : min m n ≡ n = omega arith in take-take n m xs h ∙ ap (λ k. take k xs) (sym e)

-- a lane that is cut
pub parcels-cut : (places : List Kept) (count n : ℕ) → parcels_in places (min count n) ≡ take n (parcels_in places count)
parcels-cut places count n = ap (λ ks. map parcel_in ks) (sym (take_of_take n count places)) ∙ sym (take-map parcel_in n (take count places))

-- a lane whose first message is taken off, and its place goes to the back
pub parcels-popped :
    (places turned : List Kept) (count : ℕ) → 0 < count → count ≤ length places → turned ≡ drop 1 places ++ take 1 places
    → (parcels_in turned (count - 1) ≡ rest (parcels_in places count)) × (length turned ≡ length places)
parcels-popped [] turned count some used e = absurd (omega (arith, some, used))
parcels-popped (k ∷ ks) turned zero some used e = absurd (omega arith)
parcels-popped (k ∷ ks) turned (suc n) some used e = (
  ap (λ m. parcels_in turned m) less ∙ ap (λ l. parcels_in l n) e ∙ ap (λ l. map parcel_in l) (take-append-le n ks (k ∷ []) (omega arith)),
  ap (λ (l : List Kept). length l) e ∙ length_push ks k ∙ omega arith,
)
  where
    less : suc n - 1 ≡ n
    less = omega arith

-- its pages
pub parcels-fit :
    (places : List Kept) (count page_bytes : ℕ) → All (λ k. length k.page ≡ page_bytes) places
    → All (λ (p : Parcel). carries_page p.msg ≡ true → length p.page ≡ page_bytes) (parcels_in places count)
parcels-fit places count page_bytes fit =
    let P : Parcel → Type 0 = λ p. carries_page p.msg ≡ true → length p.page ≡ page_bytes in
    All-map P parcel_in (take count places)
    (All-weaker (λ (k : Kept). length k.page ≡ page_bytes) (λ k. P (parcel_in k))
    (λ k e carries. ap length (cond-true (carries_page k.msg) k.page _ carries) ∙ e) (take count places)
    (All-take (λ (k : Kept). length k.page ≡ page_bytes) count places fit))
