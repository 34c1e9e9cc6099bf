-- One more of a list.
use Rattle.std.proofs.Common.{◌≡◌, ℕ, suc, zero, ◌+◌, ◌<◌, List, [], ◌∷◌, ◌++◌, length, take, drop, get_or, flat_map, refl, sym, ap, ◌∙◌, subst, arith, append-nil, Option, Some, Result, Ok, Err, false, is_err, is_ok, if◌then◌else◌}
use Rattle.std.specs.List.{slice_get, All}
use Rattle.std.specs.Io.KnownBytes.{Appends}
use Rattle.std.proofs.Math.Numerals.{add-one}
use Rattle.std.proofs.lemmas.Grind.{flat_map-append}
use Rattle.std.proofs.lemmas.List.{take-append-drop}
use Rattle.std.proofs.lemmas.List.Concat.{flat_map-cons}
use Rattle.std.proofs.lemmas.List.Elements.{All-append, All-cons, All-nil}
use Rattle.std.proofs.lemmas.Option.{slice_get_within, get_or_from_slice_get}
use Rattle.swap_base.specs.declared.geometry.LenderSpec.{LenderSpec}
use Rattle.swap_io.specs.Causes.{AppendsFront}
use Rattle.swap_script.specs.Transcript.{lender_header}
use Rattle.swap_run.proofs.Printed.{front_more, front_after}

take_suc : {A : Type 0} (xs : List A) (i : ℕ) (d : A) → i < length xs → take (suc i) xs ≡ take i xs ++ get_or xs i d ∷ []
take_suc [] i d within = absurd (omega (arith, within))
take_suc (x ∷ xs) zero d within = refl
take_suc (x ∷ xs) (suc i) d within = ap (λ l. x ∷ l) (take_suc xs i d (omega (arith, within)))

-- one more is taken
pub take_next : {A : Type 0} (xs : List A) (i : ℕ) (d : A) → i < length xs → take (i + 1) xs ≡ take i xs ++ get_or xs i d ∷ []
take_next xs i d within = ap (λ n. take n xs) (add-one i) ∙ take_suc xs i d within

pub take_given : {A : Type 0} (xs : List A) (i : ℕ) (x : A) → slice_get xs i ≡ Some x → take (i + 1) xs ≡ take i xs ++ x ∷ []
take_given xs i x e = take_next xs i x (slice_get_within xs i x e) ∙ ap (λ y. take i xs ++ y ∷ []) (get_or_from_slice_get xs i x x e)

pub pushed_all : {A : Type 0} (P : A → Type 0) (xs : List A) (x : A) → All P xs → P x → All P (xs ++ x ∷ [])
pushed_all P xs x all here = All-append P xs (x ∷ []) all (All-cons P x [] here (All-nil P))

-- a lender's line was broken off
pub broke_at :
    (a b c : Option (List ℕ)) (lenders : List LenderSpec) (i : ℕ) (d : LenderSpec) (line : List ℕ) → i < length lenders
    → line ≡ lender_header (get_or lenders i d) → Appends a b (flat_map lender_header (take i lenders)) → AppendsFront b c line
    → AppendsFront a c (flat_map lender_header lenders)
broke_at a b c lenders i d line within is taken broke =
    let before : List ℕ = flat_map lender_header (take i lenders) in
    let rest : List ℕ = flat_map lender_header (drop (i + 1) lenders) in
    let x : LenderSpec = get_or lenders i d in
    let here : flat_map lender_header (take (i + 1) lenders) ≡ before ++ line =
    ap (λ l. flat_map lender_header l) (take_next lenders i d within) ∙ flat_map-append lender_header (take i lenders) (x ∷ [])
    ∙ ap (λ r. before ++ r) (flat_map-cons lender_header x [] ∙ append-nil (lender_header x) ∙ sym is) in
    let all : flat_map lender_header lenders ≡ (before ++ line) ++ rest =
    ap (λ l. flat_map lender_header l) (sym (take-append-drop (i + 1) lenders)) ∙ flat_map-append lender_header (take (i + 1) lenders) (drop (i + 1) lenders)
    ∙ ap (λ l. l ++ rest) here in
    let P : List ℕ → Type 0 = λ r. AppendsFront a c r in subst P (sym all) (front_more a c (before ++ line) rest (front_after a b c before line taken broke))

-- a push that was taken
pub pushed_ok : {T E A : Type 0} (r : Result T E) (xs ys zs : List A) → is_err r ≡ false → zs ≡ (if is_ok r then xs else ys) → zs ≡ xs
pushed_ok (Ok t) xs ys zs fine h = h
pushed_ok (Err e) xs ys zs fine h = cc
