-- A log's lines are written one after another.
use Rattle.std.proofs.Common.{◌≡◌, ◌+◌, ◌++◌, ℕ, List, [], ◌∷◌, length, take, drop, flat_map, sym, ap, ◌∙◌, subst, append-nil, Option, Some}
use Rattle.std.specs.List.{slice_get}
use Rattle.std.specs.Io.KnownBytes.{Appends}
use Rattle.std.proofs.Math.Seq.{take-length}
use Rattle.std.proofs.lemmas.Grind.{flat_map-append}
use Rattle.std.proofs.lemmas.List.{take-append-drop}
use Rattle.std.proofs.lemmas.List.Concat.{flat_map-cons}
use Rattle.swap_io.specs.Causes.{AppendsFront}
use Rattle.swap_run.proofs.Printed.{appends_after, front_after, front_more}
use Rattle.swap_run.proofs.Taken.{take_given}

-- one more element is mapped
mapped_more :
    {A : Type 0} (f : A → List ℕ) (xs : List A) (i : ℕ) (x : A) → slice_get xs i ≡ Some x → flat_map f (take (i + 1) xs) ≡ flat_map f (take i xs) ++ f x
mapped_more f xs i x is =
    ap (λ l. flat_map f l) (take_given xs i x is) ∙ flat_map-append f (take i xs) (x ∷ [])
    ∙ ap (λ l. flat_map f (take i xs) ++ l) (flat_map-cons f x [] ∙ append-nil (f x))

pub line_taken :
    {A : Type 0} (f : A → List ℕ) (a b c : Option (List ℕ)) (xs : List A) (i : ℕ) (x : A) (bytes : List ℕ) → slice_get xs i ≡ Some x → bytes ≡ f x
    → Appends a b (flat_map f (take i xs)) → Appends b c bytes → Appends a c (flat_map f (take (i + 1) xs))
line_taken f a b c xs i x bytes is line taken more =
    let P : List ℕ → Type 0 = λ l. Appends a c l in
    subst P (ap (λ l. flat_map f (take i xs) ++ l) line ∙ sym (mapped_more f xs i x is)) (appends_after a b c (flat_map f (take i xs)) bytes taken more)

pub line_broke :
    {A : Type 0} (f : A → List ℕ) (a b c : Option (List ℕ)) (xs : List A) (i : ℕ) (x : A) (bytes : List ℕ) → slice_get xs i ≡ Some x → bytes ≡ f x
    → Appends a b (flat_map f (take i xs)) → AppendsFront b c bytes → AppendsFront a c (flat_map f xs)
line_broke f a b c xs i x bytes is line taken broke =
    let before : List ℕ = flat_map f (take i xs) in
    let rest : List ℕ = flat_map f (drop (i + 1) xs) in
    let all : flat_map f xs ≡ (before ++ bytes) ++ rest =
    ap (λ l. flat_map f l) (sym (take-append-drop (i + 1) xs)) ∙ flat_map-append f (take (i + 1) xs) (drop (i + 1) xs)
    ∙ ap (λ l. l ++ rest) (mapped_more f xs i x is ∙ ap (λ l. before ++ l) (sym line)) in
    let P : List ℕ → Type 0 = λ l. AppendsFront a c l in subst P (sym all) (front_more a c (before ++ bytes) rest (front_after a b c before bytes taken broke))

pub all_taken :
    {A : Type 0} (f : A → List ℕ) (a b : Option (List ℕ)) (xs : List A) (n : ℕ) → n ≡ length xs → Appends a b (flat_map f (take n xs))
    → Appends a b (flat_map f xs)
all_taken f a b xs n is taken =
    let P : List ℕ → Type 0 = λ l. Appends a b l in subst P (ap (λ m. flat_map f (take m xs)) is ∙ ap (λ l. flat_map f l) (take-length xs)) taken
