-- A list that was mapped, by its places.
use Rattle.std.proofs.Common.{◌≡◌, ◌<◌, ℕ, suc, zero, List, [], ◌∷◌, length, map, slice_index_or, refl, sym, ap, subst, ◌∙◌, arith}
use Rattle.std.specs.Prelude.{All}

pub as_long : {A B : Type 0} (f : A → B) (xs : List A) → length (map f xs) ≡ length xs
as_long f [] = refl
as_long f (x ∷ xs) = omega (arith, as_long f xs)

index_map : {A B : Type 0} (f : A → B) (xs : List A) (i : ℕ) (x : A) (e : B) → i < length xs → x ≡ slice_index_or xs i x → slice_index_or (map f xs) i e ≡ f x
index_map f [] i x e lt is = absurd (omega (arith, lt))
index_map f (y ∷ xs) zero x e lt is = ap f (sym is)
index_map f (y ∷ xs) (suc i) x e lt is = index_map f xs i x e (omega (arith, lt)) is

-- what stands at a place
pub mapped_at : {A B : Type 0} (f : A → B) (xs : List A) (ys : List B) → map f xs ≡ ys → (i : ℕ) (x : A) (e : B) → i < length xs
    → x ≡ slice_index_or xs i x → slice_index_or ys i e ≡ f x
mapped_at f xs ys is i x e lt at = ap (λ l. slice_index_or l i e) (sym is) ∙ index_map f xs i x e lt at

-- and what holds of each
pub mapped_all : {A B : Type 0} (P : B → Type 0) (f : A → B) (xs : List A) (ys : List B) → map f xs ≡ ys → All P ys → (i : ℕ) (x : A) → i < length xs
    → x ≡ slice_index_or xs i x → P (f x)
mapped_all P f xs ys is all i x lt at =
    subst P (mapped_at f xs ys is i x (f x) lt at) (all i (f x) (omega (arith, lt, ap length is, as_long f xs)))
