-- A page repeats its first m bytes where it is the same as itself from byte m on, as far as that goes, and m
-- divides its length.
use Rattle.std.proofs.Common.{◌≡◌, ℕ, zero, suc, ◌+◌, ◌-◌, ◌*◌, ◌/◌, ◌%◌, ◌<◌, ◌≤◌, Bool, true, false, List, [], ◌∷◌, ◌++◌, length, take, drop, refl, sym, ap, ◌∙◌, arith, inl, inr, ◌⊎◌}
use Rattle.std.specs.Str.{bytes_eq}
use Rattle.std.proofs.lemmas.Nat.{div-add-mod'}
use Rattle.std.proofs.lemmas.Bool.Decides.{same_from_decides}
use Rattle.std.proofs.Math.Nat.{div_self}
use Rattle.std.proofs.lemmas.List.{append_assoc, append-nil, length-drop, length-take-le, nil_from_length, take-append-drop, take-take, take_all, take_at, drop_at, drop-take}
use Rattle.std.proofs.lemmas.Slice.Eq.{bytes_eq-Decides}
use Rattle.swap_io.specs.Words.{times, repeat_piece}
use Rattle.swap_io.proofs.Pieces.{length-times}

drop-take-at : (n k j : ℕ) (xs : List ℕ) → k ≡ n + j → drop n (take k xs) ≡ take j (drop n xs)
drop-take-at n k j xs e = ap (λ r. drop n (take r xs)) e ∙ drop-take n j xs

-- one more piece at the end is one more at the front
times-push : (n : ℕ) (piece : List ℕ) → piece ++ times n piece ≡ times n piece ++ piece
times-push zero piece = append-nil piece
times-push (suc n) piece = ap (λ r. piece ++ r) (times-push n piece) ∙ sym (append_assoc piece (times n piece) piece)

-- what is repeated is the same as itself one piece on
pub shifted : (n : ℕ) (piece : List ℕ) → drop (length piece) (times (suc n) piece) ≡ take (n * length piece) (times (suc n) piece)
shifted n piece =
    drop_at piece (times n piece) (length piece) refl
    ∙ sym (take_at (times n piece) piece (n * length piece) (length-times n piece))
    ∙ ap (λ r. take (n * length piece) r) (sym (times-push n piece))

-- and what is the same as itself m bytes on repeats its first m bytes
pub times_from_shift : (n m : ℕ) (xs : List ℕ) → length xs ≡ n * m → drop m xs ≡ take (length xs - m) xs → times n (take m xs) ≡ xs
times_from_shift zero m xs len shift = sym (nil_from_length xs (omega arith))
times_from_shift (suc zero) m xs len shift =
    append-nil (take m xs) ∙ take_all m xs (omega arith)
times_from_shift (suc (suc n)) m xs len shift =
    let rest_len : length (drop m xs) ≡ suc n * m = omega (arith, length-drop m xs) in
    let same_front : take m (drop m xs) ≡ take m xs = ap (λ r. take m r) shift ∙ take-take m (length xs - m) xs (omega arith) in
    let rest_shift : drop m (drop m xs) ≡ take (length (drop m xs) - m) (drop m xs) =
    ap (λ r. drop m r) shift ∙ drop-take-at m (length xs - m) (length (drop m xs) - m) xs (omega (arith, length-drop m xs)) in
    let rest_times : times (suc n) (take m (drop m xs)) ≡ drop m xs = times_from_shift (suc n) m (drop m xs) rest_len rest_shift in
    ap (λ r. take m xs ++ r) (ap (λ p. times (suc n) p) (sym same_front) ∙ rest_times) ∙ take-append-drop m xs

times-nil : (n : ℕ) → times n [] ≡ []
times-nil zero = refl
times-nil (suc n) = times-nil n

not_true : (b : Bool) → (b ≡ true → ⊥) → false ≡ b
not_true true h = absurd (h refl)
not_true false h = refl

repeated_whole : (size : ℕ) (page : List ℕ) → length page ≡ size → repeat_piece size page ≡ page
repeated_whole size [] len = times-nil (size / length {A = ℕ} [])
repeated_whole size (b ∷ rest) len =
    let once : size / length (b ∷ rest) ≡ 1 = ap (λ n. n / length (b ∷ rest)) (sym len) ∙ div_self (omega arith) in
    ap (λ n. times n (b ∷ rest)) once ∙ append-nil (b ∷ rest)

-- a page repeats itself
pub repeats_whole : (page : List ℕ) (len : ℕ) → length page ≤ len → true ≡ bytes_eq (repeat_piece (length page) (take len page)) page
repeats_whole page len long =
    sym ((bytes_eq-Decides _ _).1 (ap (λ r. repeat_piece (length page) r) (take_all len page long) ∙ repeated_whole (length page) page refl))

repeats_same :
    (page : List ℕ) (len : ℕ) → len < length page → bytes_eq (repeat_piece (length page) (take len page)) page ≡ true → (length page / len * len ≡ length page)
repeats_same page len short same =
    let whole : length page / length (take len page) * length (take len page) ≡ length page =
    sym (length-times (length page / length (take len page)) (take len page))
    ∙ ap length ((bytes_eq-Decides (repeat_piece (length page) (take len page)) page).0 same) in
    rw (length-take-le len page (omega arith)) at whole

-- no piece fills a page whose length it doesn't divide
pub repeats_not :
    (page : List ℕ) (len : ℕ) → len < length page → (len ≡ 0) ⊎ (length page % len ≡ 0 → ⊥) → false ≡ bytes_eq (repeat_piece (length page) (take len page)) page
repeats_not page len short not =
    not_true _ (λ same. let whole = repeats_same page len short same in elim not [
      | inl none ↦ omega arith
      | inr some ↦ some (omega (arith, div-add-mod' (length page) len))
    ])

shift_from_times : (n m : ℕ) (xs : List ℕ) → length xs ≡ n * m → 0 < n → length (take m xs) ≡ m → times n (take m xs) ≡ xs → drop m xs ≡ take (length xs - m) xs
shift_from_times zero m xs len some front same = absurd (omega arith)
shift_from_times (suc n) m xs len some front same =
    let rest : n * length (take m xs) ≡ length xs - m = ap (λ k. n * k) front ∙ omega arith in
    ap (λ r. drop m r) (sym same) ∙ ap (λ k. drop k (times (suc n) (take m xs))) (sym front) ∙ shifted n (take m xs)
    ∙ ap (λ k. take k (times (suc n) (take m xs))) rest ∙ ap (λ r. take (length xs - m) r) same

positive_factor : (n m size : ℕ) → size ≡ n * m → 0 < size → 0 < n
positive_factor zero m size e some = omega arith
positive_factor (suc n) m size e some = omega arith

-- and one whose length divides it does where the page is the same as itself one piece on
pub repeats_shift :
    (page : List ℕ) (len : ℕ) → 0 < len → len < length page → length page % len ≡ 0
    → bytes_eq (drop len page) (take (length page - len) page) ≡ bytes_eq (repeat_piece (length page) (take len page)) page
repeats_shift page len some short whole =
    let front : length (take len page) ≡ len = length-take-le len page (omega arith) in
    let size : length page ≡ length page / len * len = omega (arith, div-add-mod' (length page) len) in
    let positive : 0 < length page / len = positive_factor (length page / len) len (length page) size (omega arith) in
    let unfold_count : repeat_piece (length page) (take len page) ≡ times (length page / len) (take len page) =
    ap (λ k. times (length page / k) (take len page)) front in
    same_from_decides {P = drop len page ≡ take (length page - len) page} _ _ (bytes_eq-Decides _ _) (
      λ same. shift_from_times (length page / len) len page size positive front (sym unfold_count ∙ (bytes_eq-Decides _ _).0 same),
      λ shift. (bytes_eq-Decides _ _).1 (unfold_count ∙ times_from_shift (length page / len) len page size shift),
    )
