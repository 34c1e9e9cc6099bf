-- What stays a list of bytes, and numbers against their bytes.
use Rattle.std.proofs.Common.{◌≡◌, ℕ, ◌+◌, ◌-◌, ◌^◌, ◌<◌, ◌≤◌, List, ◌++◌, length, get_or, take, drop, replicate, refl, sym, ap, ◌∙◌, append_assoc, arith, inl, inr}
use Rattle.std.specs.Int.{w32, w64, from_be_bytes}
use Rattle.std.proofs.lemmas.Bool.{cases_lt}
use Rattle.std.proofs.lemmas.List.{take_at, drop_at, take_all, take-append-drop, length-take, length-drop, get_or-drop, get_or-take, get_or_past, get_or-replicate, length-replicate, get_or_append_left, get_or-append_right, drop-drop}
use Rattle.std.proofs.lemmas.Nat.{be_bytes_4, be_bytes_8}
use Rattle.swap_wire.specs.Frames.{IsBytes, word, long}
use Rattle.swap_wire.specs.Heads.{word_at, long_at}

pub IsBytes-drop : (n : ℕ) (bytes : List ℕ) → IsBytes bytes → IsBytes (drop n bytes)
IsBytes-drop n bytes h i = rw get_or-drop (h (n + i))

pub IsBytes-take : (n : ℕ) (bytes : List ℕ) → IsBytes bytes → IsBytes (take n bytes)
IsBytes-take n bytes h i =
    elim (cases_lt i n) [
      | inl lt ↦ rw (get_or-take n bytes i 0 lt) (h i)
      | inr le ↦ rw (get_or_past (take n bytes) i 0 (omega (arith, length-take n bytes))) (omega arith)
    ]

pub IsBytes-append : (xs ys : List ℕ) → IsBytes xs → IsBytes ys → IsBytes (xs ++ ys)
IsBytes-append xs ys p q i =
    elim (cases_lt i (length xs)) [
      | inl lt ↦ rw (get_or_append_left xs ys 0 i lt) (p i)
      | inr le ↦ rw (get_or-append_right xs ys (length xs) i 0 refl le) (q (i - length xs))
    ]

pub IsBytes-zeros : (n : ℕ) → IsBytes (replicate n 0)
IsBytes-zeros n i =
    elim (cases_lt i n) [
      | inl lt ↦ let e : get_or (replicate n 0) i 0 ≡ 0 = get_or-replicate {A = ℕ} n i 0 0 lt in rw e (omega arith)
      | inr le ↦ let e : get_or (replicate n 0) i 0 ≡ 0 = get_or_past {X = ℕ} (replicate n 0) i 0 (omega (arith, length-replicate {A = ℕ} n 0)) in
          rw e (omega arith)
    ]

pub glue : (a b c d : List ℕ) → a ≡ c → b ≡ d → a ++ b ≡ c ++ d
glue a b c d p q = cc

-- two lists of one length, each with more behind it
pub cut : (a x b y : List ℕ) → length a ≡ length b → a ++ x ≡ b ++ y → (a ≡ b) × (x ≡ y)
cut a x b y len e = (
  sym (take_at a x (length a) refl) ∙ ap (take (length a)) e ∙ take_at b y (length a) (sym len),
  sym (drop_at a x (length a) refl) ∙ ap (drop (length a)) e ∙ drop_at b y (length a) (sym len),
)

-- a number read at a place, and its bytes
pub word_back : (bytes : List ℕ) (at : ℕ) → at + 4 ≤ length bytes → IsBytes bytes → word (word_at bytes at) ≡ take 4 (drop at bytes)
word_back bytes at le fits =
    be_bytes_4 (take 4 (drop at bytes)) (word_at bytes at) (omega (arith, length-take 4 (drop at bytes), length-drop at bytes))
    (IsBytes-take 4 (drop at bytes) (IsBytes-drop at bytes fits)) refl

pub long_back : (bytes : List ℕ) (at : ℕ) → at + 8 ≤ length bytes → IsBytes bytes → long (long_at bytes at) ≡ take 8 (drop at bytes)
long_back bytes at le fits =
    be_bytes_8 (take 8 (drop at bytes)) (long_at bytes at) (omega (arith, length-take 8 (drop at bytes), length-drop at bytes))
    (IsBytes-take 8 (drop at bytes) (IsBytes-drop at bytes fits)) refl

word_below : (bytes : List ℕ) → IsBytes bytes → from_be_bytes w32 bytes < 2 ^ 32
word_below bytes fits = omega (arith, fits 0, fits 1, fits 2, fits 3)

long_below : (bytes : List ℕ) → IsBytes bytes → from_be_bytes w64 bytes < 2 ^ 64
long_below bytes fits = omega (arith, fits 0, fits 1, fits 2, fits 3, fits 4, fits 5, fits 6, fits 7)

pub word_at_below : (bytes : List ℕ) (at : ℕ) → IsBytes bytes → word_at bytes at < 2 ^ 32
word_at_below bytes at fits = word_below (take 4 (drop at bytes)) (IsBytes-take 4 (drop at bytes) (IsBytes-drop at bytes fits))

pub long_at_below : (bytes : List ℕ) (at : ℕ) → IsBytes bytes → long_at bytes at < 2 ^ 64
long_at_below bytes at fits = long_below (take 8 (drop at bytes)) (IsBytes-take 8 (drop at bytes) (IsBytes-drop at bytes fits))

-- the numbers of all of the bytes, one after another
pub one_back : (bytes : List ℕ) → length bytes ≡ 4 → IsBytes bytes → word (word_at bytes 0) ≡ bytes
one_back bytes len fits = word_back bytes 0 (omega arith) fits ∙ take_all 4 bytes (omega arith)

last_back : (bytes : List ℕ) (at : ℕ) → length bytes ≡ at + 4 → IsBytes bytes → word (word_at bytes at) ≡ drop at bytes
last_back bytes at len fits = word_back bytes at (omega arith) fits ∙ take_all 4 (drop at bytes) (omega (arith, length-drop at bytes))

pub two_back : (bytes : List ℕ) → length bytes ≡ 8 → IsBytes bytes → word (word_at bytes 0) ++ word (word_at bytes 4) ≡ bytes
two_back bytes len fits =
    glue (word (word_at bytes 0)) (word (word_at bytes 4)) (take 4 bytes) (drop 4 bytes) (word_back bytes 0 (omega arith) fits)
    (last_back bytes 4 (omega arith) fits)
    ∙ take-append-drop 4 bytes

pub rate_back : (bytes : List ℕ) → length bytes ≡ 12 → IsBytes bytes → word (word_at bytes 0) ++ long (long_at bytes 4) ≡ bytes
rate_back bytes len fits =
    let last : long (long_at bytes 4) ≡ drop 4 bytes = long_back bytes 4 (omega arith) fits ∙ take_all 8 (drop 4 bytes) (omega (arith, length-drop 4 bytes)) in
    glue (word (word_at bytes 0)) (long (long_at bytes 4)) (take 4 bytes) (drop 4 bytes) (word_back bytes 0 (omega arith) fits) last ∙ take-append-drop 4 bytes

pub three_back : (bytes : List ℕ) → length bytes ≡ 12 → IsBytes bytes → word (word_at bytes 0) ++ word (word_at bytes 4) ++ word (word_at bytes 8) ≡ bytes
three_back bytes len fits =
    let front =
    glue (word (word_at bytes 0)) (word (word_at bytes 4)) (take 4 bytes) (take 4 (drop 4 bytes)) (word_back bytes 0 (omega arith) fits)
    (word_back bytes 4 (omega arith) fits) in
    let all =
    glue (word (word_at bytes 0) ++ word (word_at bytes 4)) (word (word_at bytes 8)) (take 4 bytes ++ take 4 (drop 4 bytes)) (drop 8 bytes) front
    (last_back bytes 8 (omega arith) fits) in
    let rest : take 4 (drop 4 bytes) ++ drop 8 bytes ≡ drop 4 bytes =
    ap (λ (x : List ℕ). take 4 (drop 4 bytes) ++ x) (sym (drop-drop 4 4 bytes)) ∙ take-append-drop 4 (drop 4 bytes) in
    all ∙ append_assoc (take 4 bytes) (take 4 (drop 4 bytes)) (drop 8 bytes) ∙ ap (λ (x : List ℕ). take 4 bytes ++ x) rest ∙ take-append-drop 4 bytes
