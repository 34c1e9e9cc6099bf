-- What a reader reads is what its words print, and what is printed is read back.
use Rattle.std.proofs.Common.{◌≡◌, ℕ, ◌^◌, ◌<◌, Bool, true, false, cond, nat_lt, List, [], ◌∷◌, ◌++◌, Option, None, Some, refl, sym, ap, subst, ◌∙◌, arith}
use Rattle.std.proofs.lemmas.Option.{cond_some}
use Rattle.std.proofs.lemmas.Bool.{ltb-true, lt-ltb}
use Rattle.std.proofs.lemmas.Slice.Eq.{bytes_eq-Decides}
use Rattle.std.specs.List.{AllByRecursion}
use Rattle.std.specs.Option.{option_and_then}
use Rattle.std.specs.Fmt.{decimal}
use Rattle.swap_io.specs.Words.{number}
use Rattle.swap_io.proofs.Back.{number_again, number_one}
use Rattle.swap_io.proofs.Numbers.{cond_true}
use Rattle.swap_script.specs.Forms.{small_number, number_below}
use Rattle.swap_script.specs.Lines.{is_word}
use Rattle.swap_transcript.specs.Readers.{Words, small_at, wide_at, one_of, one_wide, two_of, Row, row, by_row, by_row_or, by_rows}

-- what was read, and then something else
pub bind_some : {A B : Type 0} (o : Option A) (f : A → Option B) (y : B) → option_and_then f o ≡ Some y → (x : A) × (o ≡ Some x) × (f x ≡ Some y)
bind_some None f y e = cc
bind_some (Some x) f y e = (x, refl, e)

pub bound : {A B : Type 0} (o : Option A) (f : A → Option B) (x : A) → o ≡ Some x → option_and_then f o ≡ f x
bound o f x e = ap (option_and_then f) e

pub small-only : (word : List ℕ) (n : ℕ) → small_number word ≡ Some n → (word ≡ decimal n) × (n < 2 ^ 32)
small-only word n e =
    let read = bind_some (number word) (number_below (2 ^ 32)) n e in
    let fits = cond_some (nat_lt read.0 (2 ^ 32)) read.0 n read.2 in
    let same : number word ≡ Some n = read.1 ∙ ap (λ m. Some m) fits.1 in
    ((number_one word n same).0, subst (λ m. m < 2 ^ 32) fits.1 (ltb-true read.0 (2 ^ 32) fits.0))

pub small-back : (n : ℕ) → n < 2 ^ 32 → small_number (decimal n) ≡ Some n
small-back n l =
    bound (number (decimal n)) (number_below (2 ^ 32)) n (number_again n (omega arith)) ∙ cond_true (nat_lt n (2 ^ 32)) (Some n) None (lt-ltb n (2 ^ 32) l)

-- one number in front of other words
pub record Number (limit : ℕ) (words : Words) (n : ℕ) (rest : Words) : Type 0 where
  pub spelled : words ≡ decimal n ∷ rest
  pub within : n < limit

pub small_at-only : (words : Words) (x : ℕ × Words) → small_at words ≡ Some x → Number (2 ^ 32) words x.0 x.1
small_at-only [] x e = cc
small_at-only (word ∷ words) x e =
    let read = bind_some (small_number word) (λ n. Some (n, words)) x e in
    let one = small-only word read.0 read.1 in
    let same : (read.0, words) ≡ x = cc in
    subst (λ y. Number (2 ^ 32) (word ∷ words) y.0 y.1) same (record { spelled = ap (λ w. w ∷ words) one.0; within = one.1 })

pub wide_at-only : (words : Words) (x : ℕ × Words) → wide_at words ≡ Some x → Number (2 ^ 64) words x.0 x.1
wide_at-only [] x e = cc
wide_at-only (word ∷ words) x e =
    let read = bind_some (number word) (λ n. Some (n, words)) x e in
    let one = number_one word read.0 read.1 in
    let same : (read.0, words) ≡ x = cc in
    subst (λ y. Number (2 ^ 64) (word ∷ words) y.0 y.1) same (record { spelled = ap (λ w. w ∷ words) one.0; within = one.1 })

pub small_at-back : (n : ℕ) (rest : Words) → n < 2 ^ 32 → small_at (decimal n ∷ rest) ≡ Some (n, rest)
small_at-back n rest l = bound (small_number (decimal n)) (λ m. Some (m, rest)) n (small-back n l)

pub wide_at-back : (n : ℕ) (rest : Words) → n < 2 ^ 64 → wide_at (decimal n ∷ rest) ≡ Some (n, rest)
wide_at-back n rest l = bound (number (decimal n)) (λ m. Some (m, rest)) n (number_again n l)

-- what one, two or three numbers make
pub one-only : {A : Type 0} (f : ℕ → A) (words : Words) (x : A × Words) → one_of f words ≡ Some x → (n : ℕ) × Number (2 ^ 32) words n x.1 × (x.0 ≡ f n)
one-only f words x e =
    let a = bind_some (small_at words) (λ a. Some (f a.0, a.1)) x e in
    let same : (f a.0.0, a.0.1) ≡ x = cc in
    (a.0.0, subst (λ rest. Number (2 ^ 32) words a.0.0 rest) (ap (λ y. y.1) same) (small_at-only words a.0 a.1), sym (ap (λ y. y.0) same))

pub one_wide-only : {A : Type 0} (f : ℕ → A) (words : Words) (x : A × Words) → one_wide f words ≡ Some x → (n : ℕ) × Number (2 ^ 64) words n x.1 × (x.0 ≡ f n)
one_wide-only f words x e =
    let a = bind_some (wide_at words) (λ a. Some (f a.0, a.1)) x e in
    let same : (f a.0.0, a.0.1) ≡ x = cc in
    (a.0.0, subst (λ rest. Number (2 ^ 64) words a.0.0 rest) (ap (λ y. y.1) same) (wide_at-only words a.0 a.1), sym (ap (λ y. y.0) same))

pub record Two (A : Type 0) (second : ℕ) (f : ℕ → ℕ → A) (words : Words) (x : A × Words) : Type 0 where
  pub a : ℕ
  pub b : ℕ
  pub a_within : a < 2 ^ 32
  pub b_within : b < second
  pub spelled : words ≡ decimal a ∷ decimal b ∷ x.1
  pub is : x.0 ≡ f a b

pub two-only : {A : Type 0} (f : ℕ → ℕ → A) (words : Words) (x : A × Words) → two_of f words ≡ Some x → Two A (2 ^ 32) f words x
two-only f words x e =
    let a = bind_some (small_at words) (λ a. option_and_then (λ b. Some (f a.0 b.0, b.1)) (small_at a.1)) x e in
    let b = bind_some (small_at a.0.1) (λ b. Some (f a.0.0 b.0, b.1)) x a.2 in
    let same : (f a.0.0 b.0.0, b.0.1) ≡ x = cc in
    let first = small_at-only words a.0 a.1 in
    let second = small_at-only a.0.1 b.0 b.1 in
    record {
      a = a.0.0;
      b = b.0.0;
      a_within = first.within;
      b_within = second.within;
      spelled = first.spelled ∙ ap (λ rest. decimal a.0.0 ∷ rest) (second.spelled ∙ ap (λ y. decimal b.0.0 ∷ y.1) same);
      is = sym (ap (λ y. y.0) same);
    }

pub one-back : {A : Type 0} (f : ℕ → A) (n : ℕ) (rest : Words) → n < 2 ^ 32 → one_of f (decimal n ∷ rest) ≡ Some (f n, rest)
one-back f n rest l = bound (small_at (decimal n ∷ rest)) (λ a. Some (f a.0, a.1)) (n, rest) (small_at-back n rest l)

pub one_wide-back : {A : Type 0} (f : ℕ → A) (n : ℕ) (rest : Words) → n < 2 ^ 64 → one_wide f (decimal n ∷ rest) ≡ Some (f n, rest)
one_wide-back f n rest l = bound (wide_at (decimal n ∷ rest)) (λ a. Some (f a.0, a.1)) (n, rest) (wide_at-back n rest l)

pub two-back : {A : Type 0} (f : ℕ → ℕ → A) (a b : ℕ) (rest : Words) → a < 2 ^ 32 → b < 2 ^ 32 → two_of f (decimal a ∷ decimal b ∷ rest) ≡ Some (f a b, rest)
two-back f a b rest la lb =
    bound (small_at (decimal a ∷ decimal b ∷ rest)) (λ x. option_and_then (λ y. Some (f x.0 y.0, y.1)) (small_at x.1)) (a, decimal b ∷ rest)
    (small_at-back a (decimal b ∷ rest) la)
    ∙ one-back (f a) b rest lb

-- rows: what each reads is what is said of its word and those behind it
abbrev pub RowSays : {R : Type 0} → (Words → R → Type 0) → Row R → Type 0
RowSays {R} Says r = (words : Words) (x : R) → r.reads words ≡ Some x → Says (r.word ∷ words) x

chosen :
    {R : Type 0} (Says : Words → R → Type 0) (name word : List ℕ) (words : Words) (x : R) (this other : Option R) (b : Bool) → is_word name word ≡ b
    → (this ≡ Some x → Says (name ∷ words) x) → (other ≡ Some x → Says (word ∷ words) x) → cond b this other ≡ Some x → Says (word ∷ words) x
chosen Says name word words x this other true is now later e = subst (λ w. Says (w ∷ words) x) ((bytes_eq-Decides name word).0 is) (now e)
chosen Says name word words x this other false is now later e = later e

pub by_row-only :
    {R : Type 0} (Says : Words → R → Type 0) (rows : List (Row R)) → AllByRecursion (RowSays Says) rows → (word : List ℕ) (words : Words) (x : R)
    → by_row rows word words ≡ Some x → Says (word ∷ words) x
by_row-only Says [] h word words x e = cc
by_row-only Says (r ∷ rows) h word words x e =
    chosen Says r.word word words x (r.reads words) (by_row rows word words) (is_word r.word word) refl (h.0 words x) (by_row-only Says rows h.1 word words x) e

pub by_row_or-only :
    {R : Type 0} (Says : Words → R → Type 0) (rows : List (Row R)) (other : List ℕ → Words → Option R) → AllByRecursion (RowSays Says) rows
    → ((word : List ℕ) (words : Words) (x : R) → other word words ≡ Some x → Says (word ∷ words) x) → (word : List ℕ) (words : Words) (x : R)
    → by_row_or rows other word words ≡ Some x → Says (word ∷ words) x
by_row_or-only Says [] other h k word words x e = k word words x e
by_row_or-only Says (r ∷ rows) other h k word words x e =
    chosen Says r.word word words x (r.reads words) (by_row_or rows other word words) (is_word r.word word) refl (h.0 words x)
    (by_row_or-only Says rows other h.1 k word words x) e

pub by_rows-only :
    {R : Type 0} (Says : Words → R → Type 0) (rows : List (Row R)) → AllByRecursion (RowSays Says) rows → (words : Words) (x : R) → by_rows rows words ≡ Some x
    → Says words x
by_rows-only Says rows h [] x e = cc
by_rows-only Says rows h (word ∷ words) x e = by_row-only Says rows h word words x e

-- words are what a value prints, and those left behind it
abbrev pub Prints : {A : Type 0} → (A → Words) → (A → Type 0) → Words → A × Words → Type 0
Prints prints P words x = P x.0 × (words ≡ prints x.0 ++ x.1)

pub from-row :
    {A : Type 0} (prints : A → Words) (P : A → Type 0) (name : List ℕ) (o : A) → prints o ≡ name ∷ [] → P o
    → RowSays (Prints prints P) (row name (λ words. Some (o, words)))
from-row prints P name o spells p words x e =
    let same : (o, words) ≡ x = cc in
    subst (Prints prints P (name ∷ words)) same (p, sym (ap (λ w. w ++ words) spells))

pub one-row :
    {A : Type 0} (prints : A → Words) (P : A → Type 0) (name : List ℕ) (f : ℕ → A) → ((n : ℕ) → prints (f n) ≡ name ∷ decimal n ∷ [])
    → ((n : ℕ) → n < 2 ^ 32 → P (f n)) → RowSays (Prints prints P) (row name (one_of f))
one-row prints P name f spells fits words x e =
    let o = one-only f words x e in
    (subst P (sym o.2) (fits o.0 o.1.within), ap (λ w. name ∷ w) o.1.spelled ∙ sym (ap (λ p. p ++ x.1) (ap prints o.2 ∙ spells o.0)))

pub one_wide-row :
    {A : Type 0} (prints : A → Words) (P : A → Type 0) (name : List ℕ) (f : ℕ → A) → ((n : ℕ) → prints (f n) ≡ name ∷ decimal n ∷ [])
    → ((n : ℕ) → n < 2 ^ 64 → P (f n)) → RowSays (Prints prints P) (row name (one_wide f))
one_wide-row prints P name f spells fits words x e =
    let o = one_wide-only f words x e in
    (subst P (sym o.2) (fits o.0 o.1.within), ap (λ w. name ∷ w) o.1.spelled ∙ sym (ap (λ p. p ++ x.1) (ap prints o.2 ∙ spells o.0)))

pub two-row :
    {A : Type 0} (prints : A → Words) (P : A → Type 0) (name : List ℕ) (f : ℕ → ℕ → A) → ((a b : ℕ) → prints (f a b) ≡ name ∷ decimal a ∷ decimal b ∷ [])
    → ((a b : ℕ) → a < 2 ^ 32 → b < 2 ^ 32 → P (f a b)) → RowSays (Prints prints P) (row name (two_of f))
two-row prints P name f spells fits words x e =
    let t = two-only f words x e in
    (subst P (sym t.is) (fits t.a t.b t.a_within t.b_within), ap (λ w. name ∷ w) t.spelled ∙ sym (ap (λ p. p ++ x.1) (ap prints t.is ∙ spells t.a t.b)))
