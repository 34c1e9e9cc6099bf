-- Readers: each takes what it reads from the front of a line's words, and leaves the others. What it doesn't read gives
-- nothing.
use Rattle.std.specs.Prelude.{ℕ, if◌then◌else◌, List, [], ◌∷◌, Option, None, Some}
use Rattle.swap_io.specs.Words.{number}
use Rattle.swap_script.specs.Lines.{is_word}
use Rattle.swap_script.specs.Forms.{◌>>=◌, small_number}

abbrev pub Words : Type 0
Words = List (List ℕ)

-- a given word
abbrev pub word_at : List ℕ → Words → Option Words
word_at name [] = None
word_at name (word ∷ words) = if is_word name word then Some words else None

-- a number below 2 ^ 32, and one below 2 ^ 64
abbrev pub small_at : Words → Option (ℕ × Words)
small_at [] = None
small_at (word ∷ words) = small_number word >>= λ n. Some (n, words)

abbrev pub wide_at : Words → Option (ℕ × Words)
wide_at [] = None
wide_at (word ∷ words) = number word >>= λ n. Some (n, words)

-- what one, two or three numbers make
abbrev pub one_of : {A : Type 0} → (ℕ → A) → Words → Option (A × Words)
one_of f words = small_at words >>= λ a. Some (f a.0, a.1)

abbrev pub one_wide : {A : Type 0} → (ℕ → A) → Words → Option (A × Words)
one_wide f words = wide_at words >>= λ a. Some (f a.0, a.1)

abbrev pub two_of : {A : Type 0} → (ℕ → ℕ → A) → Words → Option (A × Words)
two_of f words = small_at words >>= λ a. (small_at a.1 >>= λ b. Some (f a.0 b.0, b.1))

abbrev pub three_of : {A : Type 0} → (ℕ → ℕ → ℕ → A) → Words → Option (A × Words)
three_of f words = small_at words >>= λ a. (small_at a.1 >>= λ b. (small_at b.1 >>= λ c. Some (f a.0 b.0 c.0, c.1)))

-- what stands behind a first word, by that word
pub record Row (R : Type 0) : Type 0 where
  pub word : List ℕ
  pub reads : Words → Option R

abbrev pub row : {R : Type 0} → List ℕ → (Words → Option R) → Row R
row word reads = record { word = word; reads = reads }

abbrev pub by_row : {R : Type 0} → List (Row R) → List ℕ → Words → Option R
by_row [] word words = None
by_row (r ∷ rows) word words = if is_word r.word word then r.reads words else by_row rows word words

-- the same, where other first words have a reader too
abbrev pub by_row_or : {R : Type 0} → List (Row R) → (List ℕ → Words → Option R) → List ℕ → Words → Option R
by_row_or [] other word words = other word words
by_row_or (r ∷ rows) other word words = if is_word r.word word then r.reads words else by_row_or rows other word words

abbrev pub by_rows : {R : Type 0} → List (Row R) → Words → Option R
by_rows rows [] = None
by_rows rows (word ∷ words) = by_row rows word words

-- what was read where no words are left
abbrev pub whole : {A : Type 0} → A × Words → Option A
whole (a, []) = Some a
whole (a, word ∷ words) = None
