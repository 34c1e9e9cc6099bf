-- Numbers and pages are read back from their words.
use Rattle.std.specs.Prelude.{◌≡◌, ℕ, ◌^◌, ◌<◌, true, ◌==◌, List, length, get_or, Some}
use Rattle.std.specs.List.{list_any}
use Rattle.std.specs.Fmt.{decimal}
use Rattle.swap_base.specs.Sizes.{page_lengths}
use Rattle.swap_io.specs.Words.{number, pattern, shortest}

-- a number below 2 ^ 64 is read from its digits, and from no other word
abbrev pub NumbersAreReadBack : Type 0
NumbersAreReadBack = (n : ℕ) → n < 2 ^ 64 → number (decimal n) ≡ Some n

abbrev pub NumbersHaveOneWord : Type 0
NumbersHaveOneWord = (word : List ℕ) (n : ℕ) → number word ≡ Some n → (word ≡ decimal n) × (n < 2 ^ 64)

abbrev pub AreBytes : List ℕ → Type 0
AreBytes bytes = (i : ℕ) → get_or bytes i 0 < 256

-- a page of any length that a page may have is read from the hex of its shortest piece
abbrev pub PagesAreReadBack : Type 0
PagesAreReadBack =
    (page : List ℕ) → list_any (λ n. length page == n) page_lengths ≡ true → AreBytes page
    → pattern (length page) (shortest page) ≡ Some page
