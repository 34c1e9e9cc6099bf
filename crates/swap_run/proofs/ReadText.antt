-- What was read of a text that is told.
use Rattle.std.proofs.Common.{◌≡◌, ℕ, ◌+◌, ◌≤◌, List, ◌++◌, length, sym, ap, ◌∙◌, arith, length-append, append-nil, Option, None, Some}
use Rattle.swap_io.specs.Causes.{WasRead, WasReadWhole}

pub read_whole_is : (before now : Option (List ℕ)) (told text : List ℕ) → before ≡ Some told → WasReadWhole before now text → told ≡ text
read_whole_is None now told text e h = cc
read_whole_is (Some xs) None told text e h = absurd h.0
read_whole_is (Some xs) (Some ys) told text e h =
    let same : xs ≡ told = cc in sym same ∙ h.0 ∙ ap (λ r. text ++ r) h.1 ∙ append-nil text

pub read_length : (before now : Option (List ℕ)) (told bytes : List ℕ) → before ≡ Some told → WasRead before now bytes → length bytes ≤ length told
read_length None now told bytes e h = cc
read_length (Some xs) None told bytes e h = absurd h
read_length (Some xs) (Some ys) told bytes e h =
    let same : xs ≡ told = cc in let l : length told ≡ length bytes + length ys = ap length (sym same ∙ h) ∙ length-append bytes ys in omega arith
