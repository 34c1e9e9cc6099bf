-- Which lenders are asked.
use Rattle.std.specs.Prelude.{ℕ, List, [], ◌∷◌, ◌++◌}
use Rattle.swap_choice.specs.declared.lenders.Asked.{Asked}
use Rattle.swap_choice.specs.declared.lenders.Asked.TheVariants.{Nobody, One, Two}
use Rattle.swap_choice.specs.Picks.{picks}

-- the first two of a list
abbrev pub first_two : List ℕ → Asked
first_two [] = Nobody
first_two (a ∷ []) = One a
first_two (a ∷ b ∷ rest) = Two a b

-- two are asked, and the fresh ones come first
abbrev pub two_asked : ℕ → List ℕ → List ℕ → Asked
two_asked word fresh other = first_two (picks word fresh ++ picks word other)

-- the lenders that are asked
abbrev pub lenders_asked : Asked → List ℕ
lenders_asked Nobody = []
lenders_asked (One a) = a ∷ []
lenders_asked (Two a b) = a ∷ b ∷ []
