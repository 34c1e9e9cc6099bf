-- Seven words, and the sizes that they give.
use Rattle.std.proofs.Common.{◌≡◌, ℕ, List, [], ◌∷◌, refl, ap, Option, None, Some, Result}
use Rattle.std.specs.Option.{option_map}
use Rattle.swap_base.specs.declared.Field.{Field}
use Rattle.swap_base.specs.Sizes.{Sizes}
use Rattle.swap_script.specs.Forms.{no_word, seven_words}
use Rattle.swap_script.specs.Reading.{within_limits, field_fault, sizes_within}

pub sizes_within_is : (o : Option Sizes) (r : Result Sizes Field) → Some r ≡ option_map within_limits o → sizes_within o ≡ field_fault r
sizes_within_is None r e = cc
sizes_within_is (Some s) r e = let same : within_limits s ≡ r = cc in ap field_fault same

-- seven words and no more, or more
pub seven_words-with :
    (a b c d e f g : List ℕ) (ws : List (List ℕ)) (r : Option (Unit {0})) → option_map (λ _. tt) r ≡ no_word ws
    → option_map (λ _. (a, b, c, d, e, f, g)) r ≡ seven_words (a ∷ b ∷ c ∷ d ∷ e ∷ f ∷ g ∷ ws)
seven_words-with a b c d e f g [] None h = cc
seven_words-with a b c d e f g [] (Some u) h = refl
seven_words-with a b c d e f g (w ∷ ws) None h = refl
seven_words-with a b c d e f g (w ∷ ws) (Some u) h = cc
