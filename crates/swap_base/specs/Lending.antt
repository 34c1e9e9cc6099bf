-- The limits of what a lender lends.
use Rattle.std.specs.Prelude.{Bool, List, [], ◌∷◌}
use Rattle.swap_base.specs.declared.Field.{Field}
use Rattle.swap_base.specs.declared.TheConstants.{MOST_SLOTS}
use Rattle.swap_base.specs.declared.Field.TheVariants.{Slots, Headroom, Extra}
use Rattle.swap_base.specs.declared.geometry.LenderSpec.{LenderSpec}
use Rattle.swap_base.specs.Sizes.{is_within}

-- each field of a lender, and whether it keeps its limit
abbrev pub lender_limits : LenderSpec → List (Field × Bool)
lender_limits s =
    (Slots, is_within 1 MOST_SLOTS s.slots)
    ∷ (Headroom, is_within 0 MOST_SLOTS s.headroom)
    ∷ (Extra, is_within 0 MOST_SLOTS s.extra)
    ∷ []
