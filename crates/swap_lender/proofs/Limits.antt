-- A spec that was checked is within the limits of a lender.
use Rattle.std.proofs.Common.{◌≡◌, Bool, true, false, ◌&&◌, List, [], ◌∷◌, None, refl}
use Rattle.std.specs.Prelude.{nat_le}
use Rattle.std.proofs.lemmas.Bool.{leb-true}
use Rattle.swap_base.specs.Sizes.{first_beyond, is_within}
use Rattle.swap_base.specs.declared.Field.TheVariants.{Slots, Headroom, Extra}
use Rattle.swap_lender.specs.Calls.{CheckedSpecsFit}
use Rattle.swap_base.proofs.Bools.{and_first, and_second}

-- the first test holds, and so do the others
record Holds {X : Type 0} (b : Bool) (rest : List (X × Bool)) : Type 0 where
  pub first : b ≡ true
  pub others : first_beyond rest ≡ None

none_beyond : {X : Type 0} (x : X) (b : Bool) (rest : List (X × Bool)) → first_beyond ((x, b) ∷ rest) ≡ None → Holds b rest
none_beyond x true rest e = record { first = refl; others = e }
none_beyond x false rest e = absurd (cc)

pub checked_specs_fit : CheckedSpecsFit
checked_specs_fit s e =
    let slots = none_beyond Slots (is_within 1 64 s.spec.slots) ((Headroom, is_within 0 64 s.spec.headroom) ∷ (Extra, is_within 0 64 s.spec.extra) ∷ []) e in
    let headroom = none_beyond Headroom (is_within 0 64 s.spec.headroom) ((Extra, is_within 0 64 s.spec.extra) ∷ []) slots.others in
    let extra = none_beyond Extra (is_within 0 64 s.spec.extra) [] headroom.others in
    record {
      some = leb-true 1 s.spec.slots (and_first (nat_le 1 s.spec.slots) (nat_le s.spec.slots 64) slots.first);
      few = leb-true s.spec.slots 64 (and_second (nat_le 1 s.spec.slots) (nat_le s.spec.slots 64) slots.first);
      headroom = leb-true s.spec.headroom 64 (and_second (nat_le 0 s.spec.headroom) (nat_le s.spec.headroom 64) headroom.first);
      extra = leb-true s.spec.extra 64 (and_second (nat_le 0 s.spec.extra) (nat_le s.spec.extra 64) extra.first);
    }
