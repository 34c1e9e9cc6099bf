-- Parts of what is told with and, or and not.
use Rattle.std.proofs.Common.{◌≡◌, Bool, true, false, ◌&&◌, ◌||◌, not, refl, sym}

pub and_parts : (a b : Bool) → (a && b) ≡ true → (a ≡ true) × (b ≡ true)
and_parts true b e = (refl, e)
and_parts false b e = cc

pub and_first : (a b : Bool) → (a && b) ≡ true → a ≡ true
and_first a b e = (and_parts a b e).0

pub and_second : (a b : Bool) → (a && b) ≡ true → b ≡ true
and_second a b e = (and_parts a b e).1

pub or_left : (a b : Bool) → a ≡ true → (a || b) ≡ true
or_left true b e = refl
or_left false b e = cc

pub or_right : (a b : Bool) → b ≡ true → (a || b) ≡ true
or_right true b e = refl
or_right false b e = e

pub or_parts : (a b : Bool) → (a || b) ≡ false → (a ≡ false) × (b ≡ false)
or_parts true b e = (e, cc)
or_parts false b e = (refl, e)

pub or_none : (a b : Bool) → a ≡ false → b ≡ false → (a || b) ≡ false
or_none true b e other = e
or_none false b e other = other

pub or_true : (b : Bool) → (b || true) ≡ true
or_true true = refl
or_true false = refl

pub not_true : (b : Bool) → not b ≡ true → b ≡ false
not_true true e = sym e
not_true false e = refl
