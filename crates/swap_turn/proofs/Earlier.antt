-- What stood before, in a list whose newest part comes first.
use Rattle.std.proofs.Common.{◌≡◌, ◌≤◌, [], ◌∷◌, ◌++◌, length, refl, ap, sym, ◌∙◌, arith, append_assoc, length-append}
use Rattle.swap_record.specs.History.{History}
use Rattle.swap_turn.specs.Turns.{IsEarlier}

-- each history is as it was
pub earlier_self : (H : History) → IsEarlier H H
earlier_self H = record { later = []; whole = refl }

pub earlier_trans : (xs ys zs : History) → IsEarlier xs ys → IsEarlier ys zs → IsEarlier xs zs
earlier_trans xs ys zs p q = record { later = q.later ++ p.later; whole = append_assoc q.later p.later xs ∙ (ap (λ w. q.later ++ w) p.whole ∙ q.whole) }

-- of two earlier ones of one history the shorter is earlier than the longer
shorter : (later later' xs ys : History) → later ++ xs ≡ later' ++ ys → length xs ≤ length ys → IsEarlier xs ys
shorter later [] xs ys e le = record { later = later; whole = e }
shorter [] (y ∷ later') xs ys e le = absurd (omega (arith, ap length e, length-append later' ys))
shorter (x ∷ later) (y ∷ later') xs ys e le = shorter later later' xs ys (cc) le

pub earlier_shorter : (xs ys zs : History) → IsEarlier xs zs → IsEarlier ys zs → length xs ≤ length ys → IsEarlier xs ys
earlier_shorter xs ys zs p q le = shorter p.later q.later xs ys (p.whole ∙ sym q.whole) le

-- an earlier one as long as the whole is the whole
no_longer : (later xs ys : History) → later ++ xs ≡ ys → length ys ≤ length xs → xs ≡ ys
no_longer [] xs ys e le = e
no_longer (x ∷ later) xs ys e le = absurd (omega (arith, ap length e, length-append later xs))

pub earlier_whole : (xs ys : History) → IsEarlier xs ys → length ys ≤ length xs → xs ≡ ys
earlier_whole xs ys p le = no_longer p.later xs ys p.whole le

pub earlier_length : (xs ys : History) → IsEarlier xs ys → length xs ≤ length ys
earlier_length xs ys p = omega (arith, sym (ap length p.whole) ∙ length-append p.later xs)
