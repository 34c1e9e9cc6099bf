-- What may be added in a turn.
use Rattle.std.proofs.Common.{◌≡◌, ℕ, [], ◌∷◌, ◌++◌, refl, ap, ◌∙◌, append_assoc}
use Rattle.std.proofs.lemmas.List.Elements.{All-nil, All-cons, All-append}
use Rattle.swap_record.specs.History.{History, Row}
use Rattle.swap_turn.specs.Turns.{Extends}

pub extends_none : (number : ℕ) (H : History) → Extends number H H
extends_none number H = record { added = []; whole = refl; own = All-nil (λ (row : Row). row.entry.caller.0 ≡ number) }

pub extends_one : (number : ℕ) (H : History) (row : Row) → row.entry.caller.0 ≡ number → Extends number H (row ∷ H)
extends_one number H row is =
    record {
      added = row ∷ [];
      whole = refl;
      own = All-cons (λ (r : Row). r.entry.caller.0 ≡ number) row [] is (All-nil (λ (r : Row). r.entry.caller.0 ≡ number));
    }

pub extends_more : (number : ℕ) (H now later : History) → Extends number H now → Extends number now later → Extends number H later
extends_more number H now later p q = record {
  added = q.added ++ p.added;
  whole = append_assoc q.added p.added H ∙ (ap (λ (l : History). q.added ++ l) p.whole ∙ q.whole);
  own = All-append (λ (row : Row). row.entry.caller.0 ≡ number) q.added p.added q.own p.own;
}
