-- What holds of every history that grows under the lock.
use Rattle.std.specs.Prelude.{◌≡◌, ℕ, ◌∷◌}
use Rattle.swap_record.specs.History.{History, Row}
use Rattle.swap_turn.specs.Turns.{IsEarlier, Extends}

-- a turn may add nothing, or an entry of its own
abbrev pub NothingAdded : Type 0
NothingAdded = (number : ℕ) (H : History) → Extends number H H

abbrev pub OneAdded : Type 0
OneAdded = (number : ℕ) (H : History) (row : Row) → row.entry.caller.0 ≡ number → Extends number H (row ∷ H)

-- and what it adds behind what it added is its own too
abbrev pub MoreAdded : Type 0
MoreAdded =
    (number : ℕ) (H now later : History) → Extends number H now → Extends number now later → Extends number H later

abbrev pub EarlierStill : Type 0
EarlierStill = (H now later : History) → IsEarlier H now → IsEarlier now later → IsEarlier H later
