-- What a contract sees of a pass.
use Rattle.std.specs.Prelude.{◌≡◌, ℕ, Bool, true, false, List, [], ◌∷◌, ◌++◌}
use Rattle.atomic_table.specs.Seated.{TableId}
use Rattle.swap_record.specs.History.{History}
use Rattle.swap_turn.specs.declared.view.View.{View}
use Rattle.swap_turn.specs.Turns.{entries_of, IsEarlier, added_since, resting_seat}

-- which lock it is, and how many seats it has
pub record LockId : Type 0 where
  pub table : TableId
  pub seats : ℕ

-- whose pass it is of which lock, whether it is without a turn, what it has seen, and its own entries
pub record PassView : Type 0 where
  pub lock : LockId
  pub number : ℕ
  pub free : Bool
  pub seen : History
  pub mine : History

-- a pass that `make` gives over this history
abbrev pub pass_at_start : LockId → History → ℕ → PassView
pass_at_start lock log number =
    record { lock = lock; number = number; free = true; seen = log; mine = entries_of number log }

-- a pass of this lock, without a turn
abbrev pub IsFreeOf : LockId → PassView → Type 0
IsFreeOf lock p = (p.lock ≡ lock) × (p.free ≡ true)

-- a pass stands for a history of which it has seen an earlier part, and its entries are all that are its own there
pub record StandsFor (log : History) (p : PassView) : Type 0 where
  pub earlier : IsEarlier p.seen log
  pub own : p.mine ≡ entries_of p.number p.seen

-- the pass after its turn, which left this history
abbrev pub after_turn : PassView → History → PassView
after_turn p log = record p { free = true; seen = log; mine = added_since p.seen log ++ p.mine }

abbrev pub pair_of : PassView → ℕ × History
pair_of p = (p.number, p.mine)

-- with no view, the seat is with the turn
abbrev pub standing_of : TableId → ℕ → List View → PassView
standing_of z n [] = record { lock = record { table = z; seats = 0 }; number = n; free = false; seen = []; mine = [] }
standing_of z n (v ∷ vs) =
    record { lock = record { table = z; seats = v.seats }; number = n; free = true; seen = v.seen; mine = v.mine }

abbrev pub IsSeated : ℕ → List View → Type 0
IsSeated n [] = Unit {0}
IsSeated n (v ∷ vs) = (vs ≡ []) × (v ≡ resting_seat n v.seats v.seen v.mine)
