-- What a record is seen as: the size of its pages, the history, for how many entries there is room, and the first
-- entry that is marked, if one is.
use Rattle.std.specs.Prelude.{◌≡◌, ℕ, ◌+◌, ◌-◌, ◌<◌, ◌≤◌, List, [], ◌∷◌, length, min, Option, None, Some, IfSome}
use Rattle.std.specs.List.{All}
use Rattle.swap_base.specs.declared.Caller.{Caller}
use Rattle.swap_base.specs.declared.Page.{Page}
use Rattle.swap_record.specs.declared.Op.{Op}
use Rattle.swap_record.specs.declared.TheConstants.{MOST_ENTRIES}
use Rattle.swap_record.specs.History.{History, Row, count_of, with_row}

pub record RecordView : Type 0 where
  pub page_bytes : ℕ
  pub history : History
  pub spare : ℕ
  pub noted : Option ℕ

-- one more entry is marked
abbrev pub first_noted : Option ℕ → ℕ → Option ℕ
first_noted None n = Some n
first_noted (Some m) n = Some (min m n)

-- an answered call is added, in room that was reserved
abbrev pub push_after : RecordView → Caller → Page → Op → List ℕ → RecordView
push_after b caller page op bytes = record b { history = with_row b.history caller page op bytes; spare = b.spare - 1 }

-- each entry has its caller's number
abbrev pub HasNumbers : History → Type 0
HasNumbers [] = Unit {0}
HasNumbers (row ∷ H) = (row.entry.number ≡ count_of row.entry.caller H) × HasNumbers H

-- what holds of every record
pub record IsBook (b : RecordView) : Type 0 where
  pub page : b.page_bytes ≤ 4_096
  pub pages : All (λ (row : Row). length row.bytes ≡ b.page_bytes) b.history
  pub few : length b.history + b.spare ≤ MOST_ENTRIES
  pub numbers : HasNumbers b.history
  pub marked : IfSome b.noted (λ n. n < length b.history)
