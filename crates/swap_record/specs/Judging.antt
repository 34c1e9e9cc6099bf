-- What a check of a record answers: its first entry that is wrong, if one is.
use Rattle.std.specs.Prelude.{◌≡◌, ℕ, ◌-◌, ◌<◌, suc, List, length, drop, replicate, get_or, ◌⊎◌, is_none, Option, None, Some}
use Rattle.swap_base.specs.declared.Page.{Page}
use Rattle.swap_base.specs.declared.EntryNo.{EntryNo}
use Rattle.swap_record.specs.declared.Op.{Op}
use Rattle.swap_record.specs.declared.Op.TheVariants.{PageOut, PageIn, Failed}
use Rattle.swap_record.specs.declared.Verdict.{Verdict}
use Rattle.swap_record.specs.declared.Verdict.TheVariants.{Legal, NotLegal}
use Rattle.swap_record.specs.History.{History, IsLegal, last, is_zero}
use Rattle.swap_record.specs.RecordView.{RecordView}

-- the history as it was when it had n entries
abbrev pub oldest : ℕ → History → History
oldest n H = drop (length H - n) H

-- the history of a record is one of an array of pages of its size, that starts as zeros
abbrev pub IsLegalBook : RecordView → History → Type 0
IsLegalBook b H = IsLegal (replicate b.page_bytes 0) H

-- an entry is the first that is wrong: it is marked, or the history with it isn't legal, and of those before it no
-- one is, since `noted` is the first that is marked
pub record IsFirstWrong (b : RecordView) (n : ℕ) : Type 0 where
  pub within : n < length b.history
  pub unmarked : (k : ℕ) → b.noted ≡ Some k → k < n → ⊥
  pub legal : IsLegalBook b (oldest n b.history)
  pub wrong : (b.noted ≡ Some n) ⊎ (IsLegalBook b (oldest (suc n) b.history) → ⊥)

-- the answer that a record gets
abbrev pub Judges : RecordView → Verdict → Type 0
Judges b Legal = (b.noted ≡ None) × IsLegalBook b b.history
Judges b (NotLegal at) = IsFirstWrong b at.0

-- an entry that an op and its bytes make is right behind a history where the array's content of its page is this one
-- and this is its last page-out
abbrev pub IsRight : Op → Option EntryNo → List ℕ → List ℕ → Type 0
IsRight PageOut newest bytes content = Unit {0}
IsRight (PageIn named from) newest bytes content = (named ≡ newest) × (is_zero from ≡ is_none named) × (bytes ≡ content)
IsRight (Failed kind since at) newest bytes content = since < at

-- a table has the last page-out of each page
abbrev pub HasNewest : List (Option EntryNo) → History → Type 0
HasNewest newest H = (page : Page) → get_or newest page.0 None ≡ last H page
