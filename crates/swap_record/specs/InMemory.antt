-- A history in memory: the entries, the oldest first, their pages one behind another, and how many entries
-- each caller has.
use Rattle.std.specs.Prelude.{◌≡◌, ℕ, ◌+◌, ◌*◌, ◌<◌, ◌≤◌, List, [], ◌∷◌, take, drop, reverse, length, slice_index, vec_len, vec_capacity, Option, IfSome}
use Rattle.std.specs.declared.vec.Vec.{Vec}
use Rattle.std.specs.declared.alloc.Global.{Global}
use Rattle.swap_base.specs.declared.Caller.{Caller}
use Rattle.swap_record.specs.declared.Entry.{Entry}
use Rattle.swap_record.specs.declared.TheConstants.{MOST_COUNTED, MOST_ENTRIES}
use Rattle.swap_record.specs.History.{History, Row, count_of}
use Rattle.swap_record.specs.RecordView.{HasNumbers}

-- the entries with their pages, the oldest first
abbrev pub rows_in : ℕ → List Entry → List ℕ → List Row
rows_in page_bytes [] bytes = []
rows_in page_bytes (entry ∷ entries) bytes =
    record { entry = entry; bytes = take page_bytes bytes } ∷ rows_in page_bytes entries (drop page_bytes bytes)

abbrev pub history_in : ℕ → List Entry → List ℕ → History
history_in page_bytes entries bytes = reverse (rows_in page_bytes entries bytes)

-- the counts are those of the history
abbrev pub AreCounts : List ℕ → History → Type 0
AreCounts counts H = (caller : Caller) → caller.0 < MOST_COUNTED → slice_index counts caller.0 ≡ count_of caller H

-- the block has each entry's page, and there is room for what was reserved
pub record IsKept (page_bytes : ℕ) (entries : Vec Entry Global) (bytes : Vec ℕ Global) (counts : List ℕ) (spare : ℕ)
    (noted : Option ℕ) : Type 0 where
  pub page : page_bytes ≤ 4_096
  pub block : length bytes.items ≡ length entries.items * page_bytes
  pub few : vec_len entries + spare ≤ MOST_ENTRIES
  pub entries_room : vec_len entries + spare ≤ vec_capacity entries
  pub bytes_room : vec_len bytes + spare * page_bytes ≤ vec_capacity bytes
  pub counted : AreCounts counts (history_in page_bytes entries.items bytes.items)
  pub numbers : HasNumbers (history_in page_bytes entries.items bytes.items)
  pub marked : IfSome noted (λ n. n < length entries.items)
