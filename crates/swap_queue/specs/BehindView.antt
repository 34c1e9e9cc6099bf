-- What a queue of page-outs is seen as, and what its calls answer.
use Rattle.std.specs.Prelude.{ℕ, List, Option, None, Some}
use Rattle.swap_base.specs.declared.Page.{Page}
use Rattle.swap_base.specs.declared.EntryNo.{EntryNo}
use Rattle.swap_base.specs.Sizes.{Sizes, pages_of}
use Rattle.swap_queue.specs.declared.Failed.{Failed}
use Rattle.swap_queue.specs.declared.Failed.TheVariants as fate
use Rattle.swap_queue.specs.Queue.{Copy, Queue, empty}

-- the sizes that it is made for, and its copies and line
pub record BehindView : Type 0 where
  pub sizes : Sizes
  pub queue : Queue

abbrev pub new_backlog : Sizes → BehindView
new_backlog s = record { sizes = s; queue = empty (pages_of s) s.queue }

-- a copy's bytes, or those that a buffer had
abbrev pub bytes_or : Option Copy → List ℕ → List ℕ
bytes_or None bytes = bytes
bytes_or (Some copy) bytes = copy.bytes

-- the page that starts with its entry, and its bytes
abbrev pub started_answer : Option (Page × Copy) → Option (Page × EntryNo)
started_answer None = None
started_answer (Some f) = Some (f.0, f.1.entry)

abbrev pub started_bytes : Option (Page × Copy) → List ℕ → List ℕ
started_bytes None bytes = bytes
started_bytes (Some f) bytes = f.1.bytes

-- a copy whose write failed is kept exactly where the page has no next copy
abbrev pub failed_answer : Option Copy → EntryNo → Failed
failed_answer None entry = fate.Kept entry
failed_answer (Some next) entry = fate.Dropped entry
