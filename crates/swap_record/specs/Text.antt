-- An entry's text: its name, what the call did, the page, and the page's bytes as their shortest pattern.
use Rattle.std.specs.Prelude.{ℕ, List, [], ◌∷◌, ◌++◌, Option, None, Some, codes}
use Rattle.std.specs.List.{join_with_byte}
use Rattle.std.specs.Fmt.{decimal}
use Rattle.swap_base.specs.declared.EntryNo.{EntryNo}
use Rattle.swap_base.specs.declared.Origin.{Origin}
use Rattle.swap_base.specs.declared.Origin.TheVariants as origin
use Rattle.swap_base.specs.declared.CallKind.TheVariants as kind
use Rattle.swap_io.specs.Words.{shortest}
use Rattle.swap_record.specs.declared.Op.{Op}
use Rattle.swap_record.specs.declared.Op.TheVariants as op
use Rattle.swap_record.specs.History.{History, Row, row_named}

abbrev pub origin_words : Origin → List (List ℕ)
origin_words origin.Zero = codes "zero" ∷ []
origin_words origin.Queue = codes "queue" ∷ []
origin_words origin.Disk = codes "disk" ∷ []
origin_words (origin.Lender l) = codes "lender" ∷ decimal l.0 ∷ []

abbrev pub named_word : Option EntryNo → List ℕ
named_word None = codes "none"
named_word (Some e) = decimal e.0

-- an entry: its name, what the call did, and the page
abbrev pub op_words : ℕ → List ℕ → Op → List (List ℕ)
op_words page bytes op.PageOut = codes "out" ∷ decimal page ∷ shortest bytes ∷ []
op_words page bytes (op.PageIn row_named from) =
    codes "in" ∷ decimal page ∷ codes "of" ∷ named_word row_named ∷ origin_words from ++ shortest bytes ∷ []
op_words page bytes (op.Failed kind.PageOut since at) =
    codes "fault" ∷ codes "out" ∷ decimal page ∷ decimal since ∷ decimal at ∷ shortest bytes ∷ []
op_words page bytes (op.Failed kind.PageIn since at) =
    codes "fault" ∷ codes "in" ∷ decimal page ∷ decimal since ∷ decimal at ∷ []

abbrev pub row_words : ℕ → Option Row → List (List ℕ)
row_words n None = []
row_words n (Some row) = codes "entry" ∷ decimal n ∷ op_words row.entry.page.0 row.bytes row.entry.op

abbrev pub entry_words : History → EntryNo → List (List ℕ)
entry_words H e = row_words e.0 (row_named H e.0)

-- the words with one space between each two
abbrev pub entry_text : History → EntryNo → List ℕ
entry_text H e = join_with_byte 32 (entry_words H e)

-- each word behind a space: what follows a first word
abbrev pub spaced_after : List (List ℕ) → List ℕ
spaced_after [] = []
spaced_after (word ∷ words) = 32 ∷ (word ++ spaced_after words)
