-- What a transcript is: its lines are those that its sizes, its lenders and its pairs print.
use Rattle.std.specs.Prelude.{◌≡◌, ℕ, ◌↔◌, List, [], ◌∷◌, ◌++◌, map, flat_map, Option, None, Some, Ok, codes}
use Rattle.std.specs.Fmt.{decimal}
use Rattle.swap_base.specs.Sizes.{Sizes, AreInLimits, first_beyond}
use Rattle.swap_base.specs.declared.geometry.LenderSpec.{LenderSpec}
use Rattle.swap_base.specs.declared.EntryNo.{EntryNo}
use Rattle.swap_base.specs.declared.Lender.{Lender}
use Rattle.swap_record.specs.declared.Op.{Op}
use Rattle.swap_record.specs.declared.Op.TheVariants as op
use Rattle.swap_record.specs.History.{History, Row, row_named}
use Rattle.swap_wire.specs.declared.Seen.{Seen}
use Rattle.swap_wire.specs.declared.Seen.TheVariants as seen
use Rattle.swap_script.specs.Lines.{words_of, kept_lines, with_spaces, with_line_end}
use Rattle.swap_script.specs.Transcript.{line}
use Rattle.swap_script.specs.Reading.{IsWithinLimits, lending_tests}
use Rattle.swap_transcript.specs.Readers.{Words}
use Rattle.swap_transcript.specs.Printed.{MayBeSent, HasPairWords, pair_words}
use Rattle.swap_transcript.specs.Told.{Told, Saw, Entered, Shown}
use Rattle.swap_transcript.specs.Transcripts.{Pair, Transcript, Above, nothing_above, count_pair, tests, pair_of, transcript}
use Rattle.swap_transcript.specs.Verdicts.{entries_of}

abbrev pub sizes_rest : Sizes → Words
sizes_rest s =
    decimal s.page_bytes ∷ decimal s.pages_per_slab ∷ decimal s.slabs ∷ decimal s.queue ∷ decimal s.callers
    ∷ decimal s.window ∷ decimal s.hot ∷ []

abbrev pub spec_rest : LenderSpec → Words
spec_rest spec = decimal spec.slots ∷ decimal spec.headroom ∷ decimal spec.extra ∷ []

abbrev pub geometry_words : Sizes → Words
geometry_words s = codes "geometry" ∷ sizes_rest s

abbrev pub lender_words : LenderSpec → Words
lender_words spec = codes "lender" ∷ spec_rest spec

abbrev pub end_words : ℕ → Words
end_words entries = codes "end" ∷ decimal entries ∷ []

-- the words of each line
abbrev pub transcript_words : Transcript → List Words
transcript_words t =
    geometry_words t.sizes ∷ (map lender_words t.lenders ++ (map pair_words t.pairs ++ end_words (entries_of t) ∷ []))

-- the lines of a text that count, as words
abbrev pub words_in : List (ℕ × List ℕ) → List Words
words_in lines = map (λ numbered. words_of numbered.1) lines

-- lenders that may stand below others: each is within its limits, and with those above it they may lend
abbrev pub MayStandBelow : Sizes → List LenderSpec → List LenderSpec → Type 0
MayStandBelow s others [] = Unit {0}
MayStandBelow s others (spec ∷ specs) =
    IsWithinLimits spec × (first_beyond (lending_tests s (others ++ spec ∷ [])) ≡ None)
    × MayStandBelow s (others ++ spec ∷ []) specs

-- pairs that may follow so many events: each has words, and owes nothing
abbrev pub MayFollow : Sizes → Above → List Pair → Type 0
MayFollow s above [] = Unit {0}
MayFollow s above (pair ∷ pairs) =
    HasPairWords s pair × (first_beyond (tests s above pair) ≡ None) × MayFollow s (count_pair above pair) pairs

-- a text whose lines are printed so
pub record IsSpelled (text : List ℕ) (t : Transcript) : Type 0 where
  pub sizes : AreInLimits t.sizes
  pub lenders : MayStandBelow t.sizes [] t.lenders
  pub pairs : MayFollow t.sizes nothing_above t.pairs
  pub lines : words_in (kept_lines text) ≡ transcript_words t

-- the words of a line are those of what is read of it
abbrev pub LinesAreRead : Type 0
LinesAreRead =
    (s : Sizes) (words : Words) (pair : Pair)
    → (pair_of s words ≡ Some pair) ↔ (HasPairWords s pair × (words ≡ pair_words pair))

-- a text is read as a transcript exactly where the transcript spells it
abbrev pub TranscriptsAreRead : Type 0
TranscriptsAreRead = (text : List ℕ) (t : Transcript) → (transcript text ≡ Ok t) ↔ IsSpelled text t

-- no text is spelled by two
abbrev pub HaveOneReading : Type 0
HaveOneReading = (text : List ℕ) (t other : Transcript) → IsSpelled text t → IsSpelled text other → t ≡ other

-- The printer writes a pair's line from what was seen and from the history, where the entry's number names an entry of
-- that page, that kind and those bytes.
abbrev pub seen_by : Op → EntryNo → Option Lender → Seen
seen_by (op.Failed kind since at) e sent = seen.Fault e
seen_by o e sent = seen.Done e sent

abbrev pub seen_told : Told → Seen
seen_told (Saw seen) = seen
seen_told (Entered shown) = seen_by shown.op shown.no shown.sent

-- a result without an entry
abbrev pub IsPlain : Seen → Type 0
IsPlain (seen.Done e sent) = ⊥
IsPlain (seen.Fault e) = ⊥
IsPlain _ = Unit {0}

pub record IsEntry (H : History) (shown : Shown) : Type 0 where
  pub row : Row
  pub is : row_named H shown.no.0 ≡ Some row
  pub page : row.entry.page ≡ shown.page
  pub op : row.entry.op ≡ shown.op
  pub bytes : row.bytes ≡ shown.bytes
  pub sent : MayBeSent shown.op shown.sent

abbrev pub IsToldOf : History → Told → Type 0
IsToldOf H (Saw seen) = IsPlain seen
IsToldOf H (Entered shown) = IsEntry H shown

abbrev pub LinesArePrinted : Type 0
LinesArePrinted =
    (H : History) (pair : Pair) → IsToldOf H pair.told
    → line H (pair.event, seen_told pair.told) ≡ with_line_end (with_spaces (pair_words pair))

-- the bytes of a transcript's lines are its words with one space between each two
abbrev pub BytesArePrinted : Type 0
BytesArePrinted =
    (text : List ℕ) (t : Transcript) → transcript text ≡ Ok t
    → map (λ (numbered : ℕ × List ℕ). numbered.1) (kept_lines text) ≡ map with_spaces (transcript_words t)

-- lines as a text: the words of each with one space between each two, and a line feed behind them
abbrev pub text_of : List Words → List ℕ
text_of lines = flat_map (λ words. with_line_end (with_spaces words)) lines

-- a transcript within the limits, whose lines have words and owe nothing
pub record IsWhole (t : Transcript) : Type 0 where
  pub sizes : AreInLimits t.sizes
  pub lenders : MayStandBelow t.sizes [] t.lenders
  pub pairs : MayFollow t.sizes nothing_above t.pairs

-- what such a transcript prints is read as that transcript
abbrev pub PrintedIsRead : Type 0
PrintedIsRead = (t : Transcript) → IsWhole t → transcript (text_of (transcript_words t)) ≡ Ok t
