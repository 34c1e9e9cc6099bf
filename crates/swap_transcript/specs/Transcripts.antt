-- What a text is as a transcript: the sizes of its geometry line, its lenders, and each event with what its line tells
-- of
-- it; or its first line at fault.
use Rattle.std.specs.Prelude.{◌≡◌, ℕ, ◌+◌, ◌*◌, Bool, true, ◌&&◌, ◌==◌, nat_lt, nat_le, if◌then◌else◌, List, [], ◌∷◌, length, Option, None, Some, unwrap_or, Result, Ok, Err, codes}
use Rattle.std.specs.Option.{option_map_or}
use Rattle.swap_base.specs.declared.geometry.LenderSpec.{LenderSpec}
use Rattle.swap_base.specs.declared.Page.{Page}
use Rattle.swap_base.specs.declared.Caller.{Caller}
use Rattle.swap_base.specs.Sizes.{Sizes, pages_of, first_beyond}
use Rattle.swap_io.specs.Words.{number}
use Rattle.swap_record.specs.History.{History, with_row}
use Rattle.swap_record.specs.RecordView.{RecordView, first_noted}
use Rattle.swap_wire.specs.declared.Event.{Event}
use Rattle.swap_wire.specs.declared.Seen.{Seen}
use Rattle.swap_wire.specs.declared.Seen.TheVariants as seen
use Rattle.swap_script.specs.declared.Why.{Why}
use Rattle.swap_script.specs.declared.Why.TheVariants as why
use Rattle.swap_script.specs.declared.ScriptRefused.{ScriptRefused}
use Rattle.swap_script.specs.Lines.{words_of, kept_lines, is_word}
use Rattle.swap_script.specs.Forms.{one_word}
use Rattle.swap_script.specs.Forms as forms
use Rattle.swap_script.specs.Reading.{◌>>=◌, fault_at, value_unless, geometry_line, front_from, end_of, caller_of, has_caller, has_page}
use Rattle.swap_transcript.specs.declared.TranscriptRefused.{TranscriptRefused}
use Rattle.swap_transcript.specs.declared.TranscriptRefused.TheVariants as refused
use Rattle.swap_transcript.specs.Readers.{Words, word_at}
use Rattle.swap_transcript.specs.Events.{event_at}
use Rattle.swap_transcript.specs.Told.{Told, Saw, Entered, Shown}
use Rattle.swap_transcript.specs.Results.{told_of}
use Rattle.swap_script.specs.declared.TheConstants.{CALL_BYTES, EVENT_LIMIT}

-- an event, and what its line tells of it
pub record Pair : Type 0 where
  pub event : Event
  pub told : Told

pub record Transcript : Type 0 where
  pub sizes : Sizes
  pub lenders : List LenderSpec
  pub pairs : List Pair

-- the pair of a line, by its words
abbrev pub pair_behind : Sizes → Event → Words → Option Pair
pair_behind s e words =
    forms.◌>>=◌ (word_at (codes "=") words)
    (λ behind. forms.◌>>=◌ (told_of s e behind) (λ told. Some (record { event = e; told = told })))

abbrev pub pair_of : Sizes → Words → Option Pair
pair_of s words = forms.◌>>=◌ (event_at words) (λ e. pair_behind s e.0 e.1)

-- how many events stand above a line, and how many of them have an entry
pub record Above : Type 0 where
  pub events : ℕ
  pub entries : ℕ

abbrev pub nothing_above : Above
nothing_above = record { events = 0; entries = 0 }

abbrev pub entries_in : Told → ℕ
entries_in (Saw seen) = 0
entries_in (Entered shown) = 1

abbrev pub count_pair : Above → Pair → Above
count_pair above pair = record { events = above.events + 1; entries = above.entries + entries_in pair.told }

-- the page that a result names
abbrev pub seen_page : Seen → Option Page
seen_page (seen.Started page entry) = Some page
seen_page (seen.ReadCame page) = Some page
seen_page (seen.ReadFailed page) = Some page
seen_page _ = None

abbrev pub told_page : Told → Option Page
told_page (Saw seen) = seen_page seen
told_page (Entered shown) = Some shown.page

abbrev pub tells_page : Sizes → Told → Bool
tells_page s told = option_map_or (λ (p : Page). nat_lt p.0 (pages_of s)) (told_page told) true

-- what a line owes besides its form
abbrev pub tests : Sizes → Above → Pair → List (Why × Bool)
tests s above pair =
    (why.Caller, has_caller s pair.event)
    ∷ (why.Page, has_page s pair.event && tells_page s pair.told)
    ∷ (why.Calls, nat_le ((above.entries + entries_in pair.told) * s.page_bytes) CALL_BYTES)
    ∷ (why.Events, nat_lt above.events EVENT_LIMIT)
    ∷ []

abbrev pub check_pair : Sizes → Above → Option Pair → Result Pair Why
check_pair s above None = Err why.Form
check_pair s above (Some pair) = value_unless (first_beyond (tests s above pair)) pair

-- the words behind the first of an `end` line, if a line is one, and whether they count the entries
abbrev pub end_rest : Words → Option Words
end_rest [] = None
end_rest (word ∷ words) = if is_word (codes "end") word then Some words else None

abbrev pub counts : ℕ → Option ℕ → Option Why
counts entries None = Some why.Form
counts entries (Some n) = if n == entries then None else Some why.End

abbrev pub end_number : Words → Option ℕ
end_number words = forms.◌>>=◌ (one_word words) number

-- a line behind the end has no form
abbrev pub nothing_behind : List (ℕ × List ℕ) → Result (List Pair) ScriptRefused
nothing_behind [] = Ok []
nothing_behind ((n, text) ∷ rest) = Err (record { line = n; why = why.Form })

abbrev pub ended_at : ℕ → Option Why → List (ℕ × List ℕ) → Result (List Pair) ScriptRefused
ended_at n None rest = nothing_behind rest
ended_at n (Some w) rest = Err (record { line = n; why = w })

abbrev pub pair_before : Pair → Result (List Pair) ScriptRefused → Result (List Pair) ScriptRefused
pair_before pair read = read >>= λ pairs. Ok (pair ∷ pairs)

-- the lines behind the lenders are events up to the end line; `end` is the number of a line that is missing
abbrev pub pairs_from : Sizes → ℕ → Above → List (ℕ × List ℕ) → Result (List Pair) ScriptRefused
pairs_from s end above [] = Err (record { line = end; why = why.End })
pairs_from s end above ((n, text) ∷ rest) =
    option_map_or (λ behind. ended_at n (counts above.entries (end_number behind)) rest)
    (end_rest (words_of text))
    (fault_at n (check_pair s above (pair_of s (words_of text)))
    >>= λ pair. pair_before pair (pairs_from s end (count_pair above pair) rest))

abbrev pub transcript_lines : ℕ → List (ℕ × List ℕ) → Result Transcript ScriptRefused
transcript_lines end [] = fault_at end (Err why.Geometry)
transcript_lines end ((n, text) ∷ rest) = do
  sizes ← fault_at n (geometry_line (words_of text))
  front ← front_from sizes [] rest
  pairs ← pairs_from sizes end nothing_above front.lines
  Ok (record { sizes = sizes; lenders = front.lenders; pairs = pairs })

-- a text as a transcript, or its first line at fault
abbrev pub transcript : List ℕ → Result Transcript ScriptRefused
transcript text = transcript_lines (end_of text) (kept_lines text)

-- the history of a transcript's entries in the order of their lines, and the first whose printed number isn't its place
pub record Judged : Type 0 where
  pub history : History
  pub noted : Option ℕ

abbrev pub no_entries : Judged
no_entries = record { history = []; noted = None }

abbrev pub noted_by : Option ℕ → ℕ → ℕ → Option ℕ
noted_by noted printed place = if printed == place then noted else first_noted noted place

abbrev pub enter_shown : Judged → Caller → Shown → Judged
enter_shown j caller shown =
    record {
      history = with_row j.history caller shown.page shown.op shown.bytes;
      noted = noted_by j.noted shown.no.0 (length j.history);
    }

abbrev pub caller_or_first : Event → Caller
caller_or_first e = unwrap_or (caller_of e) (record { 0 = 0 })

abbrev pub with_told : Judged → Event → Told → Judged
with_told j e (Saw seen) = j
with_told j e (Entered shown) = enter_shown j (caller_or_first e) shown

abbrev pub with_pair : Judged → Pair → Judged
with_pair j pair = with_told j pair.event pair.told

abbrev pub with_pairs : Judged → List Pair → Judged
with_pairs j [] = j
with_pairs j (pair ∷ pairs) = with_pairs (with_pair j pair) pairs

abbrev pub judge : Transcript → Judged
judge t = with_pairs no_entries t.pairs

-- what is judged of the entries that a record has
abbrev pub judged_in : RecordView → Judged
judged_in book = record { history = book.history; noted = book.noted }

-- what was judged so far, with the entries of these pairs, if lines give pairs
abbrev pub judging : Judged → Result (List Pair) ScriptRefused → Result Judged ScriptRefused
judging j read = read >>= λ pairs. Ok (with_pairs j pairs)

-- what the reading of a text gives: a record of the transcript's entries, or the line at fault; want of memory tells
-- nothing
abbrev pub Gives : Result Transcript ScriptRefused → Result RecordView TranscriptRefused → Type 0
Gives (Ok t) (Ok book) = (book.page_bytes ≡ t.sizes.page_bytes) × (judged_in book ≡ judge t)
Gives (Err at) (Err (refused.Line line)) = line ≡ at
Gives read (Err refused.NoMemory) = Unit {0}
Gives _ _ = ⊥
