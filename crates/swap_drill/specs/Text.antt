-- The lines of a drill's summary.
use Rattle.std.specs.Prelude.{ℕ, List, [], ◌∷◌, flat_map, codes}
use Rattle.std.specs.Fmt.{decimal}
use Rattle.swap_script.specs.Lines.{with_spaces, with_line_end}
use Rattle.swap_drill.specs.declared.summary.DrillSummary.{DrillSummary}
use Rattle.swap_drill.specs.Summary.{summary_of}

abbrev pub drill_words : ℕ → ℕ → List (List ℕ)
drill_words number calls = codes "drill" ∷ decimal number ∷ decimal calls ∷ []

abbrev pub entries_words : DrillSummary → List (List ℕ)
entries_words s =
    codes "entries" ∷ decimal s.entries ∷ codes "out" ∷ decimal s.outs ∷ codes "in" ∷ decimal s.ins ∷ codes "fault"
    ∷ decimal s.faults ∷ []

abbrev pub from_words : DrillSummary → List (List ℕ)
from_words s =
    codes "from" ∷ codes "zero" ∷ decimal s.zero ∷ codes "queue" ∷ decimal s.queue ∷ codes "disk" ∷ decimal s.disk
    ∷ codes "lender" ∷ decimal s.lender ∷ []

abbrev pub busy_words : DrillSummary → List (List ℕ)
busy_words s = codes "busy" ∷ decimal s.busy ∷ codes "waiting" ∷ decimal s.waiting ∷ []

abbrev pub rounds_words : DrillSummary → List (List ℕ)
rounds_words s = codes "rounds" ∷ decimal s.rounds ∷ codes "mapped" ∷ decimal s.mapped ∷ []

abbrev pub end_words : DrillSummary → List (List ℕ)
end_words s = codes "end" ∷ decimal s.entries ∷ []

abbrev pub line_of : List (List ℕ) → List ℕ
line_of words = with_line_end (with_spaces words)

-- six lines, each ended by a line feed
abbrev pub summary_text : ℕ → ℕ → DrillSummary → List ℕ
summary_text number calls s =
    flat_map line_of
    (drill_words number calls ∷ entries_words s ∷ from_words s ∷ busy_words s ∷ rounds_words s ∷ end_words s ∷ [])

-- what is printed of a drill
abbrev pub drill_text : ℕ → ℕ → List ℕ
drill_text number calls = summary_text number calls (summary_of number calls)
