-- The line that tells what a transcript is judged.
use Rattle.std.specs.Prelude.{ℕ, List, [], ◌∷◌, codes}
use Rattle.std.specs.Fmt.{decimal}
use Rattle.swap_record.specs.declared.Verdict.{Verdict}
use Rattle.swap_record.specs.declared.Verdict.TheVariants.{Legal, NotLegal}
use Rattle.swap_script.specs.Lines.{with_spaces, with_line_end}
use Rattle.swap_transcript.specs.declared.Judgement.{Judgement}

-- `legal N entries`, or `not legal at entry K`
abbrev pub verdict_words : ℕ → Verdict → List (List ℕ)
verdict_words entries Legal = codes "legal" ∷ decimal entries ∷ codes "entries" ∷ []
verdict_words entries (NotLegal at) = codes "not" ∷ codes "legal" ∷ codes "at" ∷ codes "entry" ∷ decimal at.0 ∷ []

abbrev pub verdict_line : Judgement → List ℕ
verdict_line j = with_line_end (with_spaces (verdict_words j.entries j.verdict))
