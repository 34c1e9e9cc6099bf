-- What a script prints is read back as the history of its run.
use Rattle.std.specs.Prelude.{◌≡◌, ℕ, List, None, Ok}
use Rattle.swap_record.specs.declared.Verdict.TheVariants as verdict
use Rattle.swap_record.specs.Judging.{Judges}
use Rattle.swap_script.specs.Reading.{Script, script}
use Rattle.swap_script.specs.Transcript as printed
use Rattle.swap_transcript.specs.Transcripts.{Transcript}
use Rattle.swap_transcript.specs.Transcripts as transcripts
use Rattle.swap_transcript.specs.Verdicts.{book_of}
use Rattle.swap_world.specs.World.{World, start, reach, seens, history}
use Rattle.swap_roundtrip.specs.Numbers.{NumbersFit}

-- the world that a script's events begin in
abbrev pub start_of : Script → World
start_of s = start s.sizes s.lenders

-- what a script prints
abbrev pub output : Script → List ℕ
output s = printed.transcript s.sizes s.lenders (seens (start_of s) s.inputs) (history (reach (start_of s) s.inputs))

-- A text is read as a transcript of the script's sizes and lenders. The history of its entries is the one of the world
-- that the script's events reached, each printed number is the entry's place, and so the judge says legal.
pub record IsReadBack (s : Script) (text : List ℕ) : Type 0 where
  pub transcript : Transcript
  pub reads : transcripts.transcript text ≡ Ok transcript
  pub sizes : transcript.sizes ≡ s.sizes
  pub lenders : transcript.lenders ≡ s.lenders
  pub judged : transcripts.judge transcript ≡ record { history = history (reach (start_of s) s.inputs); noted = None }
  pub legal : Judges (book_of transcript) verdict.Legal

-- so of each script whose lines print numbers that fit their types
abbrev pub ScriptsAreReadBack : Type 0
ScriptsAreReadBack =
    (text : List ℕ) (s : Script) → script text ≡ Ok s → NumbersFit (start_of s) s.inputs → IsReadBack s (output s)
