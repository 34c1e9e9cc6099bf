-- What the code's readers give in the terms of the reading: the bytes of an entry's page stand beside it.
use Rattle.std.specs.Prelude.{ℕ, List}
use Rattle.swap_transcript.specs.declared.told.Did.{Did as CodeDid}
use Rattle.swap_transcript.specs.declared.told.Shown.{Shown as CodeShown}
use Rattle.swap_transcript.specs.declared.results.Told.{Told as CodeTold}
use Rattle.swap_transcript.specs.declared.results.Told.TheVariants as code
use Rattle.swap_transcript.specs.Told.{Did, Shown, Told, Saw, Entered}

abbrev pub with_bytes : List ℕ → CodeDid → Did
with_bytes bytes d = record { page = d.page; op = d.op; bytes = bytes }

abbrev pub shown_with : List ℕ → CodeShown → Shown
shown_with bytes shown = record { no = shown.no; page = shown.page; op = shown.op; bytes = bytes; sent = shown.sent }

abbrev pub told_with : List ℕ → CodeTold → Told
told_with bytes (code.Saw seen) = Saw seen
told_with bytes (code.Entered shown) = Entered (shown_with bytes shown)
