-- How a decoder answers by what its rest is judged to be. The contract of `next` says the same in the words of frames.
use Rattle.std.specs.Prelude.{ℕ, ◌+◌, true, if◌then◌else◌, List, [], take, drop}
use Rattle.swap_wire.specs.declared.frames.Judged.{Judged}
use Rattle.swap_wire.specs.declared.frames.Judged.TheVariants.{Whole, Partial, Hopeless}
use Rattle.swap_wire.specs.declared.decoder.Next.{Next}
use Rattle.swap_wire.specs.declared.decoder.Next.TheVariants as next
use Rattle.swap_wire.specs.Frames.{form}
use Rattle.swap_wire.specs.Heads.{whole_length, judge_head, message, fields_in, page_of}
use Rattle.swap_wire.specs.Decoding.{DecoderView, count_up}

-- the answer
abbrev pub told_by : DecoderView → Judged → Next
told_by d (Whole k) = next.Got (message k (fields_in k (take (whole_length d.page_bytes (form k)) d.rest)))
told_by d Partial = next.More
told_by d Hopeless = next.Bad d.before

-- and the same once it is bad
abbrev pub next_told : DecoderView → Next
next_told d = if d.bad then next.Bad d.before else told_by d (judge_head d.side d.page_bytes d.rest)

-- the decoder after it
abbrev pub left_by : DecoderView → Judged → DecoderView
left_by d (Whole k) =
    record d {
      rest = drop (whole_length d.page_bytes (form k)) d.rest;
      before = count_up (d.before + whole_length d.page_bytes (form k));
    }
left_by d Partial = d
left_by d Hopeless = record d { bad = true }

abbrev pub left_after : DecoderView → DecoderView
left_after d = if d.bad then d else left_by d (judge_head d.side d.page_bytes d.rest)

-- the page that goes with it
abbrev pub shown_by : DecoderView → Judged → List ℕ
shown_by d (Whole k) = page_of k (take (whole_length d.page_bytes (form k)) d.rest)
shown_by d Partial = []
shown_by d Hopeless = []

abbrev pub bytes_shown : DecoderView → List ℕ
bytes_shown d = if d.bad then [] else shown_by d (judge_head d.side d.page_bytes d.rest)
