-- What the code's lines and counts are in the terms of the reading.
use Rattle.std.specs.Prelude.{ℕ, Bool, false, ◌==◌, if◌then◌else◌, List, [], ◌∷◌, Option, None, Some, Result, Ok, Err}
use Rattle.swap_base.specs.declared.Caller.{Caller}
use Rattle.swap_base.specs.declared.Field.{Field}
use Rattle.swap_base.specs.declared.FieldRefused.{FieldRefused}
use Rattle.swap_base.specs.declared.geometry.LenderSpec.{LenderSpec}
use Rattle.swap_base.specs.Sizes.{Sizes}
use Rattle.swap_script.specs.declared.forms.Line.{Line as CodeLine}
use Rattle.swap_script.specs.declared.faults.Counts.{Counts}
use Rattle.swap_script.specs.declared.Part.{Part}
use Rattle.swap_script.specs.Forms.{Line, caller_word}
use Rattle.swap_script.specs.Reading.{Above, is_in}

abbrev pub spelled_line : CodeLine → Line
spelled_line line = record { event = line.event; hex = line.hex.now }

-- a geometry that was checked
abbrev pub as_within : Result Sizes FieldRefused → Result Sizes Field
as_within (Ok s) = Ok s
as_within (Err refused) = Err refused.field

-- a line whose event is in a part
abbrev pub line_in : Part → Option Line → Option Line
line_in p None = None
line_in p (Some line) = if is_in p line.event then Some line else None

-- the caller that a trace's line begins with, if it is a call's
abbrev pub first_caller : List (List ℕ) → Option Caller
first_caller [] = None
first_caller (word ∷ words) = caller_word word

abbrev pub is_caller : Caller → Option Caller → Bool
is_caller c None = false
is_caller c (Some first) = first.0 == c.0

abbrev pub above_of : Counts → Above
above_of counts = record { events = counts.events; calls = counts.calls }

-- a lender by its three numbers
abbrev pub spec_of : ℕ × ℕ × ℕ → LenderSpec
spec_of (slots, headroom, extra) = record { slots = slots; headroom = headroom; extra = extra }
