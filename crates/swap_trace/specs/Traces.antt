-- A text as a trace, and its walks. A trace is read as a script is, with lines of its own: a call's, which begins with
-- its caller, and an operator's.
use Rattle.std.specs.Prelude.{ℕ, List, Option, Result}
use Rattle.swap_base.specs.declared.Caller.{Caller}
use Rattle.swap_script.specs.declared.Grammar.TheVariants.{Trace}
use Rattle.swap_script.specs.declared.Part.TheVariants.{CallsOf, Operator}
use Rattle.swap_script.specs.declared.ScriptRefused.{ScriptRefused}
use Rattle.swap_script.specs.Reading.{Script, reading, script_part}

-- a text as a trace, where lenders are reached by so many addresses, or in memory; or its first line at fault
abbrev pub trace : Option ℕ → List ℕ → Result Script ScriptRefused
trace tcp text = reading (Trace tcp) text

-- the page-outs and page-ins of a caller, and all other events, each in the order of their lines
abbrev pub calls_in : Caller → Script → Script
calls_in caller t = script_part (CallsOf caller) t

abbrev pub operators_in : Script → Script
operators_in t = script_part Operator t
