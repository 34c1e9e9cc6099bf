-- What holds of every trace, and of every draw.
use Rattle.std.specs.Prelude.{◌≡◌, ◌<◌, ◌⊎◌, ℕ, true, List, Option, Ok}
use Rattle.std.specs.List.{AllByRecursion}
use Rattle.swap_base.specs.declared.Caller.{Caller}
use Rattle.swap_base.specs.Sizes.{Sizes}
use Rattle.swap_wire.specs.Input.{Input}
use Rattle.swap_wire.specs.declared.Event.{Event}
use Rattle.swap_script.specs.declared.Grammar.TheVariants.{Trace}
use Rattle.swap_script.specs.Laws as of_script
use Rattle.swap_script.specs.Reading.{Script, is_call_of, is_operators}
use Rattle.swap_trace.specs.Traces.{trace}
use Rattle.swap_trace.specs.Draws.{draw_of}

-- its events name callers, pages and slabs that its sizes have, and lenders that it has
abbrev pub AreInRange : Type 0
AreInRange = (tcp : Option ℕ) → of_script.AreInRange (Trace tcp)

-- each of its page-outs hands in a whole page
abbrev pub HandInPages : Type 0
HandInPages = (tcp : Option ℕ) → of_script.HandInPages (Trace tcp)

-- its lenders are within their limits
abbrev pub HaveLenders : Type 0
HaveLenders = (tcp : Option ℕ) → of_script.HaveLenders (Trace tcp)

-- it holds calls and an operator's events alone, and over TCP none that moves a far side
abbrev pub HoldTraceEvents : Type 0
HoldTraceEvents = (tcp : Option ℕ) → of_script.HoldTraceEvents tcp

-- an event is in a caller's walk, or in the operator's
abbrev pub IsWalked : Sizes → Event → Type 0
IsWalked s e = ((c : Caller) × (c.0 < s.callers) × (is_call_of c e ≡ true)) ⊎ (is_operators e ≡ true)

abbrev pub EachIsWalked : Type 0
EachIsWalked = (tcp : Option ℕ) (text : List ℕ) (t : Script) → trace tcp text ≡ Ok t
    → AllByRecursion (λ (i : Input). IsWalked t.sizes i.event) t.inputs

-- a draw names one of 4 callers, and one of the 1,024 pages of 64 slabs
abbrev pub DrawsAreInRange : Type 0
DrawsAreInRange = (word : ℕ) → ((draw_of word).caller.0 < 4) × ((draw_of word).page.0 < 1_024)
    × ((draw_of word).byte < 256)
