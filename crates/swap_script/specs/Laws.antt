-- What holds of every script and trace, and of every printed line.
use Rattle.std.specs.Prelude.{◌≡◌, ℕ, List, ◌++◌, length, Option, None, Ok}
use Rattle.std.specs.List.{AllByRecursion}
use Rattle.swap_base.specs.Sizes.{Sizes}
use Rattle.swap_wire.specs.Input.{Input, IsInRange}
use Rattle.swap_wire.specs.declared.Event.{Event}
use Rattle.swap_wire.specs.declared.Event.TheVariants as event
use Rattle.swap_wire.specs.declared.Seen.{Seen}
use Rattle.swap_record.specs.History.{History}
use Rattle.swap_script.specs.declared.Grammar.{Grammar}
use Rattle.swap_script.specs.declared.Grammar.TheVariants as grammar
use Rattle.swap_script.specs.Reading.{Script, MayLend, reading}
use Rattle.swap_script.specs.Transcript.{HasEntry, line}

-- what holds of all texts of a grammar: their events name callers, pages and slabs that their sizes have, and lenders
-- that they have
abbrev pub AreInRange : Grammar → Type 0
AreInRange g = (text : List ℕ) (s : Script) → reading g text ≡ Ok s
    → AllByRecursion (λ (i : Input). IsInRange s.sizes (length s.lenders) i.event) s.inputs

-- a page-out hands in a page of this size
abbrev pub HandsInAPage : Sizes → Event → List ℕ → Type 0
HandsInAPage s (event.PageOut c p) page = length page ≡ s.page_bytes
HandsInAPage s _ page = Unit {0}

-- each of their page-outs hands in a whole page
abbrev pub HandInPages : Grammar → Type 0
HandInPages g = (text : List ℕ) (s : Script) → reading g text ≡ Ok s
    → AllByRecursion (λ (i : Input). HandsInAPage s.sizes i.event i.page) s.inputs

-- their lenders are within their limits
abbrev pub HaveLenders : Grammar → Type 0
HaveLenders g = (text : List ℕ) (s : Script) → reading g text ≡ Ok s → MayLend s.sizes s.lenders

-- of every script
abbrev pub EventsInRange : Type 0
EventsInRange = AreInRange grammar.Script

abbrev pub PagesAreWhole : Type 0
PagesAreWhole = HandInPages grammar.Script

abbrev pub LendersMayLend : Type 0
LendersMayLend = HaveLenders grammar.Script

-- the events that a trace may hold, over TCP or not: calls, and an operator's
abbrev pub IsOfTrace : Option ℕ → Event → Type 0
IsOfTrace tcp (event.PageOut c p) = Unit {0}
IsOfTrace tcp (event.PageIn c p) = Unit {0}
IsOfTrace tcp (event.Map slab lender) = Unit {0}
IsOfTrace tcp (event.Connect lender) = Unit {0}
IsOfTrace tcp (event.Round word) = Unit {0}
IsOfTrace None (event.Cut lender to_lender to_device) = Unit {0}
IsOfTrace None (event.Crash lender) = Unit {0}
IsOfTrace None (event.Host lender used word) = Unit {0}
IsOfTrace _ _ = ⊥

abbrev pub HoldTraceEvents : Option ℕ → Type 0
HoldTraceEvents tcp = (text : List ℕ) (s : Script) → reading (grammar.Trace tcp) text ≡ Ok s
    → AllByRecursion (λ (i : Input). IsOfTrace tcp i.event) s.inputs

-- an event's line stays what it is while the history grows
abbrev pub LinesStay : Type 0
LinesStay = (later H : History) (e : Event) (s : Seen) → HasEntry H s → line (later ++ H) (e, s) ≡ line H (e, s)
