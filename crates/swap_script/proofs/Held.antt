-- The lines of a trace without a fault hold its events.
use Rattle.std.proofs.Common.{◌≡◌, ℕ, true, List, [], ◌∷◌, length, Option, None, Some, refl}
use Rattle.std.specs.List.{AllByRecursion, cons_option}
use Rattle.std.specs.Option.{option_map}
use Rattle.swap_base.specs.declared.Caller.{Caller}
use Rattle.swap_base.specs.Sizes.{Sizes}
use Rattle.swap_wire.specs.Input.{Input}
use Rattle.swap_wire.specs.declared.Event.{Event}
use Rattle.swap_wire.specs.declared.Event.TheVariants as event
use Rattle.swap_script.specs.declared.Grammar.TheVariants as grammar
use Rattle.swap_script.specs.Lines.{words_of}
use Rattle.swap_script.specs.Forms.{Line, caller_word, call_or_operator, trace_line, line_of}
use Rattle.swap_script.specs.Laws.{IsOfTrace, HoldTraceEvents}
use Rattle.swap_script.specs.Reading.{Script, Above, fault_of, count_line, first_fault, nothing_above, is_within_reach, inputs_of, input_of}
use Rattle.swap_script.proofs.Parts.{operator_operates, call_calls}
use Rattle.swap_script.proofs.Read.{owes_nothing, none_or}
use Rattle.swap_script.proofs.Scripts.{of_text}

abbrev Holds : Option ℕ → Option Line → Type 0
Holds tcp None = Unit {0}
Holds tcp (Some line) = IsOfTrace tcp line.event

-- an operator's event that a trace over TCP may have
near : (tcp : Option ℕ) (e : Event) → IsOfTrace None e → is_within_reach (grammar.Trace tcp) e ≡ true → IsOfTrace tcp e
near None e is reach = is
near (Some n) (event.PageOut c p) is reach = tt
near (Some n) (event.PageIn c p) is reach = tt
near (Some n) (event.Finish c) is reach = absurd is
near (Some n) event.Start is reach = absurd is
near (Some n) (event.Disk which ok) is reach = absurd is
near (Some n) (event.Tick word) is reach = absurd is
near (Some n) (event.Map slab l) is reach = tt
near (Some n) (event.Connect l) is reach = tt
near (Some n) (event.Give l) is reach = absurd is
near (Some n) (event.Take l) is reach = absurd is
near (Some n) (event.Cut l a b) is reach = cc
near (Some n) (event.Crash l) is reach = cc
near (Some n) (event.Host l u word) is reach = cc
near (Some n) (event.Round word) is reach = tt

word_holds : (tcp : Option ℕ) (o : Option Caller) (word : List ℕ) (words : List (List ℕ)) (line : Line) → call_or_operator o word words ≡ Some line
    → is_within_reach (grammar.Trace tcp) line.event ≡ true → IsOfTrace tcp line.event
word_holds tcp None word words line e reach = near tcp line.event (operator_operates word words line e).1 reach
word_holds tcp (Some c) word words line e reach = (call_calls c words line e).2 tcp

line_holds : (tcp : Option ℕ) (words : List (List ℕ)) (line : Line) → trace_line words ≡ Some line → is_within_reach (grammar.Trace tcp) line.event ≡ true
    → IsOfTrace tcp line.event
line_holds tcp [] line e reach = cc
line_holds tcp (word ∷ words) line e reach = word_holds tcp (caller_word word) word words line e reach

fault_holds : (tcp : Option ℕ) (s : Sizes) (lenders : ℕ) (above : Above) (words : List (List ℕ)) (o : Option Line) → trace_line words ≡ o
    → fault_of (grammar.Trace tcp) s lenders above o ≡ None → Holds tcp o
fault_holds tcp s lenders above words None is e = cc
fault_holds tcp s lenders above words (Some line) is e = line_holds tcp words line is (owes_nothing (grammar.Trace tcp) s lenders above line e).2

onto_events : (tcp : Option ℕ) (s : Sizes) (o : Option Line) (later : List Input) → Holds tcp o → AllByRecursion (λ (i : Input). IsOfTrace tcp i.event) later
    → AllByRecursion (λ (i : Input). IsOfTrace tcp i.event) (cons_option (option_map (input_of s) o) later)
onto_events tcp s None later h rest = rest
onto_events tcp s (Some line) later h rest = (h, rest)

all_hold : (tcp : Option ℕ) (end : ℕ) (s : Sizes) (lenders : ℕ) (lines : List (ℕ × List ℕ)) (above : Above)
    → first_fault (grammar.Trace tcp) end s lenders lines above ≡ None
    → AllByRecursion (λ (i : Input). IsOfTrace tcp i.event) (inputs_of (grammar.Trace tcp) s lines)
all_hold tcp end s lenders [] above e = tt
all_hold tcp end s lenders ((n, text) ∷ rest) above e =
    let g = grammar.Trace tcp in
    let line = line_of g (words_of text) in
    let parts = none_or n (fault_of g s lenders above line) (first_fault g end s lenders rest (count_line above line)) e in
    onto_events tcp s line (inputs_of g s rest) (fault_holds tcp s lenders above (words_of text) line refl parts.0)
    (all_hold tcp end s lenders rest (count_line above line) parts.1)

pub hold_trace_events : (tcp : Option ℕ) → HoldTraceEvents tcp
hold_trace_events tcp =
    of_text (grammar.Trace tcp) (λ (s : Script). AllByRecursion (λ (i : Input). IsOfTrace tcp i.event) s.inputs)
    (λ end sizes front within may none. all_hold tcp end sizes (length front.lenders) front.lines nothing_above none)
