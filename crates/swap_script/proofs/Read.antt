-- One line of a script is read, and what lines without a fault are.
use Rattle.std.proofs.Common.{◌≡◌, ℕ, ◌+◌, ◌*◌, ◌<◌, ◌≤◌, Bool, true, false, nat_lt, nat_le, drop, arith, List, [], ◌∷◌, refl, sym, ap, ◌∙◌, Option, None, Some}
use Rattle.std.proofs.lemmas.Bool.{ltb-true}
use Rattle.std.proofs.lemmas.List.Sums.{sum_by-cons}
use Rattle.std.specs.List.{cons_option}
use Rattle.std.specs.Option.{option_map}
use Rattle.swap_base.specs.declared.DiskWhich.TheVariants as which
use Rattle.swap_base.specs.Sizes.{Sizes, pages_of, first_beyond}
use Rattle.swap_wire.specs.Input.{Input, IsInRange}
use Rattle.swap_wire.specs.declared.Event.{Event}
use Rattle.swap_wire.specs.declared.Event.TheVariants as event
use Rattle.swap_script.specs.declared.Grammar.{Grammar}
use Rattle.swap_script.specs.declared.Why.{Why}
use Rattle.swap_script.specs.declared.Why.TheVariants as why
use Rattle.swap_script.specs.declared.ScriptRefused.{ScriptRefused}
use Rattle.swap_script.specs.Lines.{words_of}
use Rattle.swap_script.specs.Forms.{Line, line_of}
use Rattle.swap_script.specs.Reading.{Above, are_addressed, is_within_reach, has_caller, has_page, has_slab, has_lender, has_pattern, tests, fault_of, fault_or, count_line, first_fault, input_of, inputs_of, calls_of, calls_in, Reads, AllRead}
use Rattle.swap_script.specs.declared.TheConstants.{CALL_BYTES, EVENT_LIMIT}

-- where the first line is an event's and owes nothing
pub first_fault-on : (g : Grammar) (end : ℕ) (s : Sizes) (lenders : ℕ) (above : Above) (n : ℕ) (text : List ℕ) (rest : List (ℕ × List ℕ)) (line : Line)
    → Some line ≡ line_of g (words_of text) → None ≡ first_beyond (tests g s lenders above line)
    → first_fault g end s lenders ((n, text) ∷ rest) above ≡ first_fault g end s lenders rest (count_line above (Some line))
first_fault-on g end s lenders above n text rest line is ok =
    ap (λ o. fault_or n (fault_of g s lenders above o) (first_fault g end s lenders rest (count_line above o))) (sym is)
    ∙ ap (λ w. fault_or n w (first_fault g end s lenders rest (count_line above (Some line)))) (sym ok)

pub inputs_of-on : (g : Grammar) (s : Sizes) (n : ℕ) (text : List ℕ) (rest : List (ℕ × List ℕ)) (line : Line) → Some line ≡ line_of g (words_of text)
    → inputs_of g s ((n, text) ∷ rest) ≡ input_of s line ∷ inputs_of g s rest
inputs_of-on g s n text rest line is = ap (λ o. cons_option (option_map (input_of s) o) (inputs_of g s rest)) (sym is)

pub calls_of-cons : (i : Input) (is : List Input) → calls_of (i ∷ is) ≡ calls_in i.event + calls_of is
calls_of-cons i is = sum_by-cons (λ (j : Input). calls_in j.event) i is

-- a list of tests without a failed one
pub passes : {X : Type 0} (x : X) (b : Bool) (rest : List (X × Bool)) → first_beyond ((x, b) ∷ rest) ≡ None → (b ≡ true) × (first_beyond rest ≡ None)
passes x true rest e = (refl, e)
passes x false rest e = cc

below : (a b : ℕ) → nat_lt a b ≡ true → a < b
below = ltb-true

in_range :
    (s : Sizes) (lenders : ℕ) (e : Event) → has_caller s e ≡ true → has_page s e ≡ true → has_slab s e ≡ true → has_lender lenders e ≡ true
    → IsInRange s lenders e
in_range s n (event.PageOut c p) hc hp hs hl = (below c.0 s.callers hc, below p.0 (pages_of s) hp)
in_range s n (event.PageIn c p) hc hp hs hl = (below c.0 s.callers hc, below p.0 (pages_of s) hp)
in_range s n (event.Finish c) hc hp hs hl = below c.0 s.callers hc
in_range s n event.Start hc hp hs hl = tt
in_range s n (event.Disk (which.Write p) ok) hc hp hs hl = below p.0 (pages_of s) hp
in_range s n (event.Disk (which.Read c) ok) hc hp hs hl = below c.0 s.callers hc
in_range s n (event.Tick word) hc hp hs hl = tt
in_range s n (event.Map slab l) hc hp hs hl = (below slab.0 s.slabs hs, below l.0 n hl)
in_range s n (event.Connect l) hc hp hs hl = below l.0 n hl
in_range s n (event.Give l) hc hp hs hl = below l.0 n hl
in_range s n (event.Take l) hc hp hs hl = below l.0 n hl
in_range s n (event.Cut l a b) hc hp hs hl = below l.0 n hl
in_range s n (event.Crash l) hc hp hs hl = below l.0 n hl
in_range s n (event.Host l u word) hc hp hs hl = below l.0 n hl
in_range s n (event.Round word) hc hp hs hl = tt

-- a line that owes nothing reads, isn't behind too many events, and is within reach
pub owes_nothing : (g : Grammar) (s : Sizes) (lenders : ℕ) (above : Above) (line : Line) → first_beyond (tests g s lenders above line) ≡ None
    → Reads s lenders (Some line) × (above.events < EVENT_LIMIT) × (is_within_reach g line.event ≡ true)
owes_nothing g s lenders above line e =
    let owed = tests g s lenders above line in
    let addressed = passes why.Lenders (are_addressed g lenders) (drop 1 owed) e in
    let caller = passes why.Caller (has_caller s line.event) (drop 2 owed) addressed.1 in
    let page = passes why.Page (has_page s line.event) (drop 3 owed) caller.1 in
    let slab = passes why.Slab (has_slab s line.event) (drop 4 owed) page.1 in
    let lender = passes why.Lender (has_lender lenders line.event) (drop 5 owed) slab.1 in
    let pattern = passes why.Pattern (has_pattern s line) (drop 6 owed) lender.1 in
    let calls = passes why.Calls (nat_le ((above.calls + calls_in line.event) * s.page_bytes) CALL_BYTES) (drop 7 owed) pattern.1 in
    let events = passes why.Events (nat_lt above.events EVENT_LIMIT) (drop 8 owed) calls.1 in
    let near = passes why.Tcp (is_within_reach g line.event) [] events.1 in
    ((in_range s lenders line.event caller.0 page.0 slab.0 lender.0, pattern.0), below above.events EVENT_LIMIT events.0, near.0)

reads : (g : Grammar) (s : Sizes) (lenders : ℕ) (above : Above) (o : Option Line) → fault_of g s lenders above o ≡ None → Reads s lenders o
reads g s lenders above None e = cc
reads g s lenders above (Some line) e = (owes_nothing g s lenders above line e).0

pub none_or : (n : ℕ) (o : Option Why) (later : Option ScriptRefused) → fault_or n o later ≡ None → (o ≡ None) × (later ≡ None)
none_or n None later e = (refl, e)
none_or n (Some w) later e = cc

pub all_read : (g : Grammar) (end : ℕ) (s : Sizes) (lenders : ℕ) (lines : List (ℕ × List ℕ)) (above : Above) → first_fault g end s lenders lines above ≡ None
    → AllRead g s lenders lines
all_read g end s lenders [] above e = tt
all_read g end s lenders ((n, text) ∷ rest) above e =
    let line = line_of g (words_of text) in
    let parts = none_or n (fault_of g s lenders above line) (first_fault g end s lenders rest (count_line above line)) e in
    (reads g s lenders above line parts.0, all_read g end s lenders rest (count_line above line) parts.1)

pub calls_in-le : (e : Event) → calls_in e ≤ 1
calls_in-le (event.PageOut c p) = omega arith
calls_in-le (event.PageIn c p) = omega arith
calls_in-le (event.Finish c) = omega arith
calls_in-le event.Start = omega arith
calls_in-le (event.Disk which ok) = omega arith
calls_in-le (event.Tick word) = omega arith
calls_in-le (event.Map sl l) = omega arith
calls_in-le (event.Connect l) = omega arith
calls_in-le (event.Give l) = omega arith
calls_in-le (event.Take l) = omega arith
calls_in-le (event.Cut l a b) = omega arith
calls_in-le (event.Crash l) = omega arith
calls_in-le (event.Host l u word) = omega arith
calls_in-le (event.Round word) = omega arith
