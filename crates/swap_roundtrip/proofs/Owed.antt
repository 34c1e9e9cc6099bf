-- What the lines of a script's transcript owe: its header, and each event's line besides its form.
use Rattle.std.proofs.Common.{◌≡◌, ℕ, ◌+◌, ◌*◌, ◌<◌, ◌≤◌, Bool, true, ◌&&◌, cond, nat_lt, nat_le, List, [], ◌∷◌, ◌++◌, length, length-append, append_assoc, drop, Option, None, Some, Ok, refl, sym, ap, subst, ◌∙◌, arith}
use Rattle.std.specs.List.{AllByRecursion, cons_option}
use Rattle.std.specs.Option.{option_map}
use Rattle.std.proofs.lemmas.Bool.{lt-ltb, le-leb, leb-true, ltb-true, and_from}
use Rattle.std.proofs.lemmas.Nat.{mul-le}
use Rattle.std.proofs.lemmas.List.Elements.{recursion_from_All}
use Rattle.std.proofs.lemmas.List.Sums.{sum_by-append}
use Rattle.swap_base.specs.declared.DiskWhich.TheVariants as which
use Rattle.swap_base.specs.declared.geometry.LenderSpec.{LenderSpec}
use Rattle.swap_base.specs.Sizes.{Sizes, AreInLimits, pages_of, first_beyond}
use Rattle.swap_wire.specs.Input.{Input, IsInRange}
use Rattle.swap_wire.specs.declared.Event.{Event}
use Rattle.swap_wire.specs.declared.Event.TheVariants as event
use Rattle.swap_script.specs.declared.Grammar.TheVariants as grammar
use Rattle.swap_script.specs.declared.Why.{Why}
use Rattle.swap_script.specs.declared.Why.TheVariants as why
use Rattle.swap_script.specs.Lines.{words_of}
use Rattle.swap_script.specs.Forms.{Line, line_of}
use Rattle.swap_script.specs.Reading as reading
use Rattle.swap_script.specs.Reading.{Script, script, MayLend, IsWithinLimits, has_caller, has_page, has_slab, has_lender, has_pattern, lending_tests, lends_within, lent_bytes, slots_of, slab_bytes, first_fault, fault_of, inputs_of, input_of, calls_of, calls_in, nothing_above, are_addressed}
use Rattle.swap_script.proofs.Read.{passes, none_or, calls_of-cons}
use Rattle.swap_script.proofs.Scripts.{of_text}
use Rattle.swap_transcript.specs.Laws.{MayStandBelow}
use Rattle.swap_transcript.specs.Transcripts.{Pair, Above, tests, entries_in, tells_page}
use Rattle.swap_script.specs.declared.TheConstants.{CALL_BYTES, EVENT_LIMIT}
use Rattle.swap_base.specs.declared.TheConstants.{MOST_LENDERS, MOST_LENT_BYTES}

-- each test of an event's line
has_its_caller : (s : Sizes) (n : ℕ) (e : Event) → IsInRange s n e → has_caller s e ≡ true
has_its_caller s n (event.PageOut c p) h = lt-ltb c.0 s.callers h.0
has_its_caller s n (event.PageIn c p) h = lt-ltb c.0 s.callers h.0
has_its_caller s n (event.Finish c) h = lt-ltb c.0 s.callers h
has_its_caller s n event.Start h = refl
has_its_caller s n (event.Disk (which.Write p) ok) h = refl
has_its_caller s n (event.Disk (which.Read c) ok) h = lt-ltb c.0 s.callers h
has_its_caller s n (event.Tick word) h = refl
has_its_caller s n (event.Map slab l) h = refl
has_its_caller s n (event.Connect l) h = refl
has_its_caller s n (event.Give l) h = refl
has_its_caller s n (event.Take l) h = refl
has_its_caller s n (event.Cut l a b) h = refl
has_its_caller s n (event.Crash l) h = refl
has_its_caller s n (event.Host l u w) h = refl
has_its_caller s n (event.Round w) h = refl

has_its_page : (s : Sizes) (n : ℕ) (e : Event) → IsInRange s n e → has_page s e ≡ true
has_its_page s n (event.PageOut c p) h = lt-ltb p.0 (pages_of s) h.1
has_its_page s n (event.PageIn c p) h = lt-ltb p.0 (pages_of s) h.1
has_its_page s n (event.Finish c) h = refl
has_its_page s n event.Start h = refl
has_its_page s n (event.Disk (which.Write p) ok) h = lt-ltb p.0 (pages_of s) h
has_its_page s n (event.Disk (which.Read c) ok) h = refl
has_its_page s n (event.Tick word) h = refl
has_its_page s n (event.Map slab l) h = refl
has_its_page s n (event.Connect l) h = refl
has_its_page s n (event.Give l) h = refl
has_its_page s n (event.Take l) h = refl
has_its_page s n (event.Cut l a b) h = refl
has_its_page s n (event.Crash l) h = refl
has_its_page s n (event.Host l u w) h = refl
has_its_page s n (event.Round w) h = refl

passed : (w : Why) (b : Bool) (rest : List (Why × Bool)) → b ≡ true → first_beyond ((w, b) ∷ rest) ≡ first_beyond rest
passed w b rest e = ap (λ t. cond t (first_beyond rest) (Some w)) e

pub owes_none : (s : Sizes) (n : ℕ) (above : Above) (pair : Pair) → IsInRange s n pair.event → tells_page s pair.told ≡ true
    → (above.entries + entries_in pair.told) * s.page_bytes ≤ CALL_BYTES → above.events < EVENT_LIMIT
    → first_beyond (tests s above pair) ≡ None
owes_none s n above pair range page few within =
    let owed = tests s above pair in
    let calls : nat_le ((above.entries + entries_in pair.told) * s.page_bytes) CALL_BYTES ≡ true =
    le-leb ((above.entries + entries_in pair.told) * s.page_bytes) CALL_BYTES few in
    let events : nat_lt above.events EVENT_LIMIT ≡ true = lt-ltb above.events EVENT_LIMIT within in
    passed why.Caller (has_caller s pair.event) (drop 1 owed) (has_its_caller s n pair.event range)
    ∙ passed why.Page (has_page s pair.event && tells_page s pair.told) (drop 2 owed)
    (and_from (has_page s pair.event) (tells_page s pair.told) (has_its_page s n pair.event range) page)
    ∙ passed why.Calls (nat_le ((above.entries + entries_in pair.told) * s.page_bytes) CALL_BYTES) (drop 3 owed) calls
    ∙ passed why.Events (nat_lt above.events EVENT_LIMIT) [] events

-- the lenders may stand one below another
all_right : {X : Type 0} (P : X → Type 0) (xs ys : List X) → AllByRecursion P (xs ++ ys) → AllByRecursion P ys
all_right P [] ys h = h
all_right P (x ∷ xs) ys h = all_right P xs ys h.1

slots_split : (xs ys : List LenderSpec) → slots_of (xs ++ ys) ≡ slots_of xs + slots_of ys
slots_split xs ys = sum_by-append (λ (spec : LenderSpec). spec.slots) xs ys

lends : (s : Sizes) (others specs : List LenderSpec) (spec : LenderSpec) → MayLend s (others ++ spec ∷ specs)
    → first_beyond (lending_tests s (others ++ spec ∷ [])) ≡ None
lends s others specs spec may =
    let now : List LenderSpec = others ++ spec ∷ [] in
    let all : others ++ spec ∷ specs ≡ now ++ specs = sym (append_assoc others (spec ∷ []) specs) in
    let count : length now ≤ MOST_LENDERS =
    let e : length (others ++ spec ∷ specs) ≡ length (now ++ specs) = ap length all in omega (arith, e, length-append now specs, may.count) in
    let slots : slots_of now ≤ slots_of (others ++ spec ∷ specs) =
    let e : slots_of (others ++ spec ∷ specs) ≡ slots_of (now ++ specs) = ap slots_of all in omega (arith, e, slots_split now specs) in
    let lent : lent_bytes s now ≤ MOST_LENT_BYTES =
    omega (arith, mul-le (slots_of now) (slab_bytes s) (slots_of (others ++ spec ∷ specs)) (slab_bytes s) slots (omega arith), may.lent) in
    passed why.Lenders (nat_le (length now) 8) ((why.Lent, lends_within s now) ∷ []) (le-leb (length now) 8 count)
    ∙ passed why.Lent (lends_within s now) [] (le-leb (lent_bytes s now) MOST_LENT_BYTES lent)

pub may_stand : (s : Sizes) (specs others : List LenderSpec) → MayLend s (others ++ specs) → MayStandBelow s others specs
may_stand s [] others may = tt
may_stand s (spec ∷ specs) others may =
    let limits = all_right IsWithinLimits others (spec ∷ specs) (recursion_from_All IsWithinLimits (others ++ spec ∷ specs) may.limits) in
    (limits.0, lends s others specs spec may, may_stand s specs (others ++ spec ∷ []) (subst (MayLend s) (sym (append_assoc others (spec ∷ []) specs)) may))

-- what is known of every script: its sizes, and how many events and calls it has
pub record Sized (s : Script) : Type 0 where
  pub sizes : AreInLimits s.sizes
  pub lenders : MayLend s.sizes s.lenders
  pub events : length s.inputs ≤ EVENT_LIMIT
  pub calls : calls_of s.inputs * s.sizes.page_bytes ≤ CALL_BYTES

owed_of : (s : Sizes) (lenders : ℕ) (above : reading.Above) (line : Line) → first_beyond (reading.tests grammar.Script s lenders above line) ≡ None
    → ((above.calls + calls_in line.event) * s.page_bytes ≤ CALL_BYTES) × (above.events < EVENT_LIMIT)
owed_of s lenders above line e =
    let owed = reading.tests grammar.Script s lenders above line in
    let addressed = passes why.Lenders (are_addressed grammar.Script lenders) (drop 1 owed) e in
    let caller = passes why.Caller (has_caller s line.event) (drop 2 owed) addressed.1 in
    let page = passes why.Page (has_page s line.event) (drop 3 owed) caller.1 in
    let slab = passes why.Slab (has_slab s line.event) (drop 4 owed) page.1 in
    let lender = passes why.Lender (has_lender lenders line.event) (drop 5 owed) slab.1 in
    let pattern = passes why.Pattern (has_pattern s line) (drop 6 owed) lender.1 in
    let calls = passes why.Calls (nat_le ((above.calls + calls_in line.event) * s.page_bytes) CALL_BYTES) (drop 7 owed) pattern.1 in
    let events = passes why.Events (nat_lt above.events EVENT_LIMIT) (drop 8 owed) calls.1 in
    (leb-true ((above.calls + calls_in line.event) * s.page_bytes) CALL_BYTES calls.0, ltb-true above.events EVENT_LIMIT events.0)

abbrev Few : Sizes → reading.Above → List Input → Type 0
Few s above is = (above.events + length is ≤ EVENT_LIMIT) × ((above.calls + calls_of is) * s.page_bytes ≤ CALL_BYTES)

few_more : (s : Sizes) (lenders : ℕ) (above : reading.Above) (o : Option Line) (is : List Input) → fault_of grammar.Script s lenders above o ≡ None
    → (above.events ≤ EVENT_LIMIT) × (above.calls * s.page_bytes ≤ CALL_BYTES)
    → ((reading.count_line above o).events ≤ EVENT_LIMIT → (reading.count_line above o).calls * s.page_bytes ≤ CALL_BYTES
    → Few s (reading.count_line above o) is)
    → Few s above (cons_option (option_map (input_of s) o) is)
few_more s lenders above None is e so_far later = cc
few_more s lenders above (Some line) is e so_far later =
    let owed = owed_of s lenders above line e in
    let rest = later (omega (arith, owed.1)) owed.0 in
    let sum : above.calls + calls_of (input_of s line ∷ is) ≡ above.calls + calls_in line.event + calls_of is =
    omega (arith, calls_of-cons (input_of s line) is) in
    (omega (arith, rest.0), subst (λ n. n * s.page_bytes ≤ CALL_BYTES) (sym sum) rest.1)

few_lines : (s : Sizes) (end lenders : ℕ) (lines : List (ℕ × List ℕ)) (above : reading.Above) → first_fault grammar.Script end s lenders lines above ≡ None
    → above.events ≤ EVENT_LIMIT → above.calls * s.page_bytes ≤ CALL_BYTES
    → Few s above (inputs_of grammar.Script s lines)
few_lines s end lenders [] above e events calls =
    let sum : above.calls + calls_of [] ≡ above.calls = omega arith in
    (omega (arith, events), subst (λ n. n * s.page_bytes ≤ CALL_BYTES) (sym sum) calls)
few_lines s end lenders ((n, text) ∷ rest) above e events calls =
    let line = line_of grammar.Script (words_of text) in
    let parts = none_or n (fault_of grammar.Script s lenders above line) (first_fault grammar.Script end s lenders rest (reading.count_line above line)) e in
    few_more s lenders above line (inputs_of grammar.Script s rest) parts.0 (events, calls)
    (λ ev ca. few_lines s end lenders rest (reading.count_line above line) parts.1 ev ca)

pub sized : (text : List ℕ) (s : Script) → script text ≡ Ok s → Sized s
sized text s e =
    of_text grammar.Script Sized
    (λ end sizes front within may none.
    let few = few_lines sizes end (length front.lenders) front.lines nothing_above none (omega arith) (omega arith) in
    record {
      sizes = within;
      lenders = may;
      events = omega (arith, few.0);
      calls =
          let sum : nothing_above.calls + calls_of (inputs_of grammar.Script sizes front.lines) ≡ calls_of (inputs_of grammar.Script sizes front.lines) =
          omega arith in
          subst (λ n. n * sizes.page_bytes ≤ CALL_BYTES) sum few.1;
    })
    text s e
