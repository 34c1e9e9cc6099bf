-- One line of a transcript is read.
use Rattle.std.proofs.Common.{◌≡◌, ℕ, ◌+◌, ◌*◌, ◌<◌, ◌≤◌, Bool, true, false, ◌&&◌, cond, nat_lt, nat_le, List, [], ◌∷◌, Option, None, Some, IfSome, Result, Ok, Err, refl, sym, ap, ◌∙◌, arith}
use Rattle.std.proofs.lemmas.Bool.{ltb-true}
use Rattle.std.specs.Str.{bytes_eq}
use Rattle.std.specs.Option.{option_map_or, option_and_then}
use Rattle.swap_base.specs.declared.Caller.{Caller}
use Rattle.swap_base.specs.Sizes.{Sizes, first_beyond}
use Rattle.swap_io.specs.Words.{pattern, shortest}
use Rattle.swap_wire.specs.declared.Event.{Event}
use Rattle.swap_script.specs.declared.Why.{Why}
use Rattle.swap_script.specs.declared.Why.TheVariants as why
use Rattle.swap_script.specs.declared.ScriptRefused.{ScriptRefused}
use Rattle.swap_script.specs.Lines.{words_of, is_word}
use Rattle.swap_script.specs.Reading.{◌>>=◌, fault_at, caller_of, has_caller, has_page}
use Rattle.swap_transcript.specs.Readers.{Words}
use Rattle.swap_transcript.specs.Told.{page_word}
use Rattle.swap_transcript.specs.Transcripts.{Pair, Above, pair_of, check_pair, count_pair, end_number, counts, ended_at, pair_before, pairs_from, tests, entries_in, tells_page}
use Rattle.swap_script.specs.declared.TheConstants.{CALL_BYTES, EVENT_LIMIT}

-- a line that isn't the end's
abbrev pair_line : Sizes → ℕ → Above → ℕ → List (ℕ × List ℕ) → Result Pair Why → Result (List Pair) ScriptRefused
pair_line s end above n rest read = fault_at n read >>= λ pair. pair_before pair (pairs_from s end (count_pair above pair) rest)

abbrev either : Sizes → ℕ → Above → ℕ → List ℕ → List (ℕ × List ℕ) → Option Words → Result (List Pair) ScriptRefused
either s end above n text rest o =
    option_map_or (λ behind. ended_at n (counts above.entries (end_number behind)) rest) o
    (pair_line s end above n rest (check_pair s above (pair_of s (words_of text))))

four : (v w x y : Why) (a b c d : Bool) → first_beyond ((v, a) ∷ (w, b) ∷ (x, c) ∷ (y, d) ∷ []) ≡ None → (a ≡ true) × (d ≡ true)
four v w x y true true true true e = (refl, refl)
four v w x y true true true false e = cc
four v w x y true true false d e = cc
four v w x y true false c d e = cc
four v w x y false b c d e = cc

-- what a line owes that has no fault
pub owes_nothing :
    (s : Sizes) (above : Above) (pair : Pair) → first_beyond (tests s above pair) ≡ None → (has_caller s pair.event ≡ true) × (above.events < EVENT_LIMIT)
owes_nothing s above pair e =
    let parts =
    four why.Caller why.Page why.Calls why.Events (has_caller s pair.event) (has_page s pair.event && tells_page s pair.told)
    (nat_le ((above.entries + entries_in pair.told) * s.page_bytes) CALL_BYTES) (nat_lt above.events EVENT_LIMIT) e in
    (parts.0, ltb-true above.events EVENT_LIMIT parts.1)

-- a caller in range is one of the callers that a record tells apart
few_callers : (s : Sizes) (o : Option Caller) → s.callers ≤ 16 → option_map_or (λ (c : Caller). nat_lt c.0 s.callers) o true ≡ true → IfSome o (λ c. c.0 < 64)
few_callers s None few h = tt
few_callers s (Some c) few h = omega (arith, ltb-true c.0 s.callers h)

pub caller_few : (s : Sizes) (e : Event) → s.callers ≤ 16 → has_caller s e ≡ true → IfSome (caller_of e) (λ c. c.0 < 64)
caller_few s e few h = few_callers s (caller_of e) few h

-- the page of a word
pub page_word-is :
    (size : ℕ) (word page text : List ℕ) (b : Bool) → pattern size word ≡ Some page → text ≡ shortest page → bytes_eq text word ≡ b
    → page_word size word ≡ cond b (Some page) None
page_word-is size word page text b read spelled eq =
    ap (option_and_then (λ p. cond (is_word (shortest p) word) (Some p) None)) read ∙ ap (λ t. cond (bytes_eq t word) (Some page) None) (sym spelled)
    ∙ ap (λ c. cond c (Some page) None) eq
