-- What holds of sizes within their limits with lines without a fault holds of each script.
use Rattle.std.proofs.Common.{◌≡◌, ℕ, ◌≤◌, Bool, true, false, drop, cond, List, [], ◌∷◌, ◌++◌, length, Option, None, Some, Result, Ok, Err, refl, subst, arith}
use Rattle.std.proofs.lemmas.Bool.{leb-true, and_parts}
use Rattle.std.proofs.lemmas.List.Elements.{All-nil, All-cons, All-append}
use Rattle.std.specs.Prelude.{codes, nat_le}
use Rattle.std.specs.Option.{option_map, option_map_or}
use Rattle.swap_base.specs.declared.Field.{Field}
use Rattle.swap_base.specs.declared.Field.TheVariants.{Slots}
use Rattle.swap_base.specs.declared.geometry.LenderSpec.{LenderSpec}
use Rattle.swap_base.specs.Lending.{lender_limits}
use Rattle.swap_base.specs.Sizes.{Sizes, limits, is_within, first_beyond, AreInLimits}
use Rattle.swap_script.specs.declared.Grammar.{Grammar}
use Rattle.swap_script.specs.declared.Why.{Why}
use Rattle.swap_script.specs.declared.Why.TheVariants as why
use Rattle.swap_script.specs.declared.ScriptRefused.{ScriptRefused}
use Rattle.swap_script.specs.Lines.{words_of, kept_lines, is_word}
use Rattle.swap_script.specs.Forms.{sizes_words, spec_words}
use Rattle.swap_script.specs.Reading.{Script, Front, front_from, reading, text_events, text_lines, end_of, geometry_line, sizes_within, field_fault, spec_within, lender_line, lender_rest, lending_tests, lends_within, lent_bytes, first_fault, nothing_above, inputs_of, value_unless, fault_at, IsWithinLimits, MayLend, ◌>>=◌}
use Rattle.swap_script.proofs.Read.{passes}
use Rattle.swap_base.specs.declared.TheConstants.{MOST_LENT_BYTES}

pub kept_sizes : (o : Option Field) (x s : Sizes) → field_fault (value_unless o x) ≡ Ok s → (o ≡ None) × (x ≡ s)
kept_sizes None x s e = (refl, cc)
kept_sizes (Some field) x s e = cc

words_in_limits : (o : Option Sizes) (s : Sizes) → sizes_within o ≡ Ok s → AreInLimits s
words_in_limits None s e = cc
words_in_limits (Some x) s e =
    let parts = kept_sizes (first_beyond (limits x)) x s e in
    subst AreInLimits parts.1 parts.0

if_geometry : (b : Bool) (o : Option Sizes) (s : Sizes) → (let r : Result Sizes Why = cond b (sizes_within o) (Err why.Geometry) in r ≡ Ok s) → AreInLimits s
if_geometry true o s e = words_in_limits o s e
if_geometry false o s e = cc

line_in_limits : (words : List (List ℕ)) (s : Sizes) → geometry_line words ≡ Ok s → AreInLimits s
line_in_limits [] s e = cc
line_in_limits (word ∷ words) s e = if_geometry (is_word (codes "geometry") word) (sizes_words words) s e

-- the text of these sizes, lenders and lines
abbrev pub script_with : Grammar → Sizes → Front → Script
script_with g s front = record { sizes = s; lenders = front.lenders; inputs = inputs_of g s front.lines }

-- what holds of each text whose sizes are within their limits, whose lenders may lend, and whose lines have no fault
abbrev pub OfChecked : Grammar → (Script → Type 0) → Type 0
OfChecked g P =
    (end : ℕ) (sizes : Sizes) (front : Front) → AreInLimits sizes → MayLend sizes front.lenders
    → first_fault g end sizes (length front.lenders) front.lines nothing_above ≡ None → P (script_with g sizes front)

none_may_lend : (s : Sizes) → MayLend s []
none_may_lend s = record { count = omega arith; limits = All-nil IsWithinLimits; lent = omega arith }

no_field : (o : Option Field) (x spec : LenderSpec) → value_unless (option_map why.Field o) x ≡ Ok spec → (o ≡ None) × (x ≡ spec)
no_field None x spec e = (refl, cc)
no_field (Some field) x spec e = cc

spec_limits : (o : Option LenderSpec) (spec : LenderSpec) → spec_within o ≡ Ok spec → IsWithinLimits spec
spec_limits None spec e = cc
spec_limits (Some x) spec e =
    let parts = no_field (first_beyond (lender_limits x)) x spec e in
    subst IsWithinLimits parts.1 parts.0

-- a lender within its limits has few slots
pub few_slots : (spec : LenderSpec) → IsWithinLimits spec → spec.slots ≤ 64
few_slots spec e =
    let slots = passes Slots (is_within 1 64 spec.slots) (drop 1 (lender_limits spec)) e in
    leb-true spec.slots 64 (and_parts (nat_le 1 spec.slots) (nat_le spec.slots 64) slots.0).1

-- lenders without a fault, and one more
pub one_more_lends : (s : Sizes) (others : List LenderSpec) (spec : LenderSpec) → MayLend s others → IsWithinLimits spec
    → first_beyond (lending_tests s (others ++ spec ∷ [])) ≡ None → MayLend s (others ++ spec ∷ [])
one_more_lends s others spec may limits e =
    let specs = others ++ spec ∷ [] in
    let count = passes why.Lenders (nat_le (length specs) 8) ((why.Lent, lends_within s specs) ∷ []) e in
    let lent = passes why.Lent (lends_within s specs) [] count.1 in
    record {
      count = leb-true (length specs) 8 count.0;
      limits = All-append IsWithinLimits others (spec ∷ []) may.limits (All-cons IsWithinLimits spec [] limits (All-nil IsWithinLimits));
      lent = leb-true (lent_bytes s specs) MOST_LENT_BYTES lent.0;
    }

unless_none : {A : Type 0} (o : Option Why) (x y : A) → value_unless o x ≡ Ok y → (o ≡ None) × (x ≡ y)
unless_none None x y e = (refl, cc)
unless_none (Some w) x y e = cc

if_tested : (s : Sizes) (others : List LenderSpec) (r : Result LenderSpec Why) (spec : LenderSpec) → ((x : LenderSpec) → r ≡ Ok x → IsWithinLimits x)
    → MayLend s others → (r >>= λ x. value_unless (first_beyond (lending_tests s (others ++ x ∷ []))) x) ≡ Ok spec → MayLend s (others ++ spec ∷ [])
if_tested s others (Err w) spec limits may e = cc
if_tested s others (Ok x) spec limits may e =
    let parts = unless_none (first_beyond (lending_tests s (others ++ x ∷ []))) x spec e in
    subst (λ t. MayLend s (others ++ t ∷ [])) parts.1 (one_more_lends s others x may (limits x refl) parts.0)

-- a lender line that has no fault
line_lends : (s : Sizes) (others : List LenderSpec) (words : List (List ℕ)) (spec : LenderSpec) → MayLend s others
    → lender_line s others words ≡ Ok spec → MayLend s (others ++ spec ∷ [])
line_lends s others words spec may e = if_tested s others (spec_within (spec_words words)) spec (spec_limits (spec_words words)) may e

same_front : (s : Sizes) (x front : Front) → MayLend s x.lenders → (let r : Result Front ScriptRefused = Ok x in r ≡ Ok front) → MayLend s front.lenders
same_front s x front may e = let same : x ≡ front = cc in subst (λ (f : Front). MayLend s f.lenders) same may

line_front_lends : (s : Sizes) (others : List LenderSpec) (n : ℕ) (r : Result LenderSpec Why) (rest : List (ℕ × List ℕ)) (front : Front)
    → ((spec : LenderSpec) → r ≡ Ok spec → MayLend s (others ++ spec ∷ []))
    → ((more : List LenderSpec) → MayLend s more → front_from s more rest ≡ Ok front → MayLend s front.lenders)
    → (fault_at n r >>= λ spec. front_from s (others ++ spec ∷ []) rest) ≡ Ok front → MayLend s front.lenders
line_front_lends s others n (Err w) rest front lends later e = cc
line_front_lends s others n (Ok spec) rest front lends later e = later (others ++ spec ∷ []) (lends spec refl) e

if_lender : (s : Sizes) (others : List LenderSpec) (n : ℕ) (o : Option (List (List ℕ))) (lines rest : List (ℕ × List ℕ)) (front : Front)
    → MayLend s others → ((more : List LenderSpec) → MayLend s more → front_from s more rest ≡ Ok front → MayLend s front.lenders)
    → option_map_or (λ words. fault_at n (lender_line s others words) >>= λ spec. front_from s (others ++ spec ∷ []) rest) o
    (Ok (record { lenders = others; lines = lines })) ≡ Ok front → MayLend s front.lenders
if_lender s others n None lines rest front may later e = same_front s (record { lenders = others; lines = lines }) front may e
if_lender s others n (Some words) lines rest front may later e =
    line_front_lends s others n (lender_line s others words) rest front (λ spec ok. line_lends s others words spec may ok) later e

-- the lenders of a text may lend
pub front_lends : (s : Sizes) (others : List LenderSpec) (lines : List (ℕ × List ℕ)) (front : Front) → MayLend s others
    → front_from s others lines ≡ Ok front → MayLend s front.lenders
front_lends s others [] front may e = same_front s (record { lenders = others; lines = [] }) front may e
front_lends s others ((n, text) ∷ rest) front may e =
    if_lender s others n (lender_rest (words_of text)) ((n, text) ∷ rest) rest front may (λ more lends ok. front_lends s more rest front lends ok) e

unless_ok : (o : Option ScriptRefused) (x y : Script) → value_unless o x ≡ Ok y → (o ≡ None) × (x ≡ y)
unless_ok None x y e = (refl, cc)
unless_ok (Some w) x y e = cc

with_events : (g : Grammar) (P : Script → Type 0) → OfChecked g P → (end : ℕ) (sizes : Sizes) (front : Front) (s : Script) → AreInLimits sizes
    → MayLend sizes front.lenders → text_events g end sizes front ≡ Ok s → P s
with_events g P holds end sizes front s within may e =
    let n = length front.lenders in
    let parts = unless_ok (first_fault g end sizes n front.lines nothing_above) (script_with g sizes front) s e in
    subst P parts.1 (holds end sizes front within may parts.0)

with_front : (g : Grammar) (P : Script → Type 0) → OfChecked g P → (end : ℕ) (sizes : Sizes) (r : Result Front ScriptRefused) (s : Script) → AreInLimits sizes
    → ((front : Front) → r ≡ Ok front → MayLend sizes front.lenders) → (r >>= text_events g end sizes) ≡ Ok s → P s
with_front g P holds end sizes (Err w) s within may e = cc
with_front g P holds end sizes (Ok front) s within may e = with_events g P holds end sizes front s within (may front refl) e

with_sizes : (g : Grammar) (P : Script → Type 0) → OfChecked g P → (end n : ℕ) (rest : List (ℕ × List ℕ)) (r : Result Sizes Why) (s : Script)
    → ((sizes : Sizes) → r ≡ Ok sizes → AreInLimits sizes) → (fault_at n r >>= λ sizes. (front_from sizes [] rest >>= text_events g end sizes)) ≡ Ok s → P s
with_sizes g P holds end n rest (Err w) s within e = cc
with_sizes g P holds end n rest (Ok sizes) s within e =
    with_front g P holds end sizes (front_from sizes [] rest) s (within sizes refl) (λ front ok. front_lends sizes [] rest front (none_may_lend sizes) ok) e

of_lines : (g : Grammar) (P : Script → Type 0) → OfChecked g P → (end : ℕ) (lines : List (ℕ × List ℕ)) (s : Script) → text_lines g end lines ≡ Ok s → P s
of_lines g P holds end [] s e = cc
of_lines g P holds end ((n, text) ∷ rest) s e = with_sizes g P holds end n rest (geometry_line (words_of text)) s (line_in_limits (words_of text)) e

-- what holds of those texts holds of each text that is read
pub of_text : (g : Grammar) (P : Script → Type 0) → OfChecked g P → (text : List ℕ) (s : Script) → reading g text ≡ Ok s → P s
of_text g P holds text s e = of_lines g P holds (end_of text) (kept_lines text) s e
