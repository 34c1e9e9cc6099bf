-- Lines without a fault are in range, and their page-outs hand in whole pages.
use Rattle.std.proofs.Common.{◌≡◌, ℕ, true, cond, List, [], ◌∷◌, length, is_some, unwrap_or, Option, None, Some, refl}
use Rattle.std.specs.List.{AllByRecursion, cons_option}
use Rattle.std.specs.Option.{option_map}
use Rattle.swap_base.specs.Sizes.{Sizes, AreInLimits}
use Rattle.swap_base.proofs.Limits.{within_limits}
use Rattle.swap_io.specs.Words.{pattern, piece_of}
use Rattle.swap_wire.specs.Input.{Input, IsInRange}
use Rattle.swap_wire.specs.declared.Event.{Event}
use Rattle.swap_wire.specs.declared.Event.TheVariants as event
use Rattle.swap_script.specs.declared.Grammar.{Grammar}
use Rattle.swap_script.specs.Lines.{words_of}
use Rattle.swap_script.specs.Forms.{Line, line_of}
use Rattle.swap_script.specs.Laws.{AreInRange, HandInPages, HaveLenders, HandsInAPage}
use Rattle.swap_script.specs.Reading.{Script, MayLend, is_out, nothing_above, inputs_of, input_of, Reads, AllRead}
use Rattle.swap_script.proofs.Patterns.{length-filled}
use Rattle.swap_script.proofs.Read.{all_read}
use Rattle.swap_script.proofs.Scripts.{of_text}

abbrev pub InRange : Sizes → ℕ → List Input → Type 0
InRange s lenders inputs = AllByRecursion (λ (i : Input). IsInRange s lenders i.event) inputs

onto_range : (s : Sizes) (lenders : ℕ) (o : Option Line) (later : List Input) → Reads s lenders o → InRange s lenders later
    → InRange s lenders (cons_option (option_map (input_of s) o) later)
onto_range s lenders None later h rest = absurd h
onto_range s lenders (Some line) later h rest = (h.0, rest)

pub all_in_range : (g : Grammar) (s : Sizes) (lenders : ℕ) (lines : List (ℕ × List ℕ)) → AllRead g s lenders lines → InRange s lenders (inputs_of g s lines)
all_in_range g s lenders [] h = tt
all_in_range g s lenders ((n, text) ∷ rest) h =
    onto_range s lenders (line_of g (words_of text)) (inputs_of g s rest) h.0 (all_in_range g s lenders rest h.1)

abbrev pub AllWhole : Sizes → List Input → Type 0
AllWhole s inputs = AllByRecursion (λ (i : Input). HandsInAPage s i.event i.page) inputs

-- an event with the page that its line has, if it needs one
hands_in : (s : Sizes) (e : Event) (o : Option (List ℕ)) → ((page : List ℕ) → o ≡ Some page → length page ≡ s.page_bytes)
    → cond (is_out e) (is_some o) true ≡ true → HandsInAPage s e (cond (is_out e) (unwrap_or o []) [])
hands_in s (event.PageOut c p) None whole has = cc
hands_in s (event.PageOut c p) (Some page) whole has = whole page refl
hands_in s (event.PageIn c p) o whole has = tt
hands_in s (event.Finish c) o whole has = tt
hands_in s event.Start o whole has = tt
hands_in s (event.Disk which ok) o whole has = tt
hands_in s (event.Tick word) o whole has = tt
hands_in s (event.Map slab l) o whole has = tt
hands_in s (event.Connect l) o whole has = tt
hands_in s (event.Give l) o whole has = tt
hands_in s (event.Take l) o whole has = tt
hands_in s (event.Cut l a b) o whole has = tt
hands_in s (event.Crash l) o whole has = tt
hands_in s (event.Host l u word) o whole has = tt
hands_in s (event.Round word) o whole has = tt

onto_whole : (s : Sizes) (lenders : ℕ) (o : Option Line) (later : List Input) → AreInLimits s → Reads s lenders o → AllWhole s later
    → AllWhole s (cons_option (option_map (input_of s) o) later)
onto_whole s lenders None later within h rest = absurd h
onto_whole s lenders (Some line) later within h rest = (
  hands_in s line.event (pattern s.page_bytes line.hex)
      (λ page e. length-filled s.page_bytes (piece_of line.hex) page (within_limits s within).length e) h.1,
  rest,
)

pub all_whole : (g : Grammar) (s : Sizes) (lenders : ℕ) (lines : List (ℕ × List ℕ)) → AreInLimits s → AllRead g s lenders lines
    → AllWhole s (inputs_of g s lines)
all_whole g s lenders [] within h = tt
all_whole g s lenders ((n, text) ∷ rest) within h =
    onto_whole s lenders (line_of g (words_of text)) (inputs_of g s rest) within h.0 (all_whole g s lenders rest within h.1)

-- the texts of each grammar
pub are_in_range : (g : Grammar) → AreInRange g
are_in_range g =
    of_text g (λ (s : Script). InRange s.sizes (length s.lenders) s.inputs)
    (λ end sizes front within may none. all_in_range g sizes (length front.lenders) front.lines
    (all_read g end sizes (length front.lenders) front.lines nothing_above none))

pub hand_in_pages : (g : Grammar) → HandInPages g
hand_in_pages g =
    of_text g (λ (s : Script). AllWhole s.sizes s.inputs)
    (λ end sizes front within may none. all_whole g sizes (length front.lenders) front.lines within
    (all_read g end sizes (length front.lenders) front.lines nothing_above none))

pub have_lenders : (g : Grammar) → HaveLenders g
have_lenders g = of_text g (λ (s : Script). MayLend s.sizes s.lenders) (λ end sizes front within may none. may)
