-- A part of the events of some lines, by the first of the lines.
use Rattle.std.proofs.Common.{◌≡◌, ℕ, Bool, true, false, not, eqb, cond, List, [], ◌∷◌, length, Option, None, Some, is_some, refl, sym, ap, ◌∙◌, subst}
use Rattle.std.specs.Prelude.{codes}
use Rattle.std.specs.List.{cons_option}
use Rattle.std.specs.Option.{option_map}
use Rattle.swap_base.specs.declared.Caller.{Caller}
use Rattle.swap_base.specs.declared.Lender.{Lender}
use Rattle.swap_base.specs.declared.geometry.LenderSpec.{LenderSpec}
use Rattle.swap_base.specs.Sizes.{Sizes}
use Rattle.swap_wire.specs.Input.{Input}
use Rattle.swap_wire.specs.declared.Event.{Event}
use Rattle.swap_wire.specs.declared.Event.TheVariants as event
use Rattle.swap_script.specs.declared.Grammar.{Grammar}
use Rattle.swap_script.specs.declared.Grammar.TheVariants as grammar
use Rattle.swap_script.specs.declared.Part.{Part}
use Rattle.swap_script.specs.declared.Part.TheVariants as part
use Rattle.swap_script.specs.Lines.{words_of, is_word}
use Rattle.swap_script.specs.Forms.{Line, line_of, by_row, operator_rows, two_words, one_word, three_words, page_out, page_in, caller_word, hex_word, page_word, slab_word, lender_word, small_number, call_line, call_or_operator, trace_line, lender_event, word_event, map_line, cut_line, host_line, ◌>>=◌}
use Rattle.swap_script.specs.Reading.{Reads, AllRead, is_in, is_operators, is_call_of, part_of, inputs_of, input_of}
use Rattle.swap_script.specs.Laws.{IsOfTrace}
use Rattle.swap_script.specs.Spelled.{line_in, first_caller, is_caller}
use Rattle.swap_io.specs.Words.{number}
use Rattle.swap_base.proofs.Bools.{not_true}

if_in : (b : Bool) (s : Sizes) (line : Line) (rest : List Input)
    → cond b (input_of s line ∷ rest) rest ≡ cons_option (option_map (input_of s) (cond b (Some line) None)) rest
if_in true s line rest = refl
if_in false s line rest = refl

onto_part : (p : Part) (s : Sizes) (o : Option Line) (rest : List Input) → part_of p (cons_option (option_map (input_of s) o) rest) ≡ cons_option
    (option_map (input_of s) (line_in p o)) (part_of p rest)
onto_part p s None rest = refl
onto_part part.Whole s (Some line) rest = refl
onto_part (part.CallsOf c) s (Some line) rest = if_in (is_call_of c line.event) s line (part_of (part.CallsOf c) rest)
onto_part part.Operator s (Some line) rest = if_in (is_operators line.event) s line (part_of part.Operator rest)

-- the first line is in a part, or isn't
pub part_of-cons : (p : Part) (g : Grammar) (s : Sizes) (n : ℕ) (text : List ℕ) (rest : List (ℕ × List ℕ)) (o : Option Line)
    → o ≡ line_in p (line_of g (words_of text)) → part_of p (inputs_of g s ((n, text) ∷ rest)) ≡ cons_option (option_map (input_of s) o)
    (part_of p (inputs_of g s rest))
part_of-cons p g s n text rest o e =
    onto_part p s (line_of g (words_of text)) (inputs_of g s rest) ∙ ap (λ x. cons_option (option_map (input_of s) x) (part_of p (inputs_of g s rest))) (sym e)

-- what an operator's line gives: its event is a call of nobody
abbrev IsOperators : Event → Type 0
IsOperators e = (is_operators e ≡ true) × IsOfTrace None e

abbrev pub Operates : Option Line → Type 0
Operates o = (line : Line) → o ≡ Some line → IsOperators line.event

none_operates : Operates None
none_operates line e = cc

then_operates : {A : Type 0} (o : Option A) (f : A → Option Line) → ((a : A) → Operates (f a)) → Operates (o >>= f)
then_operates None f h = none_operates
then_operates (Some a) f h = h a

event_operates : (e : Event) → IsOperators e → Operates (Some (record { event = e; hex = [] }))
event_operates e is line same = let at : record { event = e; hex = [] } ≡ line = cc in subst (λ (l : Line). IsOperators l.event) at is

row_operates : (b : Bool) (x y : Option Line) → Operates x → Operates y → Operates (cond b x y)
row_operates true x y hx hy = hx
row_operates false x y hx hy = hy

lender_operates : (of : Lender → Event) (words : List (List ℕ)) → ((l : Lender) → IsOperators (of l)) → Operates (lender_event of words)
lender_operates of words is =
    then_operates (one_word words) _ (λ l. then_operates (lender_word l) _ (λ lender. event_operates (of lender) (is lender)))

word_operates : (of : ℕ → Event) (words : List (List ℕ)) → ((w : ℕ) → IsOperators (of w)) → Operates (word_event of words)
word_operates of words is =
    then_operates (one_word words) _ (λ w. then_operates (number w) _ (λ word. event_operates (of word) (is word)))

map_operates : (words : List (List ℕ)) → Operates (map_line words)
map_operates words =
    then_operates (two_words words) _
    (λ t. then_operates (slab_word t.0) _ (λ slab. then_operates (lender_word t.1) _ (λ lender. event_operates (event.Map slab lender) (refl, tt))))

cut_operates : (words : List (List ℕ)) → Operates (cut_line words)
cut_operates words =
    then_operates (three_words words) _
    (λ t. then_operates (lender_word t.0) _
    (λ lender. then_operates (small_number t.1) _ (λ a. then_operates (small_number t.2) _ (λ b. event_operates (event.Cut lender a b) (refl, tt)))))

host_operates : (words : List (List ℕ)) → Operates (host_line words)
host_operates words =
    then_operates (three_words words) _
    (λ t. then_operates (lender_word t.0) _
    (λ lender. then_operates (small_number t.1) _ (λ a. then_operates (number t.2) _ (λ b. event_operates (event.Host lender a b) (refl, tt)))))

pub operator_operates : (word : List ℕ) (words : List (List ℕ)) → Operates (by_row operator_rows word words)
operator_operates word words =
    row_operates (is_word (codes "map") word) _ _ (map_operates words)
    (row_operates (is_word (codes "connect") word) _ _ (lender_operates event.Connect words (λ l. (refl, tt)))
    (row_operates (is_word (codes "cut") word) _ _ (cut_operates words)
    (row_operates (is_word (codes "crash") word) _ _ (lender_operates event.Crash words (λ l. (refl, tt)))
    (row_operates (is_word (codes "host") word) _ _ (host_operates words)
    (row_operates (is_word (codes "round") word) _ _ (word_operates event.Round words (λ w. (refl, tt))) none_operates)))))

abbrev pub IsCall : Caller → Event → Type 0
IsCall c e = (is_operators e ≡ false) × ((d : Caller) → is_call_of d e ≡ eqb c.0 d.0) × ((tcp : Option ℕ) → IsOfTrace tcp e)

abbrev pub Calls : Caller → Option Line → Type 0
Calls c o = (line : Line) → o ≡ Some line → IsCall c line.event

none_calls : (c : Caller) → Calls c None
none_calls c line e = cc

then_calls : {A : Type 0} (c : Caller) (o : Option A) (f : A → Option Line) → ((a : A) → Calls c (f a)) → Calls c (o >>= f)
then_calls c None f h = none_calls c
then_calls c (Some a) f h = h a

line_calls : (c : Caller) (x : Line) → IsCall c x.event → Calls c (Some x)
line_calls c x is line same = let at : x ≡ line = cc in subst (λ (l : Line). IsCall c l.event) at is

if_calls : (c : Caller) (b : Bool) (x y : Option Line) → Calls c x → Calls c y → Calls c (cond b x y)
if_calls c true x y hx hy = hx
if_calls c false x y hx hy = hy

page_out_calls : (c : Caller) (p h : List ℕ) → Calls c (page_out c p h)
page_out_calls c p h = then_calls c (page_word p) _
    (λ page. then_calls c (hex_word h) _ (λ hex. line_calls c (record { event = event.PageOut c page; hex = hex }) (refl, λ d. refl, λ tcp. tt)))

page_in_calls : (c : Caller) (p : List ℕ) → Calls c (page_in c p)
page_in_calls c p = then_calls c (page_word p) _ (λ page. line_calls c (record { event = event.PageIn c page; hex = [] }) (refl, λ d. refl, λ tcp. tt))

pub call_calls : (c : Caller) (words : List (List ℕ)) → Calls c (call_line c words)
call_calls c [] = none_calls c
call_calls c (word ∷ words) =
    if_calls c (is_word (codes "out") word) _ _ (then_calls c (two_words words) _ (λ t. page_out_calls c t.0 t.1))
    (if_calls c (is_word (codes "in") word) _ _ (then_calls c (one_word words) _ (page_in_calls c)) (none_calls c))

-- an operator's line is no call
no_call : (d : Caller) (e : Event) → is_operators e ≡ true → is_call_of d e ≡ false
no_call d (event.PageOut c p) h = cc
no_call d (event.PageIn c p) h = cc
no_call d (event.Finish c) h = refl
no_call d event.Start h = refl
no_call d (event.Disk which ok) h = refl
no_call d (event.Tick word) h = refl
no_call d (event.Map slab l) h = refl
no_call d (event.Connect l) h = refl
no_call d (event.Give l) h = refl
no_call d (event.Take l) h = refl
no_call d (event.Cut l a b) h = refl
no_call d (event.Crash l) h = refl
no_call d (event.Host l u word) h = refl
no_call d (event.Round word) h = refl

out_of_part : (p : Part) (line : Line) (b : Bool) → is_in p line.event ≡ b → b ≡ false → line_in p (Some line) ≡ None
out_of_part p line b is e = ap (λ t. cond t (Some line) None) (is ∙ e)

calls_elsewhere : (d : Caller) (o : Option Caller) (word : List ℕ) (words : List (List ℕ)) (x : Option Line) → is_caller d o ≡ false
    → x ≡ call_or_operator o word words → line_in (part.CallsOf d) x ≡ None
calls_elsewhere d o word words None is e = refl
calls_elsewhere d None word words (Some line) is e = out_of_part (part.CallsOf d) line false
    (no_call d line.event (operator_operates word words line (sym e)).0) refl
calls_elsewhere d (Some c) word words (Some line) is e = out_of_part (part.CallsOf d) line false ((call_calls c words line (sym e)).1 d ∙ is) refl

pub calls_elsewhere_of : (d : Caller) (words : List (List ℕ)) → is_caller d (first_caller words) ≡ false → line_in (part.CallsOf d) (trace_line words) ≡ None
calls_elsewhere_of d [] is = refl
calls_elsewhere_of d (word ∷ words) is = calls_elsewhere d (caller_word word) word words _ is refl

pub elsewhere_calls : (g : Grammar) (tcp : Option ℕ) (p : Part) (d : Caller) (words : List (List ℕ)) (b : Bool) → p ≡ part.CallsOf d → g ≡ grammar.Trace tcp
    → b ≡ is_caller d (first_caller words) → not b ≡ true → line_in p (line_of g words) ≡ None
elsewhere_calls g tcp p d words b ep eg eb is =
    ap (λ x. line_in x (line_of g words)) ep ∙ ap (λ x. line_in (part.CallsOf d) (line_of x words)) eg ∙ calls_elsewhere_of d words (sym eb ∙ not_true b is)

-- a line in a part is a line
kept_is : (b : Bool) (x line : Line) → Some line ≡ cond b (Some x) None → Some x ≡ Some line
kept_is true x line e = sym e
kept_is false x line e = cc

in_part : (p : Part) (o : Option Line) (line : Line) → Some line ≡ line_in p o → o ≡ Some line
in_part p None line e = cc
in_part p (Some x) line e = kept_is (is_in p x.event) x line e

first_reads : (g : Grammar) (s : Sizes) (n m : ℕ) (text : List ℕ) (rest lines : List (ℕ × List ℕ)) → lines ≡ (m, text) ∷ rest → AllRead g s n lines
    → Reads s n (line_of g (words_of text)) × AllRead g s n rest
first_reads g s n m text rest lines e h = subst (AllRead g s n) e h

pub reads_rest : (g : Grammar) (s : Sizes) (n m : ℕ) (text : List ℕ) (rest lines : List (ℕ × List ℕ)) → lines ≡ (m, text) ∷ rest → AllRead g s n lines
    → AllRead g s n rest
reads_rest g s n m text rest lines e h = (first_reads g s n m text rest lines e h).1

pub reads_line : (p : Part) (g : Grammar) (s t : Sizes) (ls ms : List LenderSpec) (m : ℕ) (text : List ℕ) (rest lines : List (ℕ × List ℕ)) (line : Line) → t ≡ s
    → ms ≡ ls → lines ≡ (m, text) ∷ rest → AllRead g s (length ls) lines → Some line ≡ line_in p (line_of g (words_of text)) → Reads t (length ms) (Some line)
reads_line p g s t ls ms m text rest lines line et em e h is =
    let here = subst (Reads s (length ls)) (in_part p (line_of g (words_of text)) line is) (first_reads g s (length ls) m text rest lines e h).0 in
    let lent : Reads s (length ms) (Some line) = subst (λ l. Reads s (length l) (Some line)) (sym em) here in
    subst (λ x. Reads x (length ms) (Some line)) (sym et) lent
