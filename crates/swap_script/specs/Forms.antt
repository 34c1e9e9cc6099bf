-- The forms of lines: their words, and what they give. A line of no form gives nothing.
use Rattle.std.specs.Prelude.{ℕ, ◌^◌, Bool, true, false, nat_lt, if◌then◌else◌, List, [], ◌∷◌, Option, None, Some, option_and_then, is_some, codes}
use Rattle.swap_base.specs.declared.Page.{Page}
use Rattle.swap_base.specs.declared.Caller.{Caller}
use Rattle.swap_base.specs.declared.Slab.{Slab}
use Rattle.swap_base.specs.declared.Lender.{Lender}
use Rattle.swap_base.specs.declared.geometry.LenderSpec.{LenderSpec}
use Rattle.swap_base.specs.declared.DiskWhich.{DiskWhich}
use Rattle.swap_base.specs.declared.DiskWhich.TheVariants as which
use Rattle.swap_base.specs.Sizes.{Sizes}
use Rattle.swap_io.specs.Words.{number, piece_of}
use Rattle.swap_wire.specs.declared.Event.{Event}
use Rattle.swap_wire.specs.declared.Event.TheVariants as event
use Rattle.swap_script.specs.declared.Grammar.{Grammar}
use Rattle.swap_script.specs.declared.Grammar.TheVariants as grammar
use Rattle.swap_script.specs.Lines.{is_word}

infixl 10 ◌>>=◌
abbrev pub ◌>>=◌ : {A B : Type 0} → Option A → (A → Option B) → Option B
o >>= f = option_and_then f o

-- an event line as it is spelled: the event, and the last word of an `out` line
pub record Line : Type 0 where
  pub event : Event
  pub hex : List ℕ

-- an event that is spelled without a page
abbrev pub line_of_plain : Event → Option Line
line_of_plain e = Some (record { event = e; hex = [] })

-- the words, if there are just so many
abbrev pub no_word : List (List ℕ) → Option (Unit {0})
no_word [] = Some tt
no_word _ = None

abbrev pub one_word : List (List ℕ) → Option (List ℕ)
one_word (a ∷ []) = Some a
one_word _ = None

abbrev pub two_words : List (List ℕ) → Option (List ℕ × List ℕ)
two_words (a ∷ b ∷ []) = Some (a, b)
two_words _ = None

abbrev pub three_words : List (List ℕ) → Option (List ℕ × List ℕ × List ℕ)
three_words (a ∷ b ∷ c ∷ []) = Some (a, b, c)
three_words _ = None

abbrev pub seven_words : List (List ℕ) → Option (List ℕ × List ℕ × List ℕ × List ℕ × List ℕ × List ℕ × List ℕ)
seven_words (a ∷ b ∷ c ∷ d ∷ e ∷ f ∷ g ∷ []) = Some (a, b, c, d, e, f, g)
seven_words _ = None

-- a number below 2 ^ 32
abbrev pub number_below : ℕ → ℕ → Option ℕ
number_below limit n = if nat_lt n limit then Some n else None

abbrev pub small_number : List ℕ → Option ℕ
small_number word = number word >>= number_below (2 ^ 32)

-- the words of a caller, of a page, of a slab and of a lender
abbrev pub caller_word : List ℕ → Option Caller
caller_word word = small_number word >>= λ n. Some (record { 0 = n })

abbrev pub page_word : List ℕ → Option Page
page_word word = small_number word >>= λ n. Some (record { 0 = n })

abbrev pub slab_word : List ℕ → Option Slab
slab_word word = small_number word >>= λ n. Some (record { 0 = n })

abbrev pub lender_word : List ℕ → Option Lender
lender_word word = small_number word >>= λ n. Some (record { 0 = n })

-- a word that is hex of whole bytes
abbrev pub hex_word : List ℕ → Option (List ℕ)
hex_word word = if is_some (piece_of word) then Some word else None

-- how a disk's operation ends
abbrev pub ok_word : List ℕ → Option Bool
ok_word how = if is_word (codes "ok") how then Some true else (if is_word (codes "bad") how then Some false else None)

-- an operation of the disk
abbrev pub which_words : List ℕ → List ℕ → Option DiskWhich
which_words what n =
    if is_word (codes "write") what then (page_word n >>= λ page. Some (which.Write page))
    else (if is_word (codes "read") what then (caller_word n >>= λ caller. Some (which.Read caller)) else None)

-- a page-out and a page-in of a caller, by the words of the page
abbrev pub page_out : Caller → List ℕ → List ℕ → Option Line
page_out caller p h = do
  page ← page_word p
  hex ← hex_word h
  Some (record { event = event.PageOut caller page; hex = hex })

abbrev pub page_in : Caller → List ℕ → Option Line
page_in caller p = page_word p >>= λ page. line_of_plain (event.PageIn caller page)

-- the forms of an event line, by its first word
abbrev pub out_line : List (List ℕ) → Option Line
out_line words = do
  (c, p, h) ← three_words words
  caller ← caller_word c
  page_out caller p h

abbrev pub in_line : List (List ℕ) → Option Line
in_line words = do
  (c, p) ← two_words words
  caller ← caller_word c
  page_in caller p

abbrev pub finish_line : List (List ℕ) → Option Line
finish_line words = do
  c ← one_word words
  caller ← caller_word c
  line_of_plain (event.Finish caller)

abbrev pub start_line : List (List ℕ) → Option Line
start_line words = no_word words >>= λ _. line_of_plain event.Start

abbrev pub disk_line : List (List ℕ) → Option Line
disk_line words = do
  (what, n, how) ← three_words words
  which ← which_words what n
  ok ← ok_word how
  line_of_plain (event.Disk which ok)

abbrev pub map_line : List (List ℕ) → Option Line
map_line words = do
  (s, l) ← two_words words
  slab ← slab_word s
  lender ← lender_word l
  line_of_plain (event.Map slab lender)

-- an event that names a lender alone
abbrev pub lender_event : (Lender → Event) → List (List ℕ) → Option Line
lender_event of words = do
  l ← one_word words
  lender ← lender_word l
  line_of_plain (of lender)

abbrev pub connect_line : List (List ℕ) → Option Line
connect_line words = lender_event event.Connect words

abbrev pub give_line : List (List ℕ) → Option Line
give_line words = lender_event event.Give words

abbrev pub take_line : List (List ℕ) → Option Line
take_line words = lender_event event.Take words

abbrev pub crash_line : List (List ℕ) → Option Line
crash_line words = lender_event event.Crash words

abbrev pub cut_line : List (List ℕ) → Option Line
cut_line words = do
  (l, a, b) ← three_words words
  lender ← lender_word l
  to_lender ← small_number a
  to_device ← small_number b
  line_of_plain (event.Cut lender to_lender to_device)

abbrev pub host_line : List (List ℕ) → Option Line
host_line words = do
  (l, u, w) ← three_words words
  lender ← lender_word l
  used ← small_number u
  word ← number w
  line_of_plain (event.Host lender used word)

-- an event that has a word alone, which is a number below 2 ^ 64
abbrev pub word_event : (ℕ → Event) → List (List ℕ) → Option Line
word_event of words = do
  w ← one_word words
  word ← number w
  line_of_plain (of word)

abbrev pub tick_line : List (List ℕ) → Option Line
tick_line words = word_event event.Tick words

abbrev pub round_line : List (List ℕ) → Option Line
round_line words = word_event event.Round words

-- a form by its first word, and what its other words give
pub record Row : Type 0 where
  pub word : List ℕ
  pub reads : List (List ℕ) → Option Line

abbrev pub row : List ℕ → (List (List ℕ) → Option Line) → Row
row word reads = record { word = word; reads = reads }

-- the lines that an operator may have in a trace too
abbrev pub operator_rows : List Row
operator_rows =
    row (codes "map") map_line
    ∷ row (codes "connect") connect_line
    ∷ row (codes "cut") cut_line
    ∷ row (codes "crash") crash_line
    ∷ row (codes "host") host_line
    ∷ row (codes "round") round_line
    ∷ []

abbrev pub event_rows : List Row
event_rows =
    row (codes "out") out_line
    ∷ row (codes "in") in_line
    ∷ row (codes "finish") finish_line
    ∷ row (codes "start") start_line
    ∷ row (codes "disk") disk_line
    ∷ row (codes "tick") tick_line
    ∷ row (codes "give") give_line
    ∷ row (codes "take") take_line
    ∷ operator_rows

abbrev pub by_row : List Row → List ℕ → List (List ℕ) → Option Line
by_row [] word words = None
by_row (r ∷ rows) word words = if is_word r.word word then r.reads words else by_row rows word words

-- the event of a script's line, by its words
abbrev pub event_line : List (List ℕ) → Option Line
event_line [] = None
event_line (word ∷ words) = by_row event_rows word words

-- a call of a trace, by the words behind its caller
abbrev pub call_line : Caller → List (List ℕ) → Option Line
call_line caller [] = None
call_line caller (word ∷ words) =
    if is_word (codes "out") word then (two_words words >>= λ t. page_out caller t.0 t.1) else
    (if is_word (codes "in") word then (one_word words >>= page_in caller) else None)

-- a line that begins with a caller is a call, and another one an operator's
abbrev pub call_or_operator : Option Caller → List ℕ → List (List ℕ) → Option Line
call_or_operator (Some caller) word words = call_line caller words
call_or_operator None word words = by_row operator_rows word words

-- the event of a trace's line, by its words
abbrev pub trace_line : List (List ℕ) → Option Line
trace_line [] = None
trace_line (word ∷ words) = call_or_operator (caller_word word) word words

abbrev pub line_of : Grammar → List (List ℕ) → Option Line
line_of grammar.Script words = event_line words
line_of (grammar.Trace tcp) words = trace_line words

-- the seven numbers of a geometry line
abbrev pub sizes_words : List (List ℕ) → Option Sizes
sizes_words words = do
  (a, b, c, d, e, f, g) ← seven_words words
  page_bytes ← small_number a
  pages_per_slab ← small_number b
  slabs ← small_number c
  queue ← small_number d
  callers ← small_number e
  window ← small_number f
  hot ← small_number g
  Some
      (record {
        page_bytes = page_bytes;
        pages_per_slab = pages_per_slab;
        slabs = slabs;
        queue = queue;
        callers = callers;
        window = window;
        hot = hot;
      })

-- the three numbers of a lender line
abbrev pub spec_words : List (List ℕ) → Option LenderSpec
spec_words words = do
  (a, b, c) ← three_words words
  slots ← small_number a
  headroom ← small_number b
  extra ← small_number c
  Some (record { slots = slots; headroom = headroom; extra = extra })
