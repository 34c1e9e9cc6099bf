-- Texts by hand: what they are as scripts, or their first fault, and lines as they are printed.
use Rattle.std.specs.Prelude.{◌≡◌, ℕ, true, false, List, [], ◌∷◌, ◌++◌, map, flat_map, replicate, codes, Option, None, Some, Ok, Err}
use Rattle.swap_base.specs.declared.DiskWhich.TheVariants as which
use Rattle.swap_base.specs.declared.Field.TheVariants.{PageBytes, Slots, Headroom, Extra}
use Rattle.swap_base.specs.declared.Origin.TheVariants as origin
use Rattle.swap_base.specs.declared.Via.TheVariants as via
use Rattle.swap_base.specs.declared.geometry.LenderSpec.{LenderSpec}
use Rattle.swap_base.specs.Sizes.{Sizes}
use Rattle.swap_wire.specs.declared.Event.{Event}
use Rattle.swap_wire.specs.declared.Event.TheVariants as event
use Rattle.swap_wire.specs.declared.Msg.TheVariants as msg
use Rattle.swap_wire.specs.declared.Seen.{Seen}
use Rattle.swap_wire.specs.declared.Seen.TheVariants as seen
use Rattle.swap_wire.specs.Input.{Input}
use Rattle.swap_record.specs.declared.Op.TheVariants as op
use Rattle.swap_record.specs.History.{History, with_row}
use Rattle.swap_script.specs.declared.Why.{Why}
use Rattle.swap_script.specs.declared.Why.TheVariants as why
use Rattle.swap_script.specs.declared.Grammar.TheVariants as grammar
use Rattle.swap_script.specs.declared.Part.{Part}
use Rattle.swap_script.specs.declared.Part.TheVariants as part
use Rattle.swap_script.specs.Lines.{with_line_end, words_of}
use Rattle.swap_script.specs.Forms.{event_line, line_of_plain}
use Rattle.swap_script.specs.Reading.{script, reading, part_of, ◌>>=◌}
use Rattle.swap_script.specs.Transcript.{header, lender_header, line, end_line, transcript, refusal}

abbrev text : List (List ℕ) → List ℕ
text lines = flat_map with_line_end lines

abbrev small_sizes : Sizes
small_sizes = record { page_bytes = 8; pages_per_slab = 4; slabs = 2; queue = 4; callers = 2; window = 4; hot = 20 }

abbrev Gives : List ℕ → List Input → Type 0
Gives bytes inputs = script bytes ≡ Ok (record { sizes = small_sizes; lenders = []; inputs = inputs })

-- with one lender
abbrev one_spec : LenderSpec
one_spec = record { slots = 4; headroom = 1; extra = 1 }

abbrev Lends : List ℕ → List Input → Type 0
Lends bytes inputs = script bytes ≡ Ok (record { sizes = small_sizes; lenders = one_spec ∷ []; inputs = inputs })

abbrev Refuses : List ℕ → ℕ → Why → Type 0
Refuses bytes n w = script bytes ≡ Err (record { line = n; why = w })

abbrev G : List ℕ
G = codes "geometry 8 4 2 4 2 4 20"

abbrev L : List ℕ
L = codes "lender 4 1 1"

-- an event without a page
abbrev bare_event : Event → Input
bare_event e = record { event = e; page = [] }

abbrev pub ScriptRows : Type 0
ScriptRows =
    Gives G []
    × Gives
    (text
    (codes "# a comment" ∷ G ∷ codes "" ∷ codes "out 1 7 0102" ∷ codes "# out 9 9 9" ∷ codes "disk read 0 bad"
    ∷ []))
    (record
    { event = event.PageOut (record { 0 = 1 }) (record { 0 = 7 }); page = 1 ∷ 2 ∷ 1 ∷ 2 ∷ 1 ∷ 2 ∷ 1 ∷ 2 ∷ [] }
    ∷ record { event = event.Disk (which.Read (record { 0 = 0 })) false; page = [] } ∷ [])
    × Gives (text (G ∷ codes "in 0 5" ∷ codes "finish 0" ∷ codes "start" ∷ codes "disk write 3 ok" ∷ []))
    (record { event = event.PageIn (record { 0 = 0 }) (record { 0 = 5 }); page = [] }
    ∷ record { event = event.Finish (record { 0 = 0 }); page = [] } ∷ record { event = event.Start; page = [] }
    ∷ record { event = event.Disk (which.Write (record { 0 = 3 })) true; page = [] } ∷ [])

-- the events of a page-in that a lender answers: lender 0, slab 0, caller 0, and page 3
abbrev connect : Event
connect = event.Connect (record { 0 = 0 })

abbrev map_slab : Event
map_slab = event.Map (record { 0 = 0 }) (record { 0 = 0 })

abbrev give : Event
give = event.Give (record { 0 = 0 })

abbrev take : Event
take = event.Take (record { 0 = 0 })

abbrev page_out : Event
page_out = event.PageOut (record { 0 = 0 }) (record { 0 = 3 })

abbrev written_event : Event
written_event = event.Disk (which.Write (record { 0 = 3 })) true

abbrev page_in : Event
page_in = event.PageIn (record { 0 = 0 }) (record { 0 = 3 })

abbrev finish : Event
finish = event.Finish (record { 0 = 0 })

abbrev page_in_from_a_lender_script : List (List ℕ)
page_in_from_a_lender_script =
    G ∷ L ∷ codes "connect 0" ∷ codes "map 0 0" ∷ codes "give 0" ∷ codes "give 0" ∷ codes "take 0" ∷ codes "out 0 3 aa"
    ∷ codes "give 0" ∷ codes "take 0" ∷ codes "start" ∷ codes "disk write 3 ok" ∷ codes "in 0 3" ∷ codes "give 0"
    ∷ codes "take 0" ∷ codes "finish 0" ∷ []

abbrev page_in_from_a_lender_transcript : List (List ℕ)
page_in_from_a_lender_transcript =
    G
    ∷ L
    ∷ codes "connect 0 = link 0"
    ∷ codes "map 0 0 = borrow"
    ∷ codes "give 0 = hello 1"
    ∷ codes "give 0 = borrow 0 > lent 0 0"
    ∷ codes "take 0 = lent 0 0"
    ∷ codes "out 0 3 = entry 0 out 3 aa to 0"
    ∷ codes "give 0 = write 0 3 > wrote 0 3"
    ∷ codes "take 0 = wrote 0 3"
    ∷ codes "start = write 3 0"
    ∷ codes "disk write 3 ok = written 0"
    ∷ codes "in 0 3 = wait lender 0"
    ∷ codes "give 0 = read 0 3 > page 0 3"
    ∷ codes "take 0 = page 0 3"
    ∷ codes "finish 0 = entry 1 in 3 of 0 lender 0 aa"
    ∷ codes "end 2"
    ∷ []

abbrev pub LenderRows : Type 0
LenderRows =
    Lends (text (G ∷ L ∷ [])) []
    × Lends (text page_in_from_a_lender_script)
    (map bare_event (connect ∷ map_slab ∷ give ∷ give ∷ take ∷ [])
    ++ record { event = page_out; page = replicate 8 170 }
    ∷ map bare_event (give ∷ take ∷ event.Start ∷ written_event ∷ page_in ∷ give ∷ take ∷ finish ∷ []))

-- with two lenders: links are made any number of times, cut, and ended by a crash
abbrev two_specs : List LenderSpec
two_specs = one_spec ∷ record { slots = 64; headroom = 0; extra = 64 } ∷ []

abbrev two_lenders_script : List (List ℕ)
two_lenders_script =
    G ∷ L ∷ codes "lender 64 0 64" ∷ codes "connect 1" ∷ codes "connect 0" ∷ codes "connect 1"
    ∷ codes "cut 1 2 4294967295" ∷ codes "crash 0" ∷ codes "round 7" ∷ codes "connect 0" ∷ []

abbrev connects : ℕ → Event
connects l = event.Connect (record { 0 = l })

abbrev link_events : List Event
link_events =
    connects 1 ∷ connects 0 ∷ connects 1 ∷ event.Cut (record { 0 = 1 }) 2 4_294_967_295
    ∷ event.Crash (record { 0 = 0 }) ∷ event.Round 7 ∷ connects 0 ∷ []

abbrev pub LinkEventRows : Type 0
LinkEventRows =
    script (text two_lenders_script)
    ≡ Ok (record { sizes = small_sizes; lenders = two_specs; inputs = map bare_event link_events })

abbrev pub FaultRows : Type 0
FaultRows =
    Refuses [] 1 why.Geometry
    × Refuses (text (codes "# one" ∷ codes "" ∷ [])) 3 why.Geometry
    × Refuses (codes " geometry 8 4 2 4 2 4 20") 1 why.Geometry
    × Refuses (text (codes "geometry 8 4 2 4 2 4" ∷ [])) 1 why.Form
    × Refuses (text (codes "geometry 12 4 2 4 2 4 20" ∷ [])) 1 (why.Field PageBytes)
    × Refuses (text (G ∷ codes "in 0 7" ∷ codes "in 0 8" ∷ [])) 3 why.Page
    × Refuses (text (codes "# a comment" ∷ codes "" ∷ G ∷ codes "in  0 1" ∷ [])) 4 why.Form
    × Refuses (text (G ∷ codes "in 2 9" ∷ [])) 2 why.Caller
    × Refuses (text (G ∷ codes "out 0 0 aabbcc" ∷ [])) 2 why.Pattern
    × Refuses (text (G ∷ codes "out 0 0 abc" ∷ [])) 2 why.Form

abbrev pub LenderFaultRows : Type 0
LenderFaultRows =
    Refuses (text (G ∷ codes "lender 4 1" ∷ [])) 2 why.Form
    × Refuses (text (G ∷ codes "lender 65 65 65" ∷ [])) 2 (why.Field Slots)
    × Refuses (text (G ∷ codes "lender 4 65 65" ∷ [])) 2 (why.Field Headroom)
    × Refuses (text (G ∷ codes "lender 4 1 65" ∷ [])) 2 (why.Field Extra)
    × Refuses (text (codes "geometry 4096 65536 1 4 2 4 20" ∷ codes "lender 3 1 1" ∷ [])) 2 why.Lent
    × Refuses (text (codes "geometry 4096 65536 1 4 2 4 20" ∷ codes "lender 1 1 1" ∷ codes "lender 1 1 1"
    ∷ codes "lender 1 1 1" ∷ [])) 4 why.Lent
    × Refuses (text (G ∷ L ∷ L ∷ L ∷ L ∷ L ∷ L ∷ L ∷ L ∷ L ∷ [])) 10 why.Lenders
    × Refuses (text (G ∷ L ∷ L ∷ L ∷ L ∷ L ∷ L ∷ L ∷ L ∷ codes "lender 4 65 1" ∷ [])) 10 (why.Field Headroom)
    × Refuses (text (G ∷ codes "start" ∷ L ∷ [])) 3 why.Form
    × Refuses (text (G ∷ L ∷ codes "map 2 1" ∷ [])) 3 why.Slab
    × Refuses (text (G ∷ L ∷ codes "map 1 1" ∷ [])) 3 why.Lender
    × Refuses (text (G ∷ codes "connect 0" ∷ [])) 2 why.Lender
    × Refuses (text (G ∷ L ∷ codes "connect 0" ∷ codes "connect 1" ∷ [])) 4 why.Lender
    × Refuses (text (G ∷ L ∷ L ∷ codes "cut 1 0 0" ∷ codes "cut 2 0 0" ∷ [])) 5 why.Lender
    × Refuses (text (G ∷ L ∷ codes "crash 1" ∷ [])) 3 why.Lender
    × Refuses (text (G ∷ L ∷ codes "host 1 1 2" ∷ [])) 3 why.Lender
    × Refuses (text (G ∷ L ∷ codes "round 0" ∷ codes "round 00" ∷ [])) 4 why.Form

-- forms of an operator's events, and those of a number that is too wide
abbrev IsForm : List ℕ → Event → Type 0
IsForm bytes e = event_line (words_of bytes) ≡ line_of_plain e

abbrev IsNoForm : List ℕ → Type 0
IsNoForm bytes = event_line (words_of bytes) ≡ None

abbrev pub FormRows : Type 0
FormRows =
    IsForm (codes "tick 18446744073709551615") (event.Tick 18_446_744_073_709_551_615)
    × IsForm (codes "cut 1 2 4294967295") (event.Cut (record { 0 = 1 }) 2 4_294_967_295)
    × IsForm (codes "crash 7") (event.Crash (record { 0 = 7 }))
    × IsForm (codes "host 0 12 4294967296") (event.Host (record { 0 = 0 }) 12 4_294_967_296)
    × IsForm (codes "round 5") (event.Round 5)
    × IsNoForm (codes "tick 18446744073709551616")
    × IsNoForm (codes "cut 1 2 4294967296")
    × IsNoForm (codes "host 0 4294967296 12")
    × IsNoForm (codes "host 0 12")
    × IsNoForm (codes "round 05")

-- a trace with two lenders: two callers' lines among the operator's
abbrev two_callers : List (List ℕ)
two_callers =
    G ∷ L ∷ L ∷ codes "connect 1" ∷ codes "0 out 3 aa" ∷ codes "# 0 in 9" ∷ codes "map 0 1" ∷ codes "1 in 3"
    ∷ codes "cut 1 2 3" ∷ codes "0 in 3" ∷ codes "crash 0" ∷ codes "connect 1" ∷ codes "host 1 7 4294967296"
    ∷ codes "round 9" ∷ []

abbrev calls_of_0 : List Input
calls_of_0 = record { event = page_out; page = replicate 8 170 } ∷ bare_event page_in ∷ []

abbrev operators : List Input
operators =
    map bare_event (event.Connect (record { 0 = 1 }) ∷ event.Map (record { 0 = 0 }) (record { 0 = 1 })
    ∷ event.Cut (record { 0 = 1 }) 2 3 ∷ event.Crash (record { 0 = 0 }) ∷ event.Connect (record { 0 = 1 })
    ∷ event.Host (record { 0 = 1 }) 7 4_294_967_296 ∷ event.Round 9 ∷ [])

abbrev part_is : Part → List Input → Type 0
part_is p inputs = (reading (grammar.Trace None) (text two_callers) >>= λ s. Ok (part_of p s.inputs)) ≡ Ok inputs

abbrev pub TraceRows : Type 0
TraceRows =
    part_is (part.CallsOf (record { 0 = 0 })) calls_of_0
    × part_is (part.CallsOf (record { 0 = 1 })) (bare_event (event.PageIn (record { 0 = 1 }) (record { 0 = 3 })) ∷ [])
    × part_is part.Operator operators

abbrev TraceRefuses : Option ℕ → List ℕ → ℕ → Why → Type 0
TraceRefuses tcp bytes n w = reading (grammar.Trace tcp) bytes ≡ Err (record { line = n; why = w })

abbrev pub TraceFaultRows : Type 0
TraceFaultRows =
    TraceRefuses None (text (G ∷ L ∷ L ∷ L ∷ L ∷ L ∷ L ∷ L ∷ L ∷ L ∷ [])) 10 why.Lenders
    × TraceRefuses None
    (text (codes "geometry 4096 65536 1 4 2 4 20" ∷ codes "lender 1 1 1" ∷ codes "lender 1 1 1"
    ∷ codes "lender 1 1 1" ∷ [])) 4 why.Lent
    × TraceRefuses None (text (G ∷ L ∷ codes "out 0 3 aa" ∷ [])) 3 why.Form
    × TraceRefuses None (text (G ∷ L ∷ codes "start" ∷ [])) 3 why.Form
    × TraceRefuses None (text (G ∷ L ∷ codes "0 out 3" ∷ [])) 3 why.Form
    × TraceRefuses None (text (G ∷ L ∷ codes "2 in 8" ∷ [])) 3 why.Caller
    × TraceRefuses None (text (G ∷ L ∷ codes "crash 1" ∷ [])) 3 why.Lender
    × TraceRefuses (Some 2) (text (G ∷ L ∷ codes "5 in 9" ∷ [])) 3 why.Lenders
    × TraceRefuses (Some 2) (text (G ∷ L ∷ codes "0 in" ∷ [])) 3 why.Form
    × TraceRefuses (Some 2) (text (G ∷ L ∷ codes "# end" ∷ [])) 4 why.Lenders
    × TraceRefuses (Some 1) (text (G ∷ L ∷ codes "host 0 1 2" ∷ [])) 3 why.Tcp
    × TraceRefuses (Some 1) (text (G ∷ L ∷ codes "cut 1 0 0" ∷ [])) 3 why.Lender

abbrev one_page_out : History
one_page_out = with_row [] (record { 0 = 0 }) (record { 0 = 3 }) op.PageOut (replicate 8 170)

abbrev pub PrintedRows : Type 0
PrintedRows =
    (header small_sizes ≡ with_line_end G)
    × (line one_page_out (event.PageOut (record { 0 = 0 }) (record { 0 = 3 }), seen.Done (record { 0 = 0 }) None)
    ≡ with_line_end (codes "out 0 3 = entry 0 out 3 aa"))
    × (line [] (event.PageIn (record { 0 = 0 }) (record { 0 = 3 }), seen.Wait via.Disk)
    ≡ with_line_end (codes "in 0 3 = wait disk"))
    × (line [] (event.Disk (which.Write (record { 0 = 3 })) false, seen.WriteKept (record { 0 = 12 }))
    ≡ with_line_end (codes "disk write 3 bad = kept 12"))
    × (line [] (event.Start, seen.Nothing) ≡ with_line_end (codes "start = -"))
    × (end_line 2 ≡ with_line_end (codes "end 2"))
    × (refusal (record { line = 3; why = why.Page }) ≡ with_line_end (codes "line 3: page"))

-- what was seen of the page-in that a lender answers: lease 0 and place 3
abbrev seen_of_a_lender : List (Event × Seen)
seen_of_a_lender =
    (connect, seen.Linked (record { 0 = 0 }))
    ∷ (map_slab, seen.Borrowing)
    ∷ (give, seen.Gave (msg.Hello 1 8 4) None 0)
    ∷ (give, seen.Gave (msg.Borrow (record { 0 = 0 })) (Some (msg.Lent (record { 0 = 0 }) (record { 0 = 0 }))) 0)
    ∷ (take, seen.Took (msg.Lent (record { 0 = 0 }) (record { 0 = 0 })))
    ∷ (page_out, seen.Done (record { 0 = 0 }) (Some (record { 0 = 0 })))
    ∷ (give, seen.Gave (msg.Write (record { 0 = 0 }) 3) (Some (msg.Wrote (record { 0 = 0 }) 3)) 0)
    ∷ (take, seen.Took (msg.Wrote (record { 0 = 0 }) 3))
    ∷ (event.Start, seen.Started (record { 0 = 3 }) (record { 0 = 0 }))
    ∷ (written_event, seen.Written (record { 0 = 0 }))
    ∷ (page_in, seen.Wait (via.Lender (record { 0 = 0 })))
    ∷ (give, seen.Gave (msg.Read (record { 0 = 0 }) 3) (Some (msg.PageIs (record { 0 = 0 }) 3)) 0)
    ∷ (take, seen.Took (msg.PageIs (record { 0 = 0 }) 3))
    ∷ (finish, seen.Done (record { 0 = 1 }) None)
    ∷ []

abbrev two_entries : History
two_entries =
    with_row one_page_out (record { 0 = 0 }) (record { 0 = 3 })
    (op.PageIn (Some (record { 0 = 0 })) (origin.Lender (record { 0 = 0 }))) (replicate 8 170)

abbrev pub LinkRows : Type 0
LinkRows =
    (lender_header one_spec ≡ with_line_end L)
    × (transcript small_sizes (one_spec ∷ []) seen_of_a_lender two_entries ≡ text page_in_from_a_lender_transcript)
    × (line [] (give, seen.Gave (msg.Rates (record { 0 = 0 }) 0) None 5)
    ≡ with_line_end (codes "give 0 = rates 0 0 evict 0 2"))
    × (line [] (give, seen.GaveEnded (msg.Done (record { 0 = 7 }))) ≡ with_line_end (codes "give 0 = done 7 ended"))
    × (line [] (give, seen.GaveEnd) ≡ with_line_end (codes "give 0 = end"))
    × (line [] (take, seen.Lost) ≡ with_line_end (codes "take 0 = lost"))
    × (line [] (take, seen.Lied) ≡ with_line_end (codes "take 0 = lied"))
