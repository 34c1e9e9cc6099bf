-- Transcripts by hand, and texts that are none.
use Rattle.std.specs.Prelude.{◌≡◌, ℕ, List, [], ◌∷◌, length, replicate, flat_map, None, Some, Ok, Err, codes}
use Rattle.swap_base.specs.Sizes.{Sizes}
use Rattle.swap_base.specs.declared.Origin.TheVariants as origin
use Rattle.swap_record.specs.declared.Op.TheVariants as op
use Rattle.swap_wire.specs.declared.Msg.TheVariants as msg
use Rattle.swap_wire.specs.declared.Event.{Event}
use Rattle.swap_wire.specs.declared.Event.TheVariants as event
use Rattle.swap_wire.specs.declared.Seen.{Seen}
use Rattle.swap_wire.specs.declared.Seen.TheVariants as seen
use Rattle.swap_script.specs.declared.Why.{Why}
use Rattle.swap_script.specs.declared.Why.TheVariants as why
use Rattle.swap_script.specs.Lines.{with_line_end}
use Rattle.swap_transcript.specs.Told.{Saw, Entered}
use Rattle.swap_transcript.specs.Transcripts.{Pair, transcript, judge}

abbrev G : List ℕ
G = codes "geometry 8 4 2 4 2 4 20"

abbrev sizes : Sizes
sizes = record { page_bytes = 8; pages_per_slab = 4; slabs = 2; queue = 4; callers = 2; window = 4; hot = 20 }

abbrev text : List (List ℕ) → List ℕ
text lines = flat_map with_line_end lines

abbrev Gives : List (List ℕ) → List Pair → Type 0
Gives lines pairs = transcript (text (G ∷ lines)) ≡ Ok (record { sizes = sizes; lenders = []; pairs = pairs })

abbrev Refuses : List (List ℕ) → ℕ → Why → Type 0
Refuses lines n w = transcript (text (G ∷ lines)) ≡ Err (record { line = n; why = w })

-- page 3, of bytes aa, goes out as entry 0 and comes in as an entry with this number
abbrev out : Pair
out = record {
  event = event.PageOut (record { 0 = 0 }) (record { 0 = 3 });
  told =
      Entered
      (record
      { no = record { 0 = 0 }; page = record { 0 = 3 }; op = op.PageOut; bytes = replicate 8 170; sent = None });
}

abbrev page_in : ℕ → Pair
page_in n = record {
  event = event.PageIn (record { 0 = 0 }) (record { 0 = 3 });
  told =
      Entered
      (record {
        no = record { 0 = n };
        page = record { 0 = 3 };
        op = op.PageIn (Some (record { 0 = 0 })) origin.Queue;
        bytes = replicate 8 170;
        sent = None;
      });
}

abbrev event_seen : Event → Seen → Pair
event_seen e s = record { event = e; told = Saw s }

abbrev give : Event
give = event.Give (record { 0 = 0 })

abbrev pub ReadRows : Type 0
ReadRows =
    Gives (codes "end 0" ∷ []) []
    × Gives (codes "out 0 3 = entry 0 out 3 aa" ∷ codes "in 0 3 = entry 1 in 3 of 0 queue aa" ∷ codes "end 2" ∷ [])
    (out ∷ page_in 1 ∷ [])
    × Gives (codes "start = -" ∷ codes "start = write 3 0" ∷ codes "end 0" ∷ [])
    (event_seen event.Start seen.Nothing ∷ event_seen event.Start (seen.Started (record { 0 = 3 }) (record { 0 = 0 })) ∷
    [])
    × Gives (codes "give 0 = hello 1 > done 7 evict 0 2" ∷ codes "end 0" ∷ [])
    (event_seen give (seen.Gave (msg.Hello 1 8 4) (Some (msg.Done (record { 0 = 7 }))) 5) ∷ [])

-- the printed number is 5 and the place is 1, so entry 1 is noted
abbrev pub NotedRows : Type 0
NotedRows =
    Gives (codes "out 0 3 = entry 0 out 3 aa" ∷ codes "in 0 3 = entry 5 in 3 of 0 queue aa" ∷ codes "end 2" ∷ [])
    (out ∷ page_in 5 ∷ [])
    × ((judge (record { sizes = sizes; lenders = []; pairs = out ∷ page_in 5 ∷ [] })).noted ≡ Some 1)
    × ((judge (record { sizes = sizes; lenders = []; pairs = out ∷ page_in 1 ∷ [] })).noted ≡ None)
    × (length (judge (record { sizes = sizes; lenders = []; pairs = out ∷ page_in 5 ∷ [] })).history ≡ 2)

abbrev pub RefusedRows : Type 0
RefusedRows =
    (transcript [] ≡ Err (record { line = 1; why = why.Geometry }))
    × Refuses [] 2 why.End
    × Refuses (codes "end 1" ∷ []) 2 why.End
    × Refuses (codes "end" ∷ []) 2 why.Form
    × Refuses (codes "end 0" ∷ codes "end 0" ∷ []) 3 why.Form
    × Refuses (codes "out 0 3 = entry 0 out 3 aaaa" ∷ codes "end 1" ∷ []) 2 why.Form
    × Refuses (codes "out 0 3 = entry 0 out 4 aa" ∷ codes "end 1" ∷ []) 2 why.Form
    × Refuses (codes "out 0 3 = idle" ∷ codes "end 0" ∷ []) 2 why.Form
    × Refuses (codes "give 0 = done 7 evict 2 0" ∷ codes "end 0" ∷ []) 2 why.Form
    × Refuses (codes "finish 2 = idle" ∷ codes "end 0" ∷ []) 2 why.Caller
    × Refuses (codes "start = write 8 0" ∷ codes "end 0" ∷ []) 2 why.Page
