-- The drill: calls that a number draws, against three lenders, with ticks, evictions and crashes. Each event goes by
-- the
-- draws and the world so far, and all of them are made one after the other from the start.
use Rattle.std.specs.Prelude.{ℕ, zero, suc, true, Bool, not, ◌+◌, ◌/◌, ◌%◌, ◌==◌, nat_le, if◌then◌else◌, List, [], ◌∷◌, ◌++◌, replicate, Option, None, Some}
use Rattle.swap_base.specs.declared.Caller.{Caller}
use Rattle.swap_base.specs.declared.Page.{Page}
use Rattle.swap_base.specs.declared.Lender.{Lender}
use Rattle.swap_base.specs.declared.CallKind.{CallKind}
use Rattle.swap_base.specs.declared.CallKind.TheVariants as kind
use Rattle.swap_base.specs.declared.DiskWhich.TheVariants as which
use Rattle.swap_base.specs.declared.geometry.LenderSpec.{LenderSpec}
use Rattle.swap_base.specs.Sizes.{Sizes}
use Rattle.swap_wire.specs.Input.{Input}
use Rattle.swap_wire.specs.declared.Event.{Event}
use Rattle.swap_wire.specs.declared.Event.TheVariants as event
use Rattle.swap_wire.specs.declared.Seen.{Seen}
use Rattle.swap_calls.specs.Calls.{is_idle, state_of}
use Rattle.swap_disk.specs.Disk.{Flight}
use Rattle.swap_disk.specs.Port.{writes_in, oldest_write_in}
use Rattle.swap_world.specs.World.{World, start, next, reach}
use Rattle.swap_trace.specs.declared.draws.Draw.{Draw}
use Rattle.swap_trace.specs.Draws.{draws, generator_of}

-- 64 slabs of 16 pages of 64 bytes, a queue of 32 copies, 4 callers, 8 requests on a link, and hot from 20 on
abbrev pub drill_sizes : Sizes
drill_sizes =
    record {
      page_bytes = 64;
      pages_per_slab = 16;
      slabs = 64;
      queue = 32;
      callers = 4;
      window = 8;
      hot = 20;
    }

abbrev pub drill_lender : LenderSpec
drill_lender = record { slots = 8; headroom = 2; extra = 1 }

abbrev pub drill_lenders : List LenderSpec
drill_lenders = drill_lender ∷ drill_lender ∷ drill_lender ∷ []

-- the world before its first event
unfoldable pub drill_start : World
drill_start = start drill_sizes drill_lenders

-- the world after these events
unfoldable pub after : World → List Input → World
after w inputs = reach w inputs

-- an event that hands in no page
abbrev pub plain_input : Event → Input
plain_input e = record { event = e; page = [] }

abbrev pub lender : ℕ → Lender
lender n = record { 0 = n }

-- the links to the three lenders are made
abbrev pub connects : List Input
connects =
    plain_input (event.Connect (lender 0)) ∷ plain_input (event.Connect (lender 1)) ∷ plain_input
    (event.Connect (lender 2)) ∷ []

-- a lender takes a message, and one is taken of its link
abbrev pub give_and_take : ℕ → List Input
give_and_take n = plain_input (event.Give (lender n)) ∷ plain_input (event.Take (lender n)) ∷ []

abbrev pub all_heard : List Input
all_heard = give_and_take 0 ++ (give_and_take 1 ++ give_and_take 2)

-- a caller that waits: its read comes from the disk, the lenders are heard, and its call goes on
abbrev pub turn : Caller → List Input
turn c = plain_input (event.Disk (which.Read c) true) ∷ (all_heard ++ (plain_input (event.Finish c) ∷ []))

-- a caller that isn't idle waits
abbrev pub waits : World → Caller → Bool
waits w c = not (is_idle (state_of w.device.calls c))

-- so many turns at most, while the caller waits
unfoldable pub turns : ℕ → Caller → World → List Input
turns zero c w = []
turns (suc n) c w = if waits w c then turn c ++ turns n c (after w (turn c)) else []

-- the drawn call; a page-out hands in a page of one byte
abbrev pub call_event : CallKind → Caller → Page → Event
call_event kind.PageOut c p = event.PageOut c p
call_event kind.PageIn c p = event.PageIn c p

abbrev pub call_page : CallKind → ℕ → List ℕ
call_page kind.PageOut byte = replicate 64 byte
call_page kind.PageIn byte = []

abbrev pub call : Draw → Input
call draw = record { event = call_event draw.kind draw.caller draw.page; page = call_page draw.kind draw.byte }

-- where more than three writes are in flight, the one that was started first comes to its end
abbrev pub write_ends : Option Page → List Input
write_ends None = []
write_ends (Some p) = plain_input (event.Disk (which.Write p) true) ∷ []

abbrev pub oldest_write_ends : List Flight → List Input
oldest_write_ends flights = if nat_le 4 (writes_in flights) then write_ends (oldest_write_in flights) else []

-- every 128th step makes a Round, every 500th a host that needs its memory, every 10,000th a crash and a new link
abbrev pub is_round_step : ℕ → Bool
is_round_step i = i % 128 == 127

abbrev pub rounds_at : ℕ → ℕ → List Input
rounds_at i word = if is_round_step i then plain_input (event.Round word) ∷ [] else []

abbrev pub hosts_at : ℕ → ℕ → List Input
hosts_at i word = if i % 500 == 499 then plain_input (event.Host (lender (i / 500 % 3)) (word % 12) word) ∷ [] else []

abbrev pub crashes_at : ℕ → List Input
crashes_at i =
    if i % 10_000 == 9_999
    then plain_input (event.Crash (lender (i / 10_000 % 3))) ∷ plain_input (event.Connect (lender (i / 10_000 % 3))) ∷
    [] else []

abbrev pub now_and_then : ℕ → ℕ → List Input
now_and_then i word = rounds_at i word ++ (hosts_at i word ++ crashes_at i)

-- the caller's turns, its call, and a copy that leaves for the disk
unfoldable pub calling : Draw → World → List Input
calling draw w = turns 4 draw.caller w ++ (call draw ∷ plain_input event.Start ∷ [])

-- what is seen of the drawn call
abbrev pub seen_of_call : Draw → World → Seen
seen_of_call draw w = (next (after w (turns 4 draw.caller w)) (call draw)).seen

-- what follows a call
unfoldable pub following : ℕ → Draw → World → List Input
following i draw w = oldest_write_ends w.drive.disk.flights ++ (all_heard ++ now_and_then i draw.word)

-- the events of step i, which makes this draw
unfoldable pub step : ℕ → Draw → World → List Input
step i draw w = calling draw w ++ following i draw (after w (calling draw w))

-- the events of these draws, from step i on
unfoldable pub steps : ℕ → List Draw → World → List Input
steps i [] w = []
steps i (draw ∷ later) w = step i draw w ++ steps (i + 1) later (after w (step i draw w))

-- the events of a drill of so many calls
unfoldable pub drill_events : ℕ → ℕ → List Input
drill_events number calls = connects ++ steps 0 (draws calls (generator_of number)) (after drill_start connects)

abbrev pub drill_world : ℕ → ℕ → World
drill_world number calls = after drill_start (drill_events number calls)
