-- Lines by hand of ticks, cuts, crashes, hosts and rounds.
use Rattle.std.specs.Prelude.{◌≡◌, [], None, Some, codes}
use Rattle.swap_base.specs.declared.Slab.{Slab}
use Rattle.swap_base.specs.declared.Lender.{Lender}
use Rattle.swap_wire.specs.declared.Event.{Event}
use Rattle.swap_wire.specs.declared.Event.TheVariants as event
use Rattle.swap_wire.specs.declared.Seen.TheVariants as seen
use Rattle.swap_script.specs.Lines.{with_line_end}
use Rattle.swap_script.specs.Transcript.{line}

abbrev slab : Slab
slab = record { 0 = 1 }

abbrev lender : Lender
lender = record { 0 = 2 }

-- the lender uses 9 slots at word 7
abbrev host : Event
host = event.Host lender 9 7

abbrev pub ResultRows : Type 0
ResultRows =
    (line [] (event.Tick 5, seen.Ticked) ≡ with_line_end (codes "tick 5 = none"))
    × (line [] (event.Tick 5, seen.Asked slab lender (Some (record { 0 = 0 })))
    ≡ with_line_end (codes "tick 5 = ask 1 2 0"))
    × (line [] (event.Tick 5, seen.Asked slab lender None) ≡ with_line_end (codes "tick 5 = ask 1 2"))
    × (line [] (event.Cut lender 1 0, seen.Cut) ≡ with_line_end (codes "cut 2 1 0 = cut"))
    × (line [] (event.Crash lender, seen.Crashed) ≡ with_line_end (codes "crash 2 = crashed"))
    × (line [] (host, seen.Hosted 3 5) ≡ with_line_end (codes "host 2 9 7 = 3 ask 0 2"))
    × (line [] (host, seen.Hosted 3 0) ≡ with_line_end (codes "host 2 9 7 = 3"))
    × (line [] (event.Round 6, seen.Rounded 9 1) ≡ with_line_end (codes "round 6 = 9 mapped 1"))
