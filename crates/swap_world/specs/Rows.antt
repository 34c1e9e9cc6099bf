-- Rows of events by hand.
use Rattle.std.specs.Prelude.{◌≡◌, ℕ, Bool, true, false, List, [], ◌∷◌, ◌++◌, map, take, replicate, None, Some}
use Rattle.swap_base.specs.declared.Page.{Page}
use Rattle.swap_base.specs.declared.Caller.{Caller}
use Rattle.swap_base.specs.declared.EntryNo.{EntryNo}
use Rattle.swap_base.specs.declared.Lender.{Lender}
use Rattle.swap_base.specs.declared.Slab.{Slab}
use Rattle.swap_base.specs.declared.Lease.{Lease}
use Rattle.swap_base.specs.declared.geometry.LenderSpec.{LenderSpec}
use Rattle.swap_wire.specs.declared.Msg.TheVariants as msg
use Rattle.swap_base.specs.declared.Via.TheVariants as via
use Rattle.swap_base.specs.declared.DiskWhich.TheVariants as which
use Rattle.swap_base.specs.Sizes.{Sizes}
use Rattle.swap_wire.specs.declared.Event.{Event}
use Rattle.swap_wire.specs.declared.Event.TheVariants as event
use Rattle.swap_wire.specs.declared.Seen.{Seen}
use Rattle.swap_wire.specs.declared.Seen.TheVariants as seen
use Rattle.swap_wire.specs.Input.{Input}
use Rattle.swap_record.specs.History.{is_out_of}
use Rattle.swap_world.specs.World.{start, reach, history, seens, made_by}
use Rattle.swap_world.specs.Failures.{since_start, read_ends, entries_in}

abbrev sizes : ℕ → Sizes
sizes queue = record { page_bytes = 8; pages_per_slab = 4; slabs = 2; queue = queue; callers = 2; window = 4; hot = 20 }

abbrev page : ℕ → Page
page n = record { 0 = n }

abbrev caller : ℕ → Caller
caller n = record { 0 = n }

abbrev entry : ℕ → EntryNo
entry n = record { 0 = n }

abbrev out : ℕ → ℕ → ℕ → Input
out c p byte = record { event = event.PageOut (caller c) (page p); page = replicate 8 byte }

abbrev input_by : Event → Input
input_by e = record { event = e; page = [] }

abbrev disk_write : ℕ → Bool → Input
disk_write p ok = input_by (event.Disk (which.Write (page p)) ok)

abbrev disk_read : ℕ → Bool → Input
disk_read c ok = input_by (event.Disk (which.Read (caller c)) ok)

abbrev seen_of : List (Event × Seen) → List Seen
seen_of [] = []
seen_of (pair ∷ pairs) = pair.1 ∷ seen_of pairs

abbrev pub PageOutWithoutRoomFailsWhereAWriteFailed : Type 0
PageOutWithoutRoomFailsWhereAWriteFailed =
    seen_of
    (seens (start (sizes 1) [])
    (out 0 1 170 ∷ input_by event.Start ∷ out 1 2 187 ∷ disk_write 1 false ∷ input_by (event.Finish (caller 1))
    ∷ input_by (event.PageIn (caller 0) (page 1)) ∷ []))
    ≡ seen.Done (entry 0) None ∷ seen.Started (page 1) (entry 0) ∷ seen.Room ∷ seen.WriteKept (entry 0)
    ∷ seen.Fault (entry 1) ∷ seen.Done (entry 2) None ∷ []

abbrev pub ReadOvertakenByAPageOutAlreadyOnTheDisk : Type 0
ReadOvertakenByAPageOutAlreadyOnTheDisk =
    seen_of (
    seens (start (sizes 4) []) (
    out 0 3 170 ∷ input_by event.Start ∷ disk_write 3 true ∷ input_by (event.PageIn (caller 0) (page 3)) ∷ out 1 3 187
    ∷ input_by event.Start ∷ disk_read 0 true ∷ disk_write 3 true ∷ input_by (event.Finish (caller 0)) ∷ disk_read 0
    true
    ∷ input_by (event.Finish (caller 0))
    ∷ []
    )
    )
    ≡ seen.Done (entry 0) None ∷ seen.Started (page 3) (entry 0) ∷ seen.Written (entry 0) ∷ seen.Wait via.Disk
    ∷ seen.Done (entry 1) None ∷ seen.Started (page 3) (entry 1) ∷ seen.ReadCame (page 3) ∷ seen.Written (entry 1)
    ∷ seen.Again via.Disk
    ∷ seen.ReadCame (page 3)
    ∷ seen.Done (entry 2) None
    ∷ []

-- the ends of a caller's own reads since its last start, and of each entry since whether it is a page-out of this page
abbrev own_ends : ℕ → List Input → List (Event × Seen)
own_ends c is = read_ends (caller c) (since_start (caller c) (made_by [] (start (sizes 4) []) is))

abbrev outs_since : ℕ → ℕ → List Input → List Bool
outs_since c p is =
    map (is_out_of (page p))
    (take (entries_in (since_start (caller c) (made_by [] (start (sizes 4) []) is)))
    (history (reach (start (sizes 4) []) is)))

abbrev seen_in_the_end : List Input → List Input → List Seen
seen_in_the_end is more = seen_of (seens (reach (start (sizes 4) []) is) more)

abbrev failed_read : List Input
failed_read =
    out 0 3 170 ∷ input_by event.Start ∷ disk_write 3 true ∷ input_by (event.PageIn (caller 0) (page 3)) ∷ disk_read 0
    false ∷ []

abbrev pub FailedDiskReadFailsThePageIn : Type 0
FailedDiskReadFailsThePageIn =
    (own_ends 0 failed_read ≡ (event.Disk (which.Read (caller 0)) false, seen.ReadFailed (page 3)) ∷ [])
    × (outs_since 0 3 failed_read ≡ [])
    × (seen_in_the_end failed_read (input_by (event.Finish (caller 0)) ∷ []) ≡ seen.Fault (entry 1) ∷ [])

abbrev pub FailedDiskReadWithANewerPageOut : Type 0
FailedDiskReadWithANewerPageOut =
    (outs_since 0 3 (failed_read ++ out 1 3 187 ∷ []) ≡ true ∷ [])
    × (seen_in_the_end (failed_read ++ out 1 3 187 ∷ []) (input_by (event.Finish (caller 0)) ∷ [])
    ≡ seen.Done (entry 2) None
    ∷ [])

abbrev two_reads : List Input
two_reads =
    out 0 3 170 ∷ input_by event.Start ∷ disk_write 3 true ∷ input_by (event.PageIn (caller 0) (page 3))
    ∷ input_by (event.PageIn (caller 1) (page 3)) ∷ disk_read 1 false ∷ disk_read 0 true ∷ []

abbrev pub AnotherCallersReadFails : Type 0
AnotherCallersReadFails =
    (own_ends 0 two_reads ≡ (event.Disk (which.Read (caller 0)) true, seen.ReadCame (page 3)) ∷ [])
    × (own_ends 1 two_reads ≡ (event.Disk (which.Read (caller 1)) false, seen.ReadFailed (page 3)) ∷ [])
    × (seen_in_the_end two_reads (input_by (event.Finish (caller 0)) ∷ input_by (event.Finish (caller 1)) ∷ [])
    ≡ seen.Done (entry 1) None
    ∷ seen.Fault (entry 2) ∷ [])

-- one lender, lent to by its messages
abbrev lender_spec : LenderSpec
lender_spec = record { slots = 4; headroom = 1; extra = 1 }

abbrev lender : Lender
lender = record { 0 = 0 }

abbrev slab : Slab
slab = record { 0 = 0 }

abbrev lease : Lease
lease = record { 0 = 0 }

abbrev gives : Event
gives = event.Give lender

abbrev takes : Event
takes = event.Take lender

abbrev link : ℕ → Seen
link n = seen.Linked (record { 0 = n })

abbrev hello_given : Seen
hello_given = seen.Gave (msg.Hello 1 8 4) None 0

abbrev lent_given : Seen
lent_given = seen.Gave (msg.Borrow slab) (Some (msg.Lent slab lease)) 0

-- a page goes out to a lender and comes back from it
abbrev mapping_events : List Input
mapping_events =
    input_by (event.Connect lender) ∷ input_by (event.Map slab lender) ∷ input_by gives ∷ input_by gives ∷ input_by
    takes ∷ []

abbrev mapping_seen : List Seen
mapping_seen =
    link 0 ∷ seen.Borrowing ∷ hello_given ∷ lent_given ∷ seen.Took (msg.Lent slab lease) ∷ []

abbrev pub PageInFromALender : Type 0
PageInFromALender =
    seen_of (
    seens (start (sizes 4) (lender_spec ∷ [])) (
    mapping_events
    ++ (out 0 3 170 ∷ input_by gives ∷ input_by takes ∷ input_by event.Start ∷ disk_write 3 true ∷ input_by
    (event.PageIn (caller 0) (page 3))
    ∷ input_by gives ∷ input_by takes ∷ input_by (event.Finish (caller 0)) ∷ [])
    )
    )
    ≡ mapping_seen
    ++ (seen.Done (entry 0) (Some lender) ∷ seen.Gave (msg.Write lease 3) (Some (msg.Wrote lease 3)) 0
    ∷ seen.Took (msg.Wrote lease 3) ∷ seen.Started (page 3) (entry 0) ∷ seen.Written (entry 0)
    ∷ seen.Wait (via.Lender lender)
    ∷ seen.Gave (msg.Read lease 3) (Some (msg.PageIs lease 3)) 0
    ∷ seen.Took (msg.PageIs lease 3)
    ∷ seen.Done (entry 1) None
    ∷ [])

-- two lenders: of the second's link all but the greeting is cut away, and both links are made anew; the first, whose
-- host uses 3 slots on average, asks for the rate of the slot that it lent, and then starts anew
abbrev second_lender : Lender
second_lender = record { 0 = 1 }

abbrev cut_away : List Input
cut_away =
    map input_by (
    event.Cut second_lender 1 0 ∷ event.Crash second_lender ∷ event.Connect lender ∷ event.Connect second_lender ∷
    event.Map slab second_lender
    ∷ event.Cut second_lender 1 0 ∷ event.Cut second_lender 1 0 ∷ event.Give second_lender ∷ event.Give second_lender ∷
    event.Take second_lender ∷ []
    )

abbrev made_anew : List Input
made_anew =
    map input_by (
    event.Connect lender ∷ event.Map slab lender ∷ gives ∷ gives ∷ event.Host lender 15 0 ∷ event.Crash lender
    ∷ event.Connect lender ∷ event.Map slab lender ∷ []
    )

abbrev pub LinksAreCutAndMadeAnew : Type 0
LinksAreCutAndMadeAnew =
    seen_of (seens (start (sizes 4) (lender_spec ∷ lender_spec ∷ [])) (cut_away ++ made_anew))
    ≡ seen.Nothing ∷ seen.Crashed ∷ link 0 ∷ link 1 ∷ seen.Borrowing
    ∷ seen.Cut ∷ seen.Nothing ∷ hello_given ∷ seen.GaveEnd ∷ seen.Lost
    ∷ link 2 ∷ seen.Borrowing ∷ hello_given ∷ lent_given ∷ seen.Hosted 3 1 ∷ seen.Crashed
    ∷ link 3 ∷ seen.Borrowing ∷ []

-- the reply of a read that is cut away, and the read at the disk instead
abbrev out_and_written : List Input
out_and_written =
    mapping_events ++ (out 0 3 170 ∷ input_by gives ∷ input_by takes ∷ input_by event.Start ∷ disk_write 3 true ∷ [])

abbrev seen_after_written : List Input → List Seen
seen_after_written more = seen_of (seens (reach (start (sizes 4) (lender_spec ∷ [])) out_and_written) more)

abbrev pub LossOfTheReplySendsTheReadToTheDisk : Type 0
LossOfTheReplySendsTheReadToTheDisk =
    seen_after_written (
    input_by (event.PageIn (caller 0) (page 3)) ∷ input_by gives ∷ input_by (event.Cut lender 0 0) ∷ input_by takes
    ∷ input_by (event.Finish (caller 0)) ∷ disk_read 0 true ∷ input_by (event.Finish (caller 0)) ∷ []
    )
    ≡ seen.Wait (via.Lender lender) ∷ seen.Gave (msg.Read lease 3) (Some (msg.PageIs lease 3)) 0 ∷ seen.Cut ∷ seen.Lost
    ∷ seen.Again via.Disk ∷ seen.ReadCame (page 3) ∷ seen.Done (entry 1) None ∷ []

-- five page-ins of a page make its slab hot; two lenders are asked, and the one with more room lends
abbrev hot_sizes : Sizes
hot_sizes = record (sizes 4) { hot = 1 }

abbrev roomier : LenderSpec
roomier = record { slots = 6; headroom = 1; extra = 1 }

abbrev reads_zero : Input
reads_zero = input_by (event.PageIn (caller 0) (page 0))

abbrev asks_two : List Input
asks_two =
    map input_by (event.Connect lender ∷ event.Connect second_lender ∷ []) ++ replicate 5 reads_zero
    ++ input_by (event.Tick 0) ∷ []

abbrev second_gives : Event
second_gives = event.Give second_lender

abbrev second_takes : Event
second_takes = event.Take second_lender

abbrev queried_event : ℕ → Seen
queried_event free = seen.Gave (msg.Query slab) (Some (msg.Room slab free)) 0

abbrev pub TwoLendersAreAskedAndTheFreerLends : Type 0
TwoLendersAreAskedAndTheFreerLends =
    seen_of (
    seens (reach (start hot_sizes (lender_spec ∷ roomier ∷ [])) (asks_two)) (
    map input_by (gives ∷ gives ∷ second_gives ∷ second_gives ∷ takes ∷ second_takes ∷ second_gives ∷ second_takes ∷ [])
    ++ out 0 0 170 ∷ []
    )
    )
    ≡ hello_given ∷ queried_event 3 ∷ hello_given ∷ queried_event 5 ∷ seen.Took (msg.Room slab 3) ∷ seen.Took
    (msg.Room slab 5)
    ∷ lent_given ∷ seen.Took (msg.Lent slab lease) ∷ seen.Done (entry 5) (Some second_lender) ∷ []

abbrev pub TwoLendersAreAsked : Type 0
TwoLendersAreAsked =
    seen_of
    (seens
    (reach (start hot_sizes (lender_spec ∷ roomier ∷ []))
    (map input_by (event.Connect lender ∷ event.Connect second_lender ∷ []) ++ replicate 5 reads_zero))
    (input_by (event.Tick 0) ∷ input_by (event.Tick 0) ∷ []))
    ≡ seen.Asked slab lender (Some second_lender) ∷ seen.Ticked ∷ []

-- a lender takes its slot back while a write and a read of it are under way: both are answered before it's given back
abbrev small_lender : LenderSpec
small_lender = record { slots = 3; headroom = 1; extra = 0 }

abbrev written_at_lender : List Input
written_at_lender =
    mapping_events ++ (out 0 3 170 ∷ input_by gives ∷ input_by takes ∷ input_by event.Start ∷ disk_write 3 true ∷ [])

abbrev taken_back : List Input
taken_back =
    map input_by (event.Host lender 10 0 ∷ takes ∷ gives ∷ event.PageIn (caller 0) (page 3) ∷ [])
    ++ (out 1 2 187
    ∷ map input_by
    (takes ∷ gives ∷ gives ∷ gives ∷ takes ∷ gives ∷ takes ∷ gives ∷ event.Finish (caller 0)
    ∷ event.PageIn (caller 0) (page 3) ∷ []))

abbrev pub RevocationWithReadAndWriteInFlight : Type 0
RevocationWithReadAndWriteInFlight =
    seen_of (seens (reach (start (sizes 4) (small_lender ∷ [])) written_at_lender) taken_back)
    ≡ seen.Hosted 2 1 ∷ seen.Took (msg.AskRates lease) ∷ seen.Gave (msg.Rates lease 0) None 1
    ∷ seen.Wait (via.Lender lender)
    ∷ seen.Done (entry 1) (Some lender) ∷ seen.Took (msg.Evict lease)
    ∷ seen.Gave (msg.Read lease 3) (Some (msg.PageIs lease 3)) 0
    ∷ seen.Gave (msg.Write lease 2) (Some (msg.Wrote lease 2)) 0 ∷ seen.Nothing ∷ seen.Took (msg.PageIs lease 3)
    ∷ seen.Nothing
    ∷ seen.Took (msg.Wrote lease 2) ∷ seen.Gave (msg.Done lease) None 0 ∷ seen.Done (entry 2) None ∷ seen.Wait via.Disk
    ∷ []
