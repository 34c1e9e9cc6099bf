-- Calls of these ports by hand, and what they answer.
use Rattle.std.specs.Prelude.{◌≡◌, ℕ, Bool, true, false, List, [], ◌∷◌, replicate, Option, None, Some}
use Rattle.swap_base.specs.Sizes.{Sizes}
use Rattle.swap_base.specs.declared.Page.{Page}
use Rattle.swap_base.specs.declared.Caller.{Caller}
use Rattle.swap_base.specs.declared.DiskWhich.TheVariants as which
use Rattle.swap_wire.specs.declared.Msg.TheVariants as msg
use Rattle.swap_wire.specs.Fabric.{Parcel, parcel_of, Brought, LinkLost}
use Rattle.swap_disk.specs.Disk.{Taken}
use Rattle.swap_disk.specs.Port.{StartWrite, StartRead, TakeDone, LetFinish}
use Rattle.swap_hostile.specs.Silent.{Silent, new_silent, ask}
use Rattle.swap_hostile.specs.Swapping.{swap_taken}
use Rattle.swap_hostile.specs.Lying.{Lying, new_lying, lie_told}

abbrev sizes : Sizes
sizes = record { page_bytes = 8; pages_per_slab = 4; slabs = 2; queue = 4; callers = 2; window = 4; hot = 20 }

abbrev page : Page
page = record { 0 = 3 }

abbrev caller : Caller
caller = record { 0 = 1 }

-- a page of aa goes to the disk, and is asked for
abbrev both_started : List ℕ → Silent
both_started failing =
    (ask (ask (new_silent sizes failing) (StartWrite page (replicate 8 170))).1 (StartRead caller page)).1

-- what the first take gives, and the second
abbrev first_taken : List ℕ → Option Taken
first_taken failing = (ask (both_started failing) TakeDone).0

abbrev second_taken : List ℕ → Option Taken
second_taken failing = (ask (ask (both_started failing) TakeDone).1 TakeDone).0

abbrev write_taken : Bool → Option Taken
write_taken ok = Some (record { done = record { which = which.Write page; page = page; ok = ok }; bytes = [] })

abbrev read : List ℕ → Option Taken
read bytes = Some (record { done = record { which = which.Read caller; page = page; ok = true }; bytes = bytes })

-- the oldest ends first, and the read gives what was written
abbrev pub OldestEndsFirst : Type 0
OldestEndsFirst = (first_taken [] ≡ write_taken true) × (second_taken [] ≡ read (replicate 8 170))

-- the operation that is listed fails, and the read behind a failed write gives what that left
abbrev pub ListedFails : Type 0
ListedFails = (first_taken (0 ∷ []) ≡ write_taken false) × (second_taken (0 ∷ []) ≡ read (replicate 8 255))

-- nobody lets an operation end, and where none is in flight none is taken
abbrev pub NobodyLetsEnd : Type 0
NobodyLetsEnd =
    ((ask (both_started []) (LetFinish (which.Write page) true)).0 ≡ false)
    × ((ask (new_silent sizes []) TakeDone).0 ≡ None)

-- a read of aa gives 55
abbrev pub AnotherPageIsGiven : Type 0
AnotherPageIsGiven = swap_taken (second_taken []) ≡ read (replicate 8 85)

-- a fabric that says a page is there, in place of the second message
abbrev lying : ℕ → Lying
lying came =
    record (new_lying (record { sizes = sizes; channels = [] }) (msg.PageIs (record { 0 = 0 }) 3) 1) { came = came }

abbrev evict : Parcel
evict = parcel_of (msg.Evict (record { 0 = 0 })) []

-- it lies in place of that one alone, and only where a message came
abbrev pub LiesOnce : Type 0
LiesOnce =
    (lie_told (lying 0) (Brought evict) ≡ Brought evict)
    × (lie_told (lying 1) (Brought evict) ≡ Brought (parcel_of (msg.PageIs (record { 0 = 0 }) 3) (replicate 8 255)))
    × (lie_told (lying 2) (Brought evict) ≡ Brought evict) × (lie_told (lying 1) LinkLost ≡ LinkLost)
