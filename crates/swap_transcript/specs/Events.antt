-- An event at the front of a line, by its words: those of a page-out end before its page.
use Rattle.std.specs.Prelude.{Bool, List, [], ◌∷◌, Option, None, Some, codes}
use Rattle.swap_base.specs.declared.DiskWhich.{DiskWhich}
use Rattle.swap_base.specs.declared.DiskWhich.TheVariants as which
use Rattle.swap_script.specs.Forms.{◌>>=◌, ok_word}
use Rattle.swap_wire.specs.declared.Event.{Event}
use Rattle.swap_wire.specs.declared.Event.TheVariants as event
use Rattle.swap_transcript.specs.Readers.{Words, small_at, wide_at, one_of, one_wide, two_of, three_of, Row, row, by_rows}

-- how a disk's operation ended
abbrev pub ok_at : Words → Option (Bool × Words)
ok_at [] = None
ok_at (word ∷ words) = ok_word word >>= λ ok. Some (ok, words)

-- an operation of the disk, and how it ended
abbrev pub which_rows : List (Row (DiskWhich × Words))
which_rows =
    row (codes "write") (one_of (λ p. which.Write (record { 0 = p })))
    ∷ row (codes "read") (one_of (λ c. which.Read (record { 0 = c })))
    ∷ []

abbrev pub disk_at : Words → Option (Event × Words)
disk_at words = by_rows which_rows words >>= λ w. (ok_at w.1 >>= λ ok. Some (event.Disk w.0 ok.0, ok.1))

abbrev pub host_at : Words → Option (Event × Words)
host_at words =
    small_at words
    >>= λ l. (small_at l.1 >>= λ u. (wide_at u.1 >>= λ w. Some (event.Host (record { 0 = l.0 }) u.0 w.0, w.1)))

abbrev pub start_at : Words → Option (Event × Words)
start_at words = Some (event.Start, words)

-- the events between the device and its lenders
abbrev pub far_rows : List (Row (Event × Words))
far_rows =
    row (codes "map") (two_of (λ s l. event.Map (record { 0 = s }) (record { 0 = l })))
    ∷ row (codes "connect") (one_of (λ l. event.Connect (record { 0 = l })))
    ∷ row (codes "give") (one_of (λ l. event.Give (record { 0 = l })))
    ∷ row (codes "take") (one_of (λ l. event.Take (record { 0 = l })))
    ∷ row (codes "cut") (three_of (λ l a b. event.Cut (record { 0 = l }) a b))
    ∷ row (codes "crash") (one_of (λ l. event.Crash (record { 0 = l })))
    ∷ row (codes "host") host_at
    ∷ row (codes "round") (one_wide event.Round)
    ∷ []

abbrev pub event_rows : List (Row (Event × Words))
event_rows =
    row (codes "out") (two_of (λ c p. event.PageOut (record { 0 = c }) (record { 0 = p })))
    ∷ row (codes "in") (two_of (λ c p. event.PageIn (record { 0 = c }) (record { 0 = p })))
    ∷ row (codes "finish") (one_of (λ c. event.Finish (record { 0 = c })))
    ∷ row (codes "start") start_at
    ∷ row (codes "disk") disk_at
    ∷ row (codes "tick") (one_wide event.Tick)
    ∷ far_rows

abbrev pub event_at : Words → Option (Event × Words)
event_at words = by_rows event_rows words
