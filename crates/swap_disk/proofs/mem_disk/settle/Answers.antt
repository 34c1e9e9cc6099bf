use Rattle.std.proofs.Common.{◌≡◌, ℕ, List, find, Some, sym, ap, ◌∙◌, refl}
use Rattle.swap_disk.specs.Disk.{Write, is_flight_of}
use Rattle.swap_disk.proofs.DriveMoves.{settles_read, spoils}
use Rattle.swap_disk.proofs.mem_disk.settle.Goals as goal

pub returns-else-ok : goal.returns-else-ok
returns-else-ok c =
    let found : find (is_flight_of c.args.which) c.args.flights.now.flights ≡ Some (Write c.in-Write.page c.bytes-bytes.result.now) =
    ap (λ w. find (is_flight_of w) c.args.flights.now.flights) c.in-Write.is ∙ c.bytes-bytes.ensures.bytes in
    c.fill.ensures
    ∙ spoils c.args.blocks.now (find (is_flight_of c.args.which) c.args.flights.now.flights) c.in-Write.page c.bytes-bytes.result.now c.args.ok found
    (c.bytes-bytes.ensures.len ∙ sym c.requires.page_bytes) c.if-ok.false

pub returns-in_default : goal.returns-in_default
returns-in_default c =
    ap (λ (bs : List (List ℕ)). record { blocks = bs; page_bytes = c.args.blocks.now.page_bytes })
    (settles_read c.args.blocks.now.blocks c.args.which c.args.flights.now.flights
    (find (is_flight_of c.args.which) c.args.flights.now.flights) c.in_default.field-0 c.args.ok refl c.in_default.is)
