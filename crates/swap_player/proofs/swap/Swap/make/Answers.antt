use Rattle.std.proofs.Common.{◌<◌, sym, subst}
use Rattle.std.specs.Prelude.{All}
use Rattle.swap_record.specs.History.{Row}
use Rattle.swap_table.specs.Device.{Device}
use Rattle.swap_player.proofs.swap.Swap.make.Goals as goal

pub make-requires-2-clause-callers : goal.make-requires-2-clause-callers
make-requires-2-clause-callers g c =
    let P : Device → Type 0 = λ d. All (λ (row : Row). row.entry.caller.0 < c.args.seats) d.history in
    subst P (sym c.in_ok-board.ensures.history) c.requires.callers
