use Rattle.std.proofs.Common.{◌≡◌, sym, subst}
use Rattle.std.specs.Prelude.{All}
use Rattle.swap_world.specs.Runs.{WorldView}
use Rattle.swap_turn.specs.PassView.{PassView}
use Rattle.swap_turn.specs.Turns.{entries_of}
use Rattle.swap_player.proofs.swap.Swap.close.Goals as goal

pub returns-in-Ok-clause-mine : goal.returns-in-Ok-clause-mine
returns-in-Ok-clause-mine g c =
    let P : WorldView g.row.D.Denot g.row.F.Denot → Type 0 =
    λ w. All (λ (p : PassView). p.mine ≡ entries_of p.number w.core.device.history) c.args.passes.items in
    subst P (sym c.into_world.ensures.world) c.in-Ok.ensures.mine
