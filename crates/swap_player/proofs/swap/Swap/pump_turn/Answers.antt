use Rattle.std.proofs.Common.{◌≡◌, ap, ◌∙◌, sym, subst}
use Rattle.swap_record.specs.History.{History}
use Rattle.swap_turn.specs.Turns.{IsEarlier}
use Rattle.swap_turn.specs.PassView.{PassView}
use Rattle.swap_turn.specs.Holding.{holder}
use Rattle.swap_board.specs.Boards.{BoardView}
use Rattle.swap_player.proofs.Turns.{none_extends, none_turned}
use Rattle.swap_player.proofs.Pumping.{pumped_history}
use Rattle.swap_player.proofs.swap.Swap.pump_turn.Goals as goal

pub give-requires-clause-own : goal.give-requires-clause-own
give-requires-clause-own g c =
    let h : PassView = holder c.take-turn.result in
    let seen : h.seen ≡ c.value.result.now.world.core.device.history =
    ap (λ (s : PassView). s.seen) c.take-turn.ensures.turn
    ∙ sym (ap (λ (b : BoardView g.row.D.Denot g.row.F.Denot). b.world.core.device.history) c.value.ensures.value) in
    none_extends h.number h.seen c.pump-moved.new.self.world.core.device.history
    (pumped_history g.D.DiskPort.moves g.F.Fabric.moves g.D.DiskPort.means c.args.point c.pump-moved.result c.value.result.now.world
    c.pump-moved.new.self.world c.pump-moved.ensures.pumps
    ∙ sym seen)

pub returns-clause-looked : goal.returns-clause-looked
returns-clause-looked g c =
    let p : PassView = c.args.pass.now in
    let h : PassView = holder c.take-turn.result in
    let now : History = c.pump-moved.new.self.world.core.device.history in
    let seen : h.seen ≡ c.value.result.now.world.core.device.history =
    ap (λ (s : PassView). s.seen) c.take-turn.ensures.turn
    ∙ sym (ap (λ (b : BoardView g.row.D.Denot g.row.F.Denot). b.world.core.device.history) c.value.ensures.value) in
    let earlier : IsEarlier p.seen h.seen = subst (IsEarlier p.seen) (sym (ap (λ (s : PassView). s.seen) c.take-turn.ensures.turn)) c.take-turn.ensures.seen in
    none_turned p h c.give.new.pass now earlier (ap (λ (s : PassView). s.mine) c.take-turn.ensures.turn) c.give.ensures.pass
    (pumped_history g.D.DiskPort.moves g.F.Fabric.moves g.D.DiskPort.means c.args.point c.pump-moved.result c.value.result.now.world
    c.pump-moved.new.self.world c.pump-moved.ensures.pumps
    ∙ sym seen)

pub returns-clause-pumps : goal.returns-clause-pumps
returns-clause-pumps g c = record {
  was = c.value.result.now.world;
  now = c.pump-moved.new.self.world;
  pumps = c.pump-moved.ensures.pumps;
  seen = ap (λ (s : PassView). s.seen) c.give.ensures.pass;
}
