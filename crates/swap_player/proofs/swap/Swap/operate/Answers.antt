use Rattle.std.proofs.Common.{◌≡◌, ap, ◌∙◌, sym, subst}
use Rattle.swap_record.specs.History.{History}
use Rattle.swap_turn.specs.Turns.{IsEarlier}
use Rattle.swap_turn.specs.PassView.{PassView}
use Rattle.swap_turn.specs.Holding.{holder}
use Rattle.swap_board.specs.Boards.{BoardView}
use Rattle.swap_player.proofs.Turns.{none_extends, none_turned}
use Rattle.swap_player.proofs.Pumping.{operated_history}
use Rattle.swap_player.proofs.swap.Swap.operate.Goals as goal

pub give-requires-clause-own : goal.give-requires-clause-own
give-requires-clause-own g c =
    let h : PassView = holder c.take-turn.result in
    let seen : h.seen ≡ c.value.result.now.world.core.device.history =
    ap (λ (s : PassView). s.seen) c.take-turn.ensures.turn
    ∙ sym (ap (λ (b : BoardView g.row.D.Denot g.row.F.Denot). b.world.core.device.history) c.value.ensures.value) in
    none_extends h.number h.seen c.operate-operated.new.self.world.core.device.history
    (operated_history g.D.DiskPort.moves g.F.Fabric.moves g.N.Naming.named.operator c.operate-operated.result c.value.result.now c.operate-operated.new.self
    c.operate-operated.ensures.makes
    ∙ sym seen)

pub returns-clause-looked : goal.returns-clause-looked
returns-clause-looked g c =
    let p : PassView = c.args.pass.now in
    let h : PassView = holder c.take-turn.result in
    let now : History = c.operate-operated.new.self.world.core.device.history in
    let seen : h.seen ≡ c.value.result.now.world.core.device.history =
    ap (λ (s : PassView). s.seen) c.take-turn.ensures.turn
    ∙ sym (ap (λ (b : BoardView g.row.D.Denot g.row.F.Denot). b.world.core.device.history) c.value.ensures.value) in
    let earlier : IsEarlier p.seen h.seen = subst (IsEarlier p.seen) (sym (ap (λ (s : PassView). s.seen) c.take-turn.ensures.turn)) c.take-turn.ensures.seen in
    none_turned p h c.give.new.pass now earlier (ap (λ (s : PassView). s.mine) c.take-turn.ensures.turn) c.give.ensures.pass
    (operated_history g.D.DiskPort.moves g.F.Fabric.moves g.N.Naming.named.operator c.operate-operated.result c.value.result.now c.operate-operated.new.self
    c.operate-operated.ensures.makes
    ∙ sym seen)

pub returns-clause-operates : goal.returns-clause-operates
returns-clause-operates g c = record {
  was = c.value.result.now;
  now = c.operate-operated.new.self;
  operates = c.operate-operated.ensures.makes;
  seen = ap (λ (s : PassView). s.seen) c.give.ensures.pass;
}
