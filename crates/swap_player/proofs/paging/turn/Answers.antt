use Rattle.std.proofs.Common.{◌≡◌, ap, ◌∙◌, sym, subst, ℕ}
use Rattle.swap_record.specs.History.{History}
use Rattle.swap_turn.specs.Turns.{Extends, IsEarlier}
use Rattle.swap_turn.specs.PassView.{PassView}
use Rattle.swap_turn.specs.Holding.{holder}
use Rattle.swap_board.specs.Boards.{BoardView}
use Rattle.swap_player.specs.Turns.{Ends, caller_of}
use Rattle.swap_player.specs.Seen.{IsWell}
use Rattle.swap_player.proofs.Turns.{ends_extends, turns}
use Rattle.swap_player.proofs.paging.turn.Goals as goal

pub give-requires-clause-own : goal.give-requires-clause-own
give-requires-clause-own g c =
    let h : PassView = holder c.take-taken.result in
    let n = g.N.Naming.named in
    let e = ends_extends n.calls n.sizes.callers c.args.event.now c.args.page.now c.step_well-ended.result _ _ c.step_well-ended.ensures.ends in
    let number : h.number ≡ (caller_of c.args.event.now).0 = ap (λ (s : PassView). s.number) c.take-taken.ensures.turn ∙ sym c.requires.own in
    let seen : h.seen ≡ c.value.result.now.world.core.device.history =
    ap (λ (s : PassView). s.seen) c.take-taken.ensures.turn
    ∙ sym (ap (λ (b : BoardView g.row.D.Denot g.row.F.Denot). b.world.core.device.history) c.value.ensures.value) in
    let P : ℕ → Type 0 = λ m. Extends m h.seen c.step_well-ended.new.board.world.core.device.history in
    let Q : History → Type 0 = λ H. Extends (caller_of c.args.event.now).0 H c.step_well-ended.new.board.world.core.device.history in
    subst P (sym number) (subst Q (sym seen) e)

pub returns-clause-turns : goal.returns-clause-turns
returns-clause-turns g c =
    let n = g.N.Naming.named in
    let p : PassView = c.args.pass.now in
    let h : PassView = holder c.take-taken.result in
    let now : History = c.step_well-ended.new.board.world.core.device.history in
    let seen : h.seen ≡ c.value.result.now.world.core.device.history =
    ap (λ (s : PassView). s.seen) c.take-taken.ensures.turn
    ∙ sym (ap (λ (b : BoardView g.row.D.Denot g.row.F.Denot). b.world.core.device.history) c.value.ensures.value) in
    let earlier : IsEarlier p.seen h.seen =
    subst (IsEarlier p.seen) (sym (ap (λ (s : PassView). s.seen) c.take-taken.ensures.turn)) c.take-taken.ensures.seen in
    let Q : History → Type 0 = λ H. Ends n.calls n.sizes.callers c.args.event.now c.args.page.now c.step_well-ended.result H now in
    turns n.calls n.sizes.callers c.args.event.now c.args.page.now c.step_well-ended.result p h c.give.new.pass now earlier
    (ap (λ (s : PassView). s.mine) c.take-taken.ensures.turn) c.give.ensures.pass (subst Q (sym seen) c.step_well-ended.ensures.ends)

pub returns-clause-well : goal.returns-clause-well
returns-clause-well g c =
    let P : History → Type 0 = IsWell g.D.DiskPort g.F.Fabric g.N.Naming.named.sizes in
    subst P (sym (ap (λ (s : PassView). s.seen) c.give.ensures.pass)) c.step_well-ended.ensures.well
