use Rattle.std.proofs.Common.{◌≡◌, ◌-◌, sym, ap, ◌∙◌, subst, arith}
use Rattle.swap_base.specs.Sizes.{Sizes}
use Rattle.swap_wire.specs.Fabric.{FabricOf}
use Rattle.swap_table.specs.Device.{Core}
use Rattle.swap_device.specs.State.{StateView, IsReady, LeavesRest, lose_in_turn}
use Rattle.swap_device.proofs.Falls.{ComesOf, falls, comes_first, comes_next}
use Rattle.swap_device.proofs.Ready.{rest_all, rest_then, rest_lost, ready_lost}
use Rattle.swap_device.proofs.machine.Machine.+losing.Goals as goal

pub fall-loop-number-init : goal.fall-loop-number-init
fall-loop-number-init g t c =
    let ready = rw (← c.self.view_is) at c.requires.ready in
    record {
      comes =
          comes_first g.D.DiskPort.moves g.F.Fabric.moves
          (lose_in_turn (c.args.more - 1)) c.slabs-slabs.result c.args.lender c.lost.new.self.device c.self.inside.disk c.self.inside.fabric;
      slabs = sym (c.slabs-slabs.ensures ∙ ap (λ (s : Sizes). s.slabs) c.geometry.ensures);
      ready =
          subst (λ (x : StateView). IsReady g.F.Fabric (record {
            device = x.device;
            disk = c.self.inside.disk;
            fabric = c.self.inside.fabric;
            spare =
                x.spare;
          }))
          (sym c.lost.ensures)
          (ready_lost g.F.Fabric
          (record { device = c.self.inside.state.device; disk = c.self.inside.disk; fabric = c.self.inside.fabric; spare = c.self.inside.state.spare })
          c.args.lender ready);
      rest = rest_all _;
    }

pub fall-loop-number-preserved : goal.fall-loop-number-preserved
fall-loop-number-preserved g t c = record {
  comes =
      comes_next g.D.DiskPort.moves g.F.Fabric.moves
      (lose_in_turn (c.args.more - 1)) c.slabs-slabs.result c.loop-number.number c.args.lender c.loop-number.self.device c.give_up.new.self.device
      c.lost.new.self.device c.loop-number.self.disk c.give_up.new.self.disk c.self.inside.disk c.loop-number.self.fabric c.give_up.new.self.fabric
      c.self.inside.fabric c.loop-number-test.true c.give_up.ensures.moved c.loop-number.invariant.comes;
  slabs = ap (λ (o : FabricOf). o.sizes.slabs) c.give_up.ensures.rest.of ∙ c.loop-number.invariant.slabs;
  ready = c.give_up.ensures.ready;
  rest = rest_then _ _ _ c.loop-number.invariant.rest c.give_up.ensures.rest;
}

pub fall-returns-clause-moved : goal.fall-returns-clause-moved
fall-returns-clause-moved g t c =
    let d = c.self.inside.state.device in
    let comes =
    subst (λ (x : StateView).
    ComesOf g.D.DiskPort.moves g.F.Fabric.moves
    (lose_in_turn (c.args.more - 1)) c.slabs-slabs.result c.loop-number.number c.args.lender c.loop-number.self.device c.loop-number.self.disk
    c.loop-number.self.fabric x.device c.self.inside.disk c.self.inside.fabric)
    c.lost.ensures c.loop-number.invariant.comes in
    let slabs =
    c.keeps_remote.ensures.slabs_len
    ∙ sym (c.slabs-slabs.ensures ∙ ap (λ (s : Sizes). s.slabs) c.geometry.ensures ∙ ap (λ (x : StateView). x.device.sizes.slabs) c.lost.ensures) in
    rw (← c.self.view_is)
    (falls g.D.DiskPort.moves g.F.Fabric.moves c.args.more c.slabs-slabs.result c.loop-number.number d c.loop-number.self.device c.args.lender
    c.self.inside.disk c.loop-number.self.disk c.self.inside.fabric c.loop-number.self.fabric
    (λ (none : c.args.more ≡ 0). omega (arith, none, c.if-more-eq0.false)) slabs c.loop-number-test.false comes)

pub fall-returns-clause-rest : goal.fall-returns-clause-rest
fall-returns-clause-rest g t c =
    let first : Core g.row.D.Denot g.row.F.Denot =
    record { device = c.self.inside.state.device; disk = c.self.inside.disk; fabric = c.self.inside.fabric; spare = c.self.inside.state.spare } in
    let rest =
    subst (λ (x : StateView).
    LeavesRest (record { device = x.device; disk = c.self.inside.disk; fabric = c.self.inside.fabric; spare = x.spare }) c.loop-number.self)
    c.lost.ensures c.loop-number.invariant.rest in
    rw (← c.self.view_is) (rest_then _ _ _ (rest_lost first c.args.lender) rest)
