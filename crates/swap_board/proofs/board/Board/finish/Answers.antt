use Rattle.std.proofs.Common.{rules, arith, ◌≡◌, ◌<◌, ◌≤◌, ◌+◌, ◌∙◌, ap, sym, refl, subst, [], ◌∷◌, false, ℕ, length}
use Rattle.swap_base.specs.Sizes.{Sizes}
use Rattle.swap_wire.specs.Input.{Input}
use Rattle.swap_wire.specs.Fabric.{FabricOf}
use Rattle.swap_wire.specs.declared.Event.TheVariants as event
use Rattle.swap_board.specs.Acts.{Makes, Made, Player}
use Rattle.swap_board.specs.Works.{IsSame}
use Rattle.swap_board.proofs.Acts.{makes_after}
use Rattle.swap_board.proofs.Boards.{board_same, board_finished, finish_adds}
use Rattle.swap_board.proofs.Telling.{event_told}
use Rattle.swap_board.proofs.board.Board.finish.Goals as goal

pub invariant_of-self : goal.invariant_of-self
invariant_of-self g c =
    let k = c.self.invariant in
    let r = c.reserve.ensures in
    let same : IsSame c.self.inside.world c.reserve.new.self = record { device = r.device; disk = r.disk; fabric = r.fabric; log = r.log; spare = r.no_less } in
    record {
      board =
          board_same g.D.DiskPort.moves g.F.Fabric.moves g.N.Naming.named c.self.inside.world c.reserve.new.self c.self.inside.begun c.self.inside.since
          c.self.inside.places.items c.self.inside.words same k.board;
      operator_is = k.operator_is;
      places = k.places;
      places_room = k.places_room;
      calls_are = k.calls_are;
      page_len = k.page_len ∙ ap (λ d. d.sizes.page_bytes) (sym r.device);
    }

pub invariant_of-self-2 : goal.invariant_of-self-2
invariant_of-self-2 g c =
    let k = c.self.invariant in
    let r = c.reserve.ensures in
    let e = c.step.ensures in
    let w = c.self.inside.world in
    let i : Input = record { event = event.Finish c.args.caller; page = c.args.page.now } in
    let same : IsSame w c.reserve.new.self = record { device = r.device; disk = r.disk; fabric = r.fabric; log = r.log; spare = r.no_less } in
    let range : c.args.caller.0 < w.core.device.sizes.callers =
    (let R : Sizes → Type 0 = λ z. c.args.caller.0 < z.callers in subst R (sym k.board.sizes) c.requires.caller) in
    let made : Makes g.D.DiskPort.moves g.F.Fabric.moves (Made Player i c.step.result ∷ []) w c.step.new.self =
    makes_after g.D.DiskPort.moves g.F.Fabric.moves w c.reserve.new.self c.step.new.self Player i c.step.result r.device r.disk r.fabric r.log range e.step
    e.log.log e.of in
    record {
      board =
          board_finished g.D.DiskPort.moves g.F.Fabric.moves g.N.Naming.named w c.reserve.new.self c.step.new.self c.self.inside.begun c.self.inside.since
          c.self.inside.places.items c.self.inside.words i c.step.result same
          (tt, λ n. refl, λ n. refl) refl made e.room e.grows k.board;
      operator_is = k.operator_is;
      places = k.places;
      places_room = k.places_room;
      calls_are = k.calls_are;
      page_len = k.page_len ∙ ap (λ (o : FabricOf). o.sizes.page_bytes) (sym made.of);
    }

pub returns-clause-makes : goal.returns-clause-makes
returns-clause-makes g c =
    let k = c.self.invariant in
    let r = c.reserve.ensures in
    let e = c.step.ensures in
    let w = c.self.inside.world in
    let i : Input = record { event = event.Finish c.args.caller; page = c.args.page.now } in
    let range : c.args.caller.0 < w.core.device.sizes.callers =
    (let R : Sizes → Type 0 = λ z. c.args.caller.0 < z.callers in subst R (sym k.board.sizes) c.requires.caller) in
    rw (← c.self.view_is) (record {
      makes =
          makes_after g.D.DiskPort.moves g.F.Fabric.moves w c.reserve.new.self c.step.new.self Player i c.step.result r.device r.disk r.fabric r.log range
          e.step
          e.log.log e.of;
      adds = finish_adds w.core.device c.reserve.new.self.core.device c.args.page.now c.args.caller c.step.result c.step.new.self.core.device.history r.device
          (λ row is.
          event_told g.D.DiskPort.moves g.F.Fabric.moves c.reserve.new.self.core.device c.step.new.self.core.device c.reserve.new.self.core.disk
          c.step.new.self.core.disk c.reserve.new.self.core.fabric c.step.new.self.core.fabric i c.step.result row c.reserve.new.self.core.device.history
          e.step is)
          e.adds;
      rest = refl;
    })
