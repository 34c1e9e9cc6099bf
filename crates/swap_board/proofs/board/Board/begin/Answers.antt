use Rattle.std.proofs.Common.{rules, arith, ◌≡◌, ◌<◌, ◌≤◌, ◌+◌, ◌∙◌, ap, sym, refl, subst, [], ◌∷◌, ℕ, length}
use Rattle.rand_pcg.specs.Lcg.{Lcg}
use Rattle.swap_wire.specs.Input.{Input, IsInRange}
use Rattle.swap_wire.specs.Fabric.{FabricOf}
use Rattle.swap_table.specs.Device.{Device, of_device}
use Rattle.swap_board.specs.Boards.{IsBoard}
use Rattle.swap_board.specs.Works.{Paced}
use Rattle.swap_board.proofs.Boards.{board_same, board_begun, makes_begun, begins, call_adds}
use Rattle.swap_board.proofs.Telling.{event_told}
use Rattle.swap_board.proofs.board.Board.begin.Goals as goal

pub invariant_of-self : goal.invariant_of-self
invariant_of-self g c =
    let k = c.self.invariant in
    let n = c.in_default.ensures.none in
    let P : Lcg → Type 0 =
    λ x.
    IsBoard g.D.DiskPort.moves g.F.Fabric.moves g.N.Naming.named c.pace-paced.new.world c.self.inside.begun c.self.inside.since c.self.inside.places.items
    x in
    record {
      board =
          subst P (sym n.1)
          (board_same g.D.DiskPort.moves g.F.Fabric.moves g.N.Naming.named c.self.inside.world c.pace-paced.new.world c.self.inside.begun c.self.inside.since
          c.self.inside.places.items c.self.inside.words n.0 k.board);
      operator_is = k.operator_is;
      places = k.places;
      places_room = k.places_room;
      calls_are = k.calls_are;
      page_len = c.pace-paced.ensures.page ∙ k.page_len ∙ ap (λ (d : Device). d.sizes.page_bytes) (sym n.0.device);
    }

pub invariant_of-self-2 : goal.invariant_of-self-2
invariant_of-self-2 g c =
    let k = c.self.invariant in
    let w = c.self.inside.world in
    let e = c.step-seen.ensures in
    let i : Input = record { event = c.args.event.now; page = c.args.page.now } in
    let p : Paced g.D.DiskPort.moves g.F.Fabric.moves c.self.inside.since c.self.inside.words w c.in-Some.since c.pace-paced.new.words c.pace-paced.new.world =
    c.in-Some.ensures.paced in
    let R : FabricOf → Type 0 = λ o. IsInRange o.sizes o.lenders c.args.event.now in
    let O : FabricOf = record { sizes = g.N.Naming.named.sizes; lenders = g.N.Naming.named.lenders } in
    let of_w : of_device w.core.device ≡ O = search (rules, k.board.sizes, k.board.lenders) in
    let range = subst R (sym (p.works.makes.of ∙ of_w)) c.requires.range in
    let fewer : c.self.inside.begun < g.N.Naming.named.calls = (let m = k.board.most in let calls = k.calls_are in search rules) in
    record {
      board =
          board_begun g.D.DiskPort.moves g.F.Fabric.moves g.N.Naming.named w c.pace-paced.new.world c.step-seen.new.self c.self.inside.begun c.self.inside.since
          c.self.inside.places.items c.self.inside.words c.in-Some.since c.pace-paced.new.words
          i c.step-seen.result c.requires.call p range e.step e.log.log e.of e.room e.grows fewer k.board;
      operator_is = k.operator_is;
      places = k.places;
      places_room = k.places_room;
      calls_are = k.calls_are;
      page_len = c.pace-paced.ensures.page ∙ k.page_len ∙ ap (λ (o : FabricOf). o.sizes.page_bytes) (sym (e.of ∙ p.works.makes.of));
    }

pub returns-clause-begins : goal.returns-clause-begins
returns-clause-begins g c =
    let k = c.self.invariant in
    let w = c.self.inside.world in
    let e = c.step-seen.ensures in
    let i : Input = record { event = c.args.event.now; page = c.args.page.now } in
    let p : Paced g.D.DiskPort.moves g.F.Fabric.moves c.self.inside.since c.self.inside.words w c.in-Some.since c.pace-paced.new.words c.pace-paced.new.world =
    c.in-Some.ensures.paced in
    let R : FabricOf → Type 0 = λ o. IsInRange o.sizes o.lenders c.args.event.now in
    let O : FabricOf = record { sizes = g.N.Naming.named.sizes; lenders = g.N.Naming.named.lenders } in
    let of_w : of_device w.core.device ≡ O = search (rules, k.board.sizes, k.board.lenders) in
    let range = subst R (sym (p.works.makes.of ∙ of_w)) c.requires.range in
    let fewer : c.self.inside.begun < g.N.Naming.named.calls = (let m = k.board.most in let calls = k.calls_are in search rules) in
    rw (← c.self.view_is)
    (begins g.D.DiskPort.moves g.F.Fabric.moves g.N.Naming.named.calls w c.pace-paced.new.world c.step-seen.new.self c.self.inside.begun c.self.inside.since
    (length c.self.inside.places.items) c.self.inside.words c.in-Some.since c.pace-paced.new.words c.args.event.now c.args.page.now c.step-seen.result p
    (makes_begun g.D.DiskPort.moves g.F.Fabric.moves w c.pace-paced.new.world c.step-seen.new.self c.self.inside.since c.self.inside.words c.in-Some.since
    c.pace-paced.new.words i c.step-seen.result p range e.step e.log.log e.of)
    fewer)

pub returns-clause-history : goal.returns-clause-history
returns-clause-history g c =
    let p : Paced g.D.DiskPort.moves g.F.Fabric.moves c.self.inside.since c.self.inside.words c.self.inside.world c.in-Some.since c.pace-paced.new.words
    c.pace-paced.new.world =
    c.in-Some.ensures.paced in
    rw (← c.self.view_is)
    (call_adds c.pace-paced.new.world.core.device c.args.page.now c.args.event.now c.step-seen.result c.self.inside.world.core.device.history
    c.step-seen.new.self.core.device.history p.works.history c.requires.call
    (λ row is.
    event_told g.D.DiskPort.moves g.F.Fabric.moves c.pace-paced.new.world.core.device c.step-seen.new.self.core.device c.pace-paced.new.world.core.disk
    c.step-seen.new.self.core.disk c.pace-paced.new.world.core.fabric c.step-seen.new.self.core.fabric
    (record { event = c.args.event.now; page = c.args.page.now }) c.step-seen.result row c.pace-paced.new.world.core.device.history c.step-seen.ensures.step is)
    c.step-seen.ensures.adds)
