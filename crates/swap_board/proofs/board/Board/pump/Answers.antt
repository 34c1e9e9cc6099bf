use Rattle.std.proofs.Common.{◌≡◌, ◌∙◌, ap, sym}
use Rattle.swap_wire.specs.Fabric.{FabricOf}
use Rattle.swap_board.proofs.Boards.{pumped_board, pumped_of}
use Rattle.swap_board.proofs.board.Board.pump.Goals as goal

pub invariant_of-self : goal.invariant_of-self
invariant_of-self g c =
    let k = c.self.invariant in
    record {
      board =
          pumped_board g.D.DiskPort.moves g.F.Fabric.moves g.D.DiskPort.means g.N.Naming.named c.self.inside.world c.pump.new.world c.self.inside.begun
          c.self.inside.since c.self.inside.places.items c.self.inside.words c.args.point c.pump.result c.pump.ensures.pumps k.board;
      operator_is = k.operator_is;
      places = k.places;
      places_room = k.places_room;
      calls_are = k.calls_are;
      page_len =
          c.pump.ensures.page ∙ k.page_len
          ∙ ap (λ (o : FabricOf). o.sizes.page_bytes)
          (sym
          (pumped_of g.D.DiskPort.moves g.F.Fabric.moves g.D.DiskPort.means c.self.inside.world c.pump.new.world c.args.point c.pump.result
          c.pump.ensures.pumps));
    }
