use Rattle.std.proofs.Common.{◌≡◌, ◌∙◌, refl, sym, ap}
use Rattle.swap_wire.specs.Fabric.{FabricOf}
use Rattle.swap_table.specs.Device.{of_device}
use Rattle.swap_play.proofs.Connecting.{connects_none, connects_more}
use Rattle.swap_play.proofs.connects.connect_all.Goals as goal

pub links-init : goal.links-init
links-init g c = record {
  connects = connects_none g.D.DiskPort.moves g.F.Fabric.moves c.args.world.now;
  of = refl;
  page = c.requires.page;
}

pub links-preserved : goal.links-preserved
links-preserved g c =
    let inv = c.links.invariant in
    let one = c.in_ok-connect.ensures in
    let same : of_device c.connect.new.world.core.device ≡ of_device c.links.world.core.device = one.works.makes.of in
    record {
      connects = connects_more g.D.DiskPort.moves g.F.Fabric.moves c.links.lender c.args.world.now c.links.world c.connect.new.world inv.connects one;
      of = same ∙ inv.of;
      page = c.connect.auto.page ∙ inv.page ∙ ap (λ (o : FabricOf). o.sizes.page_bytes) (sym same);
    }
