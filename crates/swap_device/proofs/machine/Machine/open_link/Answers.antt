use Rattle.std.proofs.Common.{ap, ◌∙◌}
use Rattle.swap_table.specs.Device.{Core, raised_after}
use Rattle.swap_base.specs.Sizes.{Sizes}
use Rattle.swap_device.specs.State.{StateView}
use Rattle.swap_device.proofs.Programs.{opens}
use Rattle.swap_device.proofs.machine.Machine.open_link.Goals as goal

pub returns-clause-moved : goal.returns-clause-moved
returns-clause-moved g c =
    let core = c.self-2.view_is ∙ c.open.ensures.rest in
    let up = ap (λ (x : StateView). x.device) c.raised.ensures ∙ ap (λ (x : Core g.row.D.Denot g.row.F.Denot). raised_after x.device c.args.lender) core in
    let sizes = c.geometry-geometry.ensures ∙ ap (λ (x : Core g.row.D.Denot g.row.F.Denot). x.device.sizes) c.self.view_is in
    let links = c.links_made.ensures ∙ ap (λ (x : Core g.row.D.Denot g.row.F.Denot). x.device.links_made) c.self.view_is in
    opens g.D.DiskPort.moves g.F.Fabric.moves c.args.self.now.device c.raised.new.self.device c.say.new.self.device c.args.lender c.links_made.result
    c.page_bytes.result c.pages_per_slab.result c.args.self.now.disk c.self-2.inside.disk c.say.new.self.disk c.args.self.now.fabric c.open.new.self.fabric
    c.self-2.inside.fabric c.say.new.self.fabric
    up links (c.page_bytes.ensures ∙ ap (λ (s : Sizes). s.page_bytes) sizes) (c.pages_per_slab.ensures ∙ ap (λ (s : Sizes). s.pages_per_slab) sizes)
    (ap (λ (x : Core g.row.D.Denot g.row.F.Denot). x.disk) core)
    (ap (λ (x : Core g.row.D.Denot g.row.F.Denot). x.fabric) core) c.open.ensures.moved c.say.ensures.moved
