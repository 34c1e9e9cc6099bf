use Rattle.std.proofs.Common.{nat_lt, sym, ap, ◌∙◌}
use Rattle.swap_table.specs.Device.{Core}
use Rattle.swap_table.specs.declared.TheConstants.{MOST_LINKS}
use Rattle.swap_device.proofs.Programs.{few_links, connects}
use Rattle.swap_device.proofs.machine.Machine.connect.Goals as goal

pub returns-clause-moved : goal.returns-clause-moved
returns-clause-moved g c =
    let links = c.links_made.ensures ∙ ap (λ (x : Core g.row.D.Denot g.row.F.Denot). x.device.links_made) c.self.view_is in
    let few = ap (λ n. nat_lt n MOST_LINKS) (sym links) ∙ few_links c.links_made.result c.links_made.type_inv c.if-links_made.false in
    connects g.D.DiskPort.moves g.F.Fabric.moves c.args.self.now.device c.let_go.new.self.device c.open_link.new.self.device c.args.lender c.open_link.result
    c.args.self.now.disk c.let_go.new.self.disk c.open_link.new.self.disk c.args.self.now.fabric c.let_go.new.self.fabric c.open_link.new.self.fabric few
    c.let_go.ensures.moved c.open_link.ensures.moved
