use Rattle.std.proofs.Common.{◌≡◌, ap, ◌∙◌, subst}
use Rattle.swap_world.specs.Runs.{WorldView}
use Rattle.swap_player.specs.Seen.{IsWell}
use Rattle.swap_player.proofs.Well.{reached_well}
use Rattle.swap_player.proofs.paging.holds.Goals as goal

pub returns : goal.returns
returns g c =
    let w : WorldView g.row.D.Denot g.row.F.Denot = c.world.result.now in
    let sizes : w.core.device.sizes ≡ g.N.Naming.named.sizes =
    ap (λ (x : WorldView g.row.D.Denot g.row.F.Denot). x.core.device.sizes) c.world.ensures ∙ c.is_named.ensures.sizes in
    let P : WorldView g.row.D.Denot g.row.F.Denot → Type 0 = λ x. IsWell g.D.DiskPort g.F.Fabric g.N.Naming.named.sizes x.core.device.history in
    subst P c.world.ensures
    (reached_well g.D.DiskPort c.ports_promise.ensures.disk g.F.Fabric c.ports_promise.ensures.fabric w.core w.log g.N.Naming.named.sizes
    c.over_any_ports.ensures sizes c.reached.ensures)
