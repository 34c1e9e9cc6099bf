use Rattle.std.proofs.Common.{◌≡◌, length, ap, ◌∙◌}
use Rattle.swap_table.specs.Device.{Device, Core, device_at_start}
use Rattle.swap_disk.specs.MemDiskView.{MemDiskView, new_drive}
use Rattle.swap_link.specs.Harbor.{Harbor}
use Rattle.swap_world.specs.World.{World, new_harbor}
use Rattle.swap_run.proofs.run.world_for.Goals as goal

pub returns-clause-world : goal.returns-clause-world
returns-clause-world c =
    let sizes : c.geometry-geometry.result ≡ c.args.script.now.sizes = c.geometry-geometry.ensures in
    let W : Device → MemDiskView → Harbor → World = λ d k h. record { device = d; drive = k; harbor = h } in
    let core = c.in_ok-world.ensures.core in
    let device : c.reserve.new.self.core.device ≡ device_at_start c.args.script.now.sizes (length c.args.script.now.lenders) =
    c.reserve.ensures.device ∙ ap (λ (k : Core MemDiskView Harbor). k.device) core ∙ ap (λ s. device_at_start s c.lenders.result) sizes
    ∙ ap (λ n. device_at_start c.args.script.now.sizes n) c.lenders.ensures.count in
    let disk : c.reserve.new.self.core.disk ≡ new_drive c.args.script.now.sizes =
    c.reserve.ensures.disk ∙ ap (λ (k : Core MemDiskView Harbor). k.disk) core ∙ c.in_ok-disk.ensures ∙ ap new_drive sizes in
    let harbor : c.reserve.new.self.core.fabric ≡ new_harbor c.args.script.now.sizes c.args.script.now.lenders =
    c.reserve.ensures.fabric ∙ ap (λ (k : Core MemDiskView Harbor). k.fabric) core ∙ c.in_ok-harbor.ensures.harbor
    ∙ ap (λ g. new_harbor g c.args.lenders.now) sizes
    ∙ ap (λ l. new_harbor c.args.script.now.sizes l) c.requires.lenders in
    ap (λ d. W d c.reserve.new.self.core.disk c.reserve.new.self.core.fabric) device
    ∙ ap (λ k. W (device_at_start c.args.script.now.sizes (length c.args.script.now.lenders)) k c.reserve.new.self.core.fabric) disk
    ∙ ap (λ h. W (device_at_start c.args.script.now.sizes (length c.args.script.now.lenders)) (new_drive c.args.script.now.sizes) h) harbor
