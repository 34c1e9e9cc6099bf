use Rattle.std.proofs.Common.{ap, ◌∙◌}
use Rattle.swap_table.specs.Device.{Core}
use Rattle.swap_disk.specs.MemDiskView.{MemDiskView}
use Rattle.swap_link.specs.Harbor.{Harbor}
use Rattle.swap_drill.proofs.Opened.{opened}
use Rattle.swap_drill.proofs.run.make_world.Goals as goal

pub returns-clause-world : goal.returns-clause-world
returns-clause-world c =
    opened c.reserve.new.self c.geometry-geometry.result c.lender-lenders.result c.geometry-geometry.ensures c.lender-lenders.ensures
    (c.reserve.ensures.device ∙ ap (λ (k : Core MemDiskView Harbor). k.device) c.in_ok-world.ensures.core)
    (c.reserve.ensures.disk ∙ ap (λ (k : Core MemDiskView Harbor). k.disk) c.in_ok-world.ensures.core ∙ c.in_ok-disk.ensures)
    (c.reserve.ensures.fabric ∙ ap (λ (k : Core MemDiskView Harbor). k.fabric) c.in_ok-world.ensures.core ∙ c.in_ok-harbor.ensures.harbor)
