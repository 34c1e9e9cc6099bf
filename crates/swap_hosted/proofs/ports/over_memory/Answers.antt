use Rattle.std.proofs.Common.{◌∙◌, ap}
use Rattle.swap_disk.specs.MemDiskView.{new_drive}
use Rattle.swap_script.specs.Reading.{Script}
use Rattle.swap_hosted.proofs.Sides.{over_drive}
use Rattle.swap_hosted.proofs.ports.over_memory.Goals as goal

pub returns-clause-ends : goal.returns-clause-ends
returns-clause-ends g c =
    over_drive g.H.Net.Fabric c.args.trace.now c.args.number _ _ _ c.in-Ok.disk _ _ c.over_links-ending.result.1
    (c.in-Ok.ensures ∙ ap new_drive (c.geometry.ensures ∙ ap (λ (s : Script). s.sizes) c.script.ensures)) c.over_links-ending.ensures.ends
