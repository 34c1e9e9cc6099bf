use Rattle.swap_options.specs.Play.{play_asked}
use Rattle.swap_hosted.proofs.Sides.{hosted_ends}
use Rattle.swap_hosted.proofs.hosted.play_hosted.Goals as goal

pub returns-in-Ok-clause-ends : goal.returns-in-Ok-clause-ends
returns-in-Ok-clause-ends g c =
    hosted_ends g.H.Disk.DiskPort g.H.Net.Fabric (play_asked c.args.options.now) _ _ _ _ _ c.in-Ok.text.items _ c.in-Ok.ensures.whole c.in-Ok.ensures.within
    (rw c.deref.ensures.value at c.play_text.ensures.ends)
