use Rattle.std.proofs.Common.{◌∙◌, ap}
use Rattle.swap_sock.specs.Dealings.{got_back}
use Rattle.swap_hosted.proofs.Sides.{came_back, was_lost}
use Rattle.swap_hosted.proofs.links.over_net.Goals as goal

pub returns-in-Some-clause-ends : goal.returns-in-Some-clause-ends
returns-in-Some-clause-ends g c =
    came_back g.D.DiskPort g.H.Net.Fabric c.args.trace.now c.args.number c.args.disk _ c.args.addresses.now _ _ _ c.in-Ok.links c.play_over-ending.result.1
    c.in-Some.disk c.in-Some.links c.play_over-ending.ensures.ends c.in-Some.is
    (c.net_back.ensures.nets ∙ ap (λ d. got_back c.in-Some.links d) c.in-Ok.ensures.nets)

pub returns-in-None-clause-ends : goal.returns-in-None-clause-ends
returns-in-None-clause-ends g c =
    was_lost g.D.DiskPort g.H.Net.Fabric c.args.trace.now c.args.number c.args.disk _ c.args.addresses.now _ _ _ c.in-Ok.links c.play_over-ending.result.1
    c.play_over-ending.ensures.ends c.in-None.is c.in-Ok.ensures.nets
