use Rattle.std.proofs.Common.{ap, refl, List, Bor}
use Rattle.std.specs.Option.{option_map}
use Rattle.swap_sock.specs.declared.address.Address.{Address}
use Rattle.swap_hosted.proofs.Sides.{links_none, links_some}
use Rattle.swap_hosted.proofs.ports.over_links.Goals as goal

pub returns-in-None-clause-ends : goal.returns-in-None-clause-ends
returns-in-None-clause-ends g c =
    links_none g.H.Net.Fabric c.args.trace.now c.args.number _ _ _ g.D.DiskPort c.args.disk _ _ _
    (ap (option_map (λ (list : Bor (List Address)). list.now)) c.in-None.is) c.over_harbor.ensures.ends refl

pub returns-in-Some-clause-ends : goal.returns-in-Some-clause-ends
returns-in-Some-clause-ends g c =
    links_some g.H.Net.Fabric c.args.trace.now c.args.number _ _ _ g.D.DiskPort c.args.disk _ c.in-Some.addresses.now _ _
    (ap (option_map (λ (list : Bor (List Address)). list.now)) c.in-Some.is) c.over_net.ensures.ends
