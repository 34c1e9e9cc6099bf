use Rattle.std.proofs.Common.{◌≡◌, ◌∙◌, sym, ap, arith}
use Rattle.swap_sock.specs.Dealings.{got_back}
use Rattle.swap_hosted.specs.Hosted.{deals}
use Rattle.swap_hosted.proofs.Sides.{file_back, file_lost, links_wider, rose_over}
use Rattle.swap_hosted.proofs.ports.over_file.Goals as goal

pub returns-in-Some-clause-ends : goal.returns-in-Some-clause-ends
returns-in-Some-clause-ends g c =
    let nets = g.H.Host.nets in
    let disks = g.H.Host.disks in
    let after = c.over_links-ending.new.host in
    let same : deals (nets c.disk.new.self) (nets after) ≡ deals (nets c.args.host.now) (nets c.disk_back.new.self) =
    ap (λ n. deals n (nets after)) c.in-Ok.ensures.nets ∙ ap (λ n. deals (nets c.args.host.now) n) (sym c.disk_back.ensures.nets) in
    let dealt : disks c.disk_back.new.self ≡ got_back c.in-Some.disk _ =
    c.disk_back.ensures.disks ∙ ap (λ d. got_back c.in-Some.disk d) (c.over_links-ending.ensures.disks ∙ c.in-Ok.ensures.disks) in
    file_back g.H.Net.Fabric c.args.trace.now c.args.number _ g.H.Disk.DiskPort c.args.path.now _ _ _ c.in-Ok.disk c.in-Some.disk _ _
    c.over_links-ending.result.1 c.in-Some.is dealt
    (links_wider g.H.Net.Fabric c.args.trace.now c.args.number _
    (deals (nets c.disk.new.self) (nets after)) _ _ _ g.H.Disk.DiskPort c.in-Ok.disk _ _ c.over_links-ending.result.1 same
    (rose_over _ _ _ _ c.in-Ok.ensures.later c.disk_back.ensures.later) c.over_links-ending.ensures.ends)

pub returns-in_default-clause-ends : goal.returns-in_default-clause-ends
returns-in_default-clause-ends g c =
    let nets = g.H.Host.nets in
    let after = c.over_links-ending.new.host in
    let same : deals (nets c.disk.new.self) (nets after) ≡ deals (nets c.args.host.now) (nets after) = ap (λ n. deals n (nets after)) c.in-Ok.ensures.nets in
    file_lost g.H.Net.Fabric c.args.trace.now c.args.number _ g.H.Disk.DiskPort c.args.path.now _ _ _ c.in-Ok.disk _ _ c.over_links-ending.result.1
    c.in_default.is
    (c.over_links-ending.ensures.disks ∙ c.in-Ok.ensures.disks)
    (links_wider g.H.Net.Fabric c.args.trace.now c.args.number _
    (deals (nets c.disk.new.self) (nets after)) _ _ _ g.H.Disk.DiskPort c.in-Ok.disk _ _ c.over_links-ending.result.1 same
    (rose_over _ _ _ _ c.in-Ok.ensures.later (omega arith)) c.over_links-ending.ensures.ends)
