use Rattle.std.proofs.Common.{ap, ℕ, List, Bor}
use Rattle.std.specs.Option.{option_map}
use Rattle.swap_options.specs.Play.{play_asked}
use Rattle.swap_hosted.proofs.Sides.{in_memory, in_file}
use Rattle.swap_hosted.proofs.hosted.play_trace.Goals as goal

pub returns-in-None-clause-ends : goal.returns-in-None-clause-ends
returns-in-None-clause-ends g c =
    in_memory g.H.Disk.DiskPort g.H.Net.Fabric (play_asked c.args.options.now) _ _ _ _ c.args.trace.now _ _ _
    (ap (option_map (λ (text : Bor (List ℕ)). text.now)) c.in-None.is) c.addresses_of-tcp.ensures c.over_memory.ensures.ends c.over_memory.ensures.disks

pub returns-in-Some-clause-ends : goal.returns-in-Some-clause-ends
returns-in-Some-clause-ends g c =
    in_file g.H.Disk.DiskPort g.H.Net.Fabric (play_asked c.args.options.now) _ _ _ _ c.args.trace.now _ _ c.in-Some.path.now _
    (ap (option_map (λ (text : Bor (List ℕ)). text.now)) c.in-Some.is) c.addresses_of-tcp.ensures c.over_file.ensures.ends
