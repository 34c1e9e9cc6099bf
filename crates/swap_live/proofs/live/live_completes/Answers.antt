use Rattle.swap_live.proofs.Living.{plays_complete}
use Rattle.swap_live.proofs.live.live_completes.Goals as goal

pub returns-clause-plays : goal.returns-clause-plays
returns-clause-plays g c = plays_complete g.H.Disk.DiskPort g.H.Net.Fabric _ _ _ _ c.shows_complete.ensures.traces c.hosted_completes.ensures
