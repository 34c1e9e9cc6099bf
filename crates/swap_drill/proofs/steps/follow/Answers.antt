use Rattle.std.proofs.Common.{◌++◌}
use Rattle.swap_drill.specs.Drill.{all_heard, following, oldest_write_ends, rounds_at, hosts_at, crashes_at}
use Rattle.swap_drill.specs.Steps.{world_in}
use Rattle.swap_drill.proofs.Afters.{and_then}
use Rattle.swap_drill.proofs.steps.follow.Goals as goal

pub returns-clause-reach : goal.returns-clause-reach
unfolding following
returns-clause-reach c =
    let w = world_in c.args.world.now in
    let i = c.args.i in
    let word = c.args.draw.word in
    let ends = oldest_write_ends w.drive.disk.flights in
    and_then w _ _ ends (all_heard ++ (rounds_at i word ++ (hosts_at i word ++ crashes_at i))) c.end_oldest_write.ensures.reach
    (and_then _ _ _ all_heard (rounds_at i word ++ (hosts_at i word ++ crashes_at i)) c.hear_all.ensures.reach
    (and_then _ _ _ (rounds_at i word) (hosts_at i word ++ crashes_at i) c.make_round.ensures.reach
    (and_then _ _ _ (hosts_at i word) (crashes_at i) c.use_host.ensures.reach c.crash.ensures.reach)))
