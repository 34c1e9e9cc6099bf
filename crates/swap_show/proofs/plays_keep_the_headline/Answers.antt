use Rattle.swap_show.proofs.Headline.{plays_keep_the_headline}
use Rattle.swap_show.proofs.plays_keep_the_headline.Goals as goal

pub returns : goal.returns
returns c =
    plays_keep_the_headline
    (record
    { acts = c.acts_are_runs.ensures; holds = c.over_any_ports.ensures; lent = c.holds_over_any_disk.ensures; lenders = c.traces_are_whole.ensures.lenders })
