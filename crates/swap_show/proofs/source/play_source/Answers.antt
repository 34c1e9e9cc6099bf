use Rattle.swap_show.proofs.Shows.{show_ends}
use Rattle.swap_show.proofs.source.play_source.Goals as goal

pub returns-in-Ok-clause-ends : goal.returns-in-Ok-clause-ends
returns-in-Ok-clause-ends g c =
    show_ends c.plays_keep_the_headline.ensures c.args.number _ _ c.in-Ok.text.items _ c.in-Ok.ensures.whole c.in-Ok.ensures.within
    (rw c.deref.ensures.value at c.play_text.ensures.ends)
