use Rattle.swap_run.specs.Run.{made_of, history_of}
use Rattle.swap_run.proofs.Ends.{ScriptLaws, few_lenders, inputs_of}
use Rattle.swap_run.proofs.Unfailed.{none_failed}
use Rattle.swap_run.proofs.fails_with_the_disk.Goals as goal

pub returns : goal.returns
returns c =
    λ text s is w r.
    none_failed (made_of s) (history_of s) w r
    (let laws : ScriptLaws = (record { range = c.events_in_range.ensures; lenders = c.lenders_may_lend.ensures; pages = c.pages_are_whole.ensures }) in
    c.entries_are_seen.ensures s.sizes s.lenders s.inputs (few_lenders laws text s is) (inputs_of laws text s is))
