use Rattle.swap_newest.proofs.Runs.{holds_after_each}
use Rattle.swap_newest.proofs.holds_over_any_disk.Goals as goal

pub returns : goal.returns
returns g c = holds_after_each _ c.ports_promise.ensures.disk
