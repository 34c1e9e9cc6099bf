use Rattle.swap_base.proofs.Limits.{within_limits}
use Rattle.swap_base.proofs.geometry.Geometry.limits.Goals as goal

pub returns-clause-within : goal.returns-clause-within
returns-clause-within c = rw (← c.self.view_is) (within_limits _ c.self.invariant)
