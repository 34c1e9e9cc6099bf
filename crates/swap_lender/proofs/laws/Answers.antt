use Rattle.swap_lender.proofs.Runs.{always_owned, leases_in_order, sizes_stay}
use Rattle.swap_lender.proofs.Reach.{lends_free, served_until_done}
use Rattle.swap_lender.proofs.Limits.{checked_specs_fit}
use Rattle.swap_lender.proofs.Live.{live_rounds}
use Rattle.swap_lender.proofs.laws.Goals as goal

pub returns-clause-owned : goal.returns-clause-owned
returns-clause-owned c = always_owned

pub returns-clause-leases : goal.returns-clause-leases
returns-clause-leases c = leases_in_order

pub returns-clause-sizes : goal.returns-clause-sizes
returns-clause-sizes c = sizes_stay

pub returns-clause-lends : goal.returns-clause-lends
returns-clause-lends c = lends_free

pub returns-clause-served : goal.returns-clause-served
returns-clause-served c = served_until_done

pub returns-clause-specs : goal.returns-clause-specs
returns-clause-specs c = checked_specs_fit

pub returns-clause-live : goal.returns-clause-live
returns-clause-live c = live_rounds
