use Rattle.swap_table.proofs.CallsKeepAgreement.{each_call_keeps, new_agrees}
use Rattle.swap_table.proofs.calls_keep.Goals as goal

pub returns-clause-each : goal.returns-clause-each
returns-clause-each g c = each_call_keeps _ c.ports_promise.ensures.disk _ c.ports_promise.ensures.fabric

pub returns-clause-new : goal.returns-clause-new
returns-clause-new g c = new_agrees _ c.ports_promise.ensures.disk _ c.ports_promise.ensures.fabric
