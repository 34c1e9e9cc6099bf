use Rattle.std.proofs.Common.{ap}
use Rattle.std.proofs.lemmas.List.{map-set}
use Rattle.swap_calls.specs.Kept.{call_in}
use Rattle.swap_calls.proofs.table.Calls.begin_read.Goals as goal

pub returns : goal.returns
returns c =
    rw (← c.self.view_is, c.set_state.ensures)
    (ap (λ cs. record { calls = cs; page_bytes = c.self.inside.page_bytes }) (map-set call_in c.self.inside.calls.items c.args.caller.0 _))
