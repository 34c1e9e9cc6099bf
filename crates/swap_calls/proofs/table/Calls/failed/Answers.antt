use Rattle.std.proofs.Common.{◌≡◌, ◌<◌, ap, true, length}
use Rattle.swap_calls.specs.Calls.{Calls, CallsView, is_waiting, state_of}
use Rattle.swap_calls.specs.Kept.{calls_in}
use Rattle.swap_calls.proofs.InMemory.{failed_in, in_range}
use Rattle.swap_calls.proofs.table.Calls.failed.Goals as goal

pub returns : goal.returns
returns c =
    let table : Calls → CallsView = λ cs. record { calls = cs; page_bytes = c.self.inside.page_bytes } in
    let waits : is_waiting (state_of (calls_in c.self.inside.calls.items) c.args.caller) ≡ true = rw (← c.self.view_is) at c.requires.waiting in
    let here : c.args.caller.0 < length c.self.inside.calls.items =
    in_range c.self.inside.calls.items c.args.caller.0 (rw (← c.self.view_is) at c.requires.caller) in
    rw (← c.self.view_is, c.set_state.ensures, c.arrived_as-state.ensures, c.state.ensures, c.index_mut-call.ensures.value)
    (ap table (failed_in c.self.inside.calls.items c.args.caller c.index_mut-call.result.now _ here waits))
