use Rattle.std.proofs.Common.{ap, ◌∙◌}
use Rattle.swap_calls.specs.Calls.{Calls, CallsView, lost_if_through}
use Rattle.swap_calls.specs.Kept.{calls_in}
use Rattle.swap_calls.proofs.InMemory.{swept, each_state, each_whole, lost_keeps}
use Rattle.swap_calls.proofs.table.Calls.lost.Goals as goal

pub invariant_of-self : goal.invariant_of-self
invariant_of-self c =
    let is = swept c.self.inside.calls c.lose.new.calls c.deref_mut.result.now (lost_if_through c.args.lender) c.lose.ensures c.deref_mut.ensures.value in
    rw is (each_whole (lost_if_through c.args.lender) c.self.inside.page_bytes c.self.inside.calls.items c.self.invariant)

pub returns : goal.returns
returns c =
    let table : Calls → CallsView = λ cs. record { calls = cs; page_bytes = c.self.inside.page_bytes } in
    let is = swept c.self.inside.calls c.lose.new.calls c.deref_mut.result.now (lost_if_through c.args.lender) c.lose.ensures c.deref_mut.ensures.value in
    rw (← c.self.view_is) (ap table (ap calls_in is ∙ each_state (lost_if_through c.args.lender) (lost_keeps c.args.lender) c.self.inside.calls.items))
