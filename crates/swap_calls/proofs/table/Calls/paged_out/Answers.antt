use Rattle.std.proofs.Common.{ap, ◌∙◌}
use Rattle.swap_calls.specs.Calls.{Calls, CallsView, newer_if_reads}
use Rattle.swap_calls.specs.Kept.{calls_in}
use Rattle.swap_calls.proofs.InMemory.{swept, each_state, each_whole, newer_keeps}
use Rattle.swap_calls.proofs.table.Calls.paged_out.Goals as goal

pub invariant_of-self : goal.invariant_of-self
invariant_of-self c =
    let is =
    swept c.self.inside.calls c.note_page_out.new.calls c.deref_mut.result.now
    (newer_if_reads c.args.page) c.note_page_out.ensures c.deref_mut.ensures.value in
    rw is (each_whole (newer_if_reads c.args.page) c.self.inside.page_bytes c.self.inside.calls.items c.self.invariant)

pub returns : goal.returns
returns c =
    let table : Calls → CallsView = λ cs. record { calls = cs; page_bytes = c.self.inside.page_bytes } in
    let is =
    swept c.self.inside.calls c.note_page_out.new.calls c.deref_mut.result.now
    (newer_if_reads c.args.page) c.note_page_out.ensures c.deref_mut.ensures.value in
    rw (← c.self.view_is) (ap table (ap calls_in is ∙ each_state (newer_if_reads c.args.page) (newer_keeps c.args.page) c.self.inside.calls.items))
