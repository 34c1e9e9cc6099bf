use Rattle.std.proofs.Common.{◌≡◌, ◌∙◌, sym, ap, subst}
use Rattle.swap_script.specs.Reading.{Script}
use Rattle.swap_trace.specs.Traces.{calls_in}
use Rattle.swap_play.specs.Callers.{AreCallsOf, caller}
use Rattle.swap_play.proofs.Paging.{own_calls}
use Rattle.swap_play.proofs.callers.play_caller.Goals as goal

pub play_calls-requires-clause-calls : goal.play_calls-requires-clause-calls
play_calls-requires-clause-calls g c κs within =
    let n = g.N.Naming.named in
    let t : Script = c.args.trace.now in
    let P : Script → Type 0 = AreCallsOf n.sizes n.lenders (caller c.args.pass.now.number) in
    let is : c.caller-calls.result ≡ calls_in (caller c.args.pass.now.number) t = c.caller-calls.ensures ∙ ap (λ m. calls_in (caller m) t) c.number.ensures in
    subst P (sym is) (record { sizes = c.requires.sizes; has = c.requires.lenders; own = own_calls (caller c.args.pass.now.number) t.inputs })
