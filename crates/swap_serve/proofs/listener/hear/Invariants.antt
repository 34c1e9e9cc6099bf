use Rattle.std.proofs.Common.{ℕ, List}
use Rattle.swap_wire.specs.declared.Msg.{Msg}
use Rattle.swap_serve.specs.Hearing.{IsHearing}
use Rattle.swap_serve.proofs.listener.hear.Given as goal

abbrev pub invariant-loop : goal.invariant-loop
invariant-loop g l =
    (gs : List (Msg × List ℕ))
    × IsHearing g.S.Source.left g.S.Source.faults l.initial.listener.decoder.page_bytes l.initial.listener.reader l.initial.listener.ear.link l.listener gs
