use Rattle.std.proofs.Common.{◌≡◌, true, map}
use Rattle.std.specs.Prelude.{All}
use Rattle.swap_play.proofs.callers.passes_of.Given as goal

abbrev pub invariant-overs : goal.invariant-overs
invariant-overs l = record {
  passes : l.passes.items ≡ map (λ o. o.0) l.yielded;
  done : All (λ o. o.1 ≡ true) l.yielded;
}
