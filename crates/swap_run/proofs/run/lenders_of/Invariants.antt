use Rattle.std.proofs.Common.{◌≡◌, take}
use Rattle.std.specs.Prelude.{All}
use Rattle.swap_script.specs.Reading.{IsWithinLimits}
use Rattle.swap_run.proofs.run.lenders_of.Given as goal

abbrev pub invariant-lenders : goal.invariant-lenders
invariant-lenders l = record {
  taken : l.lenders.items ≡ take l.i l.script.lenders;
  limits : All IsWithinLimits l.lenders.items;
}
