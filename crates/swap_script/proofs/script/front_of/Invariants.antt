use Rattle.std.proofs.Common.{◌≡◌, [], length}
use Rattle.swap_script.specs.Reading.{front_from, MayLend}
use Rattle.swap_script.proofs.script.front_of.Given as goal

abbrev pub invariant-lenders : goal.invariant-lenders
invariant-lenders l = record {
  same : front_from l.geometry [] l.fn.place ≡ front_from l.geometry l.lenders l.place;
  ahead : l.ahead ≡ l.place;
  may : MayLend l.geometry l.lenders;
}

abbrev pub decreases-lenders : goal.decreases-lenders
decreases-lenders l = length l.ahead
