use Rattle.std.proofs.Common.{◌≡◌, length}
use Rattle.swap_script.specs.Reading.{part_of, inputs_of, AllRead, MayLend}
use Rattle.swap_script.proofs.script.Walk.next_line.Given as goal

abbrev pub invariant-looking : goal.invariant-looking
invariant-looking l = record {
  sizes : l.fn.self.sizes ≡ l.self-inside.geometry;
  lenders : l.fn.self.lenders ≡ l.self-inside.lenders;
  inputs : l.fn.self.inputs ≡ part_of l.self-inside.part (inputs_of l.self-inside.grammar l.self-inside.geometry l.self-inside.place);
  reads : AllRead l.self-inside.grammar l.self-inside.geometry (length l.self-inside.lenders) l.self-inside.place;
  may : MayLend l.self-inside.geometry l.self-inside.lenders;
}

abbrev pub decreases-looking : goal.decreases-looking
decreases-looking l = length l.self-inside.place
