use Rattle.std.proofs.Common.{◌≡◌, ◌++◌, map, take, drop}
use Rattle.swap_hostile.specs.Swapping.{turn_byte}
use Rattle.swap_hostile.proofs.swapping.turn_over.Given as goal

abbrev pub invariant-loop-i : goal.invariant-loop-i
invariant-loop-i l = l.bytes ≡ map turn_byte (take l.i l.initial.bytes) ++ drop l.i l.initial.bytes
