-- How a port is when it is made: nothing was asked of it.
use Rattle.std.specs.Prelude.{◌≡◌, [], replicate, MatchOption, None}
use Rattle.swap_base.specs.Sizes.{Sizes, pages_of, zeros}
use Rattle.swap_disk.specs.Port.{Port}

-- a disk of these sizes without operations and faults, and of zeros where it tells its blocks
pub record IsNewDisk (s : Sizes) (p : Port) : Type 0 where
  pub sizes : p.sizes ≡ s
  pub flights : p.flights ≡ []
  pub finished : p.finished ≡ None
  pub faults : p.faults ≡ 0
  pub blocks : MatchOption p.blocks (Unit {0}) (λ blocks. blocks ≡ replicate (pages_of s) (zeros s))
