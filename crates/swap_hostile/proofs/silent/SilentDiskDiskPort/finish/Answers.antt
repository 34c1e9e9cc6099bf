use Rattle.std.proofs.Common.{refl, subst}
use Rattle.swap_disk.specs.MemDiskView.{IsDrive}
use Rattle.swap_hostile.specs.Silent.{Silent}
use Rattle.swap_hostile.proofs.silent.SilentDiskDiskPort.finish.Goals as goal

pub returns : goal.returns
returns c = (subst (λ (d : Silent). IsDrive d.drive) c.self.view_is c.self.invariant, refl)
