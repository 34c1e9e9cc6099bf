use Rattle.swap_device.proofs.Started.{writes_back, reads_back}
use Rattle.swap_device.proofs.machine.Machine.disk_take.Goals as goal

pub take_back-requires-clause-write : goal.take_back-requires-clause-write
take_back-requires-clause-write g c =
    let agree = rw (← c.self.view_is) at c.requires.agree in writes_back _ _ _ _ _ _ agree.0.disk (g.met.D.DiskPort.follows _ _ _ _ c.in-Some.ensures).1

pub take_back-requires-clause-read : goal.take_back-requires-clause-read
take_back-requires-clause-read g c =
    let agree = rw (← c.self.view_is) at c.requires.agree in reads_back _ _ _ _ _ _ agree.0.disk (g.met.D.DiskPort.follows _ _ _ _ c.in-Some.ensures).1
