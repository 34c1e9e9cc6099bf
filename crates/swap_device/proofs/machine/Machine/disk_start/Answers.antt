use Rattle.std.proofs.Common.{sym, ◌∙◌}
use Rattle.swap_device.proofs.Started.{start_free, start_room}
use Rattle.swap_device.proofs.machine.Machine.disk_start.Goals as goal

pub start_write-requires-clause-free : goal.start_write-requires-clause-free
start_write-requires-clause-free g c =
    let agree = rw (← c.self.view_is) at c.requires.agree in start_free _ _ _ _ _ _ agree.0.disk (sym c.in_ok-of.was ∙ c.start.ensures.answer)

pub start_write-requires-clause-room : goal.start_write-requires-clause-room
start_write-requires-clause-room g c =
    let agree = rw (← c.self.view_is) at c.requires.agree in
    start_room _ _ _ _ _ _ agree.0.disk (sym c.in_ok-of.was ∙ c.start.ensures.answer) (rw c.start.ensures.state at c.keeps_queue.ensures)
