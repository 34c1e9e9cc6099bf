use Rattle.std.proofs.Common.{◌≡◌, ◌<◌, true}
use Rattle.swap_base.specs.declared.Caller.{Caller}
use Rattle.swap_calls.specs.Calls.{is_idle, state_of}
use Rattle.swap_play.proofs.playing.are_idle.Given as goal

abbrev pub invariant-callers : goal.invariant-callers
invariant-callers g l = (c : Caller) → c.0 < l.caller → is_idle (state_of l.device.device.calls c) ≡ true
