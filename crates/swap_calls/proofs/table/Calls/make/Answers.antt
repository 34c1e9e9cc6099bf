use Rattle.std.proofs.Common.{◌≡◌, arith, refl}
use Rattle.swap_calls.proofs.InMemory.{idle_in}
use Rattle.swap_calls.proofs.table.Calls.make.Goals as goal

pub returns : goal.returns
returns c =
    let all : c.callers.counter ≡ c.args.geometry.now.callers = omega arith in
    rw (c.callers.invariant.items, idle_in, all, c.page_bytes-page_bytes.ensures) refl
