use Rattle.std.proofs.Common.{◌≡◌, ℕ, ◌+◌, ◌-◌, get_or, None, vec_len}
use Rattle.swap_record.proofs.judge.put_newest.Given as goal

abbrev pub invariant-growing : goal.invariant-growing
invariant-growing l = (p : ℕ) → get_or l.newest.items p None ≡ get_or l.fn.newest.items p None

abbrev pub decreases-growing : goal.decreases-growing
decreases-growing l = l.place + 1 - vec_len l.newest
