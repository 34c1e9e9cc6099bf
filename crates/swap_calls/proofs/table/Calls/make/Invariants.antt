use Rattle.std.proofs.Common.{◌≡◌, ◌≤◌, replicate, vec_len, vec_capacity}
use Rattle.swap_calls.specs.declared.CallState.TheVariants.{Idle}
use Rattle.swap_calls.proofs.table.Calls.make.Given as goal

abbrev pub invariant-callers : goal.invariant-callers
invariant-callers l = record {
  items : l.calls.items ≡ replicate l.counter (record { state = Idle; page = replicate l.page_bytes 0 });
  len : vec_len l.calls ≡ l.counter;
  room : l.callers ≤ vec_capacity l.calls;
}
