-- By computation.
use Rattle.std.proofs.Common.{refl}
use Rattle.rand_core.specs.Pcg32Seed.{pcg32_seed}
use Rattle.rand_core.specs.Steps.{u32_at, word_bytes}
use Rattle.swap_trace.proofs.rows.Goals as goal

pub returns : goal.returns
unfolding u32_at pcg32_seed word_bytes
returns c = record { draws = (refl, refl, refl, refl, refl, refl) }
