-- By computation.
use Rattle.std.proofs.Common.{refl}
use Rattle.rand_core.specs.Pcg32Seed.{pcg32_seed}
use Rattle.rand_core.specs.Steps.{u32_at, word_bytes}
use Rattle.swap_drill.specs.Drill.{after, calling, drill_events, drill_start, following, step, steps, turns}
use Rattle.swap_drill.specs.Summary.{told}
use Rattle.swap_drill.proofs.rows.Goals as goal

pub returns : goal.returns
unfolding u32_at pcg32_seed word_bytes after calling drill_events drill_start following step steps turns told
returns c = record { drills = (refl, refl, refl) }
