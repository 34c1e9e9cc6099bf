-- By computation.
use Rattle.std.proofs.Common.{refl}
use Rattle.std.specs.Fmt.{digits}
use Rattle.clap.proofs.OnLiterals.{clap_on_literals}
use Rattle.swap_options.specs.Lend.{lend_faults, lend_rows}
use Rattle.swap_options.specs.Play.{play_faults, play_rows}
use Rattle.swap_options.proofs.rows.Goals as goal

pub returns : goal.returns
unfolding digits clap_on_literals lend_faults lend_rows play_faults play_rows
returns c = record {
  lend = (refl, refl, refl, refl, refl, refl, refl, refl, refl, refl, refl);
  play = (refl, refl, refl, refl, refl, refl, refl, refl, refl, refl, refl);
}
