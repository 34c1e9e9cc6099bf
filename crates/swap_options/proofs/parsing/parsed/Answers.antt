use Rattle.std.proofs.Common.{◌∙◌, map}
use Rattle.clap.specs.Words.{app_of, fault_of, kind_of}
use Rattle.swap_options.proofs.Reading.{at-fault}
use Rattle.swap_options.proofs.parsing.parsed.Goals as goal

pub returns : goal.returns
returns c = record {
  faultless = tt;
  matches = tt;
  usage =
      λ _.
      at-fault (kind_of c.in-Err.error) (fault_of (app_of c.args.command) (map (λ w. w.now) c.args.words.now))
      (λ x. c.in_default.not-OutOfMemory (c.kind.ensures ∙ x)) (c.in-Err.ensures.kinds c.requires.free);
}
