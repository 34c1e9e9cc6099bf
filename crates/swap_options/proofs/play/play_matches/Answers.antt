use Rattle.std.proofs.Common.{◌∙◌, sym, map}
use Rattle.std.proofs.lemmas.Result.{IfOk-weaker, IfErr-weaker}
use Rattle.clap.specs.Words.{app_of}
use Rattle.swap_options.proofs.Reading.{play-may, play-faults-are, play-rows-are, play-refuses}
use Rattle.swap_options.proofs.play.play_matches.Goals as goal

pub parsed-requires-clause-simple : goal.parsed-requires-clause-simple
parsed-requires-clause-simple c = (play-may (app_of c.in-Ok.command) c.in-Ok.ensures).0

pub parsed-requires-clause-free : goal.parsed-requires-clause-free
parsed-requires-clause-free c = (play-may (app_of c.in-Ok.command) c.in-Ok.ensures).1

pub returns-in-Ok-clause-faultless : goal.returns-in-Ok-clause-faultless
returns-in-Ok-clause-faultless c =
    IfOk-weaker c.parsed.result _ _
    (λ m h. sym (play-faults-are (app_of c.in-Ok.command) (map (λ w. w.now) c.args.words.now) c.in-Ok.ensures) ∙ h) c.parsed.ensures.faultless

pub returns-in-Ok-clause-matches : goal.returns-in-Ok-clause-matches
returns-in-Ok-clause-matches c =
    IfOk-weaker c.parsed.result _ _
    (λ m h. h ∙ play-rows-are (app_of c.in-Ok.command) (map (λ w. w.now) c.args.words.now) c.in-Ok.ensures) c.parsed.ensures.matches

pub returns-in-Ok-clause-usage : goal.returns-in-Ok-clause-usage
returns-in-Ok-clause-usage c =
    IfErr-weaker c.parsed.result _ _
    (λ why h is. play-refuses (app_of c.in-Ok.command) (map (λ w. w.now) c.args.words.now) c.in-Ok.ensures (h is)) c.parsed.ensures.usage
