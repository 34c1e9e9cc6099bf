use Rattle.std.proofs.Common.{rules, tests}
use Rattle.std.proofs.lemmas.Iterator.{YieldsList-from_slice}
use Rattle.std.proofs.lemmas.Iterator.Search.{all_from_yields_List}
use Rattle.swap_io.specs.Words.{is_hex_digit}
use Rattle.swap_io.proofs.Pieces.{is_some-piece_of}
use Rattle.swap_io.proofs.words.is_hex.Goals as goal
use Rattle.swap_io.proofs.words.is_hex.Goals.{then-not-is_empty, else-not-is_empty}

pub returns-then-word-eq0 : goal.returns-then-word-eq0
returns-then-word-eq0 c =
    let all =
    all_from_yields_List is_hex_digit _ _ c.all.result c.all.ensures.ran (YieldsList-from_slice c.args.word.now cc) (λ x b q k. search (rules, tests)) in
    elim c.if-not-is_empty.branch
    [ then-not-is_empty w ↦ is_some-piece_of c.args.word.now c.all.result all (search rules) (search rules) | else-not-is_empty w ↦ search rules ]
