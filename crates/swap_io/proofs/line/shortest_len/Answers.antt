use Rattle.std.proofs.Common.{ap, ◌∙◌, take}
use Rattle.swap_io.proofs.Shortest.{piece_found, piece_none}
use Rattle.swap_io.proofs.line.shortest_len.Goals as goal

pub returns-in-Some-clause-piece : goal.returns-in-Some-clause-piece
returns-in-Some-clause-piece c =
    ap (λ n. take n c.args.page.now) c.min.ensures ∙ piece_found c.args.page.now c.first_period.result c.in-Some.len c.first_period.ensures c.in-Some.is

pub returns-in-None-clause-piece : goal.returns-in-None-clause-piece
returns-in-None-clause-piece c = piece_none c.args.page.now c.first_period.result c.first_period.ensures c.in-None.is
