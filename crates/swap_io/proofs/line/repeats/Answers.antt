use Rattle.std.proofs.Common.{rules, arith, ap, ◌∙◌, inl, inr, ◌-◌, length, take}
use Rattle.std.specs.Str.{bytes_eq}
use Rattle.std.proofs.lemmas.List.{take_rest}
use Rattle.swap_io.proofs.Periods.{repeats_whole, repeats_not, repeats_shift}
use Rattle.swap_io.proofs.line.repeats.Goals as goal
use Rattle.swap_io.proofs.line.repeats.Goals.{then-len-eq0-via-then-len-eq0, then-len-eq0-via-else-len-eq0+then-page-len-ne0}

pub returns-then-len-page : goal.returns-then-len-page
returns-then-len-page c = repeats_whole c.args.page.now c.args.len (search rules)

pub returns-then-len-eq0 : goal.returns-then-len-eq0
returns-then-len-eq0 c =
    elim c.then-len-eq0.branch [
      | then-len-eq0-via-then-len-eq0 w ↦ repeats_not c.args.page.now c.args.len (search rules) (inl (search rules))
      | then-len-eq0-via-else-len-eq0+then-page-len-ne0 w ↦ repeats_not c.args.page.now c.args.len (search rules) (inr (search rules))
    ]

pub returns : goal.returns
returns c =
    let page = c.args.page.now in
    c.eq.ensures ∙ ap (λ rest. bytes_eq rest (take (length page - c.args.len) page)) (take_rest page c.args.len)
    ∙ repeats_shift c.args.page.now c.args.len (omega arith) (search rules) (search rules)
