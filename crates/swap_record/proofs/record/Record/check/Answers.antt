use Rattle.std.proofs.Common.{rules, ◌∙◌, ap, replicate, arith}
use Rattle.std.proofs.lemmas.List.{take-replicate}
use Rattle.swap_record.proofs.record.Record.check.Goals as goal

pub judge-requires : goal.judge-requires
judge-requires c =
    take-replicate c.page_bytes-size.result 4096 0 (omega (arith, c.page_bytes-size.ensures.bytes, c.page_bytes-size.ensures.within))
    ∙ ap (λ n. replicate n 0) c.page_bytes-size.ensures.bytes
