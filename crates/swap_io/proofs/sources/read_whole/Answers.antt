use Rattle.std.proofs.Common.{◌++◌, take, arith}
use Rattle.std.proofs.lemmas.List.{length-append}
use Rattle.std.proofs.KnownBytes.{Consumes-trans}
use Rattle.swap_io.proofs.sources.read_whole.Goals as goal

pub returns-then-is_err-clause-no_memory : goal.returns-then-is_err-clause-no_memory
returns-then-is_err-clause-no_memory g c _ =
    let more = c.in-Ok.ensures.bound in
    let whole = length-append c.reading.bytes.items (take c.in-Ok.n c.read.new.buf) in (
      c.reading.bytes.items ++ take c.in-Ok.n c.read.new.buf,
      Consumes-trans (g.S.Source.left c.args.source.now) (g.S.Source.left c.reading.source) (g.S.Source.left c.read.new.self) c.reading.bytes.items
          (take c.in-Ok.n c.read.new.buf) c.reading.invariant.0 c.in-Ok.ensures.bytes.0,
      omega (arith, whole, more.1, c.if-n-eq0.false),
      omega (arith, whole, more.0, more.1, c.reading-test.true, c.len.ensures, c.read.auto.buf),
    )
