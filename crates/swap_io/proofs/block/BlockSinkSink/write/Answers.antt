use Rattle.std.proofs.Common.{◌≡◌, ℕ, List, ◌++◌, take, drop, arith, rules, refl, sym, ap, ◌∙◌, subst, Option, None, Some}
use Rattle.std.proofs.lemmas.List.{drop-append-le}
use Rattle.std.specs.Io.KnownBytes.{Keeps, append_known}
use Rattle.std.proofs.KnownBytes.{append_known-grown}
use Rattle.swap_io.specs.Gathered.{Gathered, gathered_bytes}
use Rattle.swap_io.proofs.block.BlockSinkSink.write.Goals.{then-len-bytes+in_ok-hand_on, else-len-bytes}
use Rattle.swap_io.proofs.block.BlockSinkSink.write.Goals as goal

keeps_itself : (a : Option (List ℕ)) → Keeps a a
keeps_itself None = tt
keeps_itself (Some x) = refl

pub returns-clause-bytes : goal.returns-clause-bytes
returns-clause-bytes g c =
    let kept : Keeps (gathered_bytes c.args.self.now) (gathered_bytes c.if-len-bytes.self) =
    elim c.if-len-bytes.branch [
      | then-len-bytes+in_ok-hand_on w ↦ subst (λ (s : Gathered). Keeps (gathered_bytes c.args.self.now) (gathered_bytes s)) (sym w.self-is)
          w.in_ok-hand_on.ensures.kept
      | else-len-bytes w ↦ subst (λ (s : Gathered). Keeps (gathered_bytes c.args.self.now) (gathered_bytes s)) (sym w.self-is)
          (keeps_itself (gathered_bytes c.args.self.now))
    ] in
    let before : Keeps (gathered_bytes c.args.self.now) (append_known (g.K.Sink.taken c.self-2.inside.sink)
    (drop c.self-2.inside.at c.self-2.inside.block.items)) =
    subst (λ (s : Gathered). Keeps (gathered_bytes c.args.self.now) (gathered_bytes s)) (sym c.self-2.view_is) kept in
    let pushed : c.extend_from_slice.new.self.items ≡ c.self-2.inside.block.items ++ take c.min-count.result c.args.bytes.now = search rules in
    append_known-grown (gathered_bytes c.args.self.now) (g.K.Sink.taken c.self-2.inside.sink) (drop c.self-2.inside.at c.self-2.inside.block.items)
    (drop c.self-2.inside.at c.extend_from_slice.new.self.items) (take c.min-count.result c.args.bytes.now) before
    (ap (λ l. drop c.self-2.inside.at l) pushed
    ∙ drop-append-le c.self-2.inside.at c.self-2.inside.block.items (take c.min-count.result c.args.bytes.now)
    (omega (arith, c.self-2.invariant.0, c.self-2.inside.block.ok)))
