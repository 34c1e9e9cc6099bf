use Rattle.std.proofs.Common.{arith, ◌≡◌, ◌-◌, min, length, take, drop, sym, ap, ◌∙◌}
use Rattle.std.proofs.lemmas.List.{take_rest}
use Rattle.swap_io.proofs.Bytes.{given_front, given_none}
use Rattle.swap_io.proofs.memory.MemSourceSource.read.Goals as goal

pub returns-clause-bytes : goal.returns-clause-bytes
returns-clause-bytes c =
    let s = c.self.inside in
    let bytes = s.bytes.items in
    let left : take (length c.deref-2.result.now - s.at) (drop s.at c.deref-2.result.now) ≡ drop s.at bytes =
    take_rest c.deref-2.result.now s.at ∙ ap (λ xs. drop s.at xs) c.deref-2.ensures.value in
    let n_is : c.min-n.result ≡ min (length (drop s.at bytes)) (length c.args.buf.now) =
    c.min-n.ensures ∙ ap (λ xs. min (length xs) (length c.args.buf.now)) left in (
      ap (λ v. v.left) (sym c.self.view_is)
          ∙ given_front bytes _ _ s.at c.min-n.result (omega arith) (c.copy_from_slice.ensures.after ∙ ap (λ xs. take c.min-n.result xs) left),
      λ none _. given_none bytes s.at c.min-n.result (length c.args.buf.now) n_is c.requires none,
    )
