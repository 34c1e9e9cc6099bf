use Rattle.std.proofs.Common.{arith, ◌≡◌, ◌<◌, ◌+◌, ◌⊎◌, ℕ, suc, Some, length, add-one, inl, inr, refl, ◌∙◌, ap}
use Rattle.std.proofs.lemmas.Bool.{cases_lt}
use Rattle.swap_record.proofs.Judged.{has_put}
use Rattle.swap_record.proofs.record.Record.judge.Goals as goal

-- one more number below a bound
below : (k n : ℕ) → k < suc n → (k < n) ⊎ (k ≡ n)
below k n lt = elim (cases_lt k n) [ inl less ↦ inl less | inr not ↦ inr (omega arith) ]

pub loop-n-preserved : goal.loop-n-preserved
loop-n-preserved c =
    let within : c.loop-n.n < length c.args.self.now.history = omega arith in
    let right = c.if-not-is_right.ensures.right refl in
    rw add-one (record {
      newest =
          has_put c.loop-n.newest.items c.put_newest.new.newest.items c.args.self.now.history c.loop-n.n c.entry-entry.result within c.entry-entry.ensures
          c.loop-n.invariant.newest c.in_ok-put_newest.ensures;
      legal = right.1;
      unmarked = λ k is lt. elim (below k c.loop-n.n lt) [
        | inl less ↦ c.loop-n.invariant.unmarked k is less
        | inr same ↦ right.0 (is ∙ ap (λ n. Some n) same)
      ];
    })
