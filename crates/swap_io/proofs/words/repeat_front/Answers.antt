use Rattle.std.proofs.Common.{◌≡◌, ◌+◌, ◌-◌, ◌%◌, ◌<◌, inl, inr, length, get_or, ap, sym, ◌∙◌, arith}
use Rattle.std.proofs.lemmas.Bool.{cases_lt}
use Rattle.std.proofs.Math.Nat.{mod-eq_of_lt, mul-add-mod_self_right}
use Rattle.swap_io.proofs.words.repeat_front.Goals as goal

pub filling-init : goal.filling-init
filling-init c = record {
  some = omega arith;
  within = c.requires.within;
  pieces = inr (1, omega arith);
  front = λ k below. ap (λ j. get_or c.args.page.now j 0) (sym (mod-eq_of_lt below));
}

pub filling-preserved : goal.filling-preserved
filling-preserved c =
    let len = c.args.len in
    let done = c.filling.done in
    let filled = c.double-done.ensures.filled in
    record {
      some = omega (arith, c.filling.invariant.some, filled, c.filling-test.true);
      within = omega (arith, filled, c.double-done.auto.page);
      pieces = elim c.filling.invariant.pieces [
        | inl whole ↦ absurd (omega (arith, whole, c.filling-test.true))
        | inr multiple ↦
            elim (cases_lt (length c.filling.page) (done + done)) [
              | inl past ↦ inl (omega (arith, filled, past, c.double-done.auto.page))
              | inr room ↦ inr (multiple.0 + multiple.0, omega (arith, filled, room, multiple.1))
            ]
      ];
      front = λ k below.
          elim (cases_lt k done) [
            | inl old ↦ c.double-done.ensures.front k old ∙ c.filling.invariant.front k old
            | inr new ↦
                elim c.filling.invariant.pieces [
                  | inl whole ↦ absurd (omega (arith, whole, c.filling-test.true))
                  | inr multiple ↦
                      let at : done + (k - done) ≡ k = omega (arith, new) in
                      let copied : k - done < c.double-done.result - done = omega (arith, new, below) in
                      let front : k - done < done = omega (arith, filled, copied) in
                      let residue : (k - done) % len ≡ k % len =
                      sym (mul-add-mod_self_right multiple.0 len (k - done)) ∙ ap (λ n. (n + (k - done)) % len) (sym multiple.1) ∙ ap (λ n. n % len) at in
                      ap (λ n. get_or c.double-done.new.page n 0) (sym at) ∙ c.double-done.ensures.copied (k - done) copied
                      ∙ c.filling.invariant.front (k - done) front
                      ∙ ap (λ n. get_or c.args.page.now n 0) residue
                ]
          ];
    }
