use Rattle.std.proofs.Common.{◌≡◌, ℕ, ◌+◌, ◌-◌, List, ◌++◌, length, take, drop, arith, sym, ap, ◌∙◌, length-drop}
use Rattle.std.proofs.lemmas.List.{length-take, take-append-drop, drop-drop, take_rest}
use Rattle.std.proofs.KnownBytes.{Keeps-trans, append_known-moved}
use Rattle.swap_io.proofs.block.hand_on_from.Goals as goal

-- what is held is a front that is taken, and the rest
front_and_rest : (block : List ℕ) (place n : ℕ) → drop place block ≡ take n (take (length block - place) (drop place block)) ++ drop (place + n) block
front_and_rest block place n =
    sym (take-append-drop n (drop place block)) ∙ ap (λ r. take n r ++ drop n (drop place block)) (sym (take_rest block place))
    ∙ ap (λ r. take n (take (length block - place) (drop place block)) ++ r) (drop-drop n place block)

pub handing-preserved : goal.handing-preserved
handing-preserved g c = record {
  within = omega (arith, c.handing.invariant.within, simp (length-take, length-drop) at c.in-Ok.ensures.bound);
  kept =
      Keeps-trans _ _ _ c.handing.invariant.kept
      (append_known-moved _ _ (take c.in-Ok.count (take (length c.args.block.now - c.handing.place) (drop c.handing.place c.args.block.now)))
      (drop (c.handing.place + c.in-Ok.count) c.args.block.now) (drop c.handing.place c.args.block.now) c.in-Ok.ensures.bytes
      (front_and_rest c.args.block.now c.handing.place c.in-Ok.count));
  later = omega (arith, c.in-Ok.ensures.cause.later, c.handing.invariant.later);
}
