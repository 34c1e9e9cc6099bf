use Rattle.std.proofs.Common.{◌≡◌, ◌≢◌, ℕ, ◌+◌, nat_lt, Bool, true, false, ap, sym, ◌∙◌, subst, arith, ⊎_elim, refl, ◌++◌, ◌∷◌, []}
use Rattle.std.proofs.lemmas.Bool.{cases_eq, lt-ltb, le-ltb, ltb-true, ltb-false}
use Rattle.swap_queue.specs.Queue.{one_if}
use Rattle.swap_queue.specs.Stored.{times_free, one_below}
use Rattle.swap_queue.proofs.StoredMoves.{times_push_here, times_push_other}
use Rattle.swap_queue.proofs.store.make_places.Goals as goal

below_same : (n i : ℕ) (b : Bool) → i ≢ n → nat_lt i n ≡ b → nat_lt i (n + 1) ≡ b
below_same n i true ne e = lt-ltb i (n + 1) (omega (arith, ltb-true i n e))
below_same n i false ne e = le-ltb i (n + 1) (omega (arith, ne, ltb-false i n e))

one_more : (n i : ℕ) → i ≢ n → one_below (n + 1) i ≡ one_below n i
one_more n i ne = ap one_if (below_same n i (nat_lt i n) ne refl)

pub loop-place-preserved : goal.loop-place-preserved
loop-place-preserved c = record {
  len = omega (arith, c.push_reserved.ensures.len, c.loop-place.invariant.len);
  room = omega (arith, c.push_reserved.ensures.capacity, c.loop-place.invariant.room);
  once = λ i.
      ap (λ l. times_free l i) c.push_reserved.ensures.items
      ∙ ⊎_elim
      (λ (e : i ≡ c.loop-place.place).
      subst (λ k. times_free (c.loop-place.free.items ++ c.loop-place.place ∷ []) k ≡ one_below (c.loop-place.place + 1) k) (sym e)
      (times_push_here c.loop-place.free.items c.loop-place.place
      ∙ ap (λ n. n + 1) (c.loop-place.invariant.once c.loop-place.place ∙ ap one_if (le-ltb c.loop-place.place c.loop-place.place (omega arith)))
      ∙ sym (ap one_if (lt-ltb c.loop-place.place (c.loop-place.place + 1) (omega arith)))))
      (λ (ne : i ≢ c.loop-place.place). times_push_other c.loop-place.free.items c.loop-place.place i ne ∙ c.loop-place.invariant.once i
      ∙ sym (one_more c.loop-place.place i ne))
      (cases_eq i c.loop-place.place);
}
