-- A caller's turns, one by one.
use Rattle.std.proofs.Common.{◌≡◌, ℕ, zero, suc, true, false, cond, [], ◌++◌, refl, sym, ap, ◌∙◌}
use Rattle.swap_base.specs.declared.Caller.{Caller}
use Rattle.swap_world.specs.World.{World}
use Rattle.swap_drill.specs.Drill.{after, turn, turns, waits}
use Rattle.swap_drill.proofs.Afters.{after-append, after-nil}

pub turns-suc : (n : ℕ) (c : Caller) (w : World) → waits w c ≡ true → turns (suc n) c w ≡ turn c ++ turns n c (after w (turn c))
unfolding turns
turns-suc n c w is = ap (λ b. cond b (turn c ++ turns n c (after w (turn c))) []) is

-- one turn more
pub turn_more :
    (n m : ℕ) (c : Caller) (w w' target : World) → n ≡ suc m → waits w c ≡ true → w' ≡ after w (turn c) → after w (turns n c w) ≡ target
    → after w' (turns m c w') ≡ target
turn_more n m c w w' target more is went whole =
    ap (λ v. after v (turns m c v)) went
    ∙ sym (ap (λ k. after w (turns k c w)) more ∙ ap (λ l. after w l) (turns-suc m c w is) ∙ after-append w (turn c) (turns m c (after w (turn c))))
    ∙ whole

-- no turn where the caller doesn't wait, or none is left
pub turns-idle : (n : ℕ) (c : Caller) (w : World) → waits w c ≡ false → turns n c w ≡ []
unfolding turns
turns-idle zero c w is = refl
turns-idle (suc n) c w is = ap (λ b. cond b (turn c ++ turns n c (after w (turn c))) []) is

pub turns-none : (n : ℕ) (c : Caller) (w : World) → n ≡ 0 → turns n c w ≡ []
unfolding turns
turns-none n c w e = ap (λ k. turns k c w) e

pub turns_over : (n : ℕ) (c : Caller) (w target : World) → turns n c w ≡ [] → after w (turns n c w) ≡ target → w ≡ target
turns_over n c w target none whole = sym (after-nil w) ∙ ap (λ l. after w l) (sym none) ∙ whole
