-- A drill from its first step to its last.
use Rattle.std.proofs.Common.{◌≡◌, ℕ, suc, ◌+◌, ◌≤◌, Bool, true, false, List, [], ◌∷◌, ◌++◌, refl, sym, ap, ◌∙◌, subst, arith}
use mir.Val.{bool_byte}
use Rattle.rand_pcg.specs.Lcg.{Lcg}
use Rattle.rand_pcg.specs.Pcg.{pcg32}
use Rattle.swap_wire.specs.Input.{Input}
use Rattle.swap_base.proofs.Lists.{one_if}
use Rattle.swap_world.specs.World.{World}
use Rattle.swap_trace.specs.declared.draws.Draw.{Draw}
use Rattle.swap_trace.specs.Draws.{draw_of, draws, generator_of}
use Rattle.swap_drill.specs.Drill.{after, connects, drill_start, drill_events, drill_world, is_round_step, seen_of_call, step, steps}
use Rattle.swap_drill.specs.Summary.{told, is_busy, busy_in, rounds_in, busy_of, rounds_of, IsUnderWay}
use Rattle.swap_drill.proofs.Afters.{after-append, after-nil}
use Rattle.swap_drill.proofs.Counts.{told-nil, busy-append, rounds-append, busy-others, rounds-others, step-busy, step-rounds}

steps-nil : (i : ℕ) (w : World) → steps i [] w ≡ []
unfolding steps
steps-nil i w = refl

steps-cons : (i : ℕ) (draw : Draw) (later : List Draw) (w : World) → steps i (draw ∷ later) w ≡ step i draw w ++ steps (i + 1) later (after w (step i draw w))
unfolding steps
steps-cons i draw later w = refl

events-are : (number calls : ℕ) → drill_events number calls ≡ connects ++ steps 0 (draws calls (generator_of number)) (after drill_start connects)
unfolding drill_events
events-are number calls = refl

-- after the links were made
pub first_step :
    (number calls : ℕ) (left : List Draw) (w : World) → left ≡ draws calls (generator_of number) → w ≡ after drill_start connects
    → IsUnderWay number calls 0 left w 0 0
first_step number calls left w drawn start =
    let v : World = after drill_start connects in
    let rest : List Input = steps 0 (draws calls (generator_of number)) v in
    let all : drill_events number calls ≡ connects ++ rest = events-are number calls in
    let b = busy-append drill_start connects rest in
    let b0 = busy-others drill_start connects ((refl, refl), ((refl, refl), ((refl, refl), tt))) in
    let b1 = ap (λ l. busy_in (told drill_start l)) all in
    let r = rounds-append connects rest in
    let r0 = rounds-others connects ((refl, refl), ((refl, refl), ((refl, refl), tt))) in
    let r1 = ap rounds_in all in
    subst (λ l. IsUnderWay number calls 0 l w 0 0) (sym drawn)
    (subst (λ x. IsUnderWay number calls 0 (draws calls (generator_of number)) x 0 0) (sym start)
    (record {
      world = sym (ap (λ l. after drill_start l) all ∙ after-append drill_start connects rest);
      refused = omega (arith, b, b0, b1);
      made = omega (arith, r, r0, r1);
    }))

-- one step more
pub next_step :
    (number calls i : ℕ) (draw : Draw) (later : List Draw) (w w' : World) (b r b' r' : ℕ) → IsUnderWay number calls i (draw ∷ later) w b r
    → w' ≡ after w (step i draw w)
    → b' ≡ b + one_if (is_busy (seen_of_call draw w)) → r' ≡ r + one_if (is_round_step i) → IsUnderWay number calls (i + 1) later w' b' r'
next_step number calls i draw later w w' b r b' r' way went busy rounds =
    let v : World = after w (step i draw w) in
    let rest : List Input = steps (i + 1) later v in
    let all : steps i (draw ∷ later) w ≡ step i draw w ++ rest = steps-cons i draw later w in
    let x = busy-append w (step i draw w) rest in
    let x0 = step-busy i draw w in
    let x1 = ap (λ l. busy_in (told w l)) all in
    let y = rounds-append (step i draw w) rest in
    let y0 = step-rounds i draw w in
    let y1 = ap rounds_in all in
    subst (λ u. IsUnderWay number calls (i + 1) later u b' r') (sym went)
    (record {
      world = sym (ap (λ l. after w l) all ∙ after-append w (step i draw w) rest) ∙ way.world;
      refused = omega (arith, busy, x, x0, x1, way.refused);
      made = omega (arith, rounds, y, y0, y1, way.made);
    })

-- no step is left
pub last_world : (number calls i : ℕ) (left : List Draw) (w : World) (b r : ℕ) → left ≡ [] → IsUnderWay number calls i left w b r → w ≡ drill_world number calls
last_world number calls i left w b r none way = sym (after-nil w) ∙ ap (λ l. after w l) (sym (ap (λ ds. steps i ds w) none ∙ steps-nil i w)) ∙ way.world

pub last_busy : (number calls i : ℕ) (left : List Draw) (w : World) (b r : ℕ) → left ≡ [] → IsUnderWay number calls i left w b r → b ≡ busy_of number calls
last_busy number calls i left w b r none way =
    let nothing : busy_in (told w (steps i left w)) ≡ 0 =
    ap (λ l. busy_in (told w l)) (ap (λ ds. steps i ds w) none ∙ steps-nil i w) ∙ ap busy_in (told-nil w) in
    omega (arith, nothing, way.refused)

pub last_rounds : (number calls i : ℕ) (left : List Draw) (w : World) (b r : ℕ) → left ≡ [] → IsUnderWay number calls i left w b r → r ≡ rounds_of number calls
last_rounds number calls i left w b r none way =
    let nothing : rounds_in (steps i left w) ≡ 0 = ap rounds_in (ap (λ ds. steps i ds w) none ∙ steps-nil i w) in
    omega (arith, nothing, way.made)

-- the draws that are left
pub draws-more : (n m : ℕ) (g : Lcg) → n ≡ suc m → draws n g ≡ draw_of (pcg32 g).0 ∷ draws m (pcg32 g).1
draws-more n m g e = ap (λ k. draws k g) e

pub draws-none : (n : ℕ) (g : Lcg) → n ≡ 0 → draws n g ≡ []
draws-none n g e = ap (λ k. draws k g) e

-- a truth value as a number
pub byte_is : (b : Bool) → (bool_byte b ≡ one_if b) × (bool_byte b ≤ 1)
byte_is true = (refl, omega arith)
byte_is false = (refl, omega arith)
