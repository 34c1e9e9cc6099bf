-- The events of a drill name what there is, and hand in whole pages.
use Rattle.std.proofs.Common.{◌≡◌, ℕ, zero, suc, ◌+◌, ◌%◌, ◌/◌, ◌==◌, ◌<◌, Bool, true, false, cond, leb, List, [], ◌∷◌, ◌++◌, refl, ap, ◌∙◌, subst, arith, Option, None, Some}
use Rattle.std.proofs.lemmas.List.{length-replicate}
use Rattle.rand_pcg.specs.Lcg.{Lcg}
use Rattle.rand_pcg.specs.Pcg.{pcg32}
use Rattle.swap_base.specs.declared.Caller.{Caller}
use Rattle.swap_base.specs.declared.Page.{Page}
use Rattle.swap_base.specs.declared.CallKind.{CallKind}
use Rattle.swap_base.specs.declared.CallKind.TheVariants as kind
use Rattle.swap_base.specs.Sizes.{Sizes, pages_of}
use Rattle.swap_wire.specs.Input.{Input}
use Rattle.swap_wire.specs.declared.Event.TheVariants as event
use Rattle.swap_wire.specs.Fabric.{FabricOf}
use Rattle.swap_disk.specs.Port.{writes_in, oldest_write_in}
use Rattle.swap_world.specs.World.{World, start, reach}
use Rattle.swap_world.specs.Runs.{IsInput}
use Rattle.swap_world.specs.Laws.{AreInputs}
use Rattle.swap_world.proofs.WorldInMemoryStaysSound.{starts_sound, reach_sound}
use Rattle.swap_trace.specs.declared.draws.Draw.{Draw}
use Rattle.swap_trace.specs.Draws.{draw_of, draws, generator_of}
use Rattle.swap_trace.specs.Laws.{DrawsAreInRange}
use Rattle.swap_drill.specs.Drill.{after, drill_start, drill_sizes, drill_lenders, connects, turn, turns, waits, call_event, call_page, plain_input, calling, following, step, steps, drill_events, all_heard, write_ends, oldest_write_ends, rounds_at, hosts_at, crashes_at, now_and_then, is_round_step, lender}
use Rattle.swap_drill.proofs.Afters.{after-append}
use Rattle.swap_drill.proofs.Writes.{oldest_within}

abbrev AreFine : List Input → Type 0
AreFine is = AreInputs drill_sizes drill_lenders is

fine-append : (xs ys : List Input) → AreFine xs → AreFine ys → AreFine (xs ++ ys)
fine-append [] ys h k = k
fine-append (x ∷ xs) ys h k = (h.0, fine-append xs ys h.1 k)

fine_if : (b : Bool) (xs : List Input) → AreFine xs → AreFine (cond b xs [])
fine_if true xs h = h
fine_if false xs h = tt

heard-fine : AreFine all_heard
heard-fine = ((omega arith, tt), ((omega arith, tt), ((omega arith, tt), ((omega arith, tt), ((omega arith, tt), ((omega arith, tt), tt))))))

connects-fine : AreFine connects
connects-fine = ((omega arith, tt), ((omega arith, tt), ((omega arith, tt), tt)))

turn-fine : (c : Caller) → c.0 < 4 → AreFine (turn c)
turn-fine c h = ((h, tt), fine-append all_heard (plain_input (event.Finish c) ∷ []) heard-fine ((h, tt), tt))

turns-fine : (n : ℕ) (c : Caller) (w : World) → c.0 < 4 → AreFine (turns n c w)
unfolding turns
turns-fine zero c w h = tt
turns-fine (suc n) c w h = fine_if (waits w c) _ (fine-append (turn c) (turns n c (after w (turn c))) (turn-fine c h) (turns-fine n c (after w (turn c)) h))

call-fine :
    (k : CallKind) (c : Caller) (p : Page) (byte : ℕ) → c.0 < 4 → p.0 < 1_024
    → IsInput drill_sizes 3 (record { event = call_event k c p; page = call_page k byte })
call-fine kind.PageOut c p byte hc hp = ((hc, hp), length-replicate 64 byte)
call-fine kind.PageIn c p byte hc hp = ((hc, hp), tt)

calling-fine : (draw : Draw) (w : World) → draw.caller.0 < 4 → draw.page.0 < 1_024 → AreFine (calling draw w)
unfolding calling
calling-fine draw w hc hp =
    fine-append (turns 4 draw.caller w) _ (turns-fine 4 draw.caller w hc) (call-fine draw.kind draw.caller draw.page draw.byte hc hp, ((tt, tt), tt))

seldom-fine : (i word : ℕ) → AreFine (now_and_then i word)
seldom-fine i word =
    fine-append (rounds_at i word) _ (fine_if (is_round_step i) (plain_input (event.Round word) ∷ []) ((tt, tt), tt))
    (fine-append (hosts_at i word) (crashes_at i)
    (fine_if (i % 500 == 499) (plain_input (event.Host (lender (i / 500 % 3)) (word % 12) word) ∷ []) ((omega arith, tt), tt))
    (fine_if (i % 10_000 == 9_999) (plain_input (event.Crash (lender (i / 10_000 % 3))) ∷ plain_input (event.Connect (lender (i / 10_000 % 3))) ∷ [])
    ((omega arith, tt), ((omega arith, tt), tt))))

-- a world of the drill: the write in flight that was started first is of a page that there is
ends-fine : (before : List Input) → AreFine before → AreFine (oldest_write_ends (after drill_start before).drive.disk.flights)
unfolding after drill_start
ends-fine before fine =
    let w : World = reach (start drill_sizes drill_lenders) before in
    let sound = reach_sound drill_sizes 3 (start drill_sizes drill_lenders) before fine (starts_sound drill_sizes drill_lenders (omega arith)) in
    let sizes : w.device.sizes ≡ drill_sizes = ap (λ (o : FabricOf). o.sizes) sound.agrees.is in
    let go : (o : Option Page) → oldest_write_in w.drive.disk.flights ≡ o → AreFine (write_ends o) =
    λ o is.
    ends o
    (λ p e.
    subst (λ (s : Sizes). p.0 < pages_of s) sizes
    (oldest_within true
    (pages_of w.device.sizes) w.device.sizes.callers w.device.queue w.device.calls w.drive.disk.flights p sound.agrees.fits.disk.agrees.expected
    (is ∙ e)))
    in
    fine_if (leb 4 (writes_in w.drive.disk.flights)) _ (go (oldest_write_in w.drive.disk.flights) refl)
  where
    ends : (o : Option Page) → ((p : Page) → o ≡ Some p → p.0 < 1_024) → AreFine (write_ends o)
    ends None within = tt
    ends (Some p) within = ((within p refl, tt), tt)

following-fine : (i : ℕ) (draw : Draw) (before : List Input) → AreFine before → AreFine (following i draw (after drill_start before))
unfolding following
following-fine i draw before fine =
    fine-append (oldest_write_ends (after drill_start before).drive.disk.flights) _ (ends-fine before fine)
    (fine-append all_heard _ heard-fine (seldom-fine i draw.word))

step-fine :
    (i : ℕ) (draw : Draw) (before : List Input) → draw.caller.0 < 4 → draw.page.0 < 1_024 → AreFine before → AreFine (step i draw (after drill_start before))
unfolding step
step-fine i draw before hc hp fine =
    let w : World = after drill_start before in
    let calls = calling-fine draw w hc hp in
    let follows = following-fine i draw (before ++ calling draw w) (fine-append before (calling draw w) fine calls) in
    fine-append (calling draw w) _ calls (subst (λ v. AreFine (following i draw v)) (after-append drill_start before (calling draw w)) follows)

steps-fine : DrawsAreInRange → (n i : ℕ) (g : Lcg) (before : List Input) → AreFine before → AreFine (steps i (draws n g) (after drill_start before))
unfolding steps
steps-fine range zero i g before fine = tt
steps-fine range (suc n) i g before fine =
    let w : World = after drill_start before in
    let draw : Draw = draw_of (pcg32 g).0 in
    let drawn = range (pcg32 g).0 in
    let one = step-fine i draw before drawn.0 drawn.1 fine in
    let rest = steps-fine range n (i + 1) (pcg32 g).1 (before ++ step i draw w) (fine-append before (step i draw w) fine one) in
    fine-append (step i draw w) _ one (subst (λ v. AreFine (steps (i + 1) (draws n (pcg32 g).1) v)) (after-append drill_start before (step i draw w)) rest)

pub events-fine : DrawsAreInRange → (number calls : ℕ) → AreInputs drill_sizes drill_lenders (drill_events number calls)
unfolding drill_events
events-fine range number calls = fine-append connects _ connects-fine (steps-fine range calls 0 (generator_of number) connects connects-fine)

pub reached : (is : List Input) → after drill_start is ≡ reach (start drill_sizes drill_lenders) is
unfolding after drill_start
reached is = refl
