-- Of any calls with no Round between them there are few.
use Rattle.std.proofs.Common.{◌≡◌, ◌+◌, ◌≤◌, ℕ, suc, List, [], ◌∷◌, ◌++◌, refl, ap, ◌∙◌, arith}
use Rattle.rand_pcg.specs.Lcg.{Lcg}
use Rattle.swap_wire.specs.declared.Event.{Event}
use Rattle.swap_wire.specs.declared.Event.TheVariants as event
use Rattle.swap_board.specs.Acts.{Act, Made, Polled, AreMade, AreNoRounds, IsNoRound, calls_in, calls_after, calls_since, since_after}
use Rattle.swap_board.specs.Laws.{RoundsBetween}
use Rattle.swap_board.proofs.Acts.{few_since}

after_no_round : (e : Event) (n : ℕ) → IsNoRound e → since_after e n ≡ calls_after e n
after_no_round (event.Round word) n none = absurd none
after_no_round (event.PageOut c p) n none = refl
after_no_round (event.PageIn c p) n none = refl
after_no_round (event.Finish c) n none = refl
after_no_round event.Start n none = refl
after_no_round (event.Disk which ok) n none = refl
after_no_round (event.Tick word) n none = refl
after_no_round (event.Map s l) n none = refl
after_no_round (event.Connect l) n none = refl
after_no_round (event.Give l) n none = refl
after_no_round (event.Take l) n none = refl
after_no_round (event.Cut l a b) n none = refl
after_no_round (event.Crash l) n none = refl
after_no_round (event.Host l used word) n none = refl

calls-step : (e : Event) (n m k : ℕ) → n ≡ m + k → calls_after e n ≡ calls_after e m + k
calls-step (event.Round word) n m k is = is
calls-step (event.PageOut c p) n m k is = omega (arith, is)
calls-step (event.PageIn c p) n m k is = omega (arith, is)
calls-step (event.Finish c) n m k is = is
calls-step event.Start n m k is = is
calls-step (event.Disk which ok) n m k is = is
calls-step (event.Tick word) n m k is = is
calls-step (event.Map s l) n m k is = is
calls-step (event.Connect l) n m k is = is
calls-step (event.Give l) n m k is = is
calls-step (event.Take l) n m k is = is
calls-step (event.Cut l a b) n m k is = is
calls-step (event.Crash l) n m k is = is
calls-step (event.Host l used word) n m k is = is

since_without : (between before : List Act) → AreNoRounds between → calls_since (between ++ before) ≡ calls_in between + calls_since before
since_without [] before none = omega arith
since_without (Made by i s ∷ between) before none =
    after_no_round i.event (calls_since (between ++ before)) none.0
    ∙ calls-step i.event (calls_since (between ++ before)) (calls_in between) (calls_since before) (since_without between before none.1)
since_without (Polled step ∷ between) before none = since_without between before none

made_earlier : (seed : Lcg) (after before : List Act) → AreMade seed (after ++ before) → AreMade seed before
made_earlier seed [] before are = are
made_earlier seed (Made by i s ∷ after) before are = made_earlier seed after before are.2
made_earlier seed (Polled step ∷ after) before are = made_earlier seed after before are

pub rounds_between : RoundsBetween
rounds_between seed before between after are none =
    let few = few_since seed (between ++ before) (made_earlier seed after (between ++ before) are) in
    omega (arith, few, since_without between before none)
