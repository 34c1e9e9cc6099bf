use Rattle.std.proofs.Common.{min, subst, ap, ◌∙◌}
use Rattle.swap_evict.specs.Rounds.{Round, IsOpen, IsEvicted, slots_to_evict}
use Rattle.swap_evict.proofs.Bits.{open_from, evicted_from, none_ready, some_ready}
use Rattle.swap_evict.proofs.EvictRound.ready.Goals as goal

pub returns-then-self-ne0-clause-evicted : goal.returns-then-self-ne0-clause-evicted
returns-then-self-ne0-clause-evicted c =
    let bounds = c.self.invariant in
    let s = c.self.inside in
    let round : Round = record { asked = s.asked; count = s.count; answered = s.answered; gone = s.gone; values = s.values } in
    subst IsOpen c.self.view_is (open_from round bounds.0 bounds.1 bounds.2 c.if-self-ne0.true)

pub returns-clause-evicted : goal.returns-clause-evicted
returns-clause-evicted c =
    let bounds = c.self.invariant in
    let s = c.self.inside in
    let round : Round = record { asked = s.asked; count = s.count; answered = s.answered; gone = s.gone; values = s.values } in
    subst (λ r. IsEvicted r c.least.result) c.self.view_is
    (evicted_from round c.least.result c.min-count.result bounds.1 bounds.2 c.if-self-ne0.false
    (c.min-count.ensures ∙ ap (λ n. min c.self.inside.count n) c.slot_count.ensures) c.least.ensures.least)

pub returns-then-self-ne0-clause-value : goal.returns-then-self-ne0-clause-value
returns-then-self-ne0-clause-value c =
    let s = c.self.inside in
    let round : Round = record { asked = s.asked; count = s.count; answered = s.answered; gone = s.gone; values = s.values } in
    none_ready round c.if-self-ne0.true ∙ ap slots_to_evict c.self.view_is

pub returns-clause-value : goal.returns-clause-value
returns-clause-value c =
    let s = c.self.inside in
    let round : Round = record { asked = s.asked; count = s.count; answered = s.answered; gone = s.gone; values = s.values } in
    some_ready round c.least.result c.min-count.result c.if-self-ne0.false
    (c.min-count.ensures ∙ ap (λ n. min s.count n) c.slot_count.ensures) c.least.ensures.value
    ∙ ap slots_to_evict c.self.view_is
