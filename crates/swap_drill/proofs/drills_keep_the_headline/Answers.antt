use Rattle.std.proofs.Common.{List, sym, subst, arith}
use Rattle.swap_base.specs.declared.Caller.{Caller}
use Rattle.swap_base.specs.Sizes.{zeros}
use Rattle.swap_wire.specs.Input.{Input}
use Rattle.swap_record.specs.History.{IsLegal}
use Rattle.swap_world.specs.World.{World, history}
use Rattle.swap_world.specs.Answered.{AreAnsweredOnce}
use Rattle.swap_world.specs.Failures.{HoldsEntriesSeen}
use Rattle.swap_world.specs.Laws.{Agrees}
use Rattle.swap_drill.specs.Laws.{drill_made}
use Rattle.swap_drill.specs.Drill.{drill_sizes, drill_lenders, drill_events}
use Rattle.swap_drill.proofs.Inputs.{events-fine, reached}
use Rattle.swap_drill.proofs.drills_keep_the_headline.Goals as goal

pub returns : goal.returns
returns c = λ number calls.
    let is : List Input = drill_events number calls in
    let fine = events-fine c.draws_are_in_range.ensures number calls in
    let there = sym (reached is) in
    record {
      reached = reached is;
      inputs = fine;
      legal = subst (λ (w : World). IsLegal (zeros drill_sizes) (history w)) there (c.always_legal.ensures drill_sizes drill_lenders is (omega arith) fine);
      once =
          λ (caller : Caller) within.
          subst (λ (w : World). AreAnsweredOnce caller (drill_made number calls) w.device) there
          (c.each_call_once.ensures drill_sizes drill_lenders is caller within (omega arith) fine);
      entries =
          subst (λ (w : World). HoldsEntriesSeen (drill_made number calls) (history w)) there
          (c.entries_are_seen.ensures drill_sizes drill_lenders is (omega arith) fine);
      agrees = subst (λ (w : World). Agrees w) there (c.always_agrees.ensures drill_sizes drill_lenders is (omega arith) fine);
      lent = λ n. c.always_lent.ensures drill_sizes drill_lenders is n (omega arith) fine;
    }
