use Rattle.std.proofs.Common.{◌≡◌, ◌≤◌, ◌<◌, ◌+◌, ◌*◌, ◌∙◌, arith, rules}
use Rattle.swap_world.proofs.RoundsKeepPlans.{lender_heard}
use Rattle.swap_world.proofs.rounds.hear_all.Goals as goal

pub each-preserved : goal.each-preserved
each-preserved g c = record {
  heard =
      lender_heard g.D.DiskPort.moves g.F.Fabric.moves c.args.times c.args.lenders c.each.number c.args.device.now c.each.device c.give_all-effects.new.device
      c.take_all-effects.new.device c.each.effects c.give_all-effects.result c.take_all-effects.result c.each.invariant.heard c.give_all-effects.ensures.goes
      c.take_all-effects.ensures.goes;
  room = c.take_all-effects.ensures.room ∙ c.give_all-effects.ensures.room ∙ c.each.invariant.room;
  of = c.take_all-effects.ensures.of ∙ c.give_all-effects.ensures.of ∙ c.each.invariant.of;
  most =
      let a = c.take_all-effects.ensures.most in let b = c.give_all-effects.ensures.most in let i = c.each.invariant.most in let t = c.requires.times in
      omega (arith, a, b, i, t);
}

pub returns-clause-goes : goal.returns-clause-goes
returns-clause-goes g c = λ rest. c.each.invariant.heard rest 0 (omega arith)
