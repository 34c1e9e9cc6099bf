use Rattle.std.proofs.Common.{ap, refl}
use Rattle.swap_record.specs.RecordView.{RecordView}
use Rattle.swap_turn.proofs.Growing.{extends_none, extends_one}
use Rattle.swap_parts_tests.proofs.tests.turn.Log.page_out.Goals as goal

pub returns : goal.returns
returns c =
    rw (ap (λ (b : RecordView). b.history) c.push_out.ensures.after, ap (λ (b : RecordView). b.history) c.in_ok-reserve.ensures.ok)
    (extends_one c.args.caller c.args.self.now.record.history _ refl)

pub returns-in_err-reserve : goal.returns-in_err-reserve
returns-in_err-reserve c = rw (ap (λ (b : RecordView). b.history) c.in_err-reserve.ensures.err) (extends_none c.args.caller c.args.self.now.record.history)
