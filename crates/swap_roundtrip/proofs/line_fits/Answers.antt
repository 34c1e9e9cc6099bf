use Rattle.std.proofs.Common.{◌≡◌, ◌⊎◌, inl, inr, ap, sym, ◌∙◌, Option, Some}
use Rattle.swap_base.specs.declared.EntryNo.{EntryNo}
use Rattle.swap_base.specs.declared.Lender.{Lender}
use Rattle.swap_record.specs.History.{row_named}
use Rattle.swap_wire.specs.declared.Seen.{Seen}
use Rattle.swap_wire.specs.declared.Seen.TheVariants as seen
use Rattle.swap_world.specs.Runs.{entry_seen}
use Rattle.swap_roundtrip.proofs.line_fits.Goals as goal

same : (x : Seen) (e n : EntryNo) → ((to : Option Lender) × (x ≡ seen.Done e to)) ⊎ (x ≡ seen.Fault e) → entry_seen x ≡ Some n → n ≡ e
same x e n (inl done) of = let both : Some n ≡ Some e = sym of ∙ ap entry_seen done.1 in cc
same x e n (inr fault) of = let both : Some n ≡ Some e = sym of ∙ ap entry_seen fault in cc

pub returns-in-Done : goal.returns-in-Done
returns-in-Done c = record {
  event = c.event_numbers.ensures;
  seen = c.seen_numbers.ensures;
  entry =
      λ n row of at. c.row_fits.ensures row
      (ap (λ (e : EntryNo). row_named c.args.history.now.history e.0) (sym (same c.args.seen c.in-Done.entry n c.in-Done.is of)) ∙ at);
}
