-- Where the disk wasn't seen to fail, no entry tells a failure.
use Rattle.std.proofs.Common.{◌≡◌, false, ◌||◌, List, [], ◌∷◌, refl, ap, ◌∙◌, arith, Option, None, Some}
use Rattle.swap_base.specs.declared.Page.{Page}
use Rattle.swap_base.specs.declared.Caller.{Caller}
use Rattle.swap_base.specs.declared.EntryNo.{EntryNo}
use Rattle.swap_base.specs.declared.CallKind.TheVariants as kind
use Rattle.swap_wire.specs.Input.{Input}
use Rattle.swap_wire.specs.declared.Seen.{Seen}
use Rattle.swap_record.specs.declared.Op.{Op}
use Rattle.swap_record.specs.declared.Op.TheVariants as op
use Rattle.swap_record.specs.History.{Row}
use Rattle.swap_base.proofs.Lists.{count_by-cons}
use Rattle.swap_world.specs.Failures.{is_write_failed, is_read_failed, failed_writes_in, failed_reads_in, HasItsCause, HoldsEntry, HoldsEntriesSeen}
use Rattle.swap_world.specs.Runs.{entry_seen}
use Rattle.swap_run.specs.Run.{is_failed, has_failed}

not_failed :
    (c : Caller) (page : Page) (made : List (Input × Seen)) (H : List Row) (o : Op) → failed_writes_in made ≡ 0 → failed_reads_in made ≡ 0
    → HasItsCause c page made H o → is_failed o ≡ false
not_failed c page made H op.PageOut w r h = refl
not_failed c page made H (op.PageIn named from) w r h = refl
not_failed c page made H (op.Failed kind.PageOut since at) w r h = absurd (omega (arith, w, h.1, h.2))
not_failed c page made H (op.Failed kind.PageIn since at) w r h = absurd (omega (arith, r, h.0.1, h.0.2))

pub none_failed :
    (made : List (Input × Seen)) (H : List Row) → failed_writes_in made ≡ 0 → failed_reads_in made ≡ 0 → HoldsEntriesSeen made H → has_failed H ≡ false
none_failed [] H w r h = ap has_failed h
none_failed ((i, s) ∷ made) H w r h = go (λ H. none_failed made H w0 r0) (entry_seen s) H h
  where
    w0 : failed_writes_in made ≡ 0
    w0 = let a = count_by-cons (λ (m : Input × Seen). is_write_failed m.1) (i, s) made in omega (arith, w, a)

    r0 : failed_reads_in made ≡ 0
    r0 = let a = count_by-cons (λ (m : Input × Seen). is_read_failed m.1) (i, s) made in omega (arith, r, a)

    go :
        ((H : List Row) → HoldsEntriesSeen made H → has_failed H ≡ false) → (o : Option EntryNo) (H : List Row) → HoldsEntry (HoldsEntriesSeen made) made H o
        → has_failed H ≡ false
    go earlier None H h = earlier H h
    go earlier (Some e) [] h = refl
    go earlier (Some e) (row ∷ H) h = ap (λ b. b || has_failed H) (not_failed row.entry.caller row.entry.page made H row.entry.op w0 r0 h.1) ∙ earlier H h.2
