-- How a drill ends.
use Rattle.std.proofs.Common.{◌≡◌, ℕ, ◌+◌, ◌<◌, ◌≤◌, Bool, true, false, ◌||◌, List, [], ◌∷◌, refl, sym, ap, ◌∙◌, subst, arith, inl, inr, Option, None, Some, cond, leb}
use Rattle.std.specs.Io.KnownBytes.{Keeps, append_known}
use Rattle.std.proofs.KnownBytes.{Appends-kept}
use Rattle.std.proofs.lemmas.Bool.{leb-true}
use Rattle.swap_io.specs.Causes.{Rose}
use Rattle.swap_io.specs.Gathered.{Gathered, gathered_bytes}
use Rattle.swap_record.specs.declared.Op.{Op}
use Rattle.swap_record.specs.declared.Op.TheVariants as op
use Rattle.swap_record.specs.History.{History, Row}
use Rattle.std.specs.Prelude.{codes}
use Rattle.swap_base.proofs.Lists.{count_by-cons, one_if}
use Rattle.swap_drill.specs.Summary.{is_fault, entries_that}
use Rattle.swap_drill.specs.Text.{drill_text}
use Rattle.swap_run.specs.declared.Command.{Command}
use Rattle.swap_run.specs.declared.Command.TheVariants.{RunDrill}
use Rattle.swap_run.specs.declared.Ending.{Ending}
use Rattle.swap_run.specs.declared.Ending.TheVariants as ending
use Rattle.swap_run.specs.Run.{is_failed, has_failed}
use Rattle.swap_run.specs.Clause.{Stream, stream, RanDrill, DrillEnds, DrillsComplete, Ends}
use Rattle.swap_run.specs.Blocks.{IsFresh, HandsOn}
use Rattle.swap_run.proofs.BlockEnds.{out_front, out_all, out_nothing, all_is_front}

-- some call failed exactly where the failed entries are counted
same_fault : (o : Op) → is_fault o ≡ is_failed o
same_fault op.PageOut = refl
same_fault (op.PageIn name from) = refl
same_fault (op.Failed kind since at) = refl

pub none_counted : (H : History) → entries_that is_fault H ≡ 0 → has_failed H ≡ false
none_counted [] e = refl
none_counted (row ∷ H) e =
    let c = count_by-cons (λ (r : Row). is_fault r.entry.op) row H in
    let s = same_fault row.entry.op in
    by (is_fault row.entry.op) refl s (none_counted H (omega (arith, c, e))) (omega (arith, c, e))
  where
    by :
        (b : Bool) → is_fault row.entry.op ≡ b → is_fault row.entry.op ≡ is_failed row.entry.op → has_failed H ≡ false → one_if (is_fault row.entry.op) ≡ 0
        → (is_failed row.entry.op || has_failed H) ≡ false
    by true is s rest none = let one = ap one_if is in absurd (omega (arith, one, none))
    by false is s rest none = ap (λ x. x || has_failed H) (sym s ∙ is) ∙ rest

pub some_counted : (H : History) → 0 < entries_that is_fault H → has_failed H ≡ true
some_counted [] e = absurd (omega arith)
some_counted (row ∷ H) e =
    let c = count_by-cons (λ (r : Row). is_fault r.entry.op) row H in
    let s = same_fault row.entry.op in
    by (is_fault row.entry.op) refl s (λ more. some_counted H more) c e
  where
    by :
        (b : Bool) → is_fault row.entry.op ≡ b → is_fault row.entry.op ≡ is_failed row.entry.op → (0 < entries_that is_fault H → has_failed H ≡ true)
        → entries_that is_fault (row ∷ H) ≡ one_if (is_fault row.entry.op) + entries_that is_fault H → 0 < entries_that is_fault (row ∷ H)
        → (is_failed row.entry.op || has_failed H) ≡ true
    by true is s rest c more = ap (λ x. x || has_failed H) (sym s ∙ is)
    by false is s rest c more = let none = ap one_if is in ap (λ x. x || has_failed H) (sym s ∙ is) ∙ rest (omega (arith, c, more, none))

-- a drill's summary before a sink that gathers
ran_whole :
    (number calls : ℕ) (before : Option (List ℕ)) (f : ℕ) (mid now : Gathered) (fault : Bool) → now.held ≡ []
    → RanDrill number calls (stream (append_known before []) (gathered_bytes mid) f mid.faults) fault → Keeps (gathered_bytes mid) (gathered_bytes now)
    → RanDrill number calls (stream before now.handed f now.faults) fault
ran_whole number calls before f mid now fault none p kept =
    record {
      wrote = out_all before (gathered_bytes mid) now.handed now.held (drill_text number calls) none p.wrote kept;
      fault = p.fault;
      headline =
          p.headline;
    }

broke_off :
    (number calls : ℕ) (before : Option (List ℕ)) (f : ℕ) (mid now : Gathered) (fault : Bool) → IsFresh before → f ≤ mid.faults → Rose mid.faults now.faults
    → RanDrill number calls (stream (append_known before []) (gathered_bytes mid) f mid.faults) fault → Keeps (gathered_bytes mid) (gathered_bytes now)
    → DrillEnds number calls (stream before now.handed f now.faults) ending.WriteFailed
broke_off number calls before f mid now fault fresh later rose p kept = (
  out_front before now.handed now.held (drill_text number calls) fresh
      (all_is_front (append_known before []) (gathered_bytes now) (drill_text number calls)
      (Appends-kept (append_known before []) (gathered_bytes mid) (gathered_bytes now) (drill_text number calls) p.wrote kept)),
  omega (arith, later, rose),
)

handed_on :
    (number calls : ℕ) (before : Option (List ℕ)) (f : ℕ) (mid now : Gathered) (ran end : Ending) → IsFresh before → f ≤ mid.faults → HandsOn ran mid now end
    → DrillEnds number calls (stream (append_known before []) (gathered_bytes mid) f mid.faults) ran
    → DrillEnds number calls (stream before now.handed f now.faults) end
handed_on number calls before f mid now ending.Done end fresh later hands p =
    elim hands.1 [
      | inl same ↦
          subst (DrillEnds number calls (stream before now.handed f now.faults)) (sym same.0) (ran_whole number calls before f mid now false same.1 p hands.0)
      | inr failed ↦
          subst (DrillEnds number calls (stream before now.handed f now.faults)) (sym failed.0)
          (broke_off number calls before f mid now false fresh later failed.1 p hands.0)
    ]
handed_on number calls before f mid now ending.Faulted end fresh later hands p =
    elim hands.1 [
      | inl same ↦
          subst (DrillEnds number calls (stream before now.handed f now.faults)) (sym same.0) (ran_whole number calls before f mid now true same.1 p hands.0)
      | inr failed ↦
          subst (DrillEnds number calls (stream before now.handed f now.faults)) (sym failed.0)
          (broke_off number calls before f mid now true fresh later failed.1 p hands.0)
    ]
handed_on number calls before f mid now ending.WriteFailed end fresh later hands p =
    subst (DrillEnds number calls (stream before now.handed f now.faults)) (sym hands.0)
    (subst (λ (s : Gathered). DrillEnds number calls (stream before s.handed f s.faults) ending.WriteFailed) (sym hands.1)
    (out_front before mid.handed mid.held (drill_text number calls) fresh p.0, p.1))
handed_on number calls before f mid now ending.NoMemory end fresh later hands p =
    subst (DrillEnds number calls (stream before now.handed f now.faults)) (sym hands.0)
    (subst (λ (s : Gathered). DrillEnds number calls (stream before s.handed f s.faults) ending.NoMemory) (sym hands.1)
    (out_nothing before mid.handed mid.held fresh p))
handed_on number calls before f mid now ending.NotLegal end fresh later hands p = absurd p
handed_on number calls before f mid now ending.Usage end fresh later hands p = absurd p
handed_on number calls before f mid now ending.ReadFailed end fresh later hands p = absurd p
handed_on number calls before f mid now (ending.Refused r) end fresh later hands p = absurd p
handed_on number calls before f mid now ending.HostFailed end fresh later hands p = absurd p
handed_on number calls before f mid now ending.TooLong end fresh later hands p = absurd p

pub drill_in_blocks :
    (number calls : ℕ) (before mid now : Gathered) (ran end : Ending) → before.held ≡ [] → IsFresh before.handed → before.faults ≤ mid.faults
    → HandsOn ran mid now end → DrillEnds number calls (stream (gathered_bytes before) (gathered_bytes mid) before.faults mid.faults) ran
    → DrillEnds number calls (stream before.handed now.handed before.faults now.faults) end
drill_in_blocks number calls before mid now ran end none fresh later hands p =
    handed_on number calls before.handed before.faults mid now ran end fresh later hands
    (subst (λ held. DrillEnds number calls (stream (append_known before.handed held) (gathered_bytes mid) before.faults mid.faults) ran) none p)

-- where nothing fails
pub drills_complete : DrillsComplete
drills_complete source out ending.Done number calls p fine = inl refl
drills_complete source out ending.Faulted number calls p fine = inr (inl refl)
drills_complete source out ending.NoMemory number calls p fine = inr (inr refl)
drills_complete source out ending.WriteFailed number calls p fine = absurd (fine p.1.1)
drills_complete source out ending.NotLegal number calls p fine = absurd p.1
drills_complete source out ending.Usage number calls p fine = absurd p.1
drills_complete source out ending.ReadFailed number calls p fine = absurd p.1
drills_complete source out (ending.Refused r) number calls p fine = absurd p.1
drills_complete source out ending.HostFailed number calls p fine = absurd p.1
drills_complete source out ending.TooLong number calls p fine = absurd p.1

-- a drill reads nothing of its source
same_kept : (bytes : Option (List ℕ)) → Keeps bytes bytes
same_kept None = tt
same_kept (Some bytes) = refl

pub drill_holds :
    (command : Option Command) (number calls : ℕ) (left : Option (List ℕ)) (faults : ℕ) (out : Stream) (end : Ending) → command ≡ Some (RunDrill number calls)
    → DrillEnds number calls out end → Ends command (stream left left faults faults) out end
drill_holds command number calls left faults out end is p = subst (λ c. Ends c (stream left left faults faults) out end) (sym is) (same_kept left, p)
