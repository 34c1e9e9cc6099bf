-- One more entry is counted.
use Rattle.std.proofs.Common.{◌≡◌, ℕ, suc, ◌+◌, ◌<◌, Bool, true, false, ◌∷◌, length, refl, ap, ◌∙◌, arith, option_map, Option, None, Some}
use Rattle.swap_base.specs.declared.Origin.TheVariants as origin
use Rattle.swap_record.specs.declared.Entry.{Entry}
use Rattle.swap_record.specs.declared.Op.{Op}
use Rattle.swap_record.specs.declared.Op.TheVariants as op
use Rattle.swap_record.specs.History.{History, Row, row_named}
use Rattle.swap_record.specs.Judging.{oldest}
use Rattle.swap_record.proofs.Judged.{oldest_more}
use Rattle.swap_base.proofs.Lists.{count_by-cons, one_if}
use Rattle.swap_drill.specs.Summary.{is_out, is_in, is_fault, is_zero, is_queue, is_disk, is_lender, is_in_from, entries_that, tally_of, count_op}

counted_in : (p : Op → Bool) (row : Row) (H : History) → p row.entry.op ≡ true → entries_that p (row ∷ H) ≡ entries_that p H + 1
counted_in p row H is = let c = count_by-cons (λ (r : Row). p r.entry.op) row H in let e = ap one_if is in omega (arith, c, e)

left_out : (p : Op → Bool) (row : Row) (H : History) → p row.entry.op ≡ false → entries_that p (row ∷ H) ≡ entries_that p H
left_out p row H is = let c = count_by-cons (λ (r : Row). p r.entry.op) row H in let e = ap one_if is in omega (arith, c, e)

pub tally-cons : (row : Row) (H : History) (o : Op) → row.entry.op ≡ o → tally_of (row ∷ H) ≡ count_op (tally_of H) o
tally-cons row H op.PageOut is =
    let outs = counted_in is_out row H (ap is_out is) in
    let ins = left_out is_in row H (ap is_in is) in
    let faults = left_out is_fault row H (ap is_fault is) in
    let zeros = left_out (is_in_from is_zero) row H (ap (is_in_from is_zero) is) in
    let queues = left_out (is_in_from is_queue) row H (ap (is_in_from is_queue) is) in
    let disks = left_out (is_in_from is_disk) row H (ap (is_in_from is_disk) is) in
    let lenders = left_out (is_in_from is_lender) row H (ap (is_in_from is_lender) is) in
    cc
tally-cons row H (op.PageIn name origin.Zero) is =
    let outs = left_out is_out row H (ap is_out is) in
    let ins = counted_in is_in row H (ap is_in is) in
    let faults = left_out is_fault row H (ap is_fault is) in
    let zeros = counted_in (is_in_from is_zero) row H (ap (is_in_from is_zero) is) in
    let queues = left_out (is_in_from is_queue) row H (ap (is_in_from is_queue) is) in
    let disks = left_out (is_in_from is_disk) row H (ap (is_in_from is_disk) is) in
    let lenders = left_out (is_in_from is_lender) row H (ap (is_in_from is_lender) is) in
    cc
tally-cons row H (op.PageIn name origin.Queue) is =
    let outs = left_out is_out row H (ap is_out is) in
    let ins = counted_in is_in row H (ap is_in is) in
    let faults = left_out is_fault row H (ap is_fault is) in
    let zeros = left_out (is_in_from is_zero) row H (ap (is_in_from is_zero) is) in
    let queues = counted_in (is_in_from is_queue) row H (ap (is_in_from is_queue) is) in
    let disks = left_out (is_in_from is_disk) row H (ap (is_in_from is_disk) is) in
    let lenders = left_out (is_in_from is_lender) row H (ap (is_in_from is_lender) is) in
    cc
tally-cons row H (op.PageIn name origin.Disk) is =
    let outs = left_out is_out row H (ap is_out is) in
    let ins = counted_in is_in row H (ap is_in is) in
    let faults = left_out is_fault row H (ap is_fault is) in
    let zeros = left_out (is_in_from is_zero) row H (ap (is_in_from is_zero) is) in
    let queues = left_out (is_in_from is_queue) row H (ap (is_in_from is_queue) is) in
    let disks = counted_in (is_in_from is_disk) row H (ap (is_in_from is_disk) is) in
    let lenders = left_out (is_in_from is_lender) row H (ap (is_in_from is_lender) is) in
    cc
tally-cons row H (op.PageIn name (origin.Lender l)) is =
    let outs = left_out is_out row H (ap is_out is) in
    let ins = counted_in is_in row H (ap is_in is) in
    let faults = left_out is_fault row H (ap is_fault is) in
    let zeros = left_out (is_in_from is_zero) row H (ap (is_in_from is_zero) is) in
    let queues = left_out (is_in_from is_queue) row H (ap (is_in_from is_queue) is) in
    let disks = left_out (is_in_from is_disk) row H (ap (is_in_from is_disk) is) in
    let lenders = counted_in (is_in_from is_lender) row H (ap (is_in_from is_lender) is) in
    cc
tally-cons row H (op.Failed kind since at) is =
    let outs = left_out is_out row H (ap is_out is) in
    let ins = left_out is_in row H (ap is_in is) in
    let faults = counted_in is_fault row H (ap is_fault is) in
    let zeros = left_out (is_in_from is_zero) row H (ap (is_in_from is_zero) is) in
    let queues = left_out (is_in_from is_queue) row H (ap (is_in_from is_queue) is) in
    let disks = left_out (is_in_from is_disk) row H (ap (is_in_from is_disk) is) in
    let lenders = left_out (is_in_from is_lender) row H (ap (is_in_from is_lender) is) in
    cc

row_of : (o : Option Row) (entry : Entry) → option_map (λ (r : Row). r.entry) o ≡ Some entry → (row : Row) × (o ≡ Some row) × (row.entry ≡ entry)
row_of None entry is = cc
row_of (Some row) entry is = (row, refl, cc)

-- the tally of one entry more
pub tally_more :
    (H : History) (n : ℕ) (entry : Entry) → n < length H → option_map (λ (r : Row). r.entry) (row_named H n) ≡ Some entry
    → tally_of (oldest (n + 1) H) ≡ count_op (tally_of (oldest n H)) entry.op
tally_more H n entry within is =
    let found = row_of (row_named H n) entry is in
    let longer : oldest (suc n) H ≡ found.0 ∷ oldest n H = oldest_more H n found.0 found.1 within in
    let one : n + 1 ≡ suc n = omega arith in
    ap (λ k. tally_of (oldest k H)) one ∙ ap tally_of longer ∙ tally-cons found.0 (oldest n H) entry.op (ap (λ (e : Entry). e.op) found.2)
