-- What a drill tells at its end: counts over its history and over its events.
use Rattle.std.specs.Prelude.{◌≡◌, ℕ, ◌+◌, ◌<◌, Bool, true, false, ◌&&◌, List, length, count_by}
use Rattle.swap_base.specs.declared.Origin.{Origin}
use Rattle.swap_base.specs.declared.Origin.TheVariants as origin
use Rattle.swap_wire.specs.Input.{Input}
use Rattle.swap_wire.specs.declared.Event.{Event}
use Rattle.swap_wire.specs.declared.Event.TheVariants as event
use Rattle.swap_wire.specs.declared.Seen.{Seen}
use Rattle.swap_wire.specs.declared.Seen.TheVariants as seen
use Rattle.swap_record.specs.declared.Op.{Op}
use Rattle.swap_record.specs.declared.Op.TheVariants as op
use Rattle.swap_record.specs.History.{History, Row}
use Rattle.swap_slabs.specs.Slabs.{mapped_count}
use Rattle.swap_world.specs.World.{World, seens, history}
use Rattle.swap_world.specs.Runs.{busy_callers}
use Rattle.swap_trace.specs.declared.draws.Draw.{Draw}
use Rattle.swap_drill.specs.Drill.{after, steps, drill_start, drill_events, drill_world}
use Rattle.swap_drill.specs.declared.summary.DrillSummary.{DrillSummary}
use Rattle.swap_drill.specs.declared.tally.Tally.{Tally}

abbrev pub is_out : Op → Bool
is_out op.PageOut = true
is_out _ = false

abbrev pub is_in : Op → Bool
is_in (op.PageIn named from) = true
is_in _ = false

abbrev pub is_fault : Op → Bool
is_fault (op.Failed kind since at) = true
is_fault _ = false

abbrev pub is_zero : Origin → Bool
is_zero origin.Zero = true
is_zero _ = false

abbrev pub is_queue : Origin → Bool
is_queue origin.Queue = true
is_queue _ = false

abbrev pub is_disk : Origin → Bool
is_disk origin.Disk = true
is_disk _ = false

abbrev pub is_lender : Origin → Bool
is_lender (origin.Lender l) = true
is_lender _ = false

-- a page-in whose page came from there
abbrev pub is_in_from : (Origin → Bool) → Op → Bool
is_in_from p (op.PageIn named from) = p from
is_in_from p _ = false

-- how many entries are so
abbrev pub entries_that : (Op → Bool) → History → ℕ
entries_that p H = count_by (λ (row : Row). p row.entry.op) H

-- the entries by kind, and the page-ins by where their page came from
abbrev pub tally_of : History → Tally
tally_of H =
    record {
      outs = entries_that is_out H;
      ins = entries_that is_in H;
      faults = entries_that is_fault H;
      zero = entries_that (is_in_from is_zero) H;
      queue = entries_that (is_in_from is_queue) H;
      disk = entries_that (is_in_from is_disk) H;
      lender = entries_that (is_in_from is_lender) H;
    }

-- one more page-in, by where its page came from
abbrev pub counted_from : Tally → Origin → Tally
counted_from t origin.Zero = record t { ins = t.ins + 1; zero = t.zero + 1 }
counted_from t origin.Queue = record t { ins = t.ins + 1; queue = t.queue + 1 }
counted_from t origin.Disk = record t { ins = t.ins + 1; disk = t.disk + 1 }
counted_from t (origin.Lender l) = record t { ins = t.ins + 1; lender = t.lender + 1 }

-- one more entry
abbrev pub count_op : Tally → Op → Tally
count_op t op.PageOut = record t { outs = t.outs + 1 }
count_op t (op.PageIn named from) = counted_from t from
count_op t (op.Failed kind since at) = record t { faults = t.faults + 1 }

-- no count is at the end of its type
pub record HasRoomToCount (t : Tally) : Type 0 where
  pub outs : t.outs < 4_294_967_295
  pub ins : t.ins < 4_294_967_295
  pub faults : t.faults < 4_294_967_295
  pub zero : t.zero < 4_294_967_295
  pub queue : t.queue < 4_294_967_295
  pub disk : t.disk < 4_294_967_295
  pub lender : t.lender < 4_294_967_295

-- what is seen of each event
unfoldable pub told : World → List Input → List (Event × Seen)
told w inputs = seens w inputs

abbrev pub is_call : Event → Bool
is_call (event.PageOut c p) = true
is_call (event.PageIn c p) = true
is_call _ = false

abbrev pub is_busy : Seen → Bool
is_busy seen.Busy = true
is_busy _ = false

-- calls that were answered Busy
abbrev pub busy_in : List (Event × Seen) → ℕ
busy_in pairs = count_by (λ (pair : Event × Seen). is_call pair.0 && is_busy pair.1) pairs

abbrev pub is_round : Event → Bool
is_round (event.Round word) = true
is_round _ = false

abbrev pub rounds_in : List Input → ℕ
rounds_in inputs = count_by (λ (i : Input). is_round i.event) inputs

-- what is told of a world, of so many busy calls and so many Rounds
abbrev pub summary_in : World → ℕ → ℕ → DrillSummary
summary_in w busy rounds =
    record {
      entries = length (history w);
      outs = (tally_of (history w)).outs;
      ins = (tally_of (history w)).ins;
      faults = (tally_of (history w)).faults;
      zero = (tally_of (history w)).zero;
      queue = (tally_of (history w)).queue;
      disk = (tally_of (history w)).disk;
      lender = (tally_of (history w)).lender;
      busy = busy;
      waiting = busy_callers w.device;
      rounds = rounds;
      mapped = mapped_count w.device.remote.slabs;
    }

abbrev pub busy_of : ℕ → ℕ → ℕ
busy_of number calls = busy_in (told drill_start (drill_events number calls))

abbrev pub rounds_of : ℕ → ℕ → ℕ
rounds_of number calls = rounds_in (drill_events number calls)

-- what is told of a drill
abbrev pub summary_of : ℕ → ℕ → DrillSummary
summary_of number calls = summary_in (drill_world number calls) (busy_of number calls) (rounds_of number calls)

-- a drill under way: its step and the draws that are left, the world, and what was counted so far
pub record IsUnderWay (number calls i : ℕ) (left : List Draw) (w : World) (busy rounds : ℕ) : Type 0 where
  pub world : after w (steps i left w) ≡ drill_world number calls
  pub refused : busy + busy_in (told w (steps i left w)) ≡ busy_of number calls
  pub made : rounds + rounds_in (steps i left w) ≡ rounds_of number calls
