-- Drills by hand.
use Rattle.std.specs.Prelude.{◌≡◌}
use Rattle.swap_drill.specs.declared.summary.DrillSummary.{DrillSummary}
use Rattle.swap_drill.specs.Summary.{summary_of}

abbrev no_summary : DrillSummary
no_summary =
    record {
      entries = 0;
      outs = 0;
      ins = 0;
      faults = 0;
      zero = 0;
      queue = 0;
      disk = 0;
      lender = 0;
      busy = 0;
      waiting = 0;
      rounds = 0;
      mapped = 0;
    }

-- no calls, and the first calls of a number: a page-in of a page that was never written, and then a page-out
abbrev pub DrillRows : Type 0
DrillRows =
    (summary_of 7 0 ≡ no_summary)
    × (summary_of 7 1 ≡ record no_summary { entries = 1; ins = 1; zero = 1 })
    × (summary_of 7 2 ≡ record no_summary { entries = 2; outs = 1; ins = 1; zero = 1 })
