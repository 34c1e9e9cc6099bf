-- Small histories by hand.
use Rattle.std.specs.Prelude.{◌≡◌, List, ℕ, [], replicate, None, Some, option_map}
use Rattle.swap_base.specs.declared.Page.{Page}
use Rattle.swap_base.specs.declared.Caller.{Caller}
use Rattle.swap_base.specs.declared.Origin.TheVariants as origin
use Rattle.swap_base.specs.declared.CallKind.TheVariants as kind
use Rattle.swap_record.specs.declared.Op.TheVariants.{PageOut, PageIn, Failed}
use Rattle.swap_record.specs.History.{History, Row, row_named, array, last, count_of, with_row, IsLegal}

abbrev pub caller : ℕ → Caller
caller n = record { 0 = n }

abbrev pub page : ℕ → Page
page n = record { 0 = n }

abbrev pub zeros : List ℕ
zeros = replicate 8 0

abbrev pub aa : List ℕ
aa = replicate 8 170

abbrev pub bb : List ℕ
bb = replicate 8 187

-- caller 0 pages 3 out, caller 1 another content of it; caller 0 pages 3 in, and 5 that was never written
abbrev pub outs : History
outs = with_row (with_row [] (caller 0) (page 3) PageOut aa) (caller 1) (page 3) PageOut bb

abbrev pub both_calls : History
both_calls =
    with_row (with_row outs (caller 0) (page 3) (PageIn (Some (record { 0 = 1 })) origin.Queue) bb) (caller 0) (page 5)
    (PageIn None origin.Zero) zeros

-- a failed page-out changes nothing
abbrev pub failed_out : History
failed_out = with_row outs (caller 1) (page 3) (Failed kind.PageOut 0 1) zeros

abbrev pub HistoryRows : Type 0
HistoryRows =
    (last [] (page 3) ≡ None) × (last both_calls (page 3) ≡ Some (record { 0 = 1 })) × (last both_calls (page 5) ≡ None)
    × (array zeros both_calls (page 3) ≡ bb) × (array zeros both_calls (page 5) ≡ zeros)
    × (count_of (caller 0) both_calls ≡ 3)
    × (count_of (caller 1) both_calls ≡ 1)
    × (option_map (λ (row : Row). row.bytes) (row_named both_calls 0) ≡ Some aa)
    × (row_named both_calls 4 ≡ None)
    × (array zeros failed_out (page 3) ≡ bb)
    × (last failed_out (page 3) ≡ Some (record { 0 = 1 }))
    × IsLegal zeros both_calls
