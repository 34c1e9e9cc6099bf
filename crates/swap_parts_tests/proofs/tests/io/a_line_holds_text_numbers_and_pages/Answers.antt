use Rattle.std.proofs.Common.{arith, ◌≤◌, length, ap}
use Rattle.std.specs.Fmt.{decimal}
use Rattle.std.proofs.lemmas.Fmt.{length-decimal-le}
use Rattle.std.proofs.lemmas.List.{length-append}
use Rattle.swap_parts_tests.proofs.tests.io.a_line_holds_text_numbers_and_pages.Goals as goal

short : length (decimal 16383) ≤ 5
short = length-decimal-le 5 16383 (omega arith) (omega arith) (omega arith)

pub decimal-requires : goal.decimal-requires
decimal-requires g c = omega (arith, short, simp length-append at (ap length c.text.ensures), ap length c.in_ok-line.ensures)

pub text-requires-2 : goal.text-requires-2
text-requires-2 g c =
    omega (arith, short, simp length-append at (ap length c.decimal.ensures), simp length-append at (ap length c.text.ensures), ap length c.in_ok-line.ensures)

pub shortest-requires : goal.shortest-requires
shortest-requires g c =
    omega (
      arith,
      short,
      simp length-append at (ap length c.text-2.ensures),
      simp length-append at (ap length c.decimal.ensures),
      simp length-append at (ap length c.text.ensures),
      ap length c.in_ok-line.ensures,
    )
