-- Draws by hand.
use Rattle.std.specs.Prelude.{◌≡◌, ℕ, [], ◌∷◌}
use Rattle.swap_base.specs.declared.CallKind.{CallKind}
use Rattle.swap_base.specs.declared.CallKind.TheVariants.{PageOut, PageIn}
use Rattle.swap_trace.specs.declared.draws.Draw.{Draw}
use Rattle.swap_trace.specs.Draws.{draw_of, draws, generator_of}

abbrev draw_with : ℕ → ℕ → CallKind → ℕ → ℕ → Draw
draw_with caller page kind byte word = record {
  caller = record { 0 = caller };
  page = record { 0 = page };
  kind = kind;
  byte = byte;
  word = word;
}

-- by words, and the first draws of two numbers
abbrev pub DrawRows : Type 0
DrawRows =
    (draw_of 0 ≡ draw_with 0 0 PageOut 0 0)
    × (draw_of 4_294_967_295 ≡ draw_with 3 63 PageIn 255 4_294_967_295)
    × (draw_of 253 ≡ draw_with 1 1_008 PageOut 0 253)
    × (draw_of 509 ≡ draw_with 1 48 PageOut 0 509)
    × (draws 2 (generator_of 0) ≡ draw_with 3 6 PageIn 155 298_703_107 ∷ draw_with 3 31 PageOut 8 4_236_525_527 ∷ [])
    × (draws 2 (generator_of 7) ≡ draw_with 1 39 PageIn 34 2_442_223_337 ∷ draw_with 2 759 PageOut 92 414_063_806 ∷ [])
