-- The calls that a drill draws: each by one word below 2 ^ 32 of the generator Pcg32 that a number seeds.
use Rattle.std.specs.Prelude.{ℕ, zero, suc, ◌+◌, ◌*◌, ◌/◌, ◌%◌, ◌==◌, if◌then◌else◌, List, [], ◌∷◌}
use Rattle.rand_core.specs.Pcg32Seed.{pcg32_seed}
use Rattle.rand_pcg.specs.Lcg.{Lcg}
use Rattle.rand_pcg.specs.Pcg.{pcg32, pcg32_of_seed}
use Rattle.swap_base.specs.declared.Page.{Page}
use Rattle.swap_base.specs.declared.CallKind.{CallKind}
use Rattle.swap_base.specs.declared.CallKind.TheVariants as kind
use Rattle.swap_trace.specs.declared.draws.Draw.{Draw}

-- the generator of a number
abbrev pub generator_of : ℕ → Lcg
generator_of number = pcg32_of_seed (pcg32_seed 16 number)

-- one draw in four takes any of 64 slabs, and the others one of the first four
abbrev pub slab_of : ℕ → ℕ
slab_of word = if word / 256 % 4 == 0 then word / 4 % 64 else word / 4 % 64 % 4

-- a page of 16 in the slab
abbrev pub page_of : ℕ → Page
page_of word = record { 0 = slab_of word * 16 + word / 1_024 % 16 }

abbrev pub kind_of : ℕ → CallKind
kind_of word = if word / 16_384 % 2 == 0 then kind.PageOut else kind.PageIn

abbrev pub draw_of : ℕ → Draw
draw_of word =
    record {
      caller = record { 0 = word % 4 };
      page = page_of word;
      kind = kind_of word;
      byte = word / 32_768 % 256;
      word = word;
    }

-- the first so many draws of a generator
abbrev pub draws : ℕ → Lcg → List Draw
draws zero g = []
draws (suc n) g = draw_of (pcg32 g).0 ∷ draws n (pcg32 g).1
