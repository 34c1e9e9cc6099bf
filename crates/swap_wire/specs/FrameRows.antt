-- Frames by hand, of pages of 8 bytes.
use Rattle.std.specs.Prelude.{◌≡◌, ℕ, List, [], ◌∷◌, ◌++◌, take, replicate}
use Rattle.swap_wire.specs.declared.Msg.TheVariants as msg
use Rattle.swap_wire.specs.declared.side.Side.TheVariants.{Device, Lender}
use Rattle.swap_wire.specs.declared.kind.Kind.TheVariants as kinds
use Rattle.swap_wire.specs.declared.frames.Judged.TheVariants.{Whole, Partial, Hopeless}
use Rattle.swap_wire.specs.Frames.{frame}
use Rattle.swap_wire.specs.Heads.{judge_head}

-- messages and their frames
abbrev pub VectorRows : Type 0
VectorRows =
    (frame (msg.Hello 1 8 4) [] ≡ 0 ∷ 0 ∷ 0 ∷ 13 ∷ 1 ∷ 0 ∷ 0 ∷ 0 ∷ 1 ∷ 0 ∷ 0 ∷ 0 ∷ 8 ∷ 0 ∷ 0 ∷ 0 ∷ 4 ∷ [])
    × (frame (msg.Write (record { 0 = 1 }) 2) (replicate 8 170)
    ≡ (0 ∷ 0 ∷ 0 ∷ 17 ∷ 4 ∷ 0 ∷ 0 ∷ 0 ∷ 1 ∷ 0 ∷ 0 ∷ 0 ∷ 2 ∷ [])
    ++ replicate 8 170)
    × (frame (msg.Read (record { 0 = 0 }) 3) [] ≡ 0 ∷ 0 ∷ 0 ∷ 9 ∷ 5 ∷ 0 ∷ 0 ∷ 0 ∷ 0 ∷ 0 ∷ 0 ∷ 0 ∷ 3 ∷ [])
    × (frame (msg.Rates (record { 0 = 0 }) 65_536) [] ≡ 0 ∷ 0 ∷ 0 ∷ 13 ∷ 6 ∷ 0 ∷ 0 ∷ 0 ∷ 0 ∷ 0 ∷ 0 ∷ 0 ∷ 0 ∷ 0 ∷ 1 ∷ 0
    ∷ 0 ∷ [])
    × (frame (msg.Evict (record { 0 = 0 })) [] ≡ 0 ∷ 0 ∷ 0 ∷ 5 ∷ 14 ∷ 0 ∷ 0 ∷ 0 ∷ 0 ∷ [])

-- a read of lease 0, place 3
abbrev read_row : List ℕ
read_row = 0 ∷ 0 ∷ 0 ∷ 9 ∷ 5 ∷ 0 ∷ 0 ∷ 0 ∷ 0 ∷ 0 ∷ 0 ∷ 0 ∷ 3 ∷ []

-- a whole frame, fronts of it, and what can't become one: a length of no kind, a kind that isn't there, a page one byte
-- short or over, the other side's kind
abbrev pub JudgedRows : Type 0
JudgedRows =
    (judge_head Device 8 read_row ≡ Whole kinds.Read) × (judge_head Device 8 (read_row ++ (1 ∷ [])) ≡ Whole kinds.Read)
    × (judge_head Device 8 [] ≡ Partial) × (judge_head Device 8 (take 3 read_row) ≡ Partial)
    × (judge_head Device 8 (take 4 read_row) ≡ Partial)
    × (judge_head Device 8 (take 12 read_row) ≡ Partial)
    × (judge_head Device 8 (1 ∷ []) ≡ Hopeless)
    × (judge_head Device 8 (0 ∷ 0 ∷ 0 ∷ 0 ∷ []) ≡ Hopeless)
    × (judge_head Device 8 (0 ∷ 0 ∷ 0 ∷ 9 ∷ 15 ∷ []) ≡ Hopeless)
    × (judge_head Device 8 (0 ∷ 0 ∷ 0 ∷ 16 ∷ []) ≡ Hopeless)
    × (judge_head Device 8 (0 ∷ 0 ∷ 0 ∷ 18 ∷ []) ≡ Hopeless)
    × (judge_head Device 8 (0 ∷ 0 ∷ 0 ∷ 9 ∷ 8 ∷ []) ≡ Hopeless)
    × (judge_head Lender 8 (0 ∷ 0 ∷ 0 ∷ 9 ∷ 8 ∷ []) ≡ Partial)
