-- How the first five bytes of a frame, its length and its kind byte, tell which frame it is. The laws of frames and the
-- contract of `next` say what bytes are without them.
use Rattle.std.specs.Prelude.{ℕ, ◌+◌, ◌*◌, ◌≤◌, Bool, true, false, ◌&&◌, nat_lt, if◌then◌else◌, min, List, [], ◌∷◌, ◌++◌, length, take, drop, find, Option, None, Some}
use Rattle.std.specs.Int.{w32, w64, from_be_bytes}
use Rattle.std.specs.Str.{bytes_eq}
use Rattle.swap_wire.specs.declared.Msg.{Msg}
use Rattle.swap_wire.specs.declared.Msg.TheVariants as msg
use Rattle.swap_wire.specs.declared.side.Side.{Side}
use Rattle.swap_wire.specs.declared.side.Side.TheVariants.{Device, Lender}
use Rattle.swap_wire.specs.declared.kind.Kind.{Kind}
use Rattle.swap_wire.specs.declared.kind.Kind.TheVariants as kinds
use Rattle.swap_wire.specs.declared.kind.Form.{Form}
use Rattle.swap_wire.specs.declared.frames.Judged.{Judged}
use Rattle.swap_wire.specs.declared.frames.Judged.TheVariants.{Whole, Partial, Hopeless}
use Rattle.swap_wire.specs.Frames.{form, word}

-- the kinds, in the order of the table
abbrev pub all_kinds : List Kind
all_kinds =
    kinds.Hello
    ∷ kinds.Query
    ∷ kinds.Borrow
    ∷ kinds.Write
    ∷ kinds.Read
    ∷ kinds.Rates
    ∷ kinds.Done
    ∷ kinds.Room
    ∷ kinds.Lent
    ∷ kinds.Refused
    ∷ kinds.Wrote
    ∷ kinds.PageIs
    ∷ kinds.AskRates
    ∷ kinds.Evict
    ∷ []

-- what the length of a frame counts, and the whole frame
abbrev pub counted_length : ℕ → Form → ℕ
counted_length page_bytes f = 1 + (f.fields + f.pages * page_bytes)

abbrev pub whole_length : ℕ → Form → ℕ
whole_length page_bytes f = 4 + counted_length page_bytes f

-- the first five bytes of each frame of a kind
abbrev pub head : ℕ → Form → List ℕ
head page_bytes f = word (counted_length page_bytes f) ++ (f.number ∷ [])

-- it is the side that sends the kind
abbrev pub same_side : Side → Side → Bool
same_side Device Device = true
same_side Device Lender = false
same_side Lender Device = false
same_side Lender Lender = true

-- as far as both go, they are the same
abbrev pub agree : List ℕ → List ℕ → Bool
agree xs ys = bytes_eq (take (min (length xs) (length ys)) xs) (take (min (length xs) (length ys)) ys)

-- a frame of the kind may begin so
abbrev pub may_begin : Side → ℕ → List ℕ → Kind → Bool
may_begin side page_bytes bytes k = same_side side (form k).from && agree (head page_bytes (form k)) bytes

-- by the kind that was found: the bytes go as far as its frame, or not
abbrev pub judged_as : ℕ → List ℕ → Option Kind → Judged
judged_as page_bytes bytes None = Hopeless
judged_as page_bytes bytes (Some k) =
    if nat_lt (length bytes) (whole_length page_bytes (form k)) then Partial else Whole k

-- by the first kind of the side whose head agrees with the bytes
abbrev pub judge_head : Side → ℕ → List ℕ → Judged
judge_head side page_bytes bytes = judged_as page_bytes bytes (find (may_begin side page_bytes bytes) all_kinds)

-- where they begin with a whole frame of a kind, they go as far
abbrev pub GoesAsFar : ℕ → List ℕ → Judged → Type 0
GoesAsFar page_bytes bytes (Whole k) = whole_length page_bytes (form k) ≤ length bytes
GoesAsFar page_bytes bytes Partial = Unit {0}
GoesAsFar page_bytes bytes Hopeless = Unit {0}

-- the numbers at a place of the fields
abbrev pub word_at : List ℕ → ℕ → ℕ
word_at bytes at = from_be_bytes w32 (take 4 (drop at bytes))

abbrev pub long_at : List ℕ → ℕ → ℕ
long_at bytes at = from_be_bytes w64 (take 8 (drop at bytes))

-- the message of a kind with these fields
abbrev pub message : Kind → List ℕ → Msg
message kinds.Hello bytes = msg.Hello (word_at bytes 0) (word_at bytes 4) (word_at bytes 8)
message kinds.Query bytes = msg.Query (record { 0 = word_at bytes 0 })
message kinds.Borrow bytes = msg.Borrow (record { 0 = word_at bytes 0 })
message kinds.Write bytes = msg.Write (record { 0 = word_at bytes 0 }) (word_at bytes 4)
message kinds.Read bytes = msg.Read (record { 0 = word_at bytes 0 }) (word_at bytes 4)
message kinds.Rates bytes = msg.Rates (record { 0 = word_at bytes 0 }) (long_at bytes 4)
message kinds.Done bytes = msg.Done (record { 0 = word_at bytes 0 })
message kinds.Room bytes = msg.Room (record { 0 = word_at bytes 0 }) (word_at bytes 4)
message kinds.Lent bytes = msg.Lent (record { 0 = word_at bytes 0 }) (record { 0 = word_at bytes 4 })
message kinds.Refused bytes = msg.Refused (record { 0 = word_at bytes 0 })
message kinds.Wrote bytes = msg.Wrote (record { 0 = word_at bytes 0 }) (word_at bytes 4)
message kinds.PageIs bytes = msg.PageIs (record { 0 = word_at bytes 0 }) (word_at bytes 4)
message kinds.AskRates bytes = msg.AskRates (record { 0 = word_at bytes 0 })
message kinds.Evict bytes = msg.Evict (record { 0 = word_at bytes 0 })

-- the fields and the page of a whole frame of a kind
abbrev pub fields_in : Kind → List ℕ → List ℕ
fields_in k bytes = take (form k).fields (drop 5 bytes)

abbrev pub page_of : Kind → List ℕ → List ℕ
page_of k bytes = drop (5 + (form k).fields) bytes
