-- A message, by its first word and its numbers. The word of a greeting has no sizes: they are the geometry's.
use Rattle.std.specs.Prelude.{ℕ, ◌≡◌, ◌^◌, ◌<◌, List, [], ◌∷◌, Option, Some, codes}
use Rattle.swap_base.specs.Sizes.{Sizes}
use Rattle.swap_script.specs.Forms.{◌>>=◌}
use Rattle.swap_wire.specs.declared.Msg.{Msg}
use Rattle.swap_wire.specs.declared.Msg.TheVariants as msg
use Rattle.swap_transcript.specs.Readers.{Words, small_at, wide_at, one_of, two_of, Row, row, by_rows}

abbrev pub rates_at : Words → Option (Msg × Words)
rates_at words = small_at words >>= λ k. (wide_at k.1 >>= λ v. Some (msg.Rates (record { 0 = k.0 }) v.0, v.1))

-- those that a lender sends
abbrev pub lender_rows : List (Row (Msg × Words))
lender_rows =
    row (codes "room") (two_of (λ s free. msg.Room (record { 0 = s }) free))
    ∷ row (codes "lent") (two_of (λ s k. msg.Lent (record { 0 = s }) (record { 0 = k })))
    ∷ row (codes "refused") (one_of (λ s. msg.Refused (record { 0 = s })))
    ∷ row (codes "wrote") (two_of (λ k i. msg.Wrote (record { 0 = k }) i))
    ∷ row (codes "page") (two_of (λ k i. msg.PageIs (record { 0 = k }) i))
    ∷ row (codes "ask") (one_of (λ k. msg.AskRates (record { 0 = k })))
    ∷ row (codes "evict") (one_of (λ k. msg.Evict (record { 0 = k })))
    ∷ []

abbrev pub msg_rows : Sizes → List (Row (Msg × Words))
msg_rows s =
    row (codes "hello") (one_of (λ version. msg.Hello version s.page_bytes s.pages_per_slab))
    ∷ row (codes "query") (one_of (λ n. msg.Query (record { 0 = n })))
    ∷ row (codes "borrow") (one_of (λ n. msg.Borrow (record { 0 = n })))
    ∷ row (codes "write") (two_of (λ k i. msg.Write (record { 0 = k }) i))
    ∷ row (codes "read") (two_of (λ k i. msg.Read (record { 0 = k }) i))
    ∷ row (codes "rates") rates_at
    ∷ row (codes "done") (one_of (λ k. msg.Done (record { 0 = k })))
    ∷ lender_rows

abbrev pub msg_at : Sizes → Words → Option (Msg × Words)
msg_at s words = by_rows (msg_rows s) words

-- messages that have words: a greeting is of the geometry's sizes, and each number fits
abbrev pub IsSmall : ℕ → Type 0
IsSmall n = n < 2 ^ 32

abbrev pub HasMsgWords : Sizes → Msg → Type 0
HasMsgWords s (msg.Hello version page_bytes pages_per_slab) =
    IsSmall version × (page_bytes ≡ s.page_bytes) × (pages_per_slab ≡ s.pages_per_slab)
HasMsgWords s (msg.Query n) = IsSmall n.0
HasMsgWords s (msg.Borrow n) = IsSmall n.0
HasMsgWords s (msg.Write k i) = IsSmall k.0 × IsSmall i
HasMsgWords s (msg.Read k i) = IsSmall k.0 × IsSmall i
HasMsgWords s (msg.Rates k v) = IsSmall k.0 × (v < 2 ^ 64)
HasMsgWords s (msg.Done k) = IsSmall k.0
HasMsgWords s (msg.Room n free) = IsSmall n.0 × IsSmall free
HasMsgWords s (msg.Lent n k) = IsSmall n.0 × IsSmall k.0
HasMsgWords s (msg.Refused n) = IsSmall n.0
HasMsgWords s (msg.Wrote k i) = IsSmall k.0 × IsSmall i
HasMsgWords s (msg.PageIs k i) = IsSmall k.0 × IsSmall i
HasMsgWords s (msg.AskRates k) = IsSmall k.0
HasMsgWords s (msg.Evict k) = IsSmall k.0
