-- A message is read from its words, and from no others.
use Rattle.std.proofs.Common.{◌≡◌, ℕ, ◌^◌, ◌<◌, ◌∷◌, ◌++◌, Some, codes, refl, sym, ap, subst, ◌∙◌}
use Rattle.std.specs.Fmt.{decimal}
use Rattle.std.specs.List.{AllByRecursion}
use Rattle.std.specs.Option.{option_and_then}
use Rattle.swap_base.specs.Sizes.{Sizes}
use Rattle.swap_wire.specs.declared.Msg.{Msg}
use Rattle.swap_wire.specs.declared.Msg.TheVariants as msg
use Rattle.swap_script.specs.Transcript.{msg_words}
use Rattle.swap_transcript.specs.Readers.{Words, small_at, wide_at, row}
use Rattle.swap_transcript.specs.Messages.{rates_at, lender_rows, msg_rows, msg_at, HasMsgWords}
use Rattle.swap_transcript.proofs.Front.{bind_some, bound, small_at-only, wide_at-only, small_at-back, wide_at-back, RowSays, Prints, one-row, two-row, by_rows-only, one-back, two-back}

rates-row : (s : Sizes) → RowSays (Prints msg_words (HasMsgWords s)) (row (codes "rates") rates_at)
rates-row s words x e =
    let k = bind_some (small_at words) (λ k. option_and_then (λ v. Some (msg.Rates (record { 0 = k.0 }) v.0, v.1)) (wide_at k.1)) x e in
    let v = bind_some (wide_at k.0.1) (λ v. Some (msg.Rates (record { 0 = k.0.0 }) v.0, v.1)) x k.2 in
    let first = small_at-only words k.0 k.1 in
    let second = wide_at-only k.0.1 v.0 v.1 in
    let same : (msg.Rates (record { 0 = k.0.0 }) v.0.0, v.0.1) ≡ x = cc in
    subst (Prints msg_words (HasMsgWords s) (codes "rates" ∷ words)) same
    ((first.within, second.within), ap (λ w. codes "rates" ∷ w) (first.spelled ∙ ap (λ w. decimal k.0.0 ∷ w) second.spelled))

pub lender_rows-only : (s : Sizes) → AllByRecursion (RowSays (Prints msg_words (HasMsgWords s))) lender_rows
lender_rows-only s = (
  two-row msg_words (HasMsgWords s) _ _ (λ a b. refl) (λ a b la lb. (la, lb)),
  (
    two-row msg_words (HasMsgWords s) _ _ (λ a b. refl) (λ a b la lb. (la, lb)),
    (
      one-row msg_words (HasMsgWords s) _ _ (λ n. refl) (λ n l. l),
      (
        two-row msg_words (HasMsgWords s) _ _ (λ a b. refl) (λ a b la lb. (la, lb)),
        (
          two-row msg_words (HasMsgWords s) _ _ (λ a b. refl) (λ a b la lb. (la, lb)),
          (
            one-row msg_words (HasMsgWords s) _ _ (λ n. refl) (λ n l. l),
            (
              one-row msg_words (HasMsgWords s) _ _ (λ n. refl) (λ n l. l),
              tt,
            ),
          ),
        ),
      ),
    ),
  ),
)

pub msg_rows-only : (s : Sizes) → AllByRecursion (RowSays (Prints msg_words (HasMsgWords s))) (msg_rows s)
msg_rows-only s = (
  one-row msg_words (HasMsgWords s) _ _ (λ n. refl) (λ n l. (l, refl, refl)),
  (
    one-row msg_words (HasMsgWords s) _ _ (λ n. refl) (λ n l. l),
    (
      one-row msg_words (HasMsgWords s) _ _ (λ n. refl) (λ n l. l),
      (
        two-row msg_words (HasMsgWords s) _ _ (λ a b. refl) (λ a b la lb. (la, lb)),
        (
          two-row msg_words (HasMsgWords s) _ _ (λ a b. refl) (λ a b la lb. (la, lb)),
          (
            rates-row s,
            (
              one-row msg_words (HasMsgWords s) _ _ (λ n. refl) (λ n l. l),
              lender_rows-only s,
            ),
          ),
        ),
      ),
    ),
  ),
)

pub msg_at-only : (s : Sizes) (words : Words) (x : Msg × Words) → msg_at s words ≡ Some x → HasMsgWords s x.0 × (words ≡ msg_words x.0 ++ x.1)
msg_at-only s words x e = by_rows-only (Prints msg_words (HasMsgWords s)) (msg_rows s) (msg_rows-only s) words x e

rates-back : (k v : ℕ) (rest : Words) → k < 2 ^ 32 → v < 2 ^ 64 → rates_at (decimal k ∷ decimal v ∷ rest) ≡ Some (msg.Rates (record { 0 = k }) v, rest)
rates-back k v rest lk lv =
    bound (small_at (decimal k ∷ decimal v ∷ rest)) (λ k. option_and_then (λ v. Some (msg.Rates (record { 0 = k.0 }) v.0, v.1)) (wide_at k.1))
    (k, decimal v ∷ rest) (small_at-back k (decimal v ∷ rest) lk)
    ∙ bound (wide_at (decimal v ∷ rest)) (λ v. Some (msg.Rates (record { 0 = k }) v.0, v.1)) (v, rest) (wide_at-back v rest lv)

pub msg_at-back : (s : Sizes) (m : Msg) (rest : Words) → HasMsgWords s m → msg_at s (msg_words m ++ rest) ≡ Some (m, rest)
msg_at-back s (msg.Hello version page_bytes pages_per_slab) rest h =
    one-back (λ v. msg.Hello v s.page_bytes s.pages_per_slab) version rest h.0 ∙ ap (λ p. Some (msg.Hello version p s.pages_per_slab, rest)) (sym h.1)
    ∙ ap (λ p. Some (msg.Hello version page_bytes p, rest)) (sym h.2)
msg_at-back s (msg.Query n) rest h = one-back (λ n. msg.Query (record { 0 = n })) n.0 rest h
msg_at-back s (msg.Borrow n) rest h = one-back (λ n. msg.Borrow (record { 0 = n })) n.0 rest h
msg_at-back s (msg.Write k i) rest h = two-back (λ k i. msg.Write (record { 0 = k }) i) k.0 i rest h.0 h.1
msg_at-back s (msg.Read k i) rest h = two-back (λ k i. msg.Read (record { 0 = k }) i) k.0 i rest h.0 h.1
msg_at-back s (msg.Rates k v) rest h = rates-back k.0 v rest h.0 h.1
msg_at-back s (msg.Done k) rest h = one-back (λ k. msg.Done (record { 0 = k })) k.0 rest h
msg_at-back s (msg.Room n free) rest h = two-back (λ n free. msg.Room (record { 0 = n }) free) n.0 free rest h.0 h.1
msg_at-back s (msg.Lent n k) rest h = two-back (λ n k. msg.Lent (record { 0 = n }) (record { 0 = k })) n.0 k.0 rest h.0 h.1
msg_at-back s (msg.Refused n) rest h = one-back (λ n. msg.Refused (record { 0 = n })) n.0 rest h
msg_at-back s (msg.Wrote k i) rest h = two-back (λ k i. msg.Wrote (record { 0 = k }) i) k.0 i rest h.0 h.1
msg_at-back s (msg.PageIs k i) rest h = two-back (λ k i. msg.PageIs (record { 0 = k }) i) k.0 i rest h.0 h.1
msg_at-back s (msg.AskRates k) rest h = one-back (λ k. msg.AskRates (record { 0 = k })) k.0 rest h
msg_at-back s (msg.Evict k) rest h = one-back (λ k. msg.Evict (record { 0 = k })) k.0 rest h
