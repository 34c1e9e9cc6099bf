-- What a transcript spells is read back, and two that spell one text are one.
use Rattle.std.proofs.Common.{◌≡◌, ℕ, ◌+◌, ◌≤◌, cond, List, [], ◌∷◌, ◌++◌, map, length, None, Some, Ok, codes, refl, sym, ap, ap₂, subst, ◌∙◌, arith}
use Rattle.std.specs.Option.{option_map_or}
use Rattle.std.proofs.lemmas.Bool.{eq-eqb}
use Rattle.swap_base.specs.Sizes.{Sizes, AreInLimits}
use Rattle.swap_io.proofs.Back.{number_again}
use Rattle.swap_wire.specs.declared.Event.{Event}
use Rattle.swap_wire.specs.declared.Event.TheVariants as event
use Rattle.swap_script.specs.declared.Why.TheVariants as why
use Rattle.swap_script.specs.Lines.{words_of, kept_lines}
use Rattle.swap_script.specs.Transcript.{event_words}
use Rattle.swap_script.specs.Reading.{◌>>=◌, fault_at, value_unless, geometry_line, lender_rest, Front, front_from, end_of}
use Rattle.swap_transcript.specs.Readers.{Words}
use Rattle.swap_transcript.specs.Transcripts.{Pair, Transcript, Above, Judged, nothing_above, count_pair, check_pair, end_rest, end_number, counts, ended_at, pair_before, pairs_from, transcript_lines, transcript, pair_of, with_told, with_pair, with_pairs, no_entries, entries_in}
use Rattle.swap_transcript.specs.Told.{Told, Saw, Entered}
use Rattle.swap_transcript.specs.Printed.{pair_words, told_words}
use Rattle.swap_transcript.specs.Verdicts.{entries_of}
use Rattle.swap_transcript.specs.Laws.{geometry_words, lender_words, end_words, transcript_words, words_in, MayStandBelow, MayFollow, IsSpelled}
use Rattle.swap_transcript.proofs.ResultBack.{pair_of-back}
use Rattle.swap_transcript.proofs.Lines.{owes_nothing}
use Rattle.swap_transcript.proofs.Whole.{bind_ok, at_ok, geometry-only, geometry-back, front-only, front-back, pairs-only, entries_after, NoLender, parts}
use Rattle.swap_script.specs.declared.TheConstants.{EVENT_LIMIT}

-- the same of lines
record Spelled (lines : List (ℕ × List ℕ)) (t : Transcript) : Type 0 where
  sizes : AreInLimits t.sizes
  lenders : MayStandBelow t.sizes [] t.lenders
  pairs : MayFollow t.sizes nothing_above t.pairs
  spelled : words_in lines ≡ transcript_words t

few_in : (told : Told) → entries_in told ≤ 1
few_in (Saw seen) = omega arith
few_in (Entered shown) = omega arith

one_more :
    (above : Above) (j : Judged) (e : Event) (told : Told) → above.entries ≡ length j.history
    → above.entries + entries_in told ≡ length (with_told j e told).history
one_more above j e (Saw seen) h = omega (arith, h)
one_more above j e (Entered shown) h = omega (arith, h)

-- an event's first word begins no lender line and no end line
event_apart : (e : Event) (words : Words) → (lender_rest (event_words e ++ words) ≡ None) × (end_rest (event_words e ++ words) ≡ None)
event_apart (event.PageOut c p) words = (refl, refl)
event_apart (event.PageIn c p) words = (refl, refl)
event_apart (event.Finish c) words = (refl, refl)
event_apart event.Start words = (refl, refl)
event_apart (event.Disk w ok) words = (refl, refl)
event_apart (event.Tick w) words = (refl, refl)
event_apart (event.Map s l) words = (refl, refl)
event_apart (event.Connect l) words = (refl, refl)
event_apart (event.Give l) words = (refl, refl)
event_apart (event.Take l) words = (refl, refl)
event_apart (event.Cut l a b) words = (refl, refl)
event_apart (event.Crash l) words = (refl, refl)
event_apart (event.Host l u w) words = (refl, refl)
event_apart (event.Round w) words = (refl, refl)

-- there are few entries
pub few_entries :
    (s : Sizes) (pairs : List Pair) (above : Above) → MayFollow s above pairs → above.entries ≤ above.events → above.events ≤ EVENT_LIMIT
    → entries_after above pairs ≤ EVENT_LIMIT
few_entries s [] above h fewer within = omega arith
few_entries s (pair ∷ pairs) above h fewer within =
    let owes = owes_nothing s above pair h.1 in
    few_entries s pairs (count_pair above pair) h.2 (omega (arith, few_in pair.told)) (omega (arith, owes.1))

pairs-back :
    (s : Sizes) (end : ℕ) (pairs : List Pair) (above : Above) (lines : List (ℕ × List ℕ)) → MayFollow s above pairs → above.entries ≤ above.events
    → above.events ≤ EVENT_LIMIT → words_in lines ≡ map pair_words pairs ++ end_words (entries_after above pairs) ∷ []
    → pairs_from s end above lines ≡ Ok pairs
pairs-back s end [] above [] h fewer within e = cc
pairs-back s end [] above ((n, text) ∷ []) h fewer within e =
    let head = parts (words_of text) (end_words above.entries) [] [] e in
    ap
    (λ o.
    option_map_or (λ behind. ended_at n (counts above.entries (end_number behind)) []) o
    (fault_at n (check_pair s above (pair_of s (words_of text))) >>= λ pair. pair_before pair (pairs_from s end (count_pair above pair) [])))
    (ap end_rest head.0)
    ∙ ap (λ o. ended_at n (counts above.entries o) []) (number_again above.entries (omega arith))
    ∙ ap (λ b. ended_at n (cond b None (Some why.End)) []) (eq-eqb above.entries above.entries refl)
pairs-back s end [] above ((n, text) ∷ line ∷ rest) h fewer within e =
    let head = parts (words_of text) (end_words above.entries) (words_in (line ∷ rest)) [] e in
    cc
pairs-back s end (pair ∷ pairs) above [] h fewer within e = cc
pairs-back s end (pair ∷ pairs) above ((n, text) ∷ rest) h fewer within e =
    let head =
    parts (words_of text) (pair_words pair) (words_in rest) (map pair_words pairs ++ end_words (entries_after (count_pair above pair) pairs) ∷ []) e in
    let owes = owes_nothing s above pair h.1 in
    let later = pairs-back s end pairs (count_pair above pair) rest h.2 (omega (arith, few_in pair.told)) (omega (arith, owes.1)) head.1 in
    ap
    (λ o.
    option_map_or (λ behind. ended_at n (counts above.entries (end_number behind)) rest) o
    (fault_at n (check_pair s above (pair_of s (words_of text))) >>= λ pair. pair_before pair (pairs_from s end (count_pair above pair) rest)))
    (ap end_rest head.0 ∙ (event_apart pair.event (codes "=" ∷ told_words pair.told)).1)
    ∙ ap (λ o. fault_at n (check_pair s above o) >>= λ pair. pair_before pair (pairs_from s end (count_pair above pair) rest)) (ap (pair_of s) head.0
    ∙ pair_of-back s pair h.0)
    ∙ ap (λ o. fault_at n (value_unless o pair) >>= λ pair. pair_before pair (pairs_from s end (count_pair above pair) rest)) h.1
    ∙ ap (pair_before pair) later

-- the entries that are counted are those that are judged
entries-are :
    (pairs : List Pair) (above : Above) (j : Judged) → above.entries ≡ length j.history → entries_after above pairs ≡ length (with_pairs j pairs).history
entries-are [] above j e = e
entries-are (pair ∷ pairs) above j e = entries-are pairs (count_pair above pair) (with_pair j pair) (one_more above j pair.event pair.told e)

pub entries_of-is : (t : Transcript) → entries_after nothing_above t.pairs ≡ entries_of t
entries_of-is t = entries-are t.pairs nothing_above no_entries refl

no_lender : (pairs : List Pair) (n : ℕ) → NoLender (map pair_words pairs ++ end_words n ∷ [])
no_lender [] n = refl
no_lender (pair ∷ pairs) n = (event_apart pair.event (codes "=" ∷ told_words pair.told)).0

lines-only : (end : ℕ) (lines : List (ℕ × List ℕ)) (t : Transcript) → transcript_lines end lines ≡ Ok t → Spelled lines t
lines-only end [] t e = cc
lines-only end ((n, text) ∷ rest) t e =
    let sizes = bind_ok (fault_at n (geometry_line (words_of text))) _ t e in
    let front = bind_ok (front_from sizes.0 [] rest) _ t sizes.2 in
    let pairs =
    bind_ok (pairs_from sizes.0 end nothing_above front.0.lines)
    (λ pairs. Ok (record { sizes = sizes.0; lenders = front.0.lenders; pairs = pairs })) t front.2 in
    let first = geometry-only (words_of text) sizes.0 (at_ok n (geometry_line (words_of text)) sizes.0 sizes.1) in
    let second = front-only sizes.0 rest [] front.0 front.1 in
    let third = pairs-only sizes.0 end front.0.lines nothing_above pairs.0 pairs.1 in
    let same : record { sizes = sizes.0; lenders = front.0.lenders; pairs = pairs.0 } ≡ t = cc in
    let made : Transcript = record { sizes = sizes.0; lenders = front.0.lenders; pairs = pairs.0 } in
    let behind : words_in rest ≡ map lender_words front.0.lenders ++ (map pair_words pairs.0 ++ end_words (entries_of made) ∷ []) =
    second.spelled
    ∙ ap₂ (λ specs ws. map lender_words specs ++ ws) (sym second.are)
    (third.spelled ∙ ap (λ m. map pair_words pairs.0 ++ end_words m ∷ []) (entries_of-is made)) in
    subst (Spelled ((n, text) ∷ rest)) same (record {
      sizes = first.0;
      lenders = subst (MayStandBelow sizes.0 []) (sym second.are) second.stand;
      pairs = third.follow;
      spelled = ap₂ (λ w ws. w ∷ ws) first.1 behind;
    })

lines-back : (end : ℕ) (lines : List (ℕ × List ℕ)) (t : Transcript) → Spelled lines t → transcript_lines end lines ≡ Ok t
lines-back end [] t h = let e = h.spelled in cc
lines-back end ((n, text) ∷ rest) t h =
    let head =
    parts (words_of text) (geometry_words t.sizes) (words_in rest)
    (map lender_words t.lenders ++ (map pair_words t.pairs ++ end_words (entries_of t) ∷ [])) h.spelled in
    let first = ap geometry_line head.0 ∙ geometry-back t.sizes h.sizes in
    let front =
    front-back t.sizes t.lenders [] rest (map pair_words t.pairs ++ end_words (entries_of t) ∷ []) h.lenders (no_lender t.pairs (entries_of t)) head.1 in
    let pairs =
    pairs-back t.sizes end t.pairs nothing_above front.rest h.pairs (omega arith) (omega arith)
    (front.spelled ∙ ap (λ m. map pair_words t.pairs ++ end_words m ∷ []) (sym (entries_of-is t))) in
    ap
    (λ r. fault_at n r
    >>= λ sizes.
    (front_from sizes [] rest
    >>= λ front. (pairs_from sizes end nothing_above front.lines >>= λ pairs. Ok (record { sizes = sizes; lenders = front.lenders; pairs = pairs }))))
    first
    ∙ ap
    (λ r. r
    >>= λ (front : Front).
    (pairs_from t.sizes end nothing_above front.lines >>= λ pairs. Ok (record { sizes = t.sizes; lenders = front.lenders; pairs = pairs })))
    front.is
    ∙ ap (λ r. r >>= λ pairs. Ok (record { sizes = t.sizes; lenders = t.lenders; pairs = pairs })) pairs

pub transcript-only : (text : List ℕ) (t : Transcript) → transcript text ≡ Ok t → IsSpelled text t
transcript-only text t e =
    let s = lines-only (end_of text) (kept_lines text) t e in record { sizes = s.sizes; lenders = s.lenders; pairs = s.pairs; lines = s.spelled }

pub transcript-back : (text : List ℕ) (t : Transcript) → IsSpelled text t → transcript text ≡ Ok t
transcript-back text t h = lines-back (end_of text) (kept_lines text) t (record { sizes = h.sizes; lenders = h.lenders; pairs = h.pairs; spelled = h.lines })

pub one_reading : (text : List ℕ) (t other : Transcript) → IsSpelled text t → IsSpelled text other → t ≡ other
one_reading text t other h k =
    let both : Ok t ≡ Ok other = sym (transcript-back text t h) ∙ transcript-back text other k in
    cc
