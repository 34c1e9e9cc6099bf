-- The text of a refused line, in pieces.
use Rattle.std.proofs.Common.{◌≡◌, ℕ, List, [], ◌∷◌, ◌++◌, codes, sym, ap, ◌∙◌, append_assoc, Option}
use Rattle.std.specs.Fmt.{decimal}
use Rattle.std.specs.Io.KnownBytes.{Appends}
use Rattle.swap_io.specs.Causes.{AppendsFront}
use Rattle.swap_script.specs.declared.ScriptRefused.{ScriptRefused}
use Rattle.swap_script.specs.Transcript.{refusal, why_word}
use Rattle.swap_run.proofs.Printed.{front_more, front_after, taken_as, front_as}

-- the two pieces in front of the line feed: the line, and the reason
abbrev pub line_of : ScriptRefused → List ℕ
line_of refused = codes "line " ++ decimal refused.line

abbrev pub reason_of : ScriptRefused → List ℕ
reason_of refused = codes ": " ++ why_word refused.why

pub pieces_are : (refused : ScriptRefused) → line_of refused ++ (reason_of refused ++ 10 ∷ []) ≡ refusal refused
pieces_are refused =
    let d : List ℕ = decimal refused.line in
    let w : List ℕ = why_word refused.why in
    ap (λ r. codes "line " ++ r) (sym (append_assoc d (codes ": " ++ w) (10 ∷ [])) ∙ ap (λ r. r ++ 10 ∷ []) (sym (append_assoc d (58 ∷ []) (32 ∷ w))))

-- the text was broken off in each of its pieces
pub broke_in_line :
    (a b : Option (List ℕ)) (refused : ScriptRefused) (digits : List ℕ) → digits ≡ decimal refused.line → AppendsFront a b (codes "line " ++ digits)
    → AppendsFront a b (refusal refused)
broke_in_line a b refused digits d broke =
    front_as a b _ _ (pieces_are refused)
    (front_more a b (line_of refused) (reason_of refused ++ 10 ∷ []) (front_as a b _ _ (ap (λ r. codes "line " ++ r) d) broke))

pub broke_in_reason :
    (a b c : Option (List ℕ)) (refused : ScriptRefused) (digits word : List ℕ) → digits ≡ decimal refused.line → word ≡ why_word refused.why
    → Appends a b (codes "line " ++ digits) → AppendsFront b c (codes ": " ++ word) → AppendsFront a c (refusal refused)
broke_in_reason a b c refused digits word d w taken broke =
    front_as a c _ _ (pieces_are refused)
    (front_after a b c (line_of refused) (reason_of refused ++ 10 ∷ []) (taken_as a b _ _ (ap (λ r. codes "line " ++ r) d) taken)
    (front_more b c (reason_of refused) (10 ∷ []) (front_as b c _ _ (ap (λ r. codes ": " ++ r) w) broke)))

pub broke_at_end :
    (a b c e : Option (List ℕ)) (refused : ScriptRefused) (digits word : List ℕ) → digits ≡ decimal refused.line → word ≡ why_word refused.why
    → Appends a b (codes "line " ++ digits) → Appends b c (codes ": " ++ word) → AppendsFront c e (10 ∷ []) → AppendsFront a e (refusal refused)
broke_at_end a b c e refused digits word d w taken more broke =
    front_as a e _ _ (pieces_are refused)
    (front_after a b e (line_of refused) (reason_of refused ++ 10 ∷ []) (taken_as a b _ _ (ap (λ r. codes "line " ++ r) d) taken)
    (front_after b c e (reason_of refused) (10 ∷ []) (taken_as b c _ _ (ap (λ r. codes ": " ++ r) w) more) broke))
