use Rattle.std.proofs.Common.{◌≡◌, ℕ, List, [], ◌∷◌, ◌++◌, refl, ap, ◌∙◌, decimal, append_assoc}
use Rattle.std.specs.Prelude.{codes}
use Rattle.swap_drill.specs.Text.{line_of}
use Rattle.swap_drill.proofs.text.put_from.Goals as goal

joined :
    (old a b c d : List ℕ)
    → ((((((((old ++ codes "from zero ") ++ a) ++ codes " queue ") ++ b) ++ codes " disk ") ++ c) ++ codes " lender ") ++ d) ++ (10 ∷ []) ≡ old
    ++ line_of (codes "from" ∷ codes "zero" ∷ a ∷ codes "queue" ∷ b ∷ codes "disk" ∷ c ∷ codes "lender" ∷ d ∷ [])
joined old a b c d = simp append_assoc

-- one more text with its number
put_more : (old front line line' : List ℕ) (n m : ℕ) → line ≡ old → n ≡ m → line' ≡ (line ++ front) ++ decimal n → line' ≡ (old ++ front) ++ decimal m
put_more old front line line' n m is same put = put ∙ ap (λ l. (l ++ front) ++ decimal n) is ∙ ap (λ k. (old ++ front) ++ decimal k) same

pub returns-clause-text : goal.returns-clause-text
returns-clause-text c =
    let s = c.args.summary.now in
    let old = c.args.line.now in
    let zeros = put_more old (codes "from zero ") _ _ _ s.zero refl c.from.ensures c.put.ensures.text in
    let queues = put_more _ (codes " queue ") _ _ _ s.queue zeros c.from-2.ensures c.put-2.ensures.text in
    let disks = put_more _ (codes " disk ") _ _ _ s.disk queues c.from-3.ensures c.put-3.ensures.text in
    let lenders = put_more _ (codes " lender ") _ _ _ s.lender disks c.from-4.ensures c.put-4.ensures.text in
    c.text.ensures ∙ ap (λ l. l ++ (10 ∷ [])) lenders ∙ joined old (decimal s.zero) (decimal s.queue) (decimal s.disk) (decimal s.lender)
