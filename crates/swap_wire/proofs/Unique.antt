-- A message has one frame, and a frame one message; none begins another.
use Rattle.std.proofs.Common.{◌≡◌, ℕ, ◌+◌, ◌*◌, ◌^◌, ◌<◌, ◌≤◌, List, [], ◌∷◌, ◌++◌, length, get_or, take, drop, refl, sym, ap, ◌∙◌, append_assoc, arith}
use Rattle.std.specs.Int.{w32, from_be_bytes}
use Rattle.std.proofs.lemmas.List.{take_at, drop_at, length-append, get_or_at}
use Rattle.std.proofs.lemmas.Nat.{from_be_bytes-to_be_bytes_4}
use Rattle.swap_wire.specs.declared.Msg.{Msg}
use Rattle.swap_wire.specs.declared.side.Side.{Side}
use Rattle.swap_wire.specs.declared.kind.Kind.{Kind}
use Rattle.swap_wire.specs.Frames.{form, form_of, kind, fields, word, counted_bytes, frame, IsFrame, longest}
use Rattle.swap_wire.specs.Heads.{counted_length, whole_length, head, message}
use Rattle.swap_wire.proofs.Bytes.{cut}
use Rattle.swap_wire.proofs.Fields.{same_kind, fields_length, fields_below, message_fields}

-- ---- the parts of a frame

pub counted_is :
    (m : Msg) (page : List ℕ) (page_bytes : ℕ) → length page ≡ (form_of m).pages * page_bytes
    → length (counted_bytes m page) ≡ counted_length page_bytes (form_of m)
counted_is m page page_bytes len = omega (arith, length-append (fields m) page, fields_length m, len)

-- a frame by its head
pub frame_by_head :
    (m : Msg) (page : List ℕ) (page_bytes : ℕ) → length page ≡ (form_of m).pages * page_bytes → frame m page ≡ head page_bytes (form_of m) ++ (fields m ++ page)
frame_by_head m page page_bytes len =
    ap (λ (n : ℕ). word n ++ counted_bytes m page) (counted_is m page page_bytes len)
    ∙ sym (append_assoc (word (counted_length page_bytes (form_of m))) ((form_of m).number ∷ []) (fields m ++ page))

pub begins :
    (side : Side) (page_bytes : ℕ) (m : Msg) (page bytes : List ℕ) → IsFrame side page_bytes m page bytes
    → bytes ≡ head page_bytes (form_of m) ++ (fields m ++ page)
begins side page_bytes m page bytes f = f.spelled ∙ frame_by_head m page page_bytes f.pages

pub frame_length :
    (side : Side) (page_bytes : ℕ) (m : Msg) (page bytes : List ℕ) → IsFrame side page_bytes m page bytes → length bytes ≡ whole_length page_bytes (form_of m)
frame_length side page_bytes m page bytes f =
    let spelled : length bytes ≡ 4 + length (counted_bytes m page) =
    ap length f.spelled ∙ length-append (word (length (counted_bytes m page))) (counted_bytes m page) in
    omega (arith, spelled, counted_is m page page_bytes f.pages)

pub frame_within :
    (side : Side) (page_bytes : ℕ) (m : Msg) (page bytes : List ℕ) → IsFrame side page_bytes m page bytes → 8 ≤ page_bytes → length bytes ≤ longest page_bytes
frame_within side page_bytes m page bytes f least = omega (arith, frame_length side page_bytes m page bytes f, fields_below (kind m) page_bytes least)

-- ---- what two frames share

length_back :
    (m : Msg) (page a x : List ℕ) → a ≡ frame m page → length (counted_bytes m page) < 2 ^ 32
    → from_be_bytes w32 (take 4 (a ++ x)) ≡ length (counted_bytes m page)
length_back m page a x e short =
    let parts : a ++ x ≡ word (length (counted_bytes m page)) ++ (counted_bytes m page ++ x) =
    ap (λ (b : List ℕ). b ++ x) e ∙ append_assoc (word (length (counted_bytes m page))) (counted_bytes m page) x in
    let front : take 4 (a ++ x) ≡ word (length (counted_bytes m page)) =
    ap (take 4) parts ∙ take_at (word (length (counted_bytes m page))) (counted_bytes m page ++ x) 4 refl in
    ap (from_be_bytes w32) front ∙ from_be_bytes-to_be_bytes_4 (length (counted_bytes m page)) short

spelled_length : (m : Msg) (page a : List ℕ) → a ≡ frame m page → length a ≡ 4 + length (counted_bytes m page)
spelled_length m page a e = ap length e ∙ length-append (word (length (counted_bytes m page))) (counted_bytes m page)

pub no_front : (s t : Side) (j k : ℕ) (m n : Msg) (p q a b x y : List ℕ) → IsFrame s j m p a → IsFrame t k n q b → a ++ x ≡ b ++ y → (a ≡ b) × (x ≡ y)
no_front s t j k m n p q a b x y f g e =
    let same : length (counted_bytes m p) ≡ length (counted_bytes n q) =
    sym (length_back m p a x f.spelled f.short) ∙ ap (λ (c : List ℕ). from_be_bytes w32 (take 4 c)) e ∙ length_back n q b y g.spelled g.short in
    cut a x b y (omega (arith, same, spelled_length m p a f.spelled, spelled_length n q b g.spelled)) e

number_at : (m : Msg) (page a : List ℕ) → a ≡ frame m page → get_or a 4 0 ≡ (form_of m).number
number_at m page a e = ap (λ (c : List ℕ). get_or c 4 0) e ∙ get_or_at (word (length (counted_bytes m page))) (form_of m).number (fields m ++ page) 0 4 refl

parts_at : (m : Msg) (page a : List ℕ) → a ≡ frame m page → drop 5 a ≡ fields m ++ page
parts_at m page a e =
    let regrouped : a ≡ (word (length (counted_bytes m page)) ++ ((form_of m).number ∷ [])) ++ (fields m ++ page) =
    e ∙ sym (append_assoc (word (length (counted_bytes m page))) ((form_of m).number ∷ []) (fields m ++ page)) in
    ap (drop 5) regrouped ∙ drop_at (word (length (counted_bytes m page)) ++ ((form_of m).number ∷ [])) (fields m ++ page) 5 refl

pub one_message : (s t : Side) (j k : ℕ) (m n : Msg) (p q bytes : List ℕ) → IsFrame s j m p bytes → IsFrame t k n q bytes → (m ≡ n) × (p ≡ q)
one_message s t j k m n p q bytes f g =
    let kinds : kind m ≡ kind n = same_kind (kind m) (kind n) (sym (number_at m p bytes f.spelled) ∙ number_at n q bytes g.spelled) in
    let parts : fields m ++ p ≡ fields n ++ q = sym (parts_at m p bytes f.spelled) ∙ parts_at n q bytes g.spelled in
    let lengths : length (fields m) ≡ length (fields n) = fields_length m ∙ ap (λ (i : Kind). (form i).fields) kinds ∙ sym (fields_length n) in
    let both = cut (fields m) p (fields n) q lengths parts in
    let same : message (kind m) (fields m) ≡ message (kind n) (fields n) = ap (λ (i : Kind). message i (fields m)) kinds ∙ ap (message (kind n)) both.0 in
    (sym (message_fields m f.numbers) ∙ same ∙ message_fields n g.numbers, both.1)
