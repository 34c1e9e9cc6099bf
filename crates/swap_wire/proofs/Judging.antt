-- What the first five bytes tell is what the bytes are: they begin with a whole frame, they are a proper front of one,
-- or no further bytes make them one.
use Rattle.std.proofs.Common.{◌≡◌, ℕ, ◌+◌, ◌-◌, ◌*◌, ◌<◌, ◌≤◌, min, Bool, true, false, cond, ltb, List, [], ◌++◌, length, take, drop, replicate, Option, Some, None, refl, sym, ap, subst, ◌∙◌, append_assoc, arith, inl, inr}
use Rattle.std.specs.List.{find}
use Rattle.std.proofs.lemmas.Bool.{and_parts, and_from, both_ways, ltb-true, ltb-false, cases_lt}
use Rattle.std.proofs.lemmas.List.{append-nil, take_at, drop_at, take_all, take-take, take-append-drop, take-append-le, length-append, length-take, length-drop, length-replicate, drop-drop}
use Rattle.std.proofs.lemmas.Slice.Eq.{bytes_eq-Decides}
use Rattle.swap_wire.specs.declared.Msg.{Msg}
use Rattle.swap_wire.specs.declared.side.Side.{Side}
use Rattle.swap_wire.specs.declared.side.Side.TheVariants.{Device, Lender}
use Rattle.swap_wire.specs.declared.kind.Kind.{Kind}
use Rattle.swap_wire.specs.declared.frames.Judged.TheVariants.{Whole, Partial, Hopeless}
use Rattle.swap_wire.specs.Frames.{form, form_of, kind, fields, IsBytes, IsFrame, IsPartial, IsHopeless}
use Rattle.swap_wire.specs.Heads.{all_kinds, whole_length, head, same_side, agree, may_begin, judged_as, judge_head, message, fields_in, page_of}
use Rattle.swap_wire.proofs.Bytes.{IsBytes-drop, IsBytes-take, IsBytes-append, IsBytes-zeros}
use Rattle.swap_wire.proofs.Fields.{find_some, none_passes, fields_message, numbers_message, kind_message, pages_below, fields_short}
use Rattle.swap_wire.proofs.Unique.{counted_is, frame_by_head, begins}

-- ---- lists that are the same as far as both go

pub agree_same : (xs ys zs ws : List ℕ) → xs ++ zs ≡ ys ++ ws → agree xs ys ≡ true
agree_same xs ys zs ws e =
    let n = min (length xs) (length ys) in
    let one : take n xs ≡ take n (xs ++ zs) = sym (take-append-le n xs zs (omega arith)) in
    let two : take n (ys ++ ws) ≡ take n ys = take-append-le n ys ws (omega arith) in
    (bytes_eq-Decides (take n xs) (take n ys)).1 (one ∙ ap (take n) e ∙ two)

agreed : (xs ys : List ℕ) → agree xs ys ≡ true → take (min (length xs) (length ys)) xs ≡ take (min (length xs) (length ys)) ys
agreed xs ys e = (bytes_eq-Decides (take (min (length xs) (length ys)) xs) (take (min (length xs) (length ys)) ys)).0 e

-- the shorter one begins the longer one
agree_long : (xs ys : List ℕ) → agree xs ys ≡ true → length xs ≤ length ys → take (length xs) ys ≡ xs
agree_long xs ys e le =
    let n : min (length xs) (length ys) ≡ length xs = omega arith in
    let same = subst (λ (k : ℕ). take k xs ≡ take k ys) n (agreed xs ys e) in
    sym same ∙ take_all (length xs) xs (omega arith)

agree_short : (xs ys : List ℕ) → agree xs ys ≡ true → length ys ≤ length xs → xs ≡ ys ++ drop (length ys) xs
agree_short xs ys e le =
    let n : min (length xs) (length ys) ≡ length ys = omega arith in
    let same = subst (λ (k : ℕ). take k xs ≡ take k ys) n (agreed xs ys e) in
    let front : take (length ys) xs ≡ ys = same ∙ take_all (length ys) ys (omega arith) in
    sym (take-append-drop (length ys) xs) ∙ ap (λ (x : List ℕ). x ++ drop (length ys) xs) front

side_is : (s t : Side) → same_side s t ≡ true → t ≡ s
side_is Device Device e = refl
side_is Device Lender e = absurd cc
side_is Lender Device e = absurd cc
side_is Lender Lender e = refl

side_same : (s : Side) → same_side s s ≡ true
side_same Device = refl
side_same Lender = refl

-- ---- a list of the right length with a kind's head is a frame

pub made :
    (side : Side) (page_bytes : ℕ) (k : Kind) (bytes : List ℕ) → (form k).from ≡ side → page_bytes ≤ 4096 → IsBytes (drop 5 bytes)
    → length bytes ≡ whole_length page_bytes (form k) → take 5 bytes ≡ head page_bytes (form k)
    → IsFrame side page_bytes (message k (fields_in k bytes)) (page_of k bytes) bytes
made side page_bytes k bytes from most fits len front =
    let m = message k (fields_in k bytes) in
    let p = page_of k bytes in
    let km : kind m ≡ k = kind_message k (fields_in k bytes) in
    let few : length (fields_in k bytes) ≡ (form k).fields = omega (arith, length-take (form k).fields (drop 5 bytes), length-drop 5 bytes, len) in
    let fields-fit : IsBytes (fields_in k bytes) = IsBytes-take (form k).fields (drop 5 bytes) fits in
    let fm : fields m ≡ fields_in k bytes = fields_message k (fields_in k bytes) few fields-fit in
    let behind : drop (form k).fields (drop 5 bytes) ≡ p = drop-drop (form k).fields 5 bytes in
    let pages : length p ≡ (form k).pages * page_bytes = omega (arith, length-drop (5 + (form k).fields) bytes, len) in
    let pages-of : length p ≡ (form_of m).pages * page_bytes = pages ∙ ap (λ (i : Kind). (form i).pages * page_bytes) (sym km) in
    let rest : fields m ++ p ≡ drop 5 bytes =
    ap (λ (x : List ℕ). x ++ p) fm ∙ ap (λ (x : List ℕ). fields_in k bytes ++ x) (sym behind) ∙ take-append-drop (form k).fields (drop 5 bytes) in
    let whole : head page_bytes (form_of m) ++ (fields m ++ p) ≡ bytes =
    ap (λ (i : Kind). head page_bytes (form i) ++ (fields m ++ p)) km ∙ ap (λ (x : List ℕ). head page_bytes (form k) ++ x) rest
    ∙ ap (λ (x : List ℕ). x ++ drop 5 bytes) (sym front) ∙ take-append-drop 5 bytes in
    record {
      from = ap (λ (i : Kind). (form i).from) km ∙ from;
      numbers = numbers_message k (fields_in k bytes) fields-fit;
      pages = pages-of;
      each = subst IsBytes behind (IsBytes-drop (form k).fields (drop 5 bytes) fits);
      short = omega (arith, counted_is m p page_bytes pages-of, fields_short (kind m), pages_below (kind m) page_bytes, most);
      spelled = sym (frame_by_head m p page_bytes pages-of ∙ whole);
    }

-- ---- the three verdicts

record Found (side : Side) (page_bytes : ℕ) (bytes : List ℕ) (k : Kind) : Type 0 where
  pub from : (form k).from ≡ side
  pub agrees : agree (head page_bytes (form k)) bytes ≡ true

found : (side : Side) (page_bytes : ℕ) (bytes : List ℕ) (k : Kind) → find (may_begin side page_bytes bytes) all_kinds ≡ Some k → Found side page_bytes bytes k
found side page_bytes bytes k e =
    let both = and_parts (same_side side (form k).from) (agree (head page_bytes (form k)) bytes) (find_some (may_begin side page_bytes bytes) all_kinds k e) in
    record { from = side_is side (form k).from both.0; agrees = both.1 }

chosen : (b : Bool) (j k : Kind) → cond b Partial (Whole j) ≡ Whole k → (b ≡ false) × (j ≡ k)
chosen true j k e = absurd cc
chosen false j k e = (refl, cc)

waiting : (b : Bool) (j : Kind) → cond b Partial (Whole j) ≡ Partial → b ≡ true
waiting true j e = refl
waiting false j e = absurd cc

never : (b : Bool) (j : Kind) → cond b Partial (Whole j) ≡ Hopeless → ⊥
never true j e = absurd cc
never false j e = absurd cc

whole_found :
    (page_bytes : ℕ) (bytes : List ℕ) (o : Option Kind) (k : Kind) → judged_as page_bytes bytes o ≡ Whole k
    → (o ≡ Some k) × (whole_length page_bytes (form k) ≤ length bytes)
whole_found page_bytes bytes None k e = absurd cc
whole_found page_bytes bytes (Some j) k e =
    let c = chosen (ltb (length bytes) (whole_length page_bytes (form j))) j k e in
    let far : whole_length page_bytes (form j) ≤ length bytes = ltb-false _ _ c.0 in
    (ap (λ (i : Kind). Some i) c.1, subst (λ (i : Kind). whole_length page_bytes (form i) ≤ length bytes) c.1 far)

partial_found :
    (page_bytes : ℕ) (bytes : List ℕ) (o : Option Kind) → judged_as page_bytes bytes o ≡ Partial
    → (k : Kind) × (o ≡ Some k) × (length bytes < whole_length page_bytes (form k))
partial_found page_bytes bytes None e = absurd cc
partial_found page_bytes bytes (Some j) e = (j, refl, ltb-true _ _ (waiting (ltb (length bytes) (whole_length page_bytes (form j))) j e))

none_found : (page_bytes : ℕ) (bytes : List ℕ) (o : Option Kind) → judged_as page_bytes bytes o ≡ Hopeless → o ≡ None
none_found page_bytes bytes None e = refl
none_found page_bytes bytes (Some j) e = absurd (never (ltb (length bytes) (whole_length page_bytes (form j))) j e)

-- the whole frame in front
pub record Front (side : Side) (page_bytes : ℕ) (bytes : List ℕ) (k : Kind) : Type 0 where
  pub far : whole_length page_bytes (form k) ≤ length bytes
  pub is_frame : IsFrame side page_bytes (message k (fields_in k (take (whole_length page_bytes (form k)) bytes)))
      (page_of k (take (whole_length page_bytes (form k)) bytes)) (take (whole_length page_bytes (form k)) bytes)

pub whole_is :
    (side : Side) (page_bytes : ℕ) (bytes : List ℕ) (k : Kind) → judge_head side page_bytes bytes ≡ Whole k → page_bytes ≤ 4096 → IsBytes bytes
    → Front side page_bytes bytes k
whole_is side page_bytes bytes k e most fits =
    let n = whole_length page_bytes (form k) in
    let w = whole_found page_bytes bytes (find (may_begin side page_bytes bytes) all_kinds) k e in
    let f = found side page_bytes bytes k w.0 in
    let len : length (take n bytes) ≡ n = omega (arith, length-take n bytes, w.1) in
    let begun : take 5 bytes ≡ head page_bytes (form k) = agree_long (head page_bytes (form k)) bytes f.agrees (omega (arith, w.1)) in
    let front : take 5 (take n bytes) ≡ head page_bytes (form k) = take-take 5 n bytes (omega arith) ∙ begun in
    record { far = w.1; is_frame = made side page_bytes k (take n bytes) f.from most (IsBytes-drop 5 (take n bytes) (IsBytes-take n bytes fits)) len front }

partial_long :
    (side : Side) (page_bytes : ℕ) (bytes : List ℕ) (k : Kind) → Found side page_bytes bytes k → length bytes < whole_length page_bytes (form k)
    → page_bytes ≤ 4096 → IsBytes bytes → 5 ≤ length bytes → IsPartial side page_bytes bytes
partial_long side page_bytes bytes k f short most fits le =
    let n = whole_length page_bytes (form k) in
    let more : List ℕ = replicate (n - length bytes) 0 in
    let size : length more ≡ n - length bytes = length-replicate {A = ℕ} (n - length bytes) 0 in
    let len : length (bytes ++ more) ≡ n = omega (arith, length-append bytes more, size) in
    let begun : take 5 bytes ≡ head page_bytes (form k) = agree_long (head page_bytes (form k)) bytes f.agrees le in
    let front : take 5 (bytes ++ more) ≡ head page_bytes (form k) = take-append-le 5 bytes more le ∙ begun in
    record {
      m = message k (fields_in k (bytes ++ more));
      page = page_of k (bytes ++ more);
      more = more;
      is_frame =
          made side page_bytes k (bytes ++ more) f.from most
          (IsBytes-drop 5 (bytes ++ more) (IsBytes-append bytes more fits (IsBytes-zeros (n - length bytes)))) len front;
      some = omega (arith, size);
    }

partial_short :
    (side : Side) (page_bytes : ℕ) (bytes : List ℕ) (k : Kind) → Found side page_bytes bytes k → page_bytes ≤ 4096 → length bytes < 5
    → IsPartial side page_bytes bytes
partial_short side page_bytes bytes k f most lt =
    let h = head page_bytes (form k) in
    let zeros : List ℕ = replicate ((form k).fields + (form k).pages * page_bytes) 0 in
    let more : List ℕ = drop (length bytes) h ++ zeros in
    let size : length zeros ≡ (form k).fields + (form k).pages * page_bytes = length-replicate {A = ℕ} ((form k).fields + (form k).pages * page_bytes) 0 in
    let begun : h ≡ bytes ++ drop (length bytes) h = agree_short h bytes f.agrees (omega arith) in
    let whole : bytes ++ more ≡ h ++ zeros = sym (append_assoc bytes (drop (length bytes) h) zeros) ∙ ap (λ (x : List ℕ). x ++ zeros) (sym begun) in
    let len : length (bytes ++ more) ≡ whole_length page_bytes (form k) = ap length whole ∙ omega (arith, length-append h zeros, size) in
    let front : take 5 (bytes ++ more) ≡ h = ap (take 5) whole ∙ take_at h zeros 5 refl in
    let behind : drop 5 (bytes ++ more) ≡ zeros = ap (drop 5) whole ∙ drop_at h zeros 5 refl in
    record {
      m = message k (fields_in k (bytes ++ more));
      page = page_of k (bytes ++ more);
      more = more;
      is_frame =
          made side page_bytes k (bytes ++ more) f.from most
          (subst IsBytes (sym behind) (IsBytes-zeros ((form k).fields + (form k).pages * page_bytes))) len front;
      some = omega (arith, length-append (drop (length bytes) h) zeros, length-drop (length bytes) h);
    }

pub partial_is :
    (side : Side) (page_bytes : ℕ) (bytes : List ℕ) → judge_head side page_bytes bytes ≡ Partial → page_bytes ≤ 4096 → IsBytes bytes
    → IsPartial side page_bytes bytes
partial_is side page_bytes bytes e most fits =
    let p = partial_found page_bytes bytes (find (may_begin side page_bytes bytes) all_kinds) e in
    let f = found side page_bytes bytes p.0 p.1 in
    elim (cases_lt (length bytes) 5) [
      | inl lt ↦ partial_short side page_bytes bytes p.0 f most lt
      | inr le ↦ partial_long side page_bytes bytes p.0 f p.2 most fits le
    ]

-- a frame whose head agrees with the bytes would have been found
refuted :
    (side : Side) (page_bytes : ℕ) (bytes : List ℕ) (m : Msg) (page front x y : List ℕ) → find (may_begin side page_bytes bytes) all_kinds ≡ None
    → IsFrame side page_bytes m page front → front ++ x ≡ bytes ++ y → ⊥
refuted side page_bytes bytes m page front x y none f e =
    let h = head page_bytes (form_of m) in
    let parts : h ++ ((fields m ++ page) ++ x) ≡ bytes ++ y =
    sym (append_assoc h (fields m ++ page) x) ∙ ap (λ (z : List ℕ). z ++ x) (sym (begins side page_bytes m page front f)) ∙ e in
    let agrees : agree h bytes ≡ true = agree_same h bytes ((fields m ++ page) ++ x) y parts in
    let sides : same_side side (form_of m).from ≡ true = ap (same_side side) f.from ∙ side_same side in
    both_ways (may_begin side page_bytes bytes (kind m)) (none_passes (may_begin side page_bytes bytes) (kind m) none)
    (and_from (same_side side (form_of m).from) (agree h bytes) sides agrees)

pub hopeless_is : (side : Side) (page_bytes : ℕ) (bytes : List ℕ) → judge_head side page_bytes bytes ≡ Hopeless → IsHopeless side page_bytes bytes
hopeless_is side page_bytes bytes e =
    let none = none_found page_bytes bytes (find (may_begin side page_bytes bytes) all_kinds) e in
    record {
      none_in_front = λ m page front rest f parts. refuted side page_bytes bytes m page front rest [] none f (sym parts ∙ sym (append-nil bytes));
      none_beyond = λ m page more f. refuted side page_bytes bytes m page (bytes ++ more) [] more none f (append-nil (bytes ++ more));
    }
