-- The laws of a decoder over every stream, by induction on its calls.
use Rattle.std.proofs.Common.{◌≡◌, ℕ, ◌+◌, ◌*◌, ◌<◌, ◌≤◌, min, Bool, true, false, cond, List, [], ◌∷◌, ◌++◌, length, take, drop, replicate, refl, sym, ap, subst, ◌∙◌, append_assoc, arith, inl, inr, ◌⊎◌}
use Rattle.std.proofs.lemmas.Bool.{both_ways, cond-true, cond-false, cases_Bool, cases_lt}
use Rattle.std.proofs.lemmas.List.{append-nil, take_all, take_min, take_at, take-append-drop, take-append-le, length-append, length-replicate, nil_from_length}
use Rattle.swap_wire.specs.declared.Msg.{Msg}
use Rattle.swap_wire.specs.declared.Msg.TheVariants as msg
use Rattle.swap_wire.specs.declared.side.Side.{Side}
use Rattle.swap_wire.specs.declared.side.Side.TheVariants.{Device, Lender}
use Rattle.swap_wire.specs.declared.decoder.Next.TheVariants as next
use Rattle.swap_wire.specs.declared.kind.Kind.{Kind}
use Rattle.swap_wire.specs.declared.frames.Judged.{Judged}
use Rattle.swap_wire.specs.declared.frames.Judged.TheVariants.{Whole, Partial, Hopeless}
use Rattle.swap_wire.specs.Frames.{form, form_of, kind, frame, NumbersFit, IsBytes, IsFrame, IsWhole, IsPartial, IsHopeless, longest}
use Rattle.swap_wire.specs.Heads.{whole_length, judge_head, message, fields_in, page_of}
use Rattle.swap_wire.specs.Decoding.{DecoderView, room, bytes_taken, feed_after, count_up, answered_after, Waits}
use Rattle.swap_wire.specs.Streams.{Step, Fed, Asked, decoder_after, Happens, Runs, end_of, stream, messages_given, frames_of, AreSent, Splits}
use Rattle.swap_wire.specs.Laws.{BadStays}
use Rattle.swap_wire.proofs.Bytes.{IsBytes-zeros}
use Rattle.swap_wire.proofs.Fields.{pages_below, fields_short}
use Rattle.swap_wire.proofs.Unique.{counted_is, frame_length, no_front, one_message, frame_within}
use Rattle.swap_wire.proofs.Judging.{whole_is, partial_is, hopeless_is, Front}

-- ---- once bad, always bad

fed_bad : (d : DecoderView) (bytes : List ℕ) → d.bad ≡ true → feed_after d bytes ≡ d
fed_bad d bytes e = cond-true d.bad d (record d { rest = d.rest ++ take (room d) bytes }) e

pub fed_alive : (d : DecoderView) (bytes : List ℕ) → d.bad ≡ false → feed_after d bytes ≡ record d { rest = d.rest ++ take (room d) bytes }
fed_alive d bytes e = cond-false d.bad d (record d { rest = d.rest ++ take (room d) bytes }) e

bad_again : (d : DecoderView) → d.bad ≡ true → record d { bad = true } ≡ d
bad_again d e = ap (λ (b : Bool). record d { bad = b }) (sym e)

step_bad : (d : DecoderView) (step : Step) → d.bad ≡ true → Happens d step → decoder_after d step ≡ d
step_bad d (Fed bytes) e h = fed_bad d bytes e
step_bad d (Asked (next.Got m) page) e h = absurd (both_ways d.bad h.alive e)
step_bad d (Asked next.More page) e h = refl
step_bad d (Asked (next.Bad at) page) e h = bad_again d e

end_bad : (d : DecoderView) (steps : List Step) → d.bad ≡ true → Runs d steps → end_of d steps ≡ d
end_bad d [] e r = refl
end_bad d (step ∷ steps) e r =
    let same = step_bad d step e r.0 in
    let later : Runs d steps = subst (λ (x : DecoderView). Runs x steps) same r.1 in
    ap (λ (x : DecoderView). end_of x steps) same ∙ end_bad d steps e later

-- so a decoder that isn't bad at the end wasn't before
was_alive : (d : DecoderView) (steps : List Step) → Runs d steps → (end_of d steps).bad ≡ false → d.bad ≡ false
was_alive d steps r e =
    elim (cases_Bool d.bad) [
      | inl bad ↦ absurd (both_ways (end_of d steps).bad e (ap (λ (x : DecoderView). x.bad) (end_bad d steps bad r) ∙ bad))
      | inr alive ↦ alive
    ]

taken_bad : (d : DecoderView) (bytes : List ℕ) → d.bad ≡ true → take (bytes_taken d bytes) bytes ≡ bytes
taken_bad d bytes e =
    ap (λ (n : ℕ). take n bytes) (cond-true d.bad (length bytes) (min (length bytes) (room d)) e) ∙ take_all (length bytes) bytes (omega arith)

pub bad_stays : (d : DecoderView) (steps : List Step) → d.bad ≡ true → Runs d steps → BadStays d.before d steps
bad_stays d [] e r = record { says = tt; stays = refl; takes = refl; gives = refl }
bad_stays d (Fed bytes ∷ steps) e r =
    let same = fed_bad d bytes e in
    let later : Runs d steps = subst (λ (x : DecoderView). Runs x steps) same r.1 in
    let b = bad_stays d steps e later in
    let one : take (bytes_taken d bytes) bytes ++ stream (feed_after d bytes) steps ≡ bytes ++ stream d steps =
    ap (λ (x : DecoderView). take (bytes_taken d bytes) bytes ++ stream x steps) same ∙ ap (λ (x : List ℕ). x ++ stream d steps) (taken_bad d bytes e) in
    record {
      says = (tt, b.says);
      stays = ap (λ (x : DecoderView). end_of x steps) same ∙ b.stays;
      takes = one ∙ ap (λ (x : List ℕ). bytes ++ x) b.takes;
      gives = b.gives;
    }
bad_stays d (Asked (next.Got m) page ∷ steps) e r = absurd (both_ways d.bad r.0.alive e)
bad_stays d (Asked next.More page ∷ steps) e r = absurd (both_ways d.bad r.0.alive e)
bad_stays d (Asked (next.Bad at) page ∷ steps) e r =
    let same = bad_again d e in
    let later : Runs d steps = subst (λ (x : DecoderView). Runs x steps) same r.1 in
    let b = bad_stays d steps e later in
    record {
      says = (ap (λ (n : ℕ). next.Bad n) r.0.place, b.says);
      stays = ap (λ (x : DecoderView). end_of x steps) same ∙ b.stays;
      takes = ap (λ (x : DecoderView). stream x steps) same ∙ b.takes;
      gives = b.gives;
    }

pub stays_bad :
    (d : DecoderView) (at : ℕ) (page : List ℕ) (steps : List Step) → Runs d (Asked (next.Bad at) page ∷ steps) → BadStays at (record d { bad = true }) steps
stays_bad d at page steps r =
    subst (λ (n : ℕ). BadStays n (record d { bad = true }) steps) (sym r.0.place) (bad_stays (record d { bad = true }) steps refl r.1)

taken_alive : (d : DecoderView) (bytes : List ℕ) → d.bad ≡ false → take (bytes_taken d bytes) bytes ≡ take (room d) bytes
taken_alive d bytes e =
    let n : bytes_taken d bytes ≡ min (room d) (length bytes) = cond-false d.bad (length bytes) (min (length bytes) (room d)) e ∙ omega arith in
    ap (λ (i : ℕ). take i bytes) n ∙ take_min (room d) bytes

before_by : (b : Bool) (d e : DecoderView) (n : ℕ) → d.before ≡ n → e.before ≡ n → (cond b d e).before ≡ n
before_by true d e n p q = p
before_by false d e n p q = q

before_fed : (d : DecoderView) (bytes : List ℕ) → (feed_after d bytes).before ≡ d.before
before_fed d bytes = before_by d.bad d (record d { rest = d.rest ++ take (room d) bytes }) d.before refl refl

pair_is : (g h : Msg × List ℕ) → g.0 ≡ h.0 → g.1 ≡ h.1 → g ≡ h
pair_is g h p q = ap (λ (m : Msg). (m, g.1)) p ∙ ap (λ (page : List ℕ). (h.0, page)) q

cons_is : {A : Type 0} (x y : A) (xs ys : List A) → x ≡ y → xs ≡ ys → x ∷ xs ≡ y ∷ ys
cons_is x y xs ys p q = cc

pub again : (n f : ℕ) → count_up (count_up n + f) ≡ count_up (n + f)
again n f = omega arith

whole_front : (side : Side) (page_bytes : ℕ) (bytes : List ℕ) (k : Kind) → Front side page_bytes bytes k → IsWhole side page_bytes bytes
whole_front side page_bytes bytes k f =
    let n = whole_length page_bytes (form k) in
    record {
      m = message k (fields_in k (take n bytes));
      page = page_of k (take n bytes);
      front = take n bytes;
      rest = drop n bytes;
      is_frame = f.is_frame;
      parts = sym (take-append-drop n bytes);
    }

-- ---- what was fed is what was given, and the rest

pub reads :
    (d : DecoderView) (steps : List Step) → Runs d steps → (end_of d steps).bad ≡ false
    → Splits d.side d.page_bytes (d.rest ++ stream d steps) (messages_given steps) (end_of d steps).rest
reads d [] r e = record { whole = append-nil d.rest; each = tt }
reads d (Fed bytes ∷ steps) r e =
    let alive = was_alive d (Fed bytes ∷ steps) r e in
    let now : DecoderView = record d { rest = d.rest ++ take (room d) bytes } in
    let same : feed_after d bytes ≡ now = fed_alive d bytes alive in
    let kept : take (bytes_taken d bytes) bytes ≡ take (room d) bytes = taken_alive d bytes alive in
    let s : Splits d.side d.page_bytes (now.rest ++ stream now steps) (messages_given steps) (end_of now steps).rest =
    reads now steps (subst (λ (x : DecoderView). Runs x steps) same r.1) (ap (λ (x : DecoderView). (end_of x steps).bad) (sym same) ∙ e) in
    let fed-is : d.rest ++ (take (bytes_taken d bytes) bytes ++ stream (feed_after d bytes) steps) ≡ now.rest ++ stream now steps =
    ap (λ (x : DecoderView). d.rest ++ (take (bytes_taken d bytes) bytes ++ stream x steps)) same ∙ ap (λ (x : List ℕ). d.rest ++ (x ++ stream now steps)) kept
    ∙ sym (append_assoc d.rest (take (room d) bytes) (stream now steps)) in
    let rest-is : frames_of (messages_given steps) ++ (end_of now steps).rest ≡ frames_of (messages_given steps) ++ (end_of (feed_after d bytes) steps).rest =
    ap (λ (x : DecoderView). frames_of (messages_given steps) ++ (end_of x steps).rest) (sym same) in
    record { whole = fed-is ∙ s.whole ∙ rest-is; each = s.each }
reads d (Asked (next.Got m) page ∷ steps) r e =
    let now = answered_after d (next.Got m) page in
    let s = reads now steps r.1 e in
    let f = frame m page in
    let one : d.rest ++ stream now steps ≡ f ++ (now.rest ++ stream now steps) =
    ap (λ (x : List ℕ). x ++ stream now steps) r.0.front ∙ append_assoc f now.rest (stream now steps) in
    record {
      whole = one ∙ ap (λ (x : List ℕ). f ++ x) s.whole ∙ sym (append_assoc f (frames_of (messages_given steps)) (end_of now steps).rest);
      each = (r.0.is_frame, s.each);
    }
reads d (Asked next.More page ∷ steps) r e = reads d steps r.1 e
reads d (Asked (next.Bad at) page ∷ steps) r e =
    let now : DecoderView = record d { bad = true } in
    absurd (both_ways true (sym (ap (λ (x : DecoderView). x.bad) (end_bad now steps refl r.1)) ∙ e) refl)

-- ---- the place

pub counts :
    (d : DecoderView) (n : ℕ) (steps : List Step) → d.before ≡ count_up n → Runs d steps
    → (end_of d steps).before ≡ count_up (n + length (frames_of (messages_given steps)))
counts d n [] e r = e ∙ ap count_up (omega arith)
counts d n (Fed bytes ∷ steps) e r =
    counts (feed_after d bytes) n steps (before_fed d bytes ∙ e) r.1
counts d n (Asked (next.Got m) page ∷ steps) e r =
    let f = length (frame m page) in
    let now = answered_after d (next.Got m) page in
    let next-is : now.before ≡ count_up (n + f) = ap (λ (k : ℕ). count_up (k + f)) e ∙ again n f in
    counts now (n + f) steps next-is r.1 ∙ ap count_up (omega (arith, length-append (frame m page) (frames_of (messages_given steps))))
counts d n (Asked next.More page ∷ steps) e r = counts d n steps e r.1
counts d n (Asked (next.Bad at) page ∷ steps) e r = counts (record d { bad = true }) n steps e r.1

-- ---- two readings of the same bytes are one

pub one_reading :
    (side : Side) (page_bytes : ℕ) (x y rest other : List ℕ) (gs hs : List (Msg × List ℕ)) → Splits side page_bytes x gs rest
    → Splits side page_bytes y hs other
    → x ≡ y → (IsWhole side page_bytes rest → ⊥) → (IsWhole side page_bytes other → ⊥) → (gs ≡ hs) × (rest ≡ other)
one_reading side page_bytes x y rest other [] [] s t e absent missing = (refl, sym s.whole ∙ e ∙ t.whole)
one_reading side page_bytes x y rest other [] (h ∷ hs) s t e absent missing =
    absurd
    (absent
    (record {
      m = h.0;
      page = h.1;
      front = frame h.0 h.1;
      rest = frames_of hs ++ other;
      is_frame = t.each.0;
      parts = sym s.whole ∙ e ∙ t.whole ∙ append_assoc (frame h.0 h.1) (frames_of hs) other;
    }))
one_reading side page_bytes x y rest other (g ∷ gs) [] s t e absent missing =
    absurd
    (missing
    (record {
      m = g.0;
      page = g.1;
      front = frame g.0 g.1;
      rest = frames_of gs ++ rest;
      is_frame = s.each.0;
      parts = sym t.whole ∙ sym e ∙ s.whole ∙ append_assoc (frame g.0 g.1) (frames_of gs) rest;
    }))
one_reading side page_bytes x y rest other (g ∷ gs) (h ∷ hs) s t e absent missing =
    let a = frame g.0 g.1 in
    let b = frame h.0 h.1 in
    let parts : a ++ (frames_of gs ++ rest) ≡ b ++ (frames_of hs ++ other) =
    sym (append_assoc a (frames_of gs) rest) ∙ sym s.whole ∙ e ∙ t.whole ∙ append_assoc b (frames_of hs) other in
    let both = no_front side side page_bytes page_bytes g.0 h.0 g.1 h.1 a b (frames_of gs ++ rest) (frames_of hs ++ other) s.each.0 t.each.0 parts in
    let there : IsFrame side page_bytes h.0 h.1 a = subst (λ (z : List ℕ). IsFrame side page_bytes h.0 h.1 z) (sym both.0) t.each.0 in
    let one = one_message side side page_bytes page_bytes g.0 h.0 g.1 h.1 a s.each.0 there in
    let later =
    one_reading side page_bytes (frames_of gs ++ rest) (frames_of hs ++ other) rest other gs hs (record { whole = refl; each = s.each.1 })
    (record { whole = refl; each = t.each.1 }) both.1 absent missing in
    let heads : g ≡ h = pair_is g h one.0 one.1 in
    (cons_is g h gs hs heads later.0, later.1)

-- ---- one of three

three_by :
    (side : Side) (page_bytes : ℕ) (bytes : List ℕ) (j : Judged) → judge_head side page_bytes bytes ≡ j → page_bytes ≤ 4096 → IsBytes bytes
    → IsWhole side page_bytes bytes ⊎ (IsPartial side page_bytes bytes ⊎ IsHopeless side page_bytes bytes)
three_by side page_bytes bytes (Whole k) e most fits = inl (whole_front side page_bytes bytes k (whole_is side page_bytes bytes k e most fits))
three_by side page_bytes bytes Partial e most fits = inr (inl (partial_is side page_bytes bytes e most fits))
three_by side page_bytes bytes Hopeless e most fits = inr (inr (hopeless_is side page_bytes bytes e))

pub one_of_three :
    (side : Side) (page_bytes : ℕ) (bytes : List ℕ) → page_bytes ≤ 4096 → IsBytes bytes
    → IsWhole side page_bytes bytes ⊎ (IsPartial side page_bytes bytes ⊎ IsHopeless side page_bytes bytes)
one_of_three side page_bytes bytes most fits = three_by side page_bytes bytes (judge_head side page_bytes bytes) refl most fits

pub has_room : (d : DecoderView) → 8 ≤ d.page_bytes → Waits d → 0 < room d
has_room d least w =
    omega (
      arith,
      frame_within d.side d.page_bytes w.partial.m w.partial.page (d.rest ++ w.partial.more) w.partial.is_frame least,
      w.partial.some,
      length-append d.rest w.partial.more,
    )

-- ---- what begins a list of frames isn't bad

abbrev paged : Side → Msg
paged Device = msg.Write (record { 0 = 0 }) 0
paged Lender = msg.PageIs (record { 0 = 0 }) 0

paged_from : (side : Side) → (form_of (paged side)).from ≡ side
paged_from Device = refl
paged_from Lender = refl

paged_fits : (side : Side) → NumbersFit (paged side)
paged_fits Device = (omega arith, omega arith)
paged_fits Lender = (omega arith, omega arith)

paged_length : (side : Side) (page_bytes : ℕ) → whole_length page_bytes (form_of (paged side)) ≡ longest page_bytes
paged_length Device page_bytes = omega arith
paged_length Lender page_bytes = omega arith

paged_pages : (side : Side) (page_bytes : ℕ) → page_bytes ≡ (form_of (paged side)).pages * page_bytes
paged_pages Device page_bytes = omega arith
paged_pages Lender page_bytes = omega arith

pub longest_is_sent :
    (side : Side) (page_bytes : ℕ) → page_bytes ≤ 4096
    → (m : Msg) × (page : List ℕ) × (bytes : List ℕ) × IsFrame side page_bytes m page bytes × (length bytes ≡ longest page_bytes)
longest_is_sent side page_bytes most =
    let m = paged side in
    let page : List ℕ = replicate page_bytes 0 in
    let size : length page ≡ page_bytes = length-replicate {A = ℕ} page_bytes 0 in
    let pages : length page ≡ (form_of m).pages * page_bytes = size ∙ paged_pages side page_bytes in
    let f : IsFrame side page_bytes m page (frame m page) = record {
      from = paged_from side;
      numbers = paged_fits side;
      pages = pages;
      each = IsBytes-zeros page_bytes;
      short = omega (arith, counted_is m page page_bytes pages, fields_short (kind m), pages_below (kind m) page_bytes, most);
      spelled = refl;
    } in
    (m, page, frame m page, f, frame_length side page_bytes m page (frame m page) f ∙ paged_length side page_bytes)

-- of two fronts of the same bytes one begins the other
front_of : (a x b y : List ℕ) → a ++ x ≡ b ++ y → length a ≤ length b → a ++ drop (length a) b ≡ b
front_of a x b y e le =
    let front : take (length a) b ≡ a = sym (take-append-le (length a) b y le) ∙ ap (take (length a)) (sym e) ∙ take_at a x (length a) refl in
    ap (λ (z : List ℕ). z ++ drop (length a) b) (sym front) ∙ take-append-drop (length a) b

hopeless_begins_none :
    (side : Side) (page_bytes : ℕ) (bytes more : List ℕ) (gs : List (Msg × List ℕ)) → page_bytes ≤ 4096 → IsHopeless side page_bytes bytes
    → AreSent side page_bytes gs → bytes ++ more ≡ frames_of gs → ⊥
hopeless_begins_none side page_bytes bytes more [] most h sent e =
    let some = longest_is_sent side page_bytes most in
    let size : length bytes + length more ≡ 0 = sym (length-append bytes more) ∙ ap length e in
    let empty : bytes ≡ [] = nil_from_length bytes (omega (arith, size)) in
    h.none_beyond some.0 some.1 some.2 (subst (λ (z : List ℕ). IsFrame side page_bytes some.0 some.1 (z ++ some.2)) (sym empty) some.3)
hopeless_begins_none side page_bytes bytes more (g ∷ gs) most h sent e =
    let f = frame g.0 g.1 in
    elim (cases_lt (length f) (length bytes)) [
      | inl lt ↦ h.none_in_front g.0 g.1 f (drop (length f) bytes) sent.0 (sym (front_of f (frames_of gs) bytes more (sym e) (omega arith)))
      | inr le ↦
          h.none_beyond g.0 g.1 (drop (length bytes) f)
          (subst (λ (z : List ℕ). IsFrame side page_bytes g.0 g.1 z) (sym (front_of bytes more f (frames_of gs) e le)) sent.0)
    ]

-- the frame of a message that was given is the first of the list
given_first :
    (side : Side) (page_bytes : ℕ) (m : Msg) (page x : List ℕ) (gs : List (Msg × List ℕ)) → IsFrame side page_bytes m page (frame m page)
    → AreSent side page_bytes gs → frame m page ++ x ≡ frames_of gs
    → (hs : List (Msg × List ℕ)) × AreSent side page_bytes hs × (x ≡ frames_of hs)
given_first side page_bytes m page x [] f sent e =
    let size : length (frame m page) + length x ≡ 0 = sym (length-append (frame m page) x) ∙ ap length e in
    absurd (omega (arith, size, frame_length side page_bytes m page (frame m page) f))
given_first side page_bytes m page x (g ∷ gs) f sent e =
    (gs, sent.1, (no_front side side page_bytes page_bytes m g.0 page g.1 (frame m page) (frame g.0 g.1) x (frames_of gs) f sent.0 e).1)

pub refuses_none :
    (d : DecoderView) (steps : List Step) (gs : List (Msg × List ℕ)) (more : List ℕ) → d.page_bytes ≤ 4096 → d.bad ≡ false → Runs d steps
    → AreSent d.side d.page_bytes gs → (d.rest ++ stream d steps) ++ more ≡ frames_of gs → (end_of d steps).bad ≡ false
refuses_none d [] gs more most alive r sent e = alive
refuses_none d (Fed bytes ∷ steps) gs more most alive r sent e =
    let now : DecoderView = record d { rest = d.rest ++ take (room d) bytes } in
    let same : feed_after d bytes ≡ now = fed_alive d bytes alive in
    let kept : take (bytes_taken d bytes) bytes ≡ take (room d) bytes = taken_alive d bytes alive in
    let fed-is : d.rest ++ (take (bytes_taken d bytes) bytes ++ stream (feed_after d bytes) steps) ≡ now.rest ++ stream now steps =
    ap (λ (x : DecoderView). d.rest ++ (take (bytes_taken d bytes) bytes ++ stream x steps)) same ∙ ap (λ (x : List ℕ). d.rest ++ (x ++ stream now steps)) kept
    ∙ sym (append_assoc d.rest (take (room d) bytes) (stream now steps)) in
    ap (λ (x : DecoderView). (end_of x steps).bad) same
    ∙ refuses_none now steps gs more most alive (subst (λ (x : DecoderView). Runs x steps) same r.1) sent (ap (λ (x : List ℕ). x ++ more) (sym fed-is) ∙ e)
refuses_none d (Asked (next.Got m) page ∷ steps) gs more most alive r sent e =
    let now = answered_after d (next.Got m) page in
    let f = frame m page in
    let one : d.rest ++ stream now steps ≡ f ++ (now.rest ++ stream now steps) =
    ap (λ (x : List ℕ). x ++ stream now steps) r.0.front ∙ append_assoc f now.rest (stream now steps) in
    let parts : f ++ ((now.rest ++ stream now steps) ++ more) ≡ frames_of gs =
    sym (append_assoc f (now.rest ++ stream now steps) more) ∙ ap (λ (x : List ℕ). x ++ more) (sym one) ∙ e in
    let later = given_first d.side d.page_bytes m page ((now.rest ++ stream now steps) ++ more) gs r.0.is_frame sent parts in
    refuses_none now steps later.0 more most alive r.1 later.1 later.2
refuses_none d (Asked next.More page ∷ steps) gs more most alive r sent e = refuses_none d steps gs more most alive r.1 sent e
refuses_none d (Asked (next.Bad at) page ∷ steps) gs more most alive r sent e =
    let now : DecoderView = record d { bad = true } in
    absurd
    (hopeless_begins_none d.side d.page_bytes d.rest (stream now steps ++ more) gs most r.0.hopeless sent
    (sym (append_assoc d.rest (stream now steps) more) ∙ e))
