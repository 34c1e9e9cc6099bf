-- The answer of a decoder, by what its rest is judged to be, is the one that the words of frames say.
use Rattle.std.proofs.Common.{◌≡◌, ℕ, ◌+◌, ◌*◌, ◌≤◌, Bool, true, false, cond, List, [], ◌++◌, length, take, drop, refl, sym, ap, subst, ◌∙◌, append_assoc, arith}
use Rattle.std.proofs.lemmas.List.{append-nil, take_at, take-append-drop, length-append, length-take}
use Rattle.swap_wire.specs.declared.Msg.{Msg}
use Rattle.swap_wire.specs.declared.side.Side.{Side}
use Rattle.swap_wire.specs.declared.kind.Kind.{Kind}
use Rattle.swap_wire.specs.declared.frames.Judged.{Judged}
use Rattle.swap_wire.specs.declared.frames.Judged.TheVariants.{Whole, Partial, Hopeless}
use Rattle.swap_wire.specs.declared.decoder.Next.{Next}
use Rattle.swap_wire.specs.declared.decoder.Next.TheVariants as next
use Rattle.swap_wire.specs.Frames.{form, form_of, frame, IsBytes, IsFrame, IsWhole, IsPartial, IsHopeless}
use Rattle.swap_wire.specs.Heads.{whole_length, judge_head, message, fields_in, page_of}
use Rattle.swap_wire.specs.Decoding.{DecoderView, count_up, answered_after, page_in, Gives, Waits, Fails, Answers}
use Rattle.swap_wire.specs.Verdicts.{told_by, next_told, left_by, left_after, shown_by, bytes_shown}
use Rattle.swap_wire.proofs.Unique.{no_front, one_message}
use Rattle.swap_wire.proofs.Judging.{whole_is, partial_is, hopeless_is}

-- an answer with its page, and the decoder after it
pub record Comes (d : DecoderView) (answer : Next) (after : DecoderView) (page : List ℕ) : Type 0 where
  pub answers : Answers d answer page
  pub after_is : after ≡ answered_after d answer page
  pub in_front : (buffer : List ℕ) → page_in d answer (page ++ buffer) ≡ page

comes_whole :
    (d : DecoderView) (k : Kind) → judge_head d.side d.page_bytes d.rest ≡ Whole k → d.bad ≡ false → d.page_bytes ≤ 4096 → IsBytes d.rest
    → Comes d (told_by d (Whole k)) (left_by d (Whole k)) (shown_by d (Whole k))
comes_whole d k e alive most fits =
    let n = whole_length d.page_bytes (form k) in
    let front = take n d.rest in
    let m = message k (fields_in k front) in
    let p = page_of k front in
    let f = whole_is d.side d.page_bytes d.rest k e most fits in
    let spelled : front ≡ frame m p = f.is_frame.spelled in
    let size : length (frame m p) ≡ n = ap length (sym spelled) ∙ omega (arith, length-take n d.rest, f.far) in
    let parts : d.rest ≡ frame m p ++ drop n d.rest = sym (take-append-drop n d.rest) ∙ ap (λ (x : List ℕ). x ++ drop n d.rest) spelled in
    record {
      answers = record {
        alive = alive;
        is_frame = subst (λ (x : List ℕ). IsFrame d.side d.page_bytes m p x) spelled f.is_frame;
        front = parts ∙ ap (λ (i : ℕ). frame m p ++ drop i d.rest) (sym size);
      };
      after_is = ap (λ (i : ℕ). record d { rest = drop i d.rest; before = count_up (d.before + i) }) (sym size);
      in_front = λ buffer. take_at p buffer ((form_of m).pages * d.page_bytes) f.is_frame.pages;
    }

pub comes_by :
    (d : DecoderView) (j : Judged) → judge_head d.side d.page_bytes d.rest ≡ j → d.bad ≡ false → d.page_bytes ≤ 4096 → IsBytes d.rest
    → Comes d (told_by d j) (left_by d j) (shown_by d j)
comes_by d (Whole k) e alive most fits = comes_whole d k e alive most fits
comes_by d Partial e alive most fits =
    record { answers = record { alive = alive; partial = partial_is d.side d.page_bytes d.rest e most fits }; after_is = refl; in_front = λ buffer. refl }
comes_by d Hopeless e alive most fits =
    record { answers = record { hopeless = hopeless_is d.side d.page_bytes d.rest e; place = refl }; after_is = refl; in_front = λ buffer. refl }

stays_bad : (d : DecoderView) → d.bad ≡ true → d ≡ record d { bad = true }
stays_bad d e = ap (λ (b : Bool). record d { bad = b }) e

comes_bad : (d : DecoderView) → d.bad ≡ true → judge_head d.side d.page_bytes d.rest ≡ Hopeless → Comes d (next.Bad d.before) d []
comes_bad d bad e =
    record { answers = record { hopeless = hopeless_is d.side d.page_bytes d.rest e; place = refl }; after_is = stays_bad d bad; in_front = λ buffer. refl }

either :
    (d : DecoderView) (b : Bool) (x y : Next) (v w : DecoderView) (p q : List ℕ) → (b ≡ true → Comes d x v p) → (b ≡ false → Comes d y w q)
    → Comes d (cond b x y) (cond b v w) (cond b p q)
either d true x y v w p q h g = h refl
either d false x y v w p q h g = g refl

pub comes :
    (d : DecoderView) → d.page_bytes ≤ 4096 → (d.bad ≡ false → IsBytes d.rest) → (d.bad ≡ true → judge_head d.side d.page_bytes d.rest ≡ Hopeless)
    → Comes d (next_told d) (left_after d) (bytes_shown d)
comes d most fits bad =
    let j = judge_head d.side d.page_bytes d.rest in
    either d d.bad (next.Bad d.before) (told_by d j) d (left_by d j) [] (shown_by d j) (λ b. comes_bad d b (bad b)) (λ b. comes_by d j refl b most (fits b))

-- ---- exactly where each answer comes

-- a frame in front is no front of a longer one
whole_not_partial : (side : Side) (page_bytes : ℕ) (bytes : List ℕ) → IsWhole side page_bytes bytes → IsPartial side page_bytes bytes → ⊥
whole_not_partial side page_bytes bytes w p =
    let parts : w.front ++ (w.rest ++ p.more) ≡ (bytes ++ p.more) ++ [] =
    sym (append_assoc w.front w.rest p.more) ∙ ap (λ (x : List ℕ). x ++ p.more) (sym w.parts) ∙ sym (append-nil (bytes ++ p.more)) in
    let both = no_front side side page_bytes page_bytes w.m p.m w.page p.page w.front (bytes ++ p.more) (w.rest ++ p.more) [] w.is_frame p.is_frame parts in
    let none : length (w.rest ++ p.more) ≡ 0 = ap length both.1 in
    absurd (omega (arith, none, p.some, length-append w.rest p.more))

pub excludes : (side : Side) (page_bytes : ℕ) (bytes : List ℕ)
    → (IsWhole side page_bytes bytes → IsPartial side page_bytes bytes → ⊥) × (IsWhole side page_bytes bytes → IsHopeless side page_bytes bytes → ⊥)
    × (IsPartial side page_bytes bytes → IsHopeless side page_bytes bytes → ⊥)
excludes side page_bytes bytes = (
  whole_not_partial side page_bytes bytes,
  λ w h. h.none_in_front w.m w.page w.front w.rest w.is_frame w.parts,
  λ p h. h.none_beyond p.m p.page p.more p.is_frame,
)

pub whole_from : (d : DecoderView) (m : Msg) (page : List ℕ) → Gives d m page → IsWhole d.side d.page_bytes d.rest
whole_from d m page g = record { m = m; page = page; front = frame m page; rest = drop (length (frame m page)) d.rest; is_frame = g.is_frame; parts = g.front }

pub must_give : (d : DecoderView) (m : Msg) (front : List ℕ) (answer : Next) (page : List ℕ) → Answers d answer page → Gives d m front → answer ≡ next.Got m
must_give d m front (next.Got n) page a g =
    let f = frame n page in
    let h = frame m front in
    let both =
    no_front d.side d.side d.page_bytes d.page_bytes n m page front f h (drop (length f) d.rest) (drop (length h) d.rest) a.is_frame g.is_frame
    (sym a.front ∙ g.front) in
    let there : IsFrame d.side d.page_bytes m front f = subst (λ (x : List ℕ). IsFrame d.side d.page_bytes m front x) (sym both.0) g.is_frame in
    ap (λ (i : Msg). next.Got i) (one_message d.side d.side d.page_bytes d.page_bytes n m page front f a.is_frame there).0
must_give d m front next.More page a g = absurd ((excludes d.side d.page_bytes d.rest).0 (whole_from d m front g) a.partial)
must_give d m front (next.Bad at) page a g = absurd ((excludes d.side d.page_bytes d.rest).1 (whole_from d m front g) a.hopeless)

pub must_wait : (d : DecoderView) (answer : Next) (page : List ℕ) → Answers d answer page → Waits d → answer ≡ next.More
must_wait d (next.Got m) page a w = absurd ((excludes d.side d.page_bytes d.rest).0 (whole_from d m page a) w.partial)
must_wait d next.More page a w = refl
must_wait d (next.Bad at) page a w = absurd ((excludes d.side d.page_bytes d.rest).2 w.partial a.hopeless)

pub must_fail : (d : DecoderView) (at : ℕ) (answer : Next) (page : List ℕ) → Answers d answer page → Fails d at → answer ≡ next.Bad at
must_fail d at (next.Got m) page a f = absurd ((excludes d.side d.page_bytes d.rest).1 (whole_from d m page a) f.hopeless)
must_fail d at next.More page a f = absurd ((excludes d.side d.page_bytes d.rest).2 a.partial f.hopeless)
must_fail d at (next.Bad other) page a f = ap (λ (n : ℕ). next.Bad n) (a.place ∙ sym f.place)

-- ---- what a call of `next` says

pub record Called (d : DecoderView) (answer : Next) (after : DecoderView) (buffer new : List ℕ) : Type 0 where
  pub answers : Answers d answer (page_in d answer new)
  pub after_is : after ≡ answered_after d answer (page_in d answer new)
  pub page : new ≡ page_in d answer new ++ drop (length (page_in d answer new)) buffer

pub called :
    (d : DecoderView) (answer : Next) (after : DecoderView) (buffer new : List ℕ) → d.page_bytes ≤ 4096 → (d.bad ≡ false → IsBytes d.rest)
    → (d.bad ≡ true → judge_head d.side d.page_bytes d.rest ≡ Hopeless) → answer ≡ next_told d → after ≡ left_after d
    → new ≡ bytes_shown d ++ drop (length (bytes_shown d)) buffer
    → Called d answer after buffer new
called d answer after buffer new most fits bad is left_is shown_is =
    let c = comes d most fits bad in
    let page : page_in d answer new ≡ bytes_shown d =
    ap (λ (a : Next). page_in d a new) is ∙ ap (page_in d (next_told d)) shown_is ∙ c.in_front (drop (length (bytes_shown d)) buffer) in
    let answers : Answers d answer (bytes_shown d) = subst (λ (a : Next). Answers d a (bytes_shown d)) (sym is) c.answers in
    record {
      answers = subst (λ (p : List ℕ). Answers d answer p) (sym page) answers;
      after_is = left_is ∙ c.after_is ∙ ap (λ (a : Next). answered_after d a (bytes_shown d)) (sym is) ∙ ap (answered_after d answer) (sym page);
      page = shown_is ∙ ap (λ (p : List ℕ). p ++ drop (length p) buffer) (sym page);
    }

-- no answer changes how many bytes a page has
pub same_pages : (d : DecoderView) (answer : Next) (page : List ℕ) → (answered_after d answer page).page_bytes ≡ d.page_bytes
same_pages d (next.Got m) page = refl
same_pages d next.More page = refl
same_pages d (next.Bad at) page = refl
