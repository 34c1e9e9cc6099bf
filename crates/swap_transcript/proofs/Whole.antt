-- A whole transcript is read from its lines, and from no others.
use Rattle.std.proofs.Common.{◌≡◌, ℕ, ◌^◌, ◌<◌, Bool, true, false, cond, eqb, nat_le, List, [], ◌∷◌, ◌++◌, append_assoc, append-nil, map, Option, None, Some, Result, Ok, Err, codes, refl, sym, ap, ap₂, subst, ◌∙◌, arith}
use Rattle.std.specs.Fmt.{decimal}
use Rattle.std.specs.Option.{option_map, option_map_or}
use Rattle.std.proofs.lemmas.Bool.{eqb-true, and_parts, leb-true}
use Rattle.std.proofs.lemmas.Option.{cond_some}
use Rattle.std.proofs.lemmas.Slice.Eq.{bytes_eq-Decides}
use Rattle.swap_base.specs.Sizes.{Sizes, AreInLimits, IsWithin, is_within, limits, first_beyond}
use Rattle.swap_base.proofs.Limits.{within_limits}
use Rattle.swap_base.specs.Lending.{lender_limits}
use Rattle.swap_base.specs.declared.Field.{Field}
use Rattle.swap_base.specs.declared.Field.TheVariants.{Slots, Headroom, Extra}
use Rattle.swap_base.specs.declared.geometry.LenderSpec.{LenderSpec}
use Rattle.swap_io.proofs.Back.{number_one}
use Rattle.swap_script.specs.declared.Why.{Why}
use Rattle.swap_script.specs.declared.Why.TheVariants as why
use Rattle.swap_script.specs.declared.ScriptRefused.{ScriptRefused}
use Rattle.swap_script.specs.Lines.{words_of, is_word}
use Rattle.swap_script.specs.Forms.{small_number, sizes_words, spec_words}
use Rattle.swap_script.specs.Reading.{◌>>=◌, fault_at, value_unless, field_fault, sizes_within, geometry_line, spec_within, lending_tests, lender_line, lender_rest, Front, front_from, IsWithinLimits}
use Rattle.swap_transcript.specs.Readers.{Words}
use Rattle.swap_transcript.specs.Transcripts.{Pair, Above, count_pair, tests, check_pair, end_rest, end_number, counts, ended_at, nothing_behind, pair_before, pairs_from, pair_of}
use Rattle.swap_transcript.specs.Printed.{pair_words}
use Rattle.swap_transcript.specs.Laws.{sizes_rest, spec_rest, geometry_words, lender_words, end_words, words_in, MayStandBelow, MayFollow}
use Rattle.swap_script.proofs.Read.{passes}
use Rattle.swap_transcript.proofs.Front.{bind_some, bound, small-only, small-back}
use Rattle.swap_transcript.proofs.ResultWords.{pair_of-only}
use Rattle.swap_script.proofs.Scripts.{kept_sizes}

pub bind_ok : {A B E : Type 0} (r : Result A E) (f : A → Result B E) (y : B) → (r >>= f) ≡ Ok y → (x : A) × (r ≡ Ok x) × (f x ≡ Ok y)
bind_ok (Ok x) f y e = (x, refl, e)
bind_ok (Err x) f y e = cc

pub at_ok : {A : Type 0} (n : ℕ) (r : Result A Why) (x : A) → fault_at n r ≡ Ok x → r ≡ Ok x
at_ok n (Ok y) x e =
    let same : y ≡ x = cc in
    ap (λ z. Ok z) same
at_ok n (Err w) x e = cc

unless_ok : {A E : Type 0} (o : Option E) (x y : A) → value_unless o x ≡ Ok y → (o ≡ None) × (x ≡ y)
unless_ok None x y e = (refl, cc)
unless_ok (Some w) x y e = cc

-- a list with its numbers, or none
small_words-only : (word : List ℕ) (n : ℕ) → small_number word ≡ Some n → word ≡ decimal n
small_words-only word n e = (small-only word n e).0

spec_words-only : (words : Words) (spec : LenderSpec) → spec_words words ≡ Some spec → words ≡ spec_rest spec
spec_words-only [] spec e = cc
spec_words-only (a ∷ []) spec e = cc
spec_words-only (a ∷ b ∷ []) spec e = cc
spec_words-only (a ∷ b ∷ c ∷ []) spec e =
    let x = bind_some (small_number a) _ spec e in
    let y = bind_some (small_number b) _ spec x.2 in
    let z = bind_some (small_number c) (λ extra. Some (record { slots = x.0; headroom = y.0; extra = extra })) spec y.2 in
    let same : record { slots = x.0; headroom = y.0; extra = z.0 } ≡ spec = cc in
    ap (λ w. w ∷ b ∷ c ∷ []) (small_words-only a x.0 x.1) ∙ ap (λ w. decimal x.0 ∷ w ∷ c ∷ []) (small_words-only b y.0 y.1)
    ∙ ap (λ w. decimal x.0 ∷ decimal y.0 ∷ w ∷ []) (small_words-only c z.0 z.1) ∙ ap spec_rest same
spec_words-only (a ∷ b ∷ c ∷ d ∷ rest) spec e = cc

spec_words-back : (spec : LenderSpec) → spec.slots < 2 ^ 32 → spec.headroom < 2 ^ 32 → spec.extra < 2 ^ 32 → spec_words (spec_rest spec) ≡ Some spec
spec_words-back spec x y z =
    bound (small_number (decimal spec.slots)) _ spec.slots (small-back spec.slots x)
    ∙ bound (small_number (decimal spec.headroom)) _ spec.headroom (small-back spec.headroom y)
    ∙ bound (small_number (decimal spec.extra)) (λ extra. Some (record { slots = spec.slots; headroom = spec.headroom; extra = extra })) spec.extra
    (small-back spec.extra z)

sizes_words-only : (words : Words) (s : Sizes) → sizes_words words ≡ Some s → words ≡ sizes_rest s
sizes_words-only [] s h = cc
sizes_words-only (a ∷ []) s h = cc
sizes_words-only (a ∷ b ∷ []) s h = cc
sizes_words-only (a ∷ b ∷ c ∷ []) s h = cc
sizes_words-only (a ∷ b ∷ c ∷ d ∷ []) s h = cc
sizes_words-only (a ∷ b ∷ c ∷ d ∷ e ∷ []) s h = cc
sizes_words-only (a ∷ b ∷ c ∷ d ∷ e ∷ f ∷ []) s h = cc
sizes_words-only (a ∷ b ∷ c ∷ d ∷ e ∷ f ∷ g ∷ []) s h =
    let p = bind_some (small_number a) _ s h in
    let q = bind_some (small_number b) _ s p.2 in
    let r = bind_some (small_number c) _ s q.2 in
    let t = bind_some (small_number d) _ s r.2 in
    let u = bind_some (small_number e) _ s t.2 in
    let v = bind_some (small_number f) _ s u.2 in
    let w =
    bind_some (small_number g)
    (λ hot. Some (record { page_bytes = p.0; pages_per_slab = q.0; slabs = r.0; queue = t.0; callers = u.0; window = v.0; hot = hot })) s v.2 in
    let same : record { page_bytes = p.0; pages_per_slab = q.0; slabs = r.0; queue = t.0; callers = u.0; window = v.0; hot = w.0 } ≡ s = cc in
    ap (λ x. x ∷ b ∷ c ∷ d ∷ e ∷ f ∷ g ∷ []) (small_words-only a p.0 p.1)
    ∙ ap (λ x. decimal p.0 ∷ x ∷ c ∷ d ∷ e ∷ f ∷ g ∷ []) (small_words-only b q.0 q.1)
    ∙ ap (λ x. decimal p.0 ∷ decimal q.0 ∷ x ∷ d ∷ e ∷ f ∷ g ∷ []) (small_words-only c r.0 r.1)
    ∙ ap (λ x. decimal p.0 ∷ decimal q.0 ∷ decimal r.0 ∷ x ∷ e ∷ f ∷ g ∷ []) (small_words-only d t.0 t.1)
    ∙ ap (λ x. decimal p.0 ∷ decimal q.0 ∷ decimal r.0 ∷ decimal t.0 ∷ x ∷ f ∷ g ∷ []) (small_words-only e u.0 u.1)
    ∙ ap (λ x. decimal p.0 ∷ decimal q.0 ∷ decimal r.0 ∷ decimal t.0 ∷ decimal u.0 ∷ x ∷ g ∷ []) (small_words-only f v.0 v.1)
    ∙ ap (λ x. decimal p.0 ∷ decimal q.0 ∷ decimal r.0 ∷ decimal t.0 ∷ decimal u.0 ∷ decimal v.0 ∷ x ∷ []) (small_words-only g w.0 w.1)
    ∙ ap sizes_rest same
sizes_words-only (a ∷ b ∷ c ∷ d ∷ e ∷ f ∷ g ∷ i ∷ rest) s h = cc

sizes_words-back : (s : Sizes) → IsWithin s → sizes_words (sizes_rest s) ≡ Some s
sizes_words-back s h =
    bound (small_number (decimal s.page_bytes)) _ s.page_bytes (small-back s.page_bytes (omega (arith, h.page_bytes.1)))
    ∙ bound (small_number (decimal s.pages_per_slab)) _ s.pages_per_slab (small-back s.pages_per_slab (omega (arith, h.pages_per_slab.1)))
    ∙ bound (small_number (decimal s.slabs)) _ s.slabs (small-back s.slabs (omega (arith, h.slabs.1)))
    ∙ bound (small_number (decimal s.queue)) _ s.queue (small-back s.queue (omega (arith, h.queue.1)))
    ∙ bound (small_number (decimal s.callers)) _ s.callers (small-back s.callers (omega (arith, h.callers.1)))
    ∙ bound (small_number (decimal s.window)) _ s.window (small-back s.window (omega (arith, h.window.1)))
    ∙ bound (small_number (decimal s.hot))
    (λ hot.
    Some
    (record {
      page_bytes = s.page_bytes;
      pages_per_slab = s.pages_per_slab;
      slabs = s.slabs;
      queue = s.queue;
      callers = s.callers;
      window = s.window;
      hot = hot;
    }))
    s.hot
    (small-back s.hot (omega (arith, h.hot.1)))

sizes_if : (words : Words) (s : Sizes) (o : Option Sizes) → sizes_words words ≡ o → sizes_within o ≡ Ok s → AreInLimits s × (words ≡ sizes_rest s)
sizes_if words s None is e = cc
sizes_if words s (Some x) is e =
    let ok = kept_sizes (first_beyond (limits x)) x s e in
    (sym (ap (λ y. first_beyond (limits y)) ok.1) ∙ ok.0, sizes_words-only words s (is ∙ ap (λ y. Some y) ok.1))

geometry_if :
    (word : List ℕ) (words : Words) (s : Sizes) (b : Bool) → is_word (codes "geometry") word ≡ b
    → cond b (sizes_within (sizes_words words)) (Err why.Geometry) ≡ Ok s → AreInLimits s × (word ∷ words ≡ geometry_words s)
geometry_if word words s true is e =
    let read = sizes_if words s (sizes_words words) refl e in
    (read.0, ap (λ w. w ∷ words) (sym ((bytes_eq-Decides (codes "geometry") word).0 is)) ∙ ap (λ w. codes "geometry" ∷ w) read.1)
geometry_if word words s false is e = cc

pub geometry-only : (words : Words) (s : Sizes) → geometry_line words ≡ Ok s → AreInLimits s × (words ≡ geometry_words s)
geometry-only [] s e = cc
geometry-only (word ∷ words) s e = geometry_if word words s (is_word (codes "geometry") word) refl e

pub geometry-back : (s : Sizes) → AreInLimits s → geometry_line (geometry_words s) ≡ Ok s
geometry-back s h = ap sizes_within (sizes_words-back s (within_limits s h)) ∙ ap (λ o. field_fault (value_unless o s)) h

-- a lender's line
within_64 : (low n : ℕ) → is_within low 64 n ≡ true → n < 2 ^ 32
within_64 low n e =
    let parts = and_parts (nat_le low n) (nat_le n 64) e in
    omega (arith, leb-true n 64 parts.1)

pub spec_small : (spec : LenderSpec) → IsWithinLimits spec → (spec.slots < 2 ^ 32) × (spec.headroom < 2 ^ 32) × (spec.extra < 2 ^ 32)
spec_small spec e =
    let slots = passes Slots (is_within 1 64 spec.slots) ((Headroom, is_within 0 64 spec.headroom) ∷ (Extra, is_within 0 64 spec.extra) ∷ []) e in
    let headroom = passes Headroom (is_within 0 64 spec.headroom) ((Extra, is_within 0 64 spec.extra) ∷ []) slots.1 in
    let extra = passes Extra (is_within 0 64 spec.extra) [] headroom.1 in
    (within_64 1 spec.slots slots.0, within_64 0 spec.headroom headroom.0, within_64 0 spec.extra extra.0)

abbrev MayStand : Sizes → List LenderSpec → LenderSpec → Type 0
MayStand s others spec = IsWithinLimits spec × (first_beyond (lending_tests s (others ++ spec ∷ [])) ≡ None)

field_none : (o : Option Field) → option_map why.Field o ≡ None → o ≡ None
field_none None e = refl
field_none (Some f) e = cc

spec_if :
    (words : Words) (spec : LenderSpec) (o : Option LenderSpec) → spec_words words ≡ o → spec_within o ≡ Ok spec
    → IsWithinLimits spec × (words ≡ spec_rest spec)
spec_if words spec None is e = cc
spec_if words spec (Some x) is e =
    let ok = unless_ok (option_map why.Field (first_beyond (lender_limits x))) x spec e in (
      sym (ap (λ y. first_beyond (lender_limits y)) ok.1) ∙ field_none (first_beyond (lender_limits x)) ok.0,
      spec_words-only words spec (is ∙ ap (λ y. Some y) ok.1),
    )

lender-only :
    (s : Sizes) (others : List LenderSpec) (words : Words) (spec : LenderSpec) → lender_line s others words ≡ Ok spec
    → MayStand s others spec × (words ≡ spec_rest spec)
lender-only s others words spec e =
    let x = bind_ok (spec_within (spec_words words)) (λ spec. value_unless (first_beyond (lending_tests s (others ++ spec ∷ []))) spec) spec e in
    let ok = unless_ok (first_beyond (lending_tests s (others ++ x.0 ∷ []))) x.0 spec x.2 in
    let read = spec_if words x.0 (spec_words words) refl x.1 in
    subst (λ y. MayStand s others y × (words ≡ spec_rest y)) ok.1 ((read.0, ok.0), read.1)

lender-back : (s : Sizes) (others : List LenderSpec) (spec : LenderSpec) → MayStand s others spec → lender_line s others (spec_rest spec) ≡ Ok spec
lender-back s others spec h =
    let few = spec_small spec h.0 in
    ap (λ o. spec_within o >>= λ spec. value_unless (first_beyond (lending_tests s (others ++ spec ∷ []))) spec) (spec_words-back spec few.0 few.1 few.2)
    ∙ ap (λ o. value_unless (option_map why.Field o) spec >>= λ spec. value_unless (first_beyond (lending_tests s (others ++ spec ∷ []))) spec) h.0
    ∙ ap (λ o. value_unless o spec) h.1

named_rest : (name word : List ℕ) (words rest : Words) → cond (is_word name word) (Some words) None ≡ Some rest → word ∷ words ≡ name ∷ rest
named_rest name word words rest e =
    let c = cond_some (is_word name word) words rest e in
    ap (λ w. w ∷ words) (sym ((bytes_eq-Decides name word).0 c.0)) ∙ ap (λ r. name ∷ r) c.1

lender_rest-only : (words rest : Words) → lender_rest words ≡ Some rest → words ≡ codes "lender" ∷ rest
lender_rest-only [] rest e = cc
lender_rest-only (word ∷ words) rest e = named_rest (codes "lender") word words rest e

end_rest-only : (words rest : Words) → end_rest words ≡ Some rest → words ≡ codes "end" ∷ rest
end_rest-only [] rest e = cc
end_rest-only (word ∷ words) rest e = named_rest (codes "end") word words rest e

-- the lenders' lines, and those behind them
pub record Lenders (s : Sizes) (others : List LenderSpec) (lines : List (ℕ × List ℕ)) (front : Front) : Type 0 where
  pub specs : List LenderSpec
  pub are : front.lenders ≡ others ++ specs
  pub stand : MayStandBelow s others specs
  pub spelled : words_in lines ≡ map lender_words specs ++ words_in front.lines

front_if :
    (s : Sizes) (others : List LenderSpec) (n : ℕ) (text : List ℕ) (rest : List (ℕ × List ℕ)) (front : Front) (o : Option Words)
    → lender_rest (words_of text) ≡ o
    → ((more : List LenderSpec) → front_from s more rest ≡ Ok front → Lenders s more rest front)
    → option_map_or (λ words. fault_at n (lender_line s others words) >>= λ spec. front_from s (others ++ spec ∷ []) rest) o
    (Ok (record { lenders = others; lines = (n, text) ∷ rest }))
    ≡ Ok front
    → Lenders s others ((n, text) ∷ rest) front
front_if s others n text rest front None is later e =
    let same : record { lenders = others; lines = (n, text) ∷ rest } ≡ front = cc in
    subst (Lenders s others ((n, text) ∷ rest)) same (record { specs = []; are = sym (append-nil others); stand = tt; spelled = refl })
front_if s others n text rest front (Some words) is later e =
    let spec = bind_ok (fault_at n (lender_line s others words)) (λ spec. front_from s (others ++ spec ∷ []) rest) front e in
    let read = lender-only s others words spec.0 (at_ok n (lender_line s others words) spec.0 spec.1) in
    let below = later (others ++ spec.0 ∷ []) spec.2 in
    let line : words_of text ≡ lender_words spec.0 = lender_rest-only (words_of text) words is ∙ ap (λ r. codes "lender" ∷ r) read.1 in
    record {
      specs = spec.0 ∷ below.specs;
      are = below.are ∙ append_assoc others (spec.0 ∷ []) below.specs;
      stand = (read.0.0, read.0.1, below.stand);
      spelled = ap₂ (λ w ws. w ∷ ws) line below.spelled;
    }

pub front-only :
    (s : Sizes) (lines : List (ℕ × List ℕ)) (others : List LenderSpec) (front : Front) → front_from s others lines ≡ Ok front → Lenders s others lines front
front-only s [] others front e =
    let same : record { lenders = others; lines = [] } ≡ front = cc in
    subst (Lenders s others []) same (record { specs = []; are = sym (append-nil others); stand = tt; spelled = refl })
front-only s ((n, text) ∷ rest) others front e =
    front_if s others n text rest front (lender_rest (words_of text)) refl (λ more later. front-only s rest more front later) e

-- lines that begin with none of a lender
abbrev pub NoLender : List Words → Type 0
NoLender [] = Unit {0}
NoLender (words ∷ rest) = lender_rest words ≡ None

pub record FrontIs (s : Sizes) (others specs : List LenderSpec) (lines : List (ℕ × List ℕ)) (behind : List Words) : Type 0 where
  pub rest : List (ℕ × List ℕ)
  pub is : front_from s others lines ≡ Ok (record { lenders = others ++ specs; lines = rest })
  pub spelled : words_in rest ≡ behind

pub parts : {A : Type 0} (x y : A) (xs ys : List A) → x ∷ xs ≡ y ∷ ys → (x ≡ y) × (xs ≡ ys)
parts x y xs ys e = (cc, cc)

pub front-back :
    (s : Sizes) (specs others : List LenderSpec) (lines : List (ℕ × List ℕ)) (behind : List Words) → MayStandBelow s others specs → NoLender behind
    → words_in lines ≡ map lender_words specs ++ behind → FrontIs s others specs lines behind
front-back s [] others [] behind h none e = record { rest = []; is = ap (λ l. Ok (record { lenders = l; lines = [] })) (sym (append-nil others)); spelled = e }
front-back s [] others ((n, text) ∷ rest) [] h none e = cc
front-back s [] others ((n, text) ∷ rest) (words ∷ behind) h none e =
    let head = parts (words_of text) words (words_in rest) behind e in
    record {
      rest = (n, text) ∷ rest;
      is =
          ap
          (λ o.
          option_map_or (λ words. fault_at n (lender_line s others words) >>= λ spec. front_from s (others ++ spec ∷ []) rest) o
          (Ok (record { lenders = others; lines = (n, text) ∷ rest })))
          (ap lender_rest head.0 ∙ none)
          ∙ ap (λ l. Ok (record { lenders = l; lines = (n, text) ∷ rest })) (sym (append-nil others));
      spelled = e;
    }
front-back s (spec ∷ specs) others [] behind h none e = cc
front-back s (spec ∷ specs) others ((n, text) ∷ rest) behind h none e =
    let head = parts (words_of text) (lender_words spec) (words_in rest) (map lender_words specs ++ behind) e in
    let later = front-back s specs (others ++ spec ∷ []) rest behind h.2 none head.1 in
    record {
      rest = later.rest;
      is =
          ap
          (λ o.
          option_map_or (λ words. fault_at n (lender_line s others words) >>= λ spec. front_from s (others ++ spec ∷ []) rest) o
          (Ok (record { lenders = others; lines = (n, text) ∷ rest })))
          (ap lender_rest head.0)
          ∙ ap (λ r. fault_at n r >>= λ spec. front_from s (others ++ spec ∷ []) rest) (lender-back s others spec (h.0, h.1)) ∙ later.is
          ∙ ap (λ l. Ok (record { lenders = l; lines = later.rest })) (append_assoc others (spec ∷ []) specs);
      spelled = later.spelled;
    }

-- the entries behind these pairs
abbrev pub entries_after : Above → List Pair → ℕ
entries_after above [] = above.entries
entries_after above (pair ∷ pairs) = entries_after (count_pair above pair) pairs

checked_ok :
    (s : Sizes) (above : Above) (o : Option Pair) (pair : Pair) → check_pair s above o ≡ Ok pair → (o ≡ Some pair) × (first_beyond (tests s above pair) ≡ None)
checked_ok s above None pair e = cc
checked_ok s above (Some x) pair e =
    let ok = unless_ok (first_beyond (tests s above x)) x pair e in
    (ap (λ y. Some y) ok.1, sym (ap (λ y. first_beyond (tests s above y)) ok.1) ∙ ok.0)

before_ok :
    (pair : Pair) (r : Result (List Pair) ScriptRefused) (pairs : List Pair) → pair_before pair r ≡ Ok pairs
    → (ps : List Pair) × (r ≡ Ok ps) × (pairs ≡ pair ∷ ps)
before_ok pair (Ok ps) pairs e = (ps, refl, cc)
before_ok pair (Err r) pairs e = cc

same_if : (n entries : ℕ) (b : Bool) → eqb n entries ≡ b → cond b None (Some why.End) ≡ None → Some n ≡ Some entries
same_if n entries true is f = ap (λ m. Some m) (eqb-true n entries is)
same_if n entries false is f = cc

counts_none : (entries : ℕ) (o : Option ℕ) → counts entries o ≡ None → o ≡ Some entries
counts_none entries None e = cc
counts_none entries (Some n) e = same_if n entries (eqb n entries) refl e

end_number-only : (words : Words) (n : ℕ) → end_number words ≡ Some n → words ≡ decimal n ∷ []
end_number-only [] n e = cc
end_number-only (w ∷ []) n e = ap (λ x. x ∷ []) (number_one w n e).0
end_number-only (w ∷ x ∷ rest) n e = cc

nothing_ok : (rest : List (ℕ × List ℕ)) (pairs : List Pair) → nothing_behind rest ≡ Ok pairs → (rest ≡ []) × (pairs ≡ [])
nothing_ok [] pairs e = (refl, cc)
nothing_ok ((n, text) ∷ rest) pairs e = cc

ended_ok : (n : ℕ) (o : Option Why) (rest : List (ℕ × List ℕ)) (pairs : List Pair) → ended_at n o rest ≡ Ok pairs → (o ≡ None) × (rest ≡ []) × (pairs ≡ [])
ended_ok n None rest pairs e = let ok = nothing_ok rest pairs e in (refl, ok.0, ok.1)
ended_ok n (Some w) rest pairs e = cc

pub record Follows (s : Sizes) (above : Above) (lines : List (ℕ × List ℕ)) (pairs : List Pair) : Type 0 where
  pub follow : MayFollow s above pairs
  pub spelled : words_in lines ≡ map pair_words pairs ++ end_words (entries_after above pairs) ∷ []

pairs_if :
    (s : Sizes) (end : ℕ) (above : Above) (n : ℕ) (text : List ℕ) (rest : List (ℕ × List ℕ)) (pairs : List Pair) (o : Option Words)
    → end_rest (words_of text) ≡ o
    → ((more : Above) (ps : List Pair) → pairs_from s end more rest ≡ Ok ps → Follows s more rest ps)
    → option_map_or (λ behind. ended_at n (counts above.entries (end_number behind)) rest) o
    (fault_at n (check_pair s above (pair_of s (words_of text))) >>= λ pair. pair_before pair (pairs_from s end (count_pair above pair) rest))
    ≡ Ok pairs
    → Follows s above ((n, text) ∷ rest) pairs
pairs_if s end above n text rest pairs None is later e =
    let pair =
    bind_ok (fault_at n (check_pair s above (pair_of s (words_of text)))) (λ pair. pair_before pair (pairs_from s end (count_pair above pair) rest)) pairs
    e in
    let ok = checked_ok s above (pair_of s (words_of text)) pair.0 (at_ok n (check_pair s above (pair_of s (words_of text))) pair.0 pair.1) in
    let line = pair_of-only s (words_of text) pair.0 ok.0 in
    let ps = before_ok pair.0 (pairs_from s end (count_pair above pair.0) rest) pairs pair.2 in
    let below = later (count_pair above pair.0) ps.0 ps.1 in
    subst (Follows s above ((n, text) ∷ rest)) (sym ps.2)
    (record { follow = (line.0, ok.1, below.follow); spelled = ap₂ (λ w ws. w ∷ ws) line.1 below.spelled })
pairs_if s end above n text rest pairs (Some behind) is later e =
    let ok = ended_ok n (counts above.entries (end_number behind)) rest pairs e in
    let number = end_number-only behind above.entries (counts_none above.entries (end_number behind) ok.0) in
    let line : words_of text ≡ end_words above.entries = end_rest-only (words_of text) behind is ∙ ap (λ r. codes "end" ∷ r) number in
    subst (Follows s above ((n, text) ∷ rest)) (sym ok.2) (record { follow = tt; spelled = ap₂ (λ w r. w ∷ words_in r) line ok.1 })

pub pairs-only :
    (s : Sizes) (end : ℕ) (lines : List (ℕ × List ℕ)) (above : Above) (pairs : List Pair) → pairs_from s end above lines ≡ Ok pairs
    → Follows s above lines pairs
pairs-only s end [] above pairs e = cc
pairs-only s end ((n, text) ∷ rest) above pairs e =
    pairs_if s end above n text rest pairs (end_rest (words_of text)) refl (λ more ps later. pairs-only s end rest more ps later) e
