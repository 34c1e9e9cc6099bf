-- A link that is heard, step by step.
use Rattle.std.proofs.Common.{◌≡◌, ℕ, ◌+◌, ◌-◌, ◌<◌, ◌≤◌, min, Bool, true, false, cond, List, [], ◌∷◌, ◌++◌, length, take, drop, slice_range, take-append-drop, drop-drop, length-take, refl, sym, ap, subst, ◌∙◌, append_assoc, append-nil, arith, length-append, Option, None, Some}
use Rattle.std.proofs.lemmas.Bool.{cond-false}
use Rattle.std.proofs.lemmas.List.{take_min, drop-take}
use Rattle.std.specs.Io.KnownBytes.{IsAtEnd, Keeps}
use Rattle.swap_base.specs.declared.Link.{Link}
use Rattle.swap_io.specs.Causes.{Rose, WasRead}
use Rattle.swap_wire.specs.declared.Msg.{Msg}
use Rattle.swap_wire.specs.declared.side.Side.{Side}
use Rattle.swap_wire.specs.declared.side.Side.TheVariants.{Device}
use Rattle.swap_wire.specs.declared.decoder.Next.TheVariants as next
use Rattle.swap_wire.specs.Frames.{frame, IsFrame, IsPartial, IsHopeless}
use Rattle.swap_wire.specs.Decoding.{DecoderView, room, bytes_taken, feed_after, answered_after, count_up, Gives, Waits, Fails}
use Rattle.swap_wire.specs.Streams.{frames_of, Splits}
use Rattle.swap_sock.specs.declared.host.LinkEnd.{LinkEnd}
use Rattle.swap_sock.specs.declared.host.LinkEnd.TheVariants as end
use Rattle.swap_sock.specs.Dealings.{left_by}
use Rattle.swap_node.specs.declared.node.Ear.{Ear}
use Rattle.swap_serve.specs.Hearing.{Hearing, IsBegun, IsHearing, IsHeard, GoesOn}
use Rattle.swap_serve.specs.Steps.{Hears, Fills, RunsDry, Reads}
use Rattle.swap_serve.proofs.Frames.{sent_last, frames_last, hopeless_more}
use Rattle.swap_wire.proofs.Streaming.{again, fed_alive}

-- bytes that were read, and then more
pub read_more : (a b c : Option (List ℕ)) (bytes more : List ℕ) → WasRead a b bytes → WasRead b c more → WasRead a c (bytes ++ more)
read_more None b c bytes more p q = tt
read_more (Some x) None c bytes more p q = absurd p
read_more (Some x) (Some y) None bytes more p q = absurd q
read_more (Some x) (Some y) (Some z) bytes more p q = p ∙ ap (λ l. bytes ++ l) q ∙ sym (append_assoc bytes more z)

keeps_same : (a : Option (List ℕ)) → Keeps a a
keeps_same None = tt
keeps_same (Some x) = refl

-- a source that kept its bytes gave none
pub read_none : (a b : Option (List ℕ)) → Keeps a b → WasRead a b []
read_none None b p = tt
read_none (Some x) None p = absurd p
read_none (Some x) (Some y) p = sym p

-- what is fed is kept, and the rest is still ahead
fed_goes : (d : DecoderView) (bytes : List ℕ) → d.bad ≡ false → (d.rest ++ bytes) ++ [] ≡ (feed_after d bytes).rest ++ drop (bytes_taken d bytes) bytes
fed_goes d bytes alive =
    let n = min (room d) (length bytes) in
    let n_is : bytes_taken d bytes ≡ n = cond-false d.bad (length bytes) (min (length bytes) (room d)) alive ∙ omega arith in
    append-nil (d.rest ++ bytes) ∙ ap (λ (x : List ℕ). d.rest ++ x) (sym (take-append-drop n bytes)) ∙ sym (append_assoc d.rest (take n bytes) (drop n bytes))
    ∙ ap (λ (x : List ℕ). (d.rest ++ x) ++ drop n bytes) (take_min (room d) bytes)
    ∙ ap (λ (x : DecoderView). x.rest ++ drop n bytes) (sym (fed_alive d bytes alive))
    ∙ ap (λ (i : ℕ). (feed_after d bytes).rest ++ drop i bytes) (sym n_is)

range_none : (xs : List ℕ) (at end : ℕ) → end ≤ at → slice_range xs at end ≡ []
range_none xs at end le =
    let none : end - at ≡ 0 = omega (arith, le) in ap (λ (k : ℕ). take k (drop at xs)) none

few_by : (b : Bool) (n m : ℕ) → cond b n (min n m) ≤ n
few_by true n m = omega arith
few_by false n m = omega arith

-- no more is taken of a range than it has
pub within_range : (d : DecoderView) (xs : List ℕ) (at end n : ℕ) → at < end → n ≡ bytes_taken d (slice_range xs at end) → at + n ≤ end
within_range d xs at end n lt e =
    omega (arith, e, lt, few_by d.bad (length (slice_range xs at end)) (room d), length-take (end - at) (drop at xs))

-- a later part of a range is what the earlier one has left
range_drop : (xs : List ℕ) (at end n : ℕ) → at + n ≤ end → slice_range xs (at + n) end ≡ drop n (slice_range xs at end)
range_drop xs at end n le =
    let m = end - (at + n) in
    ap (λ (l : List ℕ). take m l) (ap (λ (k : ℕ). drop k xs) (omega arith) ∙ sym (drop-drop n at xs))
    ∙ sym (drop-take n m (drop at xs))
    ∙ ap (λ (k : ℕ). drop n (take k (drop at xs))) (omega (arith, le))

module _ {S : Type 0} (left : S → Option (List ℕ)) (faults : S → ℕ) where
  -- bytes ahead are fed
  pub fills_fed :
      (reader : S) (ear : Ear) (d e : DecoderView) (xs : List ℕ) (at end n : ℕ) → Waits d → at + n ≤ end → n ≡ bytes_taken d (slice_range xs at end)
      → e ≡ feed_after d (slice_range xs at end)
      → Fills left faults (record { reader = reader; decoder = d; ahead = slice_range xs at end; ear = ear })
      (record { reader = reader; decoder = e; ahead = slice_range xs (at + n) end; ear = ear })
  fills_fed reader ear d e xs at end n waits within n_is e_is =
      let bs = slice_range xs at end in
      let whole : e ≡ record d { rest = d.rest ++ take (room d) bs } = e_is ∙ fed_alive d bs waits.alive in
      record {
        bytes = [];
        read = read_none (left reader) (left reader) (keeps_same (left reader));
        later = omega arith;
        goes =
            fed_goes d bs waits.alive ∙ ap (λ (x : DecoderView). x.rest ++ drop (bytes_taken d bs) bs) (sym e_is)
            ∙ ap (λ (i : ℕ). e.rest ++ drop i bs) (sym n_is)
            ∙ ap (λ (x : List ℕ). e.rest ++ x) (sym (range_drop xs at end n within));
        before = ap (λ (x : DecoderView). x.before) whole;
        side = ap (λ (x : DecoderView). x.side) whole;
        pages = ap (λ (x : DecoderView). x.page_bytes) whole;
        ear = refl;
      }

  -- bytes were read where none were ahead
  pub fills_read :
      (a b : S) (ear : Ear) (d : DecoderView) (xs buf : List ℕ) (at end n : ℕ) → end ≤ at → WasRead (left a) (left b) (take n buf) → faults a ≤ faults b
      → Fills left faults (record { reader = a; decoder = d; ahead = slice_range xs at end; ear = ear })
      (record { reader = b; decoder = d; ahead = slice_range buf 0 n; ear = ear })
  fills_read a b ear d xs buf at end n none read later = record {
    bytes = take n buf;
    read = read;
    later = later;
    goes =
        ap (λ (x : List ℕ). (d.rest ++ x) ++ take n buf) (range_none xs at end none) ∙ ap (λ (x : List ℕ). x ++ take n buf) (append-nil d.rest)
        ∙ ap (λ (k : ℕ). d.rest ++ take k buf) (omega arith);
    before = refl;
    side = refl;
    pages = refl;
    ear = refl;
  }

  -- the frame in front is one more of those that were given
  one_more :
      (page_bytes : ℕ) (given : S) (link : Link) (a : Hearing S) (gs : List (Msg × List ℕ)) (m : Msg) (page : List ℕ)
      (h : IsHearing left faults page_bytes given link a gs)
      → Gives a.decoder m page
      → Splits Device page_bytes h.bytes (gs ++ (m, page) ∷ []) (drop (length (frame m page)) a.decoder.rest ++ a.ahead)
  one_more page_bytes given link a gs m page h gives =
      let f = frame m page in
      let kept = drop (length f) a.decoder.rest in
      let e : a.decoder.rest ++ a.ahead ≡ f ++ (kept ++ a.ahead) = ap (λ (x : List ℕ). x ++ a.ahead) gives.front ∙ append_assoc f kept a.ahead in
      let whole : h.bytes ≡ frames_of (gs ++ (m, page) ∷ []) ++ (kept ++ a.ahead) =
      h.splits.whole ∙ ap (λ (x : List ℕ). frames_of gs ++ x) e ∙ sym (append_assoc (frames_of gs) f (kept ++ a.ahead))
      ∙ ap (λ (x : List ℕ). x ++ (kept ++ a.ahead)) (sym (frames_last gs m page)) in
      let is_frame : IsFrame Device page_bytes m page f =
      subst (λ (s : Side). IsFrame s page_bytes m page f) h.side (subst (λ (n : ℕ). IsFrame a.decoder.side n m page f) h.pages gives.is_frame) in
      record { whole = whole; each = sent_last Device page_bytes gs m page h.splits.each is_frame }

  counts_more :
      (gs : List (Msg × List ℕ)) (m : Msg) (page : List ℕ) (n k : ℕ) → n ≡ count_up (length gs) → k ≡ count_up (n + 1)
      → k ≡ count_up (length (gs ++ (m, page) ∷ []))
  counts_more gs m page n k e c = omega (arith, e, c, length-append gs ((m, page) ∷ []))

  places_more :
      (gs : List (Msg × List ℕ)) (m : Msg) (page : List ℕ) (n : ℕ) → n ≡ count_up (length (frames_of gs))
      → count_up (n + length (frame m page)) ≡ count_up (length (frames_of (gs ++ (m, page) ∷ [])))
  places_more gs m page n e =
      ap (λ (k : ℕ). count_up (k + length (frame m page))) e ∙ again (length (frames_of gs)) (length (frame m page))
      ∙ ap count_up (sym (length-append (frames_of gs) (frame m page)) ∙ ap length (sym (frames_last gs m page)))

  some_last : (gs : List (Msg × List ℕ)) (m : Msg) (page : List ℕ) → 0 < length (gs ++ (m, page) ∷ [])
  some_last gs m page = omega (arith, length-append gs ((m, page) ∷ []))

  -- nothing was read
  pub begins : (h : Hearing S) → IsBegun h → IsHearing left faults h.decoder.page_bytes h.reader h.ear.link h []
  begins h begun_is =
      subst (λ (x : Hearing S). IsHearing left faults h.decoder.page_bytes h.reader h.ear.link x []) (sym begun_is)
      (record {
        bytes = [];
        read = read_none (left h.reader) (left h.reader) (keeps_same (left h.reader));
        later = omega arith;
        splits = record { whole = refl; each = tt };
        before = omega arith;
        side = refl;
        pages = refl;
        count = omega arith;
        ended = refl;
        link_is = refl;
      })

  -- bytes were fed or read
  pub filled :
      (page_bytes : ℕ) (given : S) (link : Link) (a b : Hearing S) (gs : List (Msg × List ℕ)) → IsHearing left faults page_bytes given link a gs
      → Fills left faults a b → IsHearing left faults page_bytes given link b gs
  filled page_bytes given link a b gs h fills = record {
    bytes = h.bytes ++ fills.bytes;
    read = read_more (left given) (left a.reader) (left b.reader) h.bytes fills.bytes h.read fills.read;
    later = omega (arith, h.later, fills.later);
    splits = record {
      whole =
          ap (λ (x : List ℕ). x ++ fills.bytes) h.splits.whole ∙ append_assoc (frames_of gs) (a.decoder.rest ++ a.ahead) fills.bytes
          ∙ ap (λ (x : List ℕ). frames_of gs ++ x) fills.goes;
      each = h.splits.each;
    };
    before = fills.before ∙ h.before;
    side = fills.side ∙ h.side;
    pages = fills.pages ∙ h.pages;
    count = ap (λ (e : Ear). e.count) fills.ear ∙ h.count;
    ended = ap (λ (e : Ear). e.ended) fills.ear ∙ h.ended;
    link_is = ap (λ (e : Ear). e.link) fills.ear ∙ h.link_is;
  }

  module _ {K : Type 0} (sink_faults : K → ℕ) where
    -- a message was delivered
    pub delivered :
        (page_bytes : ℕ) (given : S) (link : Link) (a : Hearing S) (gs : List (Msg × List ℕ)) (m : Msg) (page : List ℕ) (answer : Option (LinkEnd K))
        (ear : Ear)
        → IsHearing left faults page_bytes given link a gs → Gives a.decoder m page
        → Hears sink_faults m a.ear answer ear
        → GoesOn left faults sink_faults page_bytes given link answer
        (record { reader = a.reader; decoder = answered_after a.decoder (next.Got m) page; ahead = a.ahead; ear = ear })
    delivered page_bytes given link a gs m page None ear h gives hears = (
      gs ++ (m, page) ∷ [],
      record {
        bytes = h.bytes;
        read = h.read;
        later = h.later;
        splits = one_more page_bytes given link a gs m page h gives;
        before = places_more gs m page a.decoder.before h.before;
        side = h.side;
        pages = h.pages;
        count = counts_more gs m page a.ear.count ear.count h.count hears.count;
        ended = hears.ended;
        link_is = hears.link ∙ h.link_is;
      },
    )
    delivered page_bytes given link a gs m page (Some (end.Ended n)) ear h gives hears = record {
      bytes = h.bytes;
      messages = gs ++ (m, page) ∷ [];
      rest = drop (length (frame m page)) a.decoder.rest ++ a.ahead;
      read = h.read;
      later = h.later;
      splits = one_more page_bytes given link a gs m page h gives;
      count = counts_more gs m page a.ear.count ear.count h.count hears.count;
      ended = hears.ended;
      link_is = hears.link ∙ h.link_is;
      end = record { before = gs; page = page; last = ap (λ (x : Msg). gs ++ (x, page) ∷ []) (sym hears.answers) };
    }
    delivered page_bytes given link a gs m page (Some (end.Down sink)) ear h gives hears = record {
      bytes = h.bytes;
      messages = gs ++ (m, page) ∷ [];
      rest = drop (length (frame m page)) a.decoder.rest ++ a.ahead;
      read = h.read;
      later = h.later;
      splits = one_more page_bytes given link a gs m page h gives;
      count = counts_more gs m page a.ear.count ear.count h.count hears.count;
      ended = hears.ended;
      link_is = hears.link ∙ h.link_is;
      end = (hears.answers, some_last gs m page);
    }
    delivered page_bytes given link a gs m page (Some end.Read) ear h gives hears = absurd hears.answers
    delivered page_bytes given link a gs m page (Some end.ReadFailed) ear h gives hears = absurd hears.answers
    delivered page_bytes given link a gs m page (Some (end.Bad at)) ear h gives hears = absurd hears.answers

    -- at a place of its bytes no frame stands
    pub went_bad :
        (page_bytes : ℕ) (given : S) (link : Link) (a : Hearing S) (gs : List (Msg × List ℕ)) (at : ℕ) → IsHearing left faults page_bytes given link a gs
        → Fails a.decoder at
        → IsHeard left faults sink_faults page_bytes given link (left_by a.reader (end.Bad at)) a.ear
    went_bad page_bytes given link a gs at h fails =
        let hopeless : IsHopeless Device page_bytes a.decoder.rest =
        subst (λ (s : Side). IsHopeless s page_bytes a.decoder.rest) h.side
        (subst (λ (n : ℕ). IsHopeless a.decoder.side n a.decoder.rest) h.pages fails.hopeless) in
        record {
          bytes = h.bytes;
          messages = gs;
          rest = a.decoder.rest ++ a.ahead;
          read = h.read;
          later = h.later;
          splits = h.splits;
          count = h.count;
          ended = h.ended;
          link_is = h.link_is;
          end = (hopeless_more Device page_bytes a.decoder.rest a.ahead hopeless, fails.place ∙ h.before);
        }

    partial_left :
        (page_bytes : ℕ) (given : S) (link : Link) (a : Hearing S) (gs : List (Msg × List ℕ)) → IsHearing left faults page_bytes given link a gs
        → Waits a.decoder
        → a.ahead ≡ [] → IsPartial Device page_bytes (a.decoder.rest ++ a.ahead)
    partial_left page_bytes given link a gs h waits dry =
        subst (λ (x : List ℕ). IsPartial Device page_bytes x) (sym (ap (λ (x : List ℕ). a.decoder.rest ++ x) dry ∙ append-nil a.decoder.rest))
        (subst (λ (s : Side). IsPartial s page_bytes a.decoder.rest) h.side
        (subst (λ (n : ℕ). IsPartial a.decoder.side n a.decoder.rest) h.pages waits.partial))

    rose_since : (x y z : ℕ) → x ≤ y → Rose y z → Rose x z
    rose_since x y z le r = omega (arith, le, r)

    -- the last read gave nothing, or failed
    ran_dry :
        (page_bytes : ℕ) (given : S) (link : Link) (a : Hearing S) (gs : List (Msg × List ℕ)) (reader : S) → IsHearing left faults page_bytes given link a gs
        → Waits a.decoder → (dry : RunsDry left faults a (record a { reader = reader })) → IsAtEnd (left reader)
        → IsHeard left faults sink_faults page_bytes given link (left_by reader end.Read) a.ear
    ran_dry page_bytes given link a gs reader h waits dry at_end = record {
      bytes = h.bytes ++ [];
      messages = gs;
      rest = a.decoder.rest ++ a.ahead;
      read = read_more (left given) (left a.reader) (left reader) h.bytes [] h.read dry.read;
      later = omega (arith, h.later, dry.later);
      splits = record { whole = append-nil h.bytes ∙ h.splits.whole; each = h.splits.each };
      count = h.count;
      ended = h.ended;
      link_is = h.link_is;
      end = (at_end, partial_left page_bytes given link a gs h waits dry.ahead);
    }

    failed_dry :
        (page_bytes : ℕ) (given : S) (link : Link) (a : Hearing S) (gs : List (Msg × List ℕ)) (reader : S) → IsHearing left faults page_bytes given link a gs
        → Waits a.decoder → (dry : RunsDry left faults a (record a { reader = reader })) → Rose (faults a.reader) (faults reader)
        → IsHeard left faults sink_faults page_bytes given link (left_by reader end.ReadFailed) a.ear
    failed_dry page_bytes given link a gs reader h waits dry rose = record {
      bytes = h.bytes ++ [];
      messages = gs;
      rest = a.decoder.rest ++ a.ahead;
      read = read_more (left given) (left a.reader) (left reader) h.bytes [] h.read dry.read;
      later = omega (arith, h.later, dry.later);
      splits = record { whole = append-nil h.bytes ∙ h.splits.whole; each = h.splits.each };
      count = h.count;
      ended = h.ended;
      link_is = h.link_is;
      end = (rose_since (faults given) (faults a.reader) (faults reader) h.later rose, partial_left page_bytes given link a gs h waits dry.ahead);
    }

    -- bytes were fed, or read
    pub went_on :
        (page_bytes : ℕ) (given : S) (link : Link) (a b : Hearing S) (gs : List (Msg × List ℕ)) (answer : Option (LinkEnd K))
        → IsHearing left faults page_bytes given link a gs → Waits a.decoder → Reads left faults a answer b
        → GoesOn left faults sink_faults page_bytes given link answer b
    went_on page_bytes given link a b gs None h waits reads = (gs, filled page_bytes given link a b gs h reads)
    went_on page_bytes given link a b gs (Some end.Read) h waits reads =
        subst (λ (x : Hearing S). IsHeard left faults sink_faults page_bytes given link (left_by x.reader end.Read) x.ear) (sym reads.0.same)
        (ran_dry page_bytes given link a gs b.reader h waits (subst (λ (x : Hearing S). RunsDry left faults a x) reads.0.same reads.0) reads.1)
    went_on page_bytes given link a b gs (Some end.ReadFailed) h waits reads =
        subst (λ (x : Hearing S). IsHeard left faults sink_faults page_bytes given link (left_by x.reader end.ReadFailed) x.ear) (sym reads.0.same)
        (failed_dry page_bytes given link a gs b.reader h waits (subst (λ (x : Hearing S). RunsDry left faults a x) reads.0.same reads.0) reads.1)
    went_on page_bytes given link a b gs (Some (end.Bad at)) h waits reads = absurd reads
    went_on page_bytes given link a b gs (Some (end.Down sink)) h waits reads = absurd reads
    went_on page_bytes given link a b gs (Some (end.Ended m)) h waits reads = absurd reads
