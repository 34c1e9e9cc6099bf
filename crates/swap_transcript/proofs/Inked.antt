-- What is printed of a line holds no space and no line feed within a word: each byte of a word stands behind the space.
use Rattle.std.proofs.Common.{◌≡◌, ℕ, zero, suc, ◌+◌, ◌^◌, ◌<◌, ◌≤◌, Bool, true, false, cond, eqb, nat_lt, List, [], ◌∷◌, ◌++◌, map, refl, arith, Option, None, Some, IfSome, codes}
use Rattle.std.specs.List.{list_all, AllByRecursion, filter, range_with_len}
use Rattle.std.specs.Fmt.{decimal}
use Rattle.std.specs.Str.{all_ascii_digits}
use Rattle.std.specs.Char.{is_ascii_digit}
use Rattle.std.proofs.lemmas.Fmt.{digits_decimal}
use Rattle.std.proofs.lemmas.Bool.{and_parts, and_from}
use Rattle.std.proofs.lemmas.Bool.Decides.{nat_tests}
use Rattle.swap_base.specs.declared.Lender.{Lender}
use Rattle.swap_base.specs.declared.Via.{Via}
use Rattle.swap_base.specs.declared.Via.TheVariants as via
use Rattle.swap_base.specs.declared.Origin.{Origin}
use Rattle.swap_base.specs.declared.Origin.TheVariants as origin
use Rattle.swap_base.specs.declared.EntryNo.{EntryNo}
use Rattle.swap_base.specs.declared.CallKind.TheVariants as kind
use Rattle.swap_base.specs.declared.DiskWhich.TheVariants as which
use Rattle.swap_base.specs.Sizes.{Sizes}
use Rattle.swap_io.specs.Words.{is_hex_digit, pairs, fill_page, shortest}
use Rattle.swap_io.proofs.Numbers.{own}
use Rattle.swap_choice.specs.Slots.{has, slots}
use Rattle.swap_record.specs.declared.Op.{Op}
use Rattle.swap_record.specs.declared.Op.TheVariants as op
use Rattle.swap_record.specs.Text as text
use Rattle.swap_record.specs.Text.{origin_words, op_words}
use Rattle.swap_wire.specs.declared.Msg.{Msg}
use Rattle.swap_wire.specs.declared.Msg.TheVariants as msg
use Rattle.swap_wire.specs.declared.Event.{Event}
use Rattle.swap_wire.specs.declared.Event.TheVariants as event
use Rattle.swap_wire.specs.declared.Seen.{Seen}
use Rattle.swap_wire.specs.declared.Seen.TheVariants as seen
use Rattle.swap_script.specs.Transcript.{event_words, seen_words, sent_words, via_words, msg_words, reply_words, slots_behind, second_words}
use Rattle.swap_transcript.specs.Readers.{Words}
use Rattle.swap_transcript.specs.Messages.{HasMsgWords}
use Rattle.swap_transcript.specs.Told.{Told, Saw, Entered, Shown}
use Rattle.swap_transcript.specs.Transcripts.{Pair}
use Rattle.swap_transcript.specs.Printed.{HasEventWords, HasPageWord, HasOriginWords, HasNamedWord, HasOpWords, MayBeSent, HasShownWords, HasViaWords, MaySee, MayTell, HasPairWords, shown_words, told_words, pair_words}

abbrev pub IsInked : List ℕ → Type 0
IsInked word = list_all (λ b. nat_lt 32 b) word ≡ true

abbrev pub AreInked : Words → Type 0
AreInked words = AllByRecursion IsInked words

pub inked-append : (ws more : Words) → AreInked ws → AreInked more → AreInked (ws ++ more)
inked-append [] more h k = k
inked-append (w ∷ ws) more h k = (h.0, inked-append ws more h.1 k)

-- numbers and pages
digits_inked : (ds : List ℕ) → all_ascii_digits ds ≡ true → IsInked ds
digits_inked [] h = refl
digits_inked (d ∷ ds) h =
    let parts = and_parts (is_ascii_digit d) (all_ascii_digits ds) h in
    and_from (nat_lt 32 d) (list_all (λ b. nat_lt 32 b) ds) (grind (arith, nat_tests, parts.0)) (digits_inked ds parts.1)

pub wide_inked : (n : ℕ) → n < 2 ^ 64 → IsInked (decimal n)
wide_inked n l = digits_inked (decimal n) (digits_decimal own n l)

pub small_inked : (n : ℕ) → n < 2 ^ 32 → IsInked (decimal n)
small_inked n l = wide_inked n (omega arith)

hex_inked : (ds : List ℕ) → list_all is_hex_digit ds ≡ true → IsInked ds
hex_inked [] h = refl
hex_inked (d ∷ ds) h =
    let parts = and_parts (is_hex_digit d) (list_all is_hex_digit ds) h in
    and_from (nat_lt 32 d) (list_all (λ b. nat_lt 32 b) ds) (grind (arith, nat_tests, parts.0)) (hex_inked ds parts.1)

is_piece_of : (size : ℕ) (b : Bool) (piece page : List ℕ) → fill_page size (cond b (Some piece) None) ≡ Some page → b ≡ true
is_piece_of size true piece page e = refl
is_piece_of size false piece page e = cc

page_inked : (size : ℕ) (page : List ℕ) → HasPageWord size page → IsInked (shortest page)
page_inked size page h =
    let whole = and_parts _ _ (is_piece_of size _ (pairs (shortest page)) page h) in
    hex_inked (shortest page) (and_parts _ _ whole.0).0

-- the words of an event
event_inked : (e : Event) → HasEventWords e → AreInked (event_words e)
event_inked (event.PageOut c p) h = (refl, (small_inked c.0 h.0, (small_inked p.0 h.1, tt)))
event_inked (event.PageIn c p) h = (refl, (small_inked c.0 h.0, (small_inked p.0 h.1, tt)))
event_inked (event.Finish c) h = (refl, (small_inked c.0 h, tt))
event_inked event.Start h = (refl, tt)
event_inked (event.Disk (which.Write p) true) h = (refl, (refl, (small_inked p.0 h, (refl, tt))))
event_inked (event.Disk (which.Write p) false) h = (refl, (refl, (small_inked p.0 h, (refl, tt))))
event_inked (event.Disk (which.Read c) true) h = (refl, (refl, (small_inked c.0 h, (refl, tt))))
event_inked (event.Disk (which.Read c) false) h = (refl, (refl, (small_inked c.0 h, (refl, tt))))
event_inked (event.Tick w) h = (refl, (wide_inked w h, tt))
event_inked (event.Map s l) h = (refl, (small_inked s.0 h.0, (small_inked l.0 h.1, tt)))
event_inked (event.Connect l) h = (refl, (small_inked l.0 h, tt))
event_inked (event.Give l) h = (refl, (small_inked l.0 h, tt))
event_inked (event.Take l) h = (refl, (small_inked l.0 h, tt))
event_inked (event.Cut l a b) h = (refl, (small_inked l.0 h.0, (small_inked a h.1, (small_inked b h.2, tt))))
event_inked (event.Crash l) h = (refl, (small_inked l.0 h, tt))
event_inked (event.Host l u w) h = (refl, (small_inked l.0 h.0, (small_inked u h.1, (wide_inked w h.2, tt))))
event_inked (event.Round w) h = (refl, (wide_inked w h, tt))

-- those of a message, of a set of slots, and of what a call waits for
pub msg_inked : (s : Sizes) (m : Msg) → HasMsgWords s m → AreInked (msg_words m)
msg_inked s (msg.Hello version page_bytes pages_per_slab) h = (refl, (small_inked version h.0, tt))
msg_inked s (msg.Query n) h = (refl, (small_inked n.0 h, tt))
msg_inked s (msg.Borrow n) h = (refl, (small_inked n.0 h, tt))
msg_inked s (msg.Write k i) h = (refl, (small_inked k.0 h.0, (small_inked i h.1, tt)))
msg_inked s (msg.Read k i) h = (refl, (small_inked k.0 h.0, (small_inked i h.1, tt)))
msg_inked s (msg.Rates k v) h = (refl, (small_inked k.0 h.0, (wide_inked v h.1, tt)))
msg_inked s (msg.Done k) h = (refl, (small_inked k.0 h, tt))
msg_inked s (msg.Room n free) h = (refl, (small_inked n.0 h.0, (small_inked free h.1, tt)))
msg_inked s (msg.Lent n k) h = (refl, (small_inked n.0 h.0, (small_inked k.0 h.1, tt)))
msg_inked s (msg.Refused n) h = (refl, (small_inked n.0 h, tt))
msg_inked s (msg.Wrote k i) h = (refl, (small_inked k.0 h.0, (small_inked i h.1, tt)))
msg_inked s (msg.PageIs k i) h = (refl, (small_inked k.0 h.0, (small_inked i h.1, tt)))
msg_inked s (msg.AskRates k) h = (refl, (small_inked k.0 h, tt))
msg_inked s (msg.Evict k) h = (refl, (small_inked k.0 h, tt))

numbers_if : (b : Bool) (n : ℕ) (ns : List ℕ) → n < 2 ^ 32 → AreInked (map decimal ns) → AreInked (map decimal (cond b (n ∷ ns) ns))
numbers_if true n ns l h = (small_inked n l, h)
numbers_if false n ns l h = h

slots_inked-from : (set least many : ℕ) → least + many ≤ 64 → AreInked (map decimal (filter (has set) (range_with_len least many)))
slots_inked-from set least zero l = tt
slots_inked-from set least (suc many) l =
    numbers_if (has set least) least (filter (has set) (range_with_len (least + 1) many)) (omega arith)
    (slots_inked-from set (least + 1) many (omega arith))

numbers_inked : (set : ℕ) → AreInked (map decimal (slots set))
unfolding slots
numbers_inked set = slots_inked-from set 0 64 (omega arith)

slots_if : (name : List ℕ) (set : ℕ) (b : Bool) → IsInked name → AreInked (cond b [] (name ∷ map decimal (slots set)))
slots_if name set true h = tt
slots_if name set false h = (h, numbers_inked set)

slots_inked : (name : List ℕ) (set : ℕ) → IsInked name → AreInked (slots_behind name set)
slots_inked name set h = slots_if name set (eqb set 0) h

via_inked : (v : Via) → HasViaWords v → AreInked (via_words v)
via_inked via.Disk h = (refl, tt)
via_inked (via.Lender l) h = (refl, (small_inked l.0 h, tt))

reply_inked : (s : Sizes) (reply : Option Msg) → IfSome reply (HasMsgWords s) → AreInked (reply_words reply)
reply_inked s None h = tt
reply_inked s (Some m) h = (refl, msg_inked s m h)

second_inked : (second : Option Lender) → IfSome second (λ l. l.0 < 2 ^ 32) → AreInked (second_words second)
second_inked None h = tt
second_inked (Some l) h = (small_inked l.0 h, tt)

-- what was seen of an event
seen_inked : (s : Sizes) (e : Event) (x : Seen) → MaySee s e x → AreInked (seen_words [] x)
seen_inked s (event.PageOut c p) seen.Room h = (refl, tt)
seen_inked s (event.PageOut c p) seen.Busy h = (refl, tt)
seen_inked s (event.PageIn c p) (seen.Wait v) h = (refl, via_inked v h)
seen_inked s (event.PageIn c p) seen.Busy h = (refl, tt)
seen_inked s (event.Finish c) seen.Idle h = (refl, tt)
seen_inked s (event.Finish c) (seen.Wait v) h = (refl, via_inked v h)
seen_inked s (event.Finish c) seen.Room h = (refl, tt)
seen_inked s (event.Finish c) (seen.Again v) h = (refl, via_inked v h)
seen_inked s event.Start (seen.Started p e) h = (refl, (small_inked p.0 h.0, (small_inked e.0 h.1, tt)))
seen_inked s event.Start seen.Nothing h = (refl, tt)
seen_inked s (event.Disk (which.Write p) true) (seen.Written e) h = (refl, (small_inked e.0 h, tt))
seen_inked s (event.Disk (which.Write p) true) seen.Nothing h = (refl, tt)
seen_inked s (event.Disk (which.Write p) false) (seen.WriteKept e) h = (refl, (small_inked e.0 h, tt))
seen_inked s (event.Disk (which.Write p) false) (seen.WriteDropped e) h = (refl, (small_inked e.0 h, tt))
seen_inked s (event.Disk (which.Write p) false) seen.Nothing h = (refl, tt)
seen_inked s (event.Disk (which.Read c) true) (seen.ReadCame p) h = (refl, (small_inked p.0 h, tt))
seen_inked s (event.Disk (which.Read c) true) seen.Nothing h = (refl, tt)
seen_inked s (event.Disk (which.Read c) false) (seen.ReadFailed p) h = (refl, (small_inked p.0 h, tt))
seen_inked s (event.Disk (which.Read c) false) seen.Nothing h = (refl, tt)
seen_inked s (event.Tick w) seen.Ticked h = (refl, tt)
seen_inked s (event.Tick w) (seen.Asked slab first second) h = (refl, (small_inked slab.0 h.0, (small_inked first.0 h.1, second_inked second h.2)))
seen_inked s (event.Map slab l) seen.Borrowing h = (refl, tt)
seen_inked s (event.Map slab l) seen.Nothing h = (refl, tt)
seen_inked s (event.Connect l) (seen.Linked n) h = (refl, (small_inked n.0 h, tt))
seen_inked s (event.Connect l) seen.Nothing h = (refl, tt)
seen_inked s (event.Give l) (seen.Gave m reply evicted) h =
    inked-append (msg_words m ++ reply_words reply) (slots_behind (codes "evict") evicted)
    (inked-append (msg_words m) (reply_words reply) (msg_inked s m h.0) (reply_inked s reply h.1)) (slots_inked (codes "evict") evicted refl)
seen_inked s (event.Give l) seen.GaveEnd h = (refl, tt)
seen_inked s (event.Give l) (seen.GaveEnded m) h = inked-append (msg_words m) (codes "ended" ∷ []) (msg_inked s m h) (refl, tt)
seen_inked s (event.Give l) seen.Nothing h = (refl, tt)
seen_inked s (event.Take l) (seen.Took m) h = msg_inked s m h
seen_inked s (event.Take l) seen.Lost h = (refl, tt)
seen_inked s (event.Take l) seen.Lied h = (refl, tt)
seen_inked s (event.Take l) seen.Nothing h = (refl, tt)
seen_inked s (event.Cut l a b) seen.Cut h = (refl, tt)
seen_inked s (event.Cut l a b) seen.Nothing h = (refl, tt)
seen_inked s (event.Crash l) seen.Crashed h = (refl, tt)
seen_inked s (event.Crash l) seen.Nothing h = (refl, tt)
seen_inked s (event.Host l u w) (seen.Hosted mean asked) h = (wide_inked mean h.0, slots_inked (codes "ask") asked refl)
seen_inked s (event.Host l u w) seen.Nothing h = (refl, tt)
seen_inked s (event.Round w) (seen.Rounded effects mapped) h = (small_inked effects h.0, (refl, (small_inked mapped h.1, tt)))
seen_inked s e x h = absurd h

-- an entry
named_inked : (named : Option EntryNo) → HasNamedWord named → IsInked (text.named_word named)
named_inked None h = refl
named_inked (Some e) h = small_inked e.0 h

origin_inked : (o : Origin) → HasOriginWords o → AreInked (origin_words o)
origin_inked origin.Zero h = (refl, tt)
origin_inked origin.Queue h = (refl, tt)
origin_inked origin.Disk h = (refl, tt)
origin_inked (origin.Lender l) h = (refl, (small_inked l.0 h, tt))

op_inked : (size page : ℕ) (bytes : List ℕ) (o : Op) → page < 2 ^ 32 → HasOpWords size bytes o → AreInked (op_words page bytes o)
op_inked size page bytes op.PageOut l h = (refl, (small_inked page l, (page_inked size bytes h, tt)))
op_inked size page bytes (op.PageIn named from) l h = (
  refl,
  (
    small_inked page l,
    (refl, (named_inked named h.0, inked-append (origin_words from) (shortest bytes ∷ []) (origin_inked from h.1) (page_inked size bytes h.2, tt))),
  ),
)
op_inked size page bytes (op.Failed kind.PageOut since at) l h =
    (refl, (refl, (small_inked page l, (wide_inked since h.0, (wide_inked at h.1, (page_inked size bytes h.2, tt))))))
op_inked size page bytes (op.Failed kind.PageIn since at) l h = (refl, (refl, (small_inked page l, (wide_inked since h.0, (wide_inked at h.1, tt)))))

sent_inked : (o : Op) (sent : Option Lender) → MayBeSent o sent → AreInked (sent_words sent)
sent_inked o None h = tt
sent_inked op.PageOut (Some l) h = (refl, (small_inked l.0 h, tt))
sent_inked (op.PageIn named from) (Some l) h = cc
sent_inked (op.Failed kind since at) (Some l) h = cc

shown_inked : (size : ℕ) (shown : Shown) → HasShownWords size shown → AreInked (shown_words shown)
shown_inked size shown h = (
  refl,
  (
    small_inked shown.no.0 h.no,
    inked-append (op_words shown.page.0 shown.bytes shown.op) (sent_words shown.sent)
        (op_inked size shown.page.0 shown.bytes shown.op h.page h.op) (sent_inked shown.op shown.sent h.sent),
  ),
)

told_inked : (s : Sizes) (e : Event) (t : Told) → MayTell s e t → AreInked (told_words t)
told_inked s e (Saw x) h = seen_inked s e x h
told_inked s e (Entered shown) h = shown_inked s.page_bytes shown h.1

pub pair_inked : (s : Sizes) (pair : Pair) → HasPairWords s pair → AreInked (pair_words pair)
pair_inked s pair h =
    inked-append (event_words pair.event) (codes "=" ∷ told_words pair.told) (event_inked pair.event h.event)
    (refl, told_inked s pair.event pair.told h.told)
