-- A result without an entry has words: its numbers fit, and it is one of its event's. The words of a greeting don't tell
-- its sizes, and the header's stand for them.
use Rattle.std.proofs.Common.{◌≡◌, true, false, [], ◌∷◌, ◌++◌, ap, ap₂, Option, None, Some, IfSome, refl, codes}
use Rattle.std.specs.Option.{option_map}
use Rattle.std.proofs.lemmas.Bool.{lt-ltb}
use Rattle.swap_base.specs.declared.DiskWhich.TheVariants as which
use Rattle.swap_base.specs.Sizes.{Sizes, pages_of}
use Rattle.swap_record.specs.History.{History}
use Rattle.swap_wire.specs.declared.Msg.{Msg}
use Rattle.swap_wire.specs.declared.Msg.TheVariants as msg
use Rattle.swap_wire.specs.declared.Event.{Event}
use Rattle.swap_wire.specs.declared.Event.TheVariants as event
use Rattle.swap_wire.specs.declared.Seen.{Seen}
use Rattle.swap_wire.specs.declared.Seen.TheVariants as seen
use Rattle.swap_script.specs.Transcript.{msg_words, reply_words, evicted_words, seen_words}
use Rattle.swap_world.specs.Runs.{entry_seen}
use Rattle.swap_transcript.specs.Messages.{HasMsgWords}
use Rattle.swap_transcript.specs.Told.{Saw}
use Rattle.swap_transcript.specs.Printed.{MaySee}
use Rattle.swap_transcript.specs.Transcripts.{tells_page}
use Rattle.swap_transcript.specs.Laws.{IsPlain}
use Rattle.swap_roundtrip.specs.Numbers.{HasMsgNumbers, HasSeenNumbers}
use Rattle.swap_roundtrip.proofs.Shapes.{Shape}

-- what is read back of a message, and of what was seen
abbrev pub msg_back : Sizes → Msg → Msg
msg_back s (msg.Hello version page_bytes pages_per_slab) = msg.Hello version s.page_bytes s.pages_per_slab
msg_back s m = m

abbrev pub seen_back : Sizes → Seen → Seen
seen_back s (seen.Gave m reply evicted) = seen.Gave (msg_back s m) (option_map (msg_back s) reply) evicted
seen_back s (seen.GaveEnded m) = seen.GaveEnded (msg_back s m)
seen_back s (seen.Took m) = seen.Took (msg_back s m)
seen_back s x = x

msg_same : (s : Sizes) (m : Msg) → msg_words (msg_back s m) ≡ msg_words m
msg_same s (msg.Hello version page_bytes pages_per_slab) = refl
msg_same s m = refl

reply_same : (s : Sizes) (reply : Option Msg) → reply_words (option_map (msg_back s) reply) ≡ reply_words reply
reply_same s None = refl
reply_same s (Some m) = ap (λ w. (62 ∷ []) ∷ w) (msg_same s m)

pub seen_same : (s : Sizes) (H : History) (x : Seen) → seen_words H (seen_back s x) ≡ seen_words H x
seen_same s H (seen.Gave m reply evicted) = ap₂ (λ a b. a ++ b ++ evicted_words evicted) (msg_same s m) (reply_same s reply)
seen_same s H (seen.GaveEnded m) = ap (λ a. a ++ codes "ended" ∷ []) (msg_same s m)
seen_same s H (seen.Took m) = msg_same s m
seen_same s H x = refl

msg_has : (s : Sizes) (m : Msg) → HasMsgNumbers m → HasMsgWords s (msg_back s m)
msg_has s (msg.Hello version page_bytes pages_per_slab) h = (h, refl, refl)
msg_has s m h = h

reply_has : (s : Sizes) (reply : Option Msg) → IfSome reply HasMsgNumbers → IfSome (option_map (msg_back s) reply) (HasMsgWords s)
reply_has s None h = tt
reply_has s (Some m) h = msg_has s m h

pub plain_back : (s : Sizes) (x : Seen) → entry_seen x ≡ None → IsPlain (seen_back s x)
plain_back s (seen.Done e to) h = cc
plain_back s (seen.Fault e) h = cc
plain_back s x h = tt

pub may_see : (s : Sizes) (e : Event) (x : Seen) → entry_seen x ≡ None → Shape (pages_of s) e x → HasSeenNumbers x → MaySee s e (seen_back s x)
may_see s e (seen.Done n to) none shape h = cc
may_see s e (seen.Fault n) none shape h = cc
may_see s (event.PageOut c p) seen.Room none shape h = tt
may_see s (event.PageOut c p) seen.Busy none shape h = tt
may_see s (event.PageIn c p) (seen.Wait v) none shape h = h
may_see s (event.PageIn c p) seen.Busy none shape h = tt
may_see s (event.Finish c) seen.Idle none shape h = tt
may_see s (event.Finish c) (seen.Wait v) none shape h = h
may_see s (event.Finish c) seen.Room none shape h = tt
may_see s (event.Finish c) (seen.Again v) none shape h = h
may_see s event.Start (seen.Started p n) none shape h = h
may_see s event.Start seen.Nothing none shape h = tt
may_see s (event.Disk (which.Write p) true) (seen.Written n) none shape h = h
may_see s (event.Disk (which.Write p) true) seen.Nothing none shape h = tt
may_see s (event.Disk (which.Write p) false) (seen.WriteKept n) none shape h = h
may_see s (event.Disk (which.Write p) false) (seen.WriteDropped n) none shape h = h
may_see s (event.Disk (which.Write p) false) seen.Nothing none shape h = tt
may_see s (event.Disk (which.Read c) true) (seen.ReadCame p) none shape h = h
may_see s (event.Disk (which.Read c) true) seen.Nothing none shape h = tt
may_see s (event.Disk (which.Read c) false) (seen.ReadFailed p) none shape h = h
may_see s (event.Disk (which.Read c) false) seen.Nothing none shape h = tt
may_see s (event.Tick w) seen.Ticked none shape h = tt
may_see s (event.Tick w) (seen.Asked slab first second) none shape h = h
may_see s (event.Map slab l) seen.Borrowing none shape h = tt
may_see s (event.Map slab l) seen.Nothing none shape h = tt
may_see s (event.Connect l) (seen.Linked n) none shape h = h
may_see s (event.Connect l) seen.Nothing none shape h = tt
may_see s (event.Give l) (seen.Gave m reply evicted) none shape h = (msg_has s m h.0, reply_has s reply h.1, h.2)
may_see s (event.Give l) seen.GaveEnd none shape h = tt
may_see s (event.Give l) (seen.GaveEnded m) none shape h = msg_has s m h
may_see s (event.Give l) seen.Nothing none shape h = tt
may_see s (event.Take l) (seen.Took m) none shape h = msg_has s m h
may_see s (event.Take l) seen.Lost none shape h = tt
may_see s (event.Take l) seen.Lied none shape h = tt
may_see s (event.Take l) seen.Nothing none shape h = tt
may_see s (event.Cut l a b) seen.Cut none shape h = tt
may_see s (event.Cut l a b) seen.Nothing none shape h = tt
may_see s (event.Crash l) seen.Crashed none shape h = tt
may_see s (event.Crash l) seen.Nothing none shape h = tt
may_see s (event.Host l u w) (seen.Hosted mean asked) none shape h = h
may_see s (event.Host l u w) seen.Nothing none shape h = tt
may_see s (event.Round w) (seen.Rounded effects mapped) none shape h = h
may_see s (event.Disk (which.Write q) true) x none shape h = absurd shape
may_see s (event.Disk (which.Write q) false) x none shape h = absurd shape
may_see s (event.Disk (which.Read c) true) x none shape h = absurd shape
may_see s (event.Disk (which.Read c) false) x none shape h = absurd shape
may_see s e x none shape h = absurd shape

-- the page that a result names is one that there is
pub names_page : (s : Sizes) (e : Event) (x : Seen) → Shape (pages_of s) e x → tells_page s (Saw (seen_back s x)) ≡ true
names_page s event.Start (seen.Started p n) shape = lt-ltb p.0 (pages_of s) shape
names_page s (event.Disk (which.Read c) true) (seen.ReadCame p) shape = lt-ltb p.0 (pages_of s) shape
names_page s (event.Disk (which.Read c) false) (seen.ReadFailed p) shape = lt-ltb p.0 (pages_of s) shape
names_page s (event.Disk (which.Write q) true) (seen.Started p n) shape = absurd shape
names_page s (event.Disk (which.Write q) true) (seen.ReadCame p) shape = absurd shape
names_page s (event.Disk (which.Write q) true) (seen.ReadFailed p) shape = absurd shape
names_page s (event.Disk (which.Write q) false) (seen.Started p n) shape = absurd shape
names_page s (event.Disk (which.Write q) false) (seen.ReadCame p) shape = absurd shape
names_page s (event.Disk (which.Write q) false) (seen.ReadFailed p) shape = absurd shape
names_page s (event.Disk (which.Read c) true) (seen.Started p n) shape = absurd shape
names_page s (event.Disk (which.Read c) true) (seen.ReadFailed p) shape = absurd shape
names_page s (event.Disk (which.Read c) false) (seen.Started p n) shape = absurd shape
names_page s (event.Disk (which.Read c) false) (seen.ReadCame p) shape = absurd shape
names_page s e (seen.Started p n) shape = absurd shape
names_page s e (seen.ReadCame p) shape = absurd shape
names_page s e (seen.ReadFailed p) shape = absurd shape
names_page s e x shape = refl
