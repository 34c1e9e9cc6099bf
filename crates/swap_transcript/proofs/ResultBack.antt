-- A result that is printed is read back, and so is a line.
use Rattle.std.proofs.Common.{◌≡◌, ℕ, ◌^◌, ◌<◌, Bool, true, false, cond, eqb, List, [], ◌∷◌, ◌++◌, append_assoc, append-nil, map, Option, None, Some, IfSome, codes, refl, sym, ap, ◌∙◌, arith}
use Rattle.std.specs.Fmt.{decimal}
use Rattle.std.specs.Option.{option_and_then, option_map}
use Rattle.std.proofs.lemmas.Bool.{eqb-true}
use Rattle.swap_base.specs.Sizes.{Sizes}
use Rattle.swap_base.specs.declared.Caller.{Caller}
use Rattle.swap_base.specs.declared.Page.{Page}
use Rattle.swap_base.specs.declared.Slab.{Slab}
use Rattle.swap_base.specs.declared.Lender.{Lender}
use Rattle.swap_base.specs.declared.Via.{Via}
use Rattle.swap_base.specs.declared.Via.TheVariants as via
use Rattle.swap_base.specs.declared.DiskWhich.TheVariants as which
use Rattle.swap_choice.specs.Slots.{slots}
use Rattle.swap_io.specs.Words.{number}
use Rattle.swap_io.proofs.Back.{number_again}
use Rattle.swap_io.proofs.Numbers.{cond_true}
use Rattle.swap_wire.specs.declared.Msg.{Msg}
use Rattle.swap_wire.specs.declared.Msg.TheVariants as msg
use Rattle.swap_wire.specs.declared.Event.{Event}
use Rattle.swap_wire.specs.declared.Event.TheVariants as event
use Rattle.swap_wire.specs.declared.Seen.{Seen}
use Rattle.swap_wire.specs.declared.Seen.TheVariants as seen
use Rattle.swap_record.specs.Text.{op_words}
use Rattle.swap_script.specs.Forms.{small_number}
use Rattle.swap_script.specs.Lines.{is_word}
use Rattle.swap_script.specs.Transcript.{seen_words, msg_name, msg_words, reply_words, evicted_words, slots_behind, sent_words}
use Rattle.swap_transcript.specs.Readers.{Words, small_at, word_at, one_of, whole}
use Rattle.swap_transcript.specs.Messages.{msg_at, HasMsgWords}
use Rattle.swap_transcript.specs.Events.{event_at}
use Rattle.swap_transcript.specs.Told.{Told, Saw, Entered, entry_of}
use Rattle.swap_transcript.specs.Gave.{slots_of, evicted_of, gave_behind}
use Rattle.swap_transcript.specs.Results.{one_number, second_of, hosted_behind, took_of, gave_of, agrees, told_of}
use Rattle.swap_transcript.specs.Printed.{HasViaWords, MaySee, MayTell, HasPairWords, told_words, pair_words}
use Rattle.swap_transcript.specs.Transcripts.{Pair, pair_behind, pair_of}
use Rattle.swap_transcript.proofs.Front.{bound, small-back, small_at-back, one-back, two-back}
use Rattle.swap_transcript.proofs.MsgWords.{msg_at-back}
use Rattle.swap_transcript.proofs.EventWords.{event_at-back}
use Rattle.swap_transcript.proofs.EntryWords.{is_not_decimal}
use Rattle.swap_transcript.proofs.EntryBack.{entry_of-back}
use Rattle.swap_transcript.proofs.SlotWords.{slots_of-back}

-- a number that stands last
last-back : (f : ℕ → Seen) (n : ℕ) → n < 2 ^ 32 → one_number f (decimal n ∷ []) ≡ Some (f n)
last-back f n l = ap (λ o. option_and_then (λ m. Some (f m)) (option_and_then whole o)) (small_at-back n [] l)

-- what a call waits for
via-back :
    (f : Via → Seen) (l : Lender) → l.0 < 2 ^ 32
    → option_and_then (λ v. Some (f v)) (option_and_then whole (one_of (λ n. via.Lender (record { 0 = n })) (decimal l.0 ∷ []))) ≡ Some (f (via.Lender l))
via-back f l h = ap (λ o. option_and_then (λ v. Some (f v)) (option_and_then whole o)) (one-back (λ n. via.Lender (record { 0 = n })) l.0 [] h)

wait-back : (s : Sizes) (c : Caller) (v : Via) → HasViaWords v → told_of s (event.Finish c) (seen_words [] (seen.Wait v)) ≡ Some (Saw (seen.Wait v))
wait-back s c via.Disk h = refl
wait-back s c (via.Lender l) h = ap (option_map Saw) (via-back seen.Wait l h)

wait_in-back :
    (s : Sizes) (c : Caller) (p : Page) (v : Via) → HasViaWords v → told_of s (event.PageIn c p) (seen_words [] (seen.Wait v)) ≡ Some (Saw (seen.Wait v))
wait_in-back s c p via.Disk h = refl
wait_in-back s c p (via.Lender l) h = ap (option_map Saw) (via-back seen.Wait l h)

again-back : (s : Sizes) (c : Caller) (v : Via) → HasViaWords v → told_of s (event.Finish c) (seen_words [] (seen.Again v)) ≡ Some (Saw (seen.Again v))
again-back s c via.Disk h = refl
again-back s c (via.Lender l) h = ap (option_map Saw) (via-back seen.Again l h)

asked-back :
    (s : Sizes) (w : ℕ) (slab : Slab) (first : Lender) (second : Option Lender) → MaySee s (event.Tick w) (seen.Asked slab first second)
    → told_of s (event.Tick w) (seen_words [] (seen.Asked slab first second)) ≡ Some (Saw (seen.Asked slab first second))
asked-back s w slab first None h =
    ap (option_map Saw)
    (bound (small_at (decimal slab.0 ∷ decimal first.0 ∷ [])) (λ a. option_and_then (λ b. second_of a.0 b.0 b.1) (small_at a.1)) (slab.0, decimal first.0 ∷ [])
    (small_at-back slab.0 (decimal first.0 ∷ []) h.0)
    ∙ bound (small_at (decimal first.0 ∷ [])) (λ b. second_of slab.0 b.0 b.1) (first.0, []) (small_at-back first.0 [] h.1))
asked-back s w slab first (Some second) h =
    ap (option_map Saw)
    (bound (small_at (decimal slab.0 ∷ decimal first.0 ∷ decimal second.0 ∷ [])) (λ a. option_and_then (λ b. second_of a.0 b.0 b.1) (small_at a.1))
    (slab.0, decimal first.0 ∷ decimal second.0 ∷ []) (small_at-back slab.0 (decimal first.0 ∷ decimal second.0 ∷ []) h.0)
    ∙ bound (small_at (decimal first.0 ∷ decimal second.0 ∷ [])) (λ b. second_of slab.0 b.0 b.1) (first.0, decimal second.0 ∷ [])
    (small_at-back first.0 (decimal second.0 ∷ []) h.1)
    ∙ last-back (λ n. seen.Asked slab first (Some (record { 0 = n }))) second.0 h.2)

-- no message begins as another result does
abbrev Apart : List ℕ → Type 0
Apart name =
    (is_word (codes "entry") name ≡ false) × (is_word (codes "end") name ≡ false) × (is_word (codes "-") name ≡ false) × (is_word (codes "lost") name ≡ false)
    × (is_word (codes "lied") name ≡ false)

apart : (m : Msg) → Apart (msg_name m)
apart (msg.Hello version page_bytes pages_per_slab) = (refl, refl, refl, refl, refl)
apart (msg.Query n) = (refl, refl, refl, refl, refl)
apart (msg.Borrow n) = (refl, refl, refl, refl, refl)
apart (msg.Write k i) = (refl, refl, refl, refl, refl)
apart (msg.Read k i) = (refl, refl, refl, refl, refl)
apart (msg.Rates k v) = (refl, refl, refl, refl, refl)
apart (msg.Done k) = (refl, refl, refl, refl, refl)
apart (msg.Room n free) = (refl, refl, refl, refl, refl)
apart (msg.Lent n k) = (refl, refl, refl, refl, refl)
apart (msg.Refused n) = (refl, refl, refl, refl, refl)
apart (msg.Wrote k i) = (refl, refl, refl, refl, refl)
apart (msg.PageIs k i) = (refl, refl, refl, refl, refl)
apart (msg.AskRates k) = (refl, refl, refl, refl, refl)
apart (msg.Evict k) = (refl, refl, refl, refl, refl)

else_if : {A : Type 0} (b : Bool) (x y : A) → b ≡ false → cond b x y ≡ y
else_if true x y e = cc
else_if false x y e = refl

-- what a lender did with a message is read behind the message
give-at :
    (s : Sizes) (l : Lender) (word : List ℕ) (words : Words) → Apart word → told_of s (event.Give l) (word ∷ words) ≡ option_map Saw (gave_of s word words)
give-at s l word words h =
    else_if (is_word (codes "entry") word) _ _ h.0
    ∙ ap (option_map Saw) (else_if (is_word (codes "end") word) _ _ h.1 ∙ else_if (is_word (codes "-") word) _ _ h.2)

take-at :
    (s : Sizes) (l : Lender) (word : List ℕ) (words : Words) → Apart word → told_of s (event.Take l) (word ∷ words) ≡ option_map Saw (took_of s word words)
take-at s l word words h =
    else_if (is_word (codes "entry") word) _ _ h.0
    ∙ ap (option_map Saw)
    (else_if (is_word (codes "lost") word) _ _ h.3 ∙ else_if (is_word (codes "lied") word) _ _ h.4 ∙ else_if (is_word (codes "-") word) _ _ h.2)

give-behind :
    (s : Sizes) (l : Lender) (m : Msg) (words : Words) → HasMsgWords s m
    → told_of s (event.Give l) (msg_words m ++ words) ≡ option_map Saw (gave_behind s m words)
give-behind s l m words h =
    give-at s l (msg_name m) _ (apart m)
    ∙ ap (option_map Saw) (bound (msg_at s (msg_words m ++ words)) (λ x. gave_behind s x.0 x.1) (m, words) (msg_at-back s m words h))

evicted_if :
    (m : Msg) (reply : Option Msg) (set : ℕ) (b : Bool) → set < 2 ^ 64 → eqb set 0 ≡ b
    → evicted_of m reply (cond b [] (codes "evict" ∷ map decimal (slots set))) ≡ Some (seen.Gave m reply set)
evicted_if m reply set true l is = ap (λ n. Some (seen.Gave m reply n)) (sym (eqb-true set 0 is))
evicted_if m reply set false l is = bound (slots_of (map decimal (slots set))) (λ n. Some (seen.Gave m reply n)) set (slots_of-back set l is)

behind_if :
    (s : Sizes) (m : Msg) (set : ℕ) (b : Bool) → set < 2 ^ 64 → eqb set 0 ≡ b
    → gave_behind s m (cond b [] (codes "evict" ∷ map decimal (slots set))) ≡ Some (seen.Gave m None set)
behind_if s m set true l is = evicted_if m None set true l is
behind_if s m set false l is = evicted_if m None set false l is

gave-back :
    (s : Sizes) (m : Msg) (reply : Option Msg) (set : ℕ) → IfSome reply (HasMsgWords s) → set < 2 ^ 64
    → gave_behind s m (reply_words reply ++ evicted_words set) ≡ Some (seen.Gave m reply set)
gave-back s m None set h l = behind_if s m set (eqb set 0) l refl
gave-back s m (Some r) set h l =
    bound (msg_at s (msg_words r ++ evicted_words set)) (λ x. evicted_of m (Some x.0) x.1) (r, evicted_words set) (msg_at-back s r (evicted_words set) h)
    ∙ evicted_if m (Some r) set (eqb set 0) l refl

hosted_if :
    (mean set : ℕ) (b : Bool) → set < 2 ^ 64 → eqb set 0 ≡ b
    → hosted_behind mean (cond b [] (codes "ask" ∷ map decimal (slots set))) ≡ Some (seen.Hosted mean set)
hosted_if mean set true l is = ap (λ n. Some (seen.Hosted mean n)) (sym (eqb-true set 0 is))
hosted_if mean set false l is = bound (slots_of (map decimal (slots set))) (λ n. Some (seen.Hosted mean n)) set (slots_of-back set l is)

hosted-back :
    (s : Sizes) (l : Lender) (u w mean set : ℕ) → mean < 2 ^ 64 → set < 2 ^ 64
    → told_of s (event.Host l u w) (decimal mean ∷ slots_behind (codes "ask") set) ≡ Some (Saw (seen.Hosted mean set))
hosted-back s l u w mean set lm ls =
    else_if (is_word (codes "entry") (decimal mean)) _ _ (is_not_decimal (codes "entry") mean refl lm)
    ∙ ap (option_map Saw) (else_if (is_word (codes "-") (decimal mean)) _ _ (is_not_decimal (codes "-") mean refl lm)
    ∙ bound (number (decimal mean)) (λ n. hosted_behind n (slots_behind (codes "ask") set)) mean (number_again mean lm)
    ∙ hosted_if mean set (eqb set 0) ls refl)

rounded-back :
    (s : Sizes) (w effects mapped : ℕ) → effects < 2 ^ 32 → mapped < 2 ^ 32
    → told_of s (event.Round w) (decimal effects ∷ codes "mapped" ∷ decimal mapped ∷ []) ≡ Some (Saw (seen.Rounded effects mapped))
rounded-back s w effects mapped le lm =
    else_if (is_word (codes "entry") (decimal effects)) _ _ (is_not_decimal (codes "entry") effects refl (omega arith))
    ∙ ap (option_map Saw)
    (bound (small_number (decimal effects))
    (λ n. option_and_then (λ behind. one_number (λ m. seen.Rounded n m) behind) (word_at (codes "mapped") (codes "mapped" ∷ decimal mapped ∷ []))) effects
    (small-back effects le)
    ∙ last-back (λ m. seen.Rounded effects m) mapped lm)

seen-back : (s : Sizes) (e : Event) (x : Seen) → MaySee s e x → told_of s e (seen_words [] x) ≡ Some (Saw x)
seen-back s (event.PageOut c p) seen.Room h = refl
seen-back s (event.PageOut c p) seen.Busy h = refl
seen-back s (event.PageOut c p) x h = absurd h
seen-back s (event.PageIn c p) (seen.Wait v) h = wait_in-back s c p v h
seen-back s (event.PageIn c p) seen.Busy h = refl
seen-back s (event.PageIn c p) x h = absurd h
seen-back s (event.Finish c) seen.Idle h = refl
seen-back s (event.Finish c) (seen.Wait v) h = wait-back s c v h
seen-back s (event.Finish c) seen.Room h = refl
seen-back s (event.Finish c) (seen.Again v) h = again-back s c v h
seen-back s (event.Finish c) x h = absurd h
seen-back s event.Start (seen.Started p e) h =
    ap (λ o. option_map Saw (option_and_then whole o)) (two-back (λ p e. seen.Started (record { 0 = p }) (record { 0 = e })) p.0 e.0 [] h.0 h.1)
seen-back s event.Start seen.Nothing h = refl
seen-back s event.Start x h = absurd h
seen-back s (event.Disk (which.Write p) true) (seen.Written e) h = ap (option_map Saw) (last-back (λ n. seen.Written (record { 0 = n })) e.0 h)
seen-back s (event.Disk (which.Write p) true) seen.Nothing h = refl
seen-back s (event.Disk (which.Write p) true) x h = absurd h
seen-back s (event.Disk (which.Write p) false) (seen.WriteKept e) h = ap (option_map Saw) (last-back (λ n. seen.WriteKept (record { 0 = n })) e.0 h)
seen-back s (event.Disk (which.Write p) false) (seen.WriteDropped e) h = ap (option_map Saw) (last-back (λ n. seen.WriteDropped (record { 0 = n })) e.0 h)
seen-back s (event.Disk (which.Write p) false) seen.Nothing h = refl
seen-back s (event.Disk (which.Write p) false) x h = absurd h
seen-back s (event.Disk (which.Read c) true) (seen.ReadCame p) h = ap (option_map Saw) (last-back (λ n. seen.ReadCame (record { 0 = n })) p.0 h)
seen-back s (event.Disk (which.Read c) true) seen.Nothing h = refl
seen-back s (event.Disk (which.Read c) true) x h = absurd h
seen-back s (event.Disk (which.Read c) false) (seen.ReadFailed p) h = ap (option_map Saw) (last-back (λ n. seen.ReadFailed (record { 0 = n })) p.0 h)
seen-back s (event.Disk (which.Read c) false) seen.Nothing h = refl
seen-back s (event.Disk (which.Read c) false) x h = absurd h
seen-back s (event.Tick w) seen.Ticked h = refl
seen-back s (event.Tick w) (seen.Asked slab first second) h = asked-back s w slab first second h
seen-back s (event.Tick w) x h = absurd h
seen-back s (event.Map slab l) seen.Borrowing h = refl
seen-back s (event.Map slab l) seen.Nothing h = refl
seen-back s (event.Map slab l) x h = absurd h
seen-back s (event.Connect l) (seen.Linked n) h = ap (option_map Saw) (last-back (λ k. seen.Linked (record { 0 = k })) n.0 h)
seen-back s (event.Connect l) seen.Nothing h = refl
seen-back s (event.Connect l) x h = absurd h
seen-back s (event.Give l) (seen.Gave m reply evicted) h =
    ap (told_of s (event.Give l)) (append_assoc (msg_words m) (reply_words reply) (evicted_words evicted))
    ∙ give-behind s l m (reply_words reply ++ evicted_words evicted) h.0 ∙ ap (option_map Saw) (gave-back s m reply evicted h.1 h.2)
seen-back s (event.Give l) seen.GaveEnd h = refl
seen-back s (event.Give l) (seen.GaveEnded m) h = give-behind s l m (codes "ended" ∷ []) h
seen-back s (event.Give l) seen.Nothing h = refl
seen-back s (event.Give l) x h = absurd h
seen-back s (event.Take l) (seen.Took m) h =
    ap (told_of s (event.Take l)) (sym (append-nil (msg_words m))) ∙ take-at s l (msg_name m) _ (apart m)
    ∙ ap (λ o. option_map Saw (option_and_then (λ x. option_and_then (λ msg. Some (seen.Took msg)) (whole x)) o)) (msg_at-back s m [] h)
seen-back s (event.Take l) seen.Lost h = refl
seen-back s (event.Take l) seen.Lied h = refl
seen-back s (event.Take l) seen.Nothing h = refl
seen-back s (event.Take l) x h = absurd h
seen-back s (event.Cut l a b) seen.Cut h = refl
seen-back s (event.Cut l a b) seen.Nothing h = refl
seen-back s (event.Cut l a b) x h = absurd h
seen-back s (event.Crash l) seen.Crashed h = refl
seen-back s (event.Crash l) seen.Nothing h = refl
seen-back s (event.Crash l) x h = absurd h
seen-back s (event.Host l u w) (seen.Hosted mean asked) h = hosted-back s l u w mean asked h.0 h.1
seen-back s (event.Host l u w) seen.Nothing h = refl
seen-back s (event.Host l u w) x h = absurd h
seen-back s (event.Round w) (seen.Rounded effects mapped) h = rounded-back s w effects mapped h.0 h.1
seen-back s (event.Round w) x h = absurd h

pub told_of-back : (s : Sizes) (e : Event) (t : Told) → MayTell s e t → told_of s e (told_words t) ≡ Some t
told_of-back s e (Saw x) h = seen-back s e x h
told_of-back s e (Entered shown) h =
    bound (entry_of s.page_bytes (decimal shown.no.0 ∷ (op_words shown.page.0 shown.bytes shown.op ++ sent_words shown.sent)))
    (λ x. cond (agrees e x) (Some (Entered x)) None) shown (entry_of-back s.page_bytes shown h.1)
    ∙ cond_true (agrees e shown) (Some (Entered shown)) None h.0

pub pair_of-back : (s : Sizes) (pair : Pair) → HasPairWords s pair → pair_of s (pair_words pair) ≡ Some pair
pair_of-back s pair h =
    bound (event_at (pair_words pair)) (λ e. pair_behind s e.0 e.1) (pair.event, codes "=" ∷ told_words pair.told)
    (event_at-back pair.event (codes "=" ∷ told_words pair.told) h.event)
    ∙ bound (told_of s pair.event (told_words pair.told)) (λ told. Some (record { event = pair.event; told = told })) pair.told
    (told_of-back s pair.event pair.told h.told)
