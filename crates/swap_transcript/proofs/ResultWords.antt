-- What is read of a result is what its words print.
use Rattle.std.proofs.Common.{◌≡◌, ℕ, ◌^◌, ◌<◌, Bool, true, false, cond, List, [], ◌∷◌, ◌++◌, append_assoc, append-nil, map, Option, None, Some, IfSome, codes, refl, sym, ap, subst, ◌∙◌, arith}
use Rattle.std.specs.Fmt.{decimal}
use Rattle.std.specs.List.{AllByRecursion}
use Rattle.std.specs.Option.{option_and_then, option_map}
use Rattle.std.proofs.lemmas.Option.{cond_some}
use Rattle.std.proofs.lemmas.Slice.Eq.{bytes_eq-Decides}
use Rattle.swap_base.specs.Sizes.{Sizes}
use Rattle.swap_base.specs.declared.Lender.{Lender}
use Rattle.swap_base.specs.declared.Via.{Via}
use Rattle.swap_base.specs.declared.DiskWhich.TheVariants as which
use Rattle.swap_choice.specs.Slots.{slots}
use Rattle.swap_io.specs.Words.{number}
use Rattle.swap_io.proofs.Back.{number_one}
use Rattle.swap_script.specs.Forms.{small_number}
use Rattle.swap_script.specs.Lines.{is_word}
use Rattle.swap_script.specs.Transcript.{seen_words, via_words, msg_words, reply_words, evicted_words, slots_behind, event_words}
use Rattle.swap_wire.specs.declared.Msg.{Msg}
use Rattle.swap_wire.specs.declared.Event.{Event}
use Rattle.swap_wire.specs.declared.Event.TheVariants as event
use Rattle.swap_wire.specs.declared.Seen.{Seen}
use Rattle.swap_wire.specs.declared.Seen.TheVariants as seen
use Rattle.swap_transcript.specs.Readers.{Words, word_at, small_at, two_of, row, by_row, by_rows, whole}
use Rattle.swap_transcript.specs.Messages.{msg_rows, msg_at, HasMsgWords}
use Rattle.swap_transcript.specs.Events.{event_at}
use Rattle.swap_transcript.specs.Told.{Told, Saw, Entered, entry_of}
use Rattle.swap_transcript.specs.Gave.{slots_of, evicted_of, reply_of, ended_of, gave_behind}
use Rattle.swap_transcript.specs.Results.{bare_result, last_number, one_number, two_numbers, via_rows, via_of, wait_of, again_of, second_of, asked_of, hosted_behind, hosted_of, rounded_of, took_of, gave_of, out_rows, in_rows, finish_rows, start_rows, disk_rows, tick_rows, map_rows, connect_rows, cut_rows, crash_rows, give_rows, take_rows, nothing_rows, seen_of, agrees, entered_at, told_of}
use Rattle.swap_transcript.specs.Printed.{HasViaWords, MaySee, MayTell, HasPairWords, told_words, pair_words}
use Rattle.swap_transcript.specs.Transcripts.{Pair, pair_behind, pair_of}
use Rattle.swap_transcript.proofs.Front.{bind_some, small-only, small_at-only, RowSays, Prints, from-row, one-row, by_row-only, by_row_or-only, by_rows-only, two-only, Number}
use Rattle.swap_transcript.proofs.MsgWords.{msg_rows-only, msg_at-only}
use Rattle.swap_transcript.proofs.EventWords.{event_at-only}
use Rattle.swap_transcript.proofs.EntryWords.{word_at-only}
use Rattle.swap_transcript.proofs.EntryBack.{cond_then, entry_of-only}
use Rattle.swap_transcript.proofs.SlotWords.{slots_of-only}

-- words are those of a result that an event may have
abbrev pub Sees : Sizes → Event → Words → Seen → Type 0
Sees s e words seen = MaySee s e seen × (words ≡ seen_words [] seen)

whole-only : {A : Type 0} (x : A × Words) (a : A) → whole x ≡ Some a → x ≡ (a, [])
whole-only (b, []) a e =
    let same : b ≡ a = cc in
    ap (λ y. (y, [])) same
whole-only (b, word ∷ words) a e = cc

bare-row : (s : Sizes) (e : Event) (name : List ℕ) (o : Seen) → name ∷ [] ≡ seen_words [] o → MaySee s e o → RowSays (Sees s e) (row name (bare_result o))
bare-row s e name o spells may [] x is =
    let same : o ≡ x = cc in
    subst (Sees s e (name ∷ [])) same (may, spells)
bare-row s e name o spells may (word ∷ words) x is = cc

last_number-only : (words : Words) (n : ℕ) → last_number words ≡ Some n → Number (2 ^ 32) words n []
last_number-only words n e =
    let a = bind_some (small_at words) whole n e in
    subst (λ y. Number (2 ^ 32) words y.0 y.1) (whole-only a.0 n a.2) (small_at-only words a.0 a.1)

number-row :
    (s : Sizes) (e : Event) (name : List ℕ) (f : ℕ → Seen) → ((n : ℕ) → name ∷ decimal n ∷ [] ≡ seen_words [] (f n)) → ((n : ℕ) → n < 2 ^ 32 → MaySee s e (f n))
    → RowSays (Sees s e) (row name (one_number f))
number-row s e name f spells fits words x is =
    let n = bind_some (last_number words) (λ n. Some (f n)) x is in
    let one = last_number-only words n.0 n.1 in
    let same : f n.0 ≡ x = cc in
    subst (Sees s e (name ∷ words)) same (fits n.0 one.within, ap (λ w. name ∷ w) one.spelled ∙ spells n.0)

numbers-row :
    (s : Sizes) (e : Event) (name : List ℕ) (f : ℕ → ℕ → Seen) → ((a b : ℕ) → name ∷ decimal a ∷ decimal b ∷ [] ≡ seen_words [] (f a b))
    → ((a b : ℕ) → a < 2 ^ 32 → b < 2 ^ 32 → MaySee s e (f a b)) → RowSays (Sees s e) (row name (two_numbers f))
numbers-row s e name f spells fits words x is =
    let t = bind_some (two_of f words) whole x is in
    let two = two-only f words t.0 t.1 in
    let end = whole-only t.0 x t.2 in
    let same : f two.a two.b ≡ x = sym two.is ∙ ap (λ y. y.0) end in
    subst (Sees s e (name ∷ words)) same
    (fits two.a two.b two.a_within two.b_within, ap (λ w. name ∷ w) (two.spelled ∙ ap (λ y. decimal two.a ∷ decimal two.b ∷ y.1) end) ∙ spells two.a two.b)

-- what a call waits for
via_rows-only : AllByRecursion (RowSays (Prints via_words HasViaWords)) via_rows
via_rows-only = (from-row via_words HasViaWords _ _ refl tt, (one-row via_words HasViaWords _ _ (λ n. refl) (λ n l. l), tt))

via_of-only : (words : Words) (v : Via) → via_of words ≡ Some v → HasViaWords v × (words ≡ via_words v)
via_of-only words v e =
    let x = bind_some (by_rows via_rows words) whole v e in
    let one = by_rows-only (Prints via_words HasViaWords) via_rows via_rows-only words x.0 x.1 in
    let end = whole-only x.0 v x.2 in
    let read = subst (Prints via_words HasViaWords words) end one in
    (read.0, read.1 ∙ append-nil (via_words v))

wait-row : (s : Sizes) (e : Event) → ((v : Via) → HasViaWords v → MaySee s e (seen.Wait v)) → RowSays (Sees s e) (row (codes "wait") wait_of)
wait-row s e may words x is =
    let v = bind_some (via_of words) (λ v. Some (seen.Wait v)) x is in
    let one = via_of-only words v.0 v.1 in
    let same : seen.Wait v.0 ≡ x = cc in
    subst (Sees s e (codes "wait" ∷ words)) same (may v.0 one.0, ap (λ w. codes "wait" ∷ w) one.1)

again-row : (s : Sizes) (e : Event) → ((v : Via) → HasViaWords v → MaySee s e (seen.Again v)) → RowSays (Sees s e) (row (codes "again") again_of)
again-row s e may words x is =
    let v = bind_some (via_of words) (λ v. Some (seen.Again v)) x is in
    let one = via_of-only words v.0 v.1 in
    let same : seen.Again v.0 ≡ x = cc in
    subst (Sees s e (codes "again" ∷ words)) same (may v.0 one.0, ap (λ w. codes "again" ∷ w) one.1)

-- whom a tick asked
second-only :
    (s : Sizes) (w slab first : ℕ) (words : Words) (x : Seen) → slab < 2 ^ 32 → first < 2 ^ 32 → second_of slab first words ≡ Some x
    → Sees s (event.Tick w) (codes "ask" ∷ decimal slab ∷ decimal first ∷ words) x
second-only s w slab first [] x ls lf is =
    let same : seen.Asked (record { 0 = slab }) (record { 0 = first }) None ≡ x = cc in
    subst (Sees s (event.Tick w) (codes "ask" ∷ decimal slab ∷ decimal first ∷ [])) same ((ls, lf, tt), refl)
second-only s w slab first (word ∷ words) x ls lf is =
    let n = bind_some (last_number (word ∷ words)) (λ n. Some (seen.Asked (record { 0 = slab }) (record { 0 = first }) (Some (record { 0 = n })))) x is in
    let one = last_number-only (word ∷ words) n.0 n.1 in
    let same : seen.Asked (record { 0 = slab }) (record { 0 = first }) (Some (record { 0 = n.0 })) ≡ x = cc in
    subst (Sees s (event.Tick w) (codes "ask" ∷ decimal slab ∷ decimal first ∷ word ∷ words)) same
    ((ls, lf, one.within), ap (λ r. codes "ask" ∷ decimal slab ∷ decimal first ∷ r) one.spelled)

asked-row : (s : Sizes) (w : ℕ) → RowSays (Sees s (event.Tick w)) (row (codes "ask") asked_of)
asked-row s w words x is =
    let slab = bind_some (small_at words) (λ a. option_and_then (λ b. second_of a.0 b.0 b.1) (small_at a.1)) x is in
    let first = bind_some (small_at slab.0.1) (λ b. second_of slab.0.0 b.0 b.1) x slab.2 in
    let one = small_at-only words slab.0 slab.1 in
    let two = small_at-only slab.0.1 first.0 first.1 in
    subst (λ r. Sees s (event.Tick w) (codes "ask" ∷ r) x) (sym (one.spelled ∙ ap (λ r. decimal slab.0.0 ∷ r) two.spelled))
    (second-only s w slab.0.0 first.0.0 first.0.1 x one.within two.within first.2)

-- what a lender did with a message
evicted_of-only :
    (s : Sizes) (l : Lender) (m : Msg) (reply : Option Msg) (words : Words) (x : Seen) → HasMsgWords s m → IfSome reply (HasMsgWords s)
    → evicted_of m reply words ≡ Some x → Sees s (event.Give l) (msg_words m ++ (reply_words reply ++ words)) x
evicted_of-only s l m reply [] x hm hr is =
    let same : seen.Gave m reply 0 ≡ x = cc in
    subst (Sees s (event.Give l) (msg_words m ++ (reply_words reply ++ []))) same
    ((hm, hr, omega arith), sym (append_assoc (msg_words m) (reply_words reply) []))
evicted_of-only s l m reply (word ∷ words) x hm hr is =
    let c = cond_then (is_word (codes "evict") word) (option_and_then (λ set. Some (seen.Gave m reply set)) (slots_of words)) x is in
    let set = bind_some (slots_of words) (λ set. Some (seen.Gave m reply set)) x c.1 in
    let slot = slots_of-only words set.0 set.1 in
    let same : seen.Gave m reply set.0 ≡ x = cc in
    let spelled : word ∷ words ≡ evicted_words set.0 =
    ap (λ w. w ∷ words) (sym ((bytes_eq-Decides (codes "evict") word).0 c.0)) ∙ ap (λ w. codes "evict" ∷ w) slot.spelled
    ∙ sym (ap (λ b. cond b [] (codes "evict" ∷ map decimal (slots set.0))) slot.some) in
    subst (Sees s (event.Give l) (msg_words m ++ (reply_words reply ++ word ∷ words))) same (
      (hm, hr, slot.small),
      ap (λ r. msg_words m ++ (reply_words reply ++ r)) spelled ∙ sym (append_assoc (msg_words m) (reply_words reply) (evicted_words set.0)),
    )

reply_of-only :
    (s : Sizes) (l : Lender) (m : Msg) (words : Words) (x : Seen) → HasMsgWords s m → reply_of s m words ≡ Some x
    → Sees s (event.Give l) (msg_words m ++ codes ">" ∷ words) x
reply_of-only s l m words x hm is =
    let reply = bind_some (msg_at s words) (λ reply. evicted_of m (Some reply.0) reply.1) x is in
    let one = msg_at-only s words reply.0 reply.1 in
    subst (λ r. Sees s (event.Give l) (msg_words m ++ codes ">" ∷ r) x) (sym one.1) (evicted_of-only s l m (Some reply.0.0) reply.0.1 x hm one.0 reply.2)

ended_of-only :
    (s : Sizes) (l : Lender) (m : Msg) (words : Words) (x : Seen) → HasMsgWords s m → ended_of m words ≡ Some x
    → Sees s (event.Give l) (msg_words m ++ codes "ended" ∷ words) x
ended_of-only s l m [] x hm is =
    let same : seen.GaveEnded m ≡ x = cc in
    subst (Sees s (event.Give l) (msg_words m ++ codes "ended" ∷ [])) same (hm, refl)
ended_of-only s l m (word ∷ words) x hm is = cc

behind_if :
    (s : Sizes) (l : Lender) (m : Msg) (word : List ℕ) (words : Words) (x : Seen) (b c : Bool) → HasMsgWords s m → is_word (codes ">") word ≡ b
    → is_word (codes "ended") word ≡ c → cond b (reply_of s m words) (cond c (ended_of m words) (evicted_of m None (word ∷ words))) ≡ Some x
    → Sees s (event.Give l) (msg_words m ++ word ∷ words) x
behind_if s l m word words x true c hm is other e =
    subst (λ w. Sees s (event.Give l) (msg_words m ++ w ∷ words) x) ((bytes_eq-Decides (codes ">") word).0 is) (reply_of-only s l m words x hm e)
behind_if s l m word words x false true hm is other e =
    subst (λ w. Sees s (event.Give l) (msg_words m ++ w ∷ words) x) ((bytes_eq-Decides (codes "ended") word).0 other) (ended_of-only s l m words x hm e)
behind_if s l m word words x false false hm is other e = evicted_of-only s l m None (word ∷ words) x hm tt e

gave_behind-only :
    (s : Sizes) (l : Lender) (m : Msg) (words : Words) (x : Seen) → HasMsgWords s m → gave_behind s m words ≡ Some x
    → Sees s (event.Give l) (msg_words m ++ words) x
gave_behind-only s l m [] x hm is =
    let same : seen.Gave m None 0 ≡ x = cc in
    subst (Sees s (event.Give l) (msg_words m ++ [])) same ((hm, tt, omega arith), sym (append-nil (msg_words m ++ [])))
gave_behind-only s l m (word ∷ words) x hm is = behind_if s l m word words x (is_word (codes ">") word) (is_word (codes "ended") word) hm refl refl is

gave_of-only : (s : Sizes) (l : Lender) (word : List ℕ) (words : Words) (x : Seen) → gave_of s word words ≡ Some x → Sees s (event.Give l) (word ∷ words) x
gave_of-only s l word words x is =
    let m = bind_some (by_row (msg_rows s) word words) (λ m. gave_behind s m.0 m.1) x is in
    let one = by_row-only (Prints msg_words (HasMsgWords s)) (msg_rows s) (msg_rows-only s) word words m.0 m.1 in
    subst (λ r. Sees s (event.Give l) r x) (sym one.1) (gave_behind-only s l m.0.0 m.0.1 x one.0 m.2)

took_of-only : (s : Sizes) (l : Lender) (word : List ℕ) (words : Words) (x : Seen) → took_of s word words ≡ Some x → Sees s (event.Take l) (word ∷ words) x
took_of-only s l word words x is =
    let m = bind_some (by_row (msg_rows s) word words) (λ m. option_and_then (λ msg. Some (seen.Took msg)) (whole m)) x is in
    let msg = bind_some (whole m.0) (λ msg. Some (seen.Took msg)) x m.2 in
    let one = by_row-only (Prints msg_words (HasMsgWords s)) (msg_rows s) (msg_rows-only s) word words m.0 m.1 in
    let read = subst (Prints msg_words (HasMsgWords s) (word ∷ words)) (whole-only m.0 msg.0 msg.1) one in
    let same : seen.Took msg.0 ≡ x = cc in
    subst (Sees s (event.Take l) (word ∷ words)) same (read.0, read.1 ∙ append-nil (msg_words msg.0))

-- the mean of a host, and the slots that were asked
hosted_behind-only :
    (s : Sizes) (l : Lender) (u w mean : ℕ) (words : Words) (x : Seen) → mean < 2 ^ 64 → hosted_behind mean words ≡ Some x
    → Sees s (event.Host l u w) (decimal mean ∷ words) x
hosted_behind-only s l u w mean [] x lm is =
    let same : seen.Hosted mean 0 ≡ x = cc in
    subst (Sees s (event.Host l u w) (decimal mean ∷ [])) same ((lm, omega arith), refl)
hosted_behind-only s l u w mean (word ∷ words) x lm is =
    let c = cond_then (is_word (codes "ask") word) (option_and_then (λ set. Some (seen.Hosted mean set)) (slots_of words)) x is in
    let set = bind_some (slots_of words) (λ set. Some (seen.Hosted mean set)) x c.1 in
    let slot = slots_of-only words set.0 set.1 in
    let same : seen.Hosted mean set.0 ≡ x = cc in
    let spelled : word ∷ words ≡ slots_behind (codes "ask") set.0 =
    ap (λ w. w ∷ words) (sym ((bytes_eq-Decides (codes "ask") word).0 c.0)) ∙ ap (λ w. codes "ask" ∷ w) slot.spelled
    ∙ sym (ap (λ b. cond b [] (codes "ask" ∷ map decimal (slots set.0))) slot.some) in
    subst (Sees s (event.Host l u w) (decimal mean ∷ word ∷ words)) same ((lm, slot.small), ap (λ r. decimal mean ∷ r) spelled)

hosted_of-only :
    (s : Sizes) (l : Lender) (u w : ℕ) (word : List ℕ) (words : Words) (x : Seen) → hosted_of word words ≡ Some x → Sees s (event.Host l u w) (word ∷ words) x
hosted_of-only s l u w word words x is =
    let mean = bind_some (number word) (λ mean. hosted_behind mean words) x is in
    let one = number_one word mean.0 mean.1 in
    subst (λ r. Sees s (event.Host l u w) (r ∷ words) x) (sym one.0) (hosted_behind-only s l u w mean.0 words x one.1 mean.2)

rounded_of-only : (s : Sizes) (w : ℕ) (word : List ℕ) (words : Words) (x : Seen) → rounded_of word words ≡ Some x → Sees s (event.Round w) (word ∷ words) x
rounded_of-only s w word words x is =
    let effects =
    bind_some (small_number word)
    (λ effects. option_and_then (λ behind. one_number (λ mapped. seen.Rounded effects mapped) behind) (word_at (codes "mapped") words)) x is in
    let behind = bind_some (word_at (codes "mapped") words) (λ behind. one_number (λ mapped. seen.Rounded effects.0 mapped) behind) x effects.2 in
    let mapped = bind_some (last_number behind.0) (λ mapped. Some (seen.Rounded effects.0 mapped)) x behind.2 in
    let first = small-only word effects.0 effects.1 in
    let last = last_number-only behind.0 mapped.0 mapped.1 in
    let same : seen.Rounded effects.0 mapped.0 ≡ x = cc in
    subst (Sees s (event.Round w) (word ∷ words)) same (
      (first.1, last.within),
      ap (λ r. r ∷ words) first.0
          ∙ ap (λ r. decimal effects.0 ∷ r) (word_at-only (codes "mapped") words behind.0 behind.1 ∙ ap (λ r. codes "mapped" ∷ r) last.spelled),
    )

-- each kind of event
seen_of-only : (s : Sizes) (e : Event) (word : List ℕ) (words : Words) (x : Seen) → seen_of s e word words ≡ Some x → Sees s e (word ∷ words) x
seen_of-only s (event.PageOut c p) word words x is =
    by_row-only (Sees s (event.PageOut c p)) out_rows (
      bare-row s (event.PageOut c p) (codes "room") seen.Room refl tt,
      (
        bare-row s (event.PageOut c p) (codes "busy") seen.Busy refl tt,
        tt,
      ),
    ) word words x is
seen_of-only s (event.PageIn c p) word words x is =
    by_row-only (Sees s (event.PageIn c p)) in_rows (
      wait-row s (event.PageIn c p) (λ v h. h),
      (
        bare-row s (event.PageIn c p) (codes "busy") seen.Busy refl tt,
        tt,
      ),
    ) word words x is
seen_of-only s (event.Finish c) word words x is =
    by_row-only (Sees s (event.Finish c)) finish_rows (
      bare-row s (event.Finish c) (codes "idle") seen.Idle refl tt,
      (
        wait-row s (event.Finish c) (λ v h. h),
        (
          bare-row s (event.Finish c) (codes "room") seen.Room refl tt,
          (
            again-row s (event.Finish c) (λ v h. h),
            tt,
          ),
        ),
      ),
    ) word words x is
seen_of-only s event.Start word words x is =
    by_row-only (Sees s event.Start) start_rows (
      numbers-row s event.Start (codes "write") (λ p e. seen.Started (record { 0 = p }) (record { 0 = e })) (λ a b. refl) (λ a b la lb. (la, lb)),
      (
        bare-row s event.Start (codes "-") seen.Nothing refl tt,
        tt,
      ),
    ) word words x is
seen_of-only s (event.Disk (which.Write p) true) word words x is =
    by_row-only (Sees s (event.Disk (which.Write p) true)) (disk_rows (which.Write p) true) (
      number-row s (event.Disk (which.Write p) true) (codes "written") (λ n. seen.Written (record { 0 = n })) (λ n. refl) (λ n l. l),
      (
        bare-row s (event.Disk (which.Write p) true) (codes "-") seen.Nothing refl tt,
        tt,
      ),
    ) word words x is
seen_of-only s (event.Disk (which.Write p) false) word words x is =
    by_row-only (Sees s (event.Disk (which.Write p) false)) (disk_rows (which.Write p) false) (
      number-row s (event.Disk (which.Write p) false) (codes "kept") (λ n. seen.WriteKept (record { 0 = n })) (λ n. refl) (λ n l. l),
      (
        number-row s (event.Disk (which.Write p) false) (codes "dropped") (λ n. seen.WriteDropped (record { 0 = n })) (λ n. refl) (λ n l. l),
        (
          bare-row s (event.Disk (which.Write p) false) (codes "-") seen.Nothing refl tt,
          tt,
        ),
      ),
    ) word words x is
seen_of-only s (event.Disk (which.Read c) true) word words x is =
    by_row-only (Sees s (event.Disk (which.Read c) true)) (disk_rows (which.Read c) true) (
      number-row s (event.Disk (which.Read c) true) (codes "came") (λ n. seen.ReadCame (record { 0 = n })) (λ n. refl) (λ n l. l),
      (
        bare-row s (event.Disk (which.Read c) true) (codes "-") seen.Nothing refl tt,
        tt,
      ),
    ) word words x is
seen_of-only s (event.Disk (which.Read c) false) word words x is =
    by_row-only (Sees s (event.Disk (which.Read c) false)) (disk_rows (which.Read c) false) (
      number-row s (event.Disk (which.Read c) false) (codes "failed") (λ n. seen.ReadFailed (record { 0 = n })) (λ n. refl) (λ n l. l),
      (
        bare-row s (event.Disk (which.Read c) false) (codes "-") seen.Nothing refl tt,
        tt,
      ),
    ) word words x is
seen_of-only s (event.Tick w) word words x is =
    by_row-only (Sees s (event.Tick w)) tick_rows (
      bare-row s (event.Tick w) (codes "none") seen.Ticked refl tt,
      (
        asked-row s w,
        tt,
      ),
    ) word words x is
seen_of-only s (event.Map slab l) word words x is =
    by_row-only (Sees s (event.Map slab l)) map_rows (
      bare-row s (event.Map slab l) (codes "borrow") seen.Borrowing refl tt,
      (
        bare-row s (event.Map slab l) (codes "-") seen.Nothing refl tt,
        tt,
      ),
    ) word words x is
seen_of-only s (event.Connect l) word words x is =
    by_row-only (Sees s (event.Connect l)) connect_rows (
      number-row s (event.Connect l) (codes "link") (λ n. seen.Linked (record { 0 = n })) (λ n. refl) (λ n l. l),
      (
        bare-row s (event.Connect l) (codes "-") seen.Nothing refl tt,
        tt,
      ),
    ) word words x is
seen_of-only s (event.Cut l a b) word words x is =
    by_row-only (Sees s (event.Cut l a b)) cut_rows (
      bare-row s (event.Cut l a b) (codes "cut") seen.Cut refl tt,
      (
        bare-row s (event.Cut l a b) (codes "-") seen.Nothing refl tt,
        tt,
      ),
    ) word words x is
seen_of-only s (event.Crash l) word words x is =
    by_row-only (Sees s (event.Crash l)) crash_rows (
      bare-row s (event.Crash l) (codes "crashed") seen.Crashed refl tt,
      (
        bare-row s (event.Crash l) (codes "-") seen.Nothing refl tt,
        tt,
      ),
    ) word words x is
seen_of-only s (event.Give l) word words x is =
    by_row_or-only (Sees s (event.Give l)) give_rows (gave_of s) (
      bare-row s (event.Give l) (codes "end") seen.GaveEnd refl tt,
      (
        bare-row s (event.Give l) (codes "-") seen.Nothing refl tt,
        tt,
      ),
    )
    (gave_of-only s l) word words x is
seen_of-only s (event.Take l) word words x is =
    by_row_or-only (Sees s (event.Take l)) take_rows (took_of s) (
      bare-row s (event.Take l) (codes "lost") seen.Lost refl tt,
      (
        bare-row s (event.Take l) (codes "lied") seen.Lied refl tt,
        (
          bare-row s (event.Take l) (codes "-") seen.Nothing refl tt,
          tt,
        ),
      ),
    )
    (took_of-only s l) word words x is
seen_of-only s (event.Host l u w) word words x is =
    by_row_or-only (Sees s (event.Host l u w)) nothing_rows hosted_of (
      bare-row s (event.Host l u w) (codes "-") seen.Nothing refl tt,
      tt,
    )
    (hosted_of-only s l u w) word words x is
seen_of-only s (event.Round w) word words x is = rounded_of-only s w word words x is

saw_only :
    (s : Sizes) (e : Event) (word : List ℕ) (words : Words) (t : Told) (o : Option Seen) → seen_of s e word words ≡ o → option_map Saw o ≡ Some t
    → MayTell s e t × (word ∷ words ≡ told_words t)
saw_only s e word words t None is read = cc
saw_only s e word words t (Some x) is read =
    let same : Saw x ≡ t = cc in
    subst (λ o. MayTell s e o × (word ∷ words ≡ told_words o)) same (seen_of-only s e word words x is)

told_if :
    (s : Sizes) (e : Event) (word : List ℕ) (words : Words) (t : Told) (b : Bool) → is_word (codes "entry") word ≡ b
    → cond b (entered_at s.page_bytes e words) (option_map Saw (seen_of s e word words)) ≡ Some t → MayTell s e t × (word ∷ words ≡ told_words t)
told_if s e word words t true is read =
    let shown = bind_some (entry_of s.page_bytes words) (λ shown. cond (agrees e shown) (Some (Entered shown)) None) t read in
    let one = entry_of-only s.page_bytes words shown.0 shown.1 in
    let c = cond_some (agrees e shown.0) (Entered shown.0) t shown.2 in
    subst (λ o. MayTell s e o × (word ∷ words ≡ told_words o)) c.1
    ((c.0, one.0), ap (λ w. w ∷ words) (sym ((bytes_eq-Decides (codes "entry") word).0 is)) ∙ one.1)
told_if s e word words t false is read = saw_only s e word words t (seen_of s e word words) refl read

pub told_of-only : (s : Sizes) (e : Event) (words : Words) (t : Told) → told_of s e words ≡ Some t → MayTell s e t × (words ≡ told_words t)
told_of-only s e [] t is = cc
told_of-only s e (word ∷ words) t is = told_if s e word words t (is_word (codes "entry") word) refl is

-- the words of a line are those of what is read of it
pub pair_of-only : (s : Sizes) (words : Words) (pair : Pair) → pair_of s words ≡ Some pair → HasPairWords s pair × (words ≡ pair_words pair)
pair_of-only s words pair is =
    let e = bind_some (event_at words) (λ e. pair_behind s e.0 e.1) pair is in
    let behind =
    bind_some (word_at (codes "=") e.0.1)
    (λ behind. option_and_then (λ told. Some (record { event = e.0.0; told = told })) (told_of s e.0.0 behind)) pair e.2 in
    let told = bind_some (told_of s e.0.0 behind.0) (λ told. Some (record { event = e.0.0; told = told })) pair behind.2 in
    let first = event_at-only words e.0 e.1 in
    let last = told_of-only s e.0.0 behind.0 told.0 told.1 in
    let same : record { event = e.0.0; told = told.0 } ≡ pair = cc in
    subst (λ p. HasPairWords s p × (words ≡ pair_words p)) same (
      record { event = first.0; told = last.0 },
      first.1 ∙ ap (λ r. event_words e.0.0 ++ r) (word_at-only (codes "=") e.0.1 behind.0 behind.1 ∙ ap (λ r. codes "=" ∷ r) last.1),
    )
