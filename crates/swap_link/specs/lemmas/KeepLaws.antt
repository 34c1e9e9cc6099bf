-- What a lender keeps stays so through every call that doesn't end it.
use Rattle.std.proofs.Common.{◌≡◌, ℕ, Bool, true, false, ◌&&◌, List, [], ◌∷◌, ◌++◌, length, refl, sym, ap, ◌∙◌, subst, Option, None, Some, eq-eqb}
use Rattle.std.specs.Prelude.{nat_lt, ◌==◌}
use Rattle.std.proofs.lemmas.Bool.{cond_both, cond-true, cond-false, and_from, both_ways}
use Rattle.swap_base.specs.declared.Link.{Link}
use Rattle.swap_base.specs.declared.Lender.{Lender as LenderNo}
use Rattle.swap_base.specs.declared.Lease.{Lease}
use Rattle.swap_wire.specs.declared.Msg.{Msg}
use Rattle.swap_wire.specs.declared.Msg.TheVariants as msg
use Rattle.swap_wire.specs.declared.fabric.Sent.{Sent}
use Rattle.swap_wire.specs.declared.fabric.Gave.{Gave}
use Rattle.swap_wire.specs.Fabric.{Parcel, write_parcel, Handed, FabricCall, Connect, Send, Take, End, Give, Cut, Crash, Host, same_lender, replaces, send_ends_keeping, ends_keeping}
use Rattle.swap_lender.specs.Lender.{Lender}
use Rattle.swap_lender.specs.Table.{Turn, quiet_turn, took_after, serve, may_send, host}
use Rattle.swap_link.specs.Lane.{Lane, append_after}
use Rattle.swap_link.specs.Channel.{Channel, send_after, take_after, taken_from, serve_after, give_after, given_from, deliver_after, crash_after, on_channel}
use Rattle.swap_link.specs.Fits.{IsSound, IsChannel}
use Rattle.swap_link.specs.Keeping.{Unless, slot_page, left_by, left_after, Keeps, zero_page}
use Rattle.swap_link.specs.Harbor.{lender_of}
use Rattle.swap_link.specs.lemmas.Slots.{IsLater, later-after, later-serve, slot_page-host}

pub unless : (b : Bool) (P : Type 0) → (b ≡ false → P) → Unless b P
unless true P f = tt
unless false P f = f refl

pub unless-map : (b : Bool) (P Q : Type 0) → (P → Q) → Unless b P → Unless b Q
unless-map true P Q f h = tt
unless-map false P Q f h = f h

pub unless-at : (b : Bool) (P : Type 0) → b ≡ false → Unless b P → P
unless-at true P e h = cc
unless-at false P e h = h

pub and-second : (a b : Bool) → a ≡ true → (a && b) ≡ false → b ≡ false
and-second true b e h = h
and-second false b e h = cc

pub took-served :
    (l : Lender) (n : Link) (m : Msg) (page : List ℕ) → may_send l n m ≡ true → took_after l n m page ≡ serve l n m page
took-served l n m page may = cond-true (may_send l n m) (serve l n m page) (quiet_turn l) may

-- a message more

pub left-append :
    (k : Lease) (i : ℕ) (ps : List Parcel) (p : Parcel) (was : Option (List ℕ))
    → left_after k i (ps ++ p ∷ []) was ≡ left_by k i p.msg p.page (left_after k i ps was)
left-append k i [] p was = refl
left-append k i (q ∷ ps) p was = left-append k i ps p (left_by k i q.msg q.page was)

pub left-kept :
    (k : Lease) (i : ℕ) (m : Msg) (page : List ℕ) (was : Option (List ℕ)) → replaces k i m ≡ false
    → left_by k i m page was ≡ was
left-kept k i (msg.Write lease place) page was e = cond-false ((lease.0 == k.0) && (place == i)) (Some page) was e
left-kept k i (msg.Done lease) page was e = cond-false (lease.0 == k.0) None was e
left-kept k i _ page was e = refl

keeps-append :
    (ch : Channel) (p : Parcel) (k : Lease) (i : ℕ) (bytes : List ℕ) → replaces k i p.msg ≡ false → Keeps ch k i bytes
    → Keeps (record ch { to_lender = append_after ch.to_lender p }) k i bytes
keeps-append ch p k i bytes e kept =
    let Q : Lane → Type 0 = λ l. Keeps (record ch { to_lender = l }) k i bytes in
    cond_both ch.to_lender.ended _ _ Q (λ _. kept)
    (λ _. cond_both (nat_lt (length ch.to_lender.parcels) ch.to_lender.room) _ _ Q
    (λ _.
    unless-map ch.lender_gone _ _
    (unless-map ch.to_lender.ended _ _
    (λ h. left-append k i ch.to_lender.parcels p _ ∙ left-kept k i p.msg p.page _ e ∙ h))
    kept)
    (λ _. unless ch.lender_gone _ (λ _. tt)))

pub keeps-write :
    (ch : Channel) (k : Lease) (i : ℕ) (bytes : List ℕ)
    → Keeps (record ch { to_lender = append_after ch.to_lender (write_parcel k i bytes) }) k i bytes
keeps-write ch k i bytes =
    let Q : Lane → Type 0 = λ l. Keeps (record ch { to_lender = l }) k i bytes in
    cond_both ch.to_lender.ended _ _ Q
    (λ h. unless ch.lender_gone _ (λ _. unless ch.to_lender.ended _ (λ f. absurd (both_ways ch.to_lender.ended f h))))
    (λ _. cond_both (nat_lt (length ch.to_lender.parcels) ch.to_lender.room) _ _ Q
    (λ _.
    unless ch.lender_gone _
    (λ _.
    unless ch.to_lender.ended _
    (λ _. left-append k i ch.to_lender.parcels (write_parcel k i bytes) _
    ∙ cond-true ((k.0 == k.0) && (i == i)) (Some bytes) _
    (and_from (k.0 == k.0) (i == i) (eq-eqb k.0 k.0 refl) (eq-eqb i i refl)))))
    (λ _. unless ch.lender_gone _ (λ _. tt)))

-- each call

keeps-send :
    (ch : Channel) (p : Parcel) (k : Lease) (i : ℕ) (bytes : List ℕ) → Keeps ch k i bytes
    → send_ends_keeping k i p (send_after ch p).0 ≡ false → Keeps (send_after ch p).1 k i bytes
keeps-send ch p k i bytes kept =
    cond_both ch.device_gone _ _ (λ (x : Sent × Channel). send_ends_keeping k i p x.0 ≡ false → Keeps x.1 k i bytes)
    (λ _ e. cc) (λ _ e. keeps-append ch p k i bytes e kept)

keeps-taken_from :
    (ch : Channel) (ps : List Parcel) (k : Lease) (i : ℕ) (bytes : List ℕ) → Keeps ch k i bytes
    → Keeps (taken_from ch ps).1 k i bytes
keeps-taken_from ch [] k i bytes kept =
    cond_both ch.to_device.ended _ _ (λ (x : Handed × Channel). Keeps x.1 k i bytes)
    (λ _. unless ch.lender_gone _ (λ _. tt)) (λ _. kept)
keeps-taken_from ch (p ∷ ps) k i bytes kept = kept

keeps-take : (ch : Channel) (k : Lease) (i : ℕ) (bytes : List ℕ) → Keeps ch k i bytes
    → Keeps (take_after ch).1 k i bytes
keeps-take ch k i bytes kept =
    cond_both ch.device_gone _ _ (λ (x : Handed × Channel). Keeps x.1 k i bytes) (λ _. kept)
    (λ _. keeps-taken_from ch ch.to_device.parcels k i bytes kept)

some-later :
    (k next : ℕ) (zero : List ℕ) (was now : Option (List ℕ)) (b : List ℕ) → IsLater k next zero was now → was ≡ Some b
    → now ≡ Some b
some-later k next zero was now b h e = let P : Option (List ℕ) → Type 0 = λ o. IsLater k next zero o now in subst P e h

keeps-served : (ch : Channel) (p : Parcel) (k : Lease) (i : ℕ) (bytes : List ℕ) → IsSound ch.lender
    → Unless ch.lender_gone
    (Unless ch.to_lender.ended
    (left_after k i ch.to_lender.parcels (left_by k i p.msg p.page (slot_page ch.lender ch.number k i))
    ≡ Some bytes))
    → Keeps (serve_after ch p).1 k i bytes
keeps-served ch p k i bytes s kept =
    cond_both (may_send ch.lender ch.number p.msg) _ _ (λ (x : Gave × Channel). Keeps x.1 k i bytes)
    (λ may.
    unless-map ch.lender_gone _ _
    (unless-map ch.to_lender.ended _ _ (some-later k.0 ch.lender.next_lease (zero_page ch.lender) _ _ bytes
    (later-after k i ch.lender.next_lease (zero_page ch.lender) ch.to_lender.parcels _ _
    (subst
    (λ (t : Turn).
    IsLater k.0 ch.lender.next_lease (zero_page ch.lender)
    (left_by k i p.msg p.page (slot_page ch.lender ch.number k i)) (slot_page t.lender ch.number k i))
    (sym (took-served ch.lender ch.number p.msg p.page may))
    (later-serve ch.lender ch.number p.msg p.page k i s may)))))
    kept)
    (λ _. tt)

keeps-given_from :
    (ch : Channel) (ps : List Parcel) (k : Lease) (i : ℕ) (bytes : List ℕ) → IsSound ch.lender
    → ch.to_lender.parcels ≡ ps
    → Keeps ch k i bytes → Keeps (given_from ch ps).1 k i bytes
keeps-given_from ch [] k i bytes s e kept =
    cond_both ch.to_lender.ended _ _ (λ (x : Gave × Channel). Keeps x.1 k i bytes) (λ _. tt) (λ _. kept)
keeps-given_from ch (p ∷ ps) k i bytes s e kept =
    keeps-served (record ch { to_lender = record ch.to_lender { parcels = ps } }) p k i bytes s
    (subst
    (λ qs.
    Unless ch.lender_gone
    (Unless ch.to_lender.ended (left_after k i qs (slot_page ch.lender ch.number k i) ≡ Some bytes)))
    e kept)

keeps-give :
    (ch : Channel) (k : Lease) (i : ℕ) (bytes : List ℕ) → IsSound ch.lender → Keeps ch k i bytes
    → Keeps (give_after ch).1 k i bytes
keeps-give ch k i bytes s kept =
    cond_both ch.lender_gone _ _ (λ (x : Gave × Channel). Keeps x.1 k i bytes) (λ _. kept)
    (λ _. keeps-given_from ch ch.to_lender.parcels k i bytes s refl kept)

keeps-crash : (ch : Channel) (k : Lease) (i : ℕ) (bytes : List ℕ) → Keeps (crash_after ch) k i bytes
keeps-crash ch k i bytes =
    cond_both ch.lender_gone _ _ (λ (x : Channel). Keeps x k i bytes)
    (λ h. unless ch.lender_gone _ (λ f. absurd (both_ways ch.lender_gone f h))) (λ _. tt)

keeps-host :
    (ch : Channel) (used word : ℕ) (k : Lease) (i : ℕ) (bytes : List ℕ) → Keeps ch k i bytes
    → Keeps (deliver_after ch (host ch.lender used word)) k i bytes
keeps-host ch used word k i bytes kept =
    unless-map ch.lender_gone _ _
    (unless-map ch.to_lender.ended _ _
    (λ h. ap (λ o. left_after k i ch.to_lender.parcels o) (slot_page-host ch.lender used word ch.number k i) ∙ h))
    kept

pub keeps-call :
    (ch : Channel) (c : FabricCall) (l : LenderNo) (k : Lease) (i : ℕ) (bytes : List ℕ) → IsChannel ch
    → l.0 ≡ (lender_of c).0 → Keeps ch k i bytes → ends_keeping l k i c (on_channel ch c).0 ≡ false
    → Keeps (on_channel ch c).1 k i bytes
keeps-call ch (Connect lender link) l k i bytes is e kept until =
    absurd (both_ways (same_lender l lender) until (eq-eqb l.0 lender.0 e))
keeps-call ch (Send lender p) l k i bytes is e kept until =
    keeps-send ch p k i bytes kept (and-second (same_lender l lender) _ (eq-eqb l.0 lender.0 e) until)
keeps-call ch (Take lender) l k i bytes is e kept until = keeps-take ch k i bytes kept
keeps-call ch (End lender) l k i bytes is e kept until = unless ch.lender_gone _ (λ _. tt)
keeps-call ch (Give lender) l k i bytes is e kept until = keeps-give ch k i bytes is.sound kept
keeps-call ch (Cut lender to_lender to_device) l k i bytes is e kept until = unless ch.lender_gone _ (λ _. tt)
keeps-call ch (Crash lender) l k i bytes is e kept until = keeps-crash ch k i bytes
keeps-call ch (Host lender used word) l k i bytes is e kept until = keeps-host ch used word k i bytes kept
