-- The pages that a link owes stay so through every call that doesn't change them.
use Rattle.std.proofs.Common.{◌≡◌, ℕ, zero, suc, ◌+◌, ◌≤◌, inl, inr, Bool, true, false, cond, List, [], ◌∷◌, ◌++◌, length, take, refl, sym, ap, ◌∙◌, subst, arith, Option, None, Some, eq-eqb}
use Rattle.std.specs.Prelude.{All, nat_lt, ◌==◌, option_map}
use Rattle.swap_evict.specs.Rounds.{answer}
use Rattle.std.proofs.lemmas.Bool.{cond_both, cond-true, cond-false, both_ways, cases_Bool, ltb-false, le-ltb}
use Rattle.std.proofs.lemmas.List.Elements.{All-nil, All-cons, All-head, All-tail, All-append}
use Rattle.swap_base.specs.declared.Link.{Link}
use Rattle.swap_base.specs.declared.Lender.{Lender as LenderNo}
use Rattle.swap_base.specs.declared.Lease.{Lease}
use Rattle.swap_wire.specs.declared.Msg.{Msg}
use Rattle.swap_wire.specs.declared.Msg.TheVariants as msg
use Rattle.swap_wire.specs.declared.fabric.Sent.{Sent}
use Rattle.swap_wire.specs.declared.fabric.Gave.{Gave}
use Rattle.swap_wire.specs.Fabric.{Parcel, parcel_of, read_parcel, Handed, Brought, FabricCall, Connect, Send, Take, End, Give, Cut, Crash, Host, same_lender, is_read, is_page, send_changes_owing, take_changes_owing, changes_owing}
use Rattle.swap_choice.specs.Slots.{has}
use Rattle.swap_lender.specs.declared.SlotState.{SlotState}
use Rattle.swap_lender.specs.declared.SlotState.TheVariants.{Free, Held}
use Rattle.swap_lender.specs.declared.Notice.{Notice}
use Rattle.swap_lender.specs.declared.Notice.TheVariants as notice
use Rattle.swap_lender.specs.Lender.{Lender, slot_of, page_in, lends, slots_free}
use Rattle.swap_lender.specs.Table.{Turn, parcels_told, tell_slot, message_of, settle_with, slots_due, serve, may_send, host, opens, measure_after, asked_slots}
use Rattle.swap_link.specs.Lane.{Lane, append_after}
use Rattle.swap_link.specs.Channel.{Channel, connect_after, send_after, take_after, taken_from, post_after, forward_after, serve_after, give_after, given_from, deliver_after, leave_after, cut_after, crash_after, on_channel}
use Rattle.swap_link.specs.Fits.{IsSound, IsChannel}
use Rattle.swap_link.specs.Keeping.{Unless, slot_page, left_by, left_after, Keeps, pages_in, Begins, GivenNone, IsGiven, FirstIs, AskedBy, ReadsOwed, zero_page, LaterOwed, Owes}
use Rattle.swap_link.specs.Harbor.{lender_of}
use Rattle.swap_link.specs.lemmas.Sound.{lending-serve, lending-host}
use Rattle.swap_link.specs.lemmas.Slots.{IsLater, later-same, later-left, later-serve, next-serve, slot_page-host, next-host}
use Rattle.swap_link.specs.lemmas.KeepLaws.{unless, unless-map, unless-at, and-second, took-served}

-- lists that begin with pages

begins-map :
    (bs : List (List ℕ)) (P Q : List (List ℕ) → Type 0) (pages : List (List ℕ)) → ((xs : List (List ℕ)) → P xs → Q xs)
    → Begins bs P pages → Begins bs Q pages
begins-map [] P Q pages f h = f pages h
begins-map (b ∷ bs) P Q [] f h = h
begins-map (b ∷ bs) P Q (page ∷ pages) f h = (h.0, begins-map bs P Q pages f h.1)

begins-more :
    (bs : List (List ℕ)) (P Q : List (List ℕ) → Type 0) (pages more : List (List ℕ))
    → ((xs : List (List ℕ)) → P xs → Q (xs ++ more)) → Begins bs P pages → Begins bs Q (pages ++ more)
begins-more [] P Q pages more f h = f pages h
begins-more (b ∷ bs) P Q [] more f h = absurd h
begins-more (b ∷ bs) P Q (page ∷ pages) more f h = (h.0, begins-more bs P Q pages more f h.1)

begins-append :
    (bs : List (List ℕ)) (b : List ℕ) (R : List (List ℕ) → Type 0) (pages : List (List ℕ))
    → Begins bs (FirstIs (λ page. page ≡ b) R) pages → Begins (bs ++ b ∷ []) R pages
begins-append [] b R [] h = h
begins-append [] b R (page ∷ pages) h = h
begins-append (c ∷ bs) b R [] h = h
begins-append (c ∷ bs) b R (page ∷ pages) h = (h.0, begins-append bs b R pages h.1)

cut-step :
    (b : Bool) (page : List ℕ) (bs cs : List (List ℕ)) (P : List (List ℕ) → Type 0)
    → ((pages : List (List ℕ)) → Begins bs P pages → Begins cs (λ _. Unit {0}) pages)
    → (pages : List (List ℕ)) → Begins (cond b (page ∷ bs) bs) P pages
    → Begins (cond b (page ∷ cs) cs) (λ _. Unit {0}) pages
cut-step true page bs cs P f [] h = h
cut-step true page bs cs P f (x ∷ pages) h = (h.0, f pages h.1)
cut-step false page bs cs P f pages h = f pages h

begins-cut :
    (ps : List Parcel) (n : ℕ) (P : List (List ℕ) → Type 0) (pages : List (List ℕ)) → Begins (pages_in ps) P pages
    → Begins (pages_in (take n ps)) (λ _. Unit {0}) pages
begins-cut ps zero P pages h = tt
begins-cut [] (suc n) P pages h = tt
begins-cut (p ∷ ps) (suc n) P pages h =
    cut-step (is_page p.msg) p.page (pages_in ps) (pages_in (take n ps)) P (λ xs. begins-cut ps n P xs) pages h

pages-append : (ps : List Parcel) (p : Parcel) → is_page p.msg ≡ false → pages_in (ps ++ p ∷ []) ≡ pages_in ps
pages-append [] p e = cond-false (is_page p.msg) (p.page ∷ []) [] e
pages-append (q ∷ ps) p e = ap (λ xs. cond (is_page q.msg) (q.page ∷ xs) xs) (pages-append ps p e)

push-step :
    (b : Bool) (page other : List ℕ) (bs cs : List (List ℕ)) → cs ≡ bs ++ other ∷ []
    → cond b (page ∷ cs) cs ≡ cond b (page ∷ bs) bs ++ other ∷ []
push-step true page other bs cs e = ap (λ xs. page ∷ xs) e
push-step false page other bs cs e = e

pages-push :
    (ps : List Parcel) (p : Parcel) → is_page p.msg ≡ true → pages_in (ps ++ p ∷ []) ≡ pages_in ps ++ p.page ∷ []
pages-push [] p e = cond-true (is_page p.msg) (p.page ∷ []) [] e
pages-push (q ∷ ps) p e =
    push-step (is_page q.msg) q.page p.page (pages_in ps) (pages_in (ps ++ p ∷ [])) (pages-push ps p e)

-- the page of a read

given_none-later :
    (k next now : ℕ) (z page : List ℕ) → next ≤ now → GivenNone (nat_lt k next) z page → GivenNone (nat_lt k now) z page
given_none-later k next now z page le g = elim (cases_Bool (nat_lt k now)) [
  | inl h ↦ subst (λ b. GivenNone b z page) (sym h) tt
  | inr h ↦
      (let far : now ≤ k = ltb-false k now h in
      subst (λ b. GivenNone b z page) (sym h) (subst (λ b. GivenNone b z page) (le-ltb k next (omega arith)) g))
]

given-later :
    (k next now : ℕ) (z : List ℕ) (was is : Option (List ℕ)) (page : List ℕ) → next ≤ now → IsLater k next z was is
    → IsGiven k next z was page → IsGiven k now z is page
given-later k next now z (Some b) is page le h g = subst (λ o. IsGiven k now z o page) (sym h) g
given-later k next now z None is page le h g = elim h [
  | inl e ↦ subst (λ o. IsGiven k now z o page) (sym e) (given_none-later k next now z page le g)
  | inr e ↦ subst (λ o. IsGiven k now z o page) (sym e.1) (subst (λ b. GivenNone b z page) (le-ltb k next e.0) g)
]

-- reads under way

asked-map :
    (G H : Lease → ℕ → List ℕ → Type 0) (P Q : List (List ℕ) → Type 0) (m : Msg) (pages : List (List ℕ))
    → ((k : Lease) (i : ℕ) (page : List ℕ) → G k i page → H k i page) → ((xs : List (List ℕ)) → P xs → Q xs)
    → AskedBy G P m pages → AskedBy H Q m pages
asked-map G H P Q (msg.Read k i) [] g f h = h
asked-map G H P Q (msg.Read k i) (page ∷ pages) g f h = (g k i page h.0, f pages h.1)
asked-map G H P Q _ pages g f h = f pages h

asked-more :
    (G : Lease → ℕ → List ℕ → Type 0) (P Q : List (List ℕ) → Type 0) (m : Msg) (pages more : List (List ℕ))
    → ((xs : List (List ℕ)) → P xs → Q (xs ++ more)) → AskedBy G P m pages → AskedBy G Q m (pages ++ more)
asked-more G P Q (msg.Read k i) [] more f h = absurd h
asked-more G P Q (msg.Read k i) (page ∷ pages) more f h = (h.0, f pages h.1)
asked-more G P Q _ pages more f h = f pages h

asked-plain :
    (G : Lease → ℕ → List ℕ → Type 0) (P : List (List ℕ) → Type 0) (m : Msg) (pages : List (List ℕ)) → is_read m ≡ false
    → P pages → AskedBy G P m pages
asked-plain G P (msg.Read k i) pages e h = cc
asked-plain G P _ pages e h = h

plain-asked :
    (G : Lease → ℕ → List ℕ → Type 0) (P : List (List ℕ) → Type 0) (m : Msg) (pages : List (List ℕ)) → is_read m ≡ false
    → AskedBy G P m pages → P pages
plain-asked G P (msg.Read k i) pages e h = cc
plain-asked G P _ pages e h = h

reads-later :
    (e : Bool) (next now : ℕ) (z : List ℕ) (S T : Lease → ℕ → Option (List ℕ)) (ps : List Parcel)
    (pages : List (List ℕ))
    → next ≤ now → ((k : Lease) (i : ℕ) → IsLater k.0 next z (S k i) (T k i)) → ReadsOwed e next z S ps pages
    → ReadsOwed e now z T ps pages
reads-later e next now z S T [] pages le f h = h
reads-later e next now z S T (p ∷ ps) pages le f h =
    asked-map _ _ _ _ p.msg pages (λ k i page. given-later k.0 next now z (S k i) (T k i) page le (f k i))
    (λ xs.
    reads-later e next now z (λ k i. left_by k i p.msg p.page (S k i))
    (λ k i. left_by k i p.msg p.page (T k i)) ps xs le
    (λ k i. later-left k i next z p.msg p.page (S k i) (T k i) (f k i)))
    h

reads-append :
    (e : Bool) (next : ℕ) (z : List ℕ) (S : Lease → ℕ → Option (List ℕ)) (ps : List Parcel) (p : Parcel)
    (pages : List (List ℕ))
    → is_read p.msg ≡ false → ReadsOwed e next z S ps pages → ReadsOwed e next z S (ps ++ p ∷ []) pages
reads-append e next z S [] p pages plain h = asked-plain _ _ p.msg pages plain h
reads-append e next z S (q ∷ ps) p pages plain h =
    asked-map _ _ _ _ q.msg pages (λ k i page g. g)
    (λ xs. reads-append e next z (λ k i. left_by k i q.msg q.page (S k i)) ps p xs plain) h

reads-read :
    (next : ℕ) (z : List ℕ) (S : Lease → ℕ → Option (List ℕ)) (ps : List Parcel) (k : Lease) (i : ℕ) (bytes : List ℕ)
    (pages : List (List ℕ))
    → left_after k i ps (S k i) ≡ Some bytes → ReadsOwed false next z S ps pages
    → ReadsOwed false next z S (ps ++ read_parcel k i ∷ []) (pages ++ bytes ∷ [])
reads-read next z S [] k i bytes pages e h =
    subst (λ xs. ReadsOwed false next z S (read_parcel k i ∷ []) (xs ++ bytes ∷ [])) (sym h)
    (subst (λ o. IsGiven k.0 next z o bytes) (sym e) refl, refl)
reads-read next z S (q ∷ ps) k i bytes pages e h =
    asked-more _ _ _ q.msg pages (bytes ∷ [])
    (λ xs. reads-read next z (λ k i. left_by k i q.msg q.page (S k i)) ps k i bytes xs e) h

reads-loosen :
    (e : Bool) (next : ℕ) (z : List ℕ) (S : Lease → ℕ → Option (List ℕ)) (ps : List Parcel) (pages more : List (List ℕ))
    → ReadsOwed e next z S ps pages → ReadsOwed true next z S ps (pages ++ more)
reads-loosen e next z S [] pages more h = tt
reads-loosen e next z S (q ∷ ps) pages more h =
    asked-more _ _ _ q.msg pages more
    (λ xs. reads-loosen e next z (λ k i. left_by k i q.msg q.page (S k i)) ps xs more) h

reads-cut :
    (e : Bool) (next : ℕ) (z : List ℕ) (S : Lease → ℕ → Option (List ℕ)) (ps : List Parcel) (n : ℕ)
    (pages : List (List ℕ))
    → ReadsOwed e next z S ps pages → ReadsOwed true next z S (take n ps) pages
reads-cut e next z S ps zero pages h = tt
reads-cut e next z S [] (suc n) pages h = tt
reads-cut e next z S (q ∷ ps) (suc n) pages h =
    asked-map _ _ _ _ q.msg pages (λ k i page g. g)
    (λ xs. reads-cut e next z (λ k i. left_by k i q.msg q.page (S k i)) ps n xs) h

reads-loose :
    (e : Bool) (next : ℕ) (z : List ℕ) (S : Lease → ℕ → Option (List ℕ)) (ps : List Parcel) (pages : List (List ℕ))
    → ReadsOwed e next z S ps pages → ReadsOwed true next z S ps pages
reads-loose e next z S [] pages h = tt
reads-loose e next z S (q ∷ ps) pages h =
    asked-map _ _ _ _ q.msg pages (λ k i page g. g)
    (λ xs. reads-loose e next z (λ k i. left_by k i q.msg q.page (S k i)) ps xs) h

-- send

later-append :
    (ch : Channel) (p : Parcel) (xs : List (List ℕ)) → is_read p.msg ≡ false → LaterOwed ch xs
    → LaterOwed (record ch { to_lender = append_after ch.to_lender p }) xs
later-append ch p xs plain h =
    let Q : Lane → Type 0 = λ l. LaterOwed (record ch { to_lender = l }) xs in
    cond_both ch.to_lender.ended _ _ Q (λ _. h)
    (λ _. cond_both (nat_lt (length ch.to_lender.parcels) ch.to_lender.room) _ _ Q
    (λ _. reads-append ch.to_lender.ended _ _ _ ch.to_lender.parcels p xs plain h)
    (λ _. reads-loose ch.to_lender.ended _ _ _ ch.to_lender.parcels xs h))

owes-append :
    (ch : Channel) (p : Parcel) (pages : List (List ℕ)) → is_read p.msg ≡ false → Owes ch pages
    → Owes (record ch { to_lender = append_after ch.to_lender p }) pages
owes-append ch p pages plain h =
    begins-map (pages_in ch.to_device.parcels) _ _ pages
    (λ xs. unless-map ch.lender_gone _ _ (unless-map ch.to_device.ended _ _ (later-append ch p xs plain))) h

later-read :
    (ch : Channel) (k : Lease) (i : ℕ) (bytes : List ℕ) (xs : List (List ℕ))
    → Unless ch.to_lender.ended (left_after k i ch.to_lender.parcels (slot_page ch.lender ch.number k i) ≡ Some bytes)
    → LaterOwed ch xs → LaterOwed (record ch { to_lender = append_after ch.to_lender (read_parcel k i) }) (xs
    ++ bytes ∷ [])
later-read ch k i bytes xs kept h =
    let Q : Lane → Type 0 = λ l. LaterOwed (record ch { to_lender = l }) (xs ++ bytes ∷ []) in
    let S : Lease → ℕ → Option (List ℕ) = λ k i. slot_page ch.lender ch.number k i in
    cond_both ch.to_lender.ended _ _ Q
    (λ e.
    subst (λ b. ReadsOwed b ch.lender.next_lease (zero_page ch.lender) S ch.to_lender.parcels (xs ++ bytes ∷ []))
    (sym e)
    (reads-loosen ch.to_lender.ended ch.lender.next_lease (zero_page ch.lender) S ch.to_lender.parcels xs
    (bytes ∷ []) h))
    (λ runs. cond_both (nat_lt (length ch.to_lender.parcels) ch.to_lender.room) _ _ Q
    (λ _.
    subst (λ b. ReadsOwed b ch.lender.next_lease (zero_page ch.lender) S ch.to_lender.parcels xs
    → ReadsOwed b ch.lender.next_lease (zero_page ch.lender) S (ch.to_lender.parcels ++ read_parcel k i ∷ [])
    (xs ++ bytes ∷ []))
    (sym runs)
    (reads-read ch.lender.next_lease (zero_page ch.lender) S ch.to_lender.parcels k i bytes xs
    (unless-at ch.to_lender.ended _ runs kept))
    h)
    (λ _.
    reads-loosen ch.to_lender.ended ch.lender.next_lease (zero_page ch.lender) S ch.to_lender.parcels xs
    (bytes ∷ []) h))

pub owes-read :
    (ch : Channel) (k : Lease) (i : ℕ) (bytes : List ℕ) (pages : List (List ℕ)) → Keeps ch k i bytes → Owes ch pages
    → Owes (record ch { to_lender = append_after ch.to_lender (read_parcel k i) }) (pages ++ bytes ∷ [])
owes-read ch k i bytes pages kept h =
    begins-more (pages_in ch.to_device.parcels) _ _ pages (bytes ∷ [])
    (λ xs r.
    unless ch.lender_gone _
    (λ stands.
    unless ch.to_device.ended _
    (λ runs.
    later-read ch k i bytes xs (unless-at ch.lender_gone _ stands kept)
    (unless-at ch.to_device.ended _ runs (unless-at ch.lender_gone _ stands r)))))
    h

owes-send :
    (ch : Channel) (p : Parcel) (pages : List (List ℕ)) → Owes ch pages
    → send_changes_owing p (send_after ch p).0 ≡ false
    → Owes (send_after ch p).1 pages
owes-send ch p pages h =
    cond_both ch.device_gone _ _ (λ (x : Sent × Channel). send_changes_owing p x.0 ≡ false → Owes x.1 pages) (λ _ e. cc)
    (λ _ e. owes-append ch p pages e h)

-- take

owes-taken_from :
    (ch : Channel) (ps : List Parcel) (pages : List (List ℕ)) → ch.to_device.parcels ≡ ps → Owes ch pages
    → take_changes_owing (taken_from ch ps).0 ≡ false → Owes (taken_from ch ps).1 pages
owes-taken_from ch [] pages is h =
    cond_both ch.to_device.ended _ _ (λ (x : Handed × Channel). take_changes_owing x.0 ≡ false → Owes x.1 pages)
    (λ _ e. cc) (λ _ e. h)
owes-taken_from ch (p ∷ ps) pages is h = λ e.
    let P : List (List ℕ) → Type 0 = λ later. Unless ch.lender_gone (Unless ch.to_device.ended (LaterOwed ch later)) in
    subst (λ bs. Begins bs P pages) (cond-false (is_page p.msg) (p.page ∷ pages_in ps) (pages_in ps) e)
    (subst (λ qs. Begins (pages_in qs) P pages) is h)

owes-take :
    (ch : Channel) (pages : List (List ℕ)) → Owes ch pages → take_changes_owing (take_after ch).0 ≡ false
    → Owes (take_after ch).1 pages
owes-take ch pages h =
    cond_both ch.device_gone _ _ (λ (x : Handed × Channel). take_changes_owing x.0 ≡ false → Owes x.1 pages) (λ _ _. h)
    (λ _. owes-taken_from ch ch.to_device.parcels pages refl h)

brought-same : (p q : Parcel) → Brought p ≡ Brought q → p ≡ q
brought-same p q e = cc

paged-taken_from :
    (ch : Channel) (ps : List Parcel) (p : Parcel) (page : List ℕ) (rest : List (List ℕ)) → ch.to_device.parcels ≡ ps
    → Owes ch (page ∷ rest) → is_page p.msg ≡ true → (taken_from ch ps).0 ≡ Brought p
    → Owes (taken_from ch ps).1 rest × (page ≡ p.page)
paged-taken_from ch [] p page rest is h paged =
    cond_both ch.to_device.ended _ _ (λ (x : Handed × Channel). x.0 ≡ Brought p → Owes x.1 rest × (page ≡ p.page))
    (λ _ e. cc) (λ _ e. cc)
paged-taken_from ch (q ∷ ps) p page rest is h paged = λ e.
    let P : List (List ℕ) → Type 0 = λ later. Unless ch.lender_gone (Unless ch.to_device.ended (LaterOwed ch later)) in
    let same : q ≡ p = brought-same q p e in
    let here : is_page q.msg ≡ true = ap (λ (x : Parcel). is_page x.msg) same ∙ paged in
    let parts : Begins (q.page ∷ pages_in ps) P (page ∷ rest) =
    subst (λ bs. Begins bs P (page ∷ rest)) (cond-true (is_page q.msg) (q.page ∷ pages_in ps) (pages_in ps) here)
    (subst (λ qs. Begins (pages_in qs) P (page ∷ rest)) is h) in
    (parts.1, parts.0 ∙ ap (λ (x : Parcel). x.page) same)

pub paged-taken :
    (ch : Channel) (p : Parcel) (page : List ℕ) (rest : List (List ℕ)) → Owes ch (page ∷ rest) → is_page p.msg ≡ true
    → (take_after ch).0 ≡ Brought p → Owes (take_after ch).1 rest × (page ≡ p.page)
paged-taken ch p page rest h paged =
    cond_both ch.device_gone _ _ (λ (x : Handed × Channel). x.0 ≡ Brought p → Owes x.1 rest × (page ≡ p.page))
    (λ _ e. cc) (λ _. paged-taken_from ch ch.to_device.parcels p page rest refl h paged)

-- what a lender sends

abbrev pub Coming : Bool → Lane → (List (List ℕ) → Type 0) → List (List ℕ) → Type 0
Coming gone lane R pages = Begins (pages_in lane.parcels) (λ later. Unless gone (Unless lane.ended (R later))) pages

coming-plain :
    (gone : Bool) (lane : Lane) (R : List (List ℕ) → Type 0) (p : Parcel) (pages : List (List ℕ))
    → is_page p.msg ≡ false
    → Coming gone lane R pages → Coming gone (append_after lane p) R pages
coming-plain gone lane R p pages plain h =
    let Q : Lane → Type 0 = λ l. Coming gone l R pages in
    cond_both lane.ended _ _ Q (λ _. h) (λ _. cond_both (nat_lt (length lane.parcels) lane.room) _ _ Q
    (λ _.
    subst (λ bs. Begins bs (λ later. Unless gone (Unless lane.ended (R later))) pages)
    (sym (pages-append lane.parcels p plain)) h)
    (λ _. begins-map (pages_in lane.parcels) _ _ pages (λ xs. unless-map gone _ _ (λ _. tt)) h))

coming-page :
    (gone : Bool) (lane : Lane) (R : List (List ℕ) → Type 0) (p : Parcel) (pages : List (List ℕ)) → gone ≡ false
    → is_page p.msg ≡ true → Coming gone lane (FirstIs (λ page. page ≡ p.page) R) pages
    → Coming gone (append_after lane p) R pages
coming-page gone lane R p pages stands paged h =
    let Q : Lane → Type 0 = λ l. Coming gone l R pages in
    cond_both lane.ended _ _ Q
    (λ e.
    begins-map (pages_in lane.parcels) _ _ pages
    (λ xs _. unless gone _ (λ _. unless lane.ended _ (λ f. absurd (both_ways lane.ended f e)))) h)
    (λ runs. cond_both (nat_lt (length lane.parcels) lane.room) _ _ Q
    (λ _.
    subst (λ bs. Begins bs (λ later. Unless gone (Unless lane.ended (R later))) pages)
    (sym (pages-push lane.parcels p paged))
    (begins-append (pages_in lane.parcels) p.page (λ later. Unless gone (Unless lane.ended (R later))) pages
    (begins-map (pages_in lane.parcels) _ _ pages
    (λ xs r.
    first-map p.page R (λ later. Unless gone (Unless lane.ended (R later))) xs
    (λ ys y. unless gone _ (λ _. unless lane.ended _ (λ _. y)))
    (unless-at lane.ended _ runs (unless-at gone _ stands r)))
    h)))
    (λ _. begins-map (pages_in lane.parcels) _ _ pages (λ xs _. unless gone _ (λ _. tt)) h))
  where
    first-map :
        (b : List ℕ) (P T : List (List ℕ) → Type 0) (xs : List (List ℕ)) → ((ys : List (List ℕ)) → P ys → T ys)
        → FirstIs (λ page. page ≡ b) P xs → FirstIs (λ page. page ≡ b) T xs
    first-map b P T [] f r = r
    first-map b P T (x ∷ xs) f r = (r.0, f xs r.1)

abbrev pub IsPlain : Link × Parcel → Type 0
IsPlain q = is_page q.1.msg ≡ false

coming-forwarded :
    (gone : Bool) (n : Link) (lane : Lane) (R : List (List ℕ) → Type 0) (qs : List (Link × Parcel))
    (pages : List (List ℕ))
    → All IsPlain qs → Coming gone lane R pages → Coming gone (forward_after n lane qs) R pages
coming-forwarded gone n lane R [] pages plain h = h
coming-forwarded gone n lane R (q ∷ qs) pages plain h =
    coming-forwarded gone n (post_after n lane q.0 (parcel_of q.1.msg q.1.page)) R qs pages
    (All-tail IsPlain q qs plain)
    (cond_both (q.0.0 == n.0) _ _ (λ l. Coming gone l R pages)
    (λ _. coming-plain gone lane R (parcel_of q.1.msg q.1.page) pages (All-head IsPlain q qs plain) h) (λ _. h))

notice-plain : (kind : Notice) (lease : Lease) → is_page (message_of kind lease) ≡ false
notice-plain notice.AskRates lease = refl
notice-plain notice.Evict lease = refl

one-plain : (q : Link × Parcel) → is_page q.1.msg ≡ false → All IsPlain (q ∷ [])
one-plain q e = All-cons IsPlain q [] e (All-nil IsPlain)

tell-plain : (kind : Notice) (b : Bool) (s : SlotState) → All IsPlain (tell_slot kind b s)
tell-plain kind false s = All-nil IsPlain
tell-plain kind true Free = All-nil IsPlain
tell-plain kind true (Held link slab lease evicting) =
    one-plain (link, parcel_of (message_of kind lease) []) (notice-plain kind lease)

told-plain : (kind : Notice) (set from : ℕ) (slots : List SlotState) → All IsPlain (parcels_told kind set from slots)
told-plain kind set from [] = All-nil IsPlain
told-plain kind set from (s ∷ ss) =
    All-append IsPlain (tell_slot kind (has set from) s) (parcels_told kind set (from + 1) ss)
    (tell-plain kind (has set from) s)
    (told-plain kind set (from + 1) ss)

settle-plain : (l : Lender) (o : Option ℕ) → All IsPlain (settle_with l o).parcels
settle-plain l None = All-nil IsPlain
settle-plain l (Some set) = told-plain notice.Evict set 0 l.slots

serve-plain :
    (l : Lender) (n : Link) (m : Msg) (page : List ℕ) → is_read m ≡ false → All IsPlain (serve l n m page).parcels
serve-plain l n (msg.Query slab) page e = one-plain (n, parcel_of (msg.Room slab (slots_free l)) []) refl
serve-plain l n (msg.Borrow slab) page e =
    cond_both (lends l) _ _ (λ (t : Turn). All IsPlain t.parcels)
    (λ _. one-plain (n, parcel_of (msg.Lent slab (record { 0 = l.next_lease })) []) refl)
    (λ _. one-plain (n, parcel_of (msg.Refused slab) []) refl)
serve-plain l n (msg.Write lease place) page e = one-plain (n, parcel_of (msg.Wrote lease place) []) refl
serve-plain l n (msg.Read lease place) page e = cc
serve-plain l n (msg.Rates lease value) page e =
    settle-plain (record l { round = option_map (answer (slot_of l n lease) value) l.round })
    (slots_due (option_map (answer (slot_of l n lease) value) l.round))
serve-plain l n _ page e = All-nil IsPlain

host-plain : (l : Lender) (used word : ℕ) → All IsPlain (host l used word).parcels
host-plain l used word =
    cond_both (opens (measure_after l used)) _ _ (λ (t : Turn). All IsPlain t.parcels)
    (λ _. told-plain notice.AskRates (asked_slots (measure_after l used) word) 0 (measure_after l used).slots)
    (λ _. All-nil IsPlain)

-- give

abbrev pub Front : Lender → Link → Bool → List Parcel → Msg → List ℕ → List (List ℕ) → Type 0
Front l n ended ps m page =
    AskedBy (λ k i x. IsGiven k.0 l.next_lease (zero_page l) (slot_page l n k i) x)
    (ReadsOwed ended l.next_lease (zero_page l) (λ k i. left_by k i m page (slot_page l n k i)) ps) m

abbrev pub After : Lender → Link → Bool → List Parcel → List (List ℕ) → Type 0
After l n ended ps = ReadsOwed ended l.next_lease (zero_page l) (λ k i. slot_page l n k i) ps

serve-reads :
    (l : Lender) (n : Link) (m : Msg) (page : List ℕ) (ended : Bool) (ps : List Parcel) (xs : List (List ℕ)) → IsSound l
    → may_send l n m ≡ true
    → ReadsOwed ended l.next_lease (zero_page l) (λ k i. left_by k i m page (slot_page l n k i)) ps xs
    → After (serve l n m page).lender n ended ps xs
serve-reads l n m page ended ps xs s may h =
    let t : Lender = (serve l n m page).lender in
    let z : zero_page l ≡ zero_page (serve l n m page).lender =
    sym (ap (λ lending. zero_page (record l { lending = lending })) (lending-serve l n m page)) in
    subst (λ z.
    ReadsOwed ended (serve l n m page).lender.next_lease z (λ k i. slot_page (serve l n m page).lender n k i) ps xs)
    z
    (reads-later ended l.next_lease (serve l n m page).lender.next_lease (zero_page l) _ _ ps xs (next-serve l n m page)
    (λ k i. later-serve l n m page k i s may) h)

owes-plain :
    (l : Lender) (n : Link) (m : Msg) (page : List ℕ) (ended : Bool) (ps : List Parcel) (dev : Lane) (gone : Bool)
    (pages : List (List ℕ))
    → IsSound l → may_send l n m ≡ true → is_read m ≡ false
    → Coming gone dev (Front l n ended ps m page) pages
    → Coming gone (forward_after n dev (serve l n m page).parcels) (After (serve l n m page).lender n ended ps) pages
owes-plain l n m page ended ps dev gone pages s may plain h =
    coming-forwarded gone n dev (After (serve l n m page).lender n ended ps) (serve l n m page).parcels pages
    (serve-plain l n m page plain)
    (begins-map (pages_in dev.parcels) _ _ pages
    (λ xs.
    unless-map gone _ _
    (unless-map dev.ended _ _ (λ r. serve-reads l n m page ended ps xs s may (plain-asked _ _ m xs plain r))))
    h)

first-given :
    (l : Lender) (n : Link) (k : Lease) (i : ℕ) (R : List (List ℕ) → Type 0) (xs : List (List ℕ))
    → slot_page l n k i ≡ Some (page_in l.contents (slot_of l n k) i)
    → FirstIs (λ x. IsGiven k.0 l.next_lease (zero_page l) (slot_page l n k i) x) R xs
    → FirstIs (λ x. x ≡ page_in l.contents (slot_of l n k) i) R xs
first-given l n k i R [] e h = h
first-given l n k i R (x ∷ xs) e h = (subst (λ o. IsGiven k.0 l.next_lease (zero_page l) o x) e h.0, h.1)

owes-serve :
    (l : Lender) (n : Link) (m : Msg) (page : List ℕ) (ended : Bool) (ps : List Parcel) (dev : Lane) (gone : Bool)
    (pages : List (List ℕ))
    → IsSound l → may_send l n m ≡ true → gone ≡ false
    → Coming gone dev (Front l n ended ps m page) pages
    → Coming gone (forward_after n dev (serve l n m page).parcels) (After (serve l n m page).lender n ended ps) pages
owes-serve l n (msg.Read k i) page ended ps dev gone pages s may stands h =
    let shown : slot_page l n k i ≡ Some (page_in l.contents (slot_of l n k) i) = cond-true _ _ _ may in
    let own : (n.0 == n.0) ≡ true = eq-eqb n.0 n.0 refl in
    subst (λ lane. Coming gone lane (After l n ended ps) pages) (sym (cond-true (n.0 == n.0) _ dev own))
    (coming-page gone dev (After l n ended ps)
    (parcel_of (msg.PageIs k i) (page_in l.contents (slot_of l n k) i)) pages stands refl
    (begins-map (pages_in dev.parcels) _ _ pages
    (λ xs. unless-map gone _ _ (unless-map dev.ended _ _ (first-given l n k i (After l n ended ps) xs shown))) h))
owes-serve l n (msg.Hello version page_bytes pages_per_slab) page ended ps dev gone pages s may stands h =
    owes-plain l n (msg.Hello version page_bytes pages_per_slab) page ended ps dev gone pages s may refl h
owes-serve l n (msg.Query slab) page ended ps dev gone pages s may stands h =
    owes-plain l n (msg.Query slab) page ended ps dev gone pages s may refl h
owes-serve l n (msg.Borrow slab) page ended ps dev gone pages s may stands h =
    owes-plain l n (msg.Borrow slab) page ended ps dev gone pages s may refl h
owes-serve l n (msg.Write lease place) page ended ps dev gone pages s may stands h =
    owes-plain l n (msg.Write lease place) page ended ps dev gone pages s may refl h
owes-serve l n (msg.Rates lease value) page ended ps dev gone pages s may stands h =
    owes-plain l n (msg.Rates lease value) page ended ps dev gone pages s may refl h
owes-serve l n (msg.Done lease) page ended ps dev gone pages s may stands h =
    owes-plain l n (msg.Done lease) page ended ps dev gone pages s may refl h
owes-serve l n _ page ended ps dev gone pages s may stands h = cc

owes-abandon :
    (ch : Channel) (pages : List (List ℕ)) (R : List (List ℕ) → Type 0) → Coming ch.lender_gone ch.to_device R pages
    → Owes (leave_after ch) pages
owes-abandon ch pages R h = begins-map (pages_in ch.to_device.parcels) _ _ pages (λ xs _. tt) h

owes-served :
    (ch : Channel) (p : Parcel) (pages : List (List ℕ)) → IsSound ch.lender → ch.lender_gone ≡ false
    → Coming ch.lender_gone ch.to_device
    (Front ch.lender ch.number ch.to_lender.ended ch.to_lender.parcels p.msg p.page) pages
    → Owes (serve_after ch p).1 pages
owes-served ch p pages s stands h =
    cond_both (may_send ch.lender ch.number p.msg) _ _ (λ (x : Gave × Channel). Owes x.1 pages)
    (λ may.
    subst (λ (t : Turn). Owes (deliver_after ch t) pages) (sym (took-served ch.lender ch.number p.msg p.page may))
    (owes-serve ch.lender ch.number p.msg p.page ch.to_lender.ended ch.to_lender.parcels ch.to_device ch.lender_gone
    pages s may stands h))
    (λ _. owes-abandon ch pages _ h)

owes-given_from :
    (ch : Channel) (ps : List Parcel) (pages : List (List ℕ)) → IsSound ch.lender → ch.lender_gone ≡ false
    → ch.to_lender.parcels ≡ ps → Owes ch pages → Owes (given_from ch ps).1 pages
owes-given_from ch [] pages s stands is h =
    cond_both ch.to_lender.ended _ _ (λ (x : Gave × Channel). Owes x.1 pages) (λ _. owes-abandon ch pages _ h) (λ _. h)
owes-given_from ch (p ∷ ps) pages s stands is h =
    owes-served (record ch { to_lender = record ch.to_lender { parcels = ps } }) p pages s stands
    (subst (λ qs. Coming ch.lender_gone ch.to_device (After ch.lender ch.number ch.to_lender.ended qs) pages) is h)

owes-give : (ch : Channel) (pages : List (List ℕ)) → IsSound ch.lender → Owes ch pages → Owes (give_after ch).1 pages
owes-give ch pages s h =
    cond_both ch.lender_gone _ _ (λ (x : Gave × Channel). Owes x.1 pages) (λ _. h)
    (λ stands. owes-given_from ch ch.to_lender.parcels pages s stands refl h)

-- cut, crash and host

owes-cut :
    (ch : Channel) (to_lender to_device : ℕ) (pages : List (List ℕ)) → Owes ch pages
    → Owes (cut_after ch to_lender to_device).1 pages
owes-cut ch to_lender to_device pages h =
    begins-map (pages_in (take to_device ch.to_device.parcels)) _ _ pages (λ xs _. unless ch.lender_gone _ (λ _. tt))
    (begins-cut ch.to_device.parcels to_device _ pages h)

owes-crash : (ch : Channel) (pages : List (List ℕ)) → Owes ch pages → Owes (crash_after ch) pages
owes-crash ch pages h =
    cond_both ch.lender_gone _ _ (λ (x : Channel). Owes x pages)
    (λ gone.
    begins-map (pages_in ch.to_device.parcels) _ _ pages
    (λ xs _. unless ch.lender_gone _ (λ f. absurd (both_ways ch.lender_gone f gone))) h)
    (λ _. begins-map (pages_in ch.to_device.parcels) _ _ pages (λ xs _. tt) h)

host-reads :
    (l : Lender) (n : Link) (used word : ℕ) (ended : Bool) (ps : List Parcel) (xs : List (List ℕ))
    → After l n ended ps xs
    → After (host l used word).lender n ended ps xs
host-reads l n used word ended ps xs h =
    let z : zero_page l ≡ zero_page (host l used word).lender =
    sym (ap (λ lending. zero_page (record l { lending = lending })) (lending-host l used word)) in
    let same : l.next_lease ≤ (host l used word).lender.next_lease =
    subst (λ x. l.next_lease ≤ x) (sym (next-host l used word)) (omega arith) in
    subst (λ z.
    ReadsOwed ended (host l used word).lender.next_lease z (λ k i. slot_page (host l used word).lender n k i) ps xs)
    z
    (reads-later ended l.next_lease (host l used word).lender.next_lease (zero_page l) _ _ ps xs same
    (λ k i. later-same k.0 l.next_lease (zero_page l) _ _ (slot_page-host l used word n k i)) h)

owes-host :
    (ch : Channel) (used word : ℕ) (pages : List (List ℕ)) → Owes ch pages
    → Owes (deliver_after ch (host ch.lender used word)) pages
owes-host ch used word pages h =
    coming-forwarded ch.lender_gone ch.number ch.to_device
    (After (host ch.lender used word).lender ch.number ch.to_lender.ended ch.to_lender.parcels)
    (host ch.lender used word).parcels pages (host-plain ch.lender used word)
    (begins-map (pages_in ch.to_device.parcels) _ _ pages
    (λ xs.
    unless-map ch.lender_gone _ _
    (unless-map ch.to_device.ended _ _
    (host-reads ch.lender ch.number used word ch.to_lender.ended ch.to_lender.parcels xs)))
    h)

pub owes-connected : (ch : Channel) (n : Link) → Owes (connect_after ch n) []
owes-connected ch n = refl

pub owes-call :
    (ch : Channel) (c : FabricCall) (l : LenderNo) (pages : List (List ℕ)) → IsChannel ch → l.0 ≡ (lender_of c).0
    → Owes ch pages → changes_owing l c (on_channel ch c).0 ≡ false → Owes (on_channel ch c).1 pages
owes-call ch (Connect lender link) l pages is e h until =
    absurd (both_ways (same_lender l lender) until (eq-eqb l.0 lender.0 e))
owes-call ch (Send lender p) l pages is e h until =
    owes-send ch p pages h (and-second (same_lender l lender) _ (eq-eqb l.0 lender.0 e) until)
owes-call ch (Take lender) l pages is e h until =
    owes-take ch pages h (and-second (same_lender l lender) _ (eq-eqb l.0 lender.0 e) until)
owes-call ch (End lender) l pages is e h until = absurd (both_ways (same_lender l lender) until (eq-eqb l.0 lender.0 e))
owes-call ch (Give lender) l pages is e h until = owes-give ch pages is.sound h
owes-call ch (Cut lender to_lender to_device) l pages is e h until = owes-cut ch to_lender to_device pages h
owes-call ch (Crash lender) l pages is e h until = owes-crash ch pages h
owes-call ch (Host lender used word) l pages is e h until = owes-host ch used word pages h
