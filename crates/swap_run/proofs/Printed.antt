-- One more event is printed.
use Rattle.std.proofs.Common.{◌<◌, MatchOption, ◌≡◌, ℕ, ◌+◌, ◌≤◌, min, Bool, true, false, cond, OnErr, OnOk, Result, Ok, Err, List, [], ◌∷◌, ◌++◌, length, take, drop, refl, sym, ap, ◌∙◌, subst, arith, append_assoc, append-nil, zero-add, length-append, Option, None, Some}
use Rattle.std.proofs.lemmas.Grind.{flat_map-append}
use Rattle.std.proofs.lemmas.List.Concat.{flat_map-cons}
use Rattle.std.proofs.lemmas.List.{take-append-le, take_min}
use Rattle.std.proofs.lemmas.List.Sums.{sum_by-append}
use Rattle.std.proofs.Math.Seq.{take-append-add}
use Rattle.std.specs.List.{AllByRecursion}
use Rattle.std.specs.Io.KnownBytes.{Appends}
use Rattle.swap_io.specs.Causes.{AppendsFront}
use Rattle.swap_wire.specs.Input.{Input}
use Rattle.swap_wire.specs.Fabric.{FabricOf}
use Rattle.swap_wire.specs.declared.Event.{Event}
use Rattle.swap_wire.specs.declared.Event.TheVariants as event
use Rattle.swap_wire.specs.declared.Seen.{Seen}
use Rattle.swap_wire.specs.declared.Seen.TheVariants as seen
use Rattle.swap_base.specs.declared.EntryNo.{EntryNo}
use Rattle.swap_record.specs.History.{History}
use Rattle.swap_disk.specs.MemDiskView as drive
use Rattle.swap_disk.specs.MemDiskView.{MemDiskView}
use Rattle.swap_link.specs.Harbor as harbor
use Rattle.swap_link.specs.Harbor.{Harbor}
use Rattle.swap_table.specs.Ports.{run}
use Rattle.swap_table.specs.Device.{Device, of_device}
use Rattle.swap_device.specs.State.{KeepsRoom}
use Rattle.swap_world.specs.Laws.{StepsAreNext, HistoriesGoOn}
use Rattle.swap_table.specs.Happens.{happens}
use Rattle.swap_world.specs.World.{World, Next, IsEvent, next, next_by, next_of, reach, seens, history}
use Rattle.swap_world.specs.Runs.{WorldView, IsLogged, Adds, nothing, one, GoesOn, StandsIn, GrowsByCalls, has_effect, one_less_if}
use Rattle.swap_script.specs.Reading.{Script, calls_of, calls_in, page_after, first_event, without_first, is_out}
use Rattle.swap_script.specs.Laws.{LinesStay}
use Rattle.swap_script.specs.Transcript.{HasEntry, line}
use Rattle.swap_roundtrip.specs.Numbers.{LineFits, NumbersFit}
use Rattle.swap_run.specs.Run.{lines_of}
use Rattle.swap_run.specs.Printing.{world_in, lines_from, HasRoomFor, Printing}
use Rattle.swap_roundtrip.proofs.Runs.{new_call}
use Rattle.swap_world.proofs.CountsStayTrue.{adds_go_on}

-- what a sink took, and then took more of
pub appends_after : (a b c : Option (List ℕ)) (xs ys : List ℕ) → Appends a b xs → Appends b c ys → Appends a c (xs ++ ys)
appends_after None b c xs ys p q = tt
appends_after (Some ts) None c xs ys p q = absurd p
appends_after (Some ts) (Some us) None xs ys p q = absurd q
appends_after (Some ts) (Some us) (Some vs) xs ys p q = q ∙ ap (λ r. r ++ ys) p ∙ append_assoc ts xs ys

take_front : (n : ℕ) (xs ys : List ℕ) → take (min n (length xs)) (xs ++ ys) ≡ take n xs
take_front n xs ys = take-append-le (min n (length xs)) xs ys (omega arith) ∙ take_min n xs

pub front_more : (a b : Option (List ℕ)) (xs ys : List ℕ) → AppendsFront a b xs → AppendsFront a b (xs ++ ys)
front_more a b xs ys p = (min p.0 (length xs), let P : List ℕ → Type 0 = λ r. Appends a b r in subst P (sym (take_front p.0 xs ys)) p.1)

pub front_after : (a b c : Option (List ℕ)) (xs ys : List ℕ) → Appends a b xs → AppendsFront b c ys → AppendsFront a c (xs ++ ys)
front_after a b c xs ys p q =
    (length xs + q.0, let P : List ℕ → Type 0 = λ r. Appends a c r in subst P (sym (take-append-add xs ys q.0)) (appends_after a b c xs (take q.0 ys) p q.1))

-- an event reads the page that is handed in where it is a page-out, and no other does
happens-page : (d : Device) (i : Input) (is : List Input) (buf : List ℕ) → happens d (page_after (i ∷ is) buf) i.event ≡ happens d i.page i.event
happens-page d i is buf = go i.event refl
  where
    go : (e : Event) → i.event ≡ e → happens d (page_after (i ∷ is) buf) e ≡ happens d i.page e
    go (event.PageOut c p) e = ap (λ b. happens d (cond b i.page buf) (event.PageOut c p)) (ap is_out e)
    go (event.PageIn c p) e = refl
    go (event.Finish c) e = refl
    go event.Start e = refl
    go (event.Disk w ok) e = refl
    go (event.Tick w) e = refl
    go (event.Map s l) e = refl
    go (event.Connect l) e = refl
    go (event.Give l) e = refl
    go (event.Take l) e = refl
    go (event.Cut l a b) e = refl
    go (event.Crash l) e = refl
    go (event.Host l u w) e = refl
    go (event.Round w) e = refl

-- an event as the function makes it; only a page-out's page counts
next-page : (w : World) (i : Input) (is : List Input) (buf : List ℕ) → next_by w (page_after (i ∷ is) buf) i.event ≡ next_by w i.page i.event
next-page w i is buf = go i.event (happens-page w.device i is buf)
  where
    go : (e : Event) → happens w.device (page_after (i ∷ is) buf) e ≡ happens w.device i.page e → next_by w (page_after (i ∷ is) buf) e ≡ next_by w i.page e
    go (event.Round word) same = refl
    go e same = ap (λ p. next_of (run drive.ask harbor.ask p w.drive w.harbor)) same

steps_to : StepsAreNext → (now after : WorldView MemDiskView Harbor) (i : Input) (is : List Input) (buf : List ℕ) (s : Seen)
    → IsEvent drive.Moves harbor.Moves now.core.device now.core.disk now.core.fabric
    (record { event = i.event; page = page_after (i ∷ is) buf }) s after.core.device after.core.disk after.core.fabric
    → next (world_in now) i ≡ record { world = world_in after; seen = s }
steps_to steps now after i is buf s step =
    sym (next-page (world_in now) i is buf)
    ∙ steps now.core.device after.core.device now.core.disk after.core.disk now.core.fabric after.core.fabric
    (record { event = i.event; page = page_after (i ∷ is) buf }) s step

-- an entry that was seen is named by its line
pub has_entry : (H : History) (s : Seen) → StandsIn H s → HasEntry H s
has_entry H seen.Nothing h = tt
has_entry H (seen.Done e sent) h = h
has_entry H (seen.Fault e) h = h
has_entry H seen.Room h = tt
has_entry H seen.Busy h = tt
has_entry H seen.Idle h = tt
has_entry H (seen.Wait v) h = tt
has_entry H (seen.Again v) h = tt
has_entry H (seen.Started p e) h = tt
has_entry H (seen.Written e) h = tt
has_entry H (seen.WriteKept e) h = tt
has_entry H (seen.WriteDropped e) h = tt
has_entry H (seen.ReadCame p) h = tt
has_entry H (seen.ReadFailed p) h = tt
has_entry H seen.Ticked h = tt
has_entry H (seen.Asked a b c) h = tt
has_entry H seen.Borrowing h = tt
has_entry H (seen.Linked l) h = tt
has_entry H (seen.Gave m r e) h = tt
has_entry H seen.GaveEnd h = tt
has_entry H (seen.GaveEnded m) h = tt
has_entry H (seen.Took m) h = tt
has_entry H seen.Lost h = tt
has_entry H seen.Lied h = tt
has_entry H seen.Cut h = tt
has_entry H seen.Crashed h = tt
has_entry H (seen.Hosted m a) h = tt
has_entry H (seen.Rounded e m) h = tt

-- an entry that stands in a history stands in each that goes on from it
still_stands : (H : History) (more : History) (s : Seen) → HasEntry H s → HasEntry (more ++ H) s
still_stands H more (seen.Done e sent) h = let l = length-append more H in omega (arith, l, h)
still_stands H more (seen.Fault e) h = let l = length-append more H in omega (arith, l, h)
still_stands H more seen.Nothing h = tt
still_stands H more seen.Room h = tt
still_stands H more seen.Busy h = tt
still_stands H more seen.Idle h = tt
still_stands H more (seen.Wait v) h = tt
still_stands H more (seen.Again v) h = tt
still_stands H more (seen.Started p e) h = tt
still_stands H more (seen.Written e) h = tt
still_stands H more (seen.WriteKept e) h = tt
still_stands H more (seen.WriteDropped e) h = tt
still_stands H more (seen.ReadCame p) h = tt
still_stands H more (seen.ReadFailed p) h = tt
still_stands H more seen.Ticked h = tt
still_stands H more (seen.Asked a b c) h = tt
still_stands H more seen.Borrowing h = tt
still_stands H more (seen.Linked l) h = tt
still_stands H more (seen.Gave m r e) h = tt
still_stands H more seen.GaveEnd h = tt
still_stands H more (seen.GaveEnded m) h = tt
still_stands H more (seen.Took m) h = tt
still_stands H more seen.Lost h = tt
still_stands H more seen.Lied h = tt
still_stands H more seen.Cut h = tt
still_stands H more seen.Crashed h = tt
still_stands H more (seen.Hosted m a) h = tt
still_stands H more (seen.Rounded e m) h = tt

abbrev AllStand : History → List (Event × Seen) → Type 0
AllStand H pairs = AllByRecursion (λ (p : Event × Seen). HasEntry H p.1) pairs

all_stand : (H more : History) (pairs : List (Event × Seen)) → AllStand H pairs → AllStand (more ++ H) pairs
all_stand H more [] all = tt
all_stand H more (p ∷ pairs) all = (still_stands H more p.1 all.0, all_stand H more pairs all.1)

all_stand-append : (H : History) (pairs : List (Event × Seen)) (e : Event) (s : Seen) → AllStand H pairs → HasEntry H s → AllStand H (pairs ++ (e, s) ∷ [])
all_stand-append H [] e s all h = (h, tt)
all_stand-append H (p ∷ pairs) e s all h = (all.0, all_stand-append H pairs e s all.1 h)

-- printed lines stay
lines_same : LinesStay → (H more : History) (pairs : List (Event × Seen)) → AllStand H pairs → lines_of (more ++ H) pairs ≡ lines_of H pairs
lines_same stay H more [] all = refl
lines_same stay H more (p ∷ pairs) all =
    flat_map-cons (line (more ++ H)) p pairs ∙ ap (λ l. l ++ lines_of (more ++ H) pairs) (stay more H p.0 p.1 all.0)
    ∙ ap (λ ls. line H p ++ ls) (lines_same stay H more pairs all.1) ∙ sym (flat_map-cons (line H) p pairs)

lines_more : (H : History) (pairs : List (Event × Seen)) (p : Event × Seen) → lines_of H (pairs ++ p ∷ []) ≡ lines_of H pairs ++ line H p
lines_more H pairs p = flat_map-append (line H) pairs (p ∷ []) ∙ ap (λ l. lines_of H pairs ++ l) (flat_map-cons (line H) p [] ∙ append-nil (line H p))

one_less : (b : Bool) (n m : ℕ) → n + 1 ≤ m → n ≤ one_less_if b m
one_less true n m h = omega arith
one_less false n m h = omega arith

room_left :
    (now after : WorldView MemDiskView Harbor) (left left' : Script) (i : Input) (is : List Input) (s : Seen) → left.inputs ≡ i ∷ is → left'.inputs ≡ is
    → left'.sizes ≡ left.sizes → left'.lenders ≡ left.lenders
    → of_device after.core.device ≡ of_device now.core.device → KeepsRoom now.core after.core → GrowsByCalls i.event now.core.device after.core.device
    → after.log_spare ≡ one_less_if (has_effect i.event s) now.log_spare
    → HasRoomFor now left → HasRoomFor after left'
room_left now after left left' i is s el el' es eb of keeps grows log h =
    let calls : calls_of (i ∷ is) ≡ calls_in i.event + calls_of is =
    sum_by-append (λ (x : Input). calls_in x.event) (i ∷ []) is ∙ ap (λ n. n + calls_of is) (zero-add (calls_in i.event)) in
    let all : calls_of left.inputs ≡ calls_in i.event + calls_of is = ap calls_of el ∙ calls in
    let few : calls_of left'.inputs ≡ calls_of is = ap calls_of el' in
    let new = new_call i.event in
    let len : length left.inputs ≡ length (i ∷ is) = ap length el in
    let len' : length left'.inputs ≡ length is = ap length el' in
    let room = one_less (has_effect i.event s) (length is) now.log_spare (omega (arith, len, h.log)) in
    record {
      sizes = es ∙ h.sizes ∙ sym (ap (λ (o : FabricOf). o.sizes) of);
      lenders = ap (λ (o : FabricOf). o.lenders) of ∙ h.lenders ∙ ap length (sym eb);
      entries = omega (arith, all, few, new, keeps, grows, h.entries);
      log = omega (arith, len', room, log);
    }

-- one more line was taken
pub print_more :
    StepsAreNext → LinesStay
    → (first : WorldView MemDiskView Harbor) (all : List Input) (now after : WorldView MemDiskView Harbor) (left left' : Script) (i : Input) (is : List Input)
    (buf : List ℕ)
    (s : Seen) (bytes : List ℕ) (tb tm tn : Option (List ℕ))
    → Printing first all now left tb tm → left.inputs ≡ i ∷ is → left'.inputs ≡ is → left'.sizes ≡ left.sizes → left'.lenders ≡ left.lenders
    → IsEvent drive.Moves harbor.Moves now.core.device now.core.disk now.core.fabric
    (record { event = i.event; page = page_after (i ∷ is) buf }) s after.core.device after.core.disk after.core.fabric
    → of_device after.core.device ≡ of_device now.core.device → KeepsRoom now.core after.core → GrowsByCalls i.event now.core.device after.core.device
    → after.log_spare ≡ one_less_if (has_effect i.event s) now.log_spare
    → GoesOn now.core.device.history after.core.device.history → StandsIn after.core.device.history s
    → LineFits now.core.device.sizes.page_bytes i.event s after.core.device.history
    → bytes ≡ line after.core.device.history (i.event, s) → Appends tm tn bytes → Printing first all after left' tb tn
print_more steps stay first all now after left left' i is buf s bytes tb tm tn k el el' es eb step of keeps grows log goes stands fits is_line took =
    let nx = steps_to steps now after i is buf s step in
    let H : History = now.core.device.history in
    let H' : History = after.core.device.history in
    let so_far : List (Event × Seen) = k.so_far ++ (i.event, s) ∷ [] in
    let stand' : AllStand H' k.so_far = subst (λ h. AllStand h k.so_far) (sym goes.1) (all_stand H goes.0 k.so_far k.stand) in
    let same : lines_of H' k.so_far ≡ lines_of H k.so_far = ap (λ h. lines_of h k.so_far) goes.1 ∙ lines_same stay H goes.0 k.so_far k.stand in
    record {
      so_far = so_far;
      seens =
          k.seens ∙ ap (λ l. k.so_far ++ seens (world_in now) l) el ∙ ap (λ (n : Next). k.so_far ++ ((i.event, n.seen) ∷ seens n.world is)) nx
          ∙ sym (append_assoc k.so_far ((i.event, s) ∷ []) (seens (world_in after) is)) ∙ ap (λ l. so_far ++ seens (world_in after) l) (sym el');
      reaches = k.reaches ∙ ap (λ l. reach (world_in now) l) el ∙ ap (λ (n : Next). reach n.world is) nx ∙ ap (λ l. reach (world_in after) l) (sym el');
      stand = all_stand-append H' k.so_far i.event s stand' (has_entry H' s stands);
      taken =
          let P : List ℕ → Type 0 = λ r. Appends tb tn r in
          subst P (ap (λ l. l ++ bytes) (sym same) ∙ ap (λ b. lines_of H' k.so_far ++ b) is_line ∙ sym (lines_more H' k.so_far (i.event, s)))
          (appends_after tb tm tn (lines_of H k.so_far) bytes k.taken took);
      room = room_left now after left left' i is s el el' es eb of keeps grows log k.room;
      fits =
          λ rest.
          let size : ℕ = now.core.device.sizes.page_bytes in
          let P : Next → Type 0 = λ n. LineFits size i.event n.seen (history n.world) × NumbersFit n.world is in
          let later : NumbersFit (world_in after) is = subst (NumbersFit (world_in after)) el' rest in
          k.fits (subst (NumbersFit (world_in now)) (sym el) (subst P (sym nx) (fits, later)));
    }

-- a line was broken off
pub print_broke :
    StepsAreNext → LinesStay → HistoriesGoOn
    → (first : WorldView MemDiskView Harbor) (all : List Input) (now after : WorldView MemDiskView Harbor) (left : Script) (i : Input) (is : List Input)
    (buf : List ℕ)
    (s : Seen)
    (bytes : List ℕ) (tb tm tn : Option (List ℕ))
    → Printing first all now left tb tm → left.inputs ≡ i ∷ is
    → IsEvent drive.Moves harbor.Moves now.core.device now.core.disk now.core.fabric
    (record { event = i.event; page = page_after (i ∷ is) buf }) s after.core.device after.core.disk after.core.fabric
    → GoesOn now.core.device.history after.core.device.history → StandsIn after.core.device.history s
    → bytes ≡ line after.core.device.history (i.event, s) → AppendsFront tm tn bytes → AppendsFront tb tn (lines_from (world_in first) all)
print_broke steps stay on first all now after left i is buf s bytes tb tm tn k el step goes stands is_line took =
    let nx = steps_to steps now after i is buf s step in
    let H : History = now.core.device.history in
    let H' : History = after.core.device.history in
    let end = on (world_in after) is in
    let F : History = history (reach (world_in after) is) in
    let rest : List (Event × Seen) = seens (world_in after) is in
    let pairs : seens (world_in first) all ≡ (k.so_far ++ (i.event, s) ∷ []) ++ rest =
    k.seens ∙ ap (λ l. k.so_far ++ seens (world_in now) l) el ∙ ap (λ (n : Next). k.so_far ++ ((i.event, n.seen) ∷ seens n.world is)) nx
    ∙ sym (append_assoc k.so_far ((i.event, s) ∷ []) rest) in
    let last : reach (world_in first) all ≡ reach (world_in after) is =
    k.reaches ∙ ap (λ l. reach (world_in now) l) el ∙ ap (λ (n : Next). reach n.world is) nx in
    let stand' : AllStand H' k.so_far = subst (λ h. AllStand h k.so_far) (sym goes.1) (all_stand H goes.0 k.so_far k.stand) in
    let here : HasEntry H' s = has_entry H' s stands in
    let now_lines : lines_of H' k.so_far ≡ lines_of H k.so_far = ap (λ h. lines_of h k.so_far) goes.1 ∙ lines_same stay H goes.0 k.so_far k.stand in
    let mine : lines_of F (k.so_far ++ (i.event, s) ∷ []) ≡ lines_of H' (k.so_far ++ (i.event, s) ∷ []) =
    ap (λ h. lines_of h (k.so_far ++ (i.event, s) ∷ [])) end.1
    ∙ lines_same stay H' end.0 (k.so_far ++ (i.event, s) ∷ []) (all_stand-append H' k.so_far i.event s stand' here) in
    let split : lines_from (world_in first) all ≡ (lines_of H k.so_far ++ bytes) ++ lines_of F rest =
    ap (λ (w : World). lines_of (history w) (seens (world_in first) all)) last ∙ ap (λ ps. lines_of F ps) pairs
    ∙ flat_map-append (line F) (k.so_far ++ (i.event, s) ∷ []) rest
    ∙ ap (λ l. l ++ lines_of F rest)
    (mine ∙ lines_more H' k.so_far (i.event, s) ∙ ap (λ l. l ++ line H' (i.event, s)) now_lines ∙ ap (λ b. lines_of H k.so_far ++ b) (sym is_line)) in
    let P : List ℕ → Type 0 = λ r. AppendsFront tb tn r in
    subst P (sym split) (front_more tb tn (lines_of H k.so_far ++ bytes) (lines_of F rest) (front_after tb tm tn (lines_of H k.so_far) bytes k.taken took))

-- whatever the answer
pub any_err : {T E : Type 0} (r : Result T E) (P : Type 0) → P → OnErr r P
any_err (Ok x) P p = tt
any_err (Err e) P p = p

-- three pieces, one after another
pub first_broke : (a b : Option (List ℕ)) (bytes xs ys zs : List ℕ) → bytes ≡ xs → AppendsFront a b bytes → AppendsFront a b (xs ++ ys ++ zs)
first_broke a b bytes xs ys zs e p = front_more a b (xs ++ ys) zs (front_more a b xs ys (let P : List ℕ → Type 0 = λ r. AppendsFront a b r in subst P e p))

pub second_broke :
    (a b c : Option (List ℕ)) (bytes xs ys zs : List ℕ) → bytes ≡ xs → Appends a b bytes → AppendsFront b c ys → AppendsFront a c (xs ++ ys ++ zs)
second_broke a b c bytes xs ys zs e p q = front_more a c (xs ++ ys) zs (front_after a b c xs ys (let P : List ℕ → Type 0 = λ r. Appends a b r in subst P e p) q)

pub third_broke :
    (a b c d : Option (List ℕ)) (bytes xs ys more zs : List ℕ) → bytes ≡ xs → more ≡ zs → Appends a b bytes → Appends b c ys → AppendsFront c d more
    → AppendsFront a d (xs ++ ys ++ zs)
third_broke a b c d bytes xs ys more zs e f p q r =
    front_after a c d (xs ++ ys) zs (appends_after a b c xs ys (let P : List ℕ → Type 0 = λ r. Appends a b r in subst P e p) q)
    (let P : List ℕ → Type 0 = λ r. AppendsFront c d r in subst P f r)

pub all_taken :
    (a b c d : Option (List ℕ)) (bytes xs ys more zs : List ℕ) → bytes ≡ xs → more ≡ zs → Appends a b bytes → Appends b c ys → Appends c d more
    → Appends a d (xs ++ ys ++ zs)
all_taken a b c d bytes xs ys more zs e f p q r =
    appends_after a c d (xs ++ ys) zs (appends_after a b c xs ys (let P : List ℕ → Type 0 = λ r. Appends a b r in subst P e p) q)
    (let P : List ℕ → Type 0 = λ r. Appends c d r in subst P f r)

pub err_by : {T E : Type 0} (r : Result T E) (P Q : Type 0) → (P → Q) → OnErr r P → OnErr r Q
err_by (Ok x) P Q f h = tt
err_by (Err e) P Q f h = f h

pub ok_by : {T E : Type 0} (r : Result T E) (P Q : Type 0) → (P → Q) → OnOk r P → OnOk r Q
ok_by (Ok x) P Q f h = f h
ok_by (Err e) P Q f h = tt

adds_stand : (d : Device) (i : Input) (s : Seen) (H : History) → Adds d i s H → StandsIn H s
adds_stand d i s H (nothing seen_none same) =
    let P : Option EntryNo → Type 0 = λ o. MatchOption o (Unit {0}) (λ (e : EntryNo). e.0 < length H) in subst P (sym seen_none) tt
adds_stand d i s H (one row seen_one same answers) =
    let P : Option EntryNo → Type 0 = λ o. MatchOption o (Unit {0}) (λ (e : EntryNo). e.0 < length H) in subst P (sym seen_one) (rw same (omega arith))

-- an event was made, and its line is this
pub record IsMade (now after : WorldView MemDiskView Harbor) (e : Event) (page : List ℕ) (s : Seen) (bytes : List ℕ) : Type 0 where
  pub step : IsEvent drive.Moves harbor.Moves now.core.device now.core.disk now.core.fabric
      (record { event = e; page = page }) s after.core.device after.core.disk after.core.fabric
  pub of : of_device after.core.device ≡ of_device now.core.device
  pub keeps : KeepsRoom now.core after.core
  pub grows : GrowsByCalls e now.core.device after.core.device
  pub log : IsLogged e s now after
  pub adds : Adds now.core.device (record { event = e; page = page }) s after.core.device.history
  pub fits : LineFits now.core.device.sizes.page_bytes e s after.core.device.history
  pub is_line : bytes ≡ line after.core.device.history (e, s)

-- a line's numbers fit in the terms of the world
pub line_fits_at : {m n : ℕ} {e : Event} {s : Seen} {H K : History} → LineFits m e s H → m ≡ n → H ≡ K → LineFits n e s K
line_fits_at {m} {n} {e} {s} {H} {K} fits size same = subst (LineFits n e s) same (subst (λ k. LineFits k e s H) size fits)

-- no event is left, so all numbers fit
pub all_fit :
    (first : WorldView MemDiskView Harbor) (all : List Input) (now : WorldView MemDiskView Harbor) (left : Script) (tb tn : Option (List ℕ))
    → Printing first all now left tb tn
    → None ≡ first_event left.inputs → NumbersFit (world_in first) all
all_fit first all now left tb tn k none = go left.inputs refl none
  where
    go : (inputs : List Input) → left.inputs ≡ inputs → None ≡ first_event inputs → NumbersFit (world_in first) all
    go [] is none = k.fits (subst (NumbersFit (world_in now)) (sym is) tt)
    go (i ∷ inputs) is none = cc

some_is : {X : Type 0} {x y : X} → Some x ≡ Some y → x ≡ y
some_is e = cc

made_at :
    (now after : WorldView MemDiskView Harbor) (e e' : Event) (page page' : List ℕ) (s : Seen) (bytes : List ℕ) → e ≡ e' → page ≡ page'
    → IsMade now after e page s bytes
    → IsMade now after e' page' s bytes
made_at now after e e' page page' s bytes ee ep m =
    let P : Event → Type 0 = λ x. IsMade now after x page s bytes in
    let Q : List ℕ → Type 0 = λ x. IsMade now after e' x s bytes in subst Q ep (subst P ee m)

pub printed_more :
    StepsAreNext → LinesStay
    → (first : WorldView MemDiskView Harbor) (all : List Input) (now after : WorldView MemDiskView Harbor) (left left' : Script) (e : Event) (page buf : List ℕ)
    (s : Seen)
    (bytes : List ℕ) (tb tm tn : Option (List ℕ))
    → Printing first all now left tb tm → Some e ≡ first_event left.inputs → left' ≡ without_first left → page ≡ page_after left.inputs buf
    → IsMade now after e page s bytes → Appends tm tn bytes → Printing first all after left' tb tn
printed_more steps stay first all now after left left' e page buf s bytes tb tm tn k ee el ep m took = go left.inputs refl ee ep
  where
    go : (inputs : List Input) → left.inputs ≡ inputs → Some e ≡ first_event inputs → page ≡ page_after inputs buf → Printing first all after left' tb tn
    go [] is ee ep = cc
    go (i ∷ is) is_inputs ee ep =
        let made = made_at now after e i.event page (page_after (i ∷ is) buf) s bytes (some_is ee) ep m in
        print_more steps stay first all now after left left' i is buf s bytes tb tm tn k is_inputs
        (ap (λ (x : Script). x.inputs) el ∙ ap (λ l. drop 1 l) is_inputs) (ap (λ (x : Script). x.sizes) el) (ap (λ (x : Script). x.lenders) el)
        made.step made.of made.keeps made.grows made.log.room (adds_go_on _ _ _ _ made.adds) (adds_stand _ _ _ _ made.adds) made.fits made.is_line took

pub printed_broke :
    StepsAreNext → LinesStay → HistoriesGoOn
    → (first : WorldView MemDiskView Harbor) (all : List Input) (now after : WorldView MemDiskView Harbor) (left : Script) (e : Event) (page buf : List ℕ)
    (s : Seen)
    (bytes : List ℕ) (tb tm tn : Option (List ℕ))
    → Printing first all now left tb tm → Some e ≡ first_event left.inputs → page ≡ page_after left.inputs buf → IsMade now after e page s bytes
    → AppendsFront tm tn bytes → AppendsFront tb tn (lines_from (world_in first) all)
printed_broke steps stay on first all now after left e page buf s bytes tb tm tn k ee ep m took = go left.inputs refl ee ep
  where
    go :
        (inputs : List Input) → left.inputs ≡ inputs → Some e ≡ first_event inputs → page ≡ page_after inputs buf
        → AppendsFront tb tn (lines_from (world_in first) all)
    go [] is ee ep = cc
    go (i ∷ is) is_inputs ee ep =
        let made = made_at now after e i.event page (page_after (i ∷ is) buf) s bytes (some_is ee) ep m in
        print_broke steps stay on first all now after left i is buf s bytes tb tm tn k is_inputs made.step (adds_go_on _ _ _ _ made.adds)
        (adds_stand _ _ _ _ made.adds) made.is_line took

-- the same bytes
pub taken_as : (a b : Option (List ℕ)) (xs ys : List ℕ) → xs ≡ ys → Appends a b xs → Appends a b ys
taken_as a b xs ys e h = let P : List ℕ → Type 0 = λ r. Appends a b r in subst P e h

pub front_as : (a b : Option (List ℕ)) (xs ys : List ℕ) → xs ≡ ys → AppendsFront a b xs → AppendsFront a b ys
front_as a b xs ys e h = let P : List ℕ → Type 0 = λ r. AppendsFront a b r in subst P e h
