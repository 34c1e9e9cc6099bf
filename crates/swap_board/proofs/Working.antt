-- What works on a world besides the steps of calls, one after another.
use Rattle.std.proofs.Common.{◌≡◌, ◌≢◌, ◌+◌, ◌≤◌, ◌<◌, ℕ, suc, zero, not, nat_le, nat_lt, cond, Bool, true, false, count_by, get_or, List, [], ◌∷◌, ◌++◌, length, refl, sym, ap, ◌∙◌, subst, arith, append_assoc, Option, None, Some}
use Rattle.std.proofs.lemmas.List.{append-nil, length-append}
use Rattle.std.proofs.lemmas.Bool.Decides.{nat_tests}
use Rattle.rand_pcg.specs.Lcg.{Lcg}
use Rattle.rand_pcg.specs.Pcg.{pcg32}
use Rattle.swap_base.specs.declared.Caller.{Caller}
use Rattle.swap_wire.specs.Input.{Input, IsInRange}
use Rattle.swap_wire.specs.declared.Event.{Event}
use Rattle.swap_wire.specs.declared.Event.TheVariants as event
use Rattle.swap_wire.specs.declared.Seen.{Seen}
use Rattle.swap_wire.specs.declared.Seen.TheVariants as seen
use Rattle.swap_wire.specs.Fabric.{FabricCall, FabricAnswer}
use Rattle.swap_base.specs.Sizes.{Sizes}
use Rattle.swap_base.specs.declared.Lender.{Lender}
use Rattle.swap_base.specs.declared.DiskWhich.{DiskWhich}
use Rattle.swap_wire.specs.Fabric.{FabricOf}
use Rattle.swap_disk.specs.Port.{Port, DiskCall, DiskAnswer, TakeDone, TellsOldest}
use Rattle.swap_disk.specs.Disk.{Taken}
use Rattle.swap_record.specs.History.{History, Row}
use Rattle.swap_calls.specs.Calls.{Calls, state_of, idle_call, is_idle}
use Rattle.swap_base.proofs.Lists.{one_if, count_by-cons}
use Rattle.swap_table.specs.Ports.{Along}
use Rattle.swap_table.specs.Device.{Device, disk_take, took_back, of_device}
use Rattle.swap_device.specs.State.{KeepsRoom}
use Rattle.swap_world.specs.World.{IsEvent}
use Rattle.swap_world.specs.Runs.{WorldView, has_effect, logged_if, Adds, nothing, one, AnswersEvent, IsPolled, is_busy_call, busy_callers, GrowsByCalls, is_new_call, one_less_if, StaysIdle}
use Rattle.swap_board.specs.Acts.{Act, Made, Polled, Maker, Player, Pacer, lines_of, seed_after, PACE}
use Rattle.swap_board.specs.Works.{IsSame, Works, Stepped, Ended, Polls, Pumps, PumpsAs, MakesOne, MakesAs, moved_by, moved_between, IsCallless, Paced, ends, known_operation}
use Rattle.swap_board.specs.declared.works.Point.TheVariants as point
use Rattle.swap_board.specs.declared.works.Moved.{Moved}
use Rattle.swap_board.specs.declared.works.Moved.TheVariants as moved
use Rattle.swap_board.proofs.Acts.{makes_on, makes_none, makes_step, makes_poll}

-- an event that is no step of a call answers none, and wants no room
answers_none : (d : Device) (page : List ℕ) (e : Event) (row : Row) → IsCallless e → AnswersEvent d page e row → ⊥
answers_none d page (event.PageOut c p) row is a = is
answers_none d page (event.PageIn c p) row is a = is
answers_none d page (event.Finish c) row is a = is
answers_none d page e row is a = a

callless_old : (e : Event) → IsCallless e → is_new_call e ≡ 0
callless_old (event.PageOut c p) is = absurd is
callless_old (event.PageIn c p) is = absurd is
callless_old e is = refl

pub callless_adds : (d : Device) (i : Input) (s : Seen) (H : History) → IsCallless i.event → Adds d i s H → H ≡ d.history
callless_adds d i s H is (nothing none same) = same
callless_adds d i s H is (one row seen_ same answers) = absurd (answers_none d i.page i.event row is answers)

-- where as many calls are idle, as many are busy
busy_same :
    (xs ys : Calls) → ((n : ℕ) → is_idle (get_or xs n idle_call).state ≡ is_idle (get_or ys n idle_call).state)
    → count_by is_busy_call xs ≡ count_by is_busy_call ys
busy_same [] [] same = refl
busy_same [] (y ∷ ys) same =
    let first : one_if true ≡ one_if (is_idle y.state) = ap one_if (same 0) in
    let here : one_if (is_busy_call y) ≡ 0 = by_idle (is_idle y.state) first in
    let rest : count_by is_busy_call [] ≡ count_by is_busy_call ys = busy_same [] ys (λ n. same (suc n)) in
    let a = count_by-cons is_busy_call y ys in omega (arith, a, here, rest)
  where
    by_idle : (b : Bool) → one_if true ≡ one_if b → one_if (not b) ≡ 0
    by_idle true e = refl
    by_idle false e = absurd (omega (arith, e))
busy_same (x ∷ xs) [] same =
    let first : one_if (is_idle x.state) ≡ one_if true = ap one_if (same 0) in
    let here : one_if (is_busy_call x) ≡ 0 = by_idle (is_idle x.state) first in
    let rest : count_by is_busy_call xs ≡ count_by is_busy_call [] = busy_same xs [] (λ n. same (suc n)) in
    let a = count_by-cons is_busy_call x xs in omega (arith, a, here, rest)
  where
    by_idle : (b : Bool) → one_if b ≡ one_if true → one_if (not b) ≡ 0
    by_idle true e = refl
    by_idle false e = absurd (omega (arith, e))
busy_same (x ∷ xs) (y ∷ ys) same =
    let here : one_if (is_busy_call x) ≡ one_if (is_busy_call y) = ap (λ b. one_if (not b)) (same 0) in
    let rest : count_by is_busy_call xs ≡ count_by is_busy_call ys = busy_same xs ys (λ n. same (suc n)) in
    let a = count_by-cons is_busy_call x xs in let b = count_by-cons is_busy_call y ys in omega (arith, a, b, here, rest)

-- a caller with a call under way is busy
pub busy_some : (cs : Calls) (n : ℕ) → is_idle (get_or cs n idle_call).state ≡ false → 0 < count_by is_busy_call cs
busy_some [] n busy = cc
busy_some (x ∷ cs) zero busy = let a = count_by-cons is_busy_call x cs in let b = ap (λ i. one_if (not i)) busy in omega (arith, a, b)
busy_some (x ∷ cs) (suc n) busy = let a = count_by-cons is_busy_call x cs in let b = busy_some cs n busy in omega (arith, a, b)

-- room for one more after an event
pub room_left : (b : Bool) (n m k : ℕ) → n ≡ one_less_if b m → suc k ≤ m → k ≤ n
room_left true n m k is more = omega (arith, is, more)
room_left false n m k is more = omega (arith, is, more)

-- what a port's poll is along the device's program
pub poll_along : {D F : Type 0} (disk_moves : D → (c : DiskCall) → DiskAnswer c → D → Type 0) (moves : F → (c : FabricCall) → FabricAnswer c → F → Type 0)
    (d d' : Device) (k k' : D) (f f' : F) (taken : Option Taken)
    → disk_moves k TakeDone taken k' → f' ≡ f → d' ≡ (took_back d taken).0 → Along disk_moves moves (disk_take d) k f k' f' (d', (took_back d taken).1)
poll_along disk_moves moves d d' k k' f f' taken moved ef ed = (taken, k', moved, (refl, ef, ap (λ (x : Device). (x, (took_back d taken).1)) ed))

-- a log grew exactly where it got lines
pub moved_is : (log lines now : List (Event × Seen)) → now ≡ log ++ lines → moved_between (length log) (length now) ≡ moved_by lines
moved_is log [] now is =
    let len = ap length is in let a = length-append log [] in
    let no : nat_lt (length log) (length now) ≡ false = (let same : length now ≡ length log = omega (arith, len, a) in grind (arith, nat_tests, same)) in
    ap (λ b. cond b moved.Did moved.Nothing) no
moved_is log (line ∷ lines) now is =
    let len = ap length is in let a = length-append log (line ∷ lines) in
    let yes : nat_lt (length log) (length now) ≡ true = (let more : length log < length now = omega (arith, len, a) in grind (arith, nat_tests, more)) in
    ap (λ b. cond b moved.Did moved.Nothing) yes

never_none : (before now : ℕ) → moved.NoMemory ≡ moved_between before now → ⊥
never_none before now is = by_test (nat_lt before now) is
  where
    by_test : (b : Bool) → moved.NoMemory ≡ cond b moved.Did moved.Nothing → ⊥
    by_test true e = cc
    by_test false e = cc

module _ {D F : Type 0} (disk_moves : D → (c : DiskCall) → DiskAnswer c → D → Type 0) (moves : F → (c : FabricCall) → FabricAnswer c → F → Type 0) where
  pub works_on :
      (first w w' : WorldView D F) (acts new : List Act) → Works disk_moves moves acts first w → Works disk_moves moves new w w'
      → Works disk_moves moves (new ++ acts) first w'
  works_on first w w' acts new was now = record {
    makes = makes_on disk_moves moves first w w' acts new was.makes now.makes;
    history = now.history ∙ was.history;
    busy = let a = was.busy in let b = now.busy in omega (arith, a, b);
    spare = let a = was.spare in let b = now.spare in omega (arith, a, b);
  }

  pub works_same : (w w' : WorldView D F) → IsSame w w' → Works disk_moves moves [] w w'
  works_same w w' same = record {
    makes = makes_none disk_moves moves w w' same.device same.disk same.fabric same.log;
    history = ap (λ (d : Device). d.history) same.device;
    busy = let e = ap busy_callers same.device in omega (arith, e);
    spare = same.spare;
  }

  -- after room was made
  pub works_after : (w w1 w' : WorldView D F) (new : List Act) → IsSame w w1 → Works disk_moves moves new w1 w' → Works disk_moves moves new w w'
  works_after w w1 w' new same works = subst (λ l. Works disk_moves moves l w w') (append-nil new) (works_on w w1 w' [] new (works_same w w1 same) works)

  -- one event that is no step of a call
  pub works_step : (w w' : WorldView D F) (by : Maker) (i : Input) (s : Seen) → IsCallless i.event → IsInRange w.core.device.sizes w.core.device.lenders i.event
      → IsEvent disk_moves moves w.core.device w.core.disk w.core.fabric i s w'.core.device w'.core.disk w'.core.fabric
      → w'.log ≡ logged_if (has_effect i.event s) w.log i.event s → of_device w'.core.device ≡ of_device w.core.device
      → Adds w.core.device i s w'.core.device.history
      → KeepsRoom w.core w'.core → GrowsByCalls i.event w.core.device w'.core.device → Works disk_moves moves (Made by i s ∷ []) w w'
  works_step w w' by i s is range step logged of adds room grows =
      let same : w'.core.device.history ≡ w.core.device.history = callless_adds w.core.device i s w'.core.device.history is adds in
      let len : length w'.core.device.history ≡ length w.core.device.history = ap length same in
      let old = callless_old i.event is in
      record {
        makes = makes_step disk_moves moves w w' by i s range step logged of;
        history = same;
        busy = omega (arith, grows, len, old);
        spare = omega (arith, room, len);
      }

  -- a poll
  pub works_poll :
      (w w' : WorldView D F) (s : Seen) → (p : IsPolled disk_moves w.core.device w.core.disk w.log s w'.core.device w'.core.disk w'.log)
      → w'.core.fabric ≡ w.core.fabric → w'.core.device.history ≡ w.core.device.history
      → w'.core.spare ≡ w.core.spare → of_device w'.core.device ≡ of_device w.core.device
      → ((c : Caller) → is_idle (state_of w'.core.device.calls c) ≡ is_idle (state_of w.core.device.calls c))
      → Works disk_moves moves (Polled (took_back w.core.device p.taken).1 ∷ []) w w'
  works_poll w w' s p fabric history spare of idle_ = record {
    makes =
        makes_poll disk_moves moves w w' (took_back w.core.device p.taken).1
        (poll_along disk_moves moves w.core.device w'.core.device w.core.disk w'.core.disk w.core.fabric w'.core.fabric p.taken p.moved fabric p.device)
        p.logged of;
    history = history;
    busy = let e = busy_same w'.core.device.calls w.core.device.calls (λ n. idle_ (record { 0 = n })) in omega (arith, e);
    spare = omega (arith, spare);
  }

  abbrev round_of : Lcg → List ℕ → Seen → List Act
  round_of g page s = Made Pacer (record { event = event.Round (pcg32 g).0; page = page }) s ∷ []

  -- no Round is due
  pub paced_none : (since : ℕ) (g : Lcg) (w w1 : WorldView D F) → since < PACE → IsSame w w1 → 0 < w1.log_spare → Paced disk_moves moves since g w since g w1
  paced_none since g w w1 early same room =
      let no : nat_le PACE since ≡ false = grind (arith, nat_tests, early) in
      let P : Bool → Type 0 = λ b. Works disk_moves moves (cond b (round_of g [] seen.Nothing) []) w w1 in
      let Q : Bool → Type 0 = λ b. g ≡ seed_after g (cond b (round_of g [] seen.Nothing) []) in
      let R : Bool → Type 0 = λ b. since ≡ cond b 0 since in
      let I : Device → Type 0 = λ d. (c : Caller) → c.0 < w.core.device.sizes.callers → is_idle (state_of w.core.device.calls c) ≡ true
      → is_idle (state_of d.calls c) ≡ true in
      record {
        page = [];
        seen = seen.Nothing;
        works = subst P (sym no) (works_same w w1 same);
        words = subst Q (sym no) refl;
        since_is = subst R (sym no) refl;
        room = room;
        idle = subst I (sym same.device) (λ c within is. is);
      }

  -- a Round is made
  pub paced_round :
      (since : ℕ) (g g' : Lcg) (word : ℕ) (page : List ℕ) (s : Seen) (w w1 w' : WorldView D F) → PACE ≤ since → (word, g') ≡ pcg32 g → IsSame w w1
      → Works disk_moves moves (Made Pacer (record { event = event.Round word; page = page }) s ∷ []) w1 w'
      → StaysIdle w1.core.device (event.Round word) w'.core.device → 0 < w'.log_spare → Paced disk_moves moves since g w 0 g' w'
  paced_round since g g' word page s w w1 w' late drew same works stays room =
      let yes : nat_le PACE since ≡ true = grind (arith, nat_tests, late) in
      let word_is : word ≡ (pcg32 g).0 = ap (λ p. p.0) drew in
      let now : Works disk_moves moves (Made Pacer (record { event = event.Round word; page = page }) s ∷ []) w w' =
      works_on w w1 w' [] (Made Pacer (record { event = event.Round word; page = page }) s ∷ []) (works_same w w1 same) works in
      let W : ℕ → Type 0 = λ n. Works disk_moves moves (Made Pacer (record { event = event.Round n; page = page }) s ∷ []) w w' in
      let P : Bool → Type 0 = λ b. Works disk_moves moves (cond b (round_of g page s) []) w w' in
      let Q : Bool → Type 0 = λ b. g' ≡ seed_after g (cond b (round_of g page s) []) in
      let R : Bool → Type 0 = λ b. 0 ≡ cond b 0 since in
      let I : Device → Type 0 = λ d. (c : Caller) → c.0 < d.sizes.callers → is_idle (state_of d.calls c) ≡ true
      → is_idle (state_of w'.core.device.calls c) ≡ true in
      record {
        page = page;
        seen = s;
        works = subst P (sym yes) (subst W word_is now);
        words = subst Q (sym yes) (ap (λ p. p.1) drew);
        since_is = subst R (sym yes) refl;
        room = room;
        idle = subst I same.device (λ c within is. stays c within is refl);
      }

  -- the oldest operation of a disk in memory finishes, where there is one
  pub ended_some :
      (means : D → Port) (w w' : WorldView D F) (oldest : Option DiskWhich) (which : DiskWhich)
      → TellsOldest (means w.core.disk).blocks (means w.core.disk).flights oldest → known_operation w.core.device.sizes oldest ≡ Some which
      → Stepped disk_moves moves (event.Disk which true) w w' → Ended disk_moves moves means w w'
  ended_some means w w' oldest which tells is made =
      let P : Option DiskWhich → Type 0 = λ o. Works disk_moves moves (ends o made.page made.seen) w w' in
      record { oldest = oldest; tells = tells; page = made.page; seen = made.seen; works = subst P (sym is) (made.works Player) }

  pub ended_none :
      (means : D → Port) (w : WorldView D F) (oldest : Option DiskWhich) → TellsOldest (means w.core.disk).blocks (means w.core.disk).flights oldest
      → known_operation w.core.device.sizes oldest ≡ None → Ended disk_moves moves means w w
  ended_none means w oldest tells is =
      let P : Option DiskWhich → Type 0 = λ o. Works disk_moves moves (ends o [] seen.Nothing) w w in
      record {
        oldest = oldest;
        tells = tells;
        page = [];
        seen = seen.Nothing;
        works = subst P (sym is) (works_same w w (record { device = refl; disk = refl; fabric = refl; log = refl; spare = omega arith }));
      }

  -- all of what a pump makes at the disk
  worked_disk :
      (means : D → Port) (w w1 w2 w3 w' : WorldView D F) → IsSame w w1 → Stepped disk_moves moves event.Start w1 w2 → Ended disk_moves moves means w2 w3
      → Polls disk_moves moves w3 w' → (m : Moved) → m ≡ moved_between (length w.log) (length w'.log) → Pumps disk_moves moves means point.Disk m w w'
  worked_disk means w w1 w2 w3 w' same start ended polled m says =
      let first : List Act = Made Player (record { event = event.Start; page = start.page }) start.seen ∷ [] in
      let starts : Works disk_moves moves first w w2 = works_after w w1 w2 first same (start.works Player) in
      let sizes : w2.core.device.sizes ≡ w.core.device.sizes = ap (λ (o : FabricOf). o.sizes) starts.makes.of in
      let E : Sizes → Type 0 = λ s. Works disk_moves moves (ends (known_operation s ended.oldest) ended.page ended.seen) w2 w3 in
      let middle : List Act = ends (known_operation w.core.device.sizes ended.oldest) ended.page ended.seen in
      let rest : Works disk_moves moves (Polled polled.step ∷ middle) w2 w' =
      works_on w2 w3 w' middle (Polled polled.step ∷ []) (subst E sizes ended.works) polled.works in
      let all : Works disk_moves moves ((Polled polled.step ∷ middle) ++ first) w w' = works_on w w2 w' first (Polled polled.step ∷ middle) starts rest in
      record {
        acts = (Polled polled.step ∷ middle) ++ first;
        works = all;
        at_point =
            record {
              started = w2;
              start_page = start.page;
              start_seen = start.seen;
              start = starts.makes;
              oldest = ended.oldest;
              tells = ended.tells;
              end_page = ended.page;
              end_seen = ended.seen;
              step = polled.step;
              rest = rest.makes;
              acts_are = refl;
            };
        says = says ∙ moved_is w.log (lines_of ((Polled polled.step ∷ middle) ++ first)) w'.log all.makes.logged;
      }

  pub worked_as :
      (means : D → Port) (w w1 w2 w3 w' : WorldView D F) → IsSame w w1 → Stepped disk_moves moves event.Start w1 w2 → Ended disk_moves moves means w2 w3
      → Polls disk_moves moves w3 w' → (m : Moved) → m ≡ moved_between (length w.log) (length w'.log) → PumpsAs disk_moves moves means point.Disk m w w'
  worked_as means w w1 w2 w3 w' same start ended polled moved.Did says = worked_disk means w w1 w2 w3 w' same start ended polled moved.Did says
  worked_as means w w1 w2 w3 w' same start ended polled moved.Nothing says = worked_disk means w w1 w2 w3 w' same start ended polled moved.Nothing says
  worked_as means w w1 w2 w3 w' same start ended polled moved.NoMemory says = absurd (never_none (length w.log) (length w'.log) says)

  -- one event
  makes_one :
      (w w1 w' : WorldView D F) (e : Event) → IsSame w w1 → Stepped disk_moves moves e w1 w' → (m : Moved) → m ≡ moved_between (length w.log) (length w'.log)
      → MakesOne disk_moves moves e m w w'
  makes_one w w1 w' e same made m says =
      let i : Input = record { event = e; page = made.page } in
      let all : (by : Maker) → Works disk_moves moves (Made by i made.seen ∷ []) w w' =
      λ by. works_after w w1 w' (Made by i made.seen ∷ []) same (made.works by) in
      record {
        page = made.page;
        seen = made.seen;
        works = all;
        says = says ∙ moved_is w.log (lines_of (Made Player i made.seen ∷ [])) w'.log (all Player).makes.logged;
      }

  pub makes_as :
      (w w1 w' : WorldView D F) (e : Event) → IsSame w w1 → Stepped disk_moves moves e w1 w' → (m : Moved) → m ≡ moved_between (length w.log) (length w'.log)
      → MakesAs disk_moves moves e m w w'
  makes_as w w1 w' e same made moved.Did says = makes_one w w1 w' e same made moved.Did says
  makes_as w w1 w' e same made moved.Nothing says = makes_one w w1 w' e same made moved.Nothing says
  makes_as w w1 w' e same made moved.NoMemory says = absurd (never_none (length w.log) (length w'.log) says)

  -- so at a link
  given :
      (w w' : WorldView D F) (means : D → Port) (l : Lender) (m : Moved) → MakesOne disk_moves moves (event.Give l) m w w'
      → Pumps disk_moves moves means (point.Give l) m w w'
  given w w' means l m one_ =
      record {
        acts = Made Player (record { event = event.Give l; page = one_.page }) one_.seen ∷ [];
        works = one_.works Player;
        at_point = (one_.page, one_.seen, refl);
        says = one_.says;
      }

  taken :
      (w w' : WorldView D F) (means : D → Port) (l : Lender) (m : Moved) → MakesOne disk_moves moves (event.Take l) m w w'
      → Pumps disk_moves moves means (point.Take l) m w w'
  taken w w' means l m one_ =
      record {
        acts = Made Player (record { event = event.Take l; page = one_.page }) one_.seen ∷ [];
        works = one_.works Player;
        at_point = (one_.page, one_.seen, refl);
        says = one_.says;
      }

  pub give_pumps :
      (w w' : WorldView D F) (means : D → Port) (l : Lender) (m : Moved) → MakesAs disk_moves moves (event.Give l) m w w'
      → PumpsAs disk_moves moves means (point.Give l) m w w'
  give_pumps w w' means l moved.Did made = given w w' means l moved.Did made
  give_pumps w w' means l moved.Nothing made = given w w' means l moved.Nothing made
  give_pumps w w' means l moved.NoMemory made = made

  pub take_pumps :
      (w w' : WorldView D F) (means : D → Port) (l : Lender) (m : Moved) → MakesAs disk_moves moves (event.Take l) m w w'
      → PumpsAs disk_moves moves means (point.Take l) m w w'
  take_pumps w w' means l moved.Did made = taken w w' means l moved.Did made
  take_pumps w w' means l moved.Nothing made = taken w w' means l moved.Nothing made
  take_pumps w w' means l moved.NoMemory made = made
