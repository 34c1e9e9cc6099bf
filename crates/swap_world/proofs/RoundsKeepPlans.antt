-- A Round's parts, one after another, and what a plan that is made of them keeps.
use Rattle.std.proofs.Common.{◌≡◌, ℕ, zero, suc, ◌+◌, ◌-◌, ◌<◌, ◌≤◌, Bool, true, false, cond, List, [], ◌∷◌, ◌++◌, length, Option, None, Some, refl, sym, ap, ◌∙◌, subst, arith}
use Rattle.std.specs.List.{AllByRecursion}
use Rattle.swap_base.specs.declared.Caller.{Caller}
use Rattle.swap_base.specs.Sizes.{Sizes}
use Rattle.swap_disk.specs.Port.{DiskCall, DiskAnswer}
use Rattle.swap_disk.specs.declared.port.DiskPort.{Ghosts as DiskMeaning}
use Rattle.swap_wire.specs.Fabric.{FabricCall, FabricAnswer, FabricOf}
use Rattle.swap_wire.specs.declared.fabric.Fabric.{Ghosts as FabricMeaning}
use Rattle.swap_wire.specs.Input.{Input, IsInRange}
use Rattle.swap_wire.specs.declared.Event.{Event}
use Rattle.swap_wire.specs.declared.Event.TheVariants as event
use Rattle.swap_wire.specs.declared.Seen.{Seen}
use Rattle.swap_record.specs.History.{Row}
use Rattle.swap_calls.specs.Calls.{state_of, is_idle}
use Rattle.swap_table.specs.Device.{Device, Core, of_device}
use Rattle.swap_table.specs.Ports.{Along}
use Rattle.swap_table.specs.Happens.{happens, see_tick}
use Rattle.swap_table.specs.declared.Placed.{Placed}
use Rattle.swap_table.specs.Comes.{begins_out, goes_on_out, begins_in, goes_on_in, Comes, ComesTo, refuses, rests, accepts, gives_page, fails, keeps_page, reads, starts_write, takes_back, links, brings}
use Rattle.swap_table.specs.Promises.{FollowsItsMoves, Promises}
use Rattle.swap_world.specs.Answered.{is_call_of}
use Rattle.swap_world.specs.Rounds.{Continues, has_effect, Plan, Stop, Make, plan_again, each_lender, most_messages, round_plan, round_seen, one_if_so, is_part, AlongPlan, StepOf}
use Rattle.swap_world.specs.World.{IsStep, IsEvent}
use Rattle.swap_world.specs.Runs.{IsRun, effect, without, entry_seen, AnswersEvent, Adds, nothing, one, is_new_call, busy_callers, GrowsByCalls, StaysIdle}
use Rattle.swap_world.proofs.EventsKeepWhatHolds.{step_comes, Known, known_caller, step_known}
use Rattle.swap_world.proofs.CountsStayTrue.{SaysLittle, rest_says, link_says, comes_to_adds}
use Rattle.swap_table.proofs.EventsComeToTheirEnds.{linked_keep}
use Rattle.swap_world.proofs.BusyGrowsByCalls.{comes_grows}
use Rattle.swap_world.proofs.CallsStayKnown.{comes_idle}
use Rattle.swap_world.proofs.DeviceStaysWithoutEffect.{comes_to_stays}

abbrev pub bare : Event → Input
bare e = record { event = e; page = [] }

-- what is seen of a part
pub part_says : (d d' : Device) (page : List ℕ) (e : Event) (s : Seen) → is_part e ≡ true → Comes d page e d' s → SaysLittle s
part_says d d' page e s part (refuses new) = record { write = refl; read = refl; entry = refl }
part_says d d' page e s part (rests new rest) = rest_says s rest
part_says d d' page e s part (accepts (begins_out idle) linked) = cc
part_says d d' page e s part (accepts (goes_on_out is) linked) = cc
part_says d d' page e s part (gives_page (begins_in idle)) = cc
part_says d d' page e s part (gives_page (goes_on_in is)) = cc
part_says d d' page e s part (fails why) = cc
part_says d d' page e s part (keeps_page idle) = cc
part_says d d' page e s part (reads v (begins_in idle) newest linked) = cc
part_says d d' page e s part (reads v (goes_on_in is) newest linked) = cc
part_says d d' page e s part starts_write = cc
part_says d d' page e s part (takes_back taken) = cc
part_says d d' page e s part (links new of_link linked) = link_says s of_link
part_says d d' page e s part (brings c bytes r linked) = record { write = refl; read = refl; entry = refl }

-- it adds nothing to the history, and makes no call
part_answers : (d : Device) (page : List ℕ) (e : Event) (row : Row) → is_part e ≡ true → AnswersEvent d page e row → ⊥
part_answers d page (event.Tick word) row part a = a
part_answers d page (event.Give l) row part a = a
part_answers d page (event.Take l) row part a = a
part_answers d page e row part a = cc

part_history : (d d' : Device) (page : List ℕ) (e : Event) (s : Seen) → is_part e ≡ true → ComesTo d page e d' s → d'.history ≡ d.history
part_history d d' page e s part comes = go (comes_to_adds d d' page e s comes)
  where
    go : Adds d (record { event = e; page = page }) s d'.history → d'.history ≡ d.history
    go (nothing none same) = same
    go (one row is_one same answers) = absurd (part_answers d page e row part answers)

part_old : (e : Event) → is_part e ≡ true → is_new_call e ≡ 0
part_old (event.Tick word) part = refl
part_old (event.Give l) part = refl
part_old (event.Take l) part = refl
part_old e part = cc

pub part_no_call : (c : Caller) (e : Event) → is_part e ≡ true → is_call_of c e ≡ false
part_no_call c (event.Tick word) part = refl
part_no_call c (event.Give l) part = refl
part_no_call c (event.Take l) part = refl
part_no_call c e part = cc

part_grows :
    (d d' : Device) (page : List ℕ) (e : Event) (s : Seen) → is_part e ≡ true → ComesTo d page e d' s
    → length d'.history + busy_callers d' ≤ length d.history + busy_callers d
part_grows d d' page e s part comes =
    let grows : GrowsByCalls e (record d { rates = comes.0 }) d' = comes_grows (record d { rates = comes.0 }) d' page e s comes.2 in
    let old = part_old e part in omega (arith, grows, old)

-- a plan that is made of parts, and names what there is
abbrev pub AreParts : Sizes → ℕ → Plan → Type 0
AreParts s lenders Stop = Unit {0}
AreParts s lenders (Make e next) = (is_part e ≡ true) × IsInRange s lenders e × ((seen_ : Seen) → AreParts s lenders (next seen_))

either_parts : (s : Sizes) (lenders : ℕ) (b : Bool) (so other : Plan) → AreParts s lenders so → AreParts s lenders other → AreParts s lenders (cond b so other)
either_parts s lenders true so other h k = h
either_parts s lenders false so other h k = k

again_parts :
    (s : Sizes) (lenders times : ℕ) (e : Event) (rest : Plan) → is_part e ≡ true → IsInRange s lenders e → AreParts s lenders rest
    → AreParts s lenders (plan_again times e rest)
again_parts s lenders zero e rest part range parts = parts
again_parts s lenders (suc left) e rest part range parts =
    (part, range, λ seen_. either_parts s lenders (has_effect e seen_) (plan_again left e rest) rest (again_parts s lenders left e rest part range parts) parts)

each_parts :
    (s : Sizes) (lenders times left n : ℕ) (rest : Plan) → n + left ≡ lenders → AreParts s lenders rest → AreParts s lenders (each_lender times left n rest)
each_parts s lenders times zero n rest all parts = parts
each_parts s lenders times (suc left) n rest all parts =
    let within : n < lenders = omega (arith, all) in
    again_parts s lenders times (event.Give (record { 0 = n })) _ refl within
    (again_parts s lenders times (event.Take (record { 0 = n })) _ refl within (each_parts s lenders times left (n + 1) rest (omega (arith, all)) parts))

pub round_parts : (s : Sizes) (lenders word : ℕ) → AreParts s lenders (round_plan s lenders word)
round_parts s lenders word = (
  refl,
  tt,
  λ seen_. each_parts s lenders (most_messages s) lenders 0 _ (omega arith) (each_parts s lenders (most_messages s) lenders 0 Stop (omega arith) tt),
)

-- an event goes along its program, or is a Round and goes along its plan
pub data Splits {D F : Type 0} (disk_moves : D → (c : DiskCall) → DiskAnswer c → D → Type 0) (moves : F → (c : FabricCall) → FabricAnswer c → F → Type 0)
    (page : List ℕ) (d : Device) (k : D) (f : F) (d' : Device) (k' : D) (f' : F) :
    Event → Seen → Type 0 where
  by_program : {e : Event} {s : Seen} → Along disk_moves moves (happens d page e) k f k' f' (d', s) → Splits disk_moves moves page d k f d' k' f' e s
  by_plan :
      {word : ℕ} {s : Seen} (effects : ℕ) → AlongPlan disk_moves moves (round_plan d.sizes d.lenders word) d k f d' k' f' effects → s ≡ round_seen d' effects
      → Splits disk_moves moves page d k f d' k' f' (event.Round word) s

module _ {D F : Type 0} (disk_moves : D → (c : DiskCall) → DiskAnswer c → D → Type 0) (moves : F → (c : FabricCall) → FabricAnswer c → F → Type 0) where
  pub splits :
      (page : List ℕ) (e : Event) (s : Seen) (d d' : Device) (k k' : D) (f f' : F) → StepOf disk_moves moves page e d k f s d' k' f'
      → Splits disk_moves moves page d k f d' k' f' e s
  splits page (event.Round word) s d d' k k' f f' step = by_plan step.0 step.1 step.2
  splits page e s d d' k k' f f' step = by_program step

  plan_history :
      (s : Sizes) (n : ℕ) (plan : Plan) (d d' : Device) (k k' : D) (f f' : F) (effects : ℕ) → AreParts s n plan
      → AlongPlan disk_moves moves plan d k f d' k' f' effects → d'.history ≡ d.history
  plan_history s n Stop d d' k k' f f' effects parts along = ap (λ (x : Device). x.history) along.0
  plan_history s n (Make e more) d d' k k' f f' effects parts (seen_, x, kx, fx, left, step, rest, count) =
      plan_history s n (more seen_) x d' kx k' fx f' left (parts.2 seen_) rest
      ∙ part_history d x [] e seen_ parts.0 (step_comes disk_moves moves d x k kx f fx (bare e) seen_ step)

  plan_grows :
      (s : Sizes) (n : ℕ) (plan : Plan) (d d' : Device) (k k' : D) (f f' : F) (effects : ℕ) → AreParts s n plan
      → AlongPlan disk_moves moves plan d k f d' k' f' effects → length d'.history + busy_callers d' ≤ length d.history + busy_callers d
  plan_grows s n Stop d d' k k' f f' effects parts along = let same = ap (λ (x : Device). length x.history + busy_callers x) along.0 in omega (arith, same)
  plan_grows s n (Make e more) d d' k k' f f' effects parts (seen_, x, kx, fx, left, step, rest, count) =
      let later = plan_grows s n (more seen_) x d' kx k' fx f' left (parts.2 seen_) rest in
      let now = part_grows d x [] e seen_ parts.0 (step_comes disk_moves moves d x k kx f fx (bare e) seen_ step) in omega (arith, later, now)

  -- so of an event of every kind
  pub event_adds : (d d' : Device) (k k' : D) (f f' : F) (i : Input) (s : Seen) → IsEvent disk_moves moves d k f i s d' k' f' → Adds d i s d'.history
  event_adds d d' k k' f f' i s step = go (splits i.page i.event s d d' k k' f f' step)
    where
      go : {e : Event} {s : Seen} → Splits disk_moves moves i.page d k f d' k' f' e s → Adds d (record { event = e; page = i.page }) s d'.history
      go {e} {s} (by_program along) = comes_to_adds d d' i.page e s (step_comes disk_moves moves d d' k k' f f' (record { event = e; page = i.page }) s along)
      go (by_plan {word = word} effects along is) =
          nothing (ap entry_seen is)
          (plan_history d.sizes d.lenders (round_plan d.sizes d.lenders word) d d' k k' f f' effects (round_parts d.sizes d.lenders word) along)

  pub event_grows : (d d' : Device) (k k' : D) (f f' : F) (i : Input) (s : Seen) → IsEvent disk_moves moves d k f i s d' k' f' → GrowsByCalls i.event d d'
  event_grows d d' k k' f f' i s step = go (splits i.page i.event s d d' k k' f f' step)
    where
      go : {e : Event} {s : Seen} → Splits disk_moves moves i.page d k f d' k' f' e s → GrowsByCalls e d d'
      go {e} {s} (by_program along) =
          let comes : ComesTo d i.page e d' s = step_comes disk_moves moves d d' k k' f f' (record { event = e; page = i.page }) s along in
          comes_grows (record d { rates = comes.0 }) d' i.page e s comes.2
      go (by_plan {word = word} effects along is) =
          let grows = plan_grows d.sizes d.lenders (round_plan d.sizes d.lenders word) d d' k k' f f' effects (round_parts d.sizes d.lenders word) along in
          omega (arith, grows)

  pub event_stays :
      (d d' : Device) (k k' : D) (f f' : F) (i : Input) (s : Seen) → IsEvent disk_moves moves d k f i s d' k' f' → has_effect i.event s ≡ false → d' ≡ d
  event_stays d d' k k' f f' i s step = go (splits i.page i.event s d d' k k' f f' step)
    where
      go : {e : Event} {s : Seen} → Splits disk_moves moves i.page d k f d' k' f' e s → has_effect e s ≡ false → d' ≡ d
      go {e} {s} (by_program along) none =
          comes_to_stays d d' i.page e s (step_comes disk_moves moves d d' k k' f f' (record { event = e; page = i.page }) s along) none
      go (by_plan {word = word} effects along is) none =
          let P : Seen → Type 0 = λ x. has_effect (event.Round word) x ≡ false in
          absurd (let no : true ≡ false = subst P is none in cc)

-- what is known before a Round is known after it, and an idle caller stays so
module _ {D F : Type 0} (disk : DiskMeaning D) (follows : FollowsItsMoves disk) (fabric : FabricMeaning F) (laws : Promises fabric) (T : Bool)
    (o : FabricOf) where
  abbrev IsKnown : Device → D → F → Type 0
  IsKnown d k f = Known disk follows fabric laws T o d k f

  plan_known :
      (plan : Plan) (d d' : Device) (k k' : D) (f f' : F) (effects : ℕ) → AreParts o.sizes o.lenders plan → IsKnown d k f
      → AlongPlan disk.moves fabric.moves plan d k f d' k' f' effects → IsKnown d' k' f'
  plan_known Stop d d' k k' f f' effects parts h along = rw (along.0, along.1, along.2) h
  plan_known (Make e more) d d' k k' f f' effects parts h (seen_, x, kx, fx, left, step, rest, count) =
      plan_known (more seen_) x d' kx k' fx f' left (parts.2 seen_) (step_known disk follows fabric laws T o d x k kx f fx (bare e) seen_ h parts.1 step) rest

  plan_idle :
      (plan : Plan) (d d' : Device) (k k' : D) (f f' : F) (effects : ℕ) (c : Caller) → c.0 < o.sizes.callers → AreParts o.sizes o.lenders plan → IsKnown d k f
      → AlongPlan disk.moves fabric.moves plan d k f d' k' f' effects → is_idle (state_of d.calls c) ≡ true → is_idle (state_of d'.calls c) ≡ true
  plan_idle Stop d d' k k' f f' effects c within parts h along idle = ap (λ (x : Device). is_idle (state_of x.calls c)) along.0 ∙ idle
  plan_idle (Make e more) d d' k k' f f' effects c within parts h (seen_, x, kx, fx, left, step, rest, count) idle =
      let comes : ComesTo d [] e x seen_ = step_comes disk.moves fabric.moves d x k kx f fx (bare e) seen_ step in
      let still =
      comes_idle (record d { rates = comes.0 }) x [] e seen_ c (known_caller disk follows fabric laws T o d k f c h within) idle
      (part_no_call c e parts.0) comes.2 in
      plan_idle (more seen_) x d' kx k' fx f' left c within (parts.2 seen_)
      (step_known disk follows fabric laws T o d x k kx f fx (bare e) seen_ h parts.1 step) rest still

  these_parts : (d : Device) (word : ℕ) → of_device d ≡ o → AreParts o.sizes o.lenders (round_plan d.sizes d.lenders word)
  these_parts d word is =
      let P : FabricOf → Type 0 = λ x. AreParts x.sizes x.lenders (round_plan d.sizes d.lenders word) in subst P is (round_parts d.sizes d.lenders word)

  pub event_known :
      (d d' : Device) (k k' : D) (f f' : F) (i : Input) (s : Seen) → IsKnown d k f → IsInRange o.sizes o.lenders i.event
      → IsEvent disk.moves fabric.moves d k f i s d' k' f' → IsKnown d' k' f'
  event_known d d' k k' f f' i s h range step = go (splits disk.moves fabric.moves i.page i.event s d d' k k' f f' step) range
    where
      go : {e : Event} {s : Seen} → Splits disk.moves fabric.moves i.page d k f d' k' f' e s → IsInRange o.sizes o.lenders e → IsKnown d' k' f'
      go {e} {s} (by_program along) there = step_known disk follows fabric laws T o d d' k k' f f' (record { event = e; page = i.page }) s h there along
      go (by_plan {word = word} effects along is) there =
          plan_known (round_plan d.sizes d.lenders word) d d' k k' f f' effects (these_parts d word h.is) h along

  pub event_idle :
      (d d' : Device) (k k' : D) (f f' : F) (i : Input) (s : Seen) → IsKnown d k f → IsEvent disk.moves fabric.moves d k f i s d' k' f' → StaysIdle d i.event d'
  event_idle d d' k k' f f' i s h step = go (splits disk.moves fabric.moves i.page i.event s d d' k k' f f' step)
    where
      go : {e : Event} {s : Seen} → Splits disk.moves fabric.moves i.page d k f d' k' f' e s → StaysIdle d e d'
      go {e} {s} (by_program along) c within idle other =
          let comes : ComesTo d i.page e d' s = step_comes disk.moves fabric.moves d d' k k' f f' (record { event = e; page = i.page }) s along in
          comes_idle (record d { rates = comes.0 }) d' i.page e s c
          (known_caller disk follows fabric laws T o d k f c h (subst (λ (x : FabricOf). c.0 < x.sizes.callers) h.is within)) idle other comes.2
      go (by_plan {word = word} effects along is) c within idle other =
          plan_idle (round_plan d.sizes d.lenders word) d d' k k' f f' effects c (subst (λ (x : FabricOf). c.0 < x.sizes.callers) h.is within)
          (these_parts d word h.is) h along idle

abbrev pub AllParts : List (Input × Seen) → Type 0
AllParts ms = AllByRecursion (λ (m : Input × Seen). is_part m.0.event ≡ true) ms

by_bool : {A : Type 0} (b : Bool) → (b ≡ true → A) → (b ≡ false → A) → A
by_bool true so other = so refl
by_bool false so other = other refl

-- a plan runs as its parts
module _ {D F : Type 0} (disk_moves : D → (c : DiskCall) → DiskAnswer c → D → Type 0) (moves : F → (c : FabricCall) → FabricAnswer c → F → Type 0)
    (first : Device) (first_disk : D) (first_fabric : F) where
  pub record Ran (made : List (Input × Seen)) (d : Device) (k : D) (f : F) (count : ℕ) : Type 0 where
    pub inner : List (Input × Seen)
    pub parts : AllParts inner
    pub counted : length inner ≡ count
    pub run : IsRun disk_moves moves first first_disk first_fabric (inner ++ made) d k f

  recount : (made : List (Input × Seen)) (d : Device) (k : D) (f : F) (n m : ℕ) → n ≡ m → Ran made d k f n → Ran made d k f m
  recount made d k f n m e ran = subst (λ x. Ran made d k f x) e ran

  pub plan_runs :
      (made inner : List (Input × Seen)) (plan : Plan) (d d' : Device) (k k' : D) (f f' : F) (effects : ℕ) → AreParts first.sizes first.lenders plan
      → AllParts inner → IsRun disk_moves moves first first_disk first_fabric (inner ++ made) d k f → AlongPlan disk_moves moves plan d k f d' k' f' effects
      → Ran made d' k' f' (effects + length inner)
  plan_runs made inner Stop d d' k k' f f' effects parts are run along = record {
    inner = inner;
    parts = are;
    counted = let none = along.3 in omega (arith, none);
    run = rw (along.0, along.1, along.2) run;
  }
  plan_runs made inner (Make e more) d d' k k' f f' effects parts are run (seen_, x, kx, fx, left, step, rest, count) =
      by_bool (has_effect e seen_)
      (λ has.
      let one_more : one_if_so (has_effect e seen_) ≡ 1 = ap one_if_so has in
      let sum : left + length ((bare e, seen_) ∷ inner) ≡ effects + length inner = omega (arith, count, one_more) in
      recount made d' k' f' _ _ sum
      (plan_runs made ((bare e, seen_) ∷ inner) (more seen_) x d' kx k' fx f' left (parts.2 seen_) (parts.0, are)
      (effect (bare e) seen_ x kx fx run parts.1 step has) rest))
      (λ has.
      let none : one_if_so (has_effect e seen_) ≡ 0 = ap one_if_so has in
      let sum : left + length inner ≡ effects + length inner = omega (arith, count, none) in
      let stays : x ≡ d = comes_to_stays d x [] e seen_ (step_comes disk_moves moves d x k kx f fx (bare e) seen_ step) has in
      let P : Device → Type 0 = λ y. IsStep disk_moves moves d k f (bare e) seen_ y kx fx in
      let Q : Device → Type 0 = λ y. IsRun disk_moves moves first first_disk first_fabric (inner ++ made) y kx fx in
      recount made d' k' f' _ _ sum
      (plan_runs made inner (more seen_) x d' kx k' fx f' left (parts.2 seen_) are
      (subst Q (sym stays) (without (bare e) seen_ kx fx run parts.1 (subst P stays step) has)) rest))

-- no part changes what the device is of
part_of : (d d' : Device) (page : List ℕ) (e : Event) (s : Seen) → is_part e ≡ true → Comes d page e d' s → of_device d' ≡ of_device d
part_of d d' page e s part (refuses new) = refl
part_of d d' page e s part (rests new rest) = refl
part_of d d' page e s part (accepts (begins_out idle) linked) = cc
part_of d d' page e s part (accepts (goes_on_out is) linked) = cc
part_of d d' page e s part (gives_page (begins_in idle)) = cc
part_of d d' page e s part (gives_page (goes_on_in is)) = cc
part_of d d' page e s part (fails why) = cc
part_of d d' page e s part (keeps_page idle) = cc
part_of d d' page e s part (reads v (begins_in idle) newest linked) = cc
part_of d d' page e s part (reads v (goes_on_in is) newest linked) = cc
part_of d d' page e s part starts_write = cc
part_of d d' page e s part (takes_back taken) = cc
part_of d d' page e s part (links new of_link linked) = linked_keep (λ x. of_device x ≡ of_device d) (λ x r made h. h) (λ x l h. h) d d' linked refl
part_of d d' page e s part (brings c bytes r linked) = linked_keep (λ x. of_device x ≡ of_device d) (λ x r made h. h) (λ x l h. h) _ d' linked refl

-- what goes on along a plan, event after event
module _ {D F : Type 0} (disk_moves : D → (c : DiskCall) → DiskAnswer c → D → Type 0) (moves : F → (c : FabricCall) → FabricAnswer c → F → Type 0) where
  pub step_of :
      (d d' : Device) (k k' : D) (f f' : F) (e : Event) (s : Seen) → is_part e ≡ true → Along disk_moves moves (happens d [] e) k f k' f' (d', s)
      → of_device d' ≡ of_device d
  step_of d d' k k' f f' e s part along =
      let comes : ComesTo d [] e d' s = step_comes disk_moves moves d d' k k' f f' (bare e) s along in
      part_of (record d { rates = comes.0 }) d' [] e s part comes.2

  pub goes_start : (plan : Plan) (c : Core D F) → Continues disk_moves moves plan plan c c 0
  goes_start plan c d' k' f' n along =
      let P : ℕ → Type 0 = λ m. AlongPlan disk_moves moves plan c.device c.disk c.fabric d' k' f' m in subst P (add_nothing n) along
    where
      add_nothing : (n : ℕ) → n ≡ n + 0
      add_nothing n = omega arith

  pub goes_after :
      (whole middle rest : Plan) (b m now : Core D F) (n more : ℕ) → Continues disk_moves moves whole middle b m n
      → Continues disk_moves moves middle rest m now more → Continues disk_moves moves whole rest b now (n + more)
  goes_after whole middle rest b m now n more first second d' k' f' left along =
      let P : ℕ → Type 0 = λ x. AlongPlan disk_moves moves whole b.device b.disk b.fabric d' k' f' x in
      let sum : (left + more) + n ≡ left + (n + more) = omega arith in
      subst P sum (first d' k' f' (left + more) (second d' k' f' left along))

  -- an event that may come again
  pub goes_again :
      (rest : Plan) (e : Event) (left : ℕ) (m now : Core D F) (s : Seen)
      → Along disk_moves moves (happens m.device [] e) m.disk m.fabric now.disk now.fabric (now.device, s) → has_effect e s ≡ true
      → Continues disk_moves moves (plan_again (suc left) e rest) (plan_again left e rest) m now 1
  goes_again rest e left m now s step has d' k' f' n along =
      let P : Bool → Type 0 = λ b. AlongPlan disk_moves moves (cond b (plan_again left e rest) rest) now.device now.disk now.fabric d' k' f' n in
      (s, now.device, now.disk, now.fabric, n, step, subst P (sym has) along, ap (λ b. n + one_if_so b) (sym has))

  pub goes_no_more :
      (rest : Plan) (e : Event) (left : ℕ) (m now : Core D F) (s : Seen)
      → Along disk_moves moves (happens m.device [] e) m.disk m.fabric now.disk now.fabric (now.device, s) → has_effect e s ≡ false
      → Continues disk_moves moves (plan_again (suc left) e rest) rest m now 0
  goes_no_more rest e left m now s step has d' k' f' n along =
      let P : Bool → Type 0 = λ b. AlongPlan disk_moves moves (cond b (plan_again left e rest) rest) now.device now.disk now.fabric d' k' f' n in
      (s, now.device, now.disk, now.fabric, n, step, subst P (sym has) along, ap (λ b. n + one_if_so b) (sym has))

  -- as a loop keeps it: so many of so many events were made
  abbrev pub GoesOn : Event → ℕ → Core D F → Core D F → ℕ → Type 0
  GoesOn e times before now done =
      (rest : Plan) (left : ℕ) → left + done ≡ times → Continues disk_moves moves (plan_again times e rest) (plan_again left e rest) before now done

  pub loop_starts : (e : Event) (times : ℕ) (c : Core D F) → GoesOn e times c c 0
  loop_starts e times c rest left sum =
      let P : ℕ → Type 0 = λ n. Continues disk_moves moves (plan_again n e rest) (plan_again left e rest) c c 0 in let same : left
      ≡ times = omega (arith, sum) in
      subst P same (goes_start (plan_again left e rest) c)

  pub loop_goes :
      (e : Event) (times : ℕ) (b m now : Core D F) (done : ℕ) (s : Seen) → GoesOn e times b m done
      → Along disk_moves moves (happens m.device [] e) m.disk m.fabric now.disk now.fabric (now.device, s) → has_effect e s ≡ true
      → GoesOn e times b now (done + 1)
  loop_goes e times b m now done s goes step has rest left sum =
      goes_after (plan_again times e rest) (plan_again (suc left) e rest) (plan_again left e rest) b m now done 1
      (goes rest (suc left) (let t : suc left + done ≡ times = omega (arith, sum) in t)) (goes_again rest e left m now s step has)

  pub loop_breaks :
      (e : Event) (times : ℕ) (b m now : Core D F) (done : ℕ) (s : Seen) → GoesOn e times b m done → done < times
      → Along disk_moves moves (happens m.device [] e) m.disk m.fabric now.disk now.fabric (now.device, s) → has_effect e s ≡ false
      → (rest : Plan) → Continues disk_moves moves (plan_again times e rest) rest b now done
  loop_breaks e times b m now done s goes less step has rest =
      let P : ℕ → Type 0 = λ n. Continues disk_moves moves (plan_again times e rest) rest b now n in
      let left : ℕ = times - (done + 1) in
      let sum : suc left + done ≡ times = omega (arith, less) in
      let same : done + 0 ≡ done = omega arith in
      subst P same
      (goes_after (plan_again times e rest) (plan_again (suc left) e rest) rest b m now done 0 (goes rest (suc left) sum)
      (goes_no_more rest e left m now s step has))

  pub loop_ends :
      (e : Event) (times : ℕ) (b now : Core D F) (done : ℕ) → GoesOn e times b now done → done ≤ times → times ≤ done → (rest : Plan)
      → Continues disk_moves moves (plan_again times e rest) rest b now done
  loop_ends e times b now done goes most least rest = goes rest 0 (let t : 0 + done ≡ times = omega (arith, most, least) in t)

  -- so many of so many lenders were heard
  abbrev pub HeardOn : ℕ → ℕ → ℕ → Core D F → Core D F → ℕ → Type 0
  HeardOn times lenders n before now done =
      (rest : Plan) (left : ℕ) → n + left ≡ lenders
      → Continues disk_moves moves (each_lender times lenders 0 rest) (each_lender times left n rest) before now done

  pub lender_heard : (times lenders n : ℕ) (b m mid now : Core D F) (done given taken : ℕ) → HeardOn times lenders n b m done
      → ((rest : Plan) → Continues disk_moves moves (plan_again times (event.Give (record { 0 = n })) rest) rest m mid given)
      → ((rest : Plan) → Continues disk_moves moves (plan_again times (event.Take (record { 0 = n })) rest) rest mid now taken)
      → HeardOn times lenders (n + 1) b now ((done + given) + taken)
  lender_heard times lenders n b m mid now done given taken heard gives takes rest left sum =
      let after : Plan = each_lender times left (n + 1) rest in
      let take_plan : Plan = plan_again times (event.Take (record { 0 = n })) after in
      let t : n + suc left ≡ lenders = omega (arith, sum) in
      goes_after (each_lender times lenders 0 rest) take_plan after b mid now (done + given) taken
      (goes_after (each_lender times lenders 0 rest) (each_lender times (suc left) n rest) take_plan b m mid done given (heard rest (suc left) t)
      (gives take_plan))
      (takes after)

  -- a tick, and then all lenders twice, are a Round
  pub round_steps : (word times lenders first second : ℕ) (b t m now : Core D F) (s : Seen) → times ≡ most_messages b.device.sizes → lenders ≡ b.device.lenders
      → Along disk_moves moves (happens b.device [] (event.Tick word)) b.disk b.fabric t.disk t.fabric (t.device, s) → has_effect (event.Tick word) s ≡ true
      → ((rest : Plan) → Continues disk_moves moves (each_lender times lenders 0 rest) rest t m first)
      → ((rest : Plan) → Continues disk_moves moves (each_lender times lenders 0 rest) rest m now second)
      → StepOf disk_moves moves [] (event.Round word) b.device b.disk b.fabric (round_seen now.device ((1 + first) + second)) now.device now.disk now.fabric
  round_steps word times lenders first second b t m now s times_are lenders_are step acts ones twos =
      let over : Plan = each_lender times lenders 0 Stop in
      let later : AlongPlan disk_moves moves (each_lender times lenders 0 over) t.device t.disk t.fabric now.device now.disk now.fabric ((0 + second) + first) =
      ones over now.device now.disk now.fabric (0 + second) (twos Stop now.device now.disk now.fabric 0 (refl, refl, refl, refl)) in
      let P : ℕ → ℕ → Type 0 =
      λ x y.
      AlongPlan disk_moves moves (each_lender x y 0 (each_lender x y 0 Stop)) t.device t.disk t.fabric now.device now.disk now.fabric
      ((0 + second) + first) in
      let whole = subst (λ y. P (most_messages b.device.sizes) y) lenders_are (subst (λ x. P x lenders) times_are later) in
      let one_more : one_if_so (has_effect (event.Tick word) s) ≡ 1 = ap one_if_so acts in
      let count : (1 + first) + second ≡ ((0 + second) + first) + one_if_so (has_effect (event.Tick word) s) = omega (arith, one_more) in
      ((1 + first) + second, (s, t.device, t.disk, t.fabric, (0 + second) + first, step, whole, count), refl)

-- a period's end is always seen
pub tick_acts : (word : ℕ) (o : Option Placed) → has_effect (event.Tick word) (see_tick o) ≡ true
tick_acts word None = refl
tick_acts word (Some placed) = refl
