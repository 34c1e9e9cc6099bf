-- What a board keeps with each of its calls.
use Rattle.std.proofs.Common.{◌≡◌, ◌≢◌, ◌+◌, ◌≤◌, ◌<◌, ℕ, suc, zero, Bool, true, false, nat_le, cond, List, [], ◌∷◌, ◌++◌, length, take, get_or, refl, sym, ap, ◌∙◌, subst, arith, Option, None, Some}
use Rattle.std.specs.List.{AllByRecursion}
use Rattle.std.proofs.lemmas.List.{append-nil, length-append}
use Rattle.std.proofs.Math.Seq.{take-suc}
use Rattle.std.proofs.lemmas.Bool.Decides.{nat_tests}
use Rattle.rand_pcg.specs.Lcg.{Lcg}
use Rattle.rand_pcg.specs.Pcg.{pcg32}
use Rattle.swap_base.specs.declared.Caller.{Caller}
use Rattle.swap_base.specs.declared.DiskWhich.{DiskWhich}
use Rattle.swap_wire.specs.Input.{Input, IsInRange}
use Rattle.swap_wire.specs.declared.Event.{Event}
use Rattle.swap_wire.specs.declared.Event.TheVariants as event
use Rattle.swap_wire.specs.declared.Seen.{Seen}
use Rattle.swap_wire.specs.Fabric.{FabricCall, FabricAnswer, FabricOf}
use Rattle.swap_disk.specs.Port.{Port, DiskCall, DiskAnswer}
use Rattle.swap_record.specs.History.{History, Row}
use Rattle.swap_table.specs.Device.{Device, of_device}
use Rattle.swap_device.specs.State.{KeepsRoom}
use Rattle.swap_world.specs.World.{IsEvent}
use Rattle.swap_world.specs.Runs.{WorldView, has_effect, logged_if, Adds, AnswersCall, nothing, one, busy_callers, GrowsByCalls, is_new_call}
use Rattle.swap_board.specs.Acts.{Act, Made, Polled, Player, Pacer, Operator, Makes, AreMade, IsPlayers, IsOperators, calls_in, calls_after, calls_since, since_after, seed_after, operator_events, places, lines_of, PACE}
use Rattle.swap_board.specs.Works.{IsSame, Works, WorksAt, PumpsAs, MakesOne, MakesAs, Paced, paces, since_now, ends, known_operation}
use Rattle.swap_board.specs.Boards.{Named, BoardView, IsBoard, Begins, seed_of, IsCall, IsAnswered, IsAnswerTo, AddsEntry, TellsFault, AreOperators, Operates, OperatesAs, operated_of}
use Rattle.swap_board.specs.declared.board.Operated.{Operated}
use Rattle.swap_board.specs.Boards as boards
use Rattle.swap_board.specs.declared.works.Point.{Point}
use Rattle.swap_board.specs.declared.works.Point.TheVariants as point
use Rattle.swap_board.specs.declared.works.Moved.{Moved}
use Rattle.swap_board.specs.declared.works.Moved.TheVariants as moved
use Rattle.swap_board.proofs.Acts.{makes_on, makes_none, makes_step, few_since}
use Rattle.swap_board.proofs.Working.{works_same}

-- acts of a player that begin no call leave every count
abbrev pub AreQuiet : List Act → Type 0
AreQuiet new =
    (seed : Lcg) (first : ℕ) (acts : List Act) → AreMade seed acts → calls_since acts ≤ PACE
    → AreMade seed (new ++ acts) × (calls_since (new ++ acts) ≡ calls_since acts) × (calls_in (new ++ acts) ≡ calls_in acts)
    × (seed_after seed (new ++ acts) ≡ seed_after seed acts) × (operator_events (new ++ acts) ≡ operator_events acts)
    × (places first (new ++ acts) ≡ places first acts)

abbrev pub IsQuiet : Event → Type 0
IsQuiet e = IsPlayers e × ((n : ℕ) → since_after e n ≡ n) × ((n : ℕ) → calls_after e n ≡ n)

pub quiet_none : AreQuiet []
quiet_none seed first acts are few = (are, refl, refl, refl, refl, refl)

pub quiet_more : (i : Input) (s : Seen) (new : List Act) → IsQuiet i.event → AreQuiet new → AreQuiet (Made Player i s ∷ new)
quiet_more i s new is quiet seed first acts are few =
    let q = quiet seed first acts are few in
    let same = is.1 (calls_since (new ++ acts)) in
    let was = q.1 in (
      (is.0, omega (arith, few, same, was), q.0),
      same ∙ was,
      is.2 (calls_in (new ++ acts)) ∙ q.2,
      q.3,
      q.4,
      q.5,
    )

pub quiet_polled : (step : _) (new : List Act) → AreQuiet new → AreQuiet (Polled step ∷ new)
quiet_polled step new quiet seed first acts are few = quiet seed first acts are few

quiet_ends : (w : Option DiskWhich) (page : List ℕ) (s : Seen) (new : List Act) → AreQuiet new → AreQuiet (ends w page s ++ new)
quiet_ends None page s new quiet = quiet
quiet_ends (Some w) page s new quiet = quiet_more (record { event = event.Disk w true; page = page }) s new (tt, λ n. refl, λ n. refl) quiet

module _ {D F : Type 0} (disk_moves : D → (c : DiskCall) → DiskAnswer c → D → Type 0) (moves : F → (c : FabricCall) → FabricAnswer c → F → Type 0) where
  pub point_quiet : (means : D → Port) (p : Point) (acts : List Act) (w w' : WorldView D F) → WorksAt disk_moves moves means p acts w w' → AreQuiet acts
  point_quiet means point.Disk acts w w' at_ =
      subst AreQuiet (sym at_.acts_are)
      (quiet_polled at_.step
      (ends (known_operation w.core.device.sizes at_.oldest) at_.end_page at_.end_seen
      ++ Made Player (record { event = event.Start; page = at_.start_page }) at_.start_seen ∷ [])
      (quiet_ends (known_operation w.core.device.sizes at_.oldest) at_.end_page at_.end_seen
      (Made Player (record { event = event.Start; page = at_.start_page }) at_.start_seen ∷ [])
      (quiet_more (record { event = event.Start; page = at_.start_page }) at_.start_seen [] (tt, λ n. refl, λ n. refl) quiet_none)))
  point_quiet means (point.Give l) acts w w' (page, s, is) =
      subst AreQuiet (sym is) (quiet_more (record { event = event.Give l; page = page }) s [] (tt, λ n. refl, λ n. refl) quiet_none)
  point_quiet means (point.Take l) acts w w' (page, s, is) =
      subst AreQuiet (sym is) (quiet_more (record { event = event.Take l; page = page }) s [] (tt, λ n. refl, λ n. refl) quiet_none)

  -- the board after quiet acts
  pub board_quiet :
      (n : Named D F) (w w' : WorldView D F) (begun since : ℕ) (placed : List ℕ) (words : Lcg) (new : List Act) → AreQuiet new → Works disk_moves moves new w w'
      → IsBoard disk_moves moves n w begun since placed words → IsBoard disk_moves moves n w' begun since placed words
  board_quiet n w w' begun since placed words new quiet works b =
      let q = quiet (seed_of n.number) (length b.first.log) b.acts b.made (few_since (seed_of n.number) b.acts b.made) in
      record {
        first = b.first;
        opens = b.opens;
        acts = new ++ b.acts;
        makes = makes_on disk_moves moves b.first w w' b.acts new b.makes works.makes;
        sizes = ap (λ (o : FabricOf). o.sizes) works.makes.of ∙ b.sizes;
        lenders = ap (λ (o : FabricOf). o.lenders) works.makes.of ∙ b.lenders;
        operators = b.operators;
        made = q.0;
        words_are = b.words_are ∙ sym q.3;
        since_is = b.since_is ∙ sym q.1;
        begun_is = b.begun_is ∙ sym q.2;
        most = b.most;
        room = let r = b.room in let x = works.busy in let y = works.spare in omega (arith, r, x, y);
        operated_are = q.4 ∙ b.operated_are;
        placed_are = b.placed_are ∙ sym q.5;
      }

  -- and in a world with other room
  pub board_same :
      (n : Named D F) (w w' : WorldView D F) (begun since : ℕ) (placed : List ℕ) (words : Lcg) → IsSame w w'
      → IsBoard disk_moves moves n w begun since placed words
      → IsBoard disk_moves moves n w' begun since placed words
  board_same n w w' begun since placed words same b = board_quiet n w w' begun since placed words [] quiet_none (works_same disk_moves moves w w' same) b

  -- the board after a point was worked at
  pub pumped_board :
      (means : D → Port) (n : Named D F) (w w' : WorldView D F) (begun since : ℕ) (placed : List ℕ) (words : Lcg) (p : Point) (m : Moved)
      → PumpsAs disk_moves moves means p m w w'
      → IsBoard disk_moves moves n w begun since placed words → IsBoard disk_moves moves n w' begun since placed words
  pumped_board means n w w' begun since placed words p moved.Did pumps b =
      board_quiet n w w' begun since placed words pumps.acts (point_quiet means p pumps.acts w w' pumps.at_point) pumps.works b
  pumped_board means n w w' begun since placed words p moved.Nothing pumps b =
      board_quiet n w w' begun since placed words pumps.acts (point_quiet means p pumps.acts w w' pumps.at_point) pumps.works b
  pumped_board means n w w' begun since placed words p moved.NoMemory same b = board_same n w w' begun since placed words same b

  pub pumped_of :
      (means : D → Port) (w w' : WorldView D F) (p : Point) (m : Moved) → PumpsAs disk_moves moves means p m w w'
      → of_device w'.core.device ≡ of_device w.core.device
  pumped_of means w w' p moved.Did pumps = pumps.works.makes.of
  pumped_of means w w' p moved.Nothing pumps = pumps.works.makes.of
  pumped_of means w w' p moved.NoMemory same = ap of_device same.device

-- a call's first step counts
call_counts : (e : Event) → IsCall e → IsPlayers e × ((n : ℕ) → since_after e n ≡ suc n) × ((n : ℕ) → calls_after e n ≡ suc n) × (is_new_call e ≡ 1)
call_counts (event.PageOut c p) is = (tt, λ n. refl, λ n. refl, refl)
call_counts (event.PageIn c p) is = (tt, λ n. refl, λ n. refl, refl)
call_counts e is = absurd is

-- the acts with the Round that a call makes first
record PacedOn (seed : Lcg) (acts new : List Act) (since1 : ℕ) (words1 : Lcg) (first : ℕ) : Type 0 where
  pub made : AreMade seed (new ++ acts)
  pub since : since1 ≡ calls_since (new ++ acts)
  pub few : since1 < PACE
  pub words : words1 ≡ seed_after seed (new ++ acts)
  pub calls : calls_in (new ++ acts) ≡ calls_in acts
  pub operated_same : operator_events (new ++ acts) ≡ operator_events acts
  pub placed : places first (new ++ acts) ≡ places first acts

paced_by :
    (seed : Lcg) (acts : List Act) (since : ℕ) (g : Lcg) (page : List ℕ) (s : Seen) (since1 : ℕ) (words1 : Lcg) (first : ℕ) (b : Bool) → nat_le PACE since ≡ b
    → since ≡ calls_since acts → g ≡ seed_after seed acts → AreMade seed acts
    → since1 ≡ cond b 0 since → words1 ≡ seed_after g (cond b (Made Pacer (record { event = event.Round (pcg32 g).0; page = page }) s ∷ []) [])
    → PacedOn seed acts (cond b (Made Pacer (record { event = event.Round (pcg32 g).0; page = page }) s ∷ []) []) since1 words1 first
paced_by seed acts since g page s since1 words1 first true due is_since is_g are now after = record {
  made = (ap (λ (x : Lcg). event.Round (pcg32 x).0) is_g, omega arith, are);
  since = now;
  few = omega (arith, now);
  words = after ∙ ap (λ (x : Lcg). (pcg32 x).1) is_g;
  calls = refl;
  operated_same = refl;
  placed = refl;
}
paced_by seed acts since g page s since1 words1 first false due is_since is_g are now after = record {
  made = are;
  since = now ∙ is_since;
  few = grind (arith, nat_tests, due, now);
  words = after ∙ is_g;
  calls = refl;
  operated_same = refl;
  placed = refl;
}

-- what was added to a history, as it is seen of the call
pub call_adds :
    (d : Device) (page : List ℕ) (e : Event) (s : Seen) (before H : History) → d.history ≡ before → IsCall e
    → ((row : Row) → H ≡ row ∷ d.history → TellsFault s row.entry.op) → Adds d (record { event = e; page = page }) s H
    → AddsEntry (IsAnswered e page) before s H
call_adds d page e s before H same is told (nothing none now) = boards.nothing none (now ∙ same)
call_adds d page e s before H same is told (one row seen_ now answers) =
    boards.one row (seen_ ∙ ap (λ (x : History). Some (record { 0 = length x })) same) (now ∙ ap (λ (x : History). row ∷ x) same) (call_answers e is answers)
    (told row now)
  where
    call_answers : (e : Event) → IsCall e → AnswersCall d (record { event = e; page = page }) row → IsAnswered e page row
    call_answers (event.PageOut c p) is a = a
    call_answers (event.PageIn c p) is a = a
    call_answers e is a = absurd is

pub finish_adds :
    (d d1 : Device) (page : List ℕ) (c : Caller) (s : Seen) (H : History) → d1 ≡ d → ((row : Row) → H ≡ row ∷ d1.history → TellsFault s row.entry.op)
    → Adds d1 (record { event = event.Finish c; page = page }) s H → AddsEntry (IsAnswerTo d c) d.history s H
finish_adds d d1 page c s H same told adds = subst (λ (x : Device). AddsEntry (IsAnswerTo x c) x.history s H) same (go adds)
  where
    go : Adds d1 (record { event = event.Finish c; page = page }) s H → AddsEntry (IsAnswerTo d1 c) d1.history s H
    go (nothing none now) = boards.nothing none now
    go (one row seen_ now answers) = boards.one row seen_ now answers (told row now)

module _ {D F : Type 0} (disk_moves : D → (c : DiskCall) → DiskAnswer c → D → Type 0) (moves : F → (c : FabricCall) → FabricAnswer c → F → Type 0) where
  -- a call's event, after the Round that was due
  pub makes_begun : (w w1 w' : WorldView D F) (since : ℕ) (words : Lcg) (since1 : ℕ) (words1 : Lcg) (i : Input) (s : Seen)
      (p : Paced disk_moves moves since words w since1 words1 w1)
      → IsInRange w1.core.device.sizes w1.core.device.lenders i.event
      → IsEvent disk_moves moves w1.core.device w1.core.disk w1.core.fabric i s w'.core.device w'.core.disk w'.core.fabric
      → w'.log ≡ logged_if (has_effect i.event s) w1.log i.event s
      → of_device w'.core.device ≡ of_device w1.core.device → Makes disk_moves moves (Made Player i s ∷ paces since words p.page p.seen) w w'
  makes_begun w w1 w' since words since1 words1 i s p range step logged of =
      makes_on disk_moves moves w w1 w' (paces since words p.page p.seen) (Made Player i s ∷ []) p.works.makes
      (makes_step disk_moves moves w1 w' Player i s range step logged of)

  pub board_begun : (n : Named D F) (w w1 w' : WorldView D F) (begun since : ℕ) (placed : List ℕ) (words : Lcg) (since1 : ℕ) (words1 : Lcg) (i : Input)
      (s : Seen)
      → IsCall i.event → (p : Paced disk_moves moves since words w since1 words1 w1) → IsInRange w1.core.device.sizes w1.core.device.lenders i.event
      → IsEvent disk_moves moves w1.core.device w1.core.disk w1.core.fabric i s w'.core.device w'.core.disk w'.core.fabric
      → w'.log ≡ logged_if (has_effect i.event s) w1.log i.event s
      → of_device w'.core.device ≡ of_device w1.core.device → KeepsRoom w1.core w'.core → GrowsByCalls i.event w1.core.device w'.core.device → begun < n.calls
      → IsBoard disk_moves moves n w begun since placed words → IsBoard disk_moves moves n w' (begun + 1) (since1 + 1) placed words1
  board_begun n w w1 w' begun since placed words since1 words1 i s call p range step logged of room grows fewer b =
      let c = call_counts i.event call in
      let new : List Act = paces since words p.page p.seen in
      let on : PacedOn (seed_of n.number) b.acts new since1 words1 (length b.first.log) =
      paced_by (seed_of n.number) b.acts since words p.page p.seen since1 words1 (length b.first.log)
      (nat_le PACE since) refl b.since_is b.words_are b.made p.since_is p.words in
      let makes_ = makes_begun w w1 w' since words since1 words1 i s p range step logged of in
      record {
        first = b.first;
        opens = b.opens;
        acts = Made Player i s ∷ (new ++ b.acts);
        makes = makes_on disk_moves moves b.first w w' b.acts (Made Player i s ∷ new) b.makes makes_;
        sizes = ap (λ (o : FabricOf). o.sizes) makes_.of ∙ b.sizes;
        lenders = ap (λ (o : FabricOf). o.lenders) makes_.of ∙ b.lenders;
        operators = b.operators;
        made = (c.0, (let few = on.few in let same = c.1 (calls_since (new ++ b.acts)) in let is = on.since in omega (arith, few, same, is)), on.made);
        words_are = on.words;
        since_is = let same = c.1 (calls_since (new ++ b.acts)) in let is = on.since in omega (arith, same, is);
        begun_is = let same = c.2 (calls_in (new ++ b.acts)) in let is = on.calls in let was = b.begun_is in omega (arith, same, is, was);
        most = omega (arith, fewer);
        room =
            let r = b.room in let x = p.works.busy in let y = p.works.spare in let one_ = c.3 in
            omega (arith, r, x, y, room, grows, one_);
        operated_are = on.operated_same ∙ b.operated_are;
        placed_are = b.placed_are ∙ sym on.placed;
      }

  -- what the call's beginning says
  pub begins : (calls : ℕ) (w w1 w' : WorldView D F) (begun since made : ℕ) (words : Lcg) (since1 : ℕ) (words1 : Lcg) (e : Event) (page : List ℕ) (s : Seen)
      (p : Paced disk_moves moves since words w since1 words1 w1)
      → Makes disk_moves moves (Made Player (record { event = e; page = page }) s ∷ paces since words p.page p.seen) w w' → begun < calls
      → Begins disk_moves moves calls e page s (record { world = w; begun = begun; since = since; made = made; words = words })
      (record { world = w'; begun = begun + 1; since = since1 + 1; made = made; words = words1 })
  begins calls w w1 w' begun since made words since1 words1 e page s p makes_ fewer = record {
    buf = p.page;
    seen = p.seen;
    makes = makes_;
    fewer = fewer;
    now =
        ap (λ (n : ℕ). let b : BoardView D F = record { world = w'; begun = begun + 1; since = n + 1; made = made; words = words1 } in b) p.since_is
        ∙ ap (λ (g : Lcg). let b : BoardView D F = record { world = w'; begun = begun + 1; since = since_now since + 1; made = made; words = g } in b) p.words;
  }

  -- a later step of a call
  pub board_finished :
      (n : Named D F) (w w1 w' : WorldView D F) (begun since : ℕ) (placed : List ℕ) (words : Lcg) (i : Input) (s : Seen) → IsSame w w1 → IsQuiet i.event
      → is_new_call i.event ≡ 0
      → Makes disk_moves moves (Made Player i s ∷ []) w w' → KeepsRoom w1.core w'.core → GrowsByCalls i.event w1.core.device w'.core.device
      → IsBoard disk_moves moves n w begun since placed words → IsBoard disk_moves moves n w' begun since placed words
  board_finished n w w1 w' begun since placed words i s same quiet old makes_ room grows b =
      let q = quiet_more i s [] quiet quiet_none (seed_of n.number) (length b.first.log) b.acts b.made (few_since (seed_of n.number) b.acts b.made) in
      record {
        first = b.first;
        opens = b.opens;
        acts = Made Player i s ∷ b.acts;
        makes = makes_on disk_moves moves b.first w w' b.acts (Made Player i s ∷ []) b.makes makes_;
        sizes = ap (λ (o : FabricOf). o.sizes) makes_.of ∙ b.sizes;
        lenders = ap (λ (o : FabricOf). o.lenders) makes_.of ∙ b.lenders;
        operators = b.operators;
        made = q.0;
        words_are = b.words_are ∙ sym q.3;
        since_is = b.since_is ∙ sym q.1;
        begun_is = b.begun_is ∙ sym q.2;
        most = b.most;
        room =
            let r = b.room in let busy = ap busy_callers same.device in let len = ap (λ (d : Device). length d.history) same.device in let spare = same.spare in
            omega (arith, r, busy, len, spare, room, grows, old);
        operated_are = q.4 ∙ b.operated_are;
        placed_are = b.placed_are ∙ sym q.5;
      }

  -- a board that was just made
  pub board_made :
      (n : Named D F) (w w' : WorldView D F) (words : Lcg) → n.opening ≡ Some w → w.core.device.sizes ≡ n.sizes → w.core.device.lenders ≡ n.lenders
      → AreOperators n.sizes n.lenders n.operator → busy_callers w.core.device ≡ 0 → n.calls ≤ w'.core.spare
      → IsSame w w' → words ≡ seed_of n.number → IsBoard disk_moves moves n w' 0 0 [] words
  board_made n w w' words is sizes lenders operators idle room same ew = record {
    first = w;
    opens = is;
    acts = [];
    makes = makes_none disk_moves moves w w' same.device same.disk same.fabric same.log;
    sizes = ap (λ (d : Device). d.sizes) same.device ∙ sizes;
    lenders = ap (λ (d : Device). d.lenders) same.device ∙ lenders;
    operators = operators;
    made = tt;
    words_are = ew;
    since_is = refl;
    begun_is = refl;
    most = omega arith;
    room = let busy = ap busy_callers same.device in omega (arith, busy, idle, room);
    operated_are = refl;
    placed_are = refl;
  }

operators_few : (e : Event) (n : ℕ) → IsOperators e → n ≤ PACE → since_after e n ≤ PACE
operators_few (event.Map s l) n is few = few
operators_few (event.Connect l) n is few = few
operators_few (event.Cut l a b) n is few = few
operators_few (event.Crash l) n is few = few
operators_few (event.Host l used word) n is few = few
operators_few (event.Round word) n is few = omega arith
operators_few e n is few = absurd is

operators_calls : (e : Event) (n : ℕ) → IsOperators e → calls_after e n ≡ n
operators_calls (event.PageOut c p) n is = absurd is
operators_calls (event.PageIn c p) n is = absurd is
operators_calls e n is = refl

pub all_at : {X : Type 0} (P : X → Type 0) (xs : List X) (i : ℕ) (d : X) → AllByRecursion P xs → i < length xs → P (get_or xs i d)
all_at P [] i d all within = absurd (omega (arith, within))
all_at P (x ∷ xs) zero d all within = all.0
all_at P (x ∷ xs) (suc i) d all within = all_at P xs i d all.1 (omega (arith, within))

module _ {D F : Type 0} (disk_moves : D → (c : DiskCall) → DiskAnswer c → D → Type 0) (moves : F → (c : FabricCall) → FabricAnswer c → F → Type 0) where
  -- the board after the operator's next event
  pub board_operated : (n : Named D F) (w w' : WorldView D F) (begun since : ℕ) (placed placed' : List ℕ) (words : Lcg) (e : Event) (page : List ℕ) (s : Seen)
      → IsOperators e → length placed < length n.operator → e ≡ get_or n.operator (length placed) e → placed' ≡ placed ++ length w.log ∷ []
      → Works disk_moves moves (Made Operator (record { event = e; page = page }) s ∷ []) w w'
      → IsBoard disk_moves moves n w begun since placed words → IsBoard disk_moves moves n w' begun (since_after e since) placed' words
  board_operated n w w' begun since placed placed' words e page s is within next grown works b =
      let len : length placed' ≡ suc (length placed) = let a = length-append placed (length w.log ∷ []) in let g = ap length grown in omega (arith, a, g) in
      let log : length w.log ≡ length b.first.log + length (lines_of b.acts) = let a = length-append b.first.log (lines_of b.acts) in
      let g = ap length b.makes.logged in omega (arith, a, g) in
      let taken : take (suc (length placed)) n.operator ≡ take (length placed) n.operator ++ e ∷ [] =
      take-suc n.operator (length placed) e within ∙ ap (λ (x : Event). take (length placed) n.operator ++ x ∷ []) (sym next) in
      record {
        first = b.first;
        opens = b.opens;
        acts = Made Operator (record { event = e; page = page }) s ∷ b.acts;
        makes = makes_on disk_moves moves b.first w w' b.acts (Made Operator (record { event = e; page = page }) s ∷ []) b.makes works.makes;
        sizes = ap (λ (o : FabricOf). o.sizes) works.makes.of ∙ b.sizes;
        lenders = ap (λ (o : FabricOf). o.lenders) works.makes.of ∙ b.lenders;
        operators = b.operators;
        made = (is, operators_few e (calls_since b.acts) is (few_since (seed_of n.number) b.acts b.made), b.made);
        words_are = b.words_are;
        since_is = ap (since_after e) b.since_is;
        begun_is = b.begun_is ∙ sym (operators_calls e (calls_in b.acts) is);
        most = b.most;
        room = let r = b.room in let x = works.busy in let y = works.spare in omega (arith, r, x, y);
        operated_are = ap (λ l. l ++ e ∷ []) b.operated_are ∙ sym taken ∙ ap (λ m. take m n.operator) (sym len);
        placed_are = grown ∙ ap (λ l. l ++ length w.log ∷ []) b.placed_are ∙ ap (λ (m : ℕ). places (length b.first.log) b.acts ++ m ∷ []) log;
      }

  -- an event was made, or nothing was for want of memory
  pub made_none : (e : Event) (m : Moved) (w w' : WorldView D F) → m ≡ moved.NoMemory → MakesAs disk_moves moves e m w w' → IsSame w w'
  made_none e moved.Did w w' is made = cc
  made_none e moved.Nothing w w' is made = cc
  made_none e moved.NoMemory w w' is made = made

  pub made_one : (e : Event) (m : Moved) (w w' : WorldView D F) → m ≢ moved.NoMemory → MakesAs disk_moves moves e m w w' → MakesOne disk_moves moves e m w w'
  made_one e moved.Did w w' some made = made
  made_one e moved.Nothing w w' some made = made
  made_one e moved.NoMemory w w' some made = absurd (some refl)

  abbrev board_at : WorldView D F → ℕ → ℕ → ℕ → Lcg → BoardView D F
  board_at w begun since made words = record { world = w; begun = begun; since = since; made = made; words = words }

  operates :
      (es : List Event) (e : Event) (w w' : WorldView D F) (begun since made since' made' : ℕ) (words : Lcg) (m : Moved) → MakesOne disk_moves moves e m w w'
      → made < length es → e ≡ get_or es made e
      → since' ≡ since_after e since → made' ≡ made + 1
      → Operates disk_moves moves es (operated_of m) (board_at w begun since made words) (board_at w' begun since' made' words)
  operates es e w w' begun since made since' made' words m made_ within next since_is made_is = record {
    event = e;
    page = made_.page;
    seen = made_.seen;
    within = within;
    next = next;
    works = made_.works Operator;
    says = ap operated_of made_.says;
    now = ap (λ (n : ℕ). board_at w' begun n made' words) since_is ∙ ap (λ (n : ℕ). board_at w' begun (since_after e since) n words) made_is;
  }

  -- what the operator's call says
  pub operates_as :
      (es : List Event) (e : Event) (w w' : WorldView D F) (begun since made since' made' : ℕ) (words : Lcg) (m : Moved) (o : Operated) → m ≢ moved.NoMemory
      → MakesOne disk_moves moves e m w w' → made < length es → e ≡ get_or es made e
      → since' ≡ since_after e since → made' ≡ made + 1 → o ≡ operated_of m
      → OperatesAs disk_moves moves es o (board_at w begun since made words) (board_at w' begun since' made' words)
  operates_as es e w w' begun since made since' made' words moved.Did o some made_ within next since_is made_is is =
      subst (λ (x : Operated). OperatesAs disk_moves moves es x (board_at w begun since made words) (board_at w' begun since' made' words)) (sym is)
      (operates es e w w' begun since made since' made' words moved.Did made_ within next since_is made_is)
  operates_as es e w w' begun since made since' made' words moved.Nothing o some made_ within next since_is made_is is =
      subst (λ (x : Operated). OperatesAs disk_moves moves es x (board_at w begun since made words) (board_at w' begun since' made' words)) (sym is)
      (operates es e w w' begun since made since' made' words moved.Nothing made_ within next since_is made_is)
  operates_as es e w w' begun since made since' made' words moved.NoMemory o some made_ within next since_is made_is is = absurd (some refl)
