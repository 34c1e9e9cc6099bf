-- What a device and its lenders in memory agree on holds after every run over any disk.
use Rattle.std.proofs.Common.{◌≡◌, ℕ, Bool, true, false, List, [], is_some, refl, sym, subst}
use Rattle.swap_base.specs.Sizes.{Sizes}
use Rattle.swap_wire.specs.declared.Seen.{Seen}
use Rattle.swap_wire.specs.Input.{Input, IsInRange}
use Rattle.swap_wire.specs.declared.Event.{Event}
use Rattle.swap_wire.specs.Fabric.{FabricOf}
use Rattle.swap_disk.specs.declared.port.DiskPort.{Ghosts as DiskMeaning}
use Rattle.swap_link.specs.Harbor as harbor
use Rattle.swap_link.specs.Harbor.{Harbor}
use Rattle.swap_table.specs.Ports.{Prog, Along}
use Rattle.swap_table.specs.Goes.{Goes, EachKeeps, AllAsked}
use Rattle.swap_table.specs.Moves.{Speaker, quiet_speaker, Move}
use Rattle.swap_table.specs.Device.{Device, of_device, device_at_start, disk_take}
use Rattle.swap_table.specs.Happens.{happens}
use Rattle.swap_table.specs.Promises.{FollowsItsMoves}
use Rattle.swap_table.specs.declared.DiskStep.{DiskStep}
use Rattle.swap_table.proofs.MovesKeepInvariants.{Goes-along, Goes-asks, Goes-implies, beside}
use Rattle.swap_table.proofs.EventsGoByMoves as walk
use Rattle.swap_table.proofs.EventsComeToTheirEnds.{names_there}
use Rattle.swap_table.proofs.MovesKeepAgreement as keep
use Rattle.swap_table.proofs.CallsKeepAgreement.{there, anyone, any, hands_any}
use Rattle.swap_base.specs.declared.DiskWhich.TheVariants as which
use Rattle.swap_joint.specs.Lenders.{AreSound}
use Rattle.swap_joint.specs.Owned.{IsLent}
use Rattle.swap_joint.specs.Sends.{FindsUp}
use Rattle.swap_joint.specs.Stored.{AllJoined}
use Rattle.swap_joint.specs.Turn.{AllTurned}
use Rattle.swap_joint.specs.Lies.{is_lied, is_ended}
use Rattle.swap_joint.proofs.Turned as turned
use Rattle.swap_joint.proofs.Lies.{event_honest, understood}
use Rattle.swap_joint.proofs.Harbors.{harbor_meaning}
use Rattle.swap_joint.proofs.Lenders.{lenders_keep}
use Rattle.swap_joint.proofs.Moves as joint
use Rattle.swap_joint.proofs.Sends.{new_joins, new_turned, new_allowed}
use Rattle.swap_joint.specs.Allowed.{AllAllowed}
use Rattle.swap_joint.specs.Left.{AllLeft}
use Rattle.swap_joint.proofs.Allowing as allowed
use Rattle.swap_joint.proofs.Leaving as left
use Rattle.swap_joint.proofs.Leaving.{new_left}
use Rattle.swap_joint.proofs.Fair.{given_fair}
use Rattle.swap_joint.proofs.Newest.{joined_is_newest, joined_have_slots}
use Rattle.swap_world.specs.Runs.{IsRun, begin, effect, without, polled}
use Rattle.swap_world.specs.Laws.{Began}
use Rattle.swap_world.specs.World.{IsStep, IsEvent}
use Rattle.swap_world.proofs.WorldInMemoryStaysSound.{harbor_promises}
use Rattle.swap_world.specs.Rounds.{Plan, Stop, Make, round_plan, AlongPlan}
use Rattle.swap_world.proofs.RoundsKeepPlans.{bare, AreParts, round_parts, splits, Splits, by_program, by_plan}
use Rattle.swap_world.proofs.EventsKeepWhatHolds.{Known, known_range, step_known, run_known}
use Rattle.swap_newest.specs.Laws.{Holds, HoldsAfterEach}
use Rattle.swap_base.proofs.Bools.{or_parts}

-- the lenders are sound; each link that is up is joined with its lender, its messages may be taken in turn, and what is
-- under way to the lender may be sent, as it may on a link that was lost
abbrev pub Joined : FabricOf → Device → Harbor → Type 0
Joined o d h = (((AreSound h × AllJoined o.lenders d h) × AllTurned o.lenders d h) × AllAllowed o.lenders d h) × AllLeft o.sizes o.lenders d h []

module _ {D : Type 0} (disk : DiskMeaning D) (follows : FollowsItsMoves disk) (T : Bool) (o : FabricOf) where
  abbrev pub KnownAt : Device → D → Harbor → Type 0
  KnownAt = Known disk follows harbor_meaning harbor_promises T o

  abbrev AgreesAt : Device → Speaker → D → Harbor → Type 0
  AgreesAt d = keep.Agrees disk follows harbor_meaning harbor_promises T (of_device d) anyone any

  abbrev JoinedFor : Device → Speaker → D → Harbor → Type 0
  JoinedFor d s k h =
      ((joint.JoinedAt disk follows harbor_promises T (of_device d) anyone any s k h
      × turned.TurnedAt disk follows harbor_promises T (of_device d) anyone any s k h)
      × allowed.AllowedAt disk follows harbor_promises T (of_device d) anyone any s k h)
      × left.LeftAt disk follows harbor_promises T (of_device d) anyone any s k h

  each_both : (d : Device) → EachKeeps disk.moves harbor.Moves (Move (there d)) (λ s k h. AgreesAt d s k h × JoinedFor d s k h)
  each_both d x asked y k k' h h' move went before =
      let J : Speaker → D → Harbor → Type 0 = joint.JoinedAt disk follows harbor_promises T (of_device d) anyone any in
      let first : AgreesAt d y k' h' × J y k' h' =
      beside (Move (there d)) disk.moves harbor.Moves (AgreesAt d) J (keep.each_keeps disk follows harbor_meaning harbor_promises T (of_device d) anyone any)
      (joint.each_joins disk follows harbor_promises T (of_device d) anyone any) x asked y k k' h h' move went (before.0, before.1.0.0.0)
      in
      let in_turn =
      turned.each_turned disk follows harbor_promises T (of_device d) anyone any x asked y k k' h h' move went (before.0, before.1.0.0.0) before.1.0.0.1 in
      let may =
      allowed.each_allows disk follows harbor_promises T (of_device d) anyone any x asked y k k' h h' move went
      ((before.0, before.1.0.0.0), before.1.0.0.1) before.1.0.1 in
      let lost_ =
      left.each_left disk follows harbor_promises T (of_device d) anyone any x asked y k k' h h' move went
      ((before.0, before.1.0.0.0), before.1.0.1) before.1.1 in
      (first.0, (((first.1, in_turn), may), lost_))

  -- along a program that goes by moves
  goes_joined :
      {R : Type 0} (d d' : Device) (r : R) (p : Prog (Device × R)) (k k' : D) (h h' : Harbor)
      → Goes (Move (there d)) (λ (a : Device × R) s. s ≡ quiet_speaker a.0) (quiet_speaker d) p → KnownAt d k h → Joined o d h
      → Along disk.moves harbor.Moves p k h k' h' (d', r)
      → Joined o d' h'
  goes_joined {R} d d' r p k k' h h' goes known joined along =
      let agree : AgreesAt d (quiet_speaker d) k h =
      record { fits = record { disk = known.agree.0.disk; serves = known.agree.0.serves }; is = refl; of_f = known.agree.1 } in
      let first : JoinedFor d (quiet_speaker d) k h = subst (λ (x : FabricOf). Joined x d h) (sym known.is) joined in
      let last =
      Goes-along (Move (there d)) disk.moves harbor.Moves (λ s k h. AgreesAt d s k h × JoinedFor d s k h) (each_both d)
      (λ (a : Device × R) s. s ≡ quiet_speaker a.0) k k' h h' (d', r) (quiet_speaker d) p goes (agree, first) along in
      let now : JoinedFor d (quiet_speaker d') k' h' = subst (λ x. JoinedFor d x k' h') last.1 last.2.1 in
      subst (λ (x : FabricOf). Joined x d' h') known.is now

  step_joined :
      (d d' : Device) (k k' : D) (h h' : Harbor) (i : Input) (s : Seen) → KnownAt d k h → Joined o d h → IsInRange o.sizes o.lenders i.event
      → IsStep disk.moves harbor.Moves d k h i s d' k' h' → Joined o d' h'
  step_joined d d' k k' h h' i s known joined range step =
      goes_joined d d' s (happens d i.page i.event) k k' h h'
      (Goes-implies (Move (there d)) _ _ (λ a s q. q.0)
      (walk.happens_fares (there d) d i.page i.event
      (names_there d.sizes d.lenders anyone any d i.page i.event (known_range disk follows harbor_meaning harbor_promises T o d k h i known range)
      (hands_any i.page i.event))))
      known joined step

  poll_joined :
      (d d' : Device) (k k' : D) (h h' : Harbor) (step : DiskStep) → KnownAt d k h → Joined o d h
      → Along disk.moves harbor.Moves (disk_take d) k h k' h' (d', step) → Joined o d' h'
  poll_joined d d' k k' h h' step known joined along =
      goes_joined d d' step (disk_take d) k k' h h'
      (Goes-implies (Move (there d)) _ _ (λ a s q. q.0) (walk.disk_take_fares (there d) d [] (which.Write (record { 0 = 0 })) true)) known joined along

  -- along a plan, and so along every event
  plan_joined :
      (plan : Plan) (d d' : Device) (k k' : D) (h h' : Harbor) (effects : ℕ) → AreParts o.sizes o.lenders plan → KnownAt d k h → Joined o d h
      → AlongPlan disk.moves harbor.Moves plan d k h d' k' h' effects → Joined o d' h'
  plan_joined Stop d d' k k' h h' effects parts known joined along = rw (along.0, along.2) joined
  plan_joined (Make e more) d d' k k' h h' effects parts known joined (seen_, x, kx, hx, left, step, rest, count) =
      plan_joined (more seen_) x d' kx k' hx h' left (parts.2 seen_)
      (step_known disk follows harbor_meaning harbor_promises T o d x k kx h hx (bare e) seen_ known parts.1 step)
      (step_joined d x k kx h hx (bare e) seen_ known joined parts.1 step) rest

  these_parts : (d : Device) (word : ℕ) → of_device d ≡ o → AreParts o.sizes o.lenders (round_plan d.sizes d.lenders word)
  these_parts d word is =
      let P : FabricOf → Type 0 = λ x. AreParts x.sizes x.lenders (round_plan d.sizes d.lenders word) in subst P is (round_parts d.sizes d.lenders word)

  pub event_joined :
      (d d' : Device) (k k' : D) (h h' : Harbor) (i : Input) (s : Seen) → KnownAt d k h → Joined o d h → IsInRange o.sizes o.lenders i.event
      → IsEvent disk.moves harbor.Moves d k h i s d' k' h' → Joined o d' h'
  event_joined d d' k k' h h' i s known joined range step = go (splits disk.moves harbor.Moves i.page i.event s d d' k k' h h' step) range
    where
      go : {e : Event} {s : Seen} → Splits disk.moves harbor.Moves i.page d k h d' k' h' e s → IsInRange o.sizes o.lenders e → Joined o d' h'
      go {e} {s} (by_program along) there = step_joined d d' k k' h h' (record { event = e; page = i.page }) s known joined there along
      go (by_plan {word = word} effects along is) there =
          plan_joined (round_plan d.sizes d.lenders word) d d' k k' h h' effects (these_parts d word known.is) known joined along

  -- each send of an event is taken
  sends_taken :
      (d : Device) (k : D) (h : Harbor) (page : List ℕ) (e : Event) → KnownAt d k h → Joined o d h → IsInRange d.sizes d.lenders e
      → AllAsked disk.moves harbor.Moves FindsUp (happens d page e) k h
  sends_taken d k h page e known joined range =
      let P : Speaker → D → Harbor → Type 0 = λ s k h. AgreesAt d s k h × JoinedFor d s k h in
      let agree : AgreesAt d (quiet_speaker d) k h =
      record { fits = record { disk = known.agree.0.disk; serves = known.agree.0.serves }; is = refl; of_f = known.agree.1 } in
      let first : JoinedFor d (quiet_speaker d) k h = subst (λ (x : FabricOf). Joined x d h) (sym known.is) joined in
      Goes-asks (Move (there d)) disk.moves harbor.Moves P (each_both d) FindsUp
      (λ x asked y k k' h h' move went before.
      joint.each_finds_up disk follows harbor_promises T (of_device d) anyone any x asked y k k' h h' move went (before.0, before.1.0.0.0))
      _ k h
      (walk.happens_fares (there d) d page e (names_there d.sizes d.lenders anyone any d page e range (hands_any page e))) (agree, first)

  -- no message that an event takes is one that its lender may not send, and none that it gives one that ends its link
  honest_next :
      (d : Device) (k : D) (h : Harbor) (i : Input) (s : Seen) (d' : Device) (k' : D) (h' : Harbor) → KnownAt d k h → Joined o d h
      → IsStep disk.moves harbor.Moves d k h i s d' k' h' → (is_lied s ≡ false) × (is_ended s ≡ false)
  honest_next d k h i s d' k' h' known joined step =
      let here : Joined (of_device d) d h = subst (λ (x : FabricOf). Joined x d h) (sym known.is) joined in
      let serves = known.agree.0.serves in
      or_parts (is_lied s) (is_ended s)
      (event_honest disk.moves d i.page i.event k h s (understood d.lenders d h known.agree.0.serves here.0.0.0.1 here.0.0.1)
      (given_fair d h known.agree.0.serves here.0.0.0.0 known.agree.1 here.0.0.0.1 here.0.1 here.1) (d', k', h', step))

-- what is joined is lent
pub joined_lent :
    {D : Type 0} (disk : DiskMeaning D) (follows : FollowsItsMoves disk) (T : Bool) (o : FabricOf) (d : Device) (k : D) (h : Harbor)
    → KnownAt disk follows T o d k h → Joined o d h → IsLent d h
joined_lent disk follows T o d k h known joined =
    let here : Joined (of_device d) d h = subst (λ (x : FabricOf). Joined x d h) (sym known.is) joined in
    record {
      newest = joined_is_newest d.lenders d h here.0.0.0.1 known.agree.0.serves;
      owned = record { slots = lenders_keep.owned h here.0.0.0.0; slabs = joined_have_slots d.lenders d h here.0.0.0.1 known.agree.0.serves };
    }

-- a device as it is made, over lenders as they are made
pub starts_joined :
    (s : Sizes) (n : ℕ) (h : Harbor) → harbor.IsFresh h (record { sizes = s; lenders = n }) → Joined (record { sizes = s; lenders = n }) (device_at_start s n) h
starts_joined s n h fresh = (
  (((lenders_keep.made h (record { sizes = s; lenders = n }) fresh, new_joins n n s h), new_turned n n s h), new_allowed n n s h),
  new_left s n (device_at_start s n) h fresh,
)

module _ {D : Type 0} (disk : DiskMeaning D) (follows : FollowsItsMoves disk) (s : Sizes) (n : ℕ) (first : D) (harbor_first : Harbor)
    (began : Began disk harbor_meaning s n first harbor_first) (fresh : harbor.IsFresh harbor_first (record { sizes = s; lenders = n })) where
  abbrev Told : Bool
  Told = is_some (disk.means first).blocks

  abbrev Of : FabricOf
  Of = record { sizes = s; lenders = n }

  known :
      (made : List (Input × Seen)) (d : Device) (k : D) (h : Harbor) → IsRun disk.moves harbor.Moves (device_at_start s n) first harbor_first made d k h
      → KnownAt disk follows Told Of d k h
  known made d k h run = run_known disk follows harbor_meaning harbor_promises s n first harbor_first began made d k h run

  run_joined :
      (made : List (Input × Seen)) (d : Device) (k : D) (h : Harbor) → IsRun disk.moves harbor.Moves (device_at_start s n) first harbor_first made d k h
      → Joined Of d h
  run_joined made d k h begin = starts_joined s n harbor_first fresh
  run_joined made d k h (effect {made = before} {d = d0} {k = k0} {f = h0} i seen_ d' k' h' run range step has) =
      step_joined disk follows Told Of d0 d' k0 k' h0 h' i seen_ (known before d0 k0 h0 run) (run_joined before d0 k0 h0 run) range step
  run_joined made d k h (without {made = before} {d = d0} {k = k0} {f = h0} i seen_ k' h' run range step has) =
      step_joined disk follows Told Of d0 d0 k0 k' h0 h' i seen_ (known before d0 k0 h0 run) (run_joined before d0 k0 h0 run) range step
  run_joined made d k h (polled {made = before} {d = d0} {k = k0} {f = h0} step d' k' h' run along) =
      poll_joined disk follows Told Of d0 d' k0 k' h0 h' step (known before d0 k0 h0 run) (run_joined before d0 k0 h0 run) along

  run_holds :
      (made : List (Input × Seen)) (d : Device) (k : D) (h : Harbor) → IsRun disk.moves harbor.Moves (device_at_start s n) first harbor_first made d k h
      → Holds disk d k h
  run_holds made d k h run = record {
    lent = joined_lent disk follows Told Of d k h (known made d k h run) (run_joined made d k h run);
    taken = λ page e range. sends_taken disk follows Told Of d k h page e (known made d k h run) (run_joined made d k h run) range;
    honest = λ i s d' k' h' range step. (honest_next disk follows Told Of d k h i s d' k' h' (known made d k h run) (run_joined made d k h run) step).0;
    heeded = λ i s d' k' h' range step. (honest_next disk follows Told Of d k h i s d' k' h' (known made d k h run) (run_joined made d k h run) step).1;
  }

pub holds_after_each : {D : Type 0} (disk : DiskMeaning D) → FollowsItsMoves disk → HoldsAfterEach disk
holds_after_each disk follows s n first harbor_first made d k h blank fresh few run =
    run_holds disk follows s n first harbor_first (record { blank = blank; is_of = fresh.is; few = few }) fresh made d k h run
