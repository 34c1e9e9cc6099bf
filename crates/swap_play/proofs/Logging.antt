-- The calls of a caller in a log are those of the run that wrote it.
use Rattle.std.proofs.Common.{◌≡◌, ◌++◌, ◌&&◌, not, Bool, true, false, List, [], ◌∷◌, cond, reverse, refl, sym, ap, ◌∙◌}
use Rattle.std.proofs.lemmas.List.{append-nil, reverse-append}
use Rattle.std.specs.List.{AllByRecursion}
use Rattle.swap_base.specs.declared.Caller.{Caller}
use Rattle.swap_wire.specs.Input.{Input}
use Rattle.swap_wire.specs.declared.Event.{Event}
use Rattle.swap_wire.specs.declared.Seen.{Seen}
use Rattle.swap_wire.specs.declared.Seen.TheVariants as seen
use Rattle.swap_wire.specs.Fabric.{FabricCall, FabricAnswer}
use Rattle.swap_disk.specs.Port.{DiskCall, DiskAnswer}
use Rattle.swap_table.specs.Device.{Device}
use Rattle.swap_table.specs.declared.DiskStep.{DiskStep}
use Rattle.swap_world.specs.Answered.{is_call_of, is_busy, with_call, calls_of}
use Rattle.swap_world.specs.Rounds.{is_part}
use Rattle.swap_world.specs.Runs.{IsRun, begin, effect, without, polled, with_polled, has_effect, Written, Alone, Together, HasParts, made_of, logged_of}
use Rattle.swap_world.proofs.RoundsKeepPlans.{part_no_call}
use Rattle.swap_play.specs.Callers.{calls_logged, events_of}
use Rattle.swap_play.proofs.Calling.{AreOf}

abbrev pub NotBusy : Input × Seen → Type 0
NotBusy m = is_busy m.1 ≡ false

abbrev pub NoneBusy : List (Input × Seen) → Type 0
NoneBusy made = AllByRecursion NotBusy made

effect_not_busy : (e : Event) (s : Seen) → has_effect e s ≡ true → is_busy s ≡ false
effect_not_busy e seen.Busy has = absurd (busy_none e has)
  where
    busy_none : (e : Event) → has_effect e seen.Busy ≡ true → ⊥
    busy_none e has = cc
effect_not_busy e s has = refl

polled_not_busy : (step : DiskStep) (made : List (Input × Seen)) → NoneBusy made → NoneBusy (with_polled step made)
polled_not_busy DiskStep.Nothing made none = none
polled_not_busy (DiskStep.Written p e) made none = (refl, none)
polled_not_busy (DiskStep.Kept p e) made none = (refl, none)
polled_not_busy (DiskStep.Dropped p e) made none = (refl, none)
polled_not_busy (DiskStep.Came c p) made none = (refl, none)
polled_not_busy (DiskStep.Failed c p) made none = (refl, none)

module _ {D F : Type 0} (disk_moves : D → (c : DiskCall) → DiskAnswer c → D → Type 0) (moves : F → (c : FabricCall) → FabricAnswer c → F → Type 0)
    (first : Device) (disk : D) (fabric : F) where
  -- what is made with an effect isn't a call of a busy caller
  pub run_not_busy : (made : List (Input × Seen)) (d : Device) (k : D) (f : F) → IsRun disk_moves moves first disk fabric made d k f → NoneBusy made
  run_not_busy made d k f begin = tt
  run_not_busy made d k f (effect {made = before} {d = e} {k = ke} {f = fe} i s d' k' f' run range step has) =
      (effect_not_busy i.event s has, run_not_busy before e ke fe run)
  run_not_busy made d k f (without {made = before} {d = e} {k = ke} {f = fe} i s k' f' run range step has) = run_not_busy made d ke fe run
  run_not_busy made d k f (polled {made = before} {d = e} {k = ke} {f = fe} step d' k' f' run along) =
      polled_not_busy step before (run_not_busy before e ke fe run)

one_logged : (b : Bool) (e : Event) (whole first rest : List Event) → whole ≡ first ++ rest → cond b (e ∷ whole) whole ≡ cond b (e ∷ first) first ++ rest
one_logged true e whole first rest same = ap (λ l. e ∷ l) same
one_logged false e whole first rest same = same

calls_logged-append : (c : Caller) (log later : List (Event × Seen)) → calls_logged c (log ++ later) ≡ calls_logged c log ++ calls_logged c later
calls_logged-append c [] later = refl
calls_logged-append c ((e, s) ∷ log) later =
    one_logged (is_call_of c e) e (calls_logged c (log ++ later)) (calls_logged c log) (calls_logged c later) (calls_logged-append c log later)

parts_no_calls :
    (c : Caller) (parts made : List (Input × Seen)) → AllByRecursion (λ (m : Input × Seen). is_part m.0.event ≡ true) parts
    → calls_of c (parts ++ made) ≡ calls_of c made
parts_no_calls c [] made all = refl
parts_no_calls c ((i, s) ∷ parts) made all = go (is_call_of c i.event) (part_no_call c i.event all.0) ∙ parts_no_calls c parts made all.1
  where
    go : (b : Bool) → b ≡ false → cond (b && not (is_busy s)) (i ∷ calls_of c (parts ++ made)) (calls_of c (parts ++ made)) ≡ calls_of c (parts ++ made)
    go true none = cc
    go false none = refl

later_not_busy : (parts made : List (Input × Seen)) → NoneBusy (parts ++ made) → NoneBusy made
later_not_busy [] made none = none
later_not_busy (m ∷ parts) made none = later_not_busy parts made none.1

-- a line more is a call more, or isn't
alone_logged :
    (c : Caller) (i : Input) (s : Seen) (rest : List Input) (log : List (Event × Seen)) → is_busy s ≡ false → events_of rest ≡ reverse (calls_logged c log)
    → events_of (with_call c i s rest) ≡ reverse (calls_logged c (log ++ (i.event, s) ∷ []))
alone_logged c i s rest log idle same =
    go (is_call_of c i.event) (is_busy s) idle
    ∙ sym (ap (λ l. reverse l) (calls_logged-append c log ((i.event, s) ∷ [])) ∙ reverse-append (calls_logged c log) (calls_logged c ((i.event, s) ∷ [])))
  where
    go : (b busy : Bool) → busy ≡ false → events_of (cond (b && not busy) (i ∷ rest) rest) ≡ reverse (cond b (i.event ∷ []) []) ++ reverse (calls_logged c log)
    go true true none = cc
    go true false none = ap (λ l. i.event ∷ l) same
    go false busy none = same

pub written_calls :
    (c : Caller) (written : List Written) → AllByRecursion HasParts written → NoneBusy (made_of written)
    → events_of (calls_of c (made_of written)) ≡ reverse (calls_logged c (logged_of written))
written_calls c [] parts none = refl
written_calls c (Alone i s ∷ written) parts none =
    alone_logged c i s (calls_of c (made_of written)) (logged_of written) none.0 (written_calls c written parts.1 none.1)
written_calls c (Together word mapped inner ∷ written) parts none =
    ap events_of (parts_no_calls c inner (made_of written) parts.0)
    ∙ written_calls c written parts.1 (later_not_busy inner (made_of written) none)
    ∙ ap (λ l. reverse l) (sym (calls_logged-append c (logged_of written) _ ∙ append-nil (calls_logged c (logged_of written))))

own_more :
    (c : Caller) (i : Input) (rest : List Input) (b busy : Bool) → is_call_of c i.event ≡ b → AreOf c rest → AreOf c (cond (b && not busy) (i ∷ rest) rest)
own_more c i rest true true is own = own
own_more c i rest true false is own = (is, own)
own_more c i rest false busy is own = own

-- what counts as a caller's call is its own
pub calls_own : (c : Caller) (made : List (Input × Seen)) → AreOf c (calls_of c made)
calls_own c [] = tt
calls_own c ((i, s) ∷ made) = own_more c i (calls_of c made) (is_call_of c i.event) (is_busy s) refl (calls_own c made)
