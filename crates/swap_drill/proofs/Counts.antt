-- What the events of a step add to the counts.
use Rattle.std.proofs.Common.{◌≡◌, ℕ, zero, suc, ◌+◌, ◌%◌, ◌==◌, Bool, true, false, cond, leb, ◌&&◌, List, [], ◌∷◌, ◌++◌, refl, ap, ◌∙◌, arith, Option, None, Some}
use Rattle.std.specs.List.{AllByRecursion}
use Rattle.std.proofs.lemmas.List.Sums.{sum_by-append}
use Rattle.swap_base.specs.declared.Caller.{Caller}
use Rattle.swap_base.specs.declared.Page.{Page}
use Rattle.swap_base.specs.declared.CallKind.{CallKind}
use Rattle.swap_base.specs.declared.CallKind.TheVariants as kind
use Rattle.swap_wire.specs.Input.{Input}
use Rattle.swap_wire.specs.declared.Event.{Event}
use Rattle.swap_wire.specs.declared.Event.TheVariants as event
use Rattle.swap_wire.specs.declared.Seen.{Seen}
use Rattle.swap_disk.specs.Disk.{Flight}
use Rattle.swap_disk.specs.Port.{writes_in, oldest_write_in}
use Rattle.swap_base.proofs.Lists.{count_by-cons, one_if}
use Rattle.swap_world.specs.World.{World, next, reach, seens}
use Rattle.swap_trace.specs.declared.draws.Draw.{Draw}
use Rattle.swap_drill.specs.Drill.{after, plain_input, turn, turns, waits, call, call_event, calling, following, step, seen_of_call, all_heard, write_ends, oldest_write_ends, rounds_at, hosts_at, crashes_at, is_round_step}
use Rattle.swap_drill.specs.Summary.{told, is_call, is_busy, busy_in, is_round, rounds_in}

seens-append : (w : World) (xs ys : List Input) → seens w (xs ++ ys) ≡ seens w xs ++ seens (reach w xs) ys
seens-append w [] ys = refl
seens-append w (x ∷ xs) ys = ap (λ l. (x.event, (next w x).seen) ∷ l) (seens-append (next w x).world xs ys)

pub told-append : (w : World) (xs ys : List Input) → told w (xs ++ ys) ≡ told w xs ++ told (after w xs) ys
unfolding told after
told-append w xs ys = seens-append w xs ys

pub told-nil : (w : World) → told w [] ≡ []
unfolding told
told-nil w = refl

told-cons : (w : World) (x : Input) (xs : List Input) → told w (x ∷ xs) ≡ (x.event, (next w x).seen) ∷ told (next w x).world xs
unfolding told
told-cons w x xs = refl

pub busy-append : (w : World) (xs ys : List Input) → busy_in (told w (xs ++ ys)) ≡ busy_in (told w xs) + busy_in (told (after w xs) ys)
busy-append w xs ys =
    ap busy_in (told-append w xs ys) ∙ sum_by-append (λ (pair : Event × Seen). one_if (is_call pair.0 && is_busy pair.1)) (told w xs) (told (after w xs) ys)

busy-cons :
    (w : World) (x : Input) (xs : List Input)
    → busy_in (told w (x ∷ xs)) ≡ one_if (is_call x.event && is_busy (next w x).seen) + busy_in (told (next w x).world xs)
busy-cons w x xs =
    ap busy_in (told-cons w x xs)
    ∙ count_by-cons (λ (pair : Event × Seen). is_call pair.0 && is_busy pair.1) (x.event, (next w x).seen) (told (next w x).world xs)

pub rounds-append : (xs ys : List Input) → rounds_in (xs ++ ys) ≡ rounds_in xs + rounds_in ys
rounds-append xs ys = sum_by-append (λ (i : Input). one_if (is_round i.event)) xs ys

-- neither a call nor a Round
abbrev IsOther : Input → Type 0
IsOther i = (is_call i.event ≡ false) × (is_round i.event ≡ false)

abbrev AreOthers : List Input → Type 0
AreOthers is = AllByRecursion IsOther is

others-append : (xs ys : List Input) → AreOthers xs → AreOthers ys → AreOthers (xs ++ ys)
others-append [] ys h k = k
others-append (x ∷ xs) ys h k = (h.0, others-append xs ys h.1 k)

-- they add nothing
pub busy-others : (w : World) (xs : List Input) → AreOthers xs → busy_in (told w xs) ≡ 0
busy-others w [] h = ap busy_in (told-nil w)
busy-others w (x ∷ xs) h =
    let c = busy-cons w x xs in
    let rest = busy-others (next w x).world xs h.1 in
    let none = ap (λ b. one_if (b && is_busy (next w x).seen)) h.0.0 in
    omega (arith, c, rest, none)

pub rounds-others : (xs : List Input) → AreOthers xs → rounds_in xs ≡ 0
rounds-others [] h = refl
rounds-others (x ∷ xs) h =
    let c = count_by-cons (λ (i : Input). is_round i.event) x xs in
    let rest = rounds-others xs h.1 in
    let none = ap one_if h.0.1 in
    omega (arith, c, rest, none)

others_if : (b : Bool) (xs : List Input) → AreOthers xs → AreOthers (cond b xs [])
others_if true xs h = h
others_if false xs h = tt

turn-others : (c : Caller) → AreOthers (turn c)
turn-others c = ((refl, refl), ((refl, refl), ((refl, refl), ((refl, refl), ((refl, refl), ((refl, refl), ((refl, refl), ((refl, refl), tt))))))))

turns-others : (n : ℕ) (c : Caller) (w : World) → AreOthers (turns n c w)
unfolding turns
turns-others zero c w = tt
turns-others (suc n) c w = others_if (waits w c) _ (others-append (turn c) (turns n c (after w (turn c))) (turn-others c) (turns-others n c (after w (turn c))))

heard-others : AreOthers all_heard
heard-others = ((refl, refl), ((refl, refl), ((refl, refl), ((refl, refl), ((refl, refl), ((refl, refl), tt))))))

ends-others : (flights : List Flight) → AreOthers (oldest_write_ends flights)
ends-others flights = others_if (leb 4 (writes_in flights)) (write_ends (oldest_write_in flights)) (go (oldest_write_in flights))
  where
    go : (o : Option Page) → AreOthers (write_ends o)
    go None = tt
    go (Some p) = ((refl, refl), tt)

seldom-others : (i word : ℕ) → AreOthers (hosts_at i word ++ crashes_at i)
seldom-others i word =
    others-append (hosts_at i word) (crashes_at i) (others_if (i % 500 == 499) _ ((refl, refl), tt))
    (others_if (i % 10_000 == 9_999) _ ((refl, refl), ((refl, refl), tt)))

-- a Round is no call
round-busy : (w : World) (b : Bool) (word : ℕ) → busy_in (told w (cond b (plain_input (event.Round word) ∷ []) [])) ≡ 0
round-busy w true word =
    let c = busy-cons w (plain_input (event.Round word)) [] in
    let rest = busy-others (next w (plain_input (event.Round word))).world [] tt in
    omega (arith, c, rest)
round-busy w false word = busy-others w [] tt

round-rounds : (b : Bool) (word : ℕ) → rounds_in (cond b (plain_input (event.Round word) ∷ []) []) ≡ one_if b
round-rounds true word = refl
round-rounds false word = refl

is_call-call : (k : CallKind) (c : Caller) (p : Page) → is_call (call_event k c p) ≡ true
is_call-call kind.PageOut c p = refl
is_call-call kind.PageIn c p = refl

is_round-call : (k : CallKind) (c : Caller) (p : Page) → is_round (call_event k c p) ≡ false
is_round-call kind.PageOut c p = refl
is_round-call kind.PageIn c p = refl

following-busy : (i : ℕ) (draw : Draw) (w : World) → busy_in (told w (following i draw w)) ≡ 0
unfolding following
following-busy i draw w =
    let ends = oldest_write_ends w.drive.disk.flights in
    let rest = hosts_at i draw.word ++ crashes_at i in
    let a = busy-append w ends (all_heard ++ (rounds_at i draw.word ++ rest)) in
    let a0 = busy-others w ends (ends-others w.drive.disk.flights) in
    let b = busy-append (after w ends) all_heard (rounds_at i draw.word ++ rest) in
    let b0 = busy-others (after w ends) all_heard heard-others in
    let c = busy-append (after (after w ends) all_heard) (rounds_at i draw.word) rest in
    let c0 = round-busy (after (after w ends) all_heard) (is_round_step i) draw.word in
    let d0 = busy-others (after (after (after w ends) all_heard) (rounds_at i draw.word)) rest (seldom-others i draw.word) in
    omega (arith, a, a0, b, b0, c, c0, d0)

following-rounds : (i : ℕ) (draw : Draw) (w : World) → rounds_in (following i draw w) ≡ one_if (is_round_step i)
unfolding following
following-rounds i draw w =
    let ends = oldest_write_ends w.drive.disk.flights in
    let rest = hosts_at i draw.word ++ crashes_at i in
    let a = rounds-append ends (all_heard ++ (rounds_at i draw.word ++ rest)) in
    let a0 = rounds-others ends (ends-others w.drive.disk.flights) in
    let b = rounds-append all_heard (rounds_at i draw.word ++ rest) in
    let b0 = rounds-others all_heard heard-others in
    let c = rounds-append (rounds_at i draw.word) rest in
    let c0 = round-rounds (is_round_step i) draw.word in
    let d0 = rounds-others rest (seldom-others i draw.word) in
    omega (arith, a, a0, b, b0, c, c0, d0)

calling-busy : (draw : Draw) (w : World) → busy_in (told w (calling draw w)) ≡ one_if (is_busy (seen_of_call draw w))
unfolding calling
calling-busy draw w =
    let own = turns 4 draw.caller w in
    let v = after w own in
    let a = busy-append w own (call draw ∷ plain_input event.Start ∷ []) in
    let a0 = busy-others w own (turns-others 4 draw.caller w) in
    let b = busy-cons v (call draw) (plain_input event.Start ∷ []) in
    let b0 = busy-others (next v (call draw)).world (plain_input event.Start ∷ []) ((refl, refl), tt) in
    let is = ap (λ b. one_if (b && is_busy (next v (call draw)).seen)) (is_call-call draw.kind draw.caller draw.page) in
    omega (arith, a, a0, b, b0, is)

calling-rounds : (draw : Draw) (w : World) → rounds_in (calling draw w) ≡ 0
unfolding calling
calling-rounds draw w =
    let own = turns 4 draw.caller w in
    let a = rounds-append own (call draw ∷ plain_input event.Start ∷ []) in
    let a0 = rounds-others own (turns-others 4 draw.caller w) in
    let b = count_by-cons (λ (i : Input). is_round i.event) (call draw) (plain_input event.Start ∷ []) in
    let is = ap one_if (is_round-call draw.kind draw.caller draw.page) in
    let start = rounds-others (plain_input event.Start ∷ []) ((refl, refl), tt) in
    omega (arith, a, a0, b, is, start)

-- one step: its call may be busy, and it may make a Round
pub step-busy : (i : ℕ) (draw : Draw) (w : World) → busy_in (told w (step i draw w)) ≡ one_if (is_busy (seen_of_call draw w))
unfolding step
step-busy i draw w =
    let a = busy-append w (calling draw w) (following i draw (after w (calling draw w))) in
    let b = calling-busy draw w in
    let c = following-busy i draw (after w (calling draw w)) in
    omega (arith, a, b, c)

pub step-rounds : (i : ℕ) (draw : Draw) (w : World) → rounds_in (step i draw w) ≡ one_if (is_round_step i)
unfolding step
step-rounds i draw w =
    let a = rounds-append (calling draw w) (following i draw (after w (calling draw w))) in
    let b = calling-rounds draw w in
    let c = following-rounds i draw (after w (calling draw w)) in
    omega (arith, a, b, c)
