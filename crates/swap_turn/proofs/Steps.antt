-- Each step keeps the rule of the lock.
use Rattle.std.proofs.Common.{◌≡◌, ◌≢◌, ◌⊎◌, ℕ, zero, suc, ◌+◌, ◌%◌, ◌^◌, ◌<◌, ◌≤◌, false, true≢false, List, [], ◌∷◌, ◌++◌, map, length, get_or, set, Option, Some, None, refl, sym, ap, ◌∙◌, subst, ⊎_elim, inl, inr, arith}
use Rattle.std.specs.Prelude.{All}
use Rattle.std.proofs.lemmas.List.Elements.{All-append, All-weaker}
use mathlib.Core.Logic.{dite}
use mathlib.Core.Option.{some, none, some-injective, some-ne-none}
use mathlib.Core.Option as maybe
use native.Mathlib.Decide.{ℕ_discrete}
use lib.ListN.{get_elem?}
use lib.Seq.{set-get_or}
use Rattle.atomic_table.specs.Table.{State, Me, step, keeps, takes, gives, stepped, put_back, rest, Allows}
use Rattle.atomic_table.proofs.Lists.{at_set, set_again, set_else}
use Rattle.swap_record.specs.History.{History, Row}
use Rattle.swap_turn.specs.declared.view.Stage.{Stage}
use Rattle.swap_turn.specs.declared.view.Stage.TheVariants.{Idle, Drawn, Serving}
use Rattle.swap_turn.specs.declared.view.View.{View}
use Rattle.swap_turn.specs.Turns.{entries_of, IsEarlier, added_since, weigh, numbers, tickets, tickets_of, IsServing, joined_seat, Fits, SlotFits, Turns, drew, looked, noted, passed, Extends}
use Rattle.swap_turn.proofs.Sums.{at_only, one, at_only-same, below_once, below_some, weigh_below-one, weigh-append, total_set, total_two, total_one, total_le, numbers_open}
use Rattle.swap_turn.proofs.Earlier.{earlier_self, earlier_trans}
use Rattle.swap_turn.proofs.Histories.{entries_of-append, entries_of-own, entries_of-grown, added_since-is, all_apart, all_pairs_apart}

-- what each seat fits after one seat's step
pub each_set :
    (K : ℕ → View → Type 0) (vs : List View) (me : ℕ) (w : View) → K me w → ((j : ℕ) (d : View) → j ≢ me → get_elem? vs j ≡ some d → K j d) → (j : ℕ) (d : View)
    → get_elem? (set vs me w) j ≡ some d → K j d
each_set K vs me w mine others j d e = ⊎_elim (λ (t : (j ≡ me) × (w ≡ d)). subst (λ (x : ℕ × View). K x.0 x.1) (λ i. (sym t.0 i, t.1 i)) mine)
    (λ (t : (j ≢ me) × (get_elem? vs j ≡ some d)). others j d t.0 t.1) (at_set vs me j w d e)

pub set_there : (vs : List View) (i : ℕ) (v w : View) → get_elem? vs i ≡ some v → get_elem? (set vs i w) i ≡ some w
set_there [] i v w e = absurd (some-ne-none v (sym e))
set_there (x ∷ xs) zero v w e = refl
set_there (x ∷ xs) (suc i) v w e = set_there xs i v w e

-- one place has one view
pub same_view : (vs : List View) (i j : ℕ) (v u : View) → get_elem? vs i ≡ some v → get_elem? vs j ≡ some u → j ≡ i → u ≡ v
same_view vs i j v u e d is = some-injective u v (sym d ∙ (ap (get_elem? vs) is ∙ e))

abbrev pub Newest : History → List View → Type 0
Newest log vs = (j : ℕ) × (v : View) × (get_elem? vs j ≡ some v) × (v.spent ≡ false) × (v.seen ≡ log)

pub newest_set :
    (log : History) (vs : List View) (id : ℕ) (v w : View) → get_elem? vs id ≡ some v → w.spent ≡ false → w.seen ≡ v.seen → Newest log vs
    → Newest log (set vs id w)
newest_set log vs id v w at standing same n = dite (ℕ_discrete n.0 id)
    (λ is. (id, w, set_there vs id v w at, standing, same ∙ (ap (λ (x : View). x.seen) (sym (same_view vs id n.0 v n.1 at n.2 is)) ∙ n.4)))
    (λ other. (n.0, n.1, set_else vs id n.0 w other ∙ n.2, n.3, n.4))

pub not_spent : (v : View) → v.spent ≡ false → v ≡ joined_seat → ⊥
not_spent v standing e = true≢false (sym (ap (λ (x : View). x.spent) e) ∙ standing)

pub not_served : (v : View) → v ≡ joined_seat → IsServing v → ⊥
not_served v e s = let is : Idle ≡ Serving s.0 = sym (ap (λ (x : View). x.stage) e) ∙ s.1 in absurd cc

module _ {T : Type 0} where
  -- the value in hand
  hand_of : List (ℕ × Option T) → Option T
  hand_of [] = None
  hand_of (p ∷ ps) = p.1

  one_hand : (x y : T) → ◌≡◌ {A = List (ℕ × Option T)} ((0, Some x) ∷ []) ((0, Some y) ∷ []) → x ≡ y
  unfolding hand_of
  one_hand x y e = let f : Some x ≡ Some y = ap hand_of e in cc

module _ {T : Type 0} (history : T → History) where
  abbrev pub S : Type 0
  S = State (Option T) View

  abbrev pub M : Type 0
  M = Me (Option T) View

  abbrev pub Rule : S → Type 0
  Rule = Turns history

  pub fits_of : (s : S) (r : Rule s) (j : ℕ) (v : View) → get_elem? s.views j ≡ some v → v.spent ≡ false → Fits r.made r.serving r.log v
  fits_of s r j v at standing = ⊎_elim (λ e. absurd (not_spent v standing e)) (λ f. f) (r.each_seat j v at)

  -- a ticket is held by one seat
  alone :
      (s : S) (r : Rule s) (j k t : ℕ) (u v : View) → get_elem? s.views j ≡ some u → get_elem? s.views k ≡ some v → tickets u ≡ t ∷ [] → tickets v ≡ t ∷ []
      → j ≡ k
  alone s r j k t u v at_u at_v has_u has_v = dite (ℕ_discrete j k) (λ e. e) (λ other.
      let f : View → ℕ = λ x. weigh (at_only t) (tickets x) in
      let two = total_two f s.views j k u v at_u at_v other in let most = below_once t r.ticket in let all = r.tickets_are (at_only t) in
      let a : f u ≡ at_only t t + 0 = ap (weigh (at_only t)) has_u in let b : f v ≡ at_only t t + 0 = ap (weigh (at_only t)) has_v in
      let c = at_only-same t t refl in absurd (omega arith))

  -- who is served is the only one
  served_alone :
      (s : S) (r : Rule s) (id t : ℕ) (v : View) → get_elem? s.views id ≡ some v → tickets v ≡ t ∷ [] → t ≡ r.serving → (j : ℕ) (u : View)
      → get_elem? s.views j ≡ some u → IsServing u → j ≡ id
  served_alone s r id t v at has is j u at_u serves = ⊎_elim (λ e. absurd (not_served u e serves))
      (λ (f : Fits r.made r.serving r.log u). let g = f.served serves.0 serves.1 in
      alone s r j id t u v at_u at (ap tickets_of serves.1 ∙ ap (λ (k : ℕ). k ∷ []) (g.0 ∙ sym is)) has) (r.each_seat j u at_u)

  tickets_few : (st : Stage) → weigh one (tickets_of st) ≤ 1
  tickets_few Idle = omega arith
  tickets_few (Drawn t) = omega arith
  tickets_few (Serving t) = omega arith

  few : (made serving : ℕ) (log : History) (v : View) → (v ≡ joined_seat) ⊎ Fits made serving log v → weigh one (tickets v) ≤ weigh one (numbers v)
  few made serving log v = ⊎_elim (λ e. let P : View → Type 0 = λ x. weigh one (tickets x) ≤ weigh one (numbers x) in subst P (sym e) (omega arith))
      (λ (f : Fits made serving log v). let a = tickets_few v.stage in
      let b : weigh one (numbers v) ≡ 1 + weigh one (v.left ++ map (λ p. p.0) v.joined) = ap (weigh one) (numbers_open v f.standing) in omega arith)

  -- there are at most as many tickets as seats
  ticket_low : (s : S) (r : Rule s) → r.ticket ≤ r.serving + 64
  ticket_low s r =
      let a = r.tickets_are one in let b = r.numbers_are one in let c = weigh_below-one r.ticket in let d = weigh_below-one r.serving in
      let e = weigh_below-one r.made in
      let f = total_le (λ v. weigh one (tickets v)) (λ v. weigh one (numbers v)) s.views (λ j v at. few r.made r.serving r.log v (r.each_seat j v at)) in
      let g = r.made_low in omega arith

  -- a step of a seat that isn't served leaves the slot
  pub slot_quiet :
      (log : History) (vs : List View) (id : ℕ) (v w : View) → get_elem? vs id ≡ some v → ¬ IsServing v → ¬ IsServing w → (home : maybe.Option (Option T))
      → SlotFits history log vs home → SlotFits history log (set vs id w) home
  slot_quiet log vs id v w at before after none out =
      let other : out.0 ≢ id = λ is. before (subst IsServing (same_view vs id out.0 v out.1 at out.2 is) out.3) in
      (out.0, out.1, set_else vs id out.0 w other ∙ out.2, out.3)
  slot_quiet log vs id v w at before after (some y) home = (home.0, home.1, home.2, each_set (λ j u. ¬ IsServing u) vs id w after (λ j u _ e. home.3 j u e))

  unmoved : (s : S) (r : Rule s) (i id : ℕ) (me : M) → get_elem? s.views id ≡ some me.0 → Rule (stepped s i (get_or s.words i 0) id me.1 me.0 keeps)
  unmoved s r i id me at =
      subst (λ (x : List ℕ × List View). let z : S = record { words = x.0; homes = s.homes; views = x.1 } in Rule z)
      (λ k. (sym (set-get_or s.words i 0) k, sym (set_again s.views id me.0 at) k)) r

  pub draws :
      (slots id : ℕ) (me : M) → me.0.spent ≡ false → me.0.stage ≡ Idle → Allows Rule slots id me 0 (λ n. (n + 1) % 2 ^ 64) (drew (step slots 0 1 0 none) me)
  draws slots id me standing idle s r _ at _ =
      let n : ℕ = get_or s.words 0 0 in
      let is : n ≡ r.ticket = ap (λ (ws : List ℕ). get_or ws 0 0) r.words_are in
      let v : View = me.0 in
      let w : View = record me.0 { stage = Drawn n } in
      let low = ticket_low s r in let low' = r.serving_low in
      let f = fits_of s r id v at standing in
      let up : (r.ticket + 1) % 18446744073709551616 ≡ suc r.ticket = omega arith in (
        w,
        keeps,
        tt,
        record {
          ticket = suc r.ticket;
          serving = r.serving;
          made = r.made;
          log = r.log;
          home = r.home;
          words_are =
              ap (λ (ws : List ℕ). set ws 0 ((get_or ws 0 0 + 1) % 18446744073709551616)) r.words_are
              ∙ ap (λ (k : ℕ). k ∷ r.serving ∷ length r.log ∷ r.made ∷ []) up;
          homes_are = r.homes_are;
          serving_low = r.serving_low;
          made_low = r.made_low;
          tickets_are =
              λ h. let a = total_set (λ x. weigh h (tickets x)) s.views id v w at in let b = r.tickets_are h in
              let c : weigh h (tickets v) ≡ 0 = ap (λ (st : Stage). weigh h (tickets_of st)) idle in
              let d : h n ≡ h r.ticket = ap h is in omega arith;
          numbers_are = λ h. let a = total_set (λ x. weigh h (numbers x)) s.views id v w at in let b = r.numbers_are h in omega arith;
          callers = r.callers;
          each_seat = each_set (λ j u. (u ≡ joined_seat) ⊎ Fits r.made r.serving r.log u) s.views id w
              (inr record {
                standing = standing;
                seats_is = f.seats_is;
                seen_earlier = f.seen_earlier;
                mine_is = f.mine_is;
                mine_seen = f.mine_seen;
                left_seen = f.left_seen;
                joined_is = f.joined_is;
                served = λ t e. absurd cc;
              }) (λ j u _ e. r.each_seat j u e);
          newest = newest_set r.log s.views id v w at standing refl r.newest;
          slot =
              slot_quiet r.log s.views id v w at (λ sv. let e : Idle ≡ Serving sv.0 = sym idle ∙ sv.1 in absurd cc)
              (λ sv. let e = sv.1 in absurd cc) r.home r.slot;
        },
        refl,
      )

  -- taking the slot, where the ticket is served
  takes_turn :
      (s : S) (r : Rule s) (id t : ℕ) (me : M) → get_elem? s.views id ≡ some me.0 → me.0.spent ≡ false → me.0.stage ≡ Drawn t → t < 9223372036854775808
      → t ≡ r.serving
      → (home : maybe.Option (Option T)) → s.homes ≡ home ∷ [] → SlotFits history r.log s.views home
      → (x : T) × (get_elem? s.homes 0 ≡ some (some (Some x))) × (history x ≡ r.log)
      × Rule (stepped s 1 (get_or s.words 1 0) id me.1 (record me.0 { seen = history x; stage = Serving t }) (takes 0 (Some x)))
  takes_turn s r id t me at standing drawn low is none homes out =
      absurd
      (let e : me.0.stage ≡ Serving out.3.0 =
      ap (λ (u : View). u.stage)
      (sym (same_view s.views id out.0 me.0 out.1 at out.2 (served_alone s r id t me.0 at (ap tickets_of drawn) is out.0 out.1 out.2 out.3)))
      ∙ out.3.1 in
      let e' : Drawn t ≡ Serving out.3.0 = sym drawn ∙ e in absurd cc)
  takes_turn s r id t me at standing drawn low is (some y) homes home =
      let x = home.0 in
      let v : View = me.0 in
      let w : View = record me.0 { seen = history x; stage = Serving t } in
      let same : history x ≡ r.log = home.2 in
      let f = fits_of s r id v at standing in (
        x,
        ap (λ (hs : List (maybe.Option (Option T))). get_elem? hs 0) homes ∙ ap (λ (z : Option T). some (some z)) home.1,
        same,
        record {
          ticket = r.ticket;
          serving = r.serving;
          made = r.made;
          log = r.log;
          home = none;
          words_are = set-get_or s.words 1 0 ∙ r.words_are;
          homes_are = ap (λ (hs : List (maybe.Option (Option T))). set hs 0 none) homes;
          serving_low = r.serving_low;
          made_low = r.made_low;
          tickets_are =
              λ h. let a = total_set (λ u. weigh h (tickets u)) s.views id v w at in let b = r.tickets_are h in
              let c : weigh h (tickets v) ≡ h t + 0 = ap (λ (st : Stage). weigh h (tickets_of st)) drawn in omega arith;
          numbers_are = λ h. let a = total_set (λ u. weigh h (numbers u)) s.views id v w at in let b = r.numbers_are h in omega arith;
          callers = r.callers;
          each_seat = each_set (λ j u. (u ≡ joined_seat) ⊎ Fits r.made r.serving r.log u) s.views id w
              (inr record {
                standing = standing;
                seats_is = f.seats_is;
                seen_earlier = subst (λ (l : History). IsEarlier (history x) l) same (earlier_self (history x));
                mine_is = f.mine_is;
                mine_seen = f.mine_is ∙ ap (entries_of v.number) (sym same);
                left_seen =
                    All-weaker (λ n. entries_of n r.log ≡ entries_of n v.seen) (λ n. entries_of n r.log ≡ entries_of n (history x))
                    (λ n _. ap (entries_of n) (sym same)) v.left f.left_seen;
                joined_is = f.joined_is;
                served = λ t' e. let k : t ≡ t' = cc in (sym k ∙ is, same, subst (λ (z : ℕ). z < 9223372036854775808) k low);
              }) (λ j u _ e. r.each_seat j u e);
          newest = (id, w, set_there s.views id v w at, standing, same);
          slot = (id, w, set_there s.views id v w at, (t, refl));
        },
      )

  pub looks :
      (slots id t : ℕ) (me : M) → me.0.spent ≡ false → me.0.stage ≡ Drawn t → t < 9223372036854775808
      → Allows Rule slots id me 1 (λ n. n) (looked history (step slots 1 0 0 none) me)
  looks slots id t me standing drawn low s r _ at _ =
      let n : ℕ = get_or s.words 1 0 in
      let is : n ≡ r.serving = ap (λ (ws : List ℕ). get_or ws 1 0) r.words_are in
      let f = fits_of s r id me.0 at standing in
      dite (ℕ_discrete n t)
      (λ hit. let got = takes_turn s r id t me at standing drawn low (sym hit ∙ is) r.home r.homes_are r.slot in
      let x = got.0 in (
        record me.0 { seen = history x; stage = Serving t },
        takes 0 (Some x),
        got.1,
        got.3,
        λ t' e. let k : t ≡ t' = cc in (
          (λ _. (
            x,
            ap (λ (z : ℕ). let m : M = (record me.0 { seen = history x; stage = Serving z }, (0, Some x) ∷ me.1) in m) k,
            subst (λ (l : History). IsEarlier me.0.seen l) (sym got.2) f.seen_earlier,
            f.mine_is ∙ ap (entries_of me.0.number) (sym got.2),
          )),
          λ miss. absurd (miss (hit ∙ k)),
        ),
      ))
      (λ miss. (me.0, keeps, tt, unmoved s r 1 id me at, λ t' e. let k : t ≡ t' = cc in ((λ hit. absurd (miss (hit ∙ sym k))), λ _. refl)))

  -- of the numbers of one seat, its own stands in no other place
  own_once : (s : S) (r : Rule s) (id : ℕ) (v : View) → get_elem? s.views id ≡ some v → v.spent ≡ false
      → (v.number < r.made) × (weigh (at_only v.number) v.left ≡ 0) × (weigh (at_only v.number) (map (λ p. p.0) v.joined) ≡ 0)
      × ((j : ℕ) (u : View) → j ≢ id → get_elem? s.views j ≡ some u → weigh (at_only v.number) (numbers u) ≡ 0)
  own_once s r id v at standing =
      let c : ℕ = v.number in
      let g : View → ℕ = λ u. weigh (at_only c) (numbers u) in
      let all = r.numbers_are (at_only c) in let most = below_once c r.made in
      let here = total_one g s.views id v at in
      let mine : g v ≡ at_only c c + weigh (at_only c) (v.left ++ map (λ p. p.0) v.joined) = ap (weigh (at_only c)) (numbers_open v standing) in
      let self = at_only-same c c refl in
      let parts = weigh-append (at_only c) v.left (map (λ p. p.0) v.joined) in (
        below_some c r.made (omega arith),
        omega arith,
        omega arith,
        λ j u other at_u. let two = total_two g s.views id j v u at at_u (λ e. other (sym e)) in omega arith,
      )

  -- what fits one history fits it with another's entries added
  grown :
      (made serving c : ℕ) (log added : History) (u : View) → All (λ (e : Row). e.entry.caller.0 ≡ c) added → weigh (at_only c) (numbers u) ≡ 0 → ¬ IsServing u
      → (u ≡ joined_seat) ⊎ Fits made serving log u → (u ≡ joined_seat) ⊎ Fits made serving (added ++ log) u
  grown made serving c log added u own apart quiet = ⊎_elim inl (λ (f : Fits made serving log u).
      let mine : weigh (at_only c) (numbers u) ≡ at_only c u.number + weigh (at_only c) (u.left ++ map (λ p. p.0) u.joined) =
      ap (weigh (at_only c)) (numbers_open u f.standing) in
      let parts = weigh-append (at_only c) u.left (map (λ p. p.0) u.joined) in
      let other : u.number ≢ c = λ e. let a = at_only-same c u.number e in absurd (omega arith) in
      inr record {
        standing = f.standing;
        seats_is = f.seats_is;
        seen_earlier = earlier_trans u.seen log (added ++ log) f.seen_earlier (record { later = added; whole = refl });
        mine_is = f.mine_is ∙ sym (entries_of-grown u.number c added log other own);
        mine_seen = f.mine_seen;
        left_seen =
            all_apart c (λ n. entries_of n log ≡ entries_of n u.seen) (λ n. entries_of n (added ++ log) ≡ entries_of n u.seen)
            (λ n ne e. entries_of-grown n c added log ne own ∙ e) u.left (omega arith) f.left_seen;
        joined_is =
            all_pairs_apart c (λ p. p.1 ≡ entries_of p.0 log) (λ p. p.1 ≡ entries_of p.0 (added ++ log))
            (λ p ne e. e ∙ sym (entries_of-grown p.0 c added log ne own)) u.joined (omega arith) f.joined_is;
        served = λ t e. absurd (quiet (t, e));
      })

  slot_out :
      (log log' : History) (vs : List View) (id : ℕ) (v w : View) → get_elem? vs id ≡ some v → IsServing v → IsServing w → (home : maybe.Option (Option T))
      → SlotFits history log vs home → SlotFits history log' (set vs id w) home
  slot_out log log' vs id v w at before after none out = (id, w, set_there vs id v w at, after)
  slot_out log log' vs id v w at before after (some y) home = absurd (home.3 id v at before)

  pub notes :
      (slots id t k : ℕ) (me : M) (x : T) → me.0.spent ≡ false → me.0.stage ≡ Serving t → me.1 ≡ (0, Some x) ∷ [] → Extends me.0.number me.0.seen (history x)
      → k ≡ length (history x)
      → Allows Rule slots id me 2 (λ _. k) (λ _. noted history (step slots 2 k 0 none) me k)
  notes slots id t k me x standing serves carried longer told s r _ at _ =
      let v : View = me.0 in
      let c : ℕ = v.number in
      let added = longer.added in
      let now : History = history x in
      let w : View = record me.0 { seen = now; mine = added_since v.seen now ++ v.mine } in
      let f = fits_of s r id v at standing in
      let g = f.served t serves in
      let whole : added ++ r.log ≡ now = ap (λ (l : History). added ++ l) (sym g.1) ∙ longer.whole in
      let own = longer.own in
      let once = own_once s r id v at standing in
      let seam : added_since v.seen now ≡ added = added_since-is v.seen added now longer.whole in
      let mine : added_since v.seen now ++ v.mine ≡ entries_of c now =
      ap (λ (l : History). l ++ v.mine) seam
      ∙ (ap (λ (l : History). added ++ l) f.mine_is
      ∙ (ap (λ (l : History). l ++ entries_of c r.log) (sym (entries_of-own c added own))
      ∙ (sym (entries_of-append c added r.log) ∙ ap (entries_of c) whole))) in (
        w,
        keeps,
        tt,
        record {
          ticket = r.ticket;
          serving = r.serving;
          made = r.made;
          log = now;
          home = r.home;
          words_are = ap (λ (ws : List ℕ). set ws 2 k) r.words_are ∙ ap (λ (z : ℕ). r.ticket ∷ r.serving ∷ z ∷ r.made ∷ []) told;
          homes_are = r.homes_are;
          serving_low = r.serving_low;
          made_low = r.made_low;
          tickets_are = λ h. let a = total_set (λ u. weigh h (tickets u)) s.views id v w at in let b = r.tickets_are h in omega arith;
          numbers_are = λ h. let a = total_set (λ u. weigh h (numbers u)) s.views id v w at in let b = r.numbers_are h in omega arith;
          callers =
              subst (λ (l : History). All (λ (e : Row). e.entry.caller.0 < r.made) l) whole (All-append (λ (e : Row). e.entry.caller.0 < r.made) added r.log
              (All-weaker (λ (e : Row). e.entry.caller.0 ≡ c) (λ (e : Row). e.entry.caller.0 < r.made)
              (λ e is. subst (λ (z : ℕ). z < r.made) (sym is) once.0) added own)
              r.callers);
          each_seat = each_set (λ j u. (u ≡ joined_seat) ⊎ Fits r.made r.serving now u) s.views id w
              (inr record {
                standing = standing;
                seats_is = f.seats_is;
                seen_earlier = earlier_self now;
                mine_is = mine;
                mine_seen = mine;
                left_seen =
                    All-weaker (λ n. entries_of n r.log ≡ entries_of n v.seen) (λ n. entries_of n now ≡ entries_of n now) (λ n _. refl) v.left f.left_seen;
                joined_is =
                    all_pairs_apart c (λ p. p.1 ≡ entries_of p.0 r.log) (λ p. p.1 ≡ entries_of p.0 now)
                    (λ p ne e. e ∙ (sym (entries_of-grown p.0 c added r.log ne own) ∙ ap (entries_of p.0) whole)) v.joined once.2 f.joined_is;
                served = λ t' e. let q : t ≡ t' = cc in let p = f.served t' e in (p.0, refl, p.2);
              })
              (λ j u other at_u. subst (λ (l : History). (u ≡ joined_seat) ⊎ Fits r.made r.serving l u) whole
              (grown r.made r.serving c r.log added u own (once.3 j u other at_u)
              (λ sv. other (served_alone s r id t v at (ap tickets_of serves) g.0 j u at_u sv)) (r.each_seat j u at_u)));
          newest = (id, w, set_there s.views id v w at, standing, refl);
          slot = slot_out r.log now s.views id v w at (t, serves) (t, serves) r.home r.slot;
        },
        λ x' carried'. let same = one_hand x x' (sym carried ∙ carried') in (
          ap (λ (z : T). let m : M = (record me.0 { seen = history z; mine = added_since v.seen (history z) ++ v.mine }, me.1) in m) same,
          mine ∙ ap (λ (z : T). entries_of c (history z)) same,
        ),
      )

  -- the next ticket is served, and the slot is home
  pub passes_on : (slots id t : ℕ) (me : M) (x : T) → me.0.spent ≡ false → me.0.stage ≡ Serving t → me.1 ≡ (0, Some x) ∷ [] → history x ≡ me.0.seen
      → Allows Rule slots id me 1 (λ n. (n + 1) % 2 ^ 64) (passed (step slots 1 1 0 none) me)
  passes_on slots id t me x standing serves carried same s r _ at _ =
      let v : View = me.0 in
      let w : View = record me.0 { stage = Idle } in
      let f = fits_of s r id v at standing in
      let g = f.served t serves in
      let low : t < 9223372036854775808 = g.2 in
      let is : t ≡ r.serving = g.0 in
      let up : (r.serving + 1) % 18446744073709551616 ≡ suc r.serving = omega arith in
      let no_other : (j : ℕ) (u : View) → j ≢ id → get_elem? s.views j ≡ some u → ¬ IsServing u =
      λ j u other at_u sv. other (served_alone s r id t v at (ap tickets_of serves) is j u at_u sv) in (
        w,
        gives,
        tt,
        record {
          ticket = r.ticket;
          serving = suc r.serving;
          made = r.made;
          log = r.log;
          home = some (Some x);
          words_are =
              ap (λ (ws : List ℕ). set ws 1 ((get_or ws 1 0 + 1) % 18446744073709551616)) r.words_are
              ∙ ap (λ (k : ℕ). r.ticket ∷ k ∷ length r.log ∷ r.made ∷ []) up;
          homes_are = (λ i. put_back s.homes (carried i)) ∙ ap (λ (hs : List (maybe.Option (Option T))). set hs 0 (some (Some x))) r.homes_are;
          serving_low = omega arith;
          made_low = r.made_low;
          tickets_are =
              λ h. let a = total_set (λ u. weigh h (tickets u)) s.views id v w at in let b = r.tickets_are h in
              let c : weigh h (tickets v) ≡ h t + 0 = ap (λ (st : Stage). weigh h (tickets_of st)) serves in
              let d : h t ≡ h r.serving = ap h is in omega arith;
          numbers_are = λ h. let a = total_set (λ u. weigh h (numbers u)) s.views id v w at in let b = r.numbers_are h in omega arith;
          callers = r.callers;
          each_seat = each_set (λ j u. (u ≡ joined_seat) ⊎ Fits r.made (suc r.serving) r.log u) s.views id w
              (inr record {
                standing = standing;
                seats_is = f.seats_is;
                seen_earlier = f.seen_earlier;
                mine_is = f.mine_is;
                mine_seen = f.mine_seen;
                left_seen = f.left_seen;
                joined_is = f.joined_is;
                served = λ t e. absurd cc;
              })
              (λ j u other at_u. ⊎_elim inl (λ (o : Fits r.made r.serving r.log u). inr record {
                standing = o.standing;
                seats_is = o.seats_is;
                seen_earlier = o.seen_earlier;
                mine_is = o.mine_is;
                mine_seen = o.mine_seen;
                left_seen = o.left_seen;
                joined_is = o.joined_is;
                served = λ t e. absurd (no_other j u other at_u (t, e));
              }) (r.each_seat j u at_u));
          newest = newest_set r.log s.views id v w at standing refl r.newest;
          slot = (x, refl, same ∙ g.1, each_set (λ j u. ¬ IsServing u) s.views id w (λ sv. let e = sv.1 in absurd cc) no_other);
        },
        (refl, λ y e. ap rest e),
      )
