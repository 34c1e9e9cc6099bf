-- How the lock begins, its seats are split and joined, and how it ends.
use Rattle.std.proofs.Common.{◌≡◌, ◌≢◌, ◌⊎◌, ℕ, zero, suc, ◌+◌, ◌-◌, ◌<◌, ◌≤◌, Bool, false, List, [], ◌∷◌, ◌++◌, map, length, set, Option, Some, refl, sym, ap, ◌∙◌, subst, ⊎_elim, inl, inr, arith, length-append}
use Rattle.std.specs.Prelude.{All, if◌then◌else◌}
use Rattle.std.proofs.lemmas.Bool.Decides.{leb_tells}
use Rattle.std.proofs.lemmas.List.{map-append, length-map}
use Rattle.std.proofs.lemmas.List.Elements.{All-append, All-nil, All-cons, All-head, All-tail}
use mathlib.Core.Logic.{dite}
use mathlib.Core.Option.{some, none, some-injective, some-ne-none}
use mathlib.Core.Option as maybe
use native.Mathlib.Decide.{ℕ_discrete}
use lib.ListN.{get_elem?}
use Rattle.atomic_table.specs.Table.{opening, Final, Seen, Splits, Joins}
use Rattle.atomic_table.proofs.Lists.{at_snoc, at_longer, set_else}
use Rattle.swap_record.specs.History.{History, Row}
use Rattle.swap_turn.specs.declared.view.Stage.{Stage}
use Rattle.swap_turn.specs.declared.view.Stage.TheVariants.{Idle, Serving}
use Rattle.swap_turn.specs.declared.view.View.{View}
use Rattle.swap_turn.specs.Turns.{entries_of, IsEarlier, weigh, weigh_below, numbers, numbers_from, tickets, tickets_of, IsServing, joined_seat, Fits, SlotFits, first_view, first_of, others_of, fewer_left, next_given, history_longer, taken_in, pairs_of}
use Rattle.swap_turn.proofs.Sums.{one, weigh-one, weigh-append, weigh_below-one, weigh_below-last, weigh_below-from, total_set, total_snoc, total_two, numbers_open}
use Rattle.swap_turn.proofs.Earlier.{earlier_self, earlier_shorter, earlier_whole, earlier_length}
use Rattle.swap_turn.proofs.Histories.{entries_of-append}
use Rattle.swap_turn.proofs.Steps.{each_set, set_there, same_view, Newest, newest_set, not_spent, not_served, S, Rule, fits_of, slot_quiet}

all_others : (P : ℕ → Type 0) (l : List ℕ) → All P l → All P (others_of l)
all_others P [] all = All-nil P
all_others P (n ∷ l) all = All-tail P n l all

all_first : (P : ℕ → Type 0) (l : List ℕ) (n : ℕ) (ns : List ℕ) → l ≡ n ∷ ns → All P l → P (first_of l)
all_first P [] n ns is all = absurd cc
all_first P (m ∷ l) n ns is all = All-head P m l all

idle_quiet : (v : View) → v.stage ≡ Idle → ¬ IsServing v
idle_quiet v idle sv = let e : Idle ≡ Serving sv.0 = sym idle ∙ sv.1 in absurd cc

weigh_idle : (h : ℕ → ℕ) (v : View) → v.stage ≡ Idle → weigh h (tickets v) ≡ 0
weigh_idle h v idle = ap (λ (st : Stage). weigh h (tickets_of st)) idle

weigh_numbers : (h : ℕ → ℕ) (v : View) → v.spent ≡ false → weigh h (numbers v) ≡ h v.number + (weigh h v.left + weigh h (map (λ p. p.0) v.joined))
weigh_numbers h v standing = ap (weigh h) (numbers_open v standing) ∙ ap (λ (k : ℕ). h v.number + k) (weigh-append h v.left (map (λ p. p.0) v.joined))

-- of two, one is the longer
longer_is : (xs ys : History) → ((history_longer xs ys ≡ ys) × (length xs ≤ length ys)) ⊎ ((history_longer xs ys ≡ xs) × (length ys < length xs))
longer_is xs ys =
    ⊎_elim (λ t. inl (ap (λ (b : Bool). if b then ys else xs) t.0, t.1)) (λ t. inr (ap (λ (b : Bool). if b then ys else xs) t.0, t.1))
    (leb_tells (length xs) (length ys))

-- what lies between two with the same entries has them too
between : (c : ℕ) (xs ys zs : History) → IsEarlier xs ys → IsEarlier ys zs → entries_of c xs ≡ entries_of c zs → entries_of c ys ≡ entries_of c zs
between c xs ys zs p q same =
    let a : entries_of c p.later ++ entries_of c xs ≡ entries_of c ys = sym (entries_of-append c p.later xs) ∙ ap (entries_of c) p.whole in
    let b : entries_of c q.later ++ entries_of c ys ≡ entries_of c zs = sym (entries_of-append c q.later ys) ∙ ap (entries_of c) q.whole in
    let m = earlier_length (entries_of c xs) (entries_of c ys) (record { later = entries_of c p.later; whole = a }) in
    let k : length (entries_of c xs) ≡ length (entries_of c zs) = ap length same in
    earlier_whole (entries_of c ys) (entries_of c zs) (record { later = entries_of c q.later; whole = b }) (omega arith)

module _ {T : Type 0} (history : T → History) where
  slot_more :
      (log : History) (vs : List View) (w : View) → ¬ IsServing w → (home : maybe.Option (Option T)) → SlotFits history log vs home
      → SlotFits history log (vs ++ w ∷ []) home
  slot_more log vs w quiet none out = (out.0, out.1, at_longer vs (w ∷ []) out.0 out.1 out.2, out.3)
  slot_more log vs w quiet (some y) home =
      (home.0, home.1, home.2, λ j u e sv. ⊎_elim (λ was. home.3 j u was sv) (λ (t : w ≡ u). quiet (subst IsServing (sym t) sv)) (at_snoc vs w u j e))

  pub starts : (made told : ℕ) (x : T) → 1 ≤ made → made ≤ 64 → All (λ (e : Row). e.entry.caller.0 < made) (history x) → told ≡ length (history x)
      → Rule history (opening (0 ∷ 0 ∷ told ∷ made ∷ []) (Some x ∷ []) (first_view made (history x)))
  starts made told x some_made low callers is =
      let log : History = history x in
      let v : View = first_view made log in record {
        ticket = 0;
        serving = 0;
        made = made;
        log = log;
        home = some (Some x);
        words_are = ap (λ (k : ℕ). 0 ∷ 0 ∷ k ∷ made ∷ []) is;
        homes_are = refl;
        serving_low = omega arith;
        made_low = low;
        tickets_are = λ h. omega arith;
        numbers_are =
            λ h. let a = weigh_below-last h made some_made in let b = weigh_below-from h 0 (made - 1) in
            let c = weigh-append h (numbers_from 0 (made - 1)) [] in
            let d : weigh_below h (0 + (made - 1)) ≡ weigh_below h (made - 1) = (let k : 0 + (made - 1) ≡ made - 1 = omega arith in ap (weigh_below h) k) in
            omega arith;
        callers = callers;
        each_seat = only v (inr record {
          standing = refl;
          seats_is = refl;
          seen_earlier = earlier_self log;
          mine_is = refl;
          mine_seen = refl;
          left_seen = λ k d l. refl;
          joined_is = All-nil (λ p. p.1 ≡ entries_of p.0 log);
          served = λ t e. absurd cc;
        });
        newest = (0, v, refl, refl, refl);
        slot = (x, refl, refl, λ j u e sv. none_served v refl j u e sv);
      }
    where
      only :
          (v : View) → (v ≡ joined_seat) ⊎ Fits made 0 (history x) v → (j : ℕ) (u : View) → get_elem? (v ∷ []) j ≡ some u
          → (u ≡ joined_seat) ⊎ Fits made 0 (history x) u
      only v f zero u e = subst (λ (y : View). (y ≡ joined_seat) ⊎ Fits made 0 (history x) y) (some-injective v u e) f
      only v f (suc j) u e = absurd (some-ne-none u (sym e))

      none_served : (v : View) → v.stage ≡ Idle → (j : ℕ) (u : View) → get_elem? (v ∷ []) j ≡ some u → ¬ IsServing u
      none_served v idle zero u e = subst (λ (y : View). ¬ IsServing y) (some-injective v u e) (idle_quiet v idle)
      none_served v idle (suc j) u e = absurd (some-ne-none u (sym e))

  pub splits :
      (id n : ℕ) (ns : List ℕ) (v : View) → v.spent ≡ false → v.stage ≡ Idle → v.left ≡ n ∷ ns → Splits (Rule history) id v (fewer_left v) (next_given v)
  splits id n ns v standing idle left_is s r at =
      let l : View = fewer_left v in
      let g : View = next_given v in
      let f = fits_of history s r id v at standing in
      let vs : List View = set s.views id l in
      let P : ℕ → Type 0 = λ m. entries_of m r.log ≡ entries_of m v.seen in
      let quiet = idle_quiet v idle in
      let fits_l : Fits r.made r.serving r.log l = record {
        standing = standing;
        seats_is = f.seats_is;
        seen_earlier = f.seen_earlier;
        mine_is = f.mine_is;
        mine_seen = f.mine_seen;
        left_seen = all_others P v.left f.left_seen;
        joined_is = f.joined_is;
        served = f.served;
      } in
      let fits_g : Fits r.made r.serving r.log g = record {
        standing = refl;
        seats_is = f.seats_is;
        seen_earlier = f.seen_earlier;
        mine_is = sym (all_first P v.left n ns left_is f.left_seen);
        mine_seen = refl;
        left_seen = All-nil (λ m. entries_of m r.log ≡ entries_of m v.seen);
        joined_is = All-nil (λ p. p.1 ≡ entries_of p.0 r.log);
        served = λ t e. absurd cc;
      } in
      record {
        ticket = r.ticket;
        serving = r.serving;
        made = r.made;
        log = r.log;
        home = r.home;
        words_are = r.words_are;
        homes_are = r.homes_are;
        serving_low = r.serving_low;
        made_low = r.made_low;
        tickets_are =
            λ h. let a = total_set (λ u. weigh h (tickets u)) s.views id v l at in let b = total_snoc (λ u. weigh h (tickets u)) vs g in
            let c = r.tickets_are h in omega arith;
        numbers_are =
            λ h. let a = total_set (λ u. weigh h (numbers u)) s.views id v l at in let b = total_snoc (λ u. weigh h (numbers u)) vs g in
            let c = r.numbers_are h in
            let d = weigh_numbers h v standing in let e = weigh_numbers h l standing in let i = weigh_numbers h g refl in
            let j : weigh h v.left ≡ h n + weigh h ns = ap (weigh h) left_is in
            let k : weigh h (others_of v.left) ≡ weigh h ns = ap (λ (z : List ℕ). weigh h (others_of z)) left_is in
            let m : h (first_of v.left) ≡ h n = ap (λ (z : List ℕ). h (first_of z)) left_is in omega arith;
        callers = r.callers;
        each_seat = λ j u e. ⊎_elim (each_set (λ _ x. (x ≡ joined_seat) ⊎ Fits r.made r.serving r.log x) s.views id l (inr fits_l) (λ i x _. r.each_seat i x) j
            u)
            (λ (t : g ≡ u). subst (λ (x : View). (x ≡ joined_seat) ⊎ Fits r.made r.serving r.log x) t (inr fits_g)) (at_snoc vs g u j e);
        newest = (let o = newest_set r.log s.views id v l at standing refl r.newest in (o.0, o.1, at_longer vs (g ∷ []) o.0 o.1 o.2, o.3, o.4));
        slot = slot_more r.log vs g (idle_quiet g refl) r.home (slot_quiet history r.log s.views id v l at quiet quiet r.home r.slot);
      }

  pub joins :
      (id other : ℕ) (v u : View) → v.spent ≡ false → u.spent ≡ false → v.stage ≡ Idle → u.stage ≡ Idle → v.left ≡ [] → u.left ≡ []
      → Joins (Rule history) id v other u (taken_in v u) joined_seat
  joins id other v u v_stands u_stands v_idle u_idle v_left u_left s r at apart there =
      let b : View = taken_in v u in
      let vs : List View = set s.views id b in
      let at_u : get_elem? s.views other ≡ some u = sym (set_else s.views id other b apart) ∙ there in
      let f = fits_of history s r id v at v_stands in
      let g = fits_of history s r other u at_u u_stands in
      let two = longer_is v.seen u.seen in
      let fits_b : Fits r.made r.serving r.log b = record {
        standing = v_stands;
        seats_is = f.seats_is;
        seen_earlier =
            ⊎_elim (λ t. subst (λ (z : History). IsEarlier z r.log) (sym t.0) g.seen_earlier)
            (λ t. subst (λ (z : History). IsEarlier z r.log) (sym t.0) f.seen_earlier) two;
        mine_is = f.mine_is;
        mine_seen = ⊎_elim
            (λ (t : (history_longer v.seen u.seen ≡ u.seen) × (length v.seen ≤ length u.seen)).
            f.mine_is
            ∙ (sym
            (between v.number v.seen u.seen r.log (earlier_shorter v.seen u.seen r.log f.seen_earlier g.seen_earlier t.1) g.seen_earlier
            (sym f.mine_seen ∙ f.mine_is))
            ∙ ap (entries_of v.number) (sym t.0)))
            (λ t. f.mine_seen ∙ ap (entries_of v.number) (sym t.0)) two;
        left_seen =
            subst (All (λ m. entries_of m r.log ≡ entries_of m (history_longer v.seen u.seen))) (sym v_left)
            (All-nil (λ m. entries_of m r.log ≡ entries_of m (history_longer v.seen u.seen)));
        joined_is =
            All-cons (λ p. p.1 ≡ entries_of p.0 r.log) (u.number, u.mine) (u.joined ++ v.joined) g.mine_is
            (All-append (λ p. p.1 ≡ entries_of p.0 r.log) u.joined v.joined g.joined_is f.joined_is);
        served = λ t e. absurd (idle_quiet v v_idle (t, e));
      } in
      record {
        ticket = r.ticket;
        serving = r.serving;
        made = r.made;
        log = r.log;
        home = r.home;
        words_are = r.words_are;
        homes_are = r.homes_are;
        serving_low = r.serving_low;
        made_low = r.made_low;
        tickets_are =
            λ h. let a = total_set (λ x. weigh h (tickets x)) s.views id v b at in let c = total_set (λ x. weigh h (tickets x)) vs other u joined_seat there in
            let d = r.tickets_are h in
            let e = weigh_idle h u u_idle in omega arith;
        numbers_are =
            λ h. let a = total_set (λ x. weigh h (numbers x)) s.views id v b at in let c = total_set (λ x. weigh h (numbers x)) vs other u joined_seat there in
            let d = r.numbers_are h in
            let e = weigh_numbers h v v_stands in let i = weigh_numbers h b v_stands in let j = weigh_numbers h u u_stands in
            let k : weigh h u.left ≡ 0 = ap (weigh h) u_left in
            let m : weigh h (map (λ p. p.0) (u.joined ++ v.joined)) ≡ weigh h (map (λ p. p.0) u.joined) + weigh h (map (λ p. p.0) v.joined) =
            ap (weigh h) (map-append (λ p. p.0) u.joined v.joined) ∙ weigh-append h (map (λ p. p.0) u.joined) (map (λ p. p.0) v.joined) in omega arith;
        callers = r.callers;
        each_seat = each_set (λ _ x. (x ≡ joined_seat) ⊎ Fits r.made r.serving r.log x) vs other joined_seat (inl refl)
            (λ j x _ e. each_set (λ _ y. (y ≡ joined_seat) ⊎ Fits r.made r.serving r.log y) s.views id b (inr fits_b) (λ i y _. r.each_seat i y) j x e);
        newest = top at at_u f.seen_earlier g.seen_earlier two r.newest;
        slot = slot_quiet history r.log vs other u joined_seat there (idle_quiet u u_idle) (idle_quiet joined_seat refl) r.home
            (slot_quiet history r.log s.views id v b at (idle_quiet v v_idle) (idle_quiet v v_idle) r.home r.slot);
      }
    where
      top : get_elem? s.views id ≡ some v → get_elem? s.views other ≡ some u → IsEarlier v.seen r.log → IsEarlier u.seen r.log
          → ((history_longer v.seen u.seen ≡ u.seen) × (length v.seen ≤ length u.seen)) ⊎ ((history_longer v.seen u.seen ≡ v.seen)
          × (length u.seen < length v.seen))
          → Newest r.log s.views → Newest r.log (set (set s.views id (taken_in v u)) other joined_seat)
      top at at_u v_begins u_begins two n =
          let b : View = taken_in v u in
          let here : (history_longer v.seen u.seen ≡ r.log) → Newest r.log (set (set s.views id b) other joined_seat) = λ whole. (
            id,
            b,
            set_else (set s.views id b) other id joined_seat (λ e. apart (sym e)) ∙ set_there s.views id v b at,
            v_stands,
            whole,
          ) in
          dite (ℕ_discrete n.0 id)
          (λ is. let all : v.seen ≡ r.log = ap (λ (x : View). x.seen) (sym (same_view s.views id n.0 v n.1 at n.2 is)) ∙ n.4 in
          here
          (⊎_elim
          (λ t. let long : length v.seen ≡ length r.log = ap length all in let le : length v.seen ≤ length u.seen = t.1 in
          t.0 ∙ earlier_whole u.seen r.log u_begins (omega arith))
          (λ t. t.0 ∙ all) two))
          (λ not_id. dite (ℕ_discrete n.0 other)
          (λ is. let all : u.seen ≡ r.log = ap (λ (x : View). x.seen) (sym (same_view s.views other n.0 u n.1 at_u n.2 is)) ∙ n.4 in
          here
          (⊎_elim (λ t. t.0 ∙ all)
          (λ t. let long : length u.seen ≡ length r.log = ap length all in let lt : length u.seen < length v.seen = t.1 in
          let m = earlier_length v.seen r.log v_begins in absurd (omega arith))
          two))
          (λ not_other. (n.0, n.1, set_else (set s.views id b) other n.0 joined_seat not_other ∙ (set_else s.views id n.0 b not_id ∙ n.2), n.3, n.4)))

  -- the seat that took in all others knows the last value's history, and each number's entries in it
  pub ends :
      (words : List ℕ) (slots : List (Option T)) (id : ℕ) (v : View) → v.spent ≡ false → v.stage ≡ Idle → v.seats ≤ length (pairs_of v)
      → Final (Seen (Rule history) id v) words slots
      → (x : T) × (get_elem? slots 0 ≡ some (Some x)) × (v.seen ≡ history x) × All (λ p. p.1 ≡ entries_of p.0 (history x)) (pairs_of v)
  ends words slots id v standing idle all fin =
      let s : S history = fin.0 in
      let r : Rule history s = fin.1.0 in
      let at : get_elem? s.views id ≡ some v = fin.1.1 in
      let f = fits_of history s r id v at standing in
      let g : View → ℕ = λ x. weigh one (numbers x) in
      let counted = r.numbers_are one in
      let made = weigh_below-one r.made in
      let mine = weigh_numbers one v standing in
      let a = weigh-one (map (λ p. p.0) v.joined) in
      let b = length-map v.joined (λ p. p.0) in
      let c = length-append v.joined ((v.number, v.mine) ∷ []) in
      let d = f.seats_is in
      let spent : (j : ℕ) (u : View) → j ≢ id → get_elem? s.views j ≡ some u → u ≡ joined_seat = λ j u other at_u.
      ⊎_elim (λ e. e)
      (λ (o : Fits r.made r.serving r.log u). let two = total_two g s.views id j v u at at_u (λ e. other (sym e)) in let k = weigh_numbers one u o.standing in
      absurd (omega arith))
      (r.each_seat j u at_u) in
      let quiet : (j : ℕ) (u : View) → get_elem? s.views j ≡ some u → ¬ IsServing u = λ j u at_u sv. dite (ℕ_discrete j id)
      (λ is. idle_quiet v idle (subst IsServing (same_view s.views id j v u at at_u is) sv)) (λ other. not_served u (spent j u other at_u) sv) in
      let whole : v.seen ≡ r.log = dite (ℕ_discrete r.newest.0 id)
      (λ is. ap (λ (x : View). x.seen) (sym (same_view s.views id r.newest.0 v r.newest.1 at r.newest.2 is)) ∙ r.newest.4)
      (λ other. absurd (not_spent r.newest.1 r.newest.3 (spent r.newest.0 r.newest.1 other r.newest.2))) in
      let got = home_has s r quiet r.home r.homes_are r.slot in (
        got.0,
        fin.4 0 (Some got.0) got.1,
        whole ∙ sym got.2,
        subst (λ (l : History). All (λ p. p.1 ≡ entries_of p.0 l) (pairs_of v)) (sym got.2)
            (All-append (λ p. p.1 ≡ entries_of p.0 r.log) v.joined ((v.number, v.mine) ∷ []) f.joined_is
            (All-cons (λ p. p.1 ≡ entries_of p.0 r.log) (v.number, v.mine) [] f.mine_is (All-nil (λ p. p.1 ≡ entries_of p.0 r.log)))),
      )
    where
      home_has :
          (s : S history) (r : Rule history s) → ((j : ℕ) (u : View) → get_elem? s.views j ≡ some u → ¬ IsServing u) → (home : maybe.Option (Option T))
          → s.homes ≡ home ∷ [] → SlotFits history r.log s.views home
          → (x : T) × (get_elem? s.homes 0 ≡ some (some (Some x))) × (history x ≡ r.log)
      home_has s r quiet none homes out = absurd (quiet out.0 out.1 out.2 out.3)
      home_has s r quiet (some y) homes home =
          (home.0, ap (λ (hs : List (maybe.Option (Option T))). get_elem? hs 0) homes ∙ ap (λ (z : Option T). some (some z)) home.1, home.2)
