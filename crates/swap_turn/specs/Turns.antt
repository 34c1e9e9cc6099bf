-- The rule of the lock of turns, and what each step tells.
use Rattle.std.specs.Prelude.{◌≡◌, ◌≢◌, ◌⊎◌, ℕ, zero, suc, ◌+◌, ◌-◌, ◌<◌, ◌≤◌, true, false, nat_le, if◌then◌else◌, List, [], ◌∷◌, ◌++◌, map, length, take, Option, Some, All}
use Rattle.swap_turn.specs.declared.TheConstants.{MOST_SEATS}
use mathlib.Core.Option.{some, none}
use mathlib.Core.Option as maybe
use lib.ListN.{get_elem?}
use Rattle.atomic_table.specs.Table.{State, Me, Step}
use Rattle.swap_record.specs.History as record_history
use Rattle.swap_record.specs.History.{History, Row}
use Rattle.swap_turn.specs.declared.view.Stage.{Stage}
use Rattle.swap_turn.specs.declared.view.Stage.TheVariants.{Idle, Drawn, Serving}
use Rattle.swap_turn.specs.declared.view.View.{View}

-- the answered calls of the caller of this number
abbrev pub entries_of : ℕ → History → History
entries_of number H = record_history.entries_of (record { 0 = number }) H

-- a history as it was earlier: what was added since stands in front of it
pub record IsEarlier (before H : History) : Type 0 where
  pub later : History
  pub whole : later ++ before ≡ H

-- what was added to a history since it was as long as this one
abbrev pub added_since : History → History → History
added_since before H = take (length H - length before) H

-- f of each view, added up
abbrev pub total : (View → ℕ) → List View → ℕ
total f [] = 0
total f (v ∷ vs) = f v + total f vs

-- h of each number, added up
abbrev pub weigh : (ℕ → ℕ) → List ℕ → ℕ
weigh h [] = 0
weigh h (x ∷ xs) = h x + weigh h xs

-- h of each number below n, added up
abbrev pub weigh_below : (ℕ → ℕ) → ℕ → ℕ
weigh_below h zero = 0
weigh_below h (suc n) = h n + weigh_below h n

-- the numbers from a on, n of them
abbrev pub numbers_from : ℕ → ℕ → List ℕ
numbers_from a zero = []
numbers_from a (suc n) = a ∷ numbers_from (suc a) n

-- a seat's own number, those that it has still to give, and those that it took in
abbrev pub numbers : View → List ℕ
numbers v = (if v.spent then [] else v.number ∷ (v.left ++ map (λ p. p.0) v.joined))

abbrev pub tickets_of : Stage → List ℕ
tickets_of Idle = []
tickets_of (Drawn t) = t ∷ []
tickets_of (Serving t) = t ∷ []

-- the ticket of a turn, if the seat has one
abbrev pub tickets : View → List ℕ
tickets v = tickets_of v.stage

abbrev pub IsServing : View → Type 0
IsServing v = (t : ℕ) × (v.stage ≡ Serving t)

-- a seat that was joined into another
abbrev pub joined_seat : View
joined_seat = record { spent = true; number = 0; seats = 0; seen = []; mine = []; stage = Idle; left = []; joined = [] }

-- a seat between two turns
abbrev pub resting_seat : ℕ → ℕ → History → History → View
resting_seat number seats seen mine =
    record {
      spent = false;
      number = number;
      seats = seats;
      seen = seen;
      mine = mine;
      stage = Idle;
      left = [];
      joined = [];
    }

-- a seat at this stage, with nothing to give and nothing taken in
abbrev pub posed_seat : Stage → View → View
posed_seat st v = record (resting_seat v.number v.seats v.seen v.mine) { stage = st }

abbrev pub ticket_of : Stage → ℕ
ticket_of Idle = 0
ticket_of (Drawn t) = t
ticket_of (Serving t) = t

-- a history goes on by entries of one caller alone
pub record Extends (c : ℕ) (before after : History) : Type 0 where
  pub added : History
  pub whole : added ++ before ≡ after
  pub own : All (λ (row : Row). row.entry.caller.0 ≡ c) added

-- a seat that isn't spent fits the history `log` and the ticket that is served
pub record Fits (made serving : ℕ) (log : History) (v : View) : Type 0 where
  pub standing : v.spent ≡ false
  pub seats_is : v.seats ≡ made
  pub seen_earlier : IsEarlier v.seen log
  pub mine_is : v.mine ≡ entries_of v.number log
  pub mine_seen : v.mine ≡ entries_of v.number v.seen
  pub left_seen : All (λ n. entries_of n log ≡ entries_of n v.seen) v.left
  pub joined_is : All (λ p. p.1 ≡ entries_of p.0 log) v.joined
  pub served : (t : ℕ) → v.stage ≡ Serving t → (t ≡ serving) × (v.seen ≡ log) × (t < 9223372036854775808)

module _ {T : Type 0} (history : T → History) where
  -- at home the slot has a value with the history; it is out exactly while a seat is served
  abbrev pub SlotFits : History → List View → maybe.Option (Option T) → Type 0
  SlotFits log views none = (j : ℕ) × (v : View) × (get_elem? views j ≡ some v) × IsServing v
  SlotFits log views (some y) =
      (x : T) × (y ≡ Some x) × (history x ≡ log) × ((j : ℕ) (v : View) → get_elem? views j ≡ some v → ¬ IsServing v)

  pub record Turns (s : State (Option T) View) : Type 0 where
    pub ticket : ℕ
    pub serving : ℕ
    pub made : ℕ
    pub log : History
    pub home : maybe.Option (Option T)
    pub words_are : s.words ≡ ticket ∷ serving ∷ length log ∷ made ∷ []
    pub homes_are : s.homes ≡ home ∷ []
    pub serving_low : serving ≤ 9223372036854775808
    pub made_low : made ≤ MOST_SEATS
    -- the tickets that seats hold are those from `serving` on, each once
    pub tickets_are :
        (h : ℕ → ℕ) → total (λ v. weigh h (tickets v)) s.views + weigh_below h serving ≡ weigh_below h ticket
    -- each number below `made` stands in one seat, once
    pub numbers_are : (h : ℕ → ℕ) → total (λ v. weigh h (numbers v)) s.views ≡ weigh_below h made
    pub callers : All (λ (row : Row). row.entry.caller.0 < made) log
    pub each_seat : (j : ℕ) (v : View) → get_elem? s.views j ≡ some v → (v ≡ joined_seat) ⊎ Fits made serving log v
    pub newest : (j : ℕ) × (v : View) × (get_elem? s.views j ≡ some v) × (v.spent ≡ false) × (v.seen ≡ log)
    pub slot : SlotFits log s.views home

-- the view of the first seat of so many, over this history: it has the last number, and the others to give
abbrev pub first_view : ℕ → History → View
first_view seats log =
    record {
      spent = false;
      number = seats - 1;
      seats = seats;
      seen = log;
      mine = entries_of (seats - 1) log;
      stage = Idle;
      left = numbers_from 0 (seats - 1);
      joined = [];
    }

abbrev pub first_of : List ℕ → ℕ
first_of [] = 0
first_of (n ∷ ns) = n

abbrev pub others_of : List ℕ → List ℕ
others_of [] = []
others_of (n ∷ ns) = ns

-- a split gives the next number away
abbrev pub fewer_left : View → View
fewer_left v = record v { left = others_of v.left }

abbrev pub next_given : View → View
next_given v = resting_seat (first_of v.left) v.seats v.seen (entries_of (first_of v.left) v.seen)

abbrev pub history_longer : History → History → History
history_longer xs ys = (if nat_le (length xs) (length ys) then ys else xs)

-- a join takes in the other's number, entries and pairs
abbrev pub taken_in : View → View → View
taken_in v w = record v { seen = history_longer v.seen w.seen; joined = (w.number, w.mine) ∷ (w.joined ++ v.joined) }

-- the numbers of a seat with their entries, its own last
abbrev pub pairs_of : View → List (ℕ × History)
pairs_of v = v.joined ++ (v.number, v.mine) ∷ []

module _ {T : Type 0} where
  abbrev pub drew : Step (Option T) → Me (Option T) View → ℕ → Me (Option T) View → Type 0
  drew st m n m' = m' ≡ (record m.0 { stage = Drawn n }, m.1)

module _ {T : Type 0} where
  -- the value leaves with the pass that it was given back by
  abbrev pub passed : Step (Option T) → Me (Option T) View → ℕ → Me (Option T) View → Type 0
  passed st m n m' = (m'.0 ≡ record m.0 { stage = Idle }) × ((y : Option T) → m.1 ≡ (0, y) ∷ [] → m'.1 ≡ [])

module _ {T : Type 0} (history : T → History) where
  -- where the ticket is served, the slot is taken, and the history of its value is what the seat has seen
  abbrev pub looked : Step (Option T) → Me (Option T) View → ℕ → Me (Option T) View → Type 0
  looked st m n m' = (t : ℕ) → m.0.stage ≡ Drawn t
      → (n ≡ t
      → (x : T) × (m' ≡ (record m.0 { seen = history x; stage = Serving t }, (0, Some x) ∷ m.1))
      × IsEarlier m.0.seen (history x) × (m.0.mine ≡ entries_of m.0.number (history x)))
      × (n ≢ t → m' ≡ m)

  -- the history of the value in hand is what the seat has seen, and what was added is its own
  abbrev pub noted : Step (Option T) → Me (Option T) View → ℕ → Me (Option T) View → Type 0
  noted st m n m' =
      (x : T) → m.1 ≡ (0, Some x) ∷ []
      → (m' ≡ (record m.0 { seen = history x; mine = added_since m.0.seen (history x) ++ m.0.mine }, m.1))
      × (m'.0.mine ≡ entries_of m'.0.number (history x))
