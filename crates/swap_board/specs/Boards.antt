-- What a board is seen as, what it keeps, and what each of its calls makes.
use Rattle.std.specs.Prelude.{◌≡◌, ◌⊎◌, ◌+◌, ◌≤◌, ◌<◌, ℕ, Bool, true, false, List, [], ◌∷◌, ◌++◌, length, take, slice_index_or, Option, None, Some, Result, Ok, Err}
use Rattle.std.specs.List.{AllByRecursion}
use Rattle.swap_base.specs.Sizes.{Sizes}
use Rattle.swap_base.specs.declared.Caller.{Caller}
use Rattle.swap_base.specs.declared.NoMemory.{NoMemory}
use Rattle.swap_wire.specs.Input.{IsInRange}
use Rattle.swap_wire.specs.declared.Event.{Event}
use Rattle.swap_wire.specs.declared.Event.TheVariants as event
use Rattle.swap_wire.specs.declared.Seen.{Seen}
use Rattle.swap_wire.specs.declared.Seen.TheVariants as seen
use Rattle.swap_wire.specs.Fabric.{FabricCall, FabricAnswer}
use Rattle.swap_disk.specs.Port.{DiskCall, DiskAnswer}
use Rattle.swap_record.specs.History.{History, Row, next_name}
use Rattle.swap_record.specs.declared.Op.{Op}
use Rattle.swap_record.specs.declared.Op.TheVariants as op
use Rattle.swap_calls.specs.Calls.{state_of, call_of, is_idle}
use Rattle.swap_table.specs.Device.{Device}
use Rattle.swap_world.specs.Answered.{Answers}
use Rattle.swap_world.specs.Runs.{WorldView, GivesPage, AnswersUnderWay, entry_seen, busy_callers}
use Rattle.swap_board.specs.declared.works.Moved.{Moved}
use Rattle.swap_board.specs.declared.works.Moved.TheVariants as moved
use Rattle.swap_board.specs.declared.board.Operated.{Operated}
use Rattle.swap_board.specs.declared.board.Operated.TheVariants as operating
use Rattle.swap_board.specs.declared.board.Begun.{Begun}
use Rattle.swap_board.specs.declared.board.Begun.TheVariants as begun
use Rattle.rand_core.specs.Pcg32Seed.{pcg32_seed}
use Rattle.rand_pcg.specs.Lcg.{Lcg}
use Rattle.rand_pcg.specs.Pcg.{pcg32_of_seed}
use Rattle.swap_board.specs.Acts.{Act, Made, Player, Operator, Makes, AreMade, calls_in, calls_since, seed_after, operator_events, places, lines_of, since_after, IsOperators}
use Rattle.swap_board.specs.Works.{IsSame, Works, moved_by, paces, since_now}

-- What stays the same of a board: the world that it was made with, its geometry and number of lenders, the operator's
-- list, how many calls may begin, and the number of its generator.
pub record Named (D F : Type 0) : Type 0 where
  pub opening : Option (WorldView D F)
  pub sizes : Sizes
  pub lenders : ℕ
  pub operator : List Event
  pub calls : ℕ
  pub number : ℕ

abbrev pub nothing_named : {D F : Type 0} → Named D F
nothing_named =
    record {
      opening = None;
      sizes = record { page_bytes = 0; pages_per_slab = 0; slabs = 0; queue = 0; callers = 0; window = 0; hot = 0 };
      lenders = 0;
      operator = [];
      calls = 0;
      number = 0;
    }

-- the generator of a number
abbrev pub seed_of : ℕ → Lcg
seed_of number = pcg32_of_seed (pcg32_seed 16 number)

-- a world, how many calls were begun, in all and since the last Round, how many of the operator's events were made, and
-- the generator of the Rounds
pub record BoardView (D F : Type 0) : Type 0 where
  pub world : WorldView D F
  pub begun : ℕ
  pub since : ℕ
  pub made : ℕ
  pub words : Lcg

-- an operator's list
abbrev pub IsOperatorsOf : Sizes → ℕ → Event → Type 0
IsOperatorsOf s lenders e = IsOperators e × IsInRange s lenders e

abbrev pub AreOperators : Sizes → ℕ → List Event → Type 0
AreOperators s lenders es = AllByRecursion (IsOperatorsOf s lenders) es

-- The world of a board: acts of callers, pumps, pacing calls and the operator led to it from the world that it was made
-- with, and its counts are theirs. Each call that may still begin, and each under way, has room for its entry.
pub record IsBoard {D F : Type 0} (disk_moves : D → (c : DiskCall) → DiskAnswer c → D → Type 0)
    (moves : F → (c : FabricCall) → FabricAnswer c → F → Type 0) (n : Named D F) (w : WorldView D F) (begun since : ℕ)
    (placed : List ℕ) (words : Lcg) : Type 0 where
  pub first : WorldView D F
  pub opens : n.opening ≡ Some first
  pub acts : List Act
  pub makes : Makes disk_moves moves acts first w
  pub sizes : w.core.device.sizes ≡ n.sizes
  pub lenders : w.core.device.lenders ≡ n.lenders
  pub operators : AreOperators n.sizes n.lenders n.operator
  pub made : AreMade (seed_of n.number) acts
  pub words_are : words ≡ seed_after (seed_of n.number) acts
  pub since_is : since ≡ calls_since acts
  pub begun_is : begun ≡ calls_in acts
  pub most : begun ≤ n.calls
  pub room : n.calls + busy_callers w.core.device ≤ w.core.spare + begun
  -- the operator's events so far, each with the length that the log had before it
  pub operated_are : operator_events acts ≡ take (length placed) n.operator
  pub placed_are : placed ≡ places (length first.log) acts

-- and what stands beside the world fits what is named: the operator's list with room for a place of each of its events,
-- the number of calls, and a page
pub record IsKept {D F : Type 0} (disk_moves : D → (c : DiskCall) → DiskAnswer c → D → Type 0)
    (moves : F → (c : FabricCall) → FabricAnswer c → F → Type 0) (n : Named D F) (w : WorldView D F) (begun since : ℕ)
    (placed : List ℕ) (words : Lcg) (operator : List Event) (most_places calls : ℕ) (page : List ℕ) : Type 0 where
  pub board : IsBoard disk_moves moves n w begun since placed words
  pub operator_is : operator ≡ n.operator
  pub places : length placed ≤ length operator
  pub places_room : length operator ≤ most_places
  pub calls_are : calls ≡ n.calls
  pub page_len : length page ≡ w.core.device.sizes.page_bytes

-- a world that was a board's
pub record WasPlayed {D F : Type 0} (disk_moves : D → (c : DiskCall) → DiskAnswer c → D → Type 0)
    (moves : F → (c : FabricCall) → FabricAnswer c → F → Type 0) (n : Named D F) (b : BoardView D F) : Type 0 where
  pub placed : List ℕ
  pub made : b.made ≡ length placed
  pub board : IsBoard disk_moves moves n b.world b.begun b.since placed b.words

-- nothing was made
pub record Stays {D F : Type 0} (b b' : BoardView D F) : Type 0 where
  pub world : IsSame b.world b'.world
  pub rest : b' ≡ record b { world = b'.world }

-- a call's first step, and its caller
abbrev pub IsCall : Event → Type 0
IsCall (event.PageOut c p) = Unit {0}
IsCall (event.PageIn c p) = Unit {0}
IsCall _ = ⊥

abbrev pub IsOfIdle : Device → Event → Type 0
IsOfIdle d (event.PageOut c p) = is_idle (state_of d.calls c) ≡ true
IsOfIdle d (event.PageIn c p) = is_idle (state_of d.calls c) ≡ true
IsOfIdle d _ = Unit {0}

-- a call was begun: its event was made, after a Round where one was due
pub record Begins {D F : Type 0} (disk_moves : D → (c : DiskCall) → DiskAnswer c → D → Type 0)
    (moves : F → (c : FabricCall) → FabricAnswer c → F → Type 0) (calls : ℕ) (e : Event) (page : List ℕ) (s : Seen)
    (b b' : BoardView D F) : Type 0 where
  pub buf : List ℕ
  pub seen : Seen
  pub makes : Makes disk_moves moves
      (Made Player (record { event = e; page = page }) s ∷ paces b.since b.words buf seen) b.world b'.world
  pub fewer : b.begun < calls
  pub now : b'
      ≡ record {
        world = b'.world;
        begun = b.begun + 1;
        since = since_now b.since + 1;
        made = b.made;
        words = seed_after b.words (paces b.since b.words buf seen);
      }

-- how a call began: it was made, or all calls were begun before, or there was no memory; then nothing was made
abbrev pub BeginsAs :
    {D F : Type 0} → (D → (c : DiskCall) → DiskAnswer c → D → Type 0)
    → (F → (c : FabricCall) → FabricAnswer c → F → Type 0) → ℕ → Event → List ℕ → Begun → BoardView D F → BoardView D F
    → Type 0
BeginsAs disk_moves moves calls e page (begun.Made s) b b' = Begins disk_moves moves calls e page s b b'
BeginsAs disk_moves moves calls e page begun.Spent b b' = (b' ≡ b) × (b.begun ≡ calls)
BeginsAs disk_moves moves calls e page begun.NoMemory b b' = Stays b b'

-- an entry answers a call: it has its caller, page and kind, and a page-out's bytes
abbrev pub IsAnswered : Event → List ℕ → Row → Type 0
IsAnswered (event.PageOut c p) page row = (row.entry.caller ≡ c) × Answers page (event.PageOut c p) row
IsAnswered (event.PageIn c p) page row = (row.entry.caller ≡ c) × Answers page (event.PageIn c p) row
IsAnswered _ page row = ⊥

-- an entry answers the call that a caller has under way
abbrev pub IsAnswerTo : Device → Caller → Row → Type 0
IsAnswerTo d c row = (row.entry.caller ≡ c) × AnswersUnderWay (call_of d.calls c) row

-- a fault that is seen is a failed entry
abbrev pub is_failed : Op → Bool
is_failed op.PageOut = false
is_failed (op.PageIn named from) = false
is_failed (op.Failed kind since at) = true

abbrev pub TellsFault : Seen → Op → Type 0
TellsFault (seen.Fault entry) o = is_failed o ≡ true
TellsFault _ o = Unit {0}

-- the history is as it was, or has the one entry more that was seen
pub data AddsEntry (R : Row → Type 0) (before : History) (s : Seen) (now : History) : Type 0 where
  nothing : entry_seen s ≡ None → now ≡ before → AddsEntry R before s now
  one :
      (row : Row) → entry_seen s ≡ Some (next_name before) → now ≡ row ∷ before → R row → TellsFault s row.entry.op
      → AddsEntry R before s now

abbrev pub BeginsHistory : Event → List ℕ → Begun → History → History → Type 0
BeginsHistory e page (begun.Made s) before now = AddsEntry (IsAnswered e page) before s now
BeginsHistory e page begun.Spent before now = now ≡ before
BeginsHistory e page begun.NoMemory before now = now ≡ before

-- a page-in that was answered as it began gives its page
abbrev pub BeginsGives : Event → Begun → History → List ℕ → List ℕ → Type 0
BeginsGives e (begun.Made s) H before given = GivesPage e s H before given
BeginsGives e begun.Spent H before given = given ≡ before
BeginsGives e begun.NoMemory H before given = given ≡ before

-- a later step of a call
pub record Finishes {D F : Type 0} (disk_moves : D → (c : DiskCall) → DiskAnswer c → D → Type 0)
    (moves : F → (c : FabricCall) → FabricAnswer c → F → Type 0) (c : Caller) (page : List ℕ) (s : Seen)
    (b b' : BoardView D F) : Type 0 where
  pub makes : Makes disk_moves moves
      (Made Player (record { event = event.Finish c; page = page }) s ∷ []) b.world b'.world
  pub adds : AddsEntry (IsAnswerTo b.world.core.device c) b.world.core.device.history s b'.world.core.device.history
  pub rest : b' ≡ record b { world = b'.world }

abbrev pub FinishesAs :
    {D F : Type 0} → (D → (c : DiskCall) → DiskAnswer c → D → Type 0)
    → (F → (c : FabricCall) → FabricAnswer c → F → Type 0) → Caller → List ℕ → Result Seen NoMemory → BoardView D F
    → BoardView D F → Type 0
FinishesAs disk_moves moves c page (Ok s) b b' = Finishes disk_moves moves c page s b b'
FinishesAs disk_moves moves c page (Err e) b b' = Stays b b'

abbrev pub FinishesGives : Caller → Result Seen NoMemory → History → List ℕ → List ℕ → Type 0
FinishesGives c (Ok s) H before given = GivesPage (event.Finish c) s H before given
FinishesGives c (Err e) H before given = given ≡ before

-- how the operator's event ended, by what it did
abbrev pub operated_of : Moved → Operated
operated_of moved.Did = operating.Made
operated_of moved.Nothing = operating.Nothing
operated_of moved.NoMemory = operating.NoMemory

-- the next event of the operator's list was made, and the answer says whether it had an effect
pub record Operates {D F : Type 0} (disk_moves : D → (c : DiskCall) → DiskAnswer c → D → Type 0)
    (moves : F → (c : FabricCall) → FabricAnswer c → F → Type 0) (es : List Event) (o : Operated)
    (b b' : BoardView D F) : Type 0 where
  pub event : Event
  pub page : List ℕ
  pub seen : Seen
  pub within : b.made < length es
  pub next : event ≡ slice_index_or es b.made event
  pub works : Works disk_moves moves (Made Operator (record { event = event; page = page }) seen ∷ []) b.world b'.world
  pub says : o ≡ operated_of (moved_by (lines_of (Made Operator (record { event = event; page = page }) seen ∷ [])))
  pub now : b'
      ≡ record {
        world = b'.world;
        begun = b.begun;
        since = since_after event b.since;
        made = b.made + 1;
        words = b.words;
      }

-- or all were made before, or there was no memory
abbrev pub OperatesAs :
    {D F : Type 0} → (D → (c : DiskCall) → DiskAnswer c → D → Type 0)
    → (F → (c : FabricCall) → FabricAnswer c → F → Type 0) → List Event → Operated → BoardView D F → BoardView D F
    → Type 0
OperatesAs disk_moves moves es operating.Ended b b' = (b.made ≡ length es) × (b' ≡ b)
OperatesAs disk_moves moves es operating.NoMemory b b' = Stays b b'
OperatesAs disk_moves moves es operating.Made b b' = Operates disk_moves moves es operating.Made b b'
OperatesAs disk_moves moves es operating.Nothing b b' = Operates disk_moves moves es operating.Nothing b b'
