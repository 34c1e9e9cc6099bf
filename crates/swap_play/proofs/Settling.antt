-- Links are quiet one after another.
use Rattle.std.proofs.Common.{◌≡◌, ◌+◌, ℕ, Bool, true, false, List, [], ◌∷◌, ◌++◌, not, refl, ap, ◌∙◌, subst}
use Rattle.swap_base.specs.declared.Lender.{Lender}
use Rattle.swap_wire.specs.declared.Event.{Event}
use Rattle.swap_wire.specs.declared.Event.TheVariants as event
use Rattle.swap_wire.specs.declared.Seen.{Seen}
use Rattle.swap_wire.specs.Fabric.{FabricCall, FabricAnswer}
use Rattle.swap_disk.specs.Port.{Port, DiskCall, DiskAnswer}
use Rattle.swap_table.specs.Device.{Device}
use Rattle.swap_world.specs.Runs.{WorldView, has_effect}
use Rattle.swap_board.specs.Acts.{Act, Made, Player, line_if, lines_of, Makes}
use Rattle.swap_board.specs.Boards.{BoardView}
use Rattle.swap_board.specs.Works.{PumpsAs, moved_by}
use Rattle.swap_board.specs.declared.works.Point.TheVariants as point
use Rattle.swap_board.specs.declared.works.Moved.{Moved}
use Rattle.swap_board.specs.declared.works.Moved.TheVariants as moved
use Rattle.swap_board.proofs.Acts.{makes_on, makes_none}
use Rattle.swap_play.specs.Settles.{give, get, none, more, LinksAreQuiet, LinkIsQuiet, KeepsHistory}

no_line : (b : Bool) (e : Event) (s : Seen) → moved.Nothing ≡ moved_by ([] ++ line_if b e s) → b ≡ false
no_line true e s nothing = cc
no_line false e s nothing = refl

module _ {D F : Type 0} (disk_moves : D → (c : DiskCall) → DiskAnswer c → D → Type 0) (moves : F → (c : FabricCall) → FabricAnswer c → F → Type 0) where
  -- what a pump made at a link, where nothing of it had an effect
  record Still (e : Event) (w w' : WorldView D F) : Type 0 where
    page : List ℕ
    seen : Seen
    still : has_effect e seen ≡ false
    makes : Makes disk_moves moves (Made Player (record { event = e; page = page }) seen ∷ []) w w'

  still_by :
      (e : Event) (w w' : WorldView D F) (acts : List Act) (page : List ℕ) (s : Seen) → acts ≡ Made Player (record { event = e; page = page }) s ∷ []
      → moved.Nothing ≡ moved_by (lines_of acts) → Makes disk_moves moves acts w w' → Still e w w'
  still_by e w w' acts page s is says makes = record {
    page = page;
    seen = s;
    still = no_line (has_effect e s) e s (says ∙ ap (λ l. moved_by (lines_of l)) is);
    makes = subst (λ l. Makes disk_moves moves l w w') is makes;
  }

  still_give :
      (means : D → Port) (l : Lender) (w w' : WorldView D F) → PumpsAs disk_moves moves means (point.Give l) moved.Nothing w w' → Still (event.Give l) w w'
  still_give means l w w' pumps = still_by (event.Give l) w w' pumps.acts pumps.at_point.0 pumps.at_point.1 pumps.at_point.2 pumps.says pumps.works.makes

  still_get :
      (means : D → Port) (l : Lender) (w w' : WorldView D F) → PumpsAs disk_moves moves means (point.Take l) moved.Nothing w w' → Still (event.Take l) w w'
  still_get means l w w' pumps = still_by (event.Take l) w w' pumps.acts pumps.at_point.0 pumps.at_point.1 pumps.at_point.2 pumps.says pumps.works.makes

  pub quiet_one :
      (means : D → Port) (l : Lender) (w w1 w' : WorldView D F) → PumpsAs disk_moves moves means (point.Give l) moved.Nothing w w1
      → PumpsAs disk_moves moves means (point.Take l) moved.Nothing w1 w' → LinkIsQuiet disk_moves moves l.0 w w'
  quiet_one means l w w1 w' gave took =
      let g = still_give means l w w1 gave in
      let t = still_get means l w1 w' took in
      record {
        page = g.page;
        gave = g.seen;
        gave_nothing = g.still;
        page' = t.page;
        took = t.seen;
        took_nothing = t.still;
        makes = makes_on disk_moves moves w w1 w' (give l.0 g.page g.seen ∷ []) (get l.0 t.page t.seen ∷ []) g.makes t.makes;
      }

  pub quiet_none : (w : WorldView D F) → LinksAreQuiet disk_moves moves 0 w
  quiet_none w = record { before = w; acts = []; are = none; makes = makes_none disk_moves moves w w refl refl refl refl }

  pub quiet_more :
      (n : ℕ) (w w' : WorldView D F) → LinksAreQuiet disk_moves moves n w → LinkIsQuiet disk_moves moves n w w' → LinksAreQuiet disk_moves moves (n + 1) w'
  quiet_more n w w' was one = record {
    before = was.before;
    acts = get n one.page' one.took ∷ give n one.page one.gave ∷ was.acts;
    are = more one.page one.gave one.page' one.took was.are one.gave_nothing one.took_nothing;
    makes = makes_on disk_moves moves was.before w w' was.acts (get n one.page' one.took ∷ give n one.page one.gave ∷ []) was.makes one.makes;
  }

  history_kept :
      (means : D → Port) (p : _) (m : Moved) (w w' : WorldView D F) → PumpsAs disk_moves moves means p m w w' → w'.core.device.history ≡ w.core.device.history
  history_kept means p moved.Did w w' pumps = pumps.works.history
  history_kept means p moved.Nothing w w' pumps = pumps.works.history
  history_kept means p moved.NoMemory w w' same = ap (λ (d : Device). d.history) same.device

  pub pump_keeps :
      (means : D → Port) (p : _) (m : Moved) (b b' : BoardView D F) → PumpsAs disk_moves moves means p m b.world b'.world → b' ≡ record b { world = b'.world }
      → KeepsHistory b b'
  pump_keeps means p m b b' pumps rest = record { rest = rest; history = history_kept means p m b.world b'.world pumps }

module _ {D F : Type 0} where
  pub keeps_self : (b : BoardView D F) → KeepsHistory b b
  keeps_self b = record { rest = refl; history = refl }

  pub keeps_on : (b b1 b' : BoardView D F) → KeepsHistory b b1 → KeepsHistory b1 b' → KeepsHistory b b'
  keeps_on b b1 b' was now = record {
    rest = now.rest ∙ ap (λ (x : BoardView D F). record x { world = b'.world }) was.rest;
    history = now.history
        ∙ was.history;
  }
