-- What a board that has ended shows of its trace.
use Rattle.std.proofs.Common.{◌≡◌, ◌<◌, ◌≤◌, ℕ, Bool, false, length, reverse, is_some, sym, ap, ◌∙◌, subst, arith, Some, Result, Ok, Err}
use Rattle.std.specs.Prelude.{IfOk, OnOk, is_err}
use Rattle.swap_base.specs.declared.NoMemory.{NoMemory}
use Rattle.std.proofs.lemmas.List.{reverse-reverse, take_all}
use Rattle.swap_base.specs.Sizes.{Sizes}
use Rattle.swap_wire.specs.Fabric.{FabricCall, FabricAnswer, FabricOf}
use Rattle.swap_wire.specs.declared.fabric.Fabric.{Ghosts as FabricMeaning}
use Rattle.swap_disk.specs.Port.{DiskCall, DiskAnswer}
use Rattle.swap_disk.specs.declared.port.DiskPort.{Ghosts as DiskMeaning}
use Rattle.swap_record.specs.History.{History}
use Rattle.swap_script.specs.Reading.{Script}
use Rattle.swap_table.specs.Device.{device_at_start}
use Rattle.swap_table.specs.Promises.{FollowsItsMoves, Promises}
use Rattle.swap_trace.specs.Traces.{calls_in, operators_in}
use Rattle.swap_turn.specs.Turns.{entries_of}
use Rattle.swap_world.specs.Answered.{AnswersAll, AnswersEach, calls_of}
use Rattle.swap_world.specs.Runs.{WorldView, IsReached, made_of}
use Rattle.swap_world.specs.Laws.{Began, Holds, HoldsAfterEach}
use Rattle.swap_world.proofs.ReachedGoesOn.{reached_known}
use Rattle.swap_board.specs.Acts.{Makes}
use Rattle.swap_board.specs.Boards.{Named}
use Rattle.swap_play.specs.Callers.{HavePlayed, calls_logged, events_of}
use Rattle.swap_play.specs.Playing.{LogTells, IsEnded, IsActedOut, IsCarriedOut}
use Rattle.swap_play.specs.Settles.{Settles}
use Rattle.swap_play.proofs.Calling.{called_all}
use Rattle.swap_play.proofs.Logging.{run_not_busy, written_calls, calls_own}
use Rattle.swap_play.proofs.Paging.{own_calls}

module _ {D F : Type 0} (disk : DiskMeaning D) (follows : FollowsItsMoves disk) (fabric : FabricMeaning F) (laws : Promises fabric) where
  pub log_tells : (w : WorldView D F) → HoldsAfterEach disk fabric → IsReached disk fabric w.core w.log → LogTells w
  log_tells w always r c is within idle own plays =
      let began : Began disk fabric r.sizes r.lenders r.first r.first_fabric =
      record { blank = r.blank; is_of = laws.fresh_is_of r.first_fabric _ r.fresh; few = r.few } in
      let holds : Holds (is_some (disk.means r.first).blocks) fabric.answers r.sizes (made_of r.written) w.core.device =
      always r.sizes r.lenders r.first r.first_fabric (made_of r.written) w.core.device w.core.disk w.core.fabric began r.run in
      let known = reached_known disk follows fabric laws w.core w.log r in
      let P : FabricOf → Type 0 = λ o. c.0 < o.sizes.callers in
      let there : c.0 < r.sizes.callers = subst P known.is within in
      let Q : Bool → Type 0 = λ b. AnswersAll b (calls_of c (made_of r.written)) (entries_of c.0 w.core.device.history) in
      let each : AnswersEach (calls_of c (made_of r.written)) (entries_of c.0 w.core.device.history) = subst Q idle (holds.once c there) in
      let called = called_all c is (entries_of c.0 w.core.device.history) (calls_of c (made_of r.written)) own (calls_own c (made_of r.written)) each plays in
      let logged =
      written_calls c r.written r.parts
      (run_not_busy disk.moves fabric.moves (device_at_start r.sizes r.lenders) r.first r.first_fabric
      (made_of r.written) w.core.device w.core.disk w.core.fabric r.run) in
      let same : reverse (calls_logged c w.log) ≡ reverse (events_of is) = ap (λ l. reverse (calls_logged c l)) r.logged ∙ sym logged ∙ called in
      sym (reverse-reverse (calls_logged c w.log)) ∙ ap (λ l. reverse l) same ∙ reverse-reverse (events_of is)

module _ {D F : Type 0} (disk_moves : D → (c : DiskCall) → DiskAnswer c → D → Type 0) (moves : F → (c : FabricCall) → FabricAnswer c → F → Type 0) where
  acted_out :
      (n : Named D F) (t : Script) (connected w : WorldView D F) → n.opening ≡ Some connected → n.operator ≡ events_of (operators_in t).inputs
      → IsEnded disk_moves moves n w → IsActedOut disk_moves moves t n.number connected w
  acted_out n t connected w opening operator ended =
      let b = ended.played.board in
      let first : b.first ≡ connected = (let both : Some b.first ≡ Some connected = sym b.opens ∙ opening in cc) in
      let P : WorldView D F → Type 0 = λ x. Makes disk_moves moves b.acts x ended.board.world in
      let Q : WorldView D F → Type 0 = λ x. Makes disk_moves moves b.acts connected x in
      let len : length n.operator ≤ length ended.played.placed = let a = ended.played.made in let e = ended.made in omega (arith, a, e) in
      record {
        acts = b.acts;
        makes = subst Q (sym ended.world) (subst P first b.makes);
        made = b.made;
        operated = b.operated_are ∙ take_all (length ended.played.placed) n.operator len ∙ operator;
      }

  pub carried_out :
      (n : Named D F) (t : Script) (number : ℕ) (connected w : WorldView D F) → n.opening ≡ Some connected → n.operator ≡ events_of (operators_in t).inputs
      → n.number ≡ number → n.sizes ≡ t.sizes → n.lenders ≡ length t.lenders
      → IsEnded disk_moves moves n w → LogTells w → HavePlayed t w.core.device.history → IsCarriedOut disk_moves moves t number connected w
  carried_out n t number connected w opening operator is_number sizes lenders ended tells played =
      let P : ℕ → Type 0 = λ m. IsActedOut disk_moves moves t m connected w in
      let Q : ℕ → Type 0 = λ m. Settles disk_moves moves m w in
      let callers : t.sizes.callers ≡ w.core.device.sizes.callers =
      ap (λ (s : Sizes). s.callers) (sym (ap (λ (x : WorldView D F). x.core.device.sizes) ended.world ∙ ended.played.board.sizes ∙ sizes)) in
      record {
        acted = subst P is_number (acted_out n t connected w opening operator ended);
        answered = played;
        called =
            λ c within. let there : c.0 < w.core.device.sizes.callers = omega (arith, within, callers) in
            tells c (calls_in c t).inputs there (ended.idle c there) (own_calls c t.inputs) (played c within);
        idle = λ c within. let there : c.0 < w.core.device.sizes.callers = omega (arith, within, callers) in ended.idle c there;
        settles = subst Q lenders ended.settles;
      }

  -- so of what ending the board answers
  pub carried_ok :
      (r : Result (WorldView D F) NoMemory) (n : Named D F) (t : Script) (number : ℕ) (connected : WorldView D F) (H : History) → n.opening ≡ Some connected
      → n.operator ≡ events_of (operators_in t).inputs → n.number ≡ number → n.sizes ≡ t.sizes → n.lenders ≡ length t.lenders
      → IfOk r (IsEnded disk_moves moves n) → IfOk r (λ w. LogTells w) → IfOk r (λ w. w.core.device.history ≡ H) → HavePlayed t H
      → IfOk r (IsCarriedOut disk_moves moves t number connected)
  carried_ok (Ok w) n t number connected H opening operator is_number sizes lenders ended tells same played =
      carried_out n t number connected w opening operator is_number sizes lenders ended tells (subst (HavePlayed t) (sym same) played)
  carried_ok (Err e) n t number connected H opening operator is_number sizes lenders ended tells same played = tt

-- what holds where a call succeeds, of one that did
pub succeeded : {A E : Type 0} {P : Type 0} (r : Result A E) → is_err r ≡ false → OnOk r P → P
succeeded (Ok x) is holds = holds
succeeded (Err e) is holds = cc
