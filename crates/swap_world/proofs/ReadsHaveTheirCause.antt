-- So a page-in that a read answered gives what was handed over, and a call that reads anew has its cause.
use Rattle.std.proofs.Common.{◌≡◌, ℕ, ◌⊎◌, Bool, true, false, List, ◌∷◌, length, get_or, replicate, zero, suc, refl, sym, ap, ◌∙◌, subst, inl, inr, arith, Option, None, Some}
use Rattle.swap_base.specs.declared.Page.{Page}
use Rattle.swap_base.specs.declared.Caller.{Caller}
use Rattle.swap_base.specs.declared.Lender.{Lender}
use Rattle.swap_base.specs.declared.EntryNo.{EntryNo}
use Rattle.swap_base.specs.declared.Via.{Via}
use Rattle.swap_base.specs.declared.Via.TheVariants as via
use Rattle.swap_base.specs.declared.DiskWhich.{DiskWhich}
use Rattle.swap_base.specs.declared.DiskWhich.TheVariants as which
use Rattle.swap_base.specs.Sizes.{Sizes}
use Rattle.swap_record.specs.declared.Op.TheVariants as op
use Rattle.swap_record.specs.History.{History, Row, row_of}
use Rattle.swap_queue.specs.Queue as queue
use Rattle.swap_queue.specs.Queue.{Copy}
use Rattle.swap_disk.specs.Disk.{Taken}
use Rattle.swap_disk.specs.Port.{DiskCall, DiskAnswer}
use Rattle.swap_wire.specs.Fabric.{FabricCall, FabricAnswer}
use Rattle.swap_disk.specs.declared.port.DiskPort.{Ghosts as DiskMeaning}
use Rattle.swap_wire.specs.declared.Event.{Event}
use Rattle.swap_wire.specs.declared.Event.TheVariants as event
use Rattle.swap_wire.specs.declared.Seen.{Seen}
use Rattle.swap_wire.specs.declared.Seen.TheVariants as seen
use Rattle.swap_wire.specs.declared.fabric.Fabric.{Ghosts as FabricMeaning}
use Rattle.swap_calls.specs.Calls as calls
use Rattle.swap_calls.specs.Calls.{Call, state_of, call_of}
use Rattle.swap_calls.specs.declared.Arrived.{Arrived}
use Rattle.swap_calls.specs.declared.Arrived.TheVariants as arrived
use Rattle.swap_calls.specs.declared.CallState.{CallState}
use Rattle.swap_calls.specs.declared.CallState.TheVariants.{Idle, Room, Reading}
use Rattle.swap_table.specs.Device.{Device, device_at_start, enter_entry, wrote_after, took_after, took_back}
use Rattle.swap_table.specs.Ports.{Along}
use Rattle.swap_table.specs.Happens.{happens}
use Rattle.swap_table.specs.Comes.{Linked, begins_in, goes_on_in, Comes, ComesTo, refuses, rests, accepts, gives_page, fails, keeps_page, reads, starts_write, takes_back, links, brings}
use Rattle.swap_table.proofs.EventsComeToTheirEnds.{linked_keep, happens_comes}
use Rattle.swap_table.proofs.Programs.{Leads-Along}
use Rattle.swap_world.specs.Since.{is_read_op, last_handed, AcceptedSince, EndedSince, GivesWhatWasHanded, HasAgainCause, AgainHasCause}
use Rattle.swap_world.proofs.FinishesAddTheirEntry.{IsCame, MayGoOn, ReadsAnew, AddsNoRead, AddsKept, finish_rows, finish_anew, page_in_rows}
use Rattle.swap_world.proofs.HandedIsKept.{run_holds}
use Rattle.swap_world.proofs.NewerStays.{IsLostBy, IsNewerOf, IsLostAtDisk, newer_since, ended_since, never_at_disk}

-- a new device's calls are idle
new_idle : (s : Sizes) (n : ℕ) (c : Caller) → state_of (device_at_start s n).calls c ≡ Idle
new_idle s n c = ap (λ (x : Call). x.state) (by s.callers c.0)
  where
    by : (m i : ℕ) → get_or (replicate m calls.idle_call) i calls.idle_call ≡ calls.idle_call
    by zero i = refl
    by (suc m) zero = refl
    by (suc m) (suc i) = by m i

-- an event that is no page-in's step adds no page-in
took_rows : (d : Device) (taken : Option Taken) → (took_back d taken).0.history ≡ d.history
took_rows d None = refl
took_rows d (Some t) = by t.done.which t.done.ok
  where
    wrote_one : (p : Page) (copy : Option Copy) (ok : Bool) → (wrote_after d p copy ok).0.history ≡ d.history
    wrote_one p None ok = refl
    wrote_one p (Some copy) true = refl
    wrote_one p (Some copy) false = refl

    by : (w : DiskWhich) (ok : Bool) → (took_after d w t.done.page ok t.bytes).0.history ≡ d.history
    by (which.Write p) ok = wrote_one t.done.page (queue.flying d.queue t.done.page) ok
    by (which.Read c) true = refl
    by (which.Read c) false = refl

linked_rows : (x y : Device) → Linked x y → y.history ≡ x.history
linked_rows x y used = linked_keep (λ z. z.history ≡ x.history) (λ z r made k. k) (λ z l k. k) x y used refl

other_rows :
    (d d' : Device) (page : List ℕ) (e : Event) (s : Seen) → ((c : Caller) (p : Page) → e ≡ event.PageIn c p → ⊥) → ((c : Caller) → e ≡ event.Finish c → ⊥)
    → Comes d page e d' s → AddsNoRead d d'.history
other_rows d d' page e s no_in no_finish (refuses new_) = inl refl
other_rows d d' page e s no_in no_finish (rests new_ rest) = inl refl
other_rows d d' page e s no_in no_finish (accepts {c = c} {p = p} {bytes = bytes} step used) =
    inr (row_of d.history c p op.PageOut bytes, linked_rows (enter_entry d c p bytes) d' used, refl)
other_rows d d' page e s no_in no_finish (gives_page {c = c} {p = p} (begins_in is)) = absurd (no_in c p refl)
other_rows d d' page e s no_in no_finish (gives_page {c = c} (goes_on_in is)) = absurd (no_finish c refl)
other_rows d d' page e s no_in no_finish (fails {c = c} why) = absurd (no_finish c refl)
other_rows d d' page e s no_in no_finish (keeps_page is) = inl refl
other_rows d d' page e s no_in no_finish (reads {d' = x} v step newest used) = inl (linked_rows d x used)
other_rows d d' page e s no_in no_finish starts_write = inl refl
other_rows d d' page e s no_in no_finish (takes_back taken) = inl (took_rows d taken)
other_rows d d' page e s no_in no_finish (links new_ of_link used) = inl (linked_rows d d' used)
other_rows d d' page e s no_in no_finish (brings a bytes r used) = inl (linked_rows _ d' used)

-- the entry that was added
no_longer : (H : History) (row : Row) → H ≡ row ∷ H → ⊥
no_longer H row is = let len : length H ≡ length (row ∷ H) = ap length is in absurd (omega (arith, len))

same_row : (H : History) (a b : Row) → a ∷ H ≡ b ∷ H → a ≡ b
same_row H a b is = cc

no_read : (d : Device) (H : History) (row : Row) → AddsNoRead d H → H ≡ row ∷ d.history → is_read_op row.entry.op ≡ true → ⊥
no_read d H row (inl same) is read = no_longer d.history row (sym same ∙ is)
no_read d H row (inr r) is read =
    let one : r.0 ≡ row = same_row d.history r.0 row (sym r.1 ∙ is) in
    let none : is_read_op row.entry.op ≡ false = subst (λ (x : Row). is_read_op x.entry.op ≡ false) one r.2 in both none read
  where
    both : {b : Bool} → b ≡ false → b ≡ true → ⊥
    both a b = cc

module _ {D F : Type 0} (disk_moves : D → (c : DiskCall) → DiskAnswer c → D → Type 0) (moves : F → (c : FabricCall) → FabricAnswer c → F → Type 0) where
  pub gives_what_was_handed : GivesWhatWasHanded disk_moves moves
  gives_what_was_handed s n first first_fabric made d k f run i seen_ d' k' f' row step is read = by i.event refl
    where
      idle_first : (c : Caller) → IsCame (state_of (device_at_start s n).calls c) → ⊥
      idle_first c came = let none : IsCame Idle = subst IsCame (new_idle s n c) came in none

      kept : (c : Caller) → AddsKept d c d'.history → last_handed disk_moves moves row.entry.caller run ≡ Some row.bytes
      kept c (inl none) = absurd (no_read d d'.history row none is read)
      kept c (inr r) =
          let one : r.0 ≡ row = same_row d.history r.0 row (sym r.1 ∙ is) in
          let caller : row.entry.caller ≡ c = subst (λ (x : Row). x.entry.caller ≡ c) one r.2 in
          let bytes : row.bytes ≡ (call_of d.calls c).bytes = subst (λ (x : Row). x.bytes ≡ (call_of d.calls c).bytes) one r.3 in
          subst (λ (x : Caller). last_handed disk_moves moves x run ≡ Some row.bytes) (sym caller)
          (run_holds disk_moves moves c run (idle_first c) r.4 ∙ ap (λ b. Some b) (sym bytes))

      by : (e : Event) → i.event ≡ e → last_handed disk_moves moves row.entry.caller run ≡ Some row.bytes
      by (event.PageIn c p) same =
          let there = subst (λ x. Along disk_moves moves (happens d i.page x) k f k' f' (d', seen_)) same step in
          absurd
          (no_read d d'.history row
          (Leads-Along disk_moves moves (happens d i.page (event.PageIn c p)) k f k' f' (d', seen_) (λ (a : Device × Seen) e g. AddsNoRead d a.0.history)
          (page_in_rows disk_moves moves d k f i.page c p) there)
          is read)
      by (event.Finish c) same =
          let there = subst (λ x. Along disk_moves moves (happens d i.page x) k f k' f' (d', seen_)) same step in
          kept c
          (Leads-Along disk_moves moves (happens d i.page (event.Finish c)) k f k' f' (d', seen_) (λ (a : Device × Seen) e g. AddsKept d c a.0.history)
          (finish_rows disk_moves moves d k f i.page c) there)
      by e same =
          let there = subst (λ x. Along disk_moves moves (happens d i.page x) k f k' f' (d', seen_)) same step in
          let comes : ComesTo d i.page e d' seen_ =
          Leads-Along disk_moves moves (happens d i.page e) k f k' f' (d', seen_) (λ (a : Device × Seen) _ _. ComesTo d i.page e a.0 a.1)
          (happens_comes disk_moves moves d k f i.page e) there in
          absurd (no_read d d'.history row (other_rows (record d { rates = comes.0 }) d' i.page e seen_ (λ c p e. cc) (λ c e. cc) comes.2) is read)

module _ {D F : Type 0} (disk : DiskMeaning D) (fabric : FabricMeaning F) where
  pub again_has_cause : AgainHasCause disk fabric
  again_has_cause s n first first_fabric made d k f run c page v d' k' f' step =
      by (state_of d.calls c) refl
      (Leads-Along disk.moves fabric.moves (happens d page (event.Finish c)) k f k' f' (d', seen.Again v)
      (λ (a : Device × Seen) e g. ReadsAnew (state_of d.calls c) a.1) (finish_anew disk.moves fabric.moves d k f page c) step v refl)
    where
      not_newer : (p : Page) → IsNewerOf p (state_of (device_at_start s n).calls c) → ⊥
      not_newer p is = let P : CallState → Type 0 = λ x. IsNewerOf p x in let none : IsNewerOf p Idle = subst P (new_idle s n c) is in none

      not_lost : (l : Lender) → IsLostBy l (state_of (device_at_start s n).calls c) → ⊥
      not_lost l is = let P : CallState → Type 0 = λ x. IsLostBy l x in let none : IsLostBy l Idle = subst P (new_idle s n c) is in none

      not_at_disk : IsLostAtDisk (state_of (device_at_start s n).calls c) → ⊥
      not_at_disk is = let none : IsLostAtDisk Idle = subst IsLostAtDisk (new_idle s n c) is in none

      by_how :
          (p : Page) (m : EntryNo) (w : Via) (how : Arrived) (newer : Bool) (since : ℕ) → state_of d.calls c ≡ Reading p m w how newer since
          → (newer ≡ true) ⊎ (how ≡ arrived.Lost)
          → AcceptedSince disk.moves fabric.moves c p run ⊎ ((l : Lender) × (w ≡ via.Lender l) × EndedSince disk.moves fabric.moves c l run)
      by_how p m w how newer since is (inl e) =
          let P : CallState → Type 0 = λ x. IsNewerOf p x in inl (newer_since disk.moves fabric.moves c p run (not_newer p) (subst P (sym is) (refl, e)))
      by_how p m (via.Lender l) how newer since is (inr e) =
          let P : CallState → Type 0 = λ x. IsLostBy l x in
          let Q : Arrived → Type 0 = λ x. state_of d.calls c ≡ Reading p m (via.Lender l) x newer since in
          let lost_is : state_of d.calls c ≡ Reading p m (via.Lender l) arrived.Lost newer since = subst Q e is in
          inr (l, refl, ended_since disk.moves fabric.moves c l run (not_lost l) (subst P (sym lost_is) refl))
      by_how p m via.Disk how newer since is (inr e) =
          let P : CallState → Type 0 = λ x. IsLostAtDisk x in
          let Q : Arrived → Type 0 = λ x. state_of d.calls c ≡ Reading p m via.Disk x newer since in
          let lost_is : state_of d.calls c ≡ Reading p m via.Disk arrived.Lost newer since = subst Q e is in
          absurd (never_at_disk disk.moves fabric.moves c run not_at_disk (subst P (sym lost_is) tt))

      by : (state : CallState) → state_of d.calls c ≡ state → MayGoOn state → HasAgainCause disk fabric s n first first_fabric made d k f run c
      by Idle is may = absurd may
      by (Room p since) is may = absurd may
      by (Reading p m w how newer since) is may =
          record { page = p; entry = m; through = w; how = how; newer = newer; since = since; reads = is; cause = by_how p m w how newer since is may }
