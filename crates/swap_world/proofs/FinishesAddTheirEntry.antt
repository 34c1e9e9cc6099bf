-- What a page-in's steps add to the history, and when one reads anew.
use Rattle.std.proofs.Common.{subst, sym, ap, ◌∙◌, ◌≡◌, ℕ, ◌⊎◌, Bool, true, false, cond, nat_lt, List, ◌∷◌, refl, inl, inr, Option, None, Some}
use Rattle.swap_base.specs.declared.Page.{Page}
use Rattle.swap_base.specs.declared.Caller.{Caller}
use Rattle.swap_base.specs.declared.EntryNo.{EntryNo}
use Rattle.swap_base.specs.declared.Lender.{Lender}
use Rattle.swap_base.specs.declared.Lease.{Lease}
use Rattle.swap_base.specs.declared.CallKind.TheVariants as kind
use Rattle.swap_base.specs.declared.Via.{Via}
use Rattle.swap_base.specs.declared.Origin.TheVariants as origin
use Rattle.swap_base.specs.Sizes.{zeros}
use Rattle.swap_record.specs.declared.Op.TheVariants as op
use Rattle.swap_record.specs.History.{History, Row, row_of, next_name, last}
use Rattle.swap_queue.specs.Queue as queue
use Rattle.swap_queue.specs.Queue.{Copy}
use Rattle.swap_disk.specs.Port.{DiskCall, DiskAnswer}
use Rattle.swap_wire.specs.Fabric.{FabricCall, FabricAnswer}
use Rattle.swap_wire.specs.declared.Event.TheVariants as event
use Rattle.swap_wire.specs.declared.Seen.{Seen}
use Rattle.swap_wire.specs.declared.Seen.TheVariants as seen
use Rattle.swap_wire.specs.declared.fabric.Sent.TheVariants as sent
use Rattle.swap_calls.specs.Calls.{state_of, call_of, is_idle}
use Rattle.swap_calls.specs.declared.Arrived.{Arrived}
use Rattle.swap_calls.specs.declared.Arrived.TheVariants as arrived
use Rattle.swap_calls.specs.declared.CallState.{CallState}
use Rattle.swap_calls.specs.declared.CallState.TheVariants.{Idle, Room, Reading}
use Rattle.swap_remote.specs.Remote as remote
use Rattle.swap_table.specs.declared.InStep.{InStep}
use Rattle.swap_table.specs.declared.InStep.TheVariants as ins
use Rattle.swap_table.specs.declared.Step.{Step}
use Rattle.swap_table.specs.declared.Step.TheVariants as steps
use Rattle.swap_table.specs.Ports.{Prog, Ret, AskDisk, AskFabric, answering, Leads, and_then}
use Rattle.swap_table.specs.Device as device
use Rattle.swap_table.specs.Device.{Device, enter_entry, fault, accept_program, accepted_late, write_to, read_at, route_by, route, routed_again, finish_out, finish_by, origin_of, source, lose, sent_nowhere, hit, read_disk}
use Rattle.swap_table.specs.Happens.{happens, seen_by, see_in, see_step}
use Rattle.swap_table.specs.Moves.{within_any, Move}
use Rattle.swap_table.proofs.MovesKeepInvariants.{Goes-leads}
use Rattle.swap_table.proofs.Sequences.{Leads-then}
use Rattle.swap_table.proofs.LossesGoByMoves.{lose_passes}
use Rattle.swap_table.proofs.Programs.{Leads-answering, Leads-implies}
use Rattle.swap_world.specs.Since.{is_read_op}

-- a call that keeps a page that came
abbrev pub IsCame : CallState → Type 0
IsCame (Reading p n v arrived.Came newer since) = Unit {0}
IsCame _ = ⊥

-- a call that may read anew: its page was paged out, or it lost its link
abbrev pub MayGoOn : CallState → Type 0
MayGoOn (Reading p n v how newer since) = (newer ≡ true) ⊎ (how ≡ arrived.Lost)
MayGoOn _ = ⊥

-- nothing is added, or an entry that no read brought, or what the call kept
abbrev pub AddsNoRead : Device → History → Type 0
AddsNoRead d H = (H ≡ d.history) ⊎ ((row : Row) × (H ≡ row ∷ d.history) × (is_read_op row.entry.op ≡ false))

abbrev pub AddsKept : Device → Caller → History → Type 0
AddsKept d c H =
    AddsNoRead d H ⊎ ((row : Row) × (H ≡ row ∷ d.history) × (row.entry.caller ≡ c) × (row.bytes ≡ (call_of d.calls c).bytes) × IsCame (state_of d.calls c))

abbrev pub ReadsAnew : CallState → Seen → Type 0
ReadsAnew state s = (v : Via) → s ≡ seen.Again v → MayGoOn state

module _ {D F : Type 0} (disk_moves : D → (c : DiskCall) → DiskAnswer c → D → Type 0) (moves : F → (c : FabricCall) → FabricAnswer c → F → Type 0) where
  -- what holds of each answer
  all_answers : {A : Type 0} (p : Prog A) (k : D) (f : F) (P : A → Type 0) → ((a : A) → P a) → Leads disk_moves moves p k f (λ a _ _. P a)
  all_answers (Ret a) k f P each = each a
  all_answers (AskDisk c next) k f P each = λ r mid moved. all_answers (next r) mid f P each
  all_answers (AskFabric c next) k f P each = λ r mid moved. all_answers (next r) k mid P each

  -- a loss leaves the history
  lose_rows :
      {R : Type 0} (d x : Device) (l : Lender) (k : D) (f : F) (h : Device → Device × R) → ((y : Device) → (h y).0 ≡ y) → AddsNoRead d x.history
      → Leads disk_moves moves (answering h (lose x l)) k f (λ a _ _. AddsNoRead d a.0.history)
  lose_rows d x l k f h same was =
      Leads-answering disk_moves moves h (lose x l) k f _
      (Leads-implies disk_moves moves (lose x l) k f _ _ (λ y _ _ r. subst (AddsNoRead d) (sym (ap (λ (z : Device). z.history) (same y) ∙ r.1.1.history)) was)
      (Goes-leads (Move within_any) disk_moves moves (λ _ _ _. Unit {0}) (λ s asked t k k' f f' m went h. tt) _ k f (lose_passes within_any x l) tt))

  write_rows :
      (d e : Device) (k : D) (f : F) (p : Page) (n : EntryNo) (bytes : List ℕ) (at : Option (Lender × Lease)) → AddsNoRead d e.history
      → Leads disk_moves moves (write_to e p n bytes at) k f (λ a _ _. AddsNoRead d a.0.history)
  write_rows d e k f p n bytes None h = h
  write_rows d e k f p n bytes (Some at) h = elim [ sent.Sent ↦ λ mid moved. h | sent.Down ↦ λ mid moved. lose_rows d e at.0 k mid sent_nowhere (λ y. refl) h ]

  accept_rows :
      (d : Device) (k : D) (f : F) (c : Caller) (p : Page) (bytes : List ℕ)
      → Leads disk_moves moves (accept_program d c p bytes) k f (λ a _ _. AddsNoRead d a.0.history)
  accept_rows d k f c p bytes =
      write_rows d (enter_entry d c p bytes) k f p (next_name d.history) bytes (remote.target d.sizes d.remote p)
      (inr (row_of d.history c p op.PageOut bytes, refl, refl))

  read_rows :
      (d : Device) (k : D) (f : F) (c : Caller) (p : Page) (n : EntryNo) (at : Option (Lender × Lease))
      → Leads disk_moves moves (read_at d c p n at) k f (λ a _ _. AddsNoRead d a.0.history)
  read_rows d k f c p n None = λ r mid moved. inl refl
  read_rows d k f c p n (Some at) = elim [ sent.Sent ↦ λ mid moved. inl refl | sent.Down ↦ λ mid moved. down at.0 mid ]
    where
      down : (l : Lender) (g : F) → Leads disk_moves moves (and_then (lose d l) (λ x. read_disk x c p n)) k g (λ a _ _. AddsNoRead d a.0.history)
      down l g =
          Leads-then disk_moves moves (lose d l) (λ x. read_disk x c p n) k g _
          (Leads-implies disk_moves moves (lose d l) k g _ _ (λ y _ _ r. λ q mid moved. inl r.1.1.history)
          (Goes-leads (Move within_any) disk_moves moves (λ _ _ _. Unit {0}) (λ s asked t k k' f f' m went h. tt) _ k g (lose_passes within_any d l) tt))

  route_rows : (d : Device) (k : D) (f : F) (c : Caller) (p : Page) → Leads disk_moves moves (route d c p) k f (λ a _ _. AddsNoRead d a.0.history)
  route_rows d k f c p = by (last d.history p) (queue.newest d.queue p)
    where
      by : (o : Option EntryNo) (copy : Option Copy) → Leads disk_moves moves (route_by d c p o copy) k f (λ a _ _. AddsNoRead d a.0.history)
      by None copy = inr (row_of d.history c p (op.PageIn None origin.Zero) (zeros d.sizes), refl, refl)
      by (Some n) (Some copy) = inr (row_of d.history c p (op.PageIn (Some n) origin.Queue) copy.bytes, refl, refl)
      by (Some n) None = read_rows d k f c p n (source d p)

  -- a later step, by the call's state
  late_rows : (d : Device) (k : D) (f : F) (c : Caller) → Leads disk_moves moves (device.finish d c) k f (λ a _ _. AddsKept d c a.0.history)
  late_rows d k f c = by (state_of d.calls c) (λ h. h)
    where
      routes : (p : Page) → Leads disk_moves moves (answering routed_again (route d c p)) k f (λ a _ _. AddsKept d c a.0.history)
      routes p =
          Leads-answering disk_moves moves routed_again (route d c p) k f _ (Leads-implies disk_moves moves (route d c p) k f _ _ again (route_rows d k f c p))
        where
          again : (a : Device × InStep) (e : D) (g : F) → AddsNoRead d a.0.history → AddsKept d c (routed_again a).0.history
          again (x, ins.Done n) e g h = inl h
          again (x, ins.Wait v) e g h = inl h

      room : (p : Page) (since : ℕ) (bytes : List ℕ) → Leads disk_moves moves (finish_out d c p since bytes) k f (λ a _ _. AddsKept d c a.0.history)
      room p since bytes = by_room (queue.has_room d.queue p)
        where
          fails :
              (b : Bool)
              → Leads disk_moves moves {A = Device × Step}
              (cond b (Ret (fault d c p kind.PageOut since d.failed_writes bytes, steps.Fault (next_name d.history) since d.failed_writes))
              (Ret (d, steps.Room)))
              k f
              (λ a _ _. AddsKept d c a.0.history)
          fails true = inl (inr (row_of d.history c p (op.Failed kind.PageOut since d.failed_writes) bytes, refl, refl))
          fails false = inl (inl refl)

          by_room :
              (b : Bool)
              → Leads disk_moves moves {A = Device × Step}
              (cond b (answering (accepted_late (next_name d.history)) (accept_program d c p bytes))
              (cond (nat_lt since d.failed_writes)
              (Ret (fault d c p kind.PageOut since d.failed_writes bytes, steps.Fault (next_name d.history) since d.failed_writes)) (Ret (d, steps.Room))))
              k f
              (λ a _ _. AddsKept d c a.0.history)
          by_room true =
              Leads-answering disk_moves moves (accepted_late (next_name d.history)) (accept_program d c p bytes) k f _
              (Leads-implies disk_moves moves (accept_program d c p bytes) k f _ _ (λ a e g h. inl h) (accept_rows d k f c p bytes))
          by_room false = fails (nat_lt since d.failed_writes)

      by :
          (state : CallState) → (IsCame state → IsCame (state_of d.calls c))
          → Leads disk_moves moves (finish_by d c (call_of d.calls c).bytes state) k f (λ a _ _. AddsKept d c a.0.history)
      by Idle is = inl (inl refl)
      by (Room p since) is = room p since (call_of d.calls c).bytes
      by (Reading p n v arrived.Waiting newer since) is = inl (inl refl)
      by (Reading p n v arrived.Came true since) is = routes p
      by (Reading p n v arrived.Came false since) is =
          inr (row_of d.history c p (op.PageIn (Some n) (origin_of v)) (call_of d.calls c).bytes, refl, refl, refl, is tt)
      by (Reading p n v arrived.Failed true since) is = routes p
      by (Reading p n v arrived.Failed false since) is =
          inl (inr (row_of d.history c p (op.Failed kind.PageIn since d.failed_reads) (zeros d.sizes), refl, refl))
      by (Reading p n v arrived.Lost newer since) is = routes p

  -- it reads anew where it may
  late_anew :
      (d : Device) (k : D) (f : F) (c : Caller) → Leads disk_moves moves (device.finish d c) k f (λ a _ _. ReadsAnew (state_of d.calls c) (see_step a.1))
  late_anew d k f c = by (state_of d.calls c)
    where
      room :
          (p : Page) (since : ℕ) (bytes : List ℕ) → Leads disk_moves moves (finish_out d c p since bytes) k f (λ a _ _. ReadsAnew (Room p since) (see_step a.1))
      room p since bytes = by_room (queue.has_room d.queue p)
        where
          fails :
              (b : Bool)
              → Leads disk_moves moves {A = Device × Step}
              (cond b (Ret (fault d c p kind.PageOut since d.failed_writes bytes, steps.Fault (next_name d.history) since d.failed_writes))
              (Ret (d, steps.Room)))
              k f
              (λ a _ _. ReadsAnew (Room p since) (see_step a.1))
          fails true = λ v is. cc
          fails false = λ v is. cc

          by_room :
              (b : Bool)
              → Leads disk_moves moves {A = Device × Step}
              (cond b (answering (accepted_late (next_name d.history)) (accept_program d c p bytes))
              (cond (nat_lt since d.failed_writes)
              (Ret (fault d c p kind.PageOut since d.failed_writes bytes, steps.Fault (next_name d.history) since d.failed_writes)) (Ret (d, steps.Room))))
              k f
              (λ a _ _. ReadsAnew (Room p since) (see_step a.1))
          by_room true =
              Leads-answering disk_moves moves (accepted_late (next_name d.history)) (accept_program d c p bytes) k f _
              (all_answers (accept_program d c p bytes) k f (λ a. ReadsAnew (Room p since) (see_step (accepted_late (next_name d.history) a).1)) (λ a v is. cc))
          by_room false = fails (nat_lt since d.failed_writes)

      routes :
          (p q : Page) (n : EntryNo) (v : Via) (how : Arrived) (newer : Bool) (since : ℕ) → MayGoOn (Reading q n v how newer since)
          → Leads disk_moves moves (answering routed_again (route d c p)) k f (λ a _ _. ReadsAnew (Reading q n v how newer since) (see_step a.1))
      routes p q n v how newer since may =
          all_answers (answering routed_again (route d c p)) k f (λ a. ReadsAnew (Reading q n v how newer since) (see_step a.1)) (λ a w is. may)

      by : (state : CallState) → Leads disk_moves moves (finish_by d c (call_of d.calls c).bytes state) k f (λ a _ _. ReadsAnew state (see_step a.1))
      by Idle = λ v is. cc
      by (Room p since) = room p since (call_of d.calls c).bytes
      by (Reading p n v arrived.Waiting newer since) = λ w is. cc
      by (Reading p n v arrived.Came true since) = routes p p n v arrived.Came true since (inl refl)
      by (Reading p n v arrived.Came false since) = λ w is. cc
      by (Reading p n v arrived.Failed true since) = routes p p n v arrived.Failed true since (inl refl)
      by (Reading p n v arrived.Failed false since) = λ w is. cc
      by (Reading p n v arrived.Lost newer since) = routes p p n v arrived.Lost newer since (inr refl)

  -- the events
  pub finish_rows :
      (d : Device) (k : D) (f : F) (page : List ℕ) (c : Caller)
      → Leads disk_moves moves (happens d page (event.Finish c)) k f (λ a _ _. AddsKept d c a.0.history)
  finish_rows d k f page c = go (is_idle (state_of d.calls c))
    where
      go : (b : Bool) → Leads disk_moves moves (cond b (Ret (d, seen.Idle)) (seen_by see_step (device.finish d c))) k f (λ a _ _. AddsKept d c a.0.history)
      go true = inl (inl refl)
      go false = Leads-answering disk_moves moves _ (device.finish d c) k f _ (late_rows d k f c)

  pub finish_anew :
      (d : Device) (k : D) (f : F) (page : List ℕ) (c : Caller)
      → Leads disk_moves moves (happens d page (event.Finish c)) k f (λ a _ _. ReadsAnew (state_of d.calls c) a.1)
  finish_anew d k f page c = go (is_idle (state_of d.calls c))
    where
      go :
          (b : Bool)
          → Leads disk_moves moves (cond b (Ret (d, seen.Idle)) (seen_by see_step (device.finish d c))) k f (λ a _ _. ReadsAnew (state_of d.calls c) a.1)
      go true = λ v is. cc
      go false = Leads-answering disk_moves moves _ (device.finish d c) k f _ (late_anew d k f c)

  pub page_in_rows :
      (d : Device) (k : D) (f : F) (page : List ℕ) (c : Caller) (p : Page)
      → Leads disk_moves moves (happens d page (event.PageIn c p)) k f (λ a _ _. AddsNoRead d a.0.history)
  page_in_rows d k f page c p = go (is_idle (state_of d.calls c))
    where
      go : (b : Bool) → Leads disk_moves moves (cond b (seen_by see_in (device.read d c p)) (Ret (d, seen.Busy))) k f (λ a _ _. AddsNoRead d a.0.history)
      go true = Leads-answering disk_moves moves _ (device.read d c p) k f _ (route_rows (hit d p) k f c p)
      go false = inl refl
