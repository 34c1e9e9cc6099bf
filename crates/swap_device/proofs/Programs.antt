-- What went along the parts of a call's program went along it.
use Rattle.std.proofs.Common.{◌≡◌, ℕ, ◌<◌, ◌^◌, arith, Bool, true, false, List, length, nat_lt, [], refl, sym, subst, IfSome, Option, None, Some}
use Rattle.std.proofs.lemmas.Bool.{lt-ltb}
use Rattle.swap_base.specs.declared.Page.{Page}
use Rattle.swap_base.specs.declared.Caller.{Caller}
use Rattle.swap_base.specs.declared.EntryNo.{EntryNo}
use Rattle.swap_base.specs.declared.Slab.{Slab}
use Rattle.swap_base.specs.declared.Lender.{Lender}
use Rattle.swap_base.specs.declared.Lease.{Lease}
use Rattle.swap_base.specs.declared.Link.{Link}
use Rattle.swap_base.specs.Sizes.{place_of}
use Rattle.swap_record.specs.History.{next_name}
use Rattle.swap_queue.specs.Queue.{has_room}
use Rattle.swap_slabs.specs.Slabs as slabs
use Rattle.swap_slabs.specs.declared.SlabState.{SlabState}
use Rattle.swap_slabs.specs.declared.SlabState.TheVariants.{Asking}
use Rattle.swap_activity.specs.Rates.{Activity}
use Rattle.swap_rates.specs.Table.{hottest}
use Rattle.swap_rates.specs.lemmas.Hottest.{hottest_within}
use Rattle.swap_remote.specs.Remote.{Remote, query_sent}
use Rattle.swap_disk.specs.Port.{DiskCall, DiskAnswer}
use Rattle.swap_wire.specs.declared.Msg.{Msg}
use Rattle.swap_wire.specs.declared.Msg.TheVariants as msg
use Rattle.swap_rings.specs.Rings.{is_up, ring_of, oldest}
use Rattle.swap_choice.specs.declared.lenders.Asked.TheVariants as picked
use Rattle.swap_wire.specs.declared.fabric.Sent.TheVariants as sent
use Rattle.swap_wire.specs.Fabric.{parcel_of, Brought, LinkLost, FabricCall, FabricAnswer, Connect, Send, Take}
use Rattle.swap_table.specs.declared.TheConstants.{MOST_LINKS}
use Rattle.swap_table.specs.declared.Placed.{Placed}
use Rattle.swap_table.specs.declared.LinkStep.{LinkStep}
use Rattle.swap_table.specs.declared.LinkStep.TheVariants as link
use Rattle.swap_table.specs.declared.InStep.{InStep}
use Rattle.swap_table.specs.declared.OutStep.{OutStep}
use Rattle.swap_table.specs.declared.Step.{Step}
use Rattle.swap_table.specs.Ports.{answering, Along}
use Rattle.swap_table.specs.Device.{Device, Core, Heard, lose, choose, borrow_from, say_after, follow, sent_nowhere, accept_program, accept_after, accepted_late, write_to, read_disk, read_at, put_program, finish_out, may_map, with_answer, map, may_ask, not_asked, query, placed_at, placed_beside, ask_one, ask_second, ask, with_step, understand, link_take, raised_after, next_link, hello, with_link, connect_on, without_link, connect}
use Rattle.swap_table.proofs.LinkTables.{state-same}
use Rattle.swap_table.proofs.Programs.{Along-answering}
use Rattle.swap_device.specs.State.{Became, heard_of}
use Rattle.swap_device.proofs.Falls.{Along-and}
use Rattle.swap_device.proofs.Heard.{heard_is}
use Rattle.swap_wire.specs.declared.TheConstants.{WIRE_VERSION}

-- the hottest slab is one of the slabs
pub hottest_few : (hot : ℕ) (states : List SlabState) (rates : List Activity) → IfSome (hottest hot states rates) (λ (slab : Slab). slab.0 < length states)
hottest_few hot states rates = go (hottest hot states rates) refl
  where
    go : (o : Option Slab) → hottest hot states rates ≡ o → IfSome o (λ (slab : Slab). slab.0 < length states)
    go None is = tt
    go (Some slab) is = hottest_within hot states rates slab is

-- fewer links were made than may be
pub few_links : (n : ℕ) → n < 2 ^ 32 → (n ≡ 4_294_967_295 → ⊥) → nat_lt n MOST_LINKS ≡ true
few_links n fits other = lt-ltb n MOST_LINKS (omega (arith, fits, other))

-- a slab that was asked for of a first lender asks it alone
pub asked_alone :
    (r : Remote) (slab : Slab) (first : Option Lender) (l : Lender) → slab.0 < length r.slabs → first ≡ None
    → slabs.state_of (query_sent r slab first l).slabs slab ≡ Asking (slabs.pair_of l None)
asked_alone r slab None l within is = state-same r.slabs slab (Asking (slabs.pair_of l None)) within
asked_alone r slab (Some m) l within is = let no : ⊥ = cc in absurd no

module _ {D F : Type 0} (disk_moves : D → (c : DiskCall) → DiskAnswer c → D → Type 0) (moves : F → (c : FabricCall) → FabricAnswer c → F → Type 0) where
  pub follows :
      (h : Heard) (l : Lender) (k k1 k' : D) (f f1 f' : F) (e now : Device) → Along disk_moves moves (say_after h.device l h.word) k f k1 f1 e
      → Along disk_moves moves (choose lose e h.choice) k1 f1 k' f' now → Along disk_moves moves (follow h l) k f k' f' now
  follows h l k k1 k' f f1 f' e now one two =
      Along-and disk_moves moves (say_after h.device l h.word) (λ x. choose lose x h.choice) k k1 k' f f1 f' e now one two

  pub writes_down :
      (d e : Device) (p : Page) (entry : EntryNo) (bytes : List ℕ) (at : Lender × Lease) (k k' : D) (f f1 f' : F)
      → moves f (Send at.0 (parcel_of (msg.Write at.1 (place_of d.sizes p.0)) bytes)) sent.Down f1 → Along disk_moves moves (lose d at.0) k f1 k' f' e
      → Along disk_moves moves (write_to d p entry bytes (Some at)) k f k' f' (e, None)
  writes_down d e p entry bytes at k k' f f1 f' down along =
      (sent.Down, f1, down, Along-answering disk_moves moves sent_nowhere (lose d at.0) k f1 k' f' e along)

  pub reads_down :
      (d e now : Device) (c : Caller) (p : Page) (newest : EntryNo) (at : Lender × Lease) (r : InStep) (k k1 k' : D) (f f1 f2 f' : F)
      → moves f (Send at.0 (parcel_of (msg.Read at.1 (place_of d.sizes p.0)) [])) sent.Down f1 → Along disk_moves moves (lose d at.0) k f1 k1 f2 e
      → Along disk_moves moves (read_disk e c p newest) k1 f2 k' f' (now, r) → Along disk_moves moves (read_at d c p newest (Some at)) k f k' f' (now, r)
  reads_down d e now c p newest at r k k1 k' f f1 f2 f' down one two =
      (sent.Down, f1, down, Along-and disk_moves moves (lose d at.0) (λ x. read_disk x c p newest) k k1 k' f1 f2 f' e (now, r) one two)

  pub puts :
      (d now : Device) (c : Caller) (p : Page) (bytes : List ℕ) (entry : EntryNo) (sent : Option Lender) (k k' : D) (f f' : F) → has_room d.queue p ≡ true
      → entry ≡ next_name d.history → Along disk_moves moves (accept_program d c p bytes) k f k' f' (now, sent)
      → Along disk_moves moves (put_program d c p bytes) k f k' f' (now, OutStep.Done entry sent)
  puts d now c p bytes entry sent k k' f f' room named along =
      rw room
      (subst (λ n. Along disk_moves moves (answering (accept_after (next_name d.history)) (accept_program d c p bytes)) k f k' f' (now, OutStep.Done n sent))
      (sym named)
      (Along-answering disk_moves moves (accept_after (next_name d.history)) (accept_program d c p bytes) k f k' f' (now, sent) along))

  pub puts_late :
      (d now : Device) (c : Caller) (p : Page) (since : ℕ) (bytes : List ℕ) (entry : EntryNo) (sent : Option Lender) (k k' : D) (f f' : F)
      → has_room d.queue p ≡ true → entry ≡ next_name d.history → Along disk_moves moves (accept_program d c p bytes) k f k' f' (now, sent)
      → Along disk_moves moves (finish_out d c p since bytes) k f k' f' (now, Step.Done entry sent)
  puts_late d now c p since bytes entry sent k k' f f' room named along =
      rw room
      (subst (λ n. Along disk_moves moves (answering (accepted_late (next_name d.history)) (accept_program d c p bytes)) k f k' f' (now, Step.Done n sent))
      (sym named)
      (Along-answering disk_moves moves (accepted_late (next_name d.history)) (accept_program d c p bytes) k f k' f' (now, sent) along))

  pub maps :
      (d e : Device) (slab : Slab) (l : Lender) (may : Bool) (k k' : D) (f f' : F) → may ≡ may_map d slab l
      → Along disk_moves moves (borrow_from lose d slab l) k f k' f' e → Along disk_moves moves (map d slab l) k f k' f' (e, may)
  maps d e slab l may k k' f f' is along =
      subst (λ b. Along disk_moves moves (map d slab l) k f k' f' (e, b)) (sym is)
      (Along-answering disk_moves moves (with_answer (may_map d slab l)) (borrow_from lose d slab l) k f k' f' e along)

  pub asks_down :
      (d e : Device) (slab : Slab) (first : Option Lender) (l : Lender) (k k' : D) (f f1 f' : F) → may_ask d slab first l ≡ true
      → moves f (Send l (parcel_of (msg.Query slab) [])) sent.Down f1 → Along disk_moves moves (lose d l) k f1 k' f' e
      → Along disk_moves moves (query d slab first l) k f k' f' (e, false)
  asks_down d e slab first l k k' f f1 f' may down along =
      rw may (sent.Down, f1, down, Along-answering disk_moves moves not_asked (lose d l) k f1 k' f' e along)

  pub opens :
      (d up now : Device) (l : Lender) (n page_bytes pages : ℕ) (k k1 k' : D) (f f1 f2 f' : F) → up ≡ raised_after d l → n ≡ d.links_made
      → page_bytes ≡ d.sizes.page_bytes → pages ≡ d.sizes.pages_per_slab → k1 ≡ k → f2 ≡ f1 → moves f (Connect l (record { 0 = n })) tt f1
      → Along disk_moves moves (say_after up l (Some (parcel_of (msg.Hello WIRE_VERSION page_bytes pages) []))) k1 f2 k' f' now
      → Along disk_moves moves (connect_on d l) k f k' f' (now, Some (record { 0 = n }))
  opens d up now l n page_bytes pages k k1 k' f f1 f2 f' is_up is_next is_page is_pages same_k same_f opened along =
      let first =
      subst (λ x. Along disk_moves moves (say_after x l (Some (parcel_of (msg.Hello WIRE_VERSION page_bytes pages) []))) k1 f2 k' f' now) is_up along in
      let second =
      subst (λ x. Along disk_moves moves (say_after (raised_after d l) l (Some (parcel_of (msg.Hello WIRE_VERSION x pages) []))) k1 f2 k' f' now) is_page
      first in
      let third =
      subst (λ x. Along disk_moves moves (say_after (raised_after d l) l (Some (parcel_of (msg.Hello WIRE_VERSION d.sizes.page_bytes x) []))) k1 f2 k' f' now)
      is_pages
      second in
      let fourth = subst (λ x. Along disk_moves moves (say_after (raised_after d l) l (Some (hello d.sizes))) x f2 k' f' now) same_k third in
      let said = subst (λ x. Along disk_moves moves (say_after (raised_after d l) l (Some (hello d.sizes))) k x k' f' now) same_f fourth in
      subst (λ (x : ℕ). Along disk_moves moves (connect_on d l) k f k' f' (now, Some (record { 0 = x }))) (sym is_next) (
        tt,
        f1,
        subst (λ (x : ℕ). moves f (Connect l (record { 0 = x })) tt f1) is_next opened,
        Along-answering disk_moves moves (with_link (next_link d)) (say_after (raised_after d l) l (Some (hello d.sizes))) k f1 k' f' now said,
      )

  pub connects :
      (d e now : Device) (l : Lender) (n : Option Link) (k k1 k' : D) (f f1 f' : F) → nat_lt d.links_made MOST_LINKS ≡ true
      → Along disk_moves moves (without_link d l) k f k1 f1 e → Along disk_moves moves (connect_on e l) k1 f1 k' f' (now, n)
      → Along disk_moves moves (connect d l) k f k' f' (now, n)
  connects d e now l n k k1 k' f f1 f' few one two =
      rw few (Along-and disk_moves moves (without_link d l) (λ x. connect_on x l) k k1 k' f f1 f' e (now, n) one two)

  pub asks_one :
      (d now : Device) (slab : Slab) (l : Lender) (b : Bool) (placed : Option Placed) (k k' : D) (f f' : F) → placed ≡ placed_at slab l b
      → Along disk_moves moves (query d slab None l) k f k' f' (now, b) → Along disk_moves moves (ask_one d slab l) k f k' f' (now, placed)
  asks_one d now slab l b placed k k' f f' is along =
      subst (λ x. Along disk_moves moves (ask_one d slab l) k f k' f' (now, x)) (sym is)
      (Along-answering disk_moves moves (λ (r : Device × Bool). (r.0, placed_at slab l r.1)) (query d slab None l) k f k' f' (now, b) along)

  pub asks_beside :
      (d now : Device) (slab : Slab) (first second : Lender) (sent b : Bool) (placed : Option Placed) (k k' : D) (f f' : F) → sent ≡ true
      → placed ≡ placed_beside slab first second b → Along disk_moves moves (query d slab (Some first) second) k f k' f' (now, b)
      → Along disk_moves moves (ask_second slab first second (d, sent)) k f k' f' (now, placed)
  asks_beside d now slab first second sent b placed k k' f f' was is along =
      subst (λ y. Along disk_moves moves (ask_second slab first second (d, y)) k f k' f' (now, placed)) (sym was)
      (subst (λ x. Along disk_moves moves (ask_second slab first second (d, true)) k f k' f' (now, x)) (sym is)
      (Along-answering disk_moves moves (λ (r : Device × Bool). (r.0, placed_beside slab first second r.1)) (query d slab (Some first) second) k f k' f'
      (now, b) along))

  pub asks_two :
      (d e now : Device) (slab : Slab) (n m : ℕ) (b : Bool) (placed : Option Placed) (k k1 k' : D) (f f1 f' : F)
      → Along disk_moves moves (query d slab None (record { 0 = n })) k f k1 f1 (e, b)
      → Along disk_moves moves (ask_second slab (record { 0 = n }) (record { 0 = m }) (e, b)) k1 f1 k' f' (now, placed)
      → Along disk_moves moves (ask d slab (picked.Two n m)) k f k' f' (now, placed)
  asks_two d e now slab n m b placed k k1 k' f f1 f' one two =
      Along-and disk_moves moves (query d slab None (record { 0 = n })) (ask_second slab (record { 0 = n }) (record { 0 = m })) k k1 k' f f1 f' (e, b)
      (now, placed) one two

  pub takes_lost :
      (d e : Device) (l : Lender) (k k' : D) (f f1 f' : F) → is_up d.remote.links l ≡ true → moves f (Take l) LinkLost f1
      → Along disk_moves moves (lose d l) k f1 k' f' e → Along disk_moves moves (link_take d l) k f k' f' (e, LinkStep.Lost)
  takes_lost d e l k k' f f1 f' up lost along = rw up (LinkLost, f1, lost, Along-answering disk_moves moves (with_step link.Lost) (lose d l) k f1 k' f' e along)

  pub takes_message :
      (d now : Device) (l : Lender) (m : Msg) (bytes : List ℕ) (step : LinkStep) (k k' : D) (f f1 f' : F) → is_up d.remote.links l ≡ true
      → moves f (Take l) (Brought (parcel_of m bytes)) f1
      → Along disk_moves moves (understand d l m (heard_of d l m bytes (oldest (ring_of d.remote.links l)))) k f1 k' f' (now, step)
      → Along disk_moves moves (link_take d l) k f k' f' (now, step)
  takes_message d now l m bytes step k k' f f1 f' up brought along =
      rw up (
        Brought (parcel_of m bytes),
        f1,
        brought,
        subst (λ o. Along disk_moves moves (understand d l m o) k f1 k' f' (now, step))
            (sym (heard_is d l m bytes (oldest (ring_of d.remote.links l)))) along,
      )

  -- a loss after a call of the fabric, which changes the fabric alone
  pub lose_from :
      (before mid now : Core D F) (l : Lender) → mid ≡ record before { fabric = mid.fabric } → Became disk_moves moves (λ d. lose d l) mid now
      → Along disk_moves moves (lose before.device l) before.disk mid.fabric now.disk now.fabric now.device
  lose_from before mid now l rest along =
      subst (λ (x : Core D F). Along disk_moves moves (lose x.device l) x.disk mid.fabric now.disk now.fabric now.device) rest along
