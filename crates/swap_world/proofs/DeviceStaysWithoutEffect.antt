-- An event without an effect leaves the device as it was.
use Rattle.std.proofs.Common.{inl, inr, ap, ◌∙◌, ◌≡◌, ℕ, Bool, true, false, cond, List, refl, is_none, Option, None, Some}
use Rattle.swap_base.specs.declared.Page.{Page}
use Rattle.swap_base.specs.declared.EntryNo.{EntryNo}
use Rattle.swap_base.specs.declared.Lender.{Lender}
use Rattle.swap_base.specs.declared.DiskWhich.{DiskWhich}
use Rattle.swap_wire.specs.declared.Event.{Event}
use Rattle.swap_wire.specs.declared.Seen.{Seen}
use Rattle.swap_record.specs.History.{next_name}
use Rattle.swap_queue.specs.Queue.{Copy}
use Rattle.swap_disk.specs.Disk.{Taken}
use Rattle.swap_table.specs.declared.DiskStep.{DiskStep}
use Rattle.swap_table.specs.Device.{Device, wrote_after, took_after, took_back}
use Rattle.swap_table.specs.Happens.{see_disk}
use Rattle.swap_world.specs.Runs.{has_effect}
use Rattle.swap_table.specs.Comes.{is_of_link, begins_in, goes_on_in, Comes, rates_slabs, is_of_rates, ComesTo, refuses, rests, accepts, gives_page, fails, keeps_page, reads, starts_write, takes_back, links, brings}
use Rattle.swap_base.specs.declared.DiskWhich.TheVariants as which
use Rattle.swap_wire.specs.declared.Event.TheVariants as event
use Rattle.swap_wire.specs.declared.Seen.TheVariants as seen
use Rattle.swap_queue.specs.Queue as queue

-- without an effect the device stays
done_acts : (e : Event) (m : EntryNo) (to : Option Lender) → has_effect e (seen.Done m to) ≡ true
done_acts (event.Finish c) m to = refl
done_acts e m to = refl

link_acts : (e : Event) (s : Seen) → is_of_link s ≡ true → has_effect e s ≡ true
link_acts (event.Finish c) (seen.Wait v) of_link = cc
link_acts (event.Finish c) seen.Room of_link = cc
link_acts e seen.Nothing of_link = cc
link_acts e seen.Busy of_link = cc
link_acts e seen.Idle of_link = cc
link_acts e s of_link = refl

both : {b : Bool} → b ≡ true → b ≡ false → ⊥
both t f = cc

took_stays : (d : Device) (taken : Option Taken) (w : DiskWhich) (ok : Bool) → let a : Device × DiskStep = took_back d taken in
    has_effect (event.Disk w ok) (see_disk a.1) ≡ false → a.0 ≡ d
took_stays d None w ok none = refl
took_stays d (Some t) w ok none = go t.done.which t.done.page t.done.ok t.bytes none
  where
    back : (p : Page) (copy : Option Copy) (good : Bool) → let a : Device × DiskStep = wrote_after d p copy good in
        has_effect (event.Disk w ok) (see_disk a.1) ≡ false → a.0 ≡ d
    back p None good none = refl
    back p (Some copy) true none = cc
    back p (Some copy) false none = absurd (kept (queue.next_copy d.queue p) none)
      where
        kept :
            (o : Option Copy) → has_effect (event.Disk w ok) (see_disk (cond (is_none o) (DiskStep.Kept p copy.entry) (DiskStep.Dropped p copy.entry))) ≡ false
            → ⊥
        kept None h = cc
        kept (Some x) h = cc

    go : (v : DiskWhich) (p : Page) (good : Bool) (bytes : List ℕ) → let a : Device × DiskStep = took_after d v p good bytes in
        has_effect (event.Disk w ok) (see_disk a.1) ≡ false → a.0 ≡ d
    go (which.Write q) p good bytes none = back p (queue.flying d.queue p) good none
    go (which.Read c) p true bytes none = cc
    go (which.Read c) p false bytes none = cc

pub comes_stays : (d d' : Device) (page : List ℕ) (e : Event) (s : Seen) → Comes d page e d' s → has_effect e s ≡ false → d' ≡ d
comes_stays d d' page e s (refuses new) none = refl
comes_stays d d' page e s (rests new rest) none = refl
comes_stays d d' page e s (accepts {to = to} step linked) none = absurd (both (done_acts e (next_name d.history) to) none)
comes_stays d d' page e s (gives_page step) none = absurd (both (done_acts e (next_name d.history) None) none)
comes_stays d d' page e s (fails why) none = cc
comes_stays d d' page e s (keeps_page idle) none = cc
comes_stays d d' page e s (reads v (begins_in idle) is linked) none = cc
comes_stays d d' page e s (reads v (goes_on_in at) is linked) none = cc
comes_stays d d' page e s starts_write none = cc
comes_stays d d' page e s (takes_back {w = w} {ok = ok} taken) none = took_stays d taken w ok none
comes_stays d d' page e s (links new of_link linked) none = absurd (both (link_acts e s of_link) none)
comes_stays d d' page e s (brings c bytes r linked) none = cc

-- and where rates may change, since that is seen
rates_act : (e : Event) (s : Seen) → rates_slabs e ≡ true → is_of_rates s ≡ true → has_effect e s ≡ true
rates_act (event.PageOut c p) (seen.Done m to) may of_rates = refl
rates_act (event.PageOut c p) seen.Room may of_rates = refl
rates_act (event.PageOut c p) (seen.Wait v) may of_rates = refl
rates_act (event.PageOut c p) seen.Ticked may of_rates = refl
rates_act (event.PageOut c p) (seen.Asked t l m) may of_rates = refl
rates_act (event.PageIn c p) (seen.Done m to) may of_rates = refl
rates_act (event.PageIn c p) seen.Room may of_rates = refl
rates_act (event.PageIn c p) (seen.Wait v) may of_rates = refl
rates_act (event.PageIn c p) seen.Ticked may of_rates = refl
rates_act (event.PageIn c p) (seen.Asked t l m) may of_rates = refl
rates_act (event.Tick word) (seen.Done m to) may of_rates = refl
rates_act (event.Tick word) seen.Room may of_rates = refl
rates_act (event.Tick word) (seen.Wait v) may of_rates = refl
rates_act (event.Tick word) seen.Ticked may of_rates = refl
rates_act (event.Tick word) (seen.Asked t l m) may of_rates = refl
rates_act e s may of_rates = cc

pub comes_to_stays : (d d' : Device) (page : List ℕ) (e : Event) (s : Seen) → ComesTo d page e d' s → has_effect e s ≡ false → d' ≡ d
comes_to_stays d d' page e s (rates, inl same, comes) none =
    comes_stays (record d { rates = rates }) d' page e s comes none ∙ ap (λ r. record d { rates = r }) same
comes_to_stays d d' page e s (rates, inr may, comes) none = absurd (both (rates_act e s may.0 may.1) none)
