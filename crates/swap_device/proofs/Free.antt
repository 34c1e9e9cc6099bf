-- No operation of the disk is in flight that nobody waits for.
use Rattle.std.proofs.Common.{◌≡◌, ℕ, Bool, true, false, cond, List, [], ◌∷◌, find, refl, ap, ◌∙◌, None, Some}
use Rattle.std.specs.List.{AllByRecursion}
use Rattle.swap_base.specs.declared.Page.{Page}
use Rattle.swap_base.specs.declared.Caller.{Caller}
use Rattle.swap_base.specs.declared.DiskWhich.TheVariants as which
use Rattle.swap_queue.specs.Queue.{flying}
use Rattle.swap_disk.specs.Disk.{is_flight_of}
use Rattle.swap_disk.specs.Port.{Port}
use Rattle.swap_calls.specs.Calls.{state_of, may_read}
use Rattle.swap_table.specs.Device.{Device}
use Rattle.swap_table.specs.Fits.{FitsDisk, IsExpected}
use Rattle.swap_base.proofs.Lists.{All-implies}
use Rattle.swap_table.proofs.HistoryAgreement.{other_read, other_write}
use Rattle.swap_table.proofs.WaitsStay.{may_read_waits}

find_none : {X : Type 0} (p : X → Bool) (xs : List X) → AllByRecursion (λ x. p x ≡ false) xs → find p xs ≡ None
find_none p [] all = refl
find_none p (x ∷ xs) all = ap (λ b. cond b (Some x) (find p xs)) all.0 ∙ find_none p xs all.1

-- no read of a caller that may read, and no write of a page of which no copy flies
pub read_free :
    (T : Bool) (A : List ℕ → List ℕ → Type 0) (d : Device) (p : Port) (c : Caller) → FitsDisk T A d p → may_read (state_of d.calls c) ≡ true
    → find (is_flight_of (which.Read c)) p.flights ≡ None
read_free T A d p c k may =
    find_none (is_flight_of (which.Read c)) p.flights
    (All-implies (IsExpected T _ _ d.queue d.calls) _ p.flights
    (λ f x. other_read T _ _ d.queue d.calls c f (may_read_waits (state_of d.calls c) may).0 x) k.agrees.expected)

pub write_free :
    (T : Bool) (A : List ℕ → List ℕ → Type 0) (d : Device) (p : Port) (pg : Page) → FitsDisk T A d p → flying d.queue pg ≡ None
    → find (is_flight_of (which.Write pg)) p.flights ≡ None
write_free T A d p pg k none =
    find_none (is_flight_of (which.Write pg)) p.flights
    (All-implies (IsExpected T _ _ d.queue d.calls) _ p.flights (λ f x. other_write T _ _ d.queue d.calls pg f none x) k.agrees.expected)
