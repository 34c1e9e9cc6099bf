-- Each call of the disk in memory is its move, and keeps what the disk keeps.
use Rattle.std.proofs.Common.{◌≡◌, ℕ, Bool, true, false, ◌&&◌, if◌then◌else◌, List, [], ◌++◌, length, get_or, set, replicate, find, option_map, refl, sym, ap, ◌∙◌, subst, is_some, is_none, Option, None, Some, IsSome}
use Rattle.std.specs.Option.{option_or}
use Rattle.std.proofs.lemmas.Bool.{cond-true, cond-false, false≢true}
use Rattle.std.proofs.lemmas.List.Folds.{find-append}
use Rattle.std.proofs.lemmas.Simd.{splat_is_map}
use Rattle.swap_base.specs.declared.Page.{Page}
use Rattle.swap_base.specs.declared.Caller.{Caller}
use Rattle.swap_base.specs.declared.DiskWhich.{DiskWhich}
use Rattle.swap_base.specs.declared.DiskWhich.TheVariants as which
use Rattle.swap_disk.specs.declared.mem_disk.Ended.{Ended}
use Rattle.swap_disk.specs.Disk.{Disk, Flight, Write, Read, which_of, page_of, Finished, is_flight_of, without_flight, spoil, finish, finish_flight, can_finish, bytes_given, one_more, Taken, take_from, taken_of, after_take, after_take_of, start_after}
use Rattle.swap_disk.specs.MemDiskView.{MemDiskView, IsInFlight, IsDrive}
use Rattle.swap_disk.specs.lemmas.Follows.{found_is, found_again}
use Rattle.swap_store.specs.Blocks.{Blocks}
use Rattle.swap_disk.specs.Flights.{FlightsView, ended_as, ended_in, drive_in, Stands, settled_by, buffer_after, Holds}

-- a disk as it is kept is a drive
flies :
    (flights : List Flight) (w : DiskWhich) (ok : Bool) (found : Option Flight) → find (is_flight_of w) flights ≡ found → IsInFlight flights (ended_as ok found)
flies flights w ok None e = tt
flies flights w ok (Some flight) e = found_again w flights flight e

ended_flies : (flights : List Flight) (ended : Option Ended) → IsInFlight flights (ended_in flights ended)
ended_flies flights None = tt
ended_flies flights (Some e) = flies flights e.which e.ok (find (is_flight_of e.which) flights) refl

pub is_drive :
    (store : Blocks) (flying : FlightsView) (ended : Option Ended) (faults : ℕ) → Holds store flying ended faults → IsDrive (drive_in store flying ended faults)
is_drive store flying ended faults h = record { in_flight = ended_flies flying.flights ended; range = h.faults_fit }

-- ---- an operation is started

found_more : (w : DiskWhich) (fs more : List Flight) → IsSome (find (is_flight_of w) fs) → find (is_flight_of w) (fs ++ more) ≡ find (is_flight_of w) fs
found_more w fs more some = find-append (is_flight_of w) fs more ∙ or_some (find (is_flight_of w) fs) (find (is_flight_of w) more) some
  where
    or_some : (o p : Option Flight) → IsSome o → option_or o p ≡ o
    or_some None p h = absurd (false≢true h)
    or_some (Some x) p h = refl

ended_more : (fs more : List Flight) (ended : Option Ended) → Stands fs ended → ended_in (fs ++ more) ended ≡ ended_in fs ended
ended_more fs more None h = refl
ended_more fs more (Some e) h = ap (λ o. ended_as e.ok o) (found_more e.which fs more h)

stands_more : (fs more : List Flight) (ended : Option Ended) → Stands fs ended → Stands (fs ++ more) ended
stands_more fs more None h = tt
stands_more fs more (Some e) h = ap (λ (o : Option Flight). is_some o) (found_more e.which fs more h) ∙ h

module _ (store : Blocks) (flying flying' : FlightsView) (ended : Option Ended) (faults : ℕ) (more : List Flight) (h : Holds store flying ended faults)
    (is : flying' ≡ record { sizes = flying.sizes; flights = flying.flights ++ more }) where
  pub start_is : ◌≡◌ {A = MemDiskView} (record { sizes = flying.sizes; disk = start_after (drive_in store flying ended faults).disk more })
      (drive_in store flying' ended faults)
  start_is =
      let F : Option Finished → MemDiskView =
      λ o. record { sizes = flying.sizes; disk = record { blocks = store.blocks; flights = flying.flights ++ more; finished = o; faults = faults } } in
      ap F (sym (ended_more flying.flights more ended h.stands)) ∙ ap (λ (f : FlightsView). drive_in store f ended faults) (sym is)

  pub start_holds : Holds store flying' ended faults
  start_holds =
      subst (λ (f : FlightsView). Holds store f ended faults) (sym is)
      (record { page_bytes = h.page_bytes; pages = h.pages; stands = stands_more flying.flights more ended h.stands; faults_fit = h.faults_fit })

-- ---- an operation that has finished is taken

given :
    (store : Blocks) (w : DiskWhich) (page : Page) (ok : Bool) (buf : List ℕ)
    → bytes_given w ok (buffer_after store w page ok buf) ≡ bytes_given w ok (get_or store.blocks page.0 [])
given store (which.Write p) page ok buf = refl
given store (which.Read c) page true buf = refl
given store (which.Read c) page false buf = refl

-- what is taken, and the drive after it
abbrev TakeGives : Blocks → FlightsView → Ended → ℕ → Option Flight → Page → List ℕ → Type 0
TakeGives store flying e faults o page buf =
    (taken_of (record { blocks = store.blocks; flights = flying.flights; finished = ended_as e.ok o; faults = faults }) (ended_as e.ok o)
    ≡ Some (record { done = record { which = e.which; page = page; ok = e.ok }; bytes = bytes_given e.which e.ok (buffer_after store e.which page e.ok buf) }))
    × (after_take_of (record { blocks = store.blocks; flights = flying.flights; finished = ended_as e.ok o; faults = faults }) (ended_as e.ok o)
    ≡ record { blocks = store.blocks; flights = without_flight e.which flying.flights; finished = None; faults = if e.ok then faults else one_more faults })

take_found :
    (store : Blocks) (flying : FlightsView) (e : Ended) (faults : ℕ) (o : Option Flight) (page : Page) (buf : List ℕ)
    → find (is_flight_of e.which) flying.flights ≡ o
    → option_map page_of o ≡ Some page → TakeGives store flying e faults o page buf
take_found store flying e faults None page buf found is = cc
take_found store flying e faults (Some f) page buf found is =
    let page_is : page_of f ≡ page = cc in
    let which_is : which_of f ≡ e.which = sym (found_is e.which flying.flights f found) in
    let G : DiskWhich → Page → List ℕ → Option Taken = λ w p bs. Some (record { done = record { which = w; page = p; ok = e.ok }; bytes = bs }) in (
      ap (λ w. G w (page_of f) (bytes_given w e.ok (get_or store.blocks (page_of f).0 []))) which_is
          ∙ ap (λ p. G e.which p (bytes_given e.which e.ok (get_or store.blocks p.0 []))) page_is
          ∙ ap (λ bs. G e.which page bs) (sym (given store e.which page e.ok buf)),
      ap
          (λ w. record { blocks = store.blocks; flights = without_flight w flying.flights; finished = None; faults = if e.ok then faults else one_more faults })
          which_is,
    )

module _ (store : Blocks) (flying flying' : FlightsView) (e : Ended) (faults faults' : ℕ) (page : Page) (buf buf' : List ℕ)
    (found : option_map page_of (find (is_flight_of e.which) flying.flights) ≡ Some page)
    (handed_is : buf' ≡ buffer_after store e.which page e.ok buf) (landed : flying'
    ≡ record { sizes = flying.sizes; flights = without_flight e.which flying.flights })
    (counted : faults' ≡ (if e.ok then faults else one_more faults)) where
  gives : TakeGives store flying e faults (find (is_flight_of e.which) flying.flights) page buf
  gives = take_found store flying e faults (find (is_flight_of e.which) flying.flights) page buf refl found

  pub taken_is : take_from (drive_in store flying (Some e) faults).disk
      ≡ Some (record { done = record { which = e.which; page = page; ok = e.ok }; bytes = bytes_given e.which e.ok buf' })
  taken_is =
      gives.0 ∙ ap (λ bs. Some (record { done = record { which = e.which; page = page; ok = e.ok }; bytes = bytes_given e.which e.ok bs })) (sym handed_is)

  pub after_is : ◌≡◌ {A = MemDiskView} (record { sizes = flying.sizes; disk = after_take (drive_in store flying (Some e) faults).disk })
      (drive_in store flying' None faults')
  after_is =
      let D : Disk → MemDiskView = λ d. record { sizes = flying.sizes; disk = d } in
      let F : ℕ → MemDiskView =
      λ n. record {
        sizes = flying.sizes;
        disk = record {
          blocks = store.blocks;
          flights = without_flight e.which flying.flights;
          finished = None;
          faults =
              n;
        };
      } in
      ap D gives.1 ∙ ap F (sym counted) ∙ ap (λ (f : FlightsView). drive_in store f None faults') (sym landed)

-- ---- an operation finishes

pub spoils :
    (store : Blocks) (o : Option Flight) (page : Page) (bytes : List ℕ) (ok : Bool) → o ≡ Some (Write page bytes) → length bytes ≡ store.page_bytes → ok ≡ false
    → ◌≡◌ {A = Blocks} (record { blocks = set store.blocks page.0 (replicate store.page_bytes 255); page_bytes = store.page_bytes })
    (record { blocks = settled_by store.blocks o ok; page_bytes = store.page_bytes })
spoils store o page bytes ok is long failed =
    let F : List (List ℕ) → Blocks = λ bs. record { blocks = bs; page_bytes = store.page_bytes } in
    let spoilt_is : replicate store.page_bytes 255 ≡ spoil bytes = splat_is_map bytes store.page_bytes 255 long in
    ap F
    (ap (λ l. set store.blocks page.0 l) (spoilt_is ∙ sym (cond-false ok bytes (spoil bytes) failed))
    ∙ ap (λ (x : Option Flight). settled_by store.blocks x ok) (sym is))

pub settles_read :
    (blocks : List (List ℕ)) (w : DiskWhich) (fs : List Flight) (o : Option Flight) (caller : Caller) (ok : Bool) → find (is_flight_of w) fs ≡ o
    → w ≡ which.Read caller → blocks ≡ settled_by blocks o ok
settles_read blocks w fs None caller ok found is = refl
settles_read blocks w fs (Some (Write page bytes)) caller ok found is =
    let e : which.Read caller ≡ which.Write page = sym is ∙ found_is w fs (Write page bytes) found in cc
settles_read blocks w fs (Some (Read c page)) caller ok found is = refl

-- nothing finishes where an operation waits to be taken, or none is in flight
waits : (o : Option Flight) (ok : Bool) → IsSome o → IsSome (ended_as ok o)
waits None ok some = absurd (false≢true some)
waits (Some f) ok some = refl

stays_of :
    (d : Disk) (w : DiskWhich) (ok : Bool) (o : Option Finished) (flight : Option Flight) → IsSome o
    → (is_none o && is_some flight ≡ false) × (finish_flight d o flight ok ≡ d)
stays_of d w ok None flight some = absurd (false≢true some)
stays_of d w ok (Some f) flight some = (refl, refl)

pub stays : (store : Blocks) (flying : FlightsView) (ended : Option Ended) (faults : ℕ) (w : DiskWhich) (ok : Bool) → Holds store flying ended faults
    → IsSome ended
    → (can_finish (drive_in store flying ended faults).disk w ≡ false)
    × (finish (drive_in store flying ended faults).disk w ok ≡ (drive_in store flying ended faults).disk)
stays store flying None faults w ok h some = absurd (false≢true some)
stays store flying (Some e) faults w ok h some =
    stays_of (drive_in store flying (Some e) faults).disk w ok (ended_in flying.flights (Some e)) (find (is_flight_of w) flying.flights)
    (waits (find (is_flight_of e.which) flying.flights) e.ok h.stands)

is_none_of : (o : Option Flight) → is_some o ≡ false → o ≡ None
is_none_of None lacks = refl
is_none_of (Some f) lacks = absurd (false≢true (sym lacks))

pub none_finishes :
    (store : Blocks) (flying : FlightsView) (ended : Option Ended) (faults : ℕ) (w : DiskWhich) (ok : Bool) → is_some ended ≡ false
    → is_some (find (is_flight_of w) flying.flights) ≡ false
    → (can_finish (drive_in store flying ended faults).disk w ≡ false)
    × (finish (drive_in store flying ended faults).disk w ok ≡ (drive_in store flying ended faults).disk)
none_finishes store flying (Some e) faults w ok lacks found = absurd (false≢true (sym lacks))
none_finishes store flying None faults w ok lacks found =
    let none : find (is_flight_of w) flying.flights ≡ None = is_none_of (find (is_flight_of w) flying.flights) found in
    (ap (λ (o : Option Flight). is_some o) none, ap (λ o. finish_flight (drive_in store flying None faults).disk None o ok) none)
