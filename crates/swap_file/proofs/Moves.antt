-- What a take of a disk in a file may be.
use Rattle.std.proofs.Common.{◌≡◌, ℕ, ◌≤◌, Bool, true, false, List, [], ◌∷◌, ◌++◌, find, refl, sym, ap, ◌∙◌, arith, None, Some, inl, inr}
use Rattle.swap_io.specs.Causes.{Rose}
use Rattle.swap_base.specs.Sizes.{Sizes}
use Rattle.swap_base.specs.declared.DiskWhich.{DiskWhich}
use Rattle.swap_base.specs.declared.DiskWhich.TheVariants as which
use Rattle.swap_disk.specs.declared.DiskDone.{DiskDone}
use Rattle.swap_disk.specs.Disk.{Flight, is_flight_of, without_flight, which_of, page_of, bytes_given}
use Rattle.swap_disk.specs.lemmas.Follows.{found_is}
use Rattle.swap_disk.specs.Port.{TakeDone, Follows, taken_by}
use Rattle.swap_file.specs.declared.worker.Done.{Done}
use Rattle.swap_file.specs.declared.flights.Flying.{Flying}
use Rattle.swap_file.specs.Flights.{flight_of}
use Rattle.swap_file.specs.Files.{port_in, file_port, Moves}

-- what is handed over of two buffers that are the same where the operation is ok
same_given : (w : DiskWhich) (ok : Bool) (xs ys : List ℕ) → (ok ≡ true → xs ≡ ys) → bytes_given w ok xs ≡ bytes_given w ok ys
same_given w true xs ys same = ap (bytes_given w true) (same refl)
same_given (which.Write page) false xs ys same = refl
same_given (which.Read caller) false xs ys same = refl

module _ (s : Sizes) (flights : List Flight) (faults : ℕ) (came : List Done) where
  pub empty : Moves (file_port s flights faults came) TakeDone None (file_port s flights faults came)
  empty = ((refl, record { flights = refl; blocks = refl; finished = refl; later = omega arith; none = λ told. refl }), inl refl)

  pub stranger :
      (x : Done) → find (is_flight_of x.which) flights ≡ None
      → Moves (file_port s flights faults came) TakeDone None (file_port s flights faults (came ++ x ∷ []))
  stranger x lost = (
    (refl, record { flights = refl; blocks = refl; finished = refl; later = omega arith; none = λ told. refl }),
    inr (record { item = x; came = refl; stranger = lost }),
  )

  -- the operation of this name ends
  ends_one :
      (w : DiskWhich) (f : Flying) (d : DiskDone) (now : ℕ) (buf : List ℕ) → find (is_flight_of w) flights ≡ Some (flight_of f) → d.which ≡ w
      → d.page ≡ page_of (flight_of f) → faults ≤ now → (d.ok ≡ false → Rose faults now)
      → Follows (port_in s flights faults) TakeDone (taken_by (Some d) buf) (port_in s (without_flight w flights) now)
  ends_one w f d now buf found which_is page_is later cause =
      let D : DiskWhich → _ → DiskDone = λ w p. record { which = w; page = p; ok = d.ok } in (
        refl,
        record {
          flight = flight_of f;
          was = ap (λ w. find (is_flight_of w) flights) which_is ∙ found;
          is = ap (λ w. D w d.page) (which_is ∙ found_is w flights (flight_of f) found) ∙ ap (λ p. D (which_of (flight_of f)) p) page_is;
          flights = ap (λ w. without_flight w flights) (sym which_is);
          blocks = refl;
          finished = refl;
          later = later;
          cause = cause;
          told = tt;
        },
      )

  pub ends :
      (x : Done) (f : Flying) (d : DiskDone) (now : ℕ) (buf : List ℕ) → find (is_flight_of x.which) flights ≡ Some (flight_of f) → d.which ≡ x.which
      → d.page ≡ page_of (flight_of f) → faults ≤ now → (d.ok ≡ false → Rose faults now)
      → (d.ok ≡ true → x.ok ≡ true) → (d.ok ≡ true → buf ≡ x.bytes.items)
      → Moves (file_port s flights faults came) TakeDone (taken_by (Some d) buf) (file_port s (without_flight x.which flights) now (came ++ x ∷ []))
  ends x f d now buf found which_is page_is later cause ok filled = (
    ends_one x.which f d now buf found which_is page_is later cause,
    inl (record { item = x; came = refl; names = which_is; ok = ok; bytes = same_given d.which d.ok buf x.bytes.items filled }),
  )

  pub unsent :
      (w : DiskWhich) (f : Flying) (d : DiskDone) (now : ℕ) (buf : List ℕ) → find (is_flight_of w) flights ≡ Some (flight_of f)
      → d ≡ record { which = w; page = page_of (flight_of f); ok = false } → faults ≤ now → Rose faults now
      → Moves (file_port s flights faults came) TakeDone (taken_by (Some d) buf) (file_port s (without_flight w flights) now came)
  unsent w f d now buf found is later rose = (
    ends_one w f d now buf found (ap (λ (x : DiskDone). x.which) is) (ap (λ (x : DiskDone). x.page) is) later (λ failed. rose),
    inr (record { came = refl; failed = ap (λ (x : DiskDone). x.ok) is }),
  )
