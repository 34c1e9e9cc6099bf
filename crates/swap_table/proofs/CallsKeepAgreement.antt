-- So each call of the device, and each event, keeps what device and ports agree on.
use Rattle.std.proofs.Common.{◌≡◌, ℕ, refl, sym, ◌∙◌, subst, List, [], Bool, true}
use Rattle.swap_base.specs.declared.Lender.{Lender}
use Rattle.swap_base.specs.declared.DiskWhich.TheVariants as which
use Rattle.swap_disk.specs.declared.port.DiskPort.{Ghosts as DiskMeaning}
use Rattle.swap_wire.specs.declared.fabric.Fabric.{Ghosts as FabricMeaning}
use Rattle.swap_wire.specs.Input.{IsInRange}
use Rattle.swap_wire.specs.declared.Event.{Event}
use Rattle.swap_wire.specs.declared.Event.TheVariants as event
use Rattle.swap_wire.specs.declared.Seen.{Seen}
use Rattle.swap_table.specs.Ports.{Prog}
use Rattle.swap_table.specs.Device.{Device, of_device}
use Rattle.swap_table.specs.Happens.{happens}
use Rattle.swap_table.specs.Goes.{Goes, EachKeeps}
use Rattle.swap_table.specs.Moves.{Within, of_sizes, Speaker, quiet_speaker, Move}
use Rattle.swap_table.specs.Promises.{FollowsItsMoves, Promises}
use Rattle.swap_table.specs.Laws.{AgreeWith, AgreesAfter, EachCallKeeps, NewAgrees}
use Rattle.swap_table.proofs.Programs.{Leads-implies}
use Rattle.swap_table.proofs.MovesKeepInvariants.{Goes-leads, Goes-implies, beside}
use Rattle.swap_table.proofs.EventsGoByMoves as walk
use Rattle.swap_table.proofs.EventsComeToTheirEnds.{Hands, names_there}
use Rattle.swap_table.proofs.MovesKeepAgreement as keep
use Rattle.swap_table.proofs.AccountsKept as accounting
use Rattle.swap_table.proofs.AccountsKept.{new_accounts}
use Rattle.swap_table.proofs.NewDeviceAgrees.{new_fits}
use Rattle.swap_table.proofs.LossKeepsServing.{new_serves}

-- any lender's far side may be moved
abbrev pub anyone : Lender → Type 0
anyone l = Unit {0}

-- any page may be handed in
abbrev pub any : List ℕ → Type 0
any page = Unit {0}

pub hands_any : (page : List ℕ) (e : Event) → Hands anyone any page e
hands_any page (event.PageOut c p) = tt
hands_any page (event.Give l) = tt
hands_any page (event.Cut l a b) = tt
hands_any page (event.Crash l) = tt
hands_any page (event.Host l used word) = tt
hands_any page e = tt

-- what there is for a device
abbrev pub there : Device → Within
there d = of_sizes d.sizes d.lenders anyone any

module _ {D F : Type 0} (disk : DiskMeaning D) (follows : FollowsItsMoves disk) (fabric : FabricMeaning F) (laws : Promises fabric) where
  -- what goes by moves and leaves the device quiet keeps it
  pub goes_keep :
      {R : Type 0} (T : Bool) (d : Device) (p : Prog (Device × R)) (k : D) (f : F)
      → Goes (Move (there d)) (λ (a : Device × R) s. s ≡ quiet_speaker a.0) (quiet_speaker d) p
      → AgreeWith disk fabric T d k f → AgreesAfter disk fabric T p d k f
  goes_keep {R} T d p k f g h =
      let first : Agrees (quiet_speaker d) k f × Accounted (quiet_speaker d) k f =
      (record { fits = record { disk = h.0.disk; serves = h.0.serves }; is = refl; of_f = h.1 }, h.0.accounts) in
      Leads-implies disk.moves fabric.moves p k f _ _ then_kept
      (Goes-leads (Move (there d)) disk.moves fabric.moves (λ s k f. Agrees s k f
      × Accounted s k f) each (λ (a : Device × R) s. s ≡ quiet_speaker a.0) k f g first)
    where
      Agrees : Speaker → D → F → Type 0
      Agrees = keep.Agrees disk follows fabric laws T (of_device d) anyone any

      Accounted : Speaker → D → F → Type 0
      Accounted s k f = accounting.AccountsOf disk follows fabric laws T (of_device d) anyone any s.device k

      each : EachKeeps disk.moves fabric.moves (Move (there d)) (λ s k f. Agrees s k f × Accounted s k f)
      each =
          beside (Move (there d)) disk.moves fabric.moves Agrees Accounted (keep.each_keeps disk follows fabric laws T (of_device d) anyone any)
          (accounting.each_accounts disk follows fabric laws T (of_device d) anyone any)

      then_kept :
          (a : Device × R) (k : D) (f : F) → ((s : Speaker) × (s ≡ quiet_speaker a.0) × (Agrees s k f × Accounted s k f))
          → AgreeWith disk fabric T a.0 k f × (of_device a.0 ≡ of_device d)
      then_kept a k f (s, is, (agree, accounted)) =
          let now : Agrees (quiet_speaker a.0) k f = subst (λ x. Agrees x k f) is agree in
          let then : Accounted (quiet_speaker a.0) k f = subst (λ x. Accounted x k f) is accounted in
          ((record { disk = now.fits.disk; serves = now.fits.serves; accounts = then }, now.of_f ∙ sym now.is), now.is)

  pub fares_keep :
      {R : Type 0} (T : Bool) (d : Device) (page : List ℕ) (e : Event) (see : R → Seen) (p : Prog (Device × R)) (k : D) (f : F)
      → walk.Fares (there d) d page e see d p → AgreeWith disk fabric T d k f → AgreesAfter disk fabric T p d k f
  fares_keep T d page e see p k f g h = goes_keep T d p k f (Goes-implies (Move (there d)) _ _ (λ a s q. q.0) g) h

  fares_to_keep :
      {R : Type 0} (T : Bool) (d : Device) (page : List ℕ) (e : Event) (see : R → Seen) (p : Prog (Device × R)) (k : D) (f : F)
      → walk.FaresTo (there d) d page e see p → AgreeWith disk fabric T d k f → AgreesAfter disk fabric T p d k f
  fares_to_keep T d page e see p k f g h = goes_keep T d p k f (Goes-implies (Move (there d)) _ _ (λ a s q. q.0) g) h

  pub each_call_keeps : EachCallKeeps disk fabric
  each_call_keeps = record {
    out = λ T d k f c p bytes h idle within. fares_to_keep T d bytes _ _ _ k f (walk.out_fares (there d) d bytes c p idle within tt) h;
    read = λ T d k f c p h idle caller within. fares_to_keep T d [] _ _ _ k f (walk.read_fares_hit (there d) d [] c p idle caller within) h;
    finish = λ T d k f c h caller. fares_keep T d [] _ _ _ k f (walk.finish_fares (there d) d [] c caller) h;
    disk_start = λ T d k f h. fares_keep T d [] _ _ _ k f (walk.disk_start_fares (there d) d []) h;
    disk_take = λ T d k f h. fares_keep T d [] _ _ _ k f (walk.disk_take_fares (there d) d [] (which.Write (record { 0 = 0 })) true) h;
    disk_finish = λ T d k f w ok h. goes_keep T d _ k f (walk.disk_finish_goes (there d) d [] w ok) h;
    link_take = λ T d k f l h. fares_keep T d [] _ _ _ k f (walk.link_take_fares (there d) d [] l) h;
    tick = λ T d k f word h. fares_to_keep T d [] _ _ _ k f (walk.tick_fares (there d) d [] word) h;
    map = λ T d k f t l h within. fares_keep T d [] _ _ _ k f (walk.map_fares (there d) d [] t l within) h;
    connect = λ T d k f l h within. fares_keep T d [] _ _ _ k f (walk.connect_fares (there d) d [] l within) h;
    give = λ T d k f l h. fares_keep T d [] _ _ _ k f (walk.give_fares (there d) d [] l tt) h;
    cut = λ T d k f l a b h. fares_keep T d [] _ _ _ k f (walk.cut_fares (there d) d [] l a b tt) h;
    crash = λ T d k f l h. fares_keep T d [] _ _ _ k f (walk.crash_fares (there d) d [] l tt) h;
    host = λ T d k f l used word h. fares_keep T d [] _ _ _ k f (walk.host_fares (there d) d [] l used word tt) h;
  }

  pub new_agrees : NewAgrees disk fabric
  new_agrees s n k f blank is few = (
    record {
      disk = new_fits fabric.answers s n (disk.means k) blank;
      serves = new_serves (fabric.keeps f) (fabric.owes f) s n few;
      accounts = new_accounts fabric.answers s n (disk.means k).flights;
    },
    is,
  )

  -- an event
  pub happens_kept :
      (T : Bool) (d : Device) (k : D) (f : F) (page : List ℕ) (e : Event) → AgreeWith disk fabric T d k f → IsInRange d.sizes d.lenders e
      → AgreesAfter disk fabric T (happens d page e) d k f
  happens_kept T d k f page e h range =
      fares_to_keep T d page e _ _ k f (walk.happens_fares (there d) d page e (names_there d.sizes d.lenders anyone any d page e range (hands_any page e))) h
