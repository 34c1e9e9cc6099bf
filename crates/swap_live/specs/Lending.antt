-- How lending over a host ends, and what it then did with the host and wrote.
use Rattle.std.specs.Prelude.{◌≡◌, ℕ, List, [], ◌∷◌, ◌++◌, ◌⊎◌, codes, Option}
use Rattle.std.specs.Fmt.{decimal}
use Rattle.std.specs.Io.KnownBytes.{Appends}
use Rattle.swap_io.specs.Causes.{Rose, AppendsFront}
use Rattle.swap_sock.specs.declared.address.Address.{Address}
use Rattle.swap_sock.specs.declared.host.Host.{Ghosts as HostMeaning}
use Rattle.swap_sock.specs.Dealings.{Dealings, Left, gave_one, gave_none, got_back}
use Rattle.swap_node.specs.declared.node.Ear.{Ear}
use Rattle.swap_serve.specs.Serving.{IsServed}
use Rattle.swap_run.specs.Clause.{Stream, Failed, TookNothing}
use Rattle.swap_live.specs.declared.LendEnd.{LendEnd}
use Rattle.swap_live.specs.declared.LendEnd.TheVariants as end

-- `served N links` and a line feed
abbrev pub served_line : ℕ → List ℕ
served_line n = (codes "served " ++ decimal n) ++ (codes " links" ++ 10 ∷ [])

-- a host over a call: the doors that it was asked for, gave and got back, and its count of faults
pub record Hosting (D : Type 0) : Type 0 where
  pub before : Dealings Address D D
  pub now : Dealings Address D D
  pub faults_before : ℕ
  pub faults_now : ℕ

abbrev pub hosting : {H D F E S K : Type 0} → HostMeaning H D F E S K → H → H → Hosting E
hosting host before now = record {
  before = host.doors before;
  now = host.doors now;
  faults_before = host.faults before;
  faults_now = host.faults now;
}

abbrev pub HostFailed : {D : Type 0} → Hosting D → Type 0
HostFailed h = Rose h.faults_before h.faults_now

-- it was asked for no door
abbrev pub GaveNothing : {D : Type 0} → Hosting D → Type 0
GaveNothing h = h.now ≡ h.before

-- it was asked for one door, at this address, and one that it gave went back
abbrev pub WentBack : {D : Type 0} → Address → Hosting D → Type 0
WentBack {D} address h =
    (h.now ≡ gave_none address h.before) ⊎
    ((given : D) × (back : D) × (h.now ≡ got_back back (gave_one address given h.before)))

module _ {D S K : Type 0} (links : D → Dealings (Unit {0}) S (Left S K)) (left : S → Option (List ℕ)) (faults : S → ℕ)
    (sink_faults : K → ℕ) where
  -- the host gave a door for this address, so many links were served at it, and it went back as they left it
  pub record IsLent (address : Address) (page_bytes number : ℕ) (host : Hosting D) : Type 0 where
    pub given : D
    pub back : D
    pub dealings : host.now ≡ got_back back (gave_one address given host.before)
    pub ears : List Ear
    pub served : IsServed left faults sink_faults page_bytes number (links given) (links back) ears

  -- what each end comes only with
  abbrev pub LendEnds : Address → ℕ → ℕ → Hosting D → Stream → LendEnd → Type 0
  LendEnds address page_bytes number host out end.Served =
      IsLent address page_bytes number host × Appends out.before out.now (served_line number)
  LendEnds address page_bytes number host out end.WriteFailed =
      IsLent address page_bytes number host × Failed out × AppendsFront out.before out.now (served_line number)
  LendEnds address page_bytes number host out end.HostFailed = HostFailed host × TookNothing out × WentBack address host
  LendEnds address page_bytes number host out end.NoMemory =
      TookNothing out × (GaveNothing host ⊎ WentBack address host)
