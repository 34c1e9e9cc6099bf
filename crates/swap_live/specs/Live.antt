-- What a call of a command that may wait promises: how it ends, and what it then read, wrote and did with its host.
use Rattle.std.specs.Prelude.{◌≡◌, ◌≤◌, ℕ, ◌⊎◌, true, if◌then◌else◌, List, [], ◌∷◌, length, codes, Option, None, Some, option_map, Ok}
use Rattle.std.specs.Prelude.{IfSome}
use Rattle.swap_disk.specs.declared.port.DiskPort.{Ghosts as DiskMeaning}
use Rattle.swap_wire.specs.declared.fabric.Fabric.{Ghosts as FabricMeaning}
use Rattle.swap_script.specs.declared.TheConstants.{TEXT_LIMIT}
use Rattle.swap_script.specs.Lines.{is_word}
use Rattle.swap_script.specs.Reading.{Script}
use Rattle.swap_trace.specs.Traces.{trace}
use Rattle.swap_sock.specs.declared.address.Address.{Address}
use Rattle.swap_sock.specs.declared.host.Host.{Ghosts as HostMeaning}
use Rattle.swap_sock.specs.Dealings.{Dealings, Left}
use Rattle.swap_options.specs.declared.lend.LendOptions.{LendOptions}
use Rattle.swap_options.specs.Lend.{keeps_limits, lend_options}
use Rattle.swap_options.specs.Play.{Play, play_asked, play_options}
use Rattle.swap_run.specs.declared.Ending.{Ending}
use Rattle.swap_run.specs.declared.Ending.TheVariants as ending
use Rattle.swap_run.specs.Clause.{Stream, Failed, TookNothing, Told, status_of, err_text}
use Rattle.swap_live.specs.declared.LendEnd.{LendEnd}
use Rattle.swap_live.specs.declared.LendEnd.TheVariants as end
use Rattle.swap_live.specs.declared.live.LiveCommand.{LiveCommand}
use Rattle.swap_live.specs.declared.live.LiveCommand.TheVariants as live
use Rattle.swap_live.specs.Lending.{Hosting, HostFailed, GaveNothing, LendEnds, hosting}
use Rattle.swap_show.specs.Clause.{ShowEnds}
use Rattle.swap_hosted.specs.Hosted.{Deals, Unasked, HostedEnds, disks_of, nets_of, address_count}
use Rattle.swap_base.specs.declared.TheConstants.{MOST_LENDERS}

-- what words ask for: to lend, or to play
pub data Command : Type 0 where
  lends : LendOptions → Command
  plays : Play → Command

abbrev pub command_is : LiveCommand → Command
command_is (live.Lend options) = Command.lends options
command_is (live.Play options) = Command.plays (play_asked options)

-- what the words ask for, where they are a form of words
abbrev pub command_of : List (List ℕ) → Option Command
command_of [] = None
command_of (word ∷ words) =
    if is_word (codes "lend") word then option_map Command.lends (lend_options words) else
    (if is_word (codes "play") word then option_map Command.plays (play_options words) else None)

-- its numbers keep their limits
abbrev pub KeepsLimits : LiveCommand → Type 0
KeepsLimits (live.Lend options) = keeps_limits options ≡ true
KeepsLimits (live.Play options) = IfSome options.tcp (λ lenders. length lenders.items ≤ MOST_LENDERS)

-- how the program ends where lending does
abbrev pub ending_of : LendEnd → Ending
ending_of end.Served = ending.Done
ending_of end.WriteFailed = ending.WriteFailed
ending_of end.HostFailed = ending.HostFailed
ending_of end.NoMemory = ending.NoMemory

-- a host over a call: the disks, the links and the doors that it was asked for, gave and got back, and its count of
-- faults
pub record Dealt (D F E : Type 0) : Type 0 where
  pub disks : Deals (List ℕ) D
  pub nets : Deals (List Address) F
  pub doors : Hosting E

abbrev pub host_dealt : {H D F E S K : Type 0} → HostMeaning H D F E S K → H → H → Dealt D F E
host_dealt host before now =
    record { disks = disks_of host before now; nets = nets_of host before now; doors = hosting host before now }

-- it was asked for nothing
abbrev pub AskedNothing : {D F E : Type 0} → Dealt D F E → Type 0
AskedNothing host = Unasked host.disks × Unasked host.nets × GaveNothing host.doors

abbrev pub HasFailed : {D F E : Type 0} → Dealt D F E → Type 0
HasFailed host = HostFailed host.doors

-- nothing was read, written, or asked of the host
abbrev pub IsUntouched : {D F E : Type 0} → Stream → Stream → Dealt D F E → Type 0
IsUntouched source out host = TookNothing source × TookNothing out × AskedNothing host

module _ {D F : Type 0} (disk : DiskMeaning D) (net : FabricMeaning F) {E : Type 0} (o : Play) (source out : Stream)
    (host : Dealt D F E) (e : Ending) where
  -- what a trace is played over, by the path and the addresses: in memory where neither is given, which has the whole
  -- headline; else over what the host gave
  abbrev pub EndsOver : Option (List ℕ) → Option (List Address) → Type 0
  EndsOver None None = ShowEnds o.number source out e × Unasked host.disks × Unasked host.nets
  EndsOver (Some path) tcp = HostedEnds disk net o out host.disks host.nets (HasFailed host) source e
  EndsOver None (Some addresses) = HostedEnds disk net o out host.disks host.nets (HasFailed host) source e

  -- the call ends as playing by these options does; no door was asked for
  abbrev pub EndsAsPlaying : Type 0
  EndsAsPlaying = EndsOver o.disk o.tcp × GaveNothing host.doors

module _ {D F : Type 0} (disk : DiskMeaning D) (net : FabricMeaning F) {E S K : Type 0}
    (links : E → Dealings (Unit {0}) S (Left S K)) (left : S → Option (List ℕ)) (faults : S → ℕ)
    (sink_faults : K → ℕ) where
  -- the call ends as lending by these options does; nothing but a door was asked for
  abbrev pub EndsAsLending : LendOptions → Stream → Dealt D F E → Ending → Type 0
  EndsAsLending o out host e =
      ((lent : LendEnd) × (e ≡ ending_of lent)
      × LendEnds links left faults sink_faults o.listen o.page_bytes o.links host.doors out lent)
      × Unasked host.disks × Unasked host.nets

  -- words that are no form are answered by Usage, or for want of memory to read them
  abbrev pub LiveEnds : Option Command → Stream → Stream → Dealt D F E → Ending → Type 0
  LiveEnds None source out host ending.Usage = IsUntouched source out host
  LiveEnds None source out host ending.NoMemory = IsUntouched source out host
  LiveEnds None source out host _ = ⊥
  LiveEnds (Some (Command.lends options)) source out host e = TookNothing source × EndsAsLending options out host e
  LiveEnds (Some (Command.plays options)) source out host e = EndsAsPlaying disk net options source out host e

  pub record LiveEndsWith (command : Option Command) (source out err : Stream) (host : Dealt D F E)
      (status : ℕ) : Type 0 where
    pub end : Ending
    pub holds : LiveEnds command source out host end
    pub code : status ≡ status_of end
    pub told : Told err (err_text end)

  -- where the words lend and neither output nor host fails, the status is 0, or 6 for want of memory
  abbrev pub LendsComplete : Type 0
  LendsComplete =
      (options : LendOptions) (source out err : Stream) (host : Dealt D F E) (status : ℕ)
      → LiveEndsWith (Some (Command.lends options)) source out err host status → ¬ Failed out → ¬ HasFailed host
      → (status ≡ 0) ⊎ (status ≡ 6)

  -- where the words play, a trace for so many addresses is told and keeps the limit, and neither source, output nor
  -- host
  -- fails, the status is 0, 1 where a call failed, or 6 for want of memory
  abbrev pub PlaysComplete : Type 0
  PlaysComplete =
      (o : Play) (source out err : Stream) (host : Dealt D F E) (status : ℕ) (text : List ℕ) (t : Script)
      → LiveEndsWith (Some (Command.plays o)) source out err host status → source.before ≡ Some text
      → length text ≤ TEXT_LIMIT → trace (address_count o) text ≡ Ok t
      → ¬ Failed source → ¬ Failed out → ¬ HasFailed host → (status ≡ 0) ⊎ ((status ≡ 1) ⊎ (status ≡ 6))
