-- How playing a trace over what a host gives ends, and what it then read, wrote and did with the host.
use Rattle.std.specs.Prelude.{◌≡◌, ◌≤◌, ◌⊎◌, ℕ, List, length, Option, None, Some, Result, Ok, Err}
use Rattle.std.specs.Option.{option_map}
use Rattle.swap_io.specs.Causes.{WasReadWhole, Rose}
use Rattle.swap_disk.specs.MemDiskView as drive
use Rattle.swap_disk.specs.MemDiskView.{MemDiskView, new_drive, port_of}
use Rattle.swap_disk.specs.declared.port.DiskPort.{Ghosts as DiskMeaning}
use Rattle.swap_wire.specs.declared.fabric.Fabric.{Ghosts as FabricMeaning}
use Rattle.swap_link.specs.Harbor as harbor
use Rattle.swap_link.specs.Harbor.{Harbor, of_harbor, KeepsAt, OwesAt}
use Rattle.swap_script.specs.declared.ScriptRefused.{ScriptRefused}
use Rattle.swap_script.specs.declared.TheConstants.{TEXT_LIMIT}
use Rattle.swap_script.specs.Reading.{Script}
use Rattle.swap_trace.specs.Traces.{trace}
use Rattle.swap_world.specs.World.{new_harbor}
use Rattle.swap_sock.specs.Dealings.{Dealings, gave_one, gave_none, got_back}
use Rattle.swap_sock.specs.declared.address.Address.{Address}
use Rattle.swap_sock.specs.declared.host.Host.{Ghosts as HostMeaning}
use Rattle.swap_run.specs.Clause.{Stream, Failed, TookNothing, ReadBrokeOff, ReadTooMuch}
use Rattle.swap_run.specs.declared.Ending.{Ending}
use Rattle.swap_run.specs.declared.Ending.TheVariants as ending
use Rattle.swap_options.specs.Play.{Play}
use Rattle.swap_over.specs.Ends.{OverEnds}

-- the disk and the lenders in memory, as ports
abbrev pub memory_disk : DiskMeaning MemDiskView
memory_disk = record { means = port_of; moves = drive.Moves }

abbrev pub memory_links : FabricMeaning Harbor
memory_links = record {
  of = of_harbor;
  moves = harbor.Moves;
  fresh = harbor.IsFresh;
  keeps = KeepsAt;
  owes = OwesAt;
  answers = λ page given. page ≡ given;
}

-- a kind of port of a host over a call: what it was asked for, gave and got back
pub record Deals (N P : Type 0) : Type 0 where
  pub before : Dealings N P P
  pub now : Dealings N P P

abbrev pub deals : {N P : Type 0} → Dealings N P P → Dealings N P P → Deals N P
deals before now = record { before = before; now = now }

-- a host's disks, and its links to lenders, over a call; and its count of faults rose in it
module _ {H D F E S K : Type 0} (host : HostMeaning H D F E S K) (before now : H) where
  abbrev pub disks_of : Deals (List ℕ) D
  disks_of = deals (host.disks before) (host.disks now)

  abbrev pub nets_of : Deals (List Address) F
  nets_of = deals (host.nets before) (host.nets now)

  abbrev pub HostRose : Type 0
  HostRose = Rose (host.faults before) (host.faults now)

-- none was asked for
abbrev pub Unasked : {N P : Type 0} → Deals N P → Type 0
Unasked d = d.now ≡ d.before

-- one was asked for by this name, and given, and came back as this; or it was lost for want of memory
abbrev pub CameBack : {N P : Type 0} → N → P → Option P → Deals N P → Type 0
CameBack name given (Some back) d = d.now ≡ got_back back (gave_one name given d.before)
CameBack name given None d = d.now ≡ gave_one name given d.before

-- one was asked for by this name, and none was given: the host failed, or there was no memory
abbrev pub WasRefused : {N P : Type 0} → N → Deals N P → Type 0 → Ending → Type 0
WasRefused name d rose end = (d.now ≡ gave_none name d.before)
    × ((end ≡ ending.NoMemory) ⊎ ((end ≡ ending.HostFailed) × rose))

abbrev pub first_of_pair : {D F : Type 0} → Option (D × F) → Option D
first_of_pair back = option_map (λ b. b.0) back

abbrev pub second_of_pair : {D F : Type 0} → Option (D × F) → Option F
second_of_pair back = option_map (λ b. b.1) back

-- a trace over this disk and lenders in memory; or there was no memory for them
pub data OverHarbor {D : Type 0} (disk : DiskMeaning D) (t : Script) (number : ℕ) (given : D) (out : Stream)
    (end : Ending) (back : Option D) : Type 0 where
  played : (ports : Option (D × Harbor)) → OverEnds disk memory_links t number given
      (new_harbor t.sizes t.lenders) out end ports → back ≡ first_of_pair ports
      → OverHarbor disk t number given out end back
  unmade : end ≡ ending.NoMemory → back ≡ Some given → TookNothing out → OverHarbor disk t number given out end back

-- a trace over this disk and lenders at these addresses, which the host gave; or it gave none
pub data OverNet {D F : Type 0} (disk : DiskMeaning D) (net : FabricMeaning F) (t : Script) (number : ℕ) (given : D)
    (out : Stream) (addresses : List Address) (nets : Deals (List Address) F) (rose : Type 0) (end : Ending)
    (back : Option D) : Type 0 where
  played : (links : F) (ports : Option (D × F)) → OverEnds disk net t number given links out end ports
      → back ≡ first_of_pair ports → CameBack addresses links (second_of_pair ports) nets
      → OverNet disk net t number given out addresses nets rose end back
  withheld : WasRefused addresses nets rose end → back ≡ Some given → TookNothing out
      → OverNet disk net t number given out addresses nets rose end back
  unasked : Unasked nets → end ≡ ending.NoMemory → back ≡ Some given → TookNothing out
      → OverNet disk net t number given out addresses nets rose end back

module _ {F : Type 0} (net : FabricMeaning F) (t : Script) (number : ℕ) (out : Stream) (nets : Deals (List Address) F)
    (rose : Type 0) where
  -- over this disk, and lenders in memory where no addresses are given
  abbrev pub LinksEnd : {D : Type 0} → DiskMeaning D → D → Option (List Address) → Ending → Option D → Type 0
  LinksEnd disk given None end back = OverHarbor disk t number given out end back × Unasked nets
  LinksEnd disk given (Some addresses) end back = OverNet disk net t number given out addresses nets rose end back

-- over a disk in memory; or there was no memory for it
pub data OverMemory {F : Type 0} (net : FabricMeaning F) (t : Script) (number : ℕ) (out : Stream)
    (tcp : Option (List Address)) (nets : Deals (List Address) F) (rose : Type 0) (end : Ending) : Type 0 where
  played : (back : Option MemDiskView) → LinksEnd net t number out nets rose memory_disk (new_drive t.sizes) tcp end
      back
      → OverMemory net t number out tcp nets rose end
  unmade : end ≡ ending.NoMemory → TookNothing out → Unasked nets → OverMemory net t number out tcp nets rose end

-- over a disk at this path, which the host gave; or it gave none
pub data OverFile {D F : Type 0} (disk : DiskMeaning D) (net : FabricMeaning F) (t : Script) (number : ℕ) (out : Stream)
    (tcp : Option (List Address)) (disks : Deals (List ℕ) D) (nets : Deals (List Address) F) (rose : Type 0)
    (path : List ℕ) (end : Ending) : Type 0 where
  played : (given : D) (back : Option D) → LinksEnd net t number out nets rose disk given tcp end back
      → CameBack path given back disks → OverFile disk net t number out tcp disks nets rose path end
  withheld : WasRefused path disks rose end → TookNothing out → Unasked nets
      → OverFile disk net t number out tcp disks nets rose path end

-- the source was read to its end, and its text is a trace, over so many addresses where they are given
pub record ReadTraceOver (tcp : Option ℕ) (source : Stream) (t : Script) : Type 0 where
  pub text : List ℕ
  pub was_read : WasReadWhole source.before source.now text
  pub within : length text ≤ TEXT_LIMIT
  pub is_trace : trace tcp text ≡ Ok t

-- a text that is no such trace, whose first line at fault is this one
pub record ReadNoTraceOver (tcp : Option ℕ) (source : Stream) (refused : ScriptRefused) : Type 0 where
  pub text : List ℕ
  pub was_read : WasReadWhole source.before source.now text
  pub within : length text ≤ TEXT_LIMIT
  pub is_refused : trace tcp text ≡ Err refused

-- how many addresses are given
abbrev pub address_count : Play → Option ℕ
address_count o = option_map (λ addresses. length addresses) o.tcp

-- what a trace's options leave of it: a disk at a path where one is given, else in memory
module _ {D F : Type 0} (disk : DiskMeaning D) (net : FabricMeaning F) (o : Play) (out : Stream)
    (disks : Deals (List ℕ) D) (nets : Deals (List Address) F) (rose : Type 0) where
  abbrev pub DiskEnds : Script → Option (List ℕ) → Ending → Type 0
  DiskEnds t None end = OverMemory net t o.number out o.tcp nets rose end × Unasked disks
  DiskEnds t (Some path) end = OverFile disk net t o.number out o.tcp disks nets rose path end

  -- nothing was written, or asked of the host
  abbrev pub Untouched : Type 0
  Untouched = TookNothing out × Unasked disks × Unasked nets

  -- a text that was read as a trace and played, by how that ended
  pub record Played (source : Stream) (end : Ending) : Type 0 where
    pub trace_is : Script
    pub read : ReadTraceOver (address_count o) source trace_is
    pub ends : DiskEnds trace_is o.disk end

  -- what holds where a call ends so; memory may have been wanted before there was a trace
  abbrev pub HostedEnds : Stream → Ending → Type 0
  HostedEnds source ending.Done = Played source ending.Done
  HostedEnds source ending.Faulted = Played source ending.Faulted
  HostedEnds source ending.Usage = ⊥
  HostedEnds source ending.ReadFailed = ReadBrokeOff source × Untouched
  HostedEnds source ending.WriteFailed = Played source ending.WriteFailed
  HostedEnds source (ending.Refused refused) = ReadNoTraceOver (address_count o) source refused × Untouched
  HostedEnds source ending.NoMemory = Untouched ⊎ Played source ending.NoMemory
  HostedEnds source ending.NotLegal = ⊥
  HostedEnds source ending.HostFailed = Played source ending.HostFailed
  HostedEnds source ending.TooLong = ReadTooMuch source × Untouched

  -- what a text leaves
  abbrev pub TextEnds : Result Script ScriptRefused → Ending → Type 0
  TextEnds (Ok t) end = DiskEnds t o.disk end
  TextEnds (Err refused) (ending.Refused r) = (r ≡ refused) × Untouched
  TextEnds (Err refused) _ = ⊥

-- Where a trace for so many addresses is told and keeps the limit, and neither source, output nor host fails, the call
-- ends
-- with a played trace's transcript, or for want of memory.
abbrev pub HostedCompletes : {D F : Type 0} → DiskMeaning D → FabricMeaning F → Type 0
HostedCompletes {D} {F} disk net =
    (o : Play) (source out : Stream) (disks : Deals (List ℕ) D) (nets : Deals (List Address) F) (before after : ℕ)
    (end : Ending) (text : List ℕ) (t : Script)
    → HostedEnds disk net o out disks nets (Rose before after) source end → source.before ≡ Some text
    → length text ≤ TEXT_LIMIT → trace (address_count o) text ≡ Ok t
    → ¬ Failed source → ¬ Failed out → ¬ (Rose before after) → (end ≡ ending.Done)
    ⊎ ((end ≡ ending.Faulted) ⊎ (end ≡ ending.NoMemory))
