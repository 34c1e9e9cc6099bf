-- What comes back of the ports of one side.
use Rattle.std.proofs.Common.{◌≡◌, ◌⊎◌, ℕ, List, refl, sym, ap, ◌∙◌, subst, inl, inr, arith, ◌≤◌, length, Option, None, Some, Result, Ok, Err}
use Rattle.swap_disk.specs.declared.port.DiskPort.{Ghosts as DiskMeaning}
use Rattle.swap_wire.specs.declared.fabric.Fabric.{Ghosts as FabricMeaning}
use Rattle.swap_link.specs.Harbor.{Harbor}
use Rattle.swap_script.specs.Reading.{Script}
use Rattle.swap_world.specs.World.{new_harbor}
use Rattle.swap_sock.specs.Dealings.{gave_one, got_back}
use Rattle.swap_sock.specs.declared.address.Address.{Address}
use Rattle.swap_io.specs.Causes.{Rose, WasReadWhole}
use Rattle.swap_script.specs.declared.ScriptRefused.{ScriptRefused}
use Rattle.swap_script.specs.declared.TheConstants.{TEXT_LIMIT}
use Rattle.swap_trace.specs.Traces.{trace}
use Rattle.swap_options.specs.Play.{Play}
use Rattle.swap_run.specs.declared.Ending.TheVariants as ending
use Rattle.swap_run.specs.Clause.{Stream, Failed}
use Rattle.swap_run.specs.declared.Ending.{Ending}
use Rattle.swap_run.proofs.ReadText.{read_whole_is, read_length}
use Rattle.swap_over.specs.Ends.{OverEnds}
use Rattle.swap_disk.specs.MemDiskView.{MemDiskView, new_drive}
use Rattle.swap_hosted.specs.Hosted.{Deals, Unasked, OverHarbor, OverNet, OverMemory, OverFile, LinksEnd, WasRefused, DiskEnds, TextEnds, HostedEnds, ReadTraceOver, HostedCompletes, address_count, memory_disk, memory_links, first_of_pair}

module _ {D : Type 0} (disk : DiskMeaning D) where
  pub over_memory_links :
      (t : Script) (number : ℕ) (given : D) (h : Harbor) (out : Stream) (end : Ending) (ports : Option (D × Harbor)) (back : Option D)
      → h ≡ new_harbor t.sizes t.lenders → OverEnds disk memory_links t number given h out end ports → back ≡ first_of_pair ports
      → OverHarbor disk t number given out end back
  over_memory_links t number given h out end ports back is ends firsts_are =
      let P : Harbor → Type 0 = λ x. OverEnds disk memory_links t number given x out end ports in
      OverHarbor.played ports (subst P is ends) firsts_are

module _ {D F : Type 0} (disk : DiskMeaning D) (net : FabricMeaning F) where
  pub came_back :
      (t : Script) (number : ℕ) (given : D) (out : Stream) (addresses : List Address) (nets : Deals (List Address) F) (rose : Type 0) (end : Ending) (links : F)
      (ports : Option (D × F)) (d : D) (n : F)
      → OverEnds disk net t number given links out end ports → ports ≡ Some (d, n) → nets.now ≡ got_back n (gave_one addresses links nets.before)
      → OverNet disk net t number given out addresses nets rose end (Some d)
  came_back t number given out addresses nets rose end links ports d n ends is dealt =
      let P : Option (D × F) → Type 0 = λ x. OverEnds disk net t number given links out end x in
      OverNet.played links (Some (d, n)) (subst P is ends) refl dealt

  pub was_lost :
      (t : Script) (number : ℕ) (given : D) (out : Stream) (addresses : List Address) (nets : Deals (List Address) F) (rose : Type 0) (end : Ending) (links : F)
      (ports : Option (D × F))
      → OverEnds disk net t number given links out end ports → ports ≡ None → nets.now ≡ gave_one addresses links nets.before
      → OverNet disk net t number given out addresses nets rose end None
  was_lost t number given out addresses nets rose end links ports ends is dealt =
      let P : Option (D × F) → Type 0 = λ x. OverEnds disk net t number given links out end x in
      OverNet.played links None (subst P is ends) refl dealt

module _ {F : Type 0} (net : FabricMeaning F) (t : Script) (number : ℕ) (out : Stream) where
  pub links_none :
      {D : Type 0} (nets : Deals (List Address) F) (rose : Type 0) (disk : DiskMeaning D) (given : D) (tcp : Option (List Address)) (end : Ending)
      (back : Option D)
      → tcp ≡ None → OverHarbor disk t number given out end back → Unasked nets → LinksEnd net t number out nets rose disk given tcp end back
  links_none nets rose disk given None end back is over none = (over, none)
  links_none nets rose disk given (Some addresses) end back is over none = cc

  pub links_some :
      {D : Type 0} (nets : Deals (List Address) F) (rose : Type 0) (disk : DiskMeaning D) (given : D) (tcp : Option (List Address)) (addresses : List Address)
      (end : Ending) (back : Option D)
      → tcp ≡ Some addresses → OverNet disk net t number given out addresses nets rose end back → LinksEnd net t number out nets rose disk given tcp end back
  links_some nets rose disk given None addresses end back is over = cc
  links_some {D} nets rose disk given (Some others) addresses end back is over =
      let same : addresses ≡ others = cc in
      let P : List Address → Type 0 = λ l. OverNet disk net t number given out l nets rose end back in
      subst P same over

  rose_wider :
      {D : Type 0} (disk : DiskMeaning D) (given : D) (addresses : List Address) (nets : Deals (List Address) F) (rose wider : Type 0) (end : Ending)
      (back : Option D)
      → (rose → wider) → OverNet disk net t number given out addresses nets rose end back → OverNet disk net t number given out addresses nets wider end back
  rose_wider disk given addresses nets rose wider end back more (OverNet.played links ports ends firsts_are dealt) =
      OverNet.played links ports ends firsts_are dealt
  rose_wider disk given addresses nets rose wider end back more (OverNet.withheld (none, inl memory) same nothing) =
      OverNet.withheld (none, inl memory) same nothing
  rose_wider disk given addresses nets rose wider end back more (OverNet.withheld (none, inr (failed, r)) same nothing) =
      OverNet.withheld (none, inr (failed, more r)) same nothing
  rose_wider disk given addresses nets rose wider end back more (OverNet.unasked none memory same nothing) = OverNet.unasked none memory same nothing

  -- what was dealt of the links and the host's count, seen over more than they were
  pub links_wider :
      {D : Type 0} (nets all : Deals (List Address) F) (rose wider : Type 0) (disk : DiskMeaning D) (given : D) (tcp : Option (List Address)) (end : Ending)
      (back : Option D)
      → nets ≡ all → (rose → wider) → LinksEnd net t number out nets rose disk given tcp end back → LinksEnd net t number out all wider disk given tcp end back
  links_wider nets all rose wider disk given None end back same more (over, none) = (over, subst Unasked same none)
  links_wider nets all rose wider disk given (Some addresses) end back same more over =
      let P : Deals (List Address) F → Type 0 = λ n. OverNet disk net t number given out addresses n wider end back in
      subst P same (rose_wider disk given addresses nets rose wider end back more over)

  pub over_drive :
      (nets : Deals (List Address) F) (rose : Type 0) (given : MemDiskView) (tcp : Option (List Address)) (end : Ending) (back : Option MemDiskView)
      → given ≡ new_drive t.sizes → LinksEnd net t number out nets rose memory_disk given tcp end back → OverMemory net t number out tcp nets rose end
  over_drive nets rose given tcp end back is links =
      let P : MemDiskView → Type 0 = λ k. LinksEnd net t number out nets rose memory_disk k tcp end back in
      OverMemory.played back (subst P is links)

  pub file_back :
      {D : Type 0} (disk : DiskMeaning D) (path : List ℕ) (disks : Deals (List ℕ) D) (nets : Deals (List Address) F) (rose : Type 0) (given d : D)
      (tcp : Option (List Address)) (end : Ending) (back : Option D)
      → back ≡ Some d → disks.now ≡ got_back d (gave_one path given disks.before) → LinksEnd net t number out nets rose disk given tcp end back
      → OverFile disk net t number out tcp disks nets rose path end
  file_back {D} disk path disks nets rose given d tcp end back is dealt links =
      let P : Option D → Type 0 = λ (b : Option D). LinksEnd net t number out nets rose disk given tcp end b in
      OverFile.played given (Some d) (subst P is links) dealt

  pub file_lost :
      {D : Type 0} (disk : DiskMeaning D) (path : List ℕ) (disks : Deals (List ℕ) D) (nets : Deals (List Address) F) (rose : Type 0) (given : D)
      (tcp : Option (List Address)) (end : Ending) (back : Option D)
      → back ≡ None → disks.now ≡ gave_one path given disks.before → LinksEnd net t number out nets rose disk given tcp end back
      → OverFile disk net t number out tcp disks nets rose path end
  file_lost {D} disk path disks nets rose given tcp end back is dealt links =
      let P : Option D → Type 0 = λ (b : Option D). LinksEnd net t number out nets rose disk given tcp end b in
      OverFile.played given None (subst P is links) dealt

-- a count that rose within a call rose over the whole of it
pub rose_over : (a b c d : ℕ) → a ≤ b → c ≤ d → Rose b c → Rose a d
rose_over a b c d first last rose = omega (arith, first, last, rose)

-- what an end of playing over ports comes only with: a write that failed, or a fault of the host
abbrev pub IsCaused : Type 0 → Type 0 → Ending → Type 0
IsCaused failed rose ending.Done = Unit {0}
IsCaused failed rose ending.Faulted = Unit {0}
IsCaused failed rose ending.WriteFailed = failed
IsCaused failed rose ending.HostFailed = rose
IsCaused failed rose ending.NoMemory = Unit {0}
IsCaused failed rose _ = ⊥

over_so :
    {D F : Type 0} (disk : DiskMeaning D) (net : FabricMeaning F) (t : Script) (number : ℕ) (given : D) (links : F) (out : Stream) (rose : Type 0)
    (end : Ending)
    (ports : Option (D × F))
    → OverEnds disk net t number given links out end ports → IsCaused (Failed out) rose end
over_so disk net t number given links out rose ending.Done ports ends = tt
over_so disk net t number given links out rose ending.Faulted ports ends = tt
over_so disk net t number given links out rose ending.WriteFailed (Some back) ends = ends.failed
over_so disk net t number given links out rose ending.WriteFailed None ends = absurd ends
over_so disk net t number given links out rose ending.HostFailed ports ends = absurd ends
over_so disk net t number given links out rose ending.NoMemory ports ends = tt
over_so disk net t number given links out rose ending.Usage ports ends = absurd ends
over_so disk net t number given links out rose ending.ReadFailed ports ends = absurd ends
over_so disk net t number given links out rose (ending.Refused r) ports ends = absurd ends
over_so disk net t number given links out rose ending.NotLegal ports ends = absurd ends
over_so disk net t number given links out rose ending.TooLong ports ends = absurd ends

no_memory : (failed rose : Type 0) (end : Ending) → end ≡ ending.NoMemory → IsCaused failed rose end
no_memory failed rose end is = subst (IsCaused failed rose) (sym is) tt

withheld_so : {N P : Type 0} (failed : Type 0) (name : N) (d : Deals N P) (rose : Type 0) (end : Ending) → WasRefused name d rose end → IsCaused failed rose end
withheld_so failed name d rose end (none, inl memory) = no_memory failed rose end memory
withheld_so failed name d rose end (none, inr (is, r)) = subst (IsCaused failed rose) (sym is) r

harbor_so :
    {D : Type 0} (disk : DiskMeaning D) (t : Script) (number : ℕ) (given : D) (out : Stream) (rose : Type 0) (end : Ending) (back : Option D)
    → OverHarbor disk t number given out end back → IsCaused (Failed out) rose end
harbor_so disk t number given out rose end back (OverHarbor.played ports ends firsts_are) =
    over_so disk memory_links t number given (new_harbor t.sizes t.lenders) out rose end ports ends
harbor_so disk t number given out rose end back (OverHarbor.unmade memory same nothing) = no_memory (Failed out) rose end memory

net_so :
    {D F : Type 0} (disk : DiskMeaning D) (net : FabricMeaning F) (t : Script) (number : ℕ) (given : D) (out : Stream) (addresses : List Address)
    (nets : Deals (List Address) F) (rose : Type 0) (end : Ending) (back : Option D)
    → OverNet disk net t number given out addresses nets rose end back → IsCaused (Failed out) rose end
net_so disk net t number given out addresses nets rose end back (OverNet.played links ports ends firsts_are dealt) =
    over_so disk net t number given links out rose end ports ends
net_so disk net t number given out addresses nets rose end back (OverNet.withheld was same nothing) = withheld_so (Failed out) addresses nets rose end was
net_so disk net t number given out addresses nets rose end back (OverNet.unasked none memory same nothing) = no_memory (Failed out) rose end memory

links_so :
    {D F : Type 0} (disk : DiskMeaning D) (net : FabricMeaning F) (t : Script) (number : ℕ) (given : D) (out : Stream) (tcp : Option (List Address))
    (nets : Deals (List Address) F) (rose : Type 0) (end : Ending) (back : Option D)
    → LinksEnd net t number out nets rose disk given tcp end back → IsCaused (Failed out) rose end
links_so disk net t number given out None nets rose end back links = harbor_so disk t number given out rose end back links.0
links_so disk net t number given out (Some addresses) nets rose end back links = net_so disk net t number given out addresses nets rose end back links

module _ {D F : Type 0} (disk : DiskMeaning D) (net : FabricMeaning F) (o : Play) (out : Stream) (disks : Deals (List ℕ) D) (nets : Deals (List Address) F)
    (rose : Type 0) (t : Script) where
  pub in_memory :
      (tcp : Option (List Address)) (path : Option (List ℕ)) (end : Ending) → path ≡ None → tcp ≡ o.tcp → OverMemory net t o.number out tcp nets rose end
      → Unasked disks → DiskEnds disk net o out disks nets rose t path end
  in_memory tcp None end is same over none =
      let P : Option (List Address) → Type 0 = λ x. OverMemory net t o.number out x nets rose end in (subst P same over, none)
  in_memory tcp (Some path) end is same over none = cc

  pub in_file :
      (tcp : Option (List Address)) (path : Option (List ℕ)) (at : List ℕ) (end : Ending) → path ≡ Some at → tcp ≡ o.tcp
      → OverFile disk net t o.number out tcp disks nets rose at end → DiskEnds disk net o out disks nets rose t path end
  in_file tcp None at end is same over = cc
  in_file tcp (Some path) at end is same over =
      let there : at ≡ path = cc in
      let P : Option (List Address) → Type 0 = λ x. OverFile disk net t o.number out x disks nets rose path end in
      let Q : List ℕ → Type 0 = λ x. OverFile disk net t o.number out tcp disks nets rose x end in
      subst P same (subst Q there over)

  memory_so : (end : Ending) → OverMemory net t o.number out o.tcp nets rose end → IsCaused (Failed out) rose end
  memory_so end (OverMemory.played back links) = links_so memory_disk net t o.number (new_drive t.sizes) out o.tcp nets rose end back links
  memory_so end (OverMemory.unmade memory nothing none) = no_memory (Failed out) rose end memory

  file_so : (path : List ℕ) (end : Ending) → OverFile disk net t o.number out o.tcp disks nets rose path end → IsCaused (Failed out) rose end
  file_so path end (OverFile.played given back links dealt) = links_so disk net t o.number given out o.tcp nets rose end back links
  file_so path end (OverFile.withheld was nothing none) = withheld_so (Failed out) path disks rose end was

  pub disk_so : (path : Option (List ℕ)) (end : Ending) → DiskEnds disk net o out disks nets rose t path end → IsCaused (Failed out) rose end
  disk_so None end over = memory_so end over.0
  disk_so (Some path) end over = file_so path end over

module _ {D F : Type 0} (disk : DiskMeaning D) (net : FabricMeaning F) (o : Play) (out : Stream) (disks : Deals (List ℕ) D) (nets : Deals (List Address) F)
    (rose : Type 0) where
  -- a text that was read whole, and how its playing ended
  pub hosted_ends :
      (source : Stream) (text : List ℕ) (end : Ending) → WasReadWhole source.before source.now text → length text ≤ TEXT_LIMIT
      → TextEnds disk net o out disks nets rose (trace (address_count o) text) end → HostedEnds disk net o out disks nets rose source end
  hosted_ends source text end read within h = go (trace (address_count o) text) end refl h
    where
      reads : (t : Script) → trace (address_count o) text ≡ Ok t → ReadTraceOver (address_count o) source t
      reads t e = record { text = text; was_read = read; within = within; is_trace = e }

      go :
          (r : Result Script ScriptRefused) (end : Ending) → trace (address_count o) text ≡ r → TextEnds disk net o out disks nets rose r end
          → HostedEnds disk net o out disks nets rose source end
      go (Ok t) ending.Done e h = record { trace_is = t; read = reads t e; ends = h }
      go (Ok t) ending.Faulted e h = record { trace_is = t; read = reads t e; ends = h }
      go (Ok t) ending.WriteFailed e h = record { trace_is = t; read = reads t e; ends = h }
      go (Ok t) ending.HostFailed e h = record { trace_is = t; read = reads t e; ends = h }
      go (Ok t) ending.NoMemory e h = inr (record { trace_is = t; read = reads t e; ends = h })
      go (Ok t) ending.Usage e h = absurd (disk_so disk net o out disks nets rose t o.disk ending.Usage h)
      go (Ok t) ending.ReadFailed e h = absurd (disk_so disk net o out disks nets rose t o.disk ending.ReadFailed h)
      go (Ok t) (ending.Refused r) e h = absurd (disk_so disk net o out disks nets rose t o.disk (ending.Refused r) h)
      go (Ok t) ending.NotLegal e h = absurd (disk_so disk net o out disks nets rose t o.disk ending.NotLegal h)
      go (Ok t) ending.TooLong e h = absurd (disk_so disk net o out disks nets rose t o.disk ending.TooLong h)
      go (Err refused) (ending.Refused r) e h = (record { text = text; was_read = read; within = within; is_refused = e ∙ ap Err (sym h.0) }, h.1)
      go (Err refused) ending.Done e h = absurd h
      go (Err refused) ending.Faulted e h = absurd h
      go (Err refused) ending.Usage e h = absurd h
      go (Err refused) ending.ReadFailed e h = absurd h
      go (Err refused) ending.WriteFailed e h = absurd h
      go (Err refused) ending.NoMemory e h = absurd h
      go (Err refused) ending.NotLegal e h = absurd h
      go (Err refused) ending.HostFailed e h = absurd h
      go (Err refused) ending.TooLong e h = absurd h

not_both : (tcp : Option ℕ) (text : List ℕ) (t : Script) (refused : ScriptRefused) → trace tcp text ≡ Ok t → trace tcp text ≡ Err refused → ⊥
not_both tcp text t refused a b = cc

pub completes : {D F : Type 0} (disk : DiskMeaning D) (net : FabricMeaning F) → HostedCompletes disk net
completes {D} {F} disk net o source out disks nets before after end text t h told fits is no_fault no_write no_rise = go end h
  where
    go :
        (end : Ending) → HostedEnds disk net o out disks nets (Rose before after) source end
        → (end ≡ ending.Done) ⊎ ((end ≡ ending.Faulted) ⊎ (end ≡ ending.NoMemory))
    go ending.Done h = inl refl
    go ending.Faulted h = inr (inl refl)
    go ending.Usage h = absurd h
    go ending.ReadFailed h = absurd (no_fault h.0.failed)
    go ending.WriteFailed h = absurd (no_write (disk_so disk net o out disks nets (Rose before after) h.trace_is o.disk ending.WriteFailed h.ends))
    go (ending.Refused refused) h =
        let P : List ℕ → Type 0 = λ x. trace (address_count o) x ≡ Err refused in
        absurd (not_both (address_count o) text t refused is (subst P (sym (read_whole_is source.before source.now text h.0.text told h.0.was_read))
        h.0.is_refused))
    go ending.NoMemory h = inr (inr refl)
    go ending.NotLegal h = absurd h
    go ending.HostFailed h = absurd (no_rise (disk_so disk net o out disks nets (Rose before after) h.trace_is o.disk ending.HostFailed h.ends))
    go ending.TooLong h = let longer = read_length source.before source.now text h.0.bytes told h.0.was_read in absurd (omega (arith, longer, h.0.too_long))
