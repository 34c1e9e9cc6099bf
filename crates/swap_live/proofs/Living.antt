-- How a call ends, by what the words ask for.
use Rattle.std.proofs.Common.{◌≡◌, ◌⊎◌, ℕ, List, length, Option, None, Some, Ok, option_map, refl, sym, ap, ◌∙◌, subst, inl, inr}
use Rattle.std.specs.Io.KnownBytes.{Keeps}
use Rattle.swap_disk.specs.declared.port.DiskPort.{Ghosts as DiskMeaning}
use Rattle.swap_wire.specs.declared.fabric.Fabric.{Ghosts as FabricMeaning}
use Rattle.swap_sock.specs.Dealings.{Dealings, Left}
use Rattle.swap_sock.specs.declared.address.Address.{Address}
use Rattle.swap_trace.specs.Traces.{trace}
use Rattle.swap_options.specs.declared.lend.LendOptions.{LendOptions}
use Rattle.swap_options.specs.Play.{Play}
use Rattle.swap_run.specs.declared.Ending.{Ending}
use Rattle.swap_run.specs.declared.Ending.TheVariants as ending
use Rattle.swap_run.specs.Clause.{Stream, TookNothing, status_of}
use Rattle.swap_show.specs.Clause.{ShowsComplete}
use Rattle.swap_hosted.specs.Hosted.{HostedCompletes}
use Rattle.swap_live.specs.declared.LendEnd.TheVariants as end
use Rattle.swap_live.specs.Live.{Command, Dealt, AskedNothing, EndsAsLending, EndsAsPlaying, EndsOver, LiveEnds, PlaysComplete}

module _ {D F E : Type 0} (disk : DiskMeaning D) (net : FabricMeaning F) (o : Play) (source out : Stream) (host : Dealt D F E) where
  no_memory :
      (path : Option (List ℕ)) (tcp : Option (List Address)) → TookNothing out → AskedNothing host
      → EndsOver disk net o source out host ending.NoMemory path tcp
  no_memory None None none same = (none, same.0, same.1)
  no_memory None (Some list) none same = inl (none, same.0, same.1)
  no_memory (Some text) tcp none same = inl (none, same.0, same.1)

module _ {D F E S K : Type 0} (disk : DiskMeaning D) (net : FabricMeaning F) (links : E → Dealings (Unit {0}) S (Left S K)) (left : S → Option (List ℕ))
    (faults : S → ℕ) (sink_faults : K → ℕ) where
  pub lent :
      (command : Option Command) (o : LendOptions) (source out : Stream) (host : Dealt D F E) (e : Ending) → command ≡ Some (Command.lends o)
      → TookNothing source
      → EndsAsLending disk net links left faults sink_faults o out host e → LiveEnds disk net links left faults sink_faults command source out host e
  lent command o source out host e is kept ends =
      let P : Option Command → Type 0 = λ c. LiveEnds disk net links left faults sink_faults c source out host e in subst P (sym is) (kept, ends)

  pub played : (command : Option Command) (o : Play) (source out : Stream) (host : Dealt D F E) (e : Ending) → command ≡ Some (Command.plays o)
      → EndsAsPlaying disk net o source out host e → LiveEnds disk net links left faults sink_faults command source out host e
  played command o source out host e is ends =
      let P : Option Command → Type 0 = λ c. LiveEnds disk net links left faults sink_faults c source out host e in subst P (sym is) ends

  pub wanted : (command : Option Command) (source out : Stream) (host : Dealt D F E) → TookNothing source → TookNothing out → AskedNothing host
      → LiveEnds disk net links left faults sink_faults command source out host ending.NoMemory
  wanted None source out host kept none same = (kept, none, same)
  wanted (Some (Command.lends o)) source out host kept none same = (kept, ((end.NoMemory, refl, (none, inl same.2)), same.0, same.1))
  wanted (Some (Command.plays o)) source out host kept none same = (no_memory disk net o source out host o.disk o.tcp none same, same.2)

  pub plays_complete : ShowsComplete → HostedCompletes disk net → PlaysComplete disk net links left faults sink_faults
  plays_complete shows hosts o source out err host status text t ended told fits is no_fault no_write no_rise =
      by_end (which o.disk o.tcp refl refl ended.holds.0)
    where
      which : (path : Option (List ℕ)) (tcp : Option (List Address)) → o.disk ≡ path → o.tcp ≡ tcp → EndsOver disk net o source out host ended.end path tcp
          → (ended.end ≡ ending.Done) ⊎ ((ended.end ≡ ending.Faulted) ⊎ (ended.end ≡ ending.NoMemory))
      which None None no_path no_tcp h =
          let P : Option (List Address) → Type 0 = λ l. trace (option_map (λ addresses. length addresses) l) text ≡ Ok t in
          shows o.number source out ended.end text t h.0 told fits (subst P no_tcp is) no_fault no_write
      which (Some path) tcp given_path given_tcp h =
          hosts o source out host.disks host.nets host.doors.faults_before host.doors.faults_now ended.end text t h told fits is no_fault no_write no_rise
      which None (Some tcp) no_path given_tcp h =
          hosts o source out host.disks host.nets host.doors.faults_before host.doors.faults_now ended.end text t h told fits is no_fault no_write no_rise

      by_end : (ended.end ≡ ending.Done) ⊎ ((ended.end ≡ ending.Faulted) ⊎ (ended.end ≡ ending.NoMemory)) → (status ≡ 0) ⊎ ((status ≡ 1) ⊎ (status ≡ 6))
      by_end (inl e) = inl (ended.code ∙ ap status_of e)
      by_end (inr (inl e)) = inr (inl (ended.code ∙ ap status_of e))
      by_end (inr (inr e)) = inr (inr (ended.code ∙ ap status_of e))
