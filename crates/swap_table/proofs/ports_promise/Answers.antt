use Rattle.swap_table.proofs.ports_promise.Goals as goal

pub returns-clause-disk : goal.returns-clause-disk
returns-clause-disk g c = g.met.D.DiskPort.follows

pub returns-clause-fabric : goal.returns-clause-fabric
returns-clause-fabric g c =
    let f = g.met.F.Fabric in
    record {
      fresh_is_of = f.fresh_is_of;
      keep_of = f.moves_keep_of;
      write_is_kept = f.write_is_kept;
      kept_until = f.kept_until;
      new_link_owes_none = f.new_link_owes_none;
      read_is_owed = f.read_is_owed;
      page_was_owed = f.page_was_owed;
      page_answers = f.page_answers;
      owed_until = f.owed_until;
    }
