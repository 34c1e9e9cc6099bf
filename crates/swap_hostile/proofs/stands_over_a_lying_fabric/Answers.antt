use Rattle.swap_hostile.proofs.stands_over_a_lying_fabric.Goals as goal

pub returns : goal.returns
returns g c =
    λ s n first first_fabric made d k f blank is_of few run.
    c.over_any_ports.ensures s n first first_fabric made d k f (record { blank = blank; is_of = is_of; few = few }) run
