-- By computation.
use Rattle.std.proofs.Common.{◌≡◌, ℕ, Bool, true, false, List, [], ◌∷◌, refl, sym, ap, lit<, lit≤, Option, None, Some}
use Rattle.std.specs.Prelude.{◌==◌}
use Rattle.swap_base.specs.declared.Slab.{Slab}
use Rattle.swap_newest.specs.Rows.{sizes, page, slab, lender, spec, revoke_events, lost_events, unread_events, read_behind_events, given_up}
use Rattle.swap_choice.specs.Slots.{slots}
use Rattle.swap_choice.specs.Least.{least_of, rank}
use Rattle.swap_world.specs.Laws.{AreInputs}
use Rattle.swap_newest.proofs.Memory.{always_lent}
use Rattle.swap_newest.proofs.rows.Goals as goal

abbrev first_byte : Option (List ℕ) → ℕ
first_byte None = 0
first_byte (Some []) = 0
first_byte (Some (b ∷ bs)) = b

pub returns-clause-at_a_lender : goal.returns-clause-at_a_lender
returns-clause-at_a_lender c = (refl, refl, refl)

pub returns-clause-follows : goal.returns-clause-follows
returns-clause-follows c = refl

pub returns-clause-cut : goal.returns-clause-cut
returns-clause-cut c = (refl, refl)

no_truth : true ≡ false → ⊥
no_truth e = cc

abbrev is_old : ℕ → Bool
is_old b = b == 170

abbrev is_first : ℕ → Bool
is_first i = i == 0

abbrev is_there : Option (Slab × Bool) → Bool
is_there None = false
is_there (Some x) = true

pub returns-clause-newest_fails : goal.returns-clause-newest_fails
returns-clause-newest_fails c = (λ newest. no_truth (ap (λ o. is_old (first_byte o)) (newest page refl).1.0), λ newest. no_truth (newest page refl).1.2)

pub returns-clause-owned_fails : goal.returns-clause-owned_fails
returns-clause-owned_fails c = (
  λ owned. no_truth (ap is_first ((owned.slots lender (lit< tt)).slots.slabs 0 1 _ _ refl refl refl refl)),
  λ owned. no_truth (sym (ap is_there (owned.slabs slab (lit< tt)).1)),
)

-- the events of a row name what there is

revoked_fine : AreInputs sizes (spec 3 1 0 ∷ []) revoke_events
revoked_fine = (
  (lit< tt, tt),
  (
    ((lit< tt, lit< tt), tt),
    (
      (lit< tt, tt),
      (
        (lit< tt, tt),
        (
          (lit< tt, tt),
          (
            ((lit< tt, lit< tt), refl),
            (
              (lit< tt, tt),
              (
                (lit< tt, tt),
                (
                  (tt, tt),
                  (
                    (lit< tt, tt),
                    (
                      (lit< tt, tt),
                      (
                        (lit< tt, tt),
                        (
                          (lit< tt, tt),
                          (
                            ((lit< tt, lit< tt), tt),
                            (
                              ((lit< tt, lit< tt), refl),
                              (
                                (lit< tt, tt),
                                (
                                  (lit< tt, tt),
                                  (
                                    (lit< tt, tt),
                                    (
                                      (lit< tt, tt),
                                      (
                                        (lit< tt, tt),
                                        (
                                          (lit< tt, tt),
                                          (
                                            (lit< tt, tt),
                                            (
                                              (lit< tt, tt),
                                              (
                                                (lit< tt, tt),
                                                (
                                                  ((lit< tt, lit< tt), tt),
                                                  (
                                                    (lit< tt, tt),
                                                    (
                                                      (lit< tt, tt),
                                                      (
                                                        (lit< tt, tt),
                                                        (
                                                          (lit< tt, tt),
                                                          (
                                                            (lit< tt, tt),
                                                            (
                                                              (lit< tt, tt),
                                                              (((lit< tt, lit< tt), tt), ((lit< tt, tt), ((lit< tt, tt), tt))),
                                                            ),
                                                          ),
                                                        ),
                                                      ),
                                                    ),
                                                  ),
                                                ),
                                              ),
                                            ),
                                          ),
                                        ),
                                      ),
                                    ),
                                  ),
                                ),
                              ),
                            ),
                          ),
                        ),
                      ),
                    ),
                  ),
                ),
              ),
            ),
          ),
        ),
      ),
    ),
  ),
)

lost_fine : AreInputs sizes (spec 4 1 1 ∷ []) lost_events
lost_fine = (
  (lit< tt, tt),
  (
    ((lit< tt, lit< tt), tt),
    (
      (lit< tt, tt),
      (
        (lit< tt, tt),
        (
          (lit< tt, tt),
          (
            ((lit< tt, lit< tt), refl),
            (
              (lit< tt, tt),
              (
                (lit< tt, tt),
                (
                  (tt, tt),
                  (
                    (lit< tt, tt),
                    (
                      ((lit< tt, lit< tt), tt),
                      ((lit< tt, tt), ((lit< tt, tt), ((lit< tt, tt), ((lit< tt, tt), ((lit< tt, tt), ((lit< tt, tt), tt)))))),
                    ),
                  ),
                ),
              ),
            ),
          ),
        ),
      ),
    ),
  ),
)

unread_fine : AreInputs sizes (spec 4 1 1 ∷ []) unread_events
unread_fine = (
  (lit< tt, tt),
  (
    ((lit< tt, lit< tt), tt),
    (
      (lit< tt, tt),
      (
        (lit< tt, tt),
        (
          (lit< tt, tt),
          (
            ((lit< tt, lit< tt), refl),
            (
              (lit< tt, tt),
              (
                (lit< tt, tt),
                (
                  (tt, tt),
                  (
                    (lit< tt, tt),
                    (
                      (lit< tt, tt),
                      (
                        ((lit< tt, lit< tt), tt),
                        (
                          (lit< tt, tt),
                          (
                            (lit< tt, tt),
                            (((lit< tt, lit< tt), tt), ((lit< tt, tt), ((lit< tt, tt), ((lit< tt, tt), ((lit< tt, tt), ((lit< tt, tt), tt)))))),
                          ),
                        ),
                      ),
                    ),
                  ),
                ),
              ),
            ),
          ),
        ),
      ),
    ),
  ),
)

behind_fine : AreInputs sizes (spec 4 1 1 ∷ []) read_behind_events
behind_fine = (
  (lit< tt, tt),
  (
    ((lit< tt, lit< tt), tt),
    (
      (lit< tt, tt),
      (
        (lit< tt, tt),
        (
          (lit< tt, tt),
          (
            ((lit< tt, lit< tt), refl),
            (
              (lit< tt, tt),
              (
                (lit< tt, tt),
                (
                  (tt, tt),
                  ((lit< tt, tt), (((lit< tt, lit< tt), refl), (((lit< tt, lit< tt), tt), ((lit< tt, tt), ((lit< tt, tt), ((lit< tt, tt), tt)))))),
                ),
              ),
            ),
          ),
        ),
      ),
    ),
  ),
)

given_fine : AreInputs sizes (spec 3 1 0 ∷ []) given_up
given_fine = (
  (lit< tt, tt),
  (
    ((lit< tt, lit< tt), tt),
    (
      (lit< tt, tt),
      (
        (lit< tt, tt),
        (
          (lit< tt, tt),
          (
            ((lit< tt, lit< tt), refl),
            (
              (lit< tt, tt),
              (
                (lit< tt, tt),
                (
                  (tt, tt),
                  ((lit< tt, tt), ((lit< tt, tt), ((lit< tt, tt), ((lit< tt, tt), ((lit< tt, tt), ((lit< tt, tt), (((lit< tt, lit< tt), tt), tt))))))),
                ),
              ),
            ),
          ),
        ),
      ),
    ),
  ),
)

pub returns-clause-revoked : goal.returns-clause-revoked
unfolding slots least_of rank
returns-clause-revoked c = record { inputs = revoked_fine; lent = λ n. always_lent sizes (spec 3 1 0 ∷ []) revoke_events n (lit≤ tt) revoked_fine; bit = refl }

pub returns-clause-reply_lost : goal.returns-clause-reply_lost
returns-clause-reply_lost c = record { inputs = lost_fine; lent = λ n. always_lent sizes (spec 4 1 1 ∷ []) lost_events n (lit≤ tt) lost_fine; bit = refl }

pub returns-clause-loss_unread : goal.returns-clause-loss_unread
returns-clause-loss_unread c =
    record { inputs = unread_fine; lent = λ n. always_lent sizes (spec 4 1 1 ∷ []) unread_events n (lit≤ tt) unread_fine; bit = refl }

pub returns-clause-read_behind : goal.returns-clause-read_behind
returns-clause-read_behind c =
    (record { inputs = behind_fine; lent = λ n. always_lent sizes (spec 4 1 1 ∷ []) read_behind_events n (lit≤ tt) behind_fine; bit = refl }, refl, refl)

pub returns-clause-given_up : goal.returns-clause-given_up
unfolding slots least_of rank
returns-clause-given_up c =
    (record { inputs = given_fine; lent = λ n. always_lent sizes (spec 3 1 0 ∷ []) given_up n (lit≤ tt) given_fine; bit = refl }, refl, refl)
