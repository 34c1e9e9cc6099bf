-- The links of a lender's door, from the first that it gave to the last that it got back.
use Rattle.std.specs.Prelude.{◌≡◌, ℕ, ◌+◌, ◌≤◌, ◌⊎◌, List, [], ◌∷◌, length, Option}
use Rattle.swap_sock.specs.Dealings.{Dealings, Left, gave_one, gave_none, got_back}
use Rattle.swap_node.specs.declared.node.Ear.{Ear}
use Rattle.swap_serve.specs.declared.links.NodeFault.{NodeFault}
use Rattle.swap_serve.specs.declared.links.NodeFault.TheVariants as fault
use Rattle.swap_serve.specs.Hearing.{IsHeard}

-- a door gave these readers, one after another
abbrev pub all_given : {S K : Type 0} → List S → Dealings (Unit {0}) S (Left S K) → Dealings (Unit {0}) S (Left S K)
all_given [] d = d
all_given (s ∷ ss) d = all_given ss (gave_one tt s d)

-- and got these back, in order
abbrev pub all_back : {S K : Type 0} → List (Left S K) → Dealings (Unit {0}) S (Left S K)
    → Dealings (Unit {0}) S (Left S K)
all_back [] d = d
all_back (back ∷ backs) d = all_back backs (got_back back d)

-- what was asked of a door last, where serving broke off: a link that it didn't give; or for want of memory nothing, a
-- link that it didn't give, or one that is let go
abbrev pub AskedLast : {S K : Type 0} → NodeFault → Dealings (Unit {0}) S (Left S K) → Dealings (Unit {0}) S (Left S K)
    → Type 0
AskedLast fault.HostFailed before now = now ≡ gave_none tt before
AskedLast {S} fault.NoMemory before now =
    (now ≡ before) ⊎ ((now ≡ gave_none tt before) ⊎ ((given : S) × (now ≡ gave_one tt given before)))

module _ {S K : Type 0} (left : S → Option (List ℕ)) (faults : S → ℕ) (sink_faults : K → ℕ) where
  -- each link was heard to its end, by its number from `n` on
  abbrev pub AreHeard : ℕ → ℕ → List S → List (Left S K) → List Ear → Type 0
  AreHeard page_bytes n [] [] [] = Unit {0}
  AreHeard page_bytes n (given ∷ givens) (back ∷ backs) (ear ∷ ears) =
      IsHeard left faults sink_faults page_bytes given (record { 0 = n }) back ear
      × AreHeard page_bytes (n + 1) givens backs ears
  AreHeard page_bytes n [] [] (ear ∷ ears) = ⊥
  AreHeard page_bytes n [] (back ∷ backs) ears = ⊥
  AreHeard page_bytes n (given ∷ givens) [] ears = ⊥
  AreHeard page_bytes n (given ∷ givens) (back ∷ backs) [] = ⊥

  -- a door gave so many links, each was heard to its end, and it got each back with that end, in the order of their
  -- numbers
  pub record IsServed (page_bytes links : ℕ) (before now : Dealings (Unit {0}) S (Left S K)) (ears : List Ear)
      : Type 0 where
    pub givens : List S
    pub backs : List (Left S K)
    pub number : length ears ≡ links
    pub dealings : now ≡ all_back backs (all_given givens before)
    pub each : AreHeard page_bytes 0 givens backs ears

  -- serving broke off: the links that came before were heard to their end, and the door got each back with that end
  pub record BreaksOff (page_bytes links : ℕ) (why : NodeFault) (before now : Dealings (Unit {0}) S (Left S K))
      : Type 0 where
    pub givens : List S
    pub backs : List (Left S K)
    pub ears : List Ear
    pub number : length givens ≤ links
    pub last : Dealings (Unit {0}) S (Left S K)
    pub asked : AskedLast why (all_given givens before) last
    pub dealings : now ≡ all_back backs last
    pub each : AreHeard page_bytes 0 givens backs ears
