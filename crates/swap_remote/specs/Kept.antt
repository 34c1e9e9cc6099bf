-- The sizes of the tables, which no call changes, and what a query needs.
use Rattle.std.specs.Prelude.{◌≡◌, ◌≢◌, ◌<◌, Bool, true, List, length, Option, None, Some}
use Rattle.swap_base.specs.declared.Lender.{Lender}
use Rattle.swap_base.specs.Sizes.{Sizes, pages_of}
use Rattle.swap_slabs.specs.declared.SlabState.{SlabState}
use Rattle.swap_slabs.specs.declared.SlabState.TheVariants.{Asking}
use Rattle.swap_base.specs.declared.TheConstants.{MOST_LENDERS}
use Rattle.swap_slabs.specs.Slabs.{is_local, pair_of}
use Rattle.swap_choice.specs.declared.lenders.Asked.{Asked}
use Rattle.swap_choice.specs.declared.lenders.Asked.TheVariants.{Nobody, One, Two}
use Rattle.swap_rings.specs.Rings.{Rings}

pub record AreTables (s : Sizes) (bits : List Bool) (states : List SlabState) (rings : Rings) : Type 0 where
  pub bits_len : length bits ≡ pages_of s
  pub slabs_len : length states ≡ s.slabs
  pub window : rings.window ≡ s.window
  pub links_len : length rings.links ≡ MOST_LENDERS

-- a slab may be asked for: of a first lender while it's local, or of another one while the first is asked alone
abbrev pub MayAsk : Option Lender → Lender → SlabState → Type 0
MayAsk None lender state = is_local state ≡ true
MayAsk (Some first) lender state = (state ≡ Asking (pair_of first None)) × (lender.0 ≢ first.0)

-- those that are asked are lenders, and two are different
abbrev pub AreAsked : Asked → Type 0
AreAsked Nobody = Unit {0}
AreAsked (One n) = n < MOST_LENDERS
AreAsked (Two n m) = (n < MOST_LENDERS) × (m < MOST_LENDERS) × (n ≢ m)
