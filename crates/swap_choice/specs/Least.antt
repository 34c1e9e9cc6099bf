-- The least slots of a set by (rate, slot).
use Rattle.std.specs.Prelude.{◌≡◌, ℕ, ◌<◌, Bool, ◌&&◌, ◌||◌, ◌==◌, nat_lt, ◌⊎◌, List, length, filter, slice_index, IsTrue}
use Rattle.std.specs.List.{range_with_len}
use Rattle.swap_choice.specs.Slots.{has, size, set_of}

-- a slot comes before another: its rate is less, or it is the same and the slot is lower
abbrev pub IsBelow : List ℕ → ℕ → ℕ → Type 0
IsBelow rates a b =
    (slice_index rates a < slice_index rates b) ⊎ ((slice_index rates a ≡ slice_index rates b) × (a < b))

-- a subset of so many slots, each of which comes before each slot of the set outside it
pub record IsLeast (rates : List ℕ) (among count least : ℕ) : Type 0 where
  pub subset : (slot : ℕ) → slot < 64 → IsTrue (has least slot) → IsTrue (has among slot)
  pub size : size least ≡ count
  pub below :
      (inside outside : ℕ) → inside < 64 → outside < 64 → IsTrue (has least inside) → IsTrue (has among outside)
      → (IsTrue (has least outside) → ⊥) → IsBelow rates inside outside

-- `IsBelow` as a test
abbrev pub is_below : List ℕ → ℕ → ℕ → Bool
is_below rates a b =
    nat_lt (slice_index rates a) (slice_index rates b) || (slice_index rates a == slice_index rates b && nat_lt a b)

-- how many slots of a set come before this one
unfoldable pub rank : List ℕ → ℕ → ℕ → ℕ
rank rates among slot =
    length (filter (λ other. has among other && is_below rates other slot) (range_with_len 0 64))

-- the slots of a set before which fewer than `count` of its slots come: there is no other set as `IsLeast` says
unfoldable pub least_of : List ℕ → ℕ → ℕ → ℕ
least_of rates among count =
    set_of (filter (λ slot. has among slot && nat_lt (rank rates among slot) count) (range_with_len 0 64))
