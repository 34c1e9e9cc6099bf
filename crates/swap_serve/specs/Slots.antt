-- A link that came, until it has ended.
use Rattle.std.specs.Prelude.{◌≡◌, ℕ, ◌+◌, List, [], ◌∷◌, Option}
use Rattle.swap_base.specs.declared.Link.{Link}
use Rattle.swap_sock.specs.Dealings.{Dealings, Left, left_by}
use Rattle.swap_node.specs.declared.node.Ear.{Ear}
use Rattle.swap_serve.specs.declared.slot.Task.{Task}
use Rattle.swap_serve.specs.declared.slot.Task.TheVariants.{Running, Over}
use Rattle.swap_serve.specs.Hearing.{IsHeard}
use Rattle.swap_serve.specs.Serving.{all_back}

-- its number, and its reader as it was given
pub record Visit (S : Type 0) : Type 0 where
  pub link : Link
  pub page_bytes : ℕ
  pub given : S

module _ {S K : Type 0} (left : S → Option (List ℕ)) (faults : S → ℕ) (sink_faults : K → ℕ) where
  -- its thread promises that it is heard to its end, or it was
  abbrev pub IsKept : Task S K → Visit S → Type 0
  IsKept (Running handle) v =
      (handle.promise.link ≡ v.link) × (handle.promise.page_bytes ≡ v.page_bytes) × (handle.promise.was.value ≡ v.given)
  IsKept (Over heard) v =
      IsHeard left faults sink_faults v.page_bytes v.given v.link (left_by heard.reader heard.end) heard.ear

-- links by their numbers from `n` on, with pages of so many bytes
abbrev pub AreNumbered : {S : Type 0} → ℕ → ℕ → List (Visit S) → Type 0
AreNumbered page_bytes n [] = Unit {0}
AreNumbered page_bytes n (v ∷ vs) =
    (v.link ≡ record { 0 = n }) × (v.page_bytes ≡ page_bytes) × AreNumbered page_bytes (n + 1) vs

module _ {S K : Type 0} (left : S → Option (List ℕ)) (faults : S → ℕ) (sink_faults : K → ℕ) where
  -- each was heard to its end
  abbrev pub AreKeptBy : List (Visit S) → List (Left S K) → List Ear → Type 0
  AreKeptBy [] [] [] = Unit {0}
  AreKeptBy (v ∷ vs) (back ∷ backs) (ear ∷ ears) =
      IsHeard left faults sink_faults v.page_bytes v.given v.link back ear × AreKeptBy vs backs ears
  AreKeptBy [] [] (ear ∷ ears) = ⊥
  AreKeptBy [] (back ∷ backs) ears = ⊥
  AreKeptBy (v ∷ vs) [] ears = ⊥
  AreKeptBy (v ∷ vs) (back ∷ backs) [] = ⊥

  -- and the door got each back
  pub record IsParted (vs : List (Visit S)) (before now : Dealings (Unit {0}) S (Left S K))
      (ears : List Ear) : Type 0 where
    pub backs : List (Left S K)
    pub dealings : now ≡ all_back backs before
    pub each : AreKeptBy vs backs ears
