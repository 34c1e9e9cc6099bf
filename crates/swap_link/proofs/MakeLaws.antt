-- The limits of what a harbor is made for.
use Rattle.std.proofs.Common.{◌≡◌, ℕ, ◌*◌, ◌<◌, ◌≤◌, ◌^◌, Bool, true, false, cond, List, [], ◌∷◌, length, ap, arith, refl, Option, None, Some}
use Rattle.std.proofs.lemmas.Bool.{and_parts, leb-true}
use Rattle.std.specs.Prelude.{nat_le}
use Rattle.std.proofs.Math.Nat.{mul-le-mul}
use Rattle.swap_base.specs.Sizes.{Sizes}
use Rattle.swap_base.specs.declared.geometry.LenderSpec.{LenderSpec}
use Rattle.std.specs.Prelude.{All, map}
use Rattle.std.proofs.lemmas.List.{length-map}
use Rattle.std.proofs.lemmas.List.Elements.{All-nil, All-cons, All-map}
use Rattle.swap_link.specs.Channel.{Channel}
use Rattle.swap_link.specs.Harbor.{new_channel, IsFresh}

-- every channel is new

all-of : {X : Type 0} (P : X → Type 0) → ((x : X) → P x) → (xs : List X) → All P xs
all-of P f [] = All-nil P
all-of P f (x ∷ xs) = All-cons P x xs (f x) (all-of P f xs)

pub new-sizes : (s : Sizes) (specs : List LenderSpec) → All (λ (c : Channel). c.sizes ≡ s) (map (new_channel s) specs)
new-sizes s specs = All-map (λ (c : Channel). c.sizes ≡ s) (new_channel s) specs (all-of (λ spec. (new_channel s spec).sizes ≡ s) (λ spec. refl) specs)

pub new-fresh :
    (s : Sizes) (specs : List LenderSpec) → IsFresh (record { sizes = s; channels = map (new_channel s) specs }) (record { sizes = s; lenders = length specs })
new-fresh s specs = record {
  is = ap (λ n. record { sizes = s; lenders = n }) (length-map specs (new_channel s));
  channels =
      All-map (λ (c : Channel). c ≡ new_channel s c.lender.lending.spec) (new_channel s) specs
      (all-of (λ spec. new_channel s spec ≡ new_channel s spec) (λ spec. refl) specs);
}
