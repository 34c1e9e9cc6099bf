-- The messages of an outbox with their pages: one page stands beside them.
use Rattle.std.specs.Prelude.{ℕ, List, map}
use Rattle.swap_base.specs.declared.Link.{Link}
use Rattle.swap_wire.specs.Fabric.{Parcel, parcel_of}
use Rattle.swap_lender.specs.declared.outbox.Letter.{Letter}

abbrev pub parcel_in : List ℕ → Letter → Link × Parcel
parcel_in page letter = (letter.link, parcel_of letter.msg page)

abbrev pub parcels_in : List ℕ → List Letter → List (Link × Parcel)
parcels_in page letters = map (λ letter. parcel_in page letter) letters
