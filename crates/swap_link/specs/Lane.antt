-- One direction of a link: the messages that are under way, and room for a fixed number of them.
use Rattle.std.specs.Prelude.{◌≡◌, ℕ, ◌≤◌, Bool, true, false, nat_lt, if◌then◌else◌, List, [], ◌∷◌, ◌++◌, length, take, map, All, Option, None, Some}
use Rattle.swap_wire.specs.declared.Msg.{Msg}
use Rattle.swap_wire.specs.Fabric.{Parcel, carries_page, parcel_of}

-- the messages in the order in which they were appended, whether it has ended (nothing is appended any more), how many
-- messages it has room for, and the length of a page
pub record Lane : Type 0 where
  pub parcels : List Parcel
  pub ended : Bool
  pub room : ℕ
  pub page_bytes : ℕ

-- with nothing under way
abbrev pub empty_lane : Bool → ℕ → ℕ → Lane
empty_lane ended room page_bytes = record { parcels = []; ended = ended; room = room; page_bytes = page_bytes }

-- an append to a full lane adds nothing and ends it
abbrev pub append_after : Lane → Parcel → Lane
append_after l p =
    if l.ended then l
    else if nat_lt (length l.parcels) l.room then record l { parcels = l.parcels ++ p ∷ [] }
    else record l { ended = true }

-- it ends as it is, or cut to so many messages
abbrev pub end_lane : Lane → Lane
end_lane l = record l { ended = true }

abbrev pub cut : Lane → ℕ → Lane
cut l n = record l { parcels = take n l.parcels; ended = true }

-- whether a cut to so many messages would leave it as it is
abbrev pub is_cut : Lane → ℕ → Bool
is_cut l n = if l.ended then (if nat_lt n (length l.parcels) then false else true) else false

-- the first message, and the lane's messages without it
abbrev pub first_of : List Parcel → Option Parcel
first_of [] = None
first_of (p ∷ ps) = Some p

-- what came is a message with the page in the buffer
abbrev pub parcel_came : Option Msg → List ℕ → Option Parcel
parcel_came None page = None
parcel_came (Some m) page = Some (parcel_of m page)

abbrev pub rest : List Parcel → List Parcel
rest [] = []
rest (p ∷ ps) = ps

-- a place for one message, with room for a page
pub record Kept : Type 0 where
  pub msg : Msg
  pub page : List ℕ

abbrev pub parcel_in : Kept → Parcel
parcel_in k = parcel_of k.msg k.page

abbrev pub fill_kept : Kept → Msg → List ℕ → Kept
fill_kept k m page = record { msg = m; page = if carries_page m then page else k.page }

-- the messages are those of the first places
abbrev pub parcels_in : List Kept → ℕ → List Parcel
parcels_in places count = map parcel_in (take count places)

-- no more places are in use than there are, and each has room for a page
pub record PlacesFit (places : List Kept) (count page_bytes : ℕ) : Type 0 where
  pub used : count ≤ length places
  pub pages : All (λ k. length k.page ≡ page_bytes) places

-- a page that is under way has the length of a page
abbrev pub ParcelsFit : Lane → Type 0
ParcelsFit l = All (λ p. carries_page p.msg ≡ true → length p.page ≡ l.page_bytes) l.parcels
