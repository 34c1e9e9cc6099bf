-- What a lender keeps at a place of a lease, and which pages its link owes, as the messages under way will have it.
use Rattle.std.specs.Prelude.{◌≡◌, ℕ, Bool, true, false, ◌&&◌, ◌==◌, nat_lt, if◌then◌else◌, List, [], ◌∷◌, replicate, Option, None, Some}
use Rattle.swap_base.specs.declared.Link.{Link}
use Rattle.swap_base.specs.declared.Lease.{Lease}
use Rattle.swap_wire.specs.declared.Msg.{Msg}
use Rattle.swap_wire.specs.declared.Msg.TheVariants as msg
use Rattle.swap_wire.specs.Fabric.{Parcel, is_page}
use Rattle.swap_lender.specs.Lender.{Lender, slot_of, page_in}
use Rattle.swap_lender.specs.Table.{may_reach}
use Rattle.swap_link.specs.Channel.{Channel}

-- a fact that is asked for as long as a test doesn't hold
abbrev pub Unless : Bool → Type 0 → Type 0
Unless true P = Unit {0}
Unless false P = P

-- what a link finds at a place of a lease that it has
abbrev pub slot_page : Lender → Link → Lease → ℕ → Option (List ℕ)
slot_page l n k i = if may_reach l n k i then Some (page_in l.contents (slot_of l n k) i) else None

-- what is there after a message to the lender: a write's page, nothing where the lease is done, else what was there
abbrev pub left_by : Lease → ℕ → Msg → List ℕ → Option (List ℕ) → Option (List ℕ)
left_by k i (msg.Write lease place) page was = if (lease.0 == k.0) && (place == i) then Some page else was
left_by k i (msg.Done lease) page was = if lease.0 == k.0 then None else was
left_by k i _ page was = was

abbrev pub left_after : Lease → ℕ → List Parcel → Option (List ℕ) → Option (List ℕ)
left_after k i [] was = was
left_after k i (p ∷ ps) was = left_after k i ps (left_by k i p.msg p.page was)

-- the lender will have these bytes once it has taken what is under way to it; any bytes where its end is gone, or where
-- the lane to it has ended
abbrev pub Keeps : Channel → Lease → ℕ → List ℕ → Type 0
Keeps c k i bytes =
    Unless c.lender_gone
    (Unless c.to_lender.ended (left_after k i c.to_lender.parcels (slot_page c.lender c.number k i) ≡ Some bytes))

-- the pages under way to the device
abbrev pub pages_in : List Parcel → List (List ℕ)
pages_in [] = []
pages_in (p ∷ ps) = if is_page p.msg then p.page ∷ pages_in ps else pages_in ps

-- a list of pages begins with these, and the rest is as asked
abbrev pub Begins : List (List ℕ) → (List (List ℕ) → Type 0) → List (List ℕ) → Type 0
Begins [] Rest pages = Rest pages
Begins (b ∷ bs) Rest [] = ⊥
Begins (b ∷ bs) Rest (page ∷ pages) = (page ≡ b) × Begins bs Rest pages

-- the page that a read will be given, of what its place holds when it is read; a lease that was given and isn't held is
-- given nothing, and any page will do; one that is still to be given is given zeros
abbrev pub GivenNone : Bool → List ℕ → List ℕ → Type 0
GivenNone true zero page = Unit {0}
GivenNone false zero page = page ≡ zero

abbrev pub IsGiven : ℕ → ℕ → List ℕ → Option (List ℕ) → List ℕ → Type 0
IsGiven k next_lease zero (Some b) page = page ≡ b
IsGiven k next_lease zero None page = GivenNone (nat_lt k next_lease) zero page

-- a first page, and the rest
abbrev pub FirstIs : (List ℕ → Type 0) → (List (List ℕ) → Type 0) → List (List ℕ) → Type 0
FirstIs First Rest [] = ⊥
FirstIs First Rest (page ∷ pages) = First page × Rest pages

-- a message to the lender asks for a page where it is a read
abbrev pub AskedBy : (Lease → ℕ → List ℕ → Type 0) → (List (List ℕ) → Type 0) → Msg → List (List ℕ) → Type 0
AskedBy Given Rest (msg.Read lease place) pages = FirstIs (Given lease place) Rest pages
AskedBy Given Rest _ pages = Rest pages

-- one page for each read under way to the lender, by what each place holds; any pages may follow where the lane has
-- ended
abbrev pub ReadsOwed : Bool → ℕ → List ℕ → (Lease → ℕ → Option (List ℕ)) → List Parcel → List (List ℕ) → Type 0
ReadsOwed ended next_lease zero there [] pages = Unless ended (pages ≡ [])
ReadsOwed ended next_lease zero there (p ∷ ps) pages =
    AskedBy (λ k i page. IsGiven k.0 next_lease zero (there k i) page)
    (ReadsOwed ended next_lease zero (λ k i. left_by k i p.msg p.page (there k i)) ps) p.msg pages

abbrev pub zero_page : Lender → List ℕ
zero_page l = replicate l.lending.page_bytes 0

abbrev pub LaterOwed : Channel → List (List ℕ) → Type 0
LaterOwed c pages =
    ReadsOwed c.to_lender.ended c.lender.next_lease (zero_page c.lender)
    (λ k i. slot_page c.lender c.number k i) c.to_lender.parcels pages

-- first the pages under way to the device, then, as long as they can come, those of the reads under way to the lender
abbrev pub Owes : Channel → List (List ℕ) → Type 0
Owes c pages =
    Begins (pages_in c.to_device.parcels)
    (λ later. Unless c.lender_gone (Unless c.to_device.ended (LaterOwed c later))) pages
