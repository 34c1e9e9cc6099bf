-- A fabric in memory that gives, in place of the message of one number that came, another one.
use Rattle.std.specs.Prelude.{◌≡◌, ℕ, ◌==◌, if◌then◌else◌, replicate}
use Rattle.swap_wire.specs.declared.Msg.{Msg}
use Rattle.swap_wire.specs.Fabric.{Parcel, parcel_of, Handed, Brought, NothingCame, LinkLost, FabricCall, Take, FabricAnswer, FabricOf}
use Rattle.swap_disk.specs.Disk.{one_more}
use Rattle.swap_link.specs.Harbor as harbor
use Rattle.swap_link.specs.Harbor.{Harbor, of_harbor, lender_of, IsAsked}

-- the lenders in memory behind it, the message that it says, in place of which, counted from 0 over all lenders, and
-- how
-- many have come
pub record Lying : Type 0 where
  pub harbor : Harbor
  pub says : Msg
  pub at : ℕ
  pub came : ℕ

abbrev pub of_lying : Lying → FabricOf
of_lying f = of_harbor f.harbor

-- as it is made
abbrev pub new_lying : Harbor → Msg → ℕ → Lying
new_lying h says at = record { harbor = h; says = says; at = at; came = 0 }

-- the lie: a page that goes with it is all ones
abbrev pub lie : Lying → Parcel
lie f = parcel_of f.says (replicate f.harbor.sizes.page_bytes 255)

-- what is told of what came
abbrev pub lie_told : Lying → Handed → Handed
lie_told f (Brought p) = if f.came == f.at then Brought (lie f) else Brought p
lie_told f NothingCame = NothingCame
lie_told f LinkLost = LinkLost

-- how many have come then
abbrev pub came_with : Lying → Handed → ℕ
came_with f (Brought p) = one_more f.came
came_with f NothingCame = f.came
came_with f LinkLost = f.came

-- what it answers where the lenders behind it answered so, and the count after it
abbrev pub lie_answer : Lying → (c : FabricCall) → FabricAnswer c → FabricAnswer c
lie_answer f (Take lender) answer = lie_told f answer
lie_answer f c answer = answer

abbrev pub came_after : Lying → (c : FabricCall) → FabricAnswer c → ℕ
came_after f (Take lender) answer = came_with f answer
came_after f c answer = f.came

-- what it answers to a call, and the fabric after it: the call is made of the lenders behind it
abbrev pub ask : Lying → (c : FabricCall) → FabricAnswer c × Lying
ask f c = (
  lie_answer f c (harbor.ask f.harbor c).0,
  record f { harbor = (harbor.ask f.harbor c).1; came = came_after f c (harbor.ask f.harbor c).0 },
)

-- from a fabric, a call and its answer to the fabric after it
abbrev pub Moves : Lying → (c : FabricCall) → FabricAnswer c → Lying → Type 0
Moves f c answer g = IsAsked f.harbor (lender_of c) × (ask f c ≡ (answer, g))

abbrev pub IsFresh : Lying → FabricOf → Type 0
IsFresh f o = harbor.IsFresh f.harbor o
