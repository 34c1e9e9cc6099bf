-- The frames of a link, big-endian: a u32 with the length of the rest, a kind byte, the message's fields, and the
-- page where the kind has one. A message has one frame, and a frame's length is the one of its kind. The code writes
-- and reads them in pieces.
use Rattle.std.specs.Prelude.{◌≡◌, ℕ, ◌+◌, ◌*◌, ◌<◌, ◌^◌, ◌==◌, if◌then◌else◌, List, [], ◌∷◌, ◌++◌, length, slice_index}
use Rattle.std.specs.Int.{w32, w64, to_be_bytes}
use Rattle.swap_wire.specs.declared.Msg.{Msg}
use Rattle.swap_wire.specs.declared.Msg.TheVariants as msg
use Rattle.swap_wire.specs.declared.side.Side.{Side}
use Rattle.swap_wire.specs.declared.side.Side.TheVariants.{Device, Lender}
use Rattle.swap_wire.specs.declared.kind.Kind.{Kind}
use Rattle.swap_wire.specs.declared.kind.Kind.TheVariants as kinds
use Rattle.swap_wire.specs.declared.kind.Form.{Form}

-- the table of kinds: the kind byte, the side that sends it, how many bytes its fields take, how many pages follow
abbrev pub form : Kind → Form
form kinds.Hello = record { number = 1; from = Device; fields = 12; pages = 0 }
form kinds.Query = record { number = 2; from = Device; fields = 4; pages = 0 }
form kinds.Borrow = record { number = 3; from = Device; fields = 4; pages = 0 }
form kinds.Write = record { number = 4; from = Device; fields = 8; pages = 1 }
form kinds.Read = record { number = 5; from = Device; fields = 8; pages = 0 }
form kinds.Rates = record { number = 6; from = Device; fields = 12; pages = 0 }
form kinds.Done = record { number = 7; from = Device; fields = 4; pages = 0 }
form kinds.Room = record { number = 8; from = Lender; fields = 8; pages = 0 }
form kinds.Lent = record { number = 9; from = Lender; fields = 8; pages = 0 }
form kinds.Refused = record { number = 10; from = Lender; fields = 4; pages = 0 }
form kinds.Wrote = record { number = 11; from = Lender; fields = 8; pages = 0 }
form kinds.PageIs = record { number = 12; from = Lender; fields = 8; pages = 1 }
form kinds.AskRates = record { number = 13; from = Lender; fields = 4; pages = 0 }
form kinds.Evict = record { number = 14; from = Lender; fields = 4; pages = 0 }

-- the kind of a message
abbrev pub kind : Msg → Kind
kind (msg.Hello version page_bytes pages_per_slab) = kinds.Hello
kind (msg.Query slab) = kinds.Query
kind (msg.Borrow slab) = kinds.Borrow
kind (msg.Write lease place) = kinds.Write
kind (msg.Read lease place) = kinds.Read
kind (msg.Rates lease value) = kinds.Rates
kind (msg.Done lease) = kinds.Done
kind (msg.Room slab free) = kinds.Room
kind (msg.Lent slab lease) = kinds.Lent
kind (msg.Refused slab) = kinds.Refused
kind (msg.Wrote lease place) = kinds.Wrote
kind (msg.PageIs lease place) = kinds.PageIs
kind (msg.AskRates lease) = kinds.AskRates
kind (msg.Evict lease) = kinds.Evict

-- what a message's frame holds
abbrev pub form_of : Msg → Form
form_of m = form (kind m)

-- a number in four bytes, and in eight
abbrev pub word : ℕ → List ℕ
word n = to_be_bytes w32 n

abbrev pub long : ℕ → List ℕ
long n = to_be_bytes w64 n

-- a message's fields
abbrev pub fields : Msg → List ℕ
fields (msg.Hello version page_bytes pages_per_slab) = word version ++ word page_bytes ++ word pages_per_slab
fields (msg.Query slab) = word slab.0
fields (msg.Borrow slab) = word slab.0
fields (msg.Write lease place) = word lease.0 ++ word place
fields (msg.Read lease place) = word lease.0 ++ word place
fields (msg.Rates lease value) = word lease.0 ++ long value
fields (msg.Done lease) = word lease.0
fields (msg.Room slab free) = word slab.0 ++ word free
fields (msg.Lent slab lease) = word slab.0 ++ word lease.0
fields (msg.Refused slab) = word slab.0
fields (msg.Wrote lease place) = word lease.0 ++ word place
fields (msg.PageIs lease place) = word lease.0 ++ word place
fields (msg.AskRates lease) = word lease.0
fields (msg.Evict lease) = word lease.0

-- each number fits its field
abbrev pub NumbersFit : Msg → Type 0
NumbersFit (msg.Hello version page_bytes pages_per_slab) =
    (version < 2 ^ 32) × (page_bytes < 2 ^ 32) × (pages_per_slab < 2 ^ 32)
NumbersFit (msg.Query slab) = slab.0 < 2 ^ 32
NumbersFit (msg.Borrow slab) = slab.0 < 2 ^ 32
NumbersFit (msg.Write lease place) = (lease.0 < 2 ^ 32) × (place < 2 ^ 32)
NumbersFit (msg.Read lease place) = (lease.0 < 2 ^ 32) × (place < 2 ^ 32)
NumbersFit (msg.Rates lease value) = (lease.0 < 2 ^ 32) × (value < 2 ^ 64)
NumbersFit (msg.Done lease) = lease.0 < 2 ^ 32
NumbersFit (msg.Room slab free) = (slab.0 < 2 ^ 32) × (free < 2 ^ 32)
NumbersFit (msg.Lent slab lease) = (slab.0 < 2 ^ 32) × (lease.0 < 2 ^ 32)
NumbersFit (msg.Refused slab) = slab.0 < 2 ^ 32
NumbersFit (msg.Wrote lease place) = (lease.0 < 2 ^ 32) × (place < 2 ^ 32)
NumbersFit (msg.PageIs lease place) = (lease.0 < 2 ^ 32) × (place < 2 ^ 32)
NumbersFit (msg.AskRates lease) = lease.0 < 2 ^ 32
NumbersFit (msg.Evict lease) = lease.0 < 2 ^ 32

-- each is a byte
abbrev pub IsBytes : List ℕ → Type 0
IsBytes bytes = (i : ℕ) → slice_index bytes i < 256

-- what a frame's length counts: the kind byte, the fields and the page
abbrev pub counted_bytes : Msg → List ℕ → List ℕ
counted_bytes m page = (form_of m).number ∷ (fields m ++ page)

-- the frame of a message with this page, which is empty where the kind has none
abbrev pub frame : Msg → List ℕ → List ℕ
frame m page = word (length (counted_bytes m page)) ++ counted_bytes m page

-- the bytes are the frame of this message and page, as the side sends it with pages of so many bytes
pub record IsFrame (side : Side) (page_bytes : ℕ) (m : Msg) (page bytes : List ℕ) : Type 0 where
  pub from : (form_of m).from ≡ side
  pub numbers : NumbersFit m
  pub pages : length page ≡ (form_of m).pages * page_bytes
  pub each : IsBytes page
  pub short : length (counted_bytes m page) < 2 ^ 32
  pub spelled : bytes ≡ frame m page

-- the page that goes with a message: none where its kind has none
abbrev pub page_with : Msg → List ℕ → List ℕ
page_with m page = if (form_of m).pages == 0 then [] else page

-- a frame of the side stands in front
pub record IsWhole (side : Side) (page_bytes : ℕ) (bytes : List ℕ) : Type 0 where
  pub m : Msg
  pub page : List ℕ
  pub front : List ℕ
  pub rest : List ℕ
  pub is_frame : IsFrame side page_bytes m page front
  pub parts : bytes ≡ front ++ rest

-- bytes that more of them make a frame of the side: a proper front of a frame
pub record IsPartial (side : Side) (page_bytes : ℕ) (bytes : List ℕ) : Type 0 where
  pub m : Msg
  pub page : List ℕ
  pub more : List ℕ
  pub is_frame : IsFrame side page_bytes m page (bytes ++ more)
  pub some : 0 < length more

-- bytes that don't begin with a frame of the side, and that no further bytes make one
pub record IsHopeless (side : Side) (page_bytes : ℕ) (bytes : List ℕ) : Type 0 where
  pub none_in_front :
      (m : Msg) (page front rest : List ℕ) → IsFrame side page_bytes m page front → bytes ≡ front ++ rest → ⊥
  pub none_beyond : (m : Msg) (page more : List ℕ) → IsFrame side page_bytes m page (bytes ++ more) → ⊥

-- how long the longest frame is
abbrev pub longest : ℕ → ℕ
longest page_bytes = 13 + page_bytes
