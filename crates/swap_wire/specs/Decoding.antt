-- A decoder, and its steps: bytes are fed, and the next message is asked for. The code keeps the rest in a buffer of
-- one
-- longest frame.
use Rattle.std.specs.Prelude.{◌≡◌, ℕ, ◌+◌, ◌-◌, ◌*◌, ◌^◌, min, Bool, true, false, if◌then◌else◌, List, [], ◌++◌, length, take, drop}
use Rattle.swap_wire.specs.declared.Msg.{Msg}
use Rattle.swap_wire.specs.declared.side.Side.{Side}
use Rattle.swap_wire.specs.declared.decoder.Next.{Next}
use Rattle.swap_wire.specs.declared.decoder.Next.TheVariants as next
use Rattle.swap_wire.specs.Frames.{form_of, frame, IsFrame, IsPartial, IsHopeless, longest}

-- the side whose frames are read, the bytes of a page, the rest that is kept, how many bytes of the stream came
-- before it, and whether it was found bad
pub record DecoderView : Type 0 where
  pub side : Side
  pub page_bytes : ℕ
  pub rest : List ℕ
  pub before : ℕ
  pub bad : Bool

-- as it is made
abbrev pub decoder_at_start : Side → ℕ → DecoderView
decoder_at_start side page_bytes = record { side = side; page_bytes = page_bytes; rest = []; before = 0; bad = false }

-- how many bytes are free
abbrev pub room : DecoderView → ℕ
room d = longest d.page_bytes - length d.rest

-- how many of these bytes are taken: as many as are free, and all of them once it is bad
abbrev pub bytes_taken : DecoderView → List ℕ → ℕ
bytes_taken d bytes = if d.bad then length bytes else min (length bytes) (room d)

-- and kept: none once it is bad
abbrev pub feed_after : DecoderView → List ℕ → DecoderView
feed_after d bytes = if d.bad then d else record d { rest = d.rest ++ take (room d) bytes }

-- a count that stops at 2 ^ 64 - 1
abbrev pub count_up : ℕ → ℕ
count_up n = min n (2 ^ 64 - 1)

-- after an answer: the frame of a message that was given is dropped, and bad stays bad
abbrev pub answered_after : DecoderView → Next → List ℕ → DecoderView
answered_after d (next.Got m) page =
    record d { rest = drop (length (frame m page)) d.rest; before = count_up (d.before + length (frame m page)) }
answered_after d next.More page = d
answered_after d (next.Bad at) page = record d { bad = true }

-- the page of an answer, which is the front of the buffer
abbrev pub page_in : DecoderView → Next → List ℕ → List ℕ
page_in d (next.Got m) buffer = take ((form_of m).pages * d.page_bytes) buffer
page_in d next.More buffer = []
page_in d (next.Bad at) buffer = []

-- a message is given where its frame stands in front
pub record Gives (d : DecoderView) (m : Msg) (page : List ℕ) : Type 0 where
  pub alive : d.bad ≡ false
  pub is_frame : IsFrame d.side d.page_bytes m page (frame m page)
  pub front : d.rest ≡ frame m page ++ drop (length (frame m page)) d.rest

-- more bytes are wanted where the rest is a proper front of a frame
pub record Waits (d : DecoderView) : Type 0 where
  pub alive : d.bad ≡ false
  pub partial : IsPartial d.side d.page_bytes d.rest

-- the stream is bad where no frame stands in front of the rest, nor can; the place is what came before it
pub record Fails (d : DecoderView) (at : ℕ) : Type 0 where
  pub hopeless : IsHopeless d.side d.page_bytes d.rest
  pub place : at ≡ d.before

-- the answer that comes, with the page that goes with it
abbrev pub Answers : DecoderView → Next → List ℕ → Type 0
Answers d (next.Got m) page = Gives d m page
Answers d next.More page = Waits d
Answers d (next.Bad at) page = Fails d at

-- the answer is the message whose frame stands in front
abbrev pub GivesTheOneInFront : DecoderView → Next → Type 0
GivesTheOneInFront d answer = (m : Msg) (page : List ℕ) → Gives d m page → answer ≡ next.Got m
