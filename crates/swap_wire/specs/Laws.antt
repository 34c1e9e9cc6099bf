-- The laws of frames, and of a decoder over every stream.
use Rattle.std.specs.Prelude.{◌≡◌, ℕ, ◌*◌, ◌<◌, ◌≤◌, ◌⊎◌, true, false, List, [], ◌∷◌, ◌++◌, length}
use Rattle.std.specs.List.{AllByRecursion}
use Rattle.swap_wire.specs.declared.Msg.{Msg}
use Rattle.swap_wire.specs.declared.side.Side.{Side}
use Rattle.swap_wire.specs.declared.decoder.Next.TheVariants as next
use Rattle.swap_wire.specs.Frames.{form_of, frame, NumbersFit, IsBytes, IsFrame, IsWhole, IsPartial, IsHopeless, longest}
use Rattle.swap_wire.specs.Decoding.{DecoderView, decoder_at_start, room, count_up, Waits}
use Rattle.swap_wire.specs.Streams.{Step, Asked, Runs, end_of, stream, bytes_offered, messages_given, frames_of, AreSent, Splits, SaysBad}

-- a message whose numbers fit has a frame with each page of the right length
abbrev pub HasFrame : Type 0
HasFrame =
    (page_bytes : ℕ) (m : Msg) (page : List ℕ) → page_bytes ≤ 4096 → NumbersFit m
    → length page ≡ (form_of m).pages * page_bytes → IsBytes page
    → IsFrame (form_of m).from page_bytes m page (frame m page)

-- and no other
abbrev pub OneFrame : Type 0
OneFrame = (s t : Side) (j k : ℕ) (m : Msg) (page a b : List ℕ) → IsFrame s j m page a → IsFrame t k m page b → a ≡ b

-- bytes are the frame of at most one message, with one page
abbrev pub OneMessage : Type 0
OneMessage =
    (s t : Side) (j k : ℕ) (m n : Msg) (p q bytes : List ℕ) → IsFrame s j m p bytes → IsFrame t k n q bytes
    → (m ≡ n) × (p ≡ q)

-- no frame begins another: where two stand in front of the same bytes they are one
abbrev pub NoFront : Type 0
NoFront =
    (s t : Side) (j k : ℕ) (m n : Msg) (p q a b x y : List ℕ) → IsFrame s j m p a → IsFrame t k n q b → a ++ x ≡ b ++ y
    → (a ≡ b) × (x ≡ y)

-- no frame is longer than the longest
abbrev pub IsLongest : Type 0
IsLongest =
    (side : Side) (page_bytes : ℕ) (m : Msg) (page bytes : List ℕ) → IsFrame side page_bytes m page bytes
    → 8 ≤ page_bytes
    → length bytes ≤ longest page_bytes

-- and each side has one as long
abbrev pub LongestIsSent : Type 0
LongestIsSent =
    (side : Side) (page_bytes : ℕ) → page_bytes ≤ 4096
    → (m : Msg) × (page : List ℕ) × (bytes : List ℕ) × IsFrame side page_bytes m page bytes
    × (length bytes ≡ longest page_bytes)

-- bytes begin with a whole frame, or are a proper front of one, or no further bytes make them one: one of the three
abbrev pub OneOfThree : Type 0
OneOfThree =
    (side : Side) (page_bytes : ℕ) (bytes : List ℕ) → page_bytes ≤ 4096 → IsBytes bytes
    → IsWhole side page_bytes bytes ⊎ (IsPartial side page_bytes bytes ⊎ IsHopeless side page_bytes bytes)

-- and no two of them
abbrev pub NoTwoOfThree : Type 0
NoTwoOfThree =
    (side : Side) (page_bytes : ℕ) (bytes : List ℕ)
    → (IsWhole side page_bytes bytes → IsPartial side page_bytes bytes → ⊥)
    × (IsWhole side page_bytes bytes → IsHopeless side page_bytes bytes → ⊥)
    × (IsPartial side page_bytes bytes → IsHopeless side page_bytes bytes → ⊥)

-- until a decoder has answered Bad, the bytes fed so far are the frames of the messages given, and then the rest that
-- it keeps
abbrev pub ReadsExactly : Type 0
ReadsExactly =
    (side : Side) (page_bytes : ℕ) (steps : List Step) → Runs (decoder_at_start side page_bytes) steps
    → (end_of (decoder_at_start side page_bytes) steps).bad ≡ false
    → Splits side page_bytes (stream (decoder_at_start side page_bytes) steps) (messages_given steps)
    (end_of (decoder_at_start side page_bytes) steps).rest

-- and as long as the bytes fed begin a list of the side's frames, it doesn't answer Bad
abbrev pub RefusesNoFrames : Type 0
RefusesNoFrames =
    (side : Side) (page_bytes : ℕ) (steps : List Step) (gs : List (Msg × List ℕ)) (more : List ℕ) → page_bytes ≤ 4096
    → Runs (decoder_at_start side page_bytes) steps → AreSent side page_bytes gs
    → stream (decoder_at_start side page_bytes) steps ++ more ≡ frames_of gs
    → (end_of (decoder_at_start side page_bytes) steps).bad ≡ false

-- however the same bytes are cut, the same messages are given by the time that no whole frame is kept
abbrev pub HoweverCut : Type 0
HoweverCut =
    (side : Side) (page_bytes : ℕ) (steps others : List Step) → Runs (decoder_at_start side page_bytes) steps
    → Runs (decoder_at_start side page_bytes) others
    → stream (decoder_at_start side page_bytes) steps ≡ stream (decoder_at_start side page_bytes) others
    → (end_of (decoder_at_start side page_bytes) steps).bad ≡ false
    → (end_of (decoder_at_start side page_bytes) others).bad ≡ false
    → (IsWhole side page_bytes (end_of (decoder_at_start side page_bytes) steps).rest → ⊥)
    → (IsWhole side page_bytes (end_of (decoder_at_start side page_bytes) others).rest → ⊥)
    → (messages_given steps ≡ messages_given others)
    × ((end_of (decoder_at_start side page_bytes) steps).rest ≡ (end_of (decoder_at_start side page_bytes) others).rest)

-- `at` counts the bytes of the frames that were given
abbrev pub CountsPlaces : Type 0
CountsPlaces =
    (side : Side) (page_bytes : ℕ) (steps : List Step) → Runs (decoder_at_start side page_bytes) steps
    → (end_of (decoder_at_start side page_bytes) steps).before ≡ count_up (length (frames_of (messages_given steps)))

-- after Bad the answer is the same Bad, all bytes are taken, and nothing is kept or given
pub record BadStays (at : ℕ) (d : DecoderView) (steps : List Step) : Type 0 where
  pub says : AllByRecursion (SaysBad at) steps
  pub stays : end_of d steps ≡ d
  pub takes : stream d steps ≡ bytes_offered steps
  pub gives : messages_given steps ≡ []

abbrev pub StaysBad : Type 0
StaysBad =
    (d : DecoderView) (at : ℕ) (page : List ℕ) (steps : List Step) → Runs d (Asked (next.Bad at) page ∷ steps)
    → BadStays at (record d { bad = true }) steps

-- a decoder that wants bytes has room for some
abbrev pub HasRoom : Type 0
HasRoom = (d : DecoderView) → 8 ≤ d.page_bytes → Waits d → 0 < room d
