-- What a decoder makes of a stream: over every list of calls of `feed` and `next`.
use Rattle.std.specs.Prelude.{◌≡◌, ℕ, List, [], ◌∷◌, ◌++◌, take}
use Rattle.std.specs.List.{AllByRecursion}
use Rattle.swap_wire.specs.declared.Msg.{Msg}
use Rattle.swap_wire.specs.declared.side.Side.{Side}
use Rattle.swap_wire.specs.declared.decoder.Next.{Next}
use Rattle.swap_wire.specs.declared.decoder.Next.TheVariants as next
use Rattle.swap_wire.specs.Frames.{frame, IsFrame}
use Rattle.swap_wire.specs.Decoding.{DecoderView, bytes_taken, feed_after, answered_after, Answers}

-- bytes are offered, or the next message is asked for, and this answer comes with this page
pub data Step : Type 0 where
  Fed : List ℕ → Step
  Asked : Next → List ℕ → Step

-- the decoder after a step
abbrev pub decoder_after : DecoderView → Step → DecoderView
decoder_after d (Fed bytes) = feed_after d bytes
decoder_after d (Asked answer page) = answered_after d answer page

-- a step may happen where the answer is the one that comes
abbrev pub Happens : DecoderView → Step → Type 0
Happens d (Fed bytes) = Unit {0}
Happens d (Asked answer page) = Answers d answer page

-- so may each of the steps, one after another
abbrev pub Runs : DecoderView → List Step → Type 0
Runs d [] = Unit {0}
Runs d (step ∷ steps) = Happens d step × Runs (decoder_after d step) steps

-- the decoder after all of them
abbrev pub end_of : DecoderView → List Step → DecoderView
end_of d [] = d
end_of d (step ∷ steps) = end_of (decoder_after d step) steps

-- the bytes fed: of those offered, the ones that were taken
abbrev pub taken_in : DecoderView → Step → List ℕ
taken_in d (Fed bytes) = take (bytes_taken d bytes) bytes
taken_in d (Asked answer page) = []

abbrev pub stream : DecoderView → List Step → List ℕ
stream d [] = []
stream d (step ∷ steps) = taken_in d step ++ stream (decoder_after d step) steps

-- the bytes offered
abbrev pub offered_in : Step → List ℕ
offered_in (Fed bytes) = bytes
offered_in (Asked answer page) = []

abbrev pub bytes_offered : List Step → List ℕ
bytes_offered [] = []
bytes_offered (step ∷ steps) = offered_in step ++ bytes_offered steps

-- the messages given, each with its page
abbrev pub given_in : Step → List (Msg × List ℕ)
given_in (Fed bytes) = []
given_in (Asked (next.Got m) page) = (m, page) ∷ []
given_in (Asked next.More page) = []
given_in (Asked (next.Bad at) page) = []

abbrev pub messages_given : List Step → List (Msg × List ℕ)
messages_given [] = []
messages_given (step ∷ steps) = given_in step ++ messages_given steps

-- their frames, one after another
abbrev pub frames_of : List (Msg × List ℕ) → List ℕ
frames_of [] = []
frames_of (g ∷ gs) = frame g.0 g.1 ++ frames_of gs

-- each is a message with its page that the side may send
abbrev pub AreSent : Side → ℕ → List (Msg × List ℕ) → Type 0
AreSent side page_bytes gs = AllByRecursion (λ g. IsFrame side page_bytes g.0 g.1 (frame g.0 g.1)) gs

-- the bytes are the side's frames of these messages, and then this rest
pub record Splits (side : Side) (page_bytes : ℕ) (bytes : List ℕ) (gs : List (Msg × List ℕ))
    (rest : List ℕ) : Type 0 where
  pub whole : bytes ≡ frames_of gs ++ rest
  pub each : AreSent side page_bytes gs

-- an answer is that the stream is bad at this place
abbrev pub SaysBad : ℕ → Step → Type 0
SaysBad at (Fed bytes) = Unit {0}
SaysBad at (Asked answer page) = answer ≡ next.Bad at
