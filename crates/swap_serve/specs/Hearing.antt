-- A link as a lender hears it: what was read, which messages were delivered, and how it may end.
use Rattle.std.specs.Prelude.{◌≡◌, ℕ, ◌<◌, ◌≤◌, Bool, true, false, List, [], ◌∷◌, ◌++◌, length, Option, MatchOption}
use Rattle.std.specs.Io.KnownBytes.{IsAtEnd}
use Rattle.swap_base.specs.declared.Link.{Link}
use Rattle.swap_io.specs.Causes.{Rose, WasRead}
use Rattle.swap_wire.specs.declared.Msg.{Msg}
use Rattle.swap_wire.specs.declared.side.Side.TheVariants.{Device}
use Rattle.swap_wire.specs.Frames.{IsPartial, IsHopeless}
use Rattle.swap_wire.specs.Decoding.{DecoderView, decoder_at_start, count_up}
use Rattle.swap_wire.specs.Streams.{frames_of, Splits}
use Rattle.swap_sock.specs.declared.host.LinkEnd.{LinkEnd}
use Rattle.swap_sock.specs.declared.host.LinkEnd.TheVariants as end
use Rattle.swap_sock.specs.Dealings.{Left, left_by}
use Rattle.swap_node.specs.declared.node.Ear.{Ear}

-- its reader, what is decoded, the bytes that were read and not yet fed, and the ear
pub record Hearing (S : Type 0) : Type 0 where
  pub reader : S
  pub decoder : DecoderView
  pub ahead : List ℕ
  pub ear : Ear

-- nothing was read of it yet
abbrev pub hearing_at_start : {S : Type 0} → S → DecoderView → Ear → Hearing S
hearing_at_start reader decoder ear = record { reader = reader; decoder = decoder; ahead = []; ear = ear }

abbrev pub IsBegun : {S : Type 0} → Hearing S → Type 0
IsBegun h =
    h ≡ hearing_at_start h.reader (decoder_at_start Device h.decoder.page_bytes)
    (record { link = h.ear.link; count = 0; ended = false })

-- the last of the messages is this one
pub record IsLast (gs : List (Msg × List ℕ)) (m : Msg) : Type 0 where
  pub before : List (Msg × List ℕ)
  pub page : List ℕ
  pub last : gs ≡ before ++ (m, page) ∷ []

-- whether a link ended by its own message
abbrev pub is_ended : {K : Type 0} → LinkEnd K → Bool
is_ended end.Read = false
is_ended end.ReadFailed = false
is_ended (end.Bad at) = false
is_ended (end.Down sink) = false
is_ended (end.Ended m) = true

module _ {S : Type 0} (left : S → Option (List ℕ)) (faults : S → ℕ) where
  -- a link is still heard: the bytes that its reader gave are the device's frames of the messages delivered, and what
  -- is kept of a further one, and what is ahead
  pub record IsHearing (page_bytes : ℕ) (given : S) (link : Link) (h : Hearing S)
      (gs : List (Msg × List ℕ)) : Type 0 where
    pub bytes : List ℕ
    pub read : WasRead (left given) (left h.reader) bytes
    pub later : faults given ≤ faults h.reader
    pub splits : Splits Device page_bytes bytes gs (h.decoder.rest ++ h.ahead)
    pub before : h.decoder.before ≡ count_up (length (frames_of gs))
    pub side : h.decoder.side ≡ Device
    pub pages : h.decoder.page_bytes ≡ page_bytes
    pub count : h.ear.count ≡ count_up (length gs)
    pub ended : h.ear.ended ≡ false
    pub link_is : h.ear.link ≡ link

  module _ {K : Type 0} (sink_faults : K → ℕ) where
    -- the table of ends: what each comes only with, where the reader gave the frames of these messages and then this
    -- rest
    abbrev pub MayEnd : LinkEnd K → ℕ → S → S → List (Msg × List ℕ) → List ℕ → Type 0
    MayEnd end.Read page_bytes given reader gs rest = IsAtEnd (left reader) × IsPartial Device page_bytes rest
    MayEnd end.ReadFailed page_bytes given reader gs rest =
        Rose (faults given) (faults reader) × IsPartial Device page_bytes rest
    MayEnd (end.Bad at) page_bytes given reader gs rest =
        IsHopeless Device page_bytes rest × (at ≡ count_up (length (frames_of gs)))
    MayEnd (end.Down sink) page_bytes given reader gs rest = (0 < sink_faults sink) × (0 < length gs)
    MayEnd (end.Ended m) page_bytes given reader gs rest = IsLast gs m

    -- a link was heard to its end: the bytes that its reader gave are the device's frames of the messages delivered, as
    -- many as the ear counts, and then this rest, which has no whole frame in front unless the link ended before its
    -- bytes
    pub record IsHeard (page_bytes : ℕ) (given : S) (link : Link) (back : Left S K) (ear : Ear) : Type 0 where
      pub bytes : List ℕ
      pub messages : List (Msg × List ℕ)
      pub rest : List ℕ
      pub read : WasRead (left given) (left back.reader) bytes
      pub later : faults given ≤ faults back.reader
      pub splits : Splits Device page_bytes bytes messages rest
      pub count : ear.count ≡ count_up (length messages)
      pub ended : ear.ended ≡ is_ended back.end
      pub link_is : ear.link ≡ link
      pub end : MayEnd back.end page_bytes given back.reader messages rest

    -- a link that is still heard goes on, or ends
    abbrev pub GoesOn : ℕ → S → Link → Option (LinkEnd K) → Hearing S → Type 0
    GoesOn page_bytes given link answer now =
        MatchOption answer ((gs : List (Msg × List ℕ)) × IsHearing page_bytes given link now gs)
        (λ end. IsHeard page_bytes given link (left_by now.reader end) now.ear)

    -- whatever was heard before
    abbrev pub Steps : Hearing S → Option (LinkEnd K) → Hearing S → Type 0
    Steps old answer now =
        (page_bytes : ℕ) (given : S) (link : Link) (gs : List (Msg × List ℕ)) → IsHearing page_bytes given link old gs
        → GoesOn page_bytes given link answer now
