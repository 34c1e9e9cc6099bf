-- The parts of one step of a link: a message is delivered, or bytes are fed or read.
use Rattle.std.specs.Prelude.{◌≡◌, ℕ, ◌<◌, ◌≤◌, Bool, false, List, [], ◌++◌, Option, None, Some}
use Rattle.std.specs.Io.KnownBytes.{IsAtEnd}
use Rattle.swap_io.specs.Causes.{Rose, WasRead}
use Rattle.swap_io.specs.Memory.{raise}
use Rattle.swap_wire.specs.declared.Msg.{Msg}
use Rattle.swap_sock.specs.declared.host.LinkEnd.{LinkEnd}
use Rattle.swap_sock.specs.declared.host.LinkEnd.TheVariants as end
use Rattle.swap_node.specs.declared.node.Ear.{Ear}
use Rattle.swap_serve.specs.Hearing.{Hearing, is_ended}

abbrev pub is_ended_by : {K : Type 0} → Option (LinkEnd K) → Bool
is_ended_by None = false
is_ended_by (Some e) = is_ended e

-- a message was delivered: the link goes on, or ends by it, or as a write to it failed
abbrev pub Answers : {K : Type 0} → (K → ℕ) → Msg → Option (LinkEnd K) → Type 0
Answers sink_faults m None = Unit {0}
Answers sink_faults m (Some (end.Ended n)) = n ≡ m
Answers sink_faults m (Some (end.Down sink)) = 0 < sink_faults sink
Answers sink_faults m (Some end.Read) = ⊥
Answers sink_faults m (Some end.ReadFailed) = ⊥
Answers sink_faults m (Some (end.Bad at)) = ⊥

-- and the ear counts it
pub record Hears {K : Type 0} (sink_faults : K → ℕ) (m : Msg) (before : Ear) (answer : Option (LinkEnd K))
    (now : Ear) : Type 0 where
  pub answers : Answers sink_faults m answer
  pub link : now.link ≡ before.link
  pub count : now.count ≡ raise before.count
  pub ended : now.ended ≡ is_ended_by answer

module _ {S : Type 0} (left : S → Option (List ℕ)) (faults : S → ℕ) where
  -- bytes were fed or read: what is kept and ahead goes on with what was read
  pub record Fills (old now : Hearing S) : Type 0 where
    pub bytes : List ℕ
    pub read : WasRead (left old.reader) (left now.reader) bytes
    pub later : faults old.reader ≤ faults now.reader
    pub goes : (old.decoder.rest ++ old.ahead) ++ bytes ≡ now.decoder.rest ++ now.ahead
    pub before : now.decoder.before ≡ old.decoder.before
    pub side : now.decoder.side ≡ old.decoder.side
    pub pages : now.decoder.page_bytes ≡ old.decoder.page_bytes
    pub ear : now.ear ≡ old.ear

  -- nothing more was read, and nothing is ahead
  pub record RunsDry (old now : Hearing S) : Type 0 where
    pub read : WasRead (left old.reader) (left now.reader) []
    pub later : faults old.reader ≤ faults now.reader
    pub ahead : old.ahead ≡ []
    pub same : now ≡ record old { reader = now.reader }

  abbrev pub Reads : {K : Type 0} → Hearing S → Option (LinkEnd K) → Hearing S → Type 0
  Reads old None now = Fills old now
  Reads old (Some end.Read) now = RunsDry old now × IsAtEnd (left now.reader)
  Reads old (Some end.ReadFailed) now = RunsDry old now × Rose (faults old.reader) (faults now.reader)
  Reads old (Some (end.Bad at)) now = ⊥
  Reads old (Some (end.Down sink)) now = ⊥
  Reads old (Some (end.Ended m)) now = ⊥
