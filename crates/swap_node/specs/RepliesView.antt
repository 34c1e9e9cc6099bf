-- What a lender's messages are written to: a sink, and whether a message that was put failed.
use Rattle.std.specs.Prelude.{◌≡◌, ℕ, ◌≤◌, Bool, true, false, List, Option}
use Rattle.std.specs.Io.KnownBytes.{Appends}
use Rattle.swap_io.specs.Causes.{Rose, AppendsFront}
use Rattle.swap_wire.specs.Frames.{frame, page_with}
use Rattle.swap_wire.specs.Fabric.{Parcel}

pub record RepliesView (K : Type 0) : Type 0 where
  pub sink : K
  pub page_bytes : ℕ
  pub failed : Bool

-- the frame of a message with its page
abbrev pub frame_of : Parcel → List ℕ
frame_of p = frame p.msg (page_with p.msg p.page)

module _ {K : Type 0} (taken : K → Option (List ℕ)) (faults : K → ℕ) where
  -- a put that failed left a front of the frame, and its sink has a fault more; else the sink took the frame
  abbrev pub Leaves : K → List ℕ → K → Bool → Type 0
  Leaves sink bytes now true = AppendsFront (taken sink) (taken now) bytes × Rose (faults sink) (faults now)
  Leaves sink bytes now false = Appends (taken sink) (taken now) bytes

  -- a frame is put on an outlet
  pub record Puts (before : RepliesView K) (bytes : List ℕ) (now : RepliesView K) : Type 0 where
    pub leaves : Leaves before.sink bytes now.sink now.failed
    pub later : faults before.sink ≤ faults now.sink
    pub page_bytes : now.page_bytes ≡ before.page_bytes
