-- A call in memory: a place for a page stands ready for each caller, and holds nothing where no page is kept.
use Rattle.std.specs.Prelude.{ℕ, if◌then◌else◌, List, [], map}
use Rattle.swap_calls.specs.declared.CallState.{CallState}
use Rattle.swap_calls.specs.Calls.{Call, Calls, keeps_page}

pub record Kept : Type 0 where
  pub state : CallState
  pub page : List ℕ

-- the call that it stands for
abbrev pub call_in : Kept → Call
call_in kept = record { state = kept.state; bytes = (if keeps_page kept.state then kept.page else []) }

abbrev pub calls_in : List Kept → Calls
calls_in all = map call_in all

-- a place with another state
abbrev pub in_state : (CallState → CallState) → Kept → Kept
in_state f kept = record { state = f kept.state; page = kept.page }
