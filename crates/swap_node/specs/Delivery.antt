-- What a delivery answers, and the ear that it is made with.
use Rattle.std.specs.Prelude.{◌≡◌, ℕ, true, false, List, Option, None, Some}
use Rattle.swap_base.specs.declared.Link.{Link}
use Rattle.swap_io.specs.Memory.{raise}
use Rattle.swap_wire.specs.declared.Msg.{Msg}
use Rattle.swap_node.specs.declared.node.Delivered.{Delivered}
use Rattle.swap_node.specs.declared.node.Delivered.TheVariants.{Fine, End, Down}
use Rattle.swap_node.specs.declared.node.Ear.{Ear}
use Rattle.swap_node.specs.Boards.{line_at, with_line, is_down}
use Rattle.swap_node.specs.NodeView.{NodeView, is_welcome, Departs, Serves}

module _ {K : Type 0} (taken : K → Option (List ℕ)) (faults : K → ℕ) where
  -- the outlet of a link is given up where a put on it failed; else a message that the link may not send ends it, and
  -- one
  -- that it may send is served
  abbrev pub Delivers : NodeView K → Link → Msg → List ℕ → Delivered K → NodeView K → Type 0
  Delivers o link m page (Down outlet) now =
      (line_at o.board link ≡ Some outlet) × (outlet.failed ≡ true)
      × (now ≡ record o { board = with_line o.board link None })
  Delivers o link m page End now =
      (is_down (line_at o.board link) ≡ false) × (is_welcome o.core link m page ≡ false)
      × Departs taken faults o link now
  Delivers o link m page Fine now =
      (is_down (line_at o.board link) ≡ false) × (is_welcome o.core link m page ≡ true)
      × Serves taken faults o link m page now

-- one message more was delivered with it
abbrev pub heard_one : {K : Type 0} → Delivered K → Ear → Ear
heard_one Fine ear = record ear { count = raise ear.count; ended = false }
heard_one End ear = record ear { count = raise ear.count; ended = true }
heard_one (Down outlet) ear = record ear { count = raise ear.count; ended = false }
