-- A lender with the outlets of its links: what is delivered to it, and what it sends.
use Rattle.std.specs.Prelude.{◌≡◌, ℕ, ◌+◌, Bool, true, false, ◌&&◌, ◌==◌, if◌then◌else◌, List, [], ◌∷◌, length, Option, None, Some}
use Rattle.swap_base.specs.declared.Link.{Link}
use Rattle.swap_wire.specs.declared.Msg.{Msg}
use Rattle.swap_wire.specs.Fabric.{Parcel}
use Rattle.swap_lender.specs.Lender.{Lender, lender_at_start, stands}
use Rattle.swap_lender.specs.Table.{took_after, host, gone_after, arrive, may_send}
use Rattle.swap_lender.specs.declared.Lending.{Lending}
use Rattle.rand_pcg.specs.Lcg.{Lcg}
use Rattle.rand_pcg.specs.Pcg.{pcg32}
use Rattle.swap_node.specs.RepliesView.{RepliesView}
use Rattle.swap_node.specs.Boards.{Board, empty_board, with_line, fits_line, PutsAll}

-- how much memory the host uses itself, in slots, how many messages were taken since the last look at it, and the words
-- to choose from
pub record NodeView (K : Type 0) : Type 0 where
  pub core : Lender
  pub board : Board K
  pub used : ℕ
  pub since : ℕ
  pub words : Lcg

-- how many messages are taken from one look at the host to the next
abbrev pub PERIOD : ℕ
PERIOD = 64

abbrev pub office_at_start : {K : Type 0} → Lending → ℕ → Lcg → NodeView K
office_at_start s used words =
    record { core = lender_at_start s; board = empty_board s.links s.page_bytes; used = used; since = 0; words = words }

-- whether the page is one of the lender's, the link is there, and the lender's table lets it send this message now
abbrev pub is_welcome : Lender → Link → Msg → List ℕ → Bool
is_welcome l link m page = (length page == l.lending.page_bytes) && (stands l link && may_send l link m)

-- a link arrives that isn't there
abbrev pub arrive_after : Lender → Link → Lender
arrive_after l link = if stands l link then l else arrive l link

-- what no message changes but by a look at the host
pub record IsBeside {K : Type 0} (o now : NodeView K) : Type 0 where
  pub used : now.used ≡ o.used
  pub since : now.since ≡ o.since
  pub words : now.words ≡ o.words

module _ {K : Type 0} (taken : K → Option (List ℕ)) (faults : K → ℕ) where
  -- the lender is told of each link whose put failed, one after another, and what it then sends is put likewise
  pub data Told : Lender → Board K → Lender → Board K → Type 0 where
    AllTold : (l : Lender) (b : Board K) → b.failed ≡ [] → Told l b l b
    Gone :
        (l : Lender) (b : Board K) (link : Link) (rest : List Link) (mid : Board K) (l' : Lender) (b' : Board K)
        → b.failed ≡ link ∷ rest → PutsAll taken faults (record b { failed = rest }) (gone_after l link).parcels mid
        → Told (gone_after l link).lender mid l' b' → Told l b l' b'

  -- what the lender sends is put, and it is told of the links on which that failed
  pub record Sends (l : Lender) (b : Board K) (parcels : List (Link × Parcel)) (l' : Lender)
      (b' : Board K) : Type 0 where
    pub mid : Board K
    pub puts : PutsAll taken faults b parcels mid
    pub told : Told l mid l' b'

  -- a link is gone, and its outlet with it
  pub record Departs (o : NodeView K) (link : Link) (now : NodeView K) : Type 0 where
    pub sends : Sends (gone_after o.core link).lender (with_line o.board link None)
        (gone_after o.core link).parcels now.core now.board
    pub beside : IsBeside o now

  -- a link arrives with its outlet where that fits; an older one of its number is gone first
  pub record Arrives (o : NodeView K) (link : Link) (outlet : RepliesView K) (now : NodeView K) : Type 0 where
    pub mid : NodeView K
    pub departs : Departs o link mid
    pub is : now
        ≡ (if fits_line mid.board link outlet
        then record mid { core = arrive_after mid.core link; board = with_line mid.board link (Some outlet) } else mid)

  -- a message that the link may send is taken, and what is sent in answer is put
  pub record Takes (o : NodeView K) (link : Link) (m : Msg) (page : List ℕ) (now : NodeView K) : Type 0 where
    pub sends : Sends (took_after o.core link m page).lender o.board (took_after o.core link m page).parcels now.core
        now.board
    pub beside : IsBeside o now

  -- the host is looked at after each 64th message
  pub record Looks (o now : NodeView K) : Type 0 where
    pub sends : Sends (host o.core o.used (pcg32 o.words).0).lender o.board
        (host o.core o.used (pcg32 o.words).0).parcels now.core now.board
    pub used : now.used ≡ o.used
    pub since : now.since ≡ 0
    pub words : now.words ≡ (pcg32 o.words).1

  abbrev pub Counts : Bool → NodeView K → NodeView K → Type 0
  Counts false o now = now ≡ record o { since = o.since + 1 }
  Counts true o now = Looks o now

  pub record Serves (o : NodeView K) (link : Link) (m : Msg) (page : List ℕ) (now : NodeView K) : Type 0 where
    pub mid : NodeView K
    pub takes : Takes o link m page mid
    pub counts : Counts (mid.since + 1 == PERIOD) mid now
