-- What holds of each row of the table holds of every call.
use Rattle.std.proofs.Common.{◌≡◌, ℕ, Bool, true, false, if◌then◌else◌, List, Option, None, Some, refl, map}
use Rattle.swap_base.specs.declared.Link.{Link}
use Rattle.swap_base.specs.declared.Slab.{Slab}
use Rattle.swap_base.specs.declared.Lease.{Lease}
use Rattle.swap_wire.specs.declared.Msg.{Msg}
use Rattle.swap_wire.specs.declared.Msg.TheVariants as msg
use Rattle.std.specs.Prelude.{option_map}
use Rattle.swap_evict.specs.Rounds.{answer}
use Rattle.swap_lender.specs.Lender.{Lender, has_greeted, lends, slot_of}
use Rattle.swap_lender.specs.Table.{Turn, quiet_turn, hello, may_hello, query, borrow, may_borrow, write, read, may_reach, rates, may_rates, done_after, may_done, took_after, slots_due, settle, settle_with, opens, open_round, asked_slots, measure_after, host, gone_after, free_slot, round_left, without_peer}

pub choose : (P : Turn → Type 0) (b : Bool) (t u : Turn) → (b ≡ true → P t) → P u → P (if b then t else u)
choose P b t u when otherwise =
    elim b as (λ v. (v ≡ true → P t) → P (if v then t else u)) [ true ↦ λ when. when refl | false ↦ λ when. otherwise ] when

pub record EachRow (P : Turn → Type 0) (l : Lender) (link : Link) (page : List ℕ) : Type 0 where
  pub quiet : P (quiet_turn l)
  pub hello : P (hello l link)
  pub query : (slab : Slab) → P (query l link slab)
  pub borrow : (slab : Slab) → may_borrow l link slab ≡ true → P (borrow l link slab)
  pub write : (lease : Lease) (place : ℕ) → P (write l link lease place page)
  pub read : (lease : Lease) (place : ℕ) → P (read l link lease place)
  pub rates : (lease : Lease) (value : ℕ) → P (rates l link lease value)
  pub done : (lease : Lease) → may_done l link lease ≡ true → P (done_after l link lease)

pub took_each : (P : Turn → Type 0) (l : Lender) (link : Link) (m : Msg) (page : List ℕ) → EachRow P l link page → P (took_after l link m page)
took_each P l link (msg.Hello version page_bytes pages_per_slab) page r =
    choose P (may_hello l link version page_bytes pages_per_slab) (hello l link) (quiet_turn l) (λ _. r.hello) r.quiet
took_each P l link (msg.Query slab) page r = choose P (has_greeted l link) (query l link slab) (quiet_turn l) (λ _. r.query slab) r.quiet
took_each P l link (msg.Borrow slab) page r = choose P (may_borrow l link slab) (borrow l link slab) (quiet_turn l) (r.borrow slab) r.quiet
took_each P l link (msg.Write lease place) page r =
    choose P (may_reach l link lease place) (write l link lease place page) (quiet_turn l) (λ _. r.write lease place) r.quiet
took_each P l link (msg.Read lease place) page r =
    choose P (may_reach l link lease place) (read l link lease place) (quiet_turn l) (λ _. r.read lease place) r.quiet
took_each P l link (msg.Rates lease value) page r =
    choose P (may_rates l link lease) (rates l link lease value) (quiet_turn l) (λ _. r.rates lease value) r.quiet
took_each P l link (msg.Done lease) page r = choose P (may_done l link lease) (done_after l link lease) (quiet_turn l) (r.done lease) r.quiet
took_each P l link (msg.Room slab free) page r = r.quiet
took_each P l link (msg.Lent slab lease) page r = r.quiet
took_each P l link (msg.Refused slab) page r = r.quiet
took_each P l link (msg.Wrote lease place) page r = r.quiet
took_each P l link (msg.PageIs lease place) page r = r.quiet
took_each P l link (msg.AskRates lease) page r = r.quiet
took_each P l link (msg.Evict lease) page r = r.quiet

settle_case : (P : Turn → Type 0) (l : Lender) (o : Option ℕ) → P (quiet_turn l) → ((set : ℕ) → P (settle_with l (Some set))) → P (settle_with l o)
settle_case P l None still closed = still
settle_case P l (Some set) still closed = closed set

pub settle_each : (P : Turn → Type 0) (l : Lender) → P (quiet_turn l) → ((set : ℕ) → P (settle_with l (Some set))) → P (settle l)
settle_each P l still closed = settle_case P l (slots_due l.round) still closed

pub host_each :
    (P : Turn → Type 0) (l : Lender) (usage word : ℕ) → P (quiet_turn (measure_after l usage))
    → P (open_round (measure_after l usage) (asked_slots (measure_after l usage) word))
    → P (host l usage word)
host_each P l usage word still opened =
    choose P (opens (measure_after l usage)) (open_round (measure_after l usage) (asked_slots (measure_after l usage) word))
    (quiet_turn (measure_after l usage)) (λ _. opened) still

-- no call changes what a lender is made for

abbrev SameSizes : Lender → Turn → Type 0
SameSizes l t = t.lender.lending ≡ l.lending

pub took_lending : (l : Lender) (link : Link) (m : Msg) (page : List ℕ) → (took_after l link m page).lender.lending ≡ l.lending
took_lending l link m page =
    took_each (SameSizes l) l link m page
    (record {
      quiet = refl;
      hello = refl;
      query = λ slab. refl;
      borrow = λ slab may. choose (SameSizes l) (lends l) _ _ (λ _. refl) refl;
      write = λ lease place. refl;
      read = λ lease place. refl;
      rates = λ lease value. settle_each (SameSizes l) (record l { round = option_map (answer (slot_of l link lease) value) l.round }) refl (λ set. refl);
      done = λ lease may. refl;
    })

pub host_lending : (l : Lender) (usage word : ℕ) → (host l usage word).lender.lending ≡ l.lending
host_lending l usage word = host_each (SameSizes l) l usage word refl refl

pub gone_lending : (l : Lender) (link : Link) → (gone_after l link).lender.lending ≡ l.lending
gone_lending l link =
    settle_each (SameSizes l)
    (record l { slots = map (free_slot link) l.slots; peers = without_peer link l.peers; round = option_map (round_left link l.slots) l.round }) refl
    (λ set. refl)
