-- What keeps the limits may be lent.
use Rattle.std.specs.Prelude.{◌≡◌, ◌*◌, ◌<◌, ◌≤◌, ◌^◌, true}
use Rattle.swap_options.specs.declared.lend.LendOptions.{LendOptions}
use Rattle.swap_options.specs.Lend.{keeps_limits}

-- a lender may be made of these, and its slots' bytes can be counted
pub record MayLend (o : LendOptions) : Type 0 where
  pub some : 1 ≤ o.spec.slots
  pub few : o.spec.slots ≤ 64
  pub headroom : o.spec.headroom ≤ 64
  pub extra : o.spec.extra ≤ 64
  pub least : 8 ≤ o.page_bytes
  pub most : o.page_bytes ≤ 4096
  pub bytes : o.spec.slots * (o.pages_per_slab * o.page_bytes) < 2 ^ 64

abbrev pub LimitsLetLend : Type 0
LimitsLetLend = (o : LendOptions) → keeps_limits o ≡ true → MayLend o
