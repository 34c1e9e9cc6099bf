use Rattle.std.proofs.Common.{◌≡◌, map, length, drop}
use Rattle.swap_options.specs.Play.{addresses_of}
use Rattle.swap_options.proofs.Lists.{put_all}
use Rattle.swap_options.proofs.play.addresses_of.Given as goal

-- what was read, before what the rest gives
abbrev pub invariant-parts : goal.invariant-parts
invariant-parts l = record {
  read : addresses_of (map (λ part. part.now) l.parts) ≡ put_all l.list.items (addresses_of (map (λ part. part.now) (drop l.part-index l.parts)));
  number : length l.list.items ≡ l.part-index;
}
