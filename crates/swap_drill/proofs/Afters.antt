-- Worlds after lists of events.
use Rattle.std.proofs.Common.{◌≡◌, ℕ, Bool, true, false, cond, List, [], ◌∷◌, ◌++◌, refl, sym, ap, ◌∙◌, arith}
use Rattle.swap_wire.specs.Input.{Input}
use Rattle.swap_wire.specs.declared.Event.{Event}
use Rattle.swap_wire.specs.declared.Event.TheVariants as event
use Rattle.swap_wire.specs.declared.Seen.{Seen}
use Rattle.swap_disk.specs.MemDiskView as drive
use Rattle.swap_disk.specs.MemDiskView.{MemDiskView}
use Rattle.swap_link.specs.Harbor as harbor
use Rattle.swap_link.specs.Harbor.{Harbor}
use Rattle.swap_table.specs.Ports.{run}
use Rattle.swap_table.specs.Device.{Device}
use Rattle.swap_table.specs.Happens.{happens}
use Rattle.swap_world.specs.World.{World, Next, IsEvent, next, next_by, next_of, reach}
use Rattle.swap_world.specs.Laws.{StepsAreNext}
use Rattle.swap_world.specs.Runs.{WorldView, is_new_call}
use Rattle.swap_drill.specs.Drill.{after, plain_input}
use Rattle.swap_drill.specs.Steps.{world_in}

-- one list after another
reach-append : (w : World) (xs ys : List Input) → reach w (xs ++ ys) ≡ reach (reach w xs) ys
reach-append w [] ys = refl
reach-append w (x ∷ xs) ys = reach-append (next w x).world xs ys

pub after-append : (w : World) (xs ys : List Input) → after w (xs ++ ys) ≡ after (after w xs) ys
unfolding after
after-append w xs ys = reach-append w xs ys

pub after-nil : (w : World) → after w [] ≡ w
unfolding after
after-nil w = refl

pub after-one : (w : World) (i : Input) → after w (i ∷ []) ≡ (next w i).world
unfolding after
after-one w i = refl

-- only a page-out reads the page that is handed in
happens-plain : (d : Device) (page : List ℕ) (e : Event) → is_new_call e ≡ 0 → happens d page e ≡ happens d [] e
happens-plain d page (event.PageOut c p) none = absurd (omega (arith, none))
happens-plain d page (event.PageIn c p) none = refl
happens-plain d page (event.Finish c) none = refl
happens-plain d page event.Start none = refl
happens-plain d page (event.Disk w ok) none = refl
happens-plain d page (event.Tick w) none = refl
happens-plain d page (event.Map s l) none = refl
happens-plain d page (event.Connect l) none = refl
happens-plain d page (event.Give l) none = refl
happens-plain d page (event.Take l) none = refl
happens-plain d page (event.Cut l a b) none = refl
happens-plain d page (event.Crash l) none = refl
happens-plain d page (event.Host l u w) none = refl
happens-plain d page (event.Round w) none = refl

next-plain : (w : World) (page : List ℕ) (e : Event) → is_new_call e ≡ 0 → next_by w page e ≡ next_by w [] e
next-plain w page e none = go e (happens-plain w.device page e none)
  where
    go : (e : Event) → happens w.device page e ≡ happens w.device [] e → next_by w page e ≡ next_by w [] e
    go (event.Round word) same = refl
    go e same = ap (λ p. next_of (run drive.ask harbor.ask p w.drive w.harbor)) same

-- an event that is no call
pub after_plain : (w : World) (page : List ℕ) (e : Event) (w' : World) (s : Seen) → is_new_call e ≡ 0
    → next w (record { event = e; page = page }) ≡ record { world = w'; seen = s } → w' ≡ after w (plain_input e ∷ [])
after_plain w page e w' s none is =
    sym (ap (λ (n : Next). n.world) is) ∙ ap (λ (n : Next). n.world) (next-plain w page e none) ∙ sym (after-one w (plain_input e))

-- an event of the code is the next of the function
pub steps_to : StepsAreNext → (now now' : WorldView MemDiskView Harbor) (i : Input) (s : Seen)
    → IsEvent drive.Moves harbor.Moves now.core.device now.core.disk now.core.fabric i s now'.core.device now'.core.disk now'.core.fabric
    → next (world_in now) i ≡ record { world = world_in now'; seen = s }
steps_to steps now now' i s step = steps now.core.device now'.core.device now.core.disk now'.core.disk now.core.fabric now'.core.fabric i s step

-- one list, and then another
pub and_then : (w w1 w2 : World) (xs ys : List Input) → w1 ≡ after w xs → w2 ≡ after w1 ys → w2 ≡ after w (xs ++ ys)
and_then w w1 w2 xs ys p q = q ∙ ap (λ v. after v ys) p ∙ sym (after-append w xs ys)

-- a list that is made where a test holds
pub after_if : (b : Bool) (w w' : World) (xs : List Input) → b ≡ true → w' ≡ after w xs → w' ≡ after w (cond b xs [])
after_if true w w' xs is p = p
after_if false w w' xs is p = cc

pub after_unless : (b : Bool) (w : World) (xs : List Input) → b ≡ false → w ≡ after w (cond b xs [])
after_unless true w xs is = cc
after_unless false w xs is = sym (after-nil w)
