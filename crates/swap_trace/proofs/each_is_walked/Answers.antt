-- A call's caller is in range.
use Rattle.std.proofs.Common.{ℕ, List, [], ◌∷◌, length, refl, inl, inr}
use Rattle.std.proofs.lemmas.Bool.{eq-eqb}
use Rattle.std.specs.List.{AllByRecursion}
use Rattle.swap_base.specs.Sizes.{Sizes}
use Rattle.swap_wire.specs.Input.{Input, IsInRange}
use Rattle.swap_wire.specs.declared.Event.{Event}
use Rattle.swap_wire.specs.declared.Event.TheVariants as event
use Rattle.swap_trace.specs.Laws.{IsWalked}
use Rattle.swap_trace.proofs.each_is_walked.Goals as goal

walked : (s : Sizes) (lenders : ℕ) (e : Event) → IsInRange s lenders e → IsWalked s e
walked s lenders (event.PageOut c p) range = inl (c, range.0, eq-eqb c.0 c.0 refl)
walked s lenders (event.PageIn c p) range = inl (c, range.0, eq-eqb c.0 c.0 refl)
walked s lenders (event.Finish c) range = inr refl
walked s lenders event.Start range = inr refl
walked s lenders (event.Disk which ok) range = inr refl
walked s lenders (event.Tick word) range = inr refl
walked s lenders (event.Map slab l) range = inr refl
walked s lenders (event.Connect l) range = inr refl
walked s lenders (event.Give l) range = inr refl
walked s lenders (event.Take l) range = inr refl
walked s lenders (event.Cut l a b) range = inr refl
walked s lenders (event.Crash l) range = inr refl
walked s lenders (event.Host l u word) range = inr refl
walked s lenders (event.Round word) range = inr refl

all_walked : (s : Sizes) (lenders : ℕ) (inputs : List Input) → AllByRecursion (λ (i : Input). IsInRange s lenders i.event) inputs
    → AllByRecursion (λ (i : Input). IsWalked s i.event) inputs
all_walked s lenders [] h = tt
all_walked s lenders (i ∷ is) h = (walked s lenders i.event h.0, all_walked s lenders is h.1)

pub returns : goal.returns
returns c = λ tcp text t e. all_walked t.sizes (length t.lenders) t.inputs (c.traces_are_checked.ensures.range tcp text t e)
