-- What the sink behind one that gathers took, by how a call ends.
use Rattle.std.proofs.Common.{◌≡◌, ℕ, ◌≤◌, true, false, Bool, List, [], ◌++◌, length, take, refl, sym, ap, ◌∙◌, subst, arith, Option, None, Some, inl, inr, append-nil, length-append}
use Rattle.std.specs.Io.KnownBytes.{Appends, Keeps, append_known}
use Rattle.std.proofs.KnownBytes.{Appends-kept}
use Rattle.std.proofs.lemmas.List.{take_at, take_all, take-take, length-take, nil_from_length}
use Rattle.swap_io.specs.Causes.{Rose, AppendsFront}
use Rattle.swap_io.specs.Gathered.{Gathered, gathered_bytes}
use Rattle.swap_run.specs.declared.Ending.{Ending}
use Rattle.swap_run.specs.declared.Ending.TheVariants as ending
use Rattle.swap_run.specs.Clause.{Stream, stream, ScriptEnds, RanScript, BrokeOff}
use Rattle.swap_run.specs.Run.{transcript_of}
use Rattle.swap_run.specs.Blocks.{IsFresh, is_whole, LastWrite, HandsOnAt, HandsOn}

-- the front of what was gathered that was handed on is a front of it
front_of : (y held text : List ℕ) (n : ℕ) → y ++ held ≡ take n text → y ≡ take (length y) text
front_of y held text n e =
    let short : length y ≤ n = omega (arith, ap length e, length-append y held, length-take n text) in
    sym (take_at y held (length y) refl) ∙ ap (λ r. take (length y) r) e ∙ take-take (length y) n text short

pub out_front :
    (before mid : Option (List ℕ)) (held text : List ℕ) → IsFresh before → AppendsFront (append_known before []) (append_known mid held) text
    → AppendsFront before mid text
out_front None mid held text fresh p = (0, tt)
out_front (Some x) None held text fresh p = absurd p.1
out_front (Some x) (Some y) held text fresh p =
    let whole : y ++ held ≡ take p.0 text = p.1 ∙ ap (λ r. (r ++ []) ++ take p.0 text) fresh in
    (length y, front_of y held text p.0 whole ∙ ap (λ r. r ++ take (length y) text) (sym fresh))

pub out_all :
    (before mid now : Option (List ℕ)) (held text : List ℕ) → held ≡ [] → Appends (append_known before []) mid text → Keeps mid (append_known now held)
    → Appends before now text
out_all None mid now held text none p q = tt
out_all (Some x) None now held text none p q = absurd p
out_all (Some x) (Some g) None held text none p q = absurd q
out_all (Some x) (Some g) (Some y) held text none p q =
    sym (append-nil y) ∙ ap (λ r. y ++ r) (sym none) ∙ q ∙ p ∙ ap (λ r. r ++ text) (append-nil x)

pub out_nothing : (before mid : Option (List ℕ)) (held : List ℕ) → IsFresh before → Keeps (append_known before []) (append_known mid held) → Keeps before mid
out_nothing None mid held fresh p = tt
out_nothing (Some x) None held fresh p = absurd p
out_nothing (Some x) (Some y) held fresh p =
    nil_from_length y (omega (arith, ap length (p ∙ append-nil x ∙ fresh), length-append y held)) ∙ sym fresh

pub all_is_front : (before now : Option (List ℕ)) (text : List ℕ) → Appends before now text → AppendsFront before now text
all_is_front before now text p = (length text, subst (λ r. Appends before now r) (sym (take_all (length text) text (omega arith))) p)

-- a call that ends without a whole transcript
other_ends : (source : Stream) (before mid : Option (List ℕ)) (held : List ℕ) (f g : ℕ) (end : Ending) → IsFresh before → is_whole end ≡ false
    → ScriptEnds source (stream (append_known before []) (append_known mid held) f g) end → ScriptEnds source (stream before mid f g) end
other_ends source before mid held f g ending.Done fresh other p = cc
other_ends source before mid held f g ending.Faulted fresh other p = cc
other_ends source before mid held f g ending.Usage fresh other p = absurd p
other_ends source before mid held f g ending.ReadFailed fresh other p = (p.0, out_nothing before mid held fresh p.1)
other_ends source before mid held f g ending.WriteFailed fresh other p =
    record { script = p.script; read = p.read; wrote = out_front before mid held (transcript_of p.script) fresh p.wrote; failed = p.failed }
other_ends source before mid held f g (ending.Refused r) fresh other p = (p.0, out_nothing before mid held fresh p.1)
other_ends source before mid held f g ending.NoMemory fresh other p = out_nothing before mid held fresh p
other_ends source before mid held f g ending.NotLegal fresh other p = absurd p
other_ends source before mid held f g ending.HostFailed fresh other p = absurd p
other_ends source before mid held f g ending.TooLong fresh other p = (p.0, out_nothing before mid held fresh p.1)

-- a transcript that was gathered whole and handed on, or not
ran_whole :
    (source : Stream) (before : Option (List ℕ)) (f : ℕ) (mid now : Gathered) (fault : Bool) → now.held ≡ [] → Keeps (gathered_bytes mid) (gathered_bytes now)
    → RanScript source (stream (append_known before []) (gathered_bytes mid) f mid.faults) fault
    → RanScript source (stream before now.handed f now.faults) fault
ran_whole source before f mid now fault none kept p = record {
  script = p.script;
  read = p.read;
  wrote = out_all before (gathered_bytes mid) now.handed now.held (transcript_of p.script) none p.wrote kept;
  fault = p.fault;
  headline = p.headline;
  read_back = p.read_back;
}

broke_off :
    (source : Stream) (before : Option (List ℕ)) (f : ℕ) (mid now : Gathered) (fault : Bool) → IsFresh before → Keeps (gathered_bytes mid) (gathered_bytes now)
    → f ≤ mid.faults → Rose mid.faults now.faults → RanScript source (stream (append_known before []) (gathered_bytes mid) f mid.faults) fault
    → BrokeOff source (stream before now.handed f now.faults)
broke_off source before f mid now fault fresh kept later rose p = record {
  script = p.script;
  read = p.read;
  wrote =
      out_front before now.handed now.held (transcript_of p.script) fresh
      (all_is_front (append_known before []) (gathered_bytes now) (transcript_of p.script)
      (Appends-kept (append_known before []) (gathered_bytes mid) (gathered_bytes now) (transcript_of p.script) p.wrote kept));
  failed = omega (arith, later, rose);
}

whole_ends :
    (source : Stream) (before : Option (List ℕ)) (f : ℕ) (mid now : Gathered) (ran end : Ending) → IsFresh before → f ≤ mid.faults → is_whole ran ≡ true
    → LastWrite ran mid now end
    → ScriptEnds source (stream (append_known before []) (gathered_bytes mid) f mid.faults) ran → ScriptEnds source (stream before now.handed f now.faults) end
whole_ends source before f mid now ending.Done end fresh later whole last p =
    elim last.1 [
      | inl same ↦
          subst (λ e. ScriptEnds source (stream before now.handed f now.faults) e) (sym same.0) (ran_whole source before f mid now false same.1 last.0 p)
      | inr failed ↦
          subst (λ e. ScriptEnds source (stream before now.handed f now.faults) e) (sym failed.0)
          (broke_off source before f mid now false fresh last.0 later failed.1 p)
    ]
whole_ends source before f mid now ending.Faulted end fresh later whole last p =
    elim last.1 [
      | inl same ↦
          subst (λ e. ScriptEnds source (stream before now.handed f now.faults) e) (sym same.0) (ran_whole source before f mid now true same.1 last.0 p)
      | inr failed ↦
          subst (λ e. ScriptEnds source (stream before now.handed f now.faults) e) (sym failed.0)
          (broke_off source before f mid now true fresh last.0 later failed.1 p)
    ]
whole_ends source before f mid now ending.Usage end fresh later whole last p = cc
whole_ends source before f mid now ending.ReadFailed end fresh later whole last p = cc
whole_ends source before f mid now ending.WriteFailed end fresh later whole last p = cc
whole_ends source before f mid now (ending.Refused r) end fresh later whole last p = cc
whole_ends source before f mid now ending.NoMemory end fresh later whole last p = cc
whole_ends source before f mid now ending.NotLegal end fresh later whole last p = absurd p
whole_ends source before f mid now ending.HostFailed end fresh later whole last p = cc
whole_ends source before f mid now ending.TooLong end fresh later whole last p = cc

hands_on_at :
    (b : Bool) (source : Stream) (before : Option (List ℕ)) (f : ℕ) (mid now : Gathered) (ran end : Ending) → is_whole ran ≡ b → IsFresh before → f ≤ mid.faults
    → HandsOnAt b ran mid now end
    → ScriptEnds source (stream (append_known before []) (gathered_bytes mid) f mid.faults) ran → ScriptEnds source (stream before now.handed f now.faults) end
hands_on_at true source before f mid now ran end is fresh later hands p = whole_ends source before f mid now ran end fresh later is hands p
hands_on_at false source before f mid now ran end is fresh later hands p =
    subst (λ e. ScriptEnds source (stream before now.handed f now.faults) e) (sym hands.0)
    (subst (λ (s : Gathered). ScriptEnds source (stream before s.handed f s.faults) ran) (sym hands.1)
    (other_ends source before mid.handed mid.held f mid.faults ran fresh is p))

-- how a script's run ends for the sink behind one that gathers
pub ends_in_blocks :
    (source : Stream) (before mid now : Gathered) (ran end : Ending) → before.held ≡ [] → IsFresh before.handed → before.faults ≤ mid.faults
    → HandsOn ran mid now end
    → ScriptEnds source (stream (gathered_bytes before) (gathered_bytes mid) before.faults mid.faults) ran
    → ScriptEnds source (stream before.handed now.handed before.faults now.faults) end
ends_in_blocks source before mid now ran end none fresh later hands p =
    hands_on_at (is_whole ran) source before.handed before.faults mid now ran end refl fresh later hands
    (subst (λ held. ScriptEnds source (stream (append_known before.handed held) (gathered_bytes mid) before.faults mid.faults) ran) none p)
