-- The next line is in the walk's part, or is passed over.
use Rattle.std.proofs.Common.{◌∷◌, ap, sym, ◌∙◌, length, None, Some}
use Rattle.swap_script.specs.Reading.{inputs_of, input_of, part_of}
use Rattle.swap_script.specs.Spelled.{spelled_line}
use Rattle.swap_script.proofs.Parts.{part_of-cons, reads_line, reads_rest}
use Rattle.swap_script.proofs.script.Walk.next_line.Goals as goal

pub returns-in-Some-line_in-clause-next : goal.returns-in-Some-line_in-clause-next
returns-in-Some-line_in-clause-next c =
    let w = c.looking.self-inside in
    let line = spelled_line c.in-Some-line_in.line in
    let rest = part_of w.part (inputs_of w.grammar w.geometry c.next.new.self) in
    c.looking.invariant.inputs ∙ ap (λ l. part_of w.part (inputs_of w.grammar w.geometry l)) c.in-Some.ensures
    ∙ part_of-cons w.part w.grammar w.geometry c.in-Some.kept.line c.in-Some.kept.text.now c.next.new.self (Some line) c.in-Some-line_in.ensures.line
    ∙ ap (λ s. input_of s line ∷ rest) (sym c.looking.invariant.sizes)

pub returns-in-Some-line_in-clause-reads : goal.returns-in-Some-line_in-clause-reads
returns-in-Some-line_in-clause-reads c =
    let w = c.looking.self-inside in
    reads_line w.part w.grammar w.geometry _ w.lenders _ c.in-Some.kept.line c.in-Some.kept.text.now c.next.new.self w.place
    (spelled_line c.in-Some-line_in.line) c.looking.invariant.sizes c.looking.invariant.lenders c.in-Some.ensures c.looking.invariant.reads
    c.in-Some-line_in.ensures.line

pub looking-preserved : goal.looking-preserved
looking-preserved c =
    let w = c.looking.self-inside in
    record {
      sizes = c.looking.invariant.sizes;
      lenders = c.looking.invariant.lenders;
      inputs = c.looking.invariant.inputs ∙ ap (λ l. part_of w.part (inputs_of w.grammar w.geometry l)) c.in-Some.ensures
          ∙ part_of-cons w.part w.grammar w.geometry c.in-Some.kept.line c.in-Some.kept.text.now c.next.new.self None c.in_default-line_in.ensures.line;
      reads = reads_rest w.grammar w.geometry
          (length w.lenders) c.in-Some.kept.line c.in-Some.kept.text.now c.next.new.self w.place c.in-Some.ensures c.looking.invariant.reads;
      may = c.looking.invariant.may;
    }
