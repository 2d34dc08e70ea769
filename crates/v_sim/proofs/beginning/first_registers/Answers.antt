use Rattle.std.proofs.Common.{◌∙◌, sym, ap, subst}
use Rattle.wb_terms.specs.Environment.{AreOfSorts}
use Rattle.v_design.specs.Seen.{parts_of}
use Rattle.v_design.specs.Parts.{registers_of}
use Rattle.ila_sim.specs.Outcomes.{with_all}
use Rattle.v_sim.specs.Texts.{zeros}
use Rattle.v_sim.proofs.Sorted.{registers_sorted, zeros_sorted}
use Rattle.v_sim.proofs.beginning.first_registers.Goals as goal

pub returns-clause-sorted : goal.returns-clause-sorted
returns-clause-sorted c =
    let e = parts_of c.args.design.now in
    let ns = registers_of e in
    let sets = c.args.sets.now in
    subst (AreOfSorts ns) (sym (c.set_all.ensures ∙ ap (λ xs. with_all xs sets) c.in_ok-values.ensures)) (registers_sorted ns e.bits (zeros ns) sets (zeros_sorted ns) c.requires)
