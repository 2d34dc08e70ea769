use Rattle.std.proofs.Common.{sym, subst}
use Rattle.wb_terms.specs.Environment.{AreOfSorts}
use Rattle.v_design.specs.Seen.{parts_of}
use Rattle.v_design.specs.Parts.{inputs_of}
use Rattle.shown_facts.proofs.Noting.{zeros_listed, zeros_fit}
use Rattle.shown_facts.proofs.running.zeros_of.Goals as goal

pub returns-clause-values : goal.returns-clause-values
returns-clause-values c =
    zeros_listed (parts_of c.args.design.now) c.in_ok-numbers.numbers.items c.input_count.result c.args.design.now.words c.input_count.ensures
    (c.in_ok-numbers.ensures.items_if_clones_equal (λ y e. e))

pub returns-clause-sorted : goal.returns-clause-sorted
returns-clause-sorted c =
    let d = parts_of c.args.design.now in
    subst (AreOfSorts (inputs_of d))
    (sym (zeros_listed d c.in_ok-numbers.numbers.items c.input_count.result c.args.design.now.words c.input_count.ensures (c.in_ok-numbers.ensures.items_if_clones_equal (λ y e. e))))
    (zeros_fit (inputs_of d))
