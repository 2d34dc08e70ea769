use Rattle.std.proofs.Common.{◌∙◌, sym, subst, arith}
use Rattle.wb_terms.specs.Environment.{AreOfSorts}
use Rattle.v_design.specs.Parts.{registers_of}
use Rattle.shown_facts.specs.Values.{model_in, map_in, values_in}
use Rattle.shown_facts.specs.Noted.{IsSeenFrom}
use Rattle.shown_facts.proofs.shown.show.Goals as goal

pub seen_from-requires-clause-registers : goal.seen_from-requires-clause-registers
seen_from-requires-clause-registers c =
    subst (AreOfSorts (registers_of (map_in c.args.given.now).parts)) (sym c.registers.ensures) c.in_ok-running.ensures.made.registers

pub run_on-requires-clause-order : goal.run_on-requires-clause-order
run_on-requires-clause-order c = omega (arith, c.requires.later)

pub run_on-requires-clause-run : goal.run_on-requires-clause-run
run_on-requires-clause-run c = c.in_ok-running.ensures

pub returns-clause-shown : goal.returns-clause-shown
returns-clause-shown c =
    let g = c.args.given.now in
    record {
      rows_are = c.in_ok-run_on.ensures.rows_are;
      count = c.in_ok-run_on.ensures.count;
      first_is = c.in_ok-first.ensures;
      later_is = subst (λ rs. IsSeenFrom (model_in g) (map_in g) rs c.in_ok-seen.seen) (c.registers.ensures ∙ c.in_ok-running.ensures.reaches) c.in_ok-seen.ensures;
      inputs_are = c.in_ok-inputs.ensures.values;
      inputs_sorted = c.in_ok-inputs.ensures.sorted;
    }
