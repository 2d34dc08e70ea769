use Rattle.std.proofs.Common.{◌∙◌, map, sym, ap, subst}
use Rattle.std.specs.Prelude.{All, IsTrue}
use Rattle.wb_values.specs.Value.{truth, as_truth}
use Rattle.wb_terms.specs.declared.nodes.TermId.{TermId}
use Rattle.wb_terms.specs.Environment.{value_of}
use Rattle.ila_model.specs.Model.{model_of}
use Rattle.v_design.specs.Parts.{is_term_of}
use Rattle.mapped_designs.specs.declared.design.MappedInstruction.{MappedInstruction as CodeInstruction}
use Rattle.mapped_designs.specs.Mapped.{MappedInstruction}
use Rattle.mapped_designs.specs.View.{number_of, instruction_view}
use Rattle.shown_facts.proofs.Noting.{fused, reset_term, start_term, assume_terms, commit_terms}
use Rattle.shown_facts.proofs.rows.row_of.Goals as goal

pub bit_of-reset-requires-clause-condition : goal.bit_of-reset-requires-clause-condition
bit_of-reset-requires-clause-condition c = reset_term (model_of c.args.model.now) c.args.mapped.now c.requires.sorted

pub bit_of-start-requires-clause-condition : goal.bit_of-start-requires-clause-condition
bit_of-start-requires-clause-condition c = start_term (model_of c.args.model.now) c.args.mapped.now c.requires.sorted

pub bits_of-requires-clause-conditions : goal.bits_of-requires-clause-conditions
bits_of-requires-clause-conditions c =
    subst (All (λ (id : TermId). IsTrue (is_term_of c.args.mapped.now.design.terms truth id.0))) (sym c.deref.ensures.value)
    (assume_terms (model_of c.args.model.now) c.args.mapped.now c.requires.sorted)

pub commit_bits-requires-clause-conditions : goal.commit_bits-requires-clause-conditions
commit_bits-requires-clause-conditions c =
    subst (All (λ (i : CodeInstruction). IsTrue (is_term_of c.args.mapped.now.design.terms truth i.commit.0))) (sym c.deref-2.ensures.value)
    (commit_terms (model_of c.args.model.now) c.args.mapped.now c.requires.sorted)

pub returns : goal.returns
returns c =
    let g = c.args.mapped.now.design.terms in
    let e = c.args.cycle.now.env in
    record {
      reset_is = c.bit_of-reset.ensures;
      start_is = c.bit_of-start.ensures;
      assume_is =
          c.in_ok-assume.ensures ∙ (ap (map (λ (id : TermId). as_truth (value_of g e id.0))) c.deref.ensures.value
          ∙ sym (fused (λ k. as_truth (value_of g e k)) number_of c.args.mapped.now.assume.items));
      commits_are =
          c.in_ok-commits.ensures ∙ (ap (map (λ (i : CodeInstruction). as_truth (value_of g e i.commit.0))) c.deref-2.ensures.value
          ∙ sym (fused (λ (i : MappedInstruction). as_truth (value_of g e i.commit)) instruction_view c.args.mapped.now.instructions.items));
    }
