use Rattle.std.proofs.Common.{◌≡◌, ◌∙◌, None, true, sym, ap, subst}
use Rattle.std.proofs.lemmas.Bool.{and_parts}
use Rattle.term_evaluation.specs.Links.{valuation_at}
use Rattle.ila_model.specs.Sorted.{is_condition}
use Rattle.ila_model.proofs.Declarations.{sorted}
use Rattle.ila_child.specs.Updating.{with_updates, are_updates_of}
use Rattle.ila_child.proofs.Updates.{are_updates-of}
use Rattle.ila_child.proofs.Machines.{IsSorted, sorted_at}
use Rattle.ila_child.proofs.Movement.{gone_on}
use Rattle.ila_child.proofs.runs.start.Goals as goal

pub update-requires-clause-updates : goal.update-requires-clause-updates
update-requires-clause-updates c =
    let p = c.args.model.now.parts in
    let s = sorted p c.args.model.now.well_sorted in
    let x = c.index-instruction.result.now in
    let top = and_parts (is_condition p None p.valid.0) _ s.top in
    let this = subst (IsSorted p None) (sym c.index-instruction.ensures) (sorted_at p None 0 p.instructions.items c.args.place x top.1 c.requires.place) in
    subst (λ us. are_updates_of p.terms 0 us ≡ true) (sym c.deref.ensures.value) (are_updates-of p None 0 x.updates.items this.updates)

pub run_program-requires-clause-linked : goal.run_program-requires-clause-linked
run_program-requires-clause-linked c =
    let p = c.args.model.now.parts in
    let s = sorted p c.args.model.now.well_sorted in
    let x = c.index-instruction.result.now in
    let top = and_parts (is_condition p None p.valid.0) _ s.top in
    let this = subst (IsSorted p None) (sym c.index-instruction.ensures) (sorted_at p None 0 p.instructions.items c.args.place x top.1 c.requires.place) in
    this.linked

pub returns-clause-started : goal.returns-clause-started
returns-clause-started c =
    let p = c.args.model.now.parts in
    let s = sorted p c.args.model.now.well_sorted in
    let x = c.index-instruction.result.now in
    let xs = c.args.point.now.values in
    let made = c.in_ok-update.ensures.values ∙ ap (λ us. with_updates p.terms (valuation_at p.terms xs) us xs) c.deref.ensures.value in
    gone_on p s c.args.place x xs c.update.new.point.values c.run_program.new.point.values c.in_ok-trouble.trouble c.requires.place c.index-instruction.ensures
    c.requires.fits made c.in_ok-trouble.ensures.fits c.in_ok-trouble.ensures.run
