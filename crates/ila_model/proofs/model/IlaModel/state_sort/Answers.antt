use Rattle.std.proofs.Common.{Option, None, Some, option_map, sym, ap, ◌∙◌, arith}
use Rattle.model_meaning.specs.Model.{StateDeclaration}
use Rattle.ila_model.proofs.Declarations.{sorted, declared_states-at, length-declared_states}
use Rattle.ila_model.proofs.model.IlaModel.state_sort.Goals as goal

pub name_sort-requires : goal.name_sort-requires
name_sort-requires c =
    let m = c.args.self.now in
    let d = (sorted m.parts m.well_sorted).declared in
    let w = d.states_within in
    let t = d.within in
    let h = length-declared_states m.parts.terms.names m.parts.initial_values.items w in
    omega (arith, w, h)

pub returns-clause-sort : goal.returns-clause-sort
returns-clause-sort c =
    let m = c.args.self.now in
    let d = (sorted m.parts m.well_sorted).declared in
    let w = d.states_within in
    let t = d.within in
    let h = length-declared_states m.parts.terms.names m.parts.initial_values.items w in
    ap (λ (o : Option StateDeclaration). option_map (λ s. s.sort) o) (declared_states-at m.parts.terms.names m.parts.initial_values.items c.args.place None (omega arith) w) ∙ ap Some (sym c.name_sort.ensures.sort)
