use Rattle.std.proofs.Common.{Option, Some, option_map, sym, ap, ◌∙◌, arith}
use Rattle.model_meaning.specs.Model.{StateDeclaration}
use Rattle.wb_terms.specs.Environment.{as_value}
use Rattle.ila_model.proofs.Declarations.{sorted, declared_states-at, length-declared_states}
use Rattle.ila_model.proofs.model.IlaModel.initial_value.Goals as goal

pub index-requires : goal.index-requires
index-requires c =
    let m = c.args.self.now in
    let d = (sorted m.parts m.well_sorted).declared in
    let w = d.states_within in
    let t = d.within in
    let h = length-declared_states m.parts.terms.names m.parts.initial_values.items w in
    omega (arith, w, h)

pub returns : goal.returns
returns c =
    let m = c.args.self.now in
    let d = (sorted m.parts m.well_sorted).declared in
    let w = d.states_within in
    let t = d.within in
    let h = length-declared_states m.parts.terms.names m.parts.initial_values.items w in
    ap (λ (o : Option StateDeclaration). option_map (λ s. s.init) o) (declared_states-at m.parts.terms.names m.parts.initial_values.items c.args.place c.index.result.now (omega arith) w) ∙ ap (λ i. Some (option_map as_value i)) (sym c.index.ensures)
