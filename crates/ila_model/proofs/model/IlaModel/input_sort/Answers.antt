use Rattle.std.proofs.Common.{Option, Some, option_map, length, drop, sym, ap, ◌∙◌, arith}
use Rattle.std.proofs.lemmas.List.{length-drop}
use Rattle.model_meaning.specs.Model.{InputDeclaration}
use Rattle.ila_model.specs.Sorted.{sort_at}
use Rattle.ila_model.proofs.Declarations.{sorted, declared_inputs-at, length-declared_inputs}
use Rattle.ila_model.proofs.model.IlaModel.input_sort.Goals as goal

pub input_id-requires : goal.input_id-requires
input_id-requires c =
    let m = c.args.self.now in
    let d = (sorted m.parts m.well_sorted).declared in
    let w = d.within in
    let s = length m.parts.initial_values.items in
    let l = length-drop s m.parts.terms.names in
    let h = length-declared_inputs m.parts.inputs (drop s m.parts.terms.names) (omega arith) in
    omega (arith, w, h)

pub name_sort-requires : goal.name_sort-requires
name_sort-requires c =
    let m = c.args.self.now in
    let d = (sorted m.parts m.well_sorted).declared in
    let w = d.within in
    let s = length m.parts.initial_values.items in
    let l = length-drop s m.parts.terms.names in
    let h = length-declared_inputs m.parts.inputs (drop s m.parts.terms.names) (omega arith) in
    omega (arith, w, h)

pub returns-clause-sort : goal.returns-clause-sort
returns-clause-sort c =
    let m = c.args.self.now in
    let d = (sorted m.parts m.well_sorted).declared in
    let w = d.within in
    let s = length m.parts.initial_values.items in
    let l = length-drop s m.parts.terms.names in
    let h = length-declared_inputs m.parts.inputs (drop s m.parts.terms.names) (omega arith) in
    ap (λ (o : Option InputDeclaration). option_map (λ s. s.sort) o) (declared_inputs-at m.parts.inputs s m.parts.terms.names c.args.place (omega arith) w) ∙ ap (λ j. Some (sort_at m.parts.terms.names j)) (sym c.input_id.ensures) ∙ ap Some (sym c.name_sort.ensures.sort)
