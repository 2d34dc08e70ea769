use Rattle.std.proofs.Common.{length, drop, arith}
use Rattle.std.proofs.lemmas.List.{length-drop}
use Rattle.ila_model.proofs.Declarations.{sorted, length-declared_inputs}
use Rattle.ila_model.proofs.model.IlaModel.input_count.Goals as goal

pub returns-clause-inputs : goal.returns-clause-inputs
returns-clause-inputs c =
    let m = c.args.self.now in
    let d = (sorted m.parts m.well_sorted).declared in
    let w = d.within in
    let s = length m.parts.initial_values.items in
    let l = length-drop s m.parts.terms.names in
    let h = length-declared_inputs m.parts.inputs (drop s m.parts.terms.names) (omega arith) in
    omega (arith, h)

pub returns-clause-within : goal.returns-clause-within
returns-clause-within c =
    let m = c.args.self.now in
    let d = (sorted m.parts m.well_sorted).declared in
    let w = d.within in
    let s = length m.parts.initial_values.items in
    let l = length-drop s m.parts.terms.names in
    let h = length-declared_inputs m.parts.inputs (drop s m.parts.terms.names) (omega arith) in
    omega (arith, w)
