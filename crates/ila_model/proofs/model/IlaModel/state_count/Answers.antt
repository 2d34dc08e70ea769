use Rattle.std.proofs.Common.{arith}
use Rattle.ila_model.proofs.Declarations.{sorted, length-declared_states}
use Rattle.ila_model.proofs.model.IlaModel.state_count.Goals as goal

pub returns-clause-states : goal.returns-clause-states
returns-clause-states c =
    let m = c.args.self.now in
    let d = (sorted m.parts m.well_sorted).declared in
    let w = d.states_within in
    let t = d.within in
    let h = length-declared_states m.parts.terms.names m.parts.initial_values.items w in
    omega (arith, h)

pub returns-clause-within : goal.returns-clause-within
returns-clause-within c =
    let m = c.args.self.now in
    let d = (sorted m.parts m.well_sorted).declared in
    let w = d.states_within in
    let t = d.within in
    let h = length-declared_states m.parts.terms.names m.parts.initial_values.items w in
    omega (arith, w)
