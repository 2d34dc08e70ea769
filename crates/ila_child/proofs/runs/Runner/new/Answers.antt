use Rattle.std.proofs.Common.{◌∙◌, length, take, sym, ap, subst, arith}
use Rattle.std.proofs.lemmas.List.{take_at, length-take}
use Rattle.wb_terms.specs.Environment.{AreOfSorts}
use Rattle.ila_model.proofs.Declarations.{sorted}
use Rattle.ila_child.proofs.Updates.{AreOfSorts-length}
use Rattle.ila_child.proofs.Starts.{states_table}
use Rattle.ila_child.proofs.Movement.{first_fits}
use Rattle.ila_child.proofs.runs.Runner.new.Goals as goal

pub returns-clause-made : goal.returns-clause-made
returns-clause-made c =
    let p = c.args.model.now.parts in
    let s = sorted p c.args.model.now.well_sorted in
    let q = c.args.state.now in
    let n = length p.initial_values.items in
    let front = subst (λ t. AreOfSorts t q) (states_table p.terms.names p.initial_values.items) c.requires in
    record {
      fits = subst (AreOfSorts p.terms.names) (sym c.in_ok-point.ensures.values) (first_fits p.terms.names n q s.declared.states_within front);
      point = c.in_ok-point.ensures.point;
    }

pub returns-clause-state : goal.returns-clause-state
returns-clause-state c =
    let p = c.args.model.now.parts in
    let s = sorted p c.args.model.now.well_sorted in
    let within = s.declared.states_within in
    let q = c.args.state.now in
    let n = length p.initial_values.items in
    let front = subst (λ t. AreOfSorts t q) (states_table p.terms.names p.initial_values.items) c.requires in
    ap (take n) c.in_ok-point.ensures.values ∙ take_at q _ n (omega (arith, within, AreOfSorts-length (take n p.terms.names) q front, length-take n p.terms.names))
