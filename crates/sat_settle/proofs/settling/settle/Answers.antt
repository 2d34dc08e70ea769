use Rattle.sat_settle.proofs.Unsatisfiable.{never_false, is_refutation_of}
use Rattle.sat_settle.proofs.settling.settle.Goals as goal

pub returns-in_ok-refutation-in-Refuted-clause-settled : goal.returns-in_ok-refutation-in-Refuted-clause-settled
returns-in_ok-refutation-in-Refuted-clause-settled c =
    never_false c.args.terms.now c.args.id.0 c.in_ok-blasted.blasted.map c.in_ok-blasted.blasted.cnf c.in_ok-blasted.ensures.encodes
    c.in_ok-blasted.ensures.numbered c.in_ok-refutation-in-Refuted.ensures.unsatisfiable

pub returns-in_ok-refutation-in-Refuted-clause-shown : goal.returns-in_ok-refutation-in-Refuted-clause-shown
returns-in_ok-refutation-in-Refuted-clause-shown c =
    is_refutation_of c.args.terms.now c.args.id.0 c.in_ok-blasted.blasted.map c.in_ok-blasted.blasted.cnf _ c.in_ok-blasted.ensures.encodes
    c.in_ok-refutation-in-Refuted.ensures.formula c.in_ok-refutation-in-Refuted.ensures.refutes
