use Rattle.std.proofs.Common.{◌≡◌, length, map, true, ap, ◌∙◌, arith}
use Rattle.std.proofs.lemmas.List.{length-replicate}
use Rattle.std.proofs.Common.{false, Bool, List}
use Rattle.sat_base.specs.Codes.{literal_of}
use Rattle.sat_solve.specs.State.{known_clauses}
use Rattle.sat_solve.specs.Walk.{is_marked}
use Rattle.sat_base.proofs.CodeLemmas.{codes_all}
use Rattle.sat_solve.proofs.StateLemmas.{code_over}
use Rattle.sat_solve.proofs.Walks.{IsWalked-start}
use Rattle.sat_solve.proofs.walk.begin.Goals as goal
use Rattle.sat_solve.proofs.walk.begin.Goals.{In_ok-marks}

sized : (c : In_ok-marks) → length c.in_ok-marks.marks ≡ c.args.trail.now.vars
sized c = ap (λ (m : List Bool). length m) c.in_ok-marks.ensures ∙ length-replicate c.vars.result false ∙ c.vars.ensures

pub mark-requires : goal.mark-requires
mark-requires c = λ k l. omega (arith, code_over c.args.cnf.now c.args.log.now c.args.trail.now c.args.conflict c.clause.result.now c.requires.state c.clause.ensures k l, sized (goal.at.mark-requires c).In_ok-marks)

pub returns-clause-walked : goal.returns-clause-walked
returns-clause-walked c = IsWalked-start (known_clauses c.args.cnf.now c.args.log.now) c.args.trail.now.entries c.args.trail.now.vars c.mark.new.marks c.args.conflict (map literal_of c.clause.result.now) c.new-2.result.items c.push.new.self.items c.new-numbers.result.items (c.in_ok-mark.ensures.sized ∙ sized (goal.at.returns-clause-walked c).In_ok-marks) c.requires.conflict c.clause.ensures (codes_all c.clause.result.now (λ v. is_marked c.mark.new.marks v ≡ true) c.in_ok-mark.ensures.all) c.new-2.ensures.items c.new-numbers.ensures.items c.in_ok-push.ensures.items
