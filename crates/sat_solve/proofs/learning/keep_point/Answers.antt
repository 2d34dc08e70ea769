use Rattle.std.proofs.Common.{◌≡◌, true, ◌∷◌, [], ◌++◌, ◌+◌, List, get_or, ap, ◌∙◌, arith, None}
use Rattle.std.proofs.lemmas.Option.{slice_get-get_or, slice_get_within}
use Rattle.sat_base.specs.declared.literals.Lit.{Lit}
use Rattle.sat_base.specs.Literal.{negation}
use Rattle.sat_solve.specs.State.{known_clauses}
use Rattle.sat_solve.proofs.Walks.{IsWalked-below}
use Rattle.sat_solve.proofs.Forced.{forced_at_level}
use Rattle.sat_solve.proofs.learning.keep_point.Goals as goal

pub returns-clause-walked : goal.returns-clause-walked
returns-clause-walked c = IsWalked-below (known_clauses c.args.cnf.now c.args.log.now) c.args.trail.now.entries c.args.trail.now.vars (c.args.point + 1) c.args.start c.keep.new.walk.marks c.keep.new.walk.lits.items c.keep.new.walk.numbers.items c.requires.state.sound (omega (arith, c.requires.point)) c.args.walk.now.marks c.in_ok-keep.ensures.marks c.requires.alone c.in_ok-keep.ensures.walked

pub returns-clause-point : goal.returns-clause-point
returns-clause-point c =
    let trail = c.args.trail.now.entries in
    let within = slice_get_within trail c.requires.level.place c.requires.level.decided.0 c.requires.level.decided.1 in
    let at = slice_get-get_or trail c.args.point record { lit = record { var = 0; negative = true }; reason = None } (omega (arith, c.requires.point, c.requires.level.is, within)) in
    let e = get_or trail c.args.point record { lit = record { var = 0; negative = true }; reason = None } in
    let lits : c.keep.new.walk.lits.items ≡ negation e.lit ∷ [] = c.in_ok-keep.ensures.lits e at ∙ ap (λ (ls : List Lit). ls ++ negation e.lit ∷ []) c.requires.lits in
    forced_at_level (known_clauses c.args.cnf.now c.args.log.now) trail c.requires.state.sound (c.args.point + 1) c.args.start e c.keep.new.walk.lits.items c.requires.level (omega (arith, c.requires.point)) lits c.in_ok-keep.ensures.walked.passed
