use Rattle.std.proofs.Common.{◌≤◌, true, None, arith}
use Rattle.sat_solve.specs.State.{known_clauses}
use Rattle.sat_solve.proofs.Forced.{descended_more, descended_lower, descended_reason, some_reason}
use Rattle.std.proofs.lemmas.Option.{slice_get-get_or}
use Rattle.sat_solve.proofs.learning.lowered.Goals as goal

pub returns-then-len-gt1-clause-point : goal.returns-then-len-gt1-clause-point
returns-then-len-gt1-clause-point c = descended_more (known_clauses c.args.cnf.now c.args.log.now) c.args.trail.now.entries c.requires.state.sound c.args.start c.args.back c.args.k _ c.args.walk.now.lits.items (slice_get-get_or c.args.trail.now.entries c.args.k record { lit = record { var = 0; negative = true }; reason = None } c.requires.place) (omega (arith, c.len.ensures, c.if-len-gt1.true, c.args.walk.now.lits.ok.0)) c.requires.point

pub returns-in-None-clause-point : goal.returns-in-None-clause-point
returns-in-None-clause-point c = descended_lower (known_clauses c.args.cnf.now c.args.log.now) c.args.trail.now.entries c.requires.state.sound c.args.start c.args.back c.args.k c.newest.result c.args.walk.now.lits.items c.newest.ensures.value c.in-None.is (omega (arith, c.len.ensures, c.if-len-gt1.false, c.args.walk.now.lits.ok.0)) c.requires.point

pub returns-in-Some-clause-point : goal.returns-in-Some-clause-point
returns-in-Some-clause-point c = descended_reason (known_clauses c.args.cnf.now c.args.log.now) c.args.trail.now.entries c.requires.state.sound c.args.start c.args.back c.args.k c.newest.result c.args.walk.now.lits.items c.newest.ensures.value (some_reason c.newest.result.reason c.in-Some.field-0 c.in-Some.is) c.requires.point

pub returns-then-len-gt1-clause-within : goal.returns-then-len-gt1-clause-within
returns-then-len-gt1-clause-within c = let le : c.args.back ≤ c.args.k = c.requires.point.2 in omega (arith, le)

pub returns-in-Some-clause-within : goal.returns-in-Some-clause-within
returns-in-Some-clause-within c = let le : c.args.back ≤ c.args.k = c.requires.point.2 in omega (arith, le)
