use Rattle.std.proofs.Common.{sym, subst, None, arith, ◌<◌}
use Rattle.v_syntax.specs.Tree.{statement_of}
use Rattle.v_statement.specs.Statements.{IsNarrowStatement}
use Rattle.v_statement.proofs.Runs.{statement_of-Block}
use Rattle.v_statement.proofs.Small.{two_assignments}
use Rattle.test_values.proofs.runs.assignment.Goals as goal

pub returns : goal.returns
returns c = λ s o.
    let fits : c.args.number < 256 = omega (arith, c.ranges.number.fits) in
    let whole = subst (IsNarrowStatement s) (sym (statement_of-Block None c.push-2.new.self))
    (two_assignments c.new-statements.result.items c.push.new.self.items c.push-2.new.self.items _ _ c.in_ok-part.field-0 c.byte.result c.byte-2.result c.in_ok-whole.whole c.in_ok-part-2.part 85 c.args.number
    c.in_ok-whole.ensures.ok c.in_ok-part-2.ensures.ok
    c.new-statements.ensures.items c.in_ok-push.ensures.items c.in_ok-push-2.ensures.items
    c.byte.ensures c.byte-2.ensures (omega arith) fits c.in_ok-part.ensures s o) in
    subst (λ x. IsNarrowStatement s (statement_of x)) (sym c.in_ok-whole-2.ensures.ok) whole
