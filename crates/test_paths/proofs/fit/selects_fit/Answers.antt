use Rattle.std.proofs.lemmas.Bool.{false≢true}
use Rattle.v_value.specs.Scope.{scope_at}
use Rattle.test_paths.proofs.Parts as parts
use Rattle.test_paths.proofs.fit.selects_fit.Goals as goal

pub returns-in-Whole : goal.returns-in-Whole
returns-in-Whole c = λ t. parts.selects-Whole (scope_at c.args.names.scope.now) c.args.selects.now c.in-Whole.is

pub returns-in-One : goal.returns-in-One
returns-in-One c = λ t. parts.selects-One (scope_at c.args.names.scope.now) c.args.selects.now c.in-One.select c.in-One.is (c.select_fits.ensures t)

pub returns-then-not-select_fits : goal.returns-then-not-select_fits
returns-then-not-select_fits c = λ t. absurd (false≢true t)

pub returns-else-not-select_fits : goal.returns-else-not-select_fits
returns-else-not-select_fits c = λ t.
    parts.selects-Two (scope_at c.args.names.scope.now) c.args.selects.now c.in-Two.first c.in-Two.second c.in-Two.is
    (c.select_fits-in-Two.ensures c.if-not-select_fits.false) (c.select_fits-in-Two-2.ensures t)
