use Rattle.std.proofs.lemmas.Bool.{false≢true}
use Rattle.test_paths.proofs.flow.assignment_fits.Goals as goal

pub returns-then-not-target_fits : goal.returns-then-not-target_fits
returns-then-not-target_fits c = λ t. absurd (false≢true t)

pub returns : goal.returns
returns c = λ t. (c.target_fits.ensures c.if-not-target_fits.false, c.is_narrow.ensures.narrow t)
