use Rattle.std.proofs.lemmas.Bool.{false≢true}
use Rattle.test_paths.proofs.fit.both_fit.Goals as goal

pub returns-then-not-is_narrow : goal.returns-then-not-is_narrow
returns-then-not-is_narrow c = λ t. absurd (false≢true t)

pub returns : goal.returns
returns c = λ t. (c.is_narrow.ensures.narrow c.if-not-is_narrow.false, c.is_narrow-2.ensures.narrow t)
