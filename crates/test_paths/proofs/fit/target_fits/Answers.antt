use Rattle.std.proofs.Common.{sym, subst}
use Rattle.std.proofs.lemmas.Bool.{false≢true}
use Rattle.v_syntax.specs.Tree.{target_of}
use Rattle.v_value.specs.Scope.{scope_at}
use Rattle.v_flow.specs.Narrow.{HasNarrowParts}
use Rattle.test_paths.proofs.fit.target_fits.Goals as goal

pub returns-in-Place : goal.returns-in-Place
returns-in-Place c = λ t. subst (λ z. HasNarrowParts (scope_at c.args.names.scope.now) (target_of z)) (sym c.in-Place.is) (c.place_fits.ensures t)

pub returns-in-Joined : goal.returns-in-Joined
returns-in-Joined c = λ t. absurd (false≢true t)
