use Rattle.std.proofs.lemmas.Bool.{false≢true}
use Rattle.v_value.specs.Scope.{scope_at}
use Rattle.v_flow.specs.Spans.{bits_in}
use Rattle.v_masks.specs.Masks.{masked}
use Rattle.v_order.specs.Lists.{driving_in}
use Rattle.v_loops.proofs.Constant.{told-nowhere}
use Rattle.v_loops.proofs.driver.rests_nowhere.Goals as goal

pub returns-then-not-is_constant_link : goal.returns-then-not-is_constant_link
returns-then-not-is_constant_link c = λ h. absurd (false≢true h)

pub returns : goal.returns
returns c =
    told-nowhere c.rests_where_it_depends.ensures (scope_at c.args.scope.now) (driving_in c.args.driver) (masked c.args.unsettled.now) (bits_in c.args.read.now)
    c.is_constant_link.result c.meets-met.result c.requires.fit.narrow c.is_constant_link.ensures c.if-not-is_constant_link.false c.requires.read c.meets-met.ensures
