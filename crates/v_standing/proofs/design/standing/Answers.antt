use Rattle.std.proofs.Common.{map, subst}
use Rattle.std.specs.Prelude.{IfOk}
use Rattle.wb_values.specs.Value.{Name}
use Rattle.v_syntax.specs.Source.{module_of}
use Rattle.v_standing.specs.Standing.{modules_of, AreStanding}
use Rattle.v_standing.proofs.design.standing.Goals as goal

pub returns : goal.returns
returns c =
    subst (λ ms. IfOk c.standing_among.result (λ v. (clock : Name) → AreStanding (record { source = map module_of ms; top = c.args.top.now; clock = clock }) (modules_of v.items)))
    c.deref.ensures.value c.standing_among.ensures
