use Rattle.std.proofs.Common.{◌∙◌, ap, sym, subst, map, length}
use Rattle.v_syntax.specs.Source.{module_of}
use Rattle.v_standing.specs.Standing.{numbered, AreBelow, AreStanding}
use Rattle.v_standing.proofs.design.standing_among.Goals as goal

pub returns : goal.returns
returns c = λ clock.
    subst (AreStanding (record { source = map module_of c.args.modules.now; top = c.args.top.now; clock = clock }))
    (sym (c.in_ok-list.ensures (subst (AreBelow (length c.args.modules.now)) (sym c.deref.ensures.value) c.in_ok-numbers.ensures.within)
    ∙ ap (numbered (map module_of c.args.modules.now)) c.deref.ensures.value))
    (c.in_ok-numbers.ensures.standing clock)
