use Rattle.v_elab.proofs.NetTerms.{number_put}
use Rattle.v_elab.proofs.settled.enter_number.Goals as goal

pub returns-clause-below : goal.returns-clause-below
returns-clause-below c =
    number_put c.args.around.now.below c.insert.new.self c.in_ok-name.name c.args.instance.now c.args.number c.in_ok-name.ensures.ok c.in_ok-insert.ensures.updates
