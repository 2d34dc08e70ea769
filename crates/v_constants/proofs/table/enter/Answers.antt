use Rattle.std.proofs.Common.{ap, sym, option_map}
use Rattle.v_constants.specs.Given.{value_of}
use Rattle.v_constants.proofs.Entered.{stands}
use Rattle.v_constants.proofs.table.enter.Goals as goal

pub returns-in_ok-insert-in-None : goal.returns-in_ok-insert-in-None
returns-in_ok-insert-in-None c = λ q.
    stands c.args.table.now c.insert.new.self c.args.given (ap (option_map value_of) (sym c.in-None.ensures.value)) c.in_ok-insert-in-None.ensures.updates q
