use Rattle.std.proofs.Common.{sym}
use Rattle.v_places.proofs.Named.{stands}
use Rattle.v_places.proofs.modules.enter.Goals as goal

pub returns-in_ok-insert-in-None : goal.returns-in_ok-insert-in-None
returns-in_ok-insert-in-None c = λ q. stands c.args.table.now c.insert.new.self c.args.name c.args.number (sym c.in-None.ensures.value) c.in_ok-insert-in-None.ensures.updates q
