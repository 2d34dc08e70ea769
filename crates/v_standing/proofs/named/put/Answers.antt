use Rattle.std.proofs.Common.{sym}
use Rattle.v_standing.proofs.Tables.{put_so}
use Rattle.v_standing.proofs.named.put.Goals as goal

pub returns-in_ok-insert-in-None : goal.returns-in_ok-insert-in-None
returns-in_ok-insert-in-None c = λ q. put_so c.args.table.now c.insert.new.self c.args.name c.args.number (sym c.in-None.ensures.value) c.in_ok-insert-in-None.ensures.updates q
