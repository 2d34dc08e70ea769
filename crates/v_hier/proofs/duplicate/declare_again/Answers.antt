use Rattle.std.proofs.Common.{◌∙◌, ap}
use Rattle.v_hier.specs.Entries.{next}
use Rattle.v_hier.proofs.UnderNames.{stands_so}
use Rattle.v_hier.proofs.duplicate.declare_again.Goals as goal

pub returns-clause-table : goal.returns-clause-table
returns-clause-table c = λ q.
    stands_so c.args.table.now c.insert.new.self c.args.name c.args.tag c.next-standing.result (c.next-standing.ensures ∙ ap (next c.args.tag) c.standing_of.ensures)
    c.in_ok-insert.ensures.updates q
