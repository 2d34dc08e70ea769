use Rattle.std.proofs.Common.{get_or, ap}
use Rattle.fact_terms.proofs.Rows.{read_row, read_past}
use Rattle.fact_terms.proofs.reading.read_at.Goals as goal

pub returns-then-place-shared : goal.returns-then-place-shared
returns-then-place-shared c g s r t =
    let h = c.args.shared.now in
    read_row g h c.args.cycle c.args.id.0 (get_or h.read.now c.args.cycle c.index-shared-place.result) c.index.result.now s r c.if-place-shared.true
    (ap (get_or h.read.now c.args.cycle) c.index-shared-place.is) c.index.ensures t

pub returns-else-place-shared : goal.returns-else-place-shared
returns-else-place-shared c g s r t =
    let h = c.args.shared.now in
    read_past g h c.args.cycle c.args.id.0 (get_or h.shown.now c.args.cycle c.index-shared-place-else-place-shared.result) c.index-else-place-shared.result.now s r c.requires.cycle
    c.if-place-shared.false (ap (get_or h.shown.now c.args.cycle) c.index-shared-place-else-place-shared.is) c.index-else-place-shared.ensures t
