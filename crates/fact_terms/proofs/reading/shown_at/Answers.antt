use Rattle.std.proofs.Common.{get_or, ap}
use Rattle.fact_terms.proofs.Rows.{shown_row}
use Rattle.fact_terms.proofs.reading.shown_at.Goals as goal

pub returns : goal.returns
returns c g s r t =
    let h = c.args.shared.now in
    shown_row g h c.args.cycle c.args.id.0 (get_or h.shown.now c.args.cycle c.index-shared-place.result) c.index.result.now s r c.requires.cycle
    (ap (get_or h.shown.now c.args.cycle) c.index-shared-place.is) c.index.ensures t
