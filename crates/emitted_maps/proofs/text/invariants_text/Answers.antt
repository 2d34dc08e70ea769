use Rattle.std.proofs.Common.{◌∷◌, [], cond, map, ap, sym, ◌∙◌, Bool}
use Rattle.std.specs.Prelude.{codes}
use Rattle.reports.specs.Report.{quoted, in_brackets}
use Rattle.emitted_maps.proofs.text.invariants_text.Goals as goal

pub returns-then-has_children : goal.returns-then-has_children
returns-then-has_children c =
    ap (λ (b : Bool). in_brackets (map quoted (cond b (codes "wb_busy == 0" ∷ []) []))) (sym c.if-has_children.true ∙ c.has_children.ensures)

pub returns-else-has_children : goal.returns-else-has_children
returns-else-has_children c =
    ap (λ (b : Bool). in_brackets (map quoted (cond b (codes "wb_busy == 0" ∷ []) []))) (sym c.if-has_children.false ∙ c.has_children.ensures)
