use Rattle.std.proofs.Common.{◌∙◌, length, sym, subst, List}
use Rattle.wb_terms.specs.declared.nodes.TermId.{TermId}
use Rattle.wanted_terms.specs.Wanted.{AreBelow, IsClosed, AreListed}
use Rattle.emitted_names.proofs.Bounds.{roots_below}
use Rattle.emitted_names.proofs.Marking.{kept, no_privates}
use Rattle.emitted_names.proofs.keeping.kept_terms.Goals as goal

pub closed-requires : goal.closed-requires
closed-requires c =
    subst (λ (rs : List TermId). AreBelow (length c.args.model.now.parts.terms.nodes) rs) (sym (c.deref.ensures.value ∙ c.in_ok-roots.ensures))
    (roots_below c.args.model.now.parts c.args.model.now.well_sorted)

pub marks_at-requires : goal.marks_at-requires
marks_at-requires c = subst (IsClosed c.args.model.now.parts.terms) (sym c.deref-2.ensures.value) c.in_ok-wanted.ensures.closed

pub returns : goal.returns
returns c = λ none.
    kept c.deref-2.result.now c.in_ok-marks.marks.items c.in_ok-marks.ensures c.args.model.now.parts c.deref.result.now (c.deref.ensures.value ∙ c.in_ok-roots.ensures)
    (subst (IsClosed c.args.model.now.parts.terms) (sym c.deref-2.ensures.value) c.in_ok-wanted.ensures.closed)
    (subst (λ (ids : List TermId). AreListed ids c.deref.result.now) (sym c.deref-2.ensures.value) c.in_ok-wanted.ensures.roots)
    c.check_nodes.ensures.named (no_privates c.args.model.now.parts c.args.model.now.well_sorted none)
