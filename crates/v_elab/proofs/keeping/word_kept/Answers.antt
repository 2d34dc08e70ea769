use Rattle.v_operators.proofs.Growing.{IsOfSort-kept}
use Rattle.std.proofs.Common.{subst}
use Rattle.wb_values.specs.Value.{word}
use Rattle.v_operators.specs.Meaning.{IsOfSort}
use Rattle.v_elab.specs.Kept.{named_at}
use Rattle.v_elab.proofs.Cutting.{name_kept, cut_kept}
use Rattle.v_elab.proofs.keeping.word_kept.Goals as goal

pub returns-then-kept-all-clause-kept : goal.returns-then-kept-all-clause-kept
returns-then-kept-all-clause-kept c =
    name_kept c.name_term.new.terms (named_at c.args.terms.now c.args.place.0).0 (named_at c.args.terms.now c.args.place.0).1 c.args.width c.args.bits c.mask-all.result c.in_ok-id.id.0
    c.requires.named c.mask-all.ensures c.in_ok-id.ensures.of_sort c.in_ok-id.ensures.value c.if-kept-all.true

pub conjunction-requires-clause-left : goal.conjunction-requires-clause-left
conjunction-requires-clause-left c =
    IsOfSort-kept c.in_ok-id.id.0 (word c.args.width) c.constant.ensures.grows
    (subst (IsOfSort c.name_term.new.terms c.in_ok-id.id.0) c.requires.named c.in_ok-id.ensures.of_sort)

pub returns-clause-kept : goal.returns-clause-kept
returns-clause-kept c =
    cut_kept c.name_term.new.terms c.constant.new.terms c.conjunction.new.terms (named_at c.args.terms.now c.args.place.0).0 (named_at c.args.terms.now c.args.place.0).1
    c.args.width c.args.bits c.mask-all.result c.in_ok-id.id.0 c.in_ok-known.known.0 c.in_ok-cut.cut.0
    c.requires.named c.mask-all.ensures c.constant.ensures.grows c.in_ok-id.ensures.of_sort c.in_ok-id.ensures.value c.in_ok-known.ensures.value c.in_ok-cut.ensures.made
