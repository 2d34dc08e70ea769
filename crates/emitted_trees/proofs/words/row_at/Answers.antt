use Rattle.std.proofs.Common.{◌∙◌, Vec, Global, ap, subst, sym}
use Rattle.emitted_names.specs.declared.words.PartName.{PartName}
use Rattle.emitted_names.specs.Parts.{AreWordNames}
use Rattle.emitted_trees.proofs.words.row_at.Goals as goal

pub returns : goal.returns
returns c = λ g keep n words low kept.
    subst (AreWordNames g c.args.id.0) (sym (c.as_slice.ensures.value ∙ ap (λ (v : Vec PartName Global). v.items) c.index-words-place.is)) (words.each c.args.id.0 _ low kept)
