use Rattle.std.proofs.Common.{◌∙◌, refl, ap, sym, subst}
use Rattle.std.specs.Prelude.{IsSome}
use Rattle.model_meaning.specs.Term.{sort_of, const}
use Rattle.wb_terms.specs.Graph.{tree}
use Rattle.term_copies.proofs.Extending.{tree_kept}
use Rattle.condition_terms.proofs.Comparing.{place_sort, word_sort, word_is, word_value}
use Rattle.obligation_terms.proofs.nodes.word_at.Goals as goal

pub put-requires-2-clause-sorted : goal.put-requires-2-clause-sorted
put-requires-2-clause-sorted c =
    let g = c.args.terms.now in
    let k = c.put.new.terms in
    let x = c.args.id.0 in
    let w = c.requires.sort.1 in
    let a = c.args.address_width in
    let memory = ap sort_of (tree_kept x c.in_ok-place.ensures.extended w.below) ∙ w.sort in
    let place = ap sort_of (c.in_ok-place.ensures.tree ∙ ap (const a) c.from.ensures) ∙ place_sort (tree g x) a c.requires.sort.0 c.args.address w.sort c.requires.address in
    subst (λ o. IsSome o) (sym (word_sort (tree k x) (tree k c.in_ok-place.place.0) a c.requires.sort.0 memory place)) refl

pub returns-clause-word : goal.returns-clause-word
returns-clause-word c d w =
    word_is c.args.terms.now c.put.new.terms c.put-2.new.terms c.args.id.0 c.in_ok-place.place.0 c.in_ok-word.word.0 c.args.address_width d c.args.address
    c.in_ok-place.ensures.extended c.in_ok-word.ensures.extended w c.requires.address (c.in_ok-place.ensures.tree ∙ ap (const c.args.address_width) c.from.ensures) c.in_ok-word.ensures.below c.in_ok-word.ensures.tree

pub returns-clause-value : goal.returns-clause-value
returns-clause-value c =
    word_value c.args.terms.now c.put.new.terms c.put-2.new.terms c.args.id.0 c.in_ok-place.place.0 c.in_ok-word.word.0 c.args.address_width c.args.address
    c.in_ok-place.ensures.extended c.requires.sort.1.below (c.in_ok-place.ensures.tree ∙ ap (const c.args.address_width) c.from.ensures) c.in_ok-word.ensures.tree
