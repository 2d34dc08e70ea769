use Rattle.wb_values.specs.Value.{word}
use Rattle.condition_terms.proofs.Forming.{IsTermOf-kept}
use Rattle.condition_terms.proofs.Comparing.{constant_is, width_of_word, number_told}
use Rattle.wb_terms.specs.Graph.{tree}
use Rattle.condition_terms.proofs.equality.has_number.Goals as goal

pub equal_numbers-requires : goal.equal_numbers-requires
equal_numbers-requires c = (
  word c.args.width,
  IsTermOf-kept c.args.id.0 (word c.args.width) c.in_ok-wanted.ensures.extended c.requires.sort,
  constant_is c.put.new.terms c.in_ok-wanted.wanted.0 c.args.width c.args.value (width_of_word (tree c.args.terms.now c.args.id.0) c.args.width c.requires.sort.sort) c.requires.fits
      c.in_ok-wanted.ensures.below c.in_ok-wanted.ensures.tree,
  tt,
)

pub returns-clause-told : goal.returns-clause-told
returns-clause-told c =
    number_told c.args.terms.now c.put.new.terms c.equal_numbers.new.terms c.args.id.0 c.in_ok-wanted.wanted.0 c.in_ok-id.id.0 c.args.width c.args.value c.in_ok-wanted.ensures.extended
    c.requires.sort c.in_ok-wanted.ensures.tree c.in_ok-id.ensures.told
