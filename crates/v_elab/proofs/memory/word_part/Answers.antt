use Rattle.wb_values.specs.Value.{word}
use Rattle.v_operators.proofs.Growing.{IsOfSort-kept}
use Rattle.v_operators.proofs.Forms.{some, formed}
use Rattle.v_elab.proofs.Cutting.{no_part, some_part, load_sort_of}
use Rattle.v_elab.proofs.memory.word_part.Goals as goal

pub returns-then-kept-eq0-clause-part : goal.returns-then-kept-eq0-clause-part
returns-then-kept-eq0-clause-part c =
    no_part c.args.terms.now c.constant.new.terms c.args.whole.0 c.args.width c.args.address c.args.kept c.in_ok-zero.zero.0 c.if-kept-eq0.true
    c.in_ok-zero.ensures.of_sort c.in_ok-zero.ensures.value

pub put-requires-clause-sorted : goal.put-requires-clause-sorted
put-requires-clause-sorted c =
    some _ _ (load_sort_of c.args.terms.now c.args.whole.0 c.args.place.0 c.args.address_width c.args.width c.requires.whole c.requires.place)

pub conjunction-requires-clause-left : goal.conjunction-requires-clause-left
conjunction-requires-clause-left c =
    IsOfSort-kept c.in_ok-word.word.0 (word c.args.width) c.constant-2.ensures.grows
    (formed c.put.new.terms c.in_ok-word.word.0 _ (word c.args.width) c.in_ok-word.ensures.below c.in_ok-word.ensures.tree
    (load_sort_of c.args.terms.now c.args.whole.0 c.args.place.0 c.args.address_width c.args.width c.requires.whole c.requires.place))

pub returns-clause-part : goal.returns-clause-part
returns-clause-part c =
    some_part c.args.terms.now c.put.new.terms c.constant-2.new.terms c.conjunction.new.terms c.args.whole.0 c.args.width c.args.address_width c.args.address
    c.args.kept c.args.place.0 c.in_ok-word.word.0 c.in_ok-known.known.0 c.in_ok-cut.cut.0 c.constant-2.ensures.grows
    (formed c.put.new.terms c.in_ok-word.word.0 _ (word c.args.width) c.in_ok-word.ensures.below c.in_ok-word.ensures.tree
    (load_sort_of c.args.terms.now c.args.whole.0 c.args.place.0 c.args.address_width c.args.width c.requires.whole c.requires.place))
    c.requires.address c.in_ok-word.ensures.tree c.in_ok-known.ensures.value c.in_ok-cut.ensures.made
