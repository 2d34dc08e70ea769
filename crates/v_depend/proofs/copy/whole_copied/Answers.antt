use Rattle.v_value.specs.Scope.{object_of, scope_at}
use Rattle.v_masks.specs.Masks.{masked}
use Rattle.v_depend.proofs.Copied.{whole-found, signed-found}
use Rattle.v_depend.proofs.copy.whole_copied.Goals as goal

pub returns-then-object : goal.returns-then-object
returns-then-object c = λ j l.
    signed-found (masked c.args.unsettled.now) (scope_at c.args.scope.now) c.args.name.now (object_of c.object-object.result) c.held_word-word.result.value
    c.sext.result.value c.held_word-word.result.width j c.object-object.ensures c.held_word-word.ensures.bits c.if-object.true c.held_word-word.ensures.width
    c.held_word-word.result.at_most_128 c.held_word-word.result.fits c.sext.ensures.value l

pub returns : goal.returns
returns c = λ j l.
    whole-found (masked c.args.unsettled.now) (scope_at c.args.scope.now) c.args.name.now (object_of c.object-object.result) c.held_word-word.result.value j
    c.object-object.ensures c.held_word-word.ensures.bits c.if-object.false
