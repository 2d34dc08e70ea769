use Rattle.std.proofs.Common.{ap, ◌∙◌}
use Rattle.std.specs.Prelude.{is_some}
use Rattle.v_value.specs.Scope.{object_of}
use Rattle.v_write.proofs.Replaced.{name_changed, sort_width, word_of_width}
use Rattle.v_write.proofs.changing.changed.Goals as goal

pub object_width-width-requires : goal.object_width-width-requires
object_width-width-requires c = sort_width (object_of c.args.object) c.requires.part.sort

pub word_changed-requires-clause-old : goal.word_changed-requires-clause-old
word_changed-requires-clause-old c =
    word_of_width (object_of c.args.object) c.args.terms.now c.args.old.0 c.object_width-width.result c.object_width-width.ensures (c.requires.part.memory ∙ ap is_some c.in-None.is) c.requires.old

pub returns-in_ok-id-in-None-clause-changed : goal.returns-in_ok-id-in-None-clause-changed
returns-in_ok-id-in-None-clause-changed c =
    name_changed (object_of c.args.object) c.args.terms.now c.word_changed.new.terms c.args.part.now c.args.old.0 c.args.number.0 c.in_ok-id-in-None.id.0 c.object_width-width.result
    c.in-None.is (c.requires.part.memory ∙ ap is_some c.in-None.is) c.object_width-width.ensures c.in_ok-id-in-None.ensures.changed
