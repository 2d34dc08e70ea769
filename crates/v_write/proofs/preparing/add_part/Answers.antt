use Rattle.v_syntax.specs.Tree.{selects_of}
use Rattle.v_value.specs.Scope.{scope_at}
use Rattle.v_lower.specs.Table.{images_at}
use Rattle.v_lower.proofs.Soundness.{sound-name}
use Rattle.v_write.proofs.Indexed.{one_prepared}
use Rattle.v_write.proofs.preparing.add_part.Goals as goal

pub selected-requires-clause-object : goal.selected-requires-clause-object
selected-requires-clause-object c = c.object-object.ensures

pub selected-requires-clause-sound : goal.selected-requires-clause-sound
selected-requires-clause-sound c = (sound-name (scope_at c.args.scope.now) c.args.name.now (selects_of c.args.selects.now) c.requires.objects c.requires.sound.0)

pub returns-clause-prepared : goal.returns-clause-prepared
returns-clause-prepared c =
    one_prepared (scope_at c.args.scope.now) (images_at c.args.table.now) c.args.terms.now c.selected.new.terms c.args.parts.now.items c.push.new.self.items
    (record { name = c.args.name; address = c.in_ok-found.found.address; bits = c.in_ok-found.found.bits; count = c.in_ok-found.found.count })
    (selects_of c.args.selects.now) c.requires.known c.in_ok-found.ensures.grows c.requires.parts (sound-name (scope_at c.args.scope.now) c.args.name.now (selects_of c.args.selects.now) c.requires.objects c.requires.sound.0).sort c.requires.sound.1 c.in_ok-found.ensures.selected c.in_ok-push.ensures.items
