use Rattle.ila_file.specs.Places.{spot_view}
use Rattle.ila_rules.specs.View.{names_view}
use Rattle.ila_rules.proofs.NameWalks.{with_child, without_child}
use Rattle.ila_rules.proofs.declared_names.+names.Goals as goal

pub add_instruction-returns-in_ok-add_child-in-Some : goal.add_instruction-returns-in_ok-add_child-in-Some
add_instruction-returns-in_ok-add_child-in-Some t c =
    with_child c.args.index c.args.instruction.now c.in-Some.child c.deref.result.now (spot_view c.item.result) (names_view c.args.names.now) (names_view c.add_instruction.new.self) (names_view c.add_child.new.names)
    c.in-Some.is c.deref.ensures c.item.ensures c.in_ok-add_instruction.ensures c.in_ok-add_child-in-Some.ensures

pub add_instruction-returns-in-None : goal.add_instruction-returns-in-None
add_instruction-returns-in-None t c =
    without_child c.args.index c.args.instruction.now (spot_view c.item.result) (names_view c.args.names.now) (names_view c.add_instruction.new.self)
    c.in-None.is c.item.ensures c.in_ok-add_instruction.ensures
