use Rattle.std.proofs.Common.{◌≡◌, drop}
use Rattle.ila_file.specs.View.{instructions_view}
use Rattle.ila_rules.specs.NameFlaws.{names_below}
use Rattle.ila_rules.specs.View.{names_view}
use Rattle.ila_rules.proofs.declared_names.+names.Given as goal

abbrev pub invariant-add_machine-loop-index : goal.invariant-add_machine-loop-index
invariant-add_machine-loop-index l =
    names_below l.index (instructions_view (drop l.index l.instruction-items)) (names_view l.names) ≡ names_below 0 (instructions_view l.instruction-items) (names_view l.initial.names)
