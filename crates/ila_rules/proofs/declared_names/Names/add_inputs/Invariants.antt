use Rattle.std.proofs.Common.{◌≡◌, map, drop, codes}
use Rattle.ila_file.specs.View.{input_view}
use Rattle.ila_rules.specs.NameFlaws.{with_all_data}
use Rattle.ila_rules.specs.View.{names_view}
use Rattle.ila_rules.proofs.declared_names.Names.add_inputs.Given as goal

abbrev pub invariant-loop-index : goal.invariant-loop-index
invariant-loop-index l =
    with_all_data (codes "inputs") l.index (map (λ i. i.input_name) (map input_view (drop l.index l.inputs))) (names_view l.self) ≡ with_all_data (codes "inputs") 0 (map (λ i. i.input_name) (map input_view l.inputs)) (names_view l.fn.self)
