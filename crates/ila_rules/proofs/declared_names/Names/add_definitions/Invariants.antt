use Rattle.std.proofs.Common.{◌≡◌, map, drop, codes}
use Rattle.ila_file.specs.View.{definition_view}
use Rattle.ila_rules.specs.NameFlaws.{with_all_data}
use Rattle.ila_rules.specs.View.{names_view}
use Rattle.ila_rules.proofs.declared_names.Names.add_definitions.Given as goal

abbrev pub invariant-loop-index : goal.invariant-loop-index
invariant-loop-index l =
    with_all_data (codes "define") l.index (map (λ d. d.0) (map definition_view (drop l.index l.definitions))) (names_view l.self) ≡ with_all_data (codes "define") 0 (map (λ d. d.0) (map definition_view l.definitions)) (names_view l.fn.self)
