use Rattle.std.proofs.Common.{◌≡◌, map, drop, codes}
use Rattle.ila_file.specs.View.{state_view}
use Rattle.ila_rules.specs.NameFlaws.{with_all_data}
use Rattle.ila_rules.specs.View.{names_view}
use Rattle.ila_rules.proofs.declared_names.Names.add_states.Given as goal

abbrev pub invariant-loop-index : goal.invariant-loop-index
invariant-loop-index l =
    with_all_data (codes "states") l.index (map (λ d. d.state_name) (map state_view (drop l.index l.states))) (names_view l.self) ≡ with_all_data (codes "states") 0 (map (λ d. d.state_name) (map state_view l.states)) (names_view l.fn.self)
