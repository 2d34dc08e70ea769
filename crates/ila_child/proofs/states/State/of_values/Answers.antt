use Rattle.std.proofs.Common.{map, length, take, subst}
use Rattle.std.proofs.lemmas.List.{length-map}
use Rattle.wb_terms.specs.Environment.{AreOfSorts, as_value}
use Rattle.ila_child.proofs.Starts.{states_table}
use Rattle.ila_child.proofs.Checked.{of_sorts-taken}
use Rattle.ila_child.proofs.states.State.of_values.Goals as goal

pub shared_values-requires : goal.shared_values-requires
shared_values-requires c =
    let p = c.args.model.now.parts in
    let xs = map as_value c.args.values.now in
    subst (λ k. AreOfSorts (take k p.terms.names) xs) (length-map c.args.values.now as_value)
    (of_sorts-taken p.terms.names (length p.initial_values.items) xs (subst (λ t. AreOfSorts t xs) (states_table p.terms.names p.initial_values.items) c.requires))
