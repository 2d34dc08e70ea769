use Rattle.std.proofs.Common.{ap, ◌∙◌, ◌++◌, ◌∷◌, map, cond, [], Bor, List, ℕ}
use Rattle.verilog_meaning.specs.Hierarchy.{value_names, overridable, body_parameters}
use Rattle.v_syntax.specs.Source.{parameter_of, item_of}
use Rattle.v_constants.proofs.Lists.{put_before}
use Rattle.v_constants.proofs.overrides.add_item.Goals as goal

pub returns-in_ok-add_declaration-in-Parameter : goal.returns-in_ok-add_declaration-in-Parameter
returns-in_ok-add_declaration-in-Parameter c = λ rest.
    ap (λ i. map (λ (n : Bor (List ℕ)). n.now) c.args.list.now.items ++ overridable (body_parameters (item_of i ∷ rest))) c.in-Parameter.is
    ∙ put_before _ _ (cond (parameter_of c.in-Parameter.declaration).is_local [] (value_names (parameter_of c.in-Parameter.declaration).values)) (overridable (body_parameters rest)) c.in_ok-add_declaration-in-Parameter.ensures
