use Rattle.std.proofs.Common.{ap, ◌∙◌, ◌++◌, map, [], Bor, List, ℕ}
use Rattle.verilog_meaning.specs.Hierarchy.{overridable, body_parameters}
use Rattle.v_syntax.specs.Source.{parameter_of, item_of}
use Rattle.v_constants.proofs.Lists.{two_parts, overridable_append}
use Rattle.v_constants.proofs.overrides.overridable_names.Goals as goal

pub returns : goal.returns
returns c =
    let header = c.args.below.now.parameters.items in
    let body = c.args.below.now.items.items in
    two_parts [] _ _ (overridable (map parameter_of header)) (overridable (body_parameters (map item_of body))) _
    (c.in_ok-add_header.ensures
    ∙ (ap (λ (ns : List (Bor (List ℕ))). map (λ (n : Bor (List ℕ)). n.now) ns ++ overridable (map parameter_of c.deref.result.now)) c.new-list.ensures.items
    ∙ ap (λ ds. overridable (map parameter_of ds)) c.deref.ensures.value))
    (c.in_ok-add_items.ensures ∙ ap (λ is. map (λ (n : Bor (List ℕ)). n.now) c.add_header.new.list.items ++ overridable (body_parameters (map item_of is))) c.deref-2.ensures.value)
    (overridable_append (map parameter_of header) (body_parameters (map item_of body)))
