use Rattle.std.proofs.Common.{◌∙◌, ap, sym, map}
use Rattle.verilog_meaning.specs.Hierarchy.{header_ports}
use Rattle.verilog_designs.specs.Expressions.{broken_ports}
use Rattle.v_value.specs.Scope.{scope_at}
use Rattle.v_syntax.specs.Source.{ports_of, item_of, module_of}
use Rattle.v_size.specs.Rule.{coded, both}
use Rattle.v_rules.specs.Judging.{none}
use Rattle.v_rules.specs.Items.{module_items_from}
use Rattle.v_instances.specs.Rules.{broken_instance_items}
use Rattle.v_modules.proofs.module.broken_text.Goals as goal

pub returns : goal.returns
returns c = λ source so.
    let s = scope_at c.args.names.scope.now in
    let m = c.args.within.now in
    c.also-3.ensures ∙ ap (λ b. both b c.also-2.result) c.ports_rules.ensures
    ∙ ap (both (coded (broken_ports s (header_ports (ports_of m.ports)))))
    (c.also-2.ensures ∙ ap (λ b. both b c.also.result) (c.broken_items-items.ensures ∙ ap (λ xs. module_items_from s none (map item_of xs)) c.deref.ensures.value)
    ∙ ap (both (module_items_from s none (map item_of m.items.items)))
    (c.also.ensures ∙ ap (λ b. both b c.broken_instances-parts.result) c.parameters_rules-parameters.ensures
    ∙ ap (both _) (c.broken_instances-parts.ensures source so ∙ ap (λ xs. coded (broken_instance_items source s (map item_of xs))) c.deref-2.ensures.value))
    ∙ sym (c.rules_of_module.ensures source s (module_of m)))
