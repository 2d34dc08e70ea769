-- What the rules say of a module's items: of those that are neither parameters nor instances, of the parameters, and of the instances.
use Rattle.std.proofs.Common.{◌≡◌, ◌∙◌, refl, ap, sym, Bool, true, false, ◌||◌, List, [], ◌∷◌}
use Rattle.verilog_trees.specs.Syntax.{Item, port, parameter, wires, variables, assign, always, instances, Module, Source}
use Rattle.verilog_meaning.specs.Expression.{Scope}
use Rattle.verilog_meaning.specs.Hierarchy.{all_parameters, body_parameters}
use Rattle.verilog_rules.specs.Expression as rules
use Rattle.verilog_designs.specs.Expressions as designs
use Rattle.v_hier.specs.Instances.{is_part}
use Rattle.v_size.specs.declared.rule.Broken.{Broken}
use Rattle.v_size.specs.Rule.{coded, both}
use Rattle.v_size.proofs.Chains.{both-none, both-assoc}
use Rattle.v_rules.specs.Judging.{none}
use Rattle.v_rules.specs.Items.{module_item_at, module_items_from}
use Rattle.v_rules.proofs.Listed.{items-broken}
use Rattle.v_instances.specs.Rules.{broken_instance_items}
use Rattle.v_instances.proofs.Declared.{header-both}

or_turned : (a b : Bool) → (a || b) ≡ (b || a)
or_turned true true = refl
or_turned true false = refl
or_turned false true = refl
or_turned false false = refl

both_turned : (a b : Broken) → both a b ≡ both b a
both_turned a b = λ i. record {
  undeclared = or_turned a.undeclared b.undeclared i;
  has_xz = or_turned a.has_xz b.has_xz i;
  bad_constant = or_turned a.bad_constant b.bad_constant i;
  width_over_128 = or_turned a.width_over_128 b.width_over_128 i;
  bad_select = or_turned a.bad_select b.bad_select i;
  memory_use = or_turned a.memory_use b.memory_use i;
  misshapen = or_turned a.misshapen b.misshapen i;
}

both_moved : (a b c : Broken) → both a (both b c) ≡ both b (both a c)
both_moved a b c = both-assoc a b c ∙ ap (λ z. both z c) (both_turned a b) ∙ sym (both-assoc b a c)

from_start : (s : Scope) (items : List Item) (a : Broken) → module_items_from s a items ≡ both a (module_items_from s none items)
from_start s [] a = both-none a
from_start s (i ∷ items) a =
    from_start s items (both a (module_item_at s i))
    ∙ sym (both-assoc a (module_item_at s i) (module_items_from s none items))
    ∙ ap (both a) (sym (from_start s items (module_item_at s i)))

abbrev others : Scope → List Item → Broken
others s items = module_items_from s none items

abbrev parameters : Scope → List Item → Broken
parameters s items = coded (designs.broken_header s (body_parameters items))

abbrev of_instances : Source → Scope → List Item → Broken
of_instances source s items = coded (broken_instance_items source s items)

module _ (source : Source) (s : Scope) where
  -- an item that is neither a parameter nor an instance
  other_told : (i : Item) → is_part i ≡ false → module_item_at s i ≡ coded (designs.broken_module_item source s i)
  other_told i h =
      items-broken source s (i ∷ []) (ap (λ b. b || false) h) none ∙ sym (both-none (coded (designs.broken_module_item source s i)))

  other_step : (i : Item) (items : List Item) → is_part i ≡ false
      → both (coded (designs.broken_module_item source s i)) (both (others s items) (both (parameters s items) (of_instances source s items)))
      ≡ both (others s (i ∷ items)) (both (parameters s items) (of_instances source s items))
  other_step i items h =
      both-assoc (coded (designs.broken_module_item source s i)) (others s items) (both (parameters s items) (of_instances source s items))
      ∙ ap (λ z. both z (both (parameters s items) (of_instances source s items))) (ap (λ z. both z (others s items)) (sym (other_told i h)) ∙ sym (from_start s items (module_item_at s i)))

  pub items-whole : (items : List Item) → coded (designs.broken_module_items source s items) ≡ both (others s items) (both (parameters s items) (of_instances source s items))
  items-whole [] = refl
  items-whole (port d ∷ items) = ap (both (coded (designs.broken_module_item source s (port d)))) (items-whole items) ∙ other_step (port d) items refl
  items-whole (parameter d ∷ items) =
      let x : Broken = coded (designs.broken_parameters s d) in
      ap (both x) (items-whole items)
      ∙ both_moved x (others s items) (both (parameters s items) (of_instances source s items))
      ∙ ap (both (others s items)) (both-assoc x (parameters s items) (of_instances source s items))
  items-whole (wires signed r ws ∷ items) = ap (both (coded (designs.broken_module_item source s (wires signed r ws)))) (items-whole items) ∙ other_step (wires signed r ws) items refl
  items-whole (variables signed r vs ∷ items) =
      ap (both (coded (designs.broken_module_item source s (variables signed r vs)))) (items-whole items) ∙ other_step (variables signed r vs) items refl
  items-whole (assign ts ∷ items) = ap (both (coded (designs.broken_module_item source s (assign ts)))) (items-whole items) ∙ other_step (assign ts) items refl
  items-whole (always es x ∷ items) = ap (both (coded (designs.broken_module_item source s (always es x)))) (items-whole items) ∙ other_step (always es x) items refl
  items-whole (instances m given is ∷ items) =
      let x : Broken = coded (designs.broken_module_item source s (instances m given is)) in
      ap (both x) (items-whole items)
      ∙ both_moved x (others s items) (both (parameters s items) (of_instances source s items))
      ∙ ap (both (others s items)) (both_moved x (parameters s items) (of_instances source s items))

  pub module-whole : (m : Module) → coded (rules.also (designs.broken_header s m.parameters) (designs.broken_module_items source s m.items))
      ≡ both (others s m.items) (both (coded (designs.broken_header s (all_parameters m))) (of_instances source s m.items))
  module-whole m =
      let x : Broken = coded (designs.broken_header s m.parameters) in
      ap (both x) (items-whole m.items)
      ∙ both_moved x (others s m.items) (both (parameters s m.items) (of_instances source s m.items))
      ∙ ap (both (others s m.items)) (both-assoc x (parameters s m.items) (of_instances source s m.items) ∙ ap (λ z. both z (of_instances source s m.items)) (header-both s m.parameters (body_parameters m.items)))
