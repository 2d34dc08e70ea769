-- Modules that break none of the rules: drivers, bits without drivers and loops may be looked for.
use Rattle.std.proofs.Common.{◌≡◌, sym, subst, true, false, []}
use Rattle.verilog_trees.specs.Syntax.{Module, Source}
use Rattle.verilog_meaning.specs.Expression.{Scope}
use Rattle.verilog_meaning.specs.Hierarchy.{declarations, header_ports, Placed}
use Rattle.verilog_rules.specs.Expression.{also, constant_if, is_unbroken}
use Rattle.verilog_designs.specs.Constants.{has_net_as_constant}
use Rattle.verilog_designs.specs.Names.{has_duplicate}
use Rattle.verilog_designs.specs.Known.{known_module_scope, known_scope}
use Rattle.verilog_designs.specs.Expressions.{broken_header, broken_ports, broken_declarations, broken_module_items, broken_module}
use Rattle.v_value.specs.Narrow.{HasNarrowObjects}
use Rattle.v_size.proofs.Unbroken.{unbroken-also}
use Rattle.v_sound.proofs.Within.{module-narrow}
use Rattle.v_drivers.specs.Premises.{AreNarrowItems}
use Rattle.v_undriven.specs.Premises.{AreNarrowReads}
use Rattle.v_loops.specs.Turns.{IsRunnable}
use Rattle.v_fitting.specs.Wires.{HavePlainWires}
use Rattle.v_fitting.proofs.Wires.{wires-plain}
use Rattle.v_fitting.proofs.Items.{items-narrow, reads-narrow, items-runnable}

module _ (source : Source) (p : Placed) (none : p.constants ≡ []) (h : is_unbroken (broken_module source p) ≡ true) where
  abbrev s : Scope
  s = known_scope p

  objects : HasNarrowObjects (known_scope p)
  objects = module-narrow source p h none

  items-unbroken : is_unbroken (broken_module_items source (known_scope p) p.of_module.items) ≡ true
  items-unbroken =
      let m : Module = p.of_module in
      let q = unbroken-also (constant_if (has_net_as_constant source m)) (also (also (broken_header s m.parameters) (broken_ports s (header_ports m.ports))) (also (broken_declarations s m (declarations m)) (broken_module_items source s m.items))) h in
      let r = unbroken-also (also (broken_header s m.parameters) (broken_ports s (header_ports m.ports))) (also (broken_declarations s m (declarations m)) (broken_module_items source s m.items)) q.1 in
      (unbroken-also (broken_declarations s m (declarations m)) (broken_module_items source s m.items) r.1).1

  pub modules-narrow : AreNarrowItems (known_scope p) p.of_module.items × AreNarrowReads (known_scope p) p.of_module.items
  modules-narrow = (items-narrow source s objects p.of_module.items items-unbroken, reads-narrow source s objects p.of_module.items items-unbroken)

  pub modules-runnable : has_duplicate p.of_module ≡ false → IsRunnable (known_scope p) p.of_module.items
  modules-runnable once =
      items-runnable source s objects p.of_module.items
      (subst (λ cs. HavePlainWires (known_module_scope p.of_module cs) p.of_module.items) (sym none) (wires-plain p.of_module once)) items-unbroken
