-- What the rules say of a module says as much of each of its parts.
use Rattle.std.proofs.Common.{◌≡◌, ◌≤◌, sym, subst, true, List, [], ◌∷◌, inl, inr}
use Rattle.std.specs.Prelude.{Contains}
use Rattle.verilog_trees.specs.Syntax.{Expression, Target, Item, Module, Source}
use Rattle.verilog_meaning.specs.Expression.{Scope}
use Rattle.verilog_meaning.specs.Statement.{target_width}
use Rattle.verilog_meaning.specs.Hierarchy.{declarations, header_ports, Placed}
use Rattle.verilog_rules.specs.Expression.{Position, anywhere, also, constant_if, broken, is_unbroken}
use Rattle.verilog_designs.specs.Constants.{has_net_as_constant}
use Rattle.verilog_designs.specs.Known.{known_module_scope, known_scope}
use Rattle.verilog_designs.specs.Expressions.{memory_if, by_constants, writes_memory, broken_target, broken_net_target, broken_assignments, broken_header, broken_ports, broken_declarations, broken_module_item, broken_module_items, broken_module}
use Rattle.verilog_unique.proofs.Descent.{IsAmong, among_contains}
use Rattle.v_value.specs.Narrow.{HasNarrowObjects}
use Rattle.v_flow.specs.Narrow.{HasNarrowParts}
use Rattle.v_size.proofs.Unbroken.{unbroken-also}
use Rattle.v_sound.proofs.Fitting.{target-fits}
use Rattle.v_sound.proofs.Objects.{unbroken-narrow}

module _ (source : Source) (p : Placed) (h : is_unbroken (broken_module source p) ≡ true) where
  parts : (is_unbroken (broken_declarations (known_scope p) p.of_module (declarations p.of_module)) ≡ true) × (is_unbroken (broken_module_items source (known_scope p) p.of_module.items) ≡ true)
  parts =
      let s : Scope = known_scope p in
      let m : Module = p.of_module in
      let q = unbroken-also (constant_if (has_net_as_constant source m)) (also (also (broken_header s m.parameters) (broken_ports s (header_ports m.ports))) (also (broken_declarations s m (declarations m)) (broken_module_items source s m.items))) h in
      let r = unbroken-also (also (broken_header s m.parameters) (broken_ports s (header_ports m.ports))) (also (broken_declarations s m (declarations m)) (broken_module_items source s m.items)) q.1 in
      unbroken-also (broken_declarations s m (declarations m)) (broken_module_items source s m.items) r.1

  pub module-narrow : p.constants ≡ [] → HasNarrowObjects (known_scope p)
  module-narrow e =
      subst (λ cs. HasNarrowObjects (known_module_scope p.of_module cs)) (sym e)
      (unbroken-narrow p.of_module (subst (λ cs. is_unbroken (broken_declarations (known_module_scope p.of_module cs) p.of_module (declarations p.of_module)) ≡ true) e parts.0))

  pub module-items : (i : Item) → Contains p.of_module.items i → is_unbroken (broken_module_item source (known_scope p) i) ≡ true
  module-items i c = among p.of_module.items parts.1 (among_contains p.of_module.items i c)
    where
      among : (items : List Item) → is_unbroken (broken_module_items source (known_scope p) items) ≡ true → IsAmong items i → is_unbroken (broken_module_item source (known_scope p) i) ≡ true
      among [] g a = absurd a
      among (j ∷ items) g (inl e) =
          subst (λ k. is_unbroken (broken_module_item source (known_scope p) k) ≡ true) e (unbroken-also (broken_module_item source (known_scope p) j) (broken_module_items source (known_scope p) items) g).0
      among (j ∷ items) g (inr a) = among items (unbroken-also (broken_module_item source (known_scope p) j) (broken_module_items source (known_scope p) items) g).1 a

among-assignments : (s : Scope) (xs : List (Target × Expression)) (x : Target × Expression) → is_unbroken (broken_assignments s xs) ≡ true → IsAmong xs x
    → (is_unbroken (broken_net_target s by_constants x.0) ≡ true) × (is_unbroken (broken s anywhere x.1) ≡ true)
among-assignments s [] x h a = absurd a
among-assignments s (y ∷ xs) x h (inl e) =
    subst (λ (z : Target × Expression). (is_unbroken (broken_net_target s by_constants z.0) ≡ true) × (is_unbroken (broken s anywhere z.1) ≡ true)) e
    (unbroken-also (broken_net_target s by_constants y.0) (broken s anywhere y.1)
    (unbroken-also (also (broken_net_target s by_constants y.0) (broken s anywhere y.1)) (broken_assignments s xs) h).0)
among-assignments s (y ∷ xs) x h (inr a) =
    among-assignments s xs x (unbroken-also (also (broken_net_target s by_constants y.0) (broken s anywhere y.1)) (broken_assignments s xs) h).1 a

pub assignments-within : (s : Scope) (xs : List (Target × Expression)) (x : Target × Expression) → is_unbroken (broken_assignments s xs) ≡ true → Contains xs x
    → (is_unbroken (broken_net_target s by_constants x.0) ≡ true) × (is_unbroken (broken s anywhere x.1) ≡ true)
assignments-within s xs x h c = among-assignments s xs x h (among_contains xs x c)

pub target-narrow : (s : Scope) (p : Position) (t : Target) → HasNarrowObjects s → is_unbroken (broken_target s p t) ≡ true → HasNarrowParts s t × (1 ≤ target_width s t) × (target_width s t ≤ 128)
target-narrow s p t objects h =
    let r = target-fits s objects p t h in
    (r.2, r.1.0, r.1.1)

pub net-target-narrow : (s : Scope) (p : Position) (t : Target) → HasNarrowObjects s → is_unbroken (broken_net_target s p t) ≡ true → HasNarrowParts s t × (1 ≤ target_width s t) × (target_width s t ≤ 128)
net-target-narrow s p t objects h = target-narrow s p t objects (unbroken-also (memory_if (writes_memory s t)) (broken_target s p t) h).1
