-- The rules that one of some places breaks are those that some module of the design breaks.
use Rattle.std.proofs.Common.{◌≡◌, ◌∙◌, refl, ap, sym, Bool, true, false, ◌||◌, List, [], ◌∷◌, Option, Some, None, cond}
use Rattle.std.specs.Prelude.{IsTrue}
use Rattle.std.specs.List.{list_any}
use Rattle.wb_values.specs.Value.{Entries}
use Rattle.verilog_trees.specs.Syntax.{Module, Source}
use Rattle.verilog_meaning.specs.Expression.{Object}
use Rattle.verilog_rules.specs.Expression as rules
use Rattle.verilog_meaning.specs.Hierarchy.{PathStep, Placed}
use Rattle.verilog_meaning.specs.Settled.{Design}
use Rattle.verilog_designs.specs.Expressions.{broken_module}
use Rattle.verilog_designs.specs.Ports.{has_bad_port}
use Rattle.verilog_designs.specs.Accepted.{bad_port, bad_constant, width_over_128, bad_select, memory_use, SomeModule}
use Rattle.v_size.specs.declared.rule.Broken.{Broken}
use Rattle.v_size.specs.Rule.{coded, both}
use Rattle.v_modules.specs.Kinds.{kinds}
use Rattle.v_places.specs.Below.{Spot}
use Rattle.v_places.specs.Places.{placed_by, ArePlaces}
use Rattle.place_kinds.specs.Known.{KnownModulesAreSpots}
use Rattle.v_judged.specs.declared.kind.DesignKind.{DesignKind}
use Rattle.v_judged.specs.declared.kind.DesignKind.TheVariants.{HasXz, BadPort, BadConstant, WidthOver128, BadSelect, MemoryUse}
use Rattle.v_judged.specs.Rules.{spot_rules, rules_after, all_rules, has_bad_ports}
use Rattle.v_judged.specs.First.{IsFirst, rule_kinds, first_rule}
use Rattle.v_judged.proofs.First.{Decides, decided, asked}

or_none : (a : Bool) → a ≡ (a || false)
or_none true = refl
or_none false = refl

or_assoc : (a b c : Bool) → ((a || b) || c) ≡ (a || (b || c))
or_assoc true b c = refl
or_assoc false b c = refl

-- one rule of those that are broken after others
after : (broken : Broken → Bool) → ((a b : Broken) → broken (both a b) ≡ (broken a || broken b)) → (source : Source) (b : Broken) (spots : List Spot)
    → broken (rules_after source b spots) ≡ (broken b || list_any (λ x. broken (spot_rules source x)) spots)
after broken law source b [] = or_none (broken b)
after broken law source b (x ∷ spots) =
    after broken law source (both b (spot_rules source x)) spots
    ∙ (ap (λ t. t || list_any (λ y. broken (spot_rules source y)) spots) (law b (spot_rules source x))
    ∙ or_assoc (broken b) (broken (spot_rules source x)) (list_any (λ y. broken (spot_rules source y)) spots))

-- a module with constants, at no path
abbrev with_constants : Module → Entries Object → Placed
with_constants m c = record { path = []; of_module = m; constants = c }

module _ (d : Design) (spots : List Spot) (places : ArePlaces d spots) (known : KnownModulesAreSpots) (chosen : List Spot)
    (shared : (p : Module → Entries Object → Bool) → list_any (λ x. p x.of_module x.constants) chosen ≡ list_any (λ x. p x.of_module x.constants) spots) where
  -- a test of modules, and what tells whether one of the chosen places passes it
  some : (is_so : Placed → Bool) (p : Module → Entries Object → Bool) → ((path : List PathStep) (x : Spot) → is_so (placed_by path x) ≡ p x.of_module x.constants) → (b : Bool)
      → b ≡ list_any (λ x. p x.of_module x.constants) chosen → Decides b (SomeModule d is_so)
  some is_so p same b e =
      let all = e ∙ shared p in
      decided b (IsTrue (list_any (λ x. p x.of_module x.constants) spots)) (SomeModule d is_so) ((λ t. sym all ∙ t), (λ t. all ∙ t))
      (known d spots is_so (λ x. p x.of_module x.constants) places same)

  rule : (broken : Broken → Bool) → ((a b : Broken) → broken (both a b) ≡ (broken a || broken b)) → broken (coded rules.nothing) ≡ false → (is_so : Placed → Bool)
      → ((path : List PathStep) (x : Spot) → is_so (placed_by path x) ≡ broken (spot_rules d.source x)) → (found : Broken) → found ≡ all_rules d.source chosen
      → Decides (broken found) (SomeModule d is_so)
  rule broken law none is_so same found e =
      some is_so (λ m c. broken (coded (kinds (broken_module d.source (with_constants m c))))) same (broken found)
      (ap broken e ∙ (after broken law d.source (coded rules.nothing) chosen ∙ ap (λ b. b || list_any (λ x. broken (spot_rules d.source x)) chosen) none))

  pub first_so : (found : Broken) (ports : Bool) → found ≡ all_rules d.source chosen → ports ≡ list_any (has_bad_ports d.source) chosen
      → IsFirst d rule_kinds (first_rule found ports)
  first_so found ports e f =
      let o6 : Option DesignKind = cond found.memory_use (Some MemoryUse) None in
      let o5 : Option DesignKind = cond found.bad_select (Some BadSelect) o6 in
      let o4 : Option DesignKind = cond found.width_over_128 (Some WidthOver128) o5 in
      let o3 : Option DesignKind = cond found.bad_constant (Some BadConstant) o4 in
      let o2 : Option DesignKind = cond ports (Some BadPort) o3 in
      asked d found.has_xz HasXz (bad_port ∷ bad_constant ∷ width_over_128 ∷ bad_select ∷ memory_use ∷ []) o2
      (rule (λ b. b.has_xz) (λ a b. refl) refl (λ p. (broken_module d.source p).has_xz) (λ path x. refl) found e)
      (asked d ports BadPort (bad_constant ∷ width_over_128 ∷ bad_select ∷ memory_use ∷ []) o3
      (some (has_bad_port d.source) (λ m c. has_bad_port d.source (with_constants m c)) (λ path x. refl) ports f)
      (asked d found.bad_constant BadConstant (width_over_128 ∷ bad_select ∷ memory_use ∷ []) o4
      (rule (λ b. b.bad_constant) (λ a b. refl) refl (λ p. (broken_module d.source p).bad_constant) (λ path x. refl) found e)
      (asked d found.width_over_128 WidthOver128 (bad_select ∷ memory_use ∷ []) o5
      (rule (λ b. b.width_over_128) (λ a b. refl) refl (λ p. (broken_module d.source p).width_over_128) (λ path x. refl) found e)
      (asked d found.bad_select BadSelect (memory_use ∷ []) o6
      (rule (λ b. b.bad_select) (λ a b. refl) refl (λ p. (broken_module d.source p).bad_select) (λ path x. refl) found e)
      (asked d found.memory_use MemoryUse [] None
      (rule (λ b. b.memory_use) (λ a b. refl) refl (λ p. (broken_module d.source p).memory_use) (λ path x. refl) found e) refl)))))
