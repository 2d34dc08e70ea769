-- The first of some kinds whose rule a design breaks.
use Rattle.std.specs.Prelude.{◌≡◌, ◌⊎◌, Bool, cond, List, [], ◌∷◌, ◌++◌, Option, Some, None}
use Rattle.verilog_meaning.specs.Settled.{Design}
use Rattle.verilog_designs.specs.Accepted as designs
use Rattle.verilog_designs.specs.Accepted.{Breaks, no_top, undeclared, duplicate_name, bad_hierarchy, has_xz, bad_port, bad_constant, width_over_128, bad_select, memory_use, clock_as_data, bad_event_list, blocking_in_clocked, nonblocking_in_comb, latch, bad_driver, undriven, comb_loop}
use Rattle.v_size.specs.declared.rule.Broken.{Broken}
use Rattle.v_judged.specs.declared.kind.DesignKind.{DesignKind}
use Rattle.v_judged.specs.declared.kind.DesignKind.TheVariants.{HasXz, BadPort, BadConstant, WidthOver128, BadSelect, MemoryUse}
use Rattle.v_judged.specs.Refusal.{kind_of}

abbrev pub kind_in : Option DesignKind → Option designs.DesignKind
kind_in None = None
kind_in (Some k) = Some (kind_of k)

-- The first of these kinds that is broken, or none of them.
abbrev pub IsFirst : Design → List designs.DesignKind → Option DesignKind → Type 0
IsFirst d [] o = o ≡ None
IsFirst d (k ∷ ks) o = ((kind_in o ≡ Some k) × Breaks d k) ⊎ ((¬ Breaks d k) × IsFirst d ks o)

-- ---- the kinds, in their order

abbrev pub name_kinds : List designs.DesignKind
name_kinds = no_top ∷ undeclared ∷ duplicate_name ∷ bad_hierarchy ∷ []

abbrev pub rule_kinds : List designs.DesignKind
rule_kinds = has_xz ∷ bad_port ∷ bad_constant ∷ width_over_128 ∷ bad_select ∷ memory_use ∷ []

abbrev pub item_kinds : List designs.DesignKind
item_kinds = bad_event_list ∷ blocking_in_clocked ∷ nonblocking_in_comb ∷ latch ∷ []

abbrev pub block_kinds : List designs.DesignKind
block_kinds = clock_as_data ∷ item_kinds

-- judged over the design in one scope
abbrev pub flat_kinds : List designs.DesignKind
flat_kinds = undriven ∷ comb_loop ∷ []

abbrev pub driver_kinds : List designs.DesignKind
driver_kinds = bad_driver ∷ flat_kinds

-- after those on names
abbrev pub later_kinds : List designs.DesignKind
later_kinds = rule_kinds ++ block_kinds ++ driver_kinds

-- ---- judged by themselves

-- the first of the rules on expressions and ports
abbrev pub first_rule : Broken → (ports : Bool) → Option DesignKind
first_rule b ports =
    cond b.has_xz (Some HasXz)
    (cond ports (Some BadPort)
    (cond b.bad_constant (Some BadConstant)
    (cond b.width_over_128 (Some WidthOver128)
    (cond b.bad_select (Some BadSelect)
    (cond b.memory_use (Some MemoryUse) None)))))
