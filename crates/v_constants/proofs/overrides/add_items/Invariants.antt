use Rattle.std.proofs.Common.{◌≡◌, ◌++◌, drop, map, Bor, List, ℕ}
use Rattle.verilog_meaning.specs.Hierarchy.{overridable, body_parameters}
use Rattle.v_syntax.specs.Source.{item_of}
use Rattle.v_constants.proofs.overrides.add_items.Given as goal

abbrev pub invariant-loop-item : goal.invariant-loop-item
invariant-loop-item l =
    map (λ (n : Bor (List ℕ)). n.now) l.list.items ++ overridable (body_parameters (map item_of (drop l.item-index l.items)))
    ≡ map (λ (n : Bor (List ℕ)). n.now) l.initial.list.items ++ overridable (body_parameters (map item_of l.items))
