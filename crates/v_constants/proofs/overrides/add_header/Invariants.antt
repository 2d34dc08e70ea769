use Rattle.std.proofs.Common.{◌≡◌, ◌++◌, drop, map, Bor, List, ℕ}
use Rattle.verilog_meaning.specs.Hierarchy.{overridable}
use Rattle.v_syntax.specs.Source.{parameter_of}
use Rattle.v_constants.proofs.overrides.add_header.Given as goal

abbrev pub invariant-loop-declaration : goal.invariant-loop-declaration
invariant-loop-declaration l =
    map (λ (n : Bor (List ℕ)). n.now) l.list.items ++ overridable (map parameter_of (drop l.declaration-index l.declarations))
    ≡ map (λ (n : Bor (List ℕ)). n.now) l.initial.list.items ++ overridable (map parameter_of l.declarations)
