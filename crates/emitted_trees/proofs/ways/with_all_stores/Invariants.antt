use Rattle.std.proofs.Common.{◌≡◌, ◌++◌, map, drop}
use Rattle.v_syntax.specs.Tree.{statement_of}
use Rattle.emitted_modules.specs.Rtl.{writes}
use Rattle.emitted_modules.specs.Module.{all_stores}
use Rattle.emitted_names.specs.Parts.{update_of}
use Rattle.emitted_trees.proofs.ways.with_all_stores.Given as goal

abbrev pub invariant-loop-place : goal.invariant-loop-place
invariant-loop-place l =
    map statement_of l.all.items ++ map writes (all_stores l.wires.terms.now (map (update_of l.wires.terms.now) (drop l.place l.ways)))
    ≡ map statement_of l.fn.statements.items ++ map writes (all_stores l.wires.terms.now (map (update_of l.wires.terms.now) l.ways))
