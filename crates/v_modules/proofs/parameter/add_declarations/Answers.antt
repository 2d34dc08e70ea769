use Rattle.std.proofs.Common.{refl, ap, ◌∙◌, ◌||◌, arith, map}
use Rattle.verilog_meaning.specs.Hierarchy.{value_names}
use Rattle.verilog_designs.specs.Names.{is_among, parameter_names}
use Rattle.v_syntax.specs.Tree.{tree_of}
use Rattle.v_syntax.specs.Source.{parameter_of}
use Rattle.v_hier.specs.Tables.{has_name}
use Rattle.v_modules.proofs.Nets.{names-turn}
use Rattle.v_modules.proofs.parameter.add_declarations.Goals as goal

pub loop-declaration-preserved : goal.loop-declaration-preserved
loop-declaration-preserved c = λ q.
    names-turn parameter_of (λ d. value_names d.values) parameter_names (λ d ds. refl) c.args.declarations.now c.loop-declaration.declaration-index c.declaration-item.result
    (has_name c.loop-declaration.names q) (has_name c.add_values.new.names q) _ q (omega arith) c.declaration-item.is
    (c.in_ok-add_values.ensures q ∙ ap (λ vs. has_name c.loop-declaration.names q || is_among (value_names (map (λ v. (v.name.now, tree_of v.value)) vs)) q) c.deref.ensures.value)
    (c.loop-declaration.invariant q)
