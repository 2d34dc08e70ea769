use Rattle.std.proofs.Common.{map, List, ap, ◌∙◌, ◌++◌, arith}
use Rattle.wb_values.specs.Value.{Name}
use Rattle.verilog_meaning.specs.Hierarchy.{value_names}
use Rattle.verilog_designs.specs.Names.{parameter_names}
use Rattle.v_syntax.specs.declared.module.ParameterDeclaration.{ParameterDeclaration}
use Rattle.v_syntax.specs.declared.module.ParameterValue.{ParameterValue}
use Rattle.v_syntax.specs.Tree.{tree_of}
use Rattle.v_syntax.specs.Source.{parameter_of}
use Rattle.v_hier.specs.declared.entry.Tag.{Tag}
use Rattle.v_hier.specs.declared.entry.Tag.TheVariants.{Other}
use Rattle.v_hier.specs.Entries.{entries_of, tagged}
use Rattle.v_hier.proofs.Declared.{entries-more, tagged-append}
use Rattle.v_hier.proofs.entry.add_declarations.Goals as goal

abbrev all : List ParameterDeclaration → List (Name × Tag)
all ds = tagged Other (parameter_names (map parameter_of ds))

abbrev part : ParameterDeclaration → List (Name × Tag)
part d = tagged Other (value_names (parameter_of d).values)

pub loop-declaration-preserved : goal.loop-declaration-preserved
loop-declaration-preserved c =
    entries-more all part (λ d ds. tagged-append Other (value_names (parameter_of d).values) (parameter_names (map parameter_of ds)))
    c.args.declarations.now c.loop-declaration.declaration-index c.declaration-item.result (entries_of c.loop-declaration.entries.items) (entries_of c.add_values.new.entries.items) _ (omega arith) c.declaration-item.is
    (c.in_ok-add_values.ensures ∙ ap (λ vs. entries_of c.loop-declaration.entries.items ++ tagged Other (value_names (map (λ (v : ParameterValue). (v.name.now, tree_of v.value)) vs))) c.deref.ensures.value) c.loop-declaration.invariant
