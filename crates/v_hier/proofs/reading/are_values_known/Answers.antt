use Rattle.std.proofs.Common.{sym, map, append_assoc, List, arith, ◌++◌, ◌∷◌, []}
use Rattle.verilog_designs.specs.Names.{Mention, names_in, uses, declares, value_mentions}
use Rattle.v_syntax.specs.declared.module.ParameterValue.{ParameterValue}
use Rattle.v_syntax.specs.Tree.{tree_of}
use Rattle.v_hier.proofs.Mentions.{read-known, loop-more, loop-stop}
use Rattle.v_hier.proofs.reading.are_values_known.Goals as goal

abbrev all : List ParameterValue → List Mention
all vs = value_mentions (map (λ v. (v.name.now, tree_of v.value)) vs)

abbrev part : ParameterValue → List Mention
part v = uses (names_in (tree_of v.value)) ++ declares v.name.now ∷ []

pub loop-value-preserved : goal.loop-value-preserved
loop-value-preserved c =
    loop-more all part (λ v vs. sym (append_assoc (uses (names_in (tree_of v.value))) (declares v.name.now ∷ []) (all vs)))
    c.args.values.now c.loop-value.value-index c.value-item.result c.args.names.now c.loop-value.names c.is_value_known.new.names (omega arith) c.value-item.is c.loop-value.invariant
    (read-known c.loop-value.names c.is_value_known.new.names _ _ _ c.if-not-branch.false c.in_ok-is_value_known.ensures)

pub returns-then-not-branch : goal.returns-then-not-branch
returns-then-not-branch c =
    loop-stop all part (λ v vs. sym (append_assoc (uses (names_in (tree_of v.value))) (declares v.name.now ∷ []) (all vs)))
    c.args.values.now c.loop-value.value-index c.value-item.result c.args.names.now c.loop-value.names c.is_value_known.new.names c.is_value_known.new.names (omega arith) c.value-item.is c.loop-value.invariant
    (read-known c.loop-value.names c.is_value_known.new.names _ _ _ c.if-not-branch.true c.in_ok-is_value_known.ensures)
