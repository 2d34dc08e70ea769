use Rattle.std.proofs.Common.{sym, ◌∙◌, ◌++◌, map, subst}
use Rattle.verilog_designs.specs.Names.{uses, names_in_range, value_mentions}
use Rattle.v_syntax.specs.declared.module.ParameterValue.{ParameterValue}
use Rattle.v_syntax.specs.Tree.{tree_of}
use Rattle.v_syntax.specs.Source.{optional_range_of}
use Rattle.v_hier.specs.Reading.{IsRead}
use Rattle.v_hier.proofs.Mentions.{read-range, read-then, read-stop}
use Rattle.v_hier.proofs.reading.is_declaration_known.Goals as goal

pub returns-then-not-is_range_known : goal.returns-then-not-is_range_known
returns-then-not-is_range_known c =
    read-stop c.args.names.now c.args.names.now c.args.names.now _ _
    (read-range c.args.names.now (optional_range_of c.args.declaration.now.range) _ (sym c.if-not-is_range_known.true ∙ c.is_range_known.ensures))

pub returns : goal.returns
returns c =
    let r = optional_range_of c.args.declaration.now.range in
    subst (λ vs. IsRead c.args.names.now (uses (names_in_range r) ++ value_mentions (map (λ (v : ParameterValue). (v.name.now, tree_of v.value)) vs)) c.in_ok-known.known c.are_values_known.new.names)
    c.deref.ensures.value
    (read-then c.args.names.now c.args.names.now c.are_values_known.new.names _ _ c.in_ok-known.known
    (read-range c.args.names.now r _ (sym c.if-not-is_range_known.false ∙ c.is_range_known.ensures)) c.in_ok-known.ensures)
