use Rattle.std.proofs.Common.{refl, map, List, arith}
use Rattle.verilog_designs.specs.Names.{Mention, all_parameter_mentions, parameter_mentions}
use Rattle.v_syntax.specs.declared.module.ParameterDeclaration.{ParameterDeclaration}
use Rattle.v_syntax.specs.Source.{parameter_of}
use Rattle.v_hier.proofs.Mentions.{read-known, loop-more, loop-stop}
use Rattle.v_hier.proofs.reading.are_declarations_known.Goals as goal

abbrev all : List ParameterDeclaration → List Mention
all ds = all_parameter_mentions (map parameter_of ds)

abbrev part : ParameterDeclaration → List Mention
part d = parameter_mentions (parameter_of d)

pub loop-declaration-preserved : goal.loop-declaration-preserved
loop-declaration-preserved c =
    loop-more all part (λ d ds. refl) c.args.declarations.now c.loop-declaration.declaration-index c.declaration-item.result c.args.names.now c.loop-declaration.names c.is_declaration_known.new.names (omega arith) c.declaration-item.is c.loop-declaration.invariant
    (read-known c.loop-declaration.names c.is_declaration_known.new.names _ _ _ c.if-not-branch.false c.in_ok-is_declaration_known.ensures)

pub returns-then-not-branch : goal.returns-then-not-branch
returns-then-not-branch c =
    loop-stop all part (λ d ds. refl) c.args.declarations.now c.loop-declaration.declaration-index c.declaration-item.result c.args.names.now c.loop-declaration.names c.is_declaration_known.new.names c.is_declaration_known.new.names (omega arith) c.declaration-item.is c.loop-declaration.invariant
    (read-known c.loop-declaration.names c.is_declaration_known.new.names _ _ _ c.if-not-branch.true c.in_ok-is_declaration_known.ensures)
