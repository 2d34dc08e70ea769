use Rattle.std.proofs.Common.{◌∙◌, ap, sym, option_map}
use Rattle.verilog_trees.specs.Syntax.{number}
use Rattle.verilog_rules.specs.Expression as rules
use Rattle.v_value.specs.Scope.{scope_at}
use Rattle.v_syntax.specs.Tree.{tree_of, number_of, case_kind_of}
use Rattle.v_size.specs.Rule.{coded}
use Rattle.v_rules.proofs.Numbers.{value-number, value-other}
use Rattle.v_rules.proofs.expression.broken_value.Goals as goal

pub returns-in-Some : goal.returns-in-Some
returns-in-Some c =
    c.broken_in.ensures ∙ ap (λ k. coded (rules.broken (scope_at c.args.names.scope.now) rules.anywhere (number k))) c.judged_number-judged.ensures
    ∙ value-number (scope_at c.args.names.scope.now) (case_kind_of c.args.kind) (tree_of c.args.expression.now) (number_of c.in-Some.number) (sym c.number_in.ensures ∙ ap (option_map number_of) c.in-Some.is)

pub returns-in-None : goal.returns-in-None
returns-in-None c =
    c.broken_in-in-None.ensures ∙ value-other (scope_at c.args.names.scope.now) (case_kind_of c.args.kind) (tree_of c.args.expression.now) (sym c.number_in.ensures ∙ ap (option_map number_of) c.in-None.is)
