use Rattle.std.proofs.Common.{◌∙◌, ◌++◌, ap, sym, subst}
use Rattle.std.proofs.lemmas.Result.{on_ok_weaker}
use Rattle.wb_values.specs.Value.{valuation_of}
use Rattle.verilog_meaning.specs.Statement.{Effect, run}
use Rattle.v_value.specs.Scope.{scope_at}
use Rattle.v_syntax.specs.Tree.{statement_of}
use Rattle.v_statement.specs.Places.{updates_of}
use Rattle.v_value.specs.Narrow.{HasFittingValues}
use Rattle.v_statement.proofs.register.add_updates.Goals as goal

pub run_statement-requires-clause-ready : goal.run_statement-requires-clause-ready
run_statement-requires-clause-ready c =
    (c.requires.ready.0, subst (HasFittingValues (scope_at c.args.scope.now)) (sym (ap valuation_of c.in_ok-copy.ensures)) c.requires.ready.1)

pub returns : goal.returns
returns c =
    let s = scope_at c.args.scope.now in
    let x = statement_of c.args.block.now in
    let us = updates_of c.args.updates.now.items in
    let same = ap (λ v. us ++ (run s x v).updates) (ap valuation_of c.in_ok-copy.ensures) in
    on_ok_weaker c.run_statement.result (λ k. ap (λ (e : Effect). e.updates) k ∙ same) c.run_statement.ensures
