use Rattle.std.proofs.Common.{◌∙◌, ap}
use Rattle.wb_values.specs.Value.{valuation_of}
use Rattle.verilog_meaning.specs.Statement.{after_updates, run}
use Rattle.v_value.specs.Scope.{scope_at, valuation_at, values_of}
use Rattle.v_syntax.specs.Tree.{statement_of}
use Rattle.v_statement.specs.Places.{updates_of}
use Rattle.v_statement.proofs.Runs.{run-appended}
use Rattle.v_statement.proofs.statement.run.Goals as goal

pub returns-clause-effect : goal.returns-clause-effect
returns-clause-effect c =
    let s = scope_at c.args.scope.now in
    let x = statement_of c.args.statement.now in
    let copy = ap valuation_of (c.in_ok-after.ensures ∙ ap values_of c.deref.ensures.value) in
    let alone = c.in_ok-run_statement.ensures
    ∙ ap (λ us. after_updates (updates_of us) (run s x (valuation_at c.in_ok-after.after.entries.items))) c.new-added.ensures.items
    ∙ ap (λ v. run s x v) copy in
    run-appended c.run_statement.new.values c.args.updates.now.items c.run_statement.new.updates.items c.append.new.self.items _ alone
    c.in_ok-append.ensures.items
