use Rattle.std.proofs.Common.{◌≡◌, ℕ, List, Some, cond, ap, subst}
use Rattle.std.specs.Prelude.{is_some}
use Rattle.std.proofs.lemmas.Map.Text.{btree_map_updates_str}
use Rattle.wb_values.specs.Value.{same_name}
use Rattle.ila_build.specs.Standing.{under_name}
use Rattle.ila_build.proofs.Definitions.{kept, aside, are_in_more}
use Rattle.ila_build.proofs.LeavingLemmas.{same_under, kept_if, in_if}
use Rattle.ila_build.proofs.table.remember.Goals as goal

pub returns-clause-ok : goal.returns-clause-ok
returns-clause-ok c = λ q. subst (λ b. under_name c.insert.new.self q ≡ cond (same_name b q) (Some c.args.term) (under_name c.args.known.now q)) c.as_bytes.ensures.value
    (btree_map_updates_str c.as_bytes.result.now c.args.known.now c.insert.new.self (Some c.args.term) c.in_ok-insert.ensures.updates q)

pub returns-clause-kept : goal.returns-clause-kept
returns-clause-kept c = λ e. kept c.args.known.now c.insert.new.self c.args.name.now c.args.term (ap is_some e) (returns-clause-ok c)

pub returns-clause-aside : goal.returns-clause-aside
returns-clause-aside c = aside c.args.known.now c.insert.new.self c.args.name.now c.args.term (returns-clause-ok c)

pub returns-clause-in_store : goal.returns-clause-in_store
returns-clause-in_store c = λ g i k. are_in_more g c.args.known.now c.insert.new.self c.args.name.now c.args.term i k (returns-clause-ok c)

pub returns-in_err-insert-clause-kept : goal.returns-in_err-insert-clause-kept
returns-in_err-insert-clause-kept c = λ e. kept_if c.args.known.now c.insert.new.self (same_under c.args.known.now c.insert.new.self c.in_err-insert.ensures.err)

pub returns-in_err-insert-clause-aside : goal.returns-in_err-insert-clause-aside
returns-in_err-insert-clause-aside c = λ q h. same_under c.args.known.now c.insert.new.self c.in_err-insert.ensures.err q

pub returns-in_err-insert-clause-in_store : goal.returns-in_err-insert-clause-in_store
returns-in_err-insert-clause-in_store c = λ g i k. in_if g c.args.known.now c.insert.new.self (same_under c.args.known.now c.insert.new.self c.in_err-insert.ensures.err) i
