use Rattle.std.proofs.Common.{◌∙◌, sym, true}
use Rattle.wb_values.specs.Value.{same_name}
use Rattle.v_hier.specs.Tables.{has_name}
use Rattle.v_scopes.specs.Rows.{row_of}
use Rattle.v_registers.specs.Placed.{declares_variable}
use Rattle.v_registers.proofs.FirstNames.{has_more, with_variable}
use Rattle.v_registers.proofs.placed.add_variable.Goals as goal

pub returns-in_ok-insert : goal.returns-in_ok-insert
returns-in_ok-insert c = λ q.
    has_more c.args.names.now c.insert.new.self c.args.declared.name true c.in_ok-insert.ensures.updates q
    ∙ with_variable (same_name c.args.declared.name.now q) (has_name c.args.names.now q) (declares_variable (row_of c.args.declared))
    (sym c.declares_variable.ensures ∙ c.if-declares_variable.true)
