use Rattle.std.proofs.Common.{sym, subst}
use Rattle.verilog_meaning.specs.Settled.{Design}
use Rattle.v_syntax.specs.Source.{source_of}
use Rattle.v_scopes.specs.Refusals.{IsNamesRefusal}
use Rattle.v_scopes.specs.Scopes.{IsScoping}
use Rattle.v_scopes.proofs.Objects.{is_scoping}
use Rattle.v_scopes.proofs.scopes_of.scopes.Goals as goal

pub returns-in-Ok : goal.returns-in-Ok
returns-in-Ok c =
    let d : Design = record { source = source_of c.args.tree.now; top = c.args.top.now; clock = c.args.clock.now } in
    subst (IsScoping d) (sym c.with_top.ensures) (is_scoping d (subst (IsNamesRefusal d) c.in-Ok-None.field-0-is c.in-Ok-None.ensures) c.in-Ok.scope c.in-Ok.ensures)
