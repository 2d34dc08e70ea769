use Rattle.std.proofs.Common.{◌∙◌, sym, subst, Some}
use Rattle.verilog_meaning.specs.Hierarchy.{module_named}
use Rattle.verilog_meaning.specs.Settled.{Design}
use Rattle.v_syntax.specs.Source.{source_of}
use Rattle.v_hier.specs.Instances.{has_parts}
use Rattle.v_scopes.specs.declared.refusal.ScopesKind.TheVariants.{NotYet}
use Rattle.v_scopes.specs.Refusals.{IsNamesRefusal, top_kind}
use Rattle.v_scopes.proofs.Chosen.{later_kind}
use Rattle.v_scopes.proofs.Judged.{judged}
use Rattle.v_scopes.proofs.refusal.names_refusal.Goals as goal

pub returns-then-parts : goal.returns-then-parts
returns-then-parts c = sym c.has_parts-parts.ensures ∙ c.if-parts.true

pub returns : goal.returns
returns c =
    let d : Design = record { source = source_of c.args.tree.now; top = c.args.top.now; clock = c.args.clock.now } in
    subst (IsNamesRefusal d)
    (sym (later_kind (has_parts d.source) (Some NotYet) (top_kind d.source d.clock (module_named d.source d.top)) c.in_ok-kind.kind (sym c.has_parts-parts.ensures ∙ c.if-parts.false) c.in_ok-kind.ensures))
    (judged d)
