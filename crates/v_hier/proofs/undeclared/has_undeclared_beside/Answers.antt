use Rattle.std.proofs.Common.{map, ap, ◌∙◌}
use Rattle.verilog_designs.specs.Names.{mentions, instantiates_unknown}
use Rattle.v_syntax.specs.Source.{module_of, item_of}
use Rattle.v_hier.specs.Tables.{has_name}
use Rattle.v_hier.proofs.Mentions.{start-names, undeclared-first, undeclared-rest}
use Rattle.v_hier.proofs.Named.{instantiates-other}
use Rattle.v_hier.proofs.undeclared.has_undeclared_beside.Goals as goal

pub returns-then-branch : goal.returns-then-branch
returns-then-branch c = λ source known.
    let m = module_of c.args.within.now in
    undeclared-first source m _
    (c.in_ok-uses_unknown.ensures ∙ start-names m c.in_ok-names.names c.in_ok-names.ensures.parameters c.in_ok-names.ensures.nets c.in_ok-names.ensures.before (mentions m)) c.if-branch.true

pub returns : goal.returns
returns c = λ source known.
    let m = module_of c.args.within.now in
    undeclared-rest source m _ c.are_unknown_instances.result
    (c.in_ok-uses_unknown.ensures ∙ start-names m c.in_ok-names.names c.in_ok-names.ensures.parameters c.in_ok-names.ensures.nets c.in_ok-names.ensures.before (mentions m)) c.if-branch.false
    (c.are_unknown_instances.ensures
    ∙ (instantiates-other source (has_name c.args.modules.now) known (map item_of c.deref.result.now)
    ∙ ap (λ is. instantiates_unknown source (map item_of is)) c.deref.ensures.value))
