use Rattle.std.proofs.Common.{◌∙◌}
use Rattle.verilog_meaning.specs.Hierarchy.{header_ports}
use Rattle.v_value.specs.Scope.{scope_at}
use Rattle.v_syntax.specs.Source.{ports_of}
use Rattle.v_rules.specs.Judging.{none}
use Rattle.v_rules.proofs.Listed.{ports-broken}
use Rattle.v_rules.proofs.text.ports_rules.Goals as goal

pub returns : goal.returns
returns c = c.broken_header.ensures ∙ ports-broken (scope_at c.args.names.scope.now) (header_ports (ports_of c.args.ports.now)) none
