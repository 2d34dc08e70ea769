use Rattle.std.proofs.Common.{arith}
use Rattle.std.specs.String.{string_bytes}
use Rattle.run_terms.proofs.Numbers.{next_is_new}
use Rattle.run_terms.proofs.naming.declare.Goals as goal

pub declare-requires : goal.declare-requires
declare-requires c =
    next_is_new c.args.terms.now.names (string_bytes c.in_ok-name.name) c.name_count.result c.requires.names c.in_ok-name.ensures c.name_count.ensures.names (omega arith)
