use Rattle.v_expr.proofs.Flat.{is_some, more_prefixes, flat-more_prefixes, flat-first_prefixes}
use Rattle.v_expr.proofs.node.with_prefixes.Goals as goal

pub returns-in_ok-append-in-Prefix-clause-made : goal.returns-in_ok-append-in-Prefix-clause-made
returns-in_ok-append-in-Prefix-clause-made c =
    more_prefixes c.args.operators c.in-Prefix.inner c.append.new.self c.in-Prefix.last c.args.operand c.in-Prefix.is c.in_ok-append-in-Prefix.ensures.items

pub returns-in_ok-append-in-Prefix-clause-flat : goal.returns-in_ok-append-in-Prefix-clause-flat
returns-in_ok-append-in-Prefix-clause-flat c = λ flat.
    flat-more_prefixes c.args.operators c.in-Prefix.inner c.append.new.self c.in-Prefix.last c.args.operand c.in-Prefix.is c.in_ok-append-in-Prefix.ensures.items
    (is_some c.args.operators c.is_empty.result c.is_empty.ensures c.if-is_empty.false) flat

pub returns-in_ok-last-in_default-clause-flat : goal.returns-in_ok-last-in_default-clause-flat
returns-in_ok-last-in_default-clause-flat c = λ flat.
    flat-first_prefixes c.args.operators c.in_ok-last-in_default.last c.args.operand c.in_ok-last-in_default.ensures.ok
    (is_some c.args.operators c.is_empty.result c.is_empty.ensures c.if-is_empty.false) c.in_default.not-Prefix flat
