use Rattle.std.proofs.Common.{sym, subst}
use Rattle.v_instances.specs.Interface.{AreInterfacesOf}
use Rattle.map_uses.proofs.Told.{none_without_names, by_itself}
use Rattle.map_uses.proofs.first.first_user.Goals as goal

pub returns-then-not-has_names : goal.returns-then-not-has_names
returns-then-not-has_names c = λ d h. none_without_names d c.args.expressions.now c.args.asked.now h.named (c.has_names.ensures c.if-not-has_names.true)

pub first_numbered-requires-clause-count : goal.first_numbered-requires-clause-count
first_numbered-requires-clause-count c = c.in_ok-names.ensures.count

pub first_numbered-requires-clause-called : goal.first_numbered-requires-clause-called
first_numbered-requires-clause-called c = c.in_ok-names.ensures.called

pub first_numbered-requires-clause-flawless : goal.first_numbered-requires-clause-flawless
first_numbered-requires-clause-flawless c =
    let h = c.requires.1 in
    (c.requires.0, record { are_interfaces = subst (AreInterfacesOf c.in_ok-interfaces.interfaces) (sym h.is_source) c.in_ok-interfaces.ensures; flawless = by_itself h })

pub returns : goal.returns
returns c = λ d h.
    c.in_ok-user.ensures d
    (record { are_interfaces = subst (AreInterfacesOf c.in_ok-interfaces.interfaces) (sym h.is_source) c.in_ok-interfaces.ensures; flawless = by_itself h })
