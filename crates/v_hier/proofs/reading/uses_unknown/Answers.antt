use Rattle.std.proofs.Common.{sym, ap, ◌∙◌, ◌++◌, map}
use Rattle.verilog_meaning.specs.Hierarchy.{header_ports}
use Rattle.verilog_designs.specs.Names.{uses, names_in_ports, all_parameter_mentions, all_item_mentions}
use Rattle.v_syntax.specs.Source.{parameter_of, ports_of, item_of}
use Rattle.v_hier.specs.Reading.{unknown_with}
use Rattle.v_hier.proofs.Mentions.{read-known, read-ports, text-stop, text-read}
use Rattle.v_hier.proofs.reading.uses_unknown.Goals as goal

pub returns-then-not-are_ports_known : goal.returns-then-not-are_ports_known
returns-then-not-are_ports_known c =
    let a = c.args.names.now in
    let b = c.are_declarations_known.new.names in
    let m = c.args.within.now in
    let ports = header_ports (ports_of m.ports) in
    text-stop a b (all_parameter_mentions (map parameter_of c.deref.result.now)) (uses (names_in_ports ports)) (all_item_mentions (map item_of m.items.items))
    (read-known a b _ _ _ c.if-not-branch.false c.in_ok-are_declarations_known.ensures)
    (read-ports b ports _ (sym c.if-not-are_ports_known.true ∙ c.are_ports_known.ensures))
    ∙ ap (λ ps. unknown_with a (all_parameter_mentions (map parameter_of ps) ++ uses (names_in_ports ports) ++ all_item_mentions (map item_of m.items.items))) c.deref.ensures.value

pub returns : goal.returns
returns c =
    let a = c.args.names.now in
    let b = c.are_declarations_known.new.names in
    let m = c.args.within.now in
    let ports = header_ports (ports_of m.ports) in
    text-read a b c.are_items_known.new.names (all_parameter_mentions (map parameter_of c.deref.result.now)) (uses (names_in_ports ports)) (all_item_mentions (map item_of c.deref-2.result.now)) c.in_ok-known.known
    (read-known a b _ _ _ c.if-not-branch.false c.in_ok-are_declarations_known.ensures)
    (read-ports b ports _ (sym c.if-not-are_ports_known.false ∙ c.are_ports_known.ensures)) c.in_ok-known.ensures
    ∙ (ap (λ ps. unknown_with a (all_parameter_mentions (map parameter_of ps) ++ uses (names_in_ports ports) ++ all_item_mentions (map item_of c.deref-2.result.now))) c.deref.ensures.value
    ∙ ap (λ is. unknown_with a (all_parameter_mentions (map parameter_of m.parameters.items) ++ uses (names_in_ports ports) ++ all_item_mentions (map item_of is))) c.deref-2.ensures.value)
