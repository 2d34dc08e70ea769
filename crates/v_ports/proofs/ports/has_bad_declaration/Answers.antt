use Rattle.std.proofs.Common.{◌≡◌, ◌∙◌, ap, sym, map, not, None}
use Rattle.verilog_meaning.specs.Expression.{Scope}
use Rattle.verilog_designs.specs.Ports.{lacks_direction, lacks_port, has_reg_input, has_unequal_ranges}
use Rattle.v_syntax.specs.Source.{module_of}
use Rattle.v_hier.specs.Tables.{has_name}
use Rattle.v_scopes.specs.Rows.{rows_of}
use Rattle.v_ports.specs.Ports.{IsScopeIn, ports_are_bad, some_port_is}
use Rattle.v_ports.specs.Ranges.{differs_after}
use Rattle.v_ports.proofs.Whole.{no_direction, no_port, reg_input, unequal, first_bad, second_bad, third_bad, last_bad, if_ok_then}
use Rattle.v_ports.proofs.ports.has_bad_declaration.Goals as goal

pub returns-then-lacks_direction : goal.returns-then-lacks_direction
returns-then-lacks_direction c = λ s h.
    let m = module_of c.args.within.now in
    first_bad (lacks_direction m) (lacks_port m) (has_reg_input m) (has_unequal_ranges s m) (sym (no_direction s c.args.names.now m (map (λ n. n.now) c.deref.result.now) h (ap (λ ns. map (λ n. n.now) ns) c.deref.ensures.value ∙ c.in_ok-order.ensures)) ∙ sym c.lacks_direction.ensures ∙ c.if-lacks_direction.true)

pub returns-then-lacks_port : goal.returns-then-lacks_port
returns-then-lacks_port c = λ s h.
    let m = module_of c.args.within.now in
    second_bad (lacks_direction m) (lacks_port m) (has_reg_input m) (has_unequal_ranges s m)
    (sym (no_direction s c.args.names.now m (map (λ n. n.now) c.deref.result.now) h (ap (λ ns. map (λ n. n.now) ns) c.deref.ensures.value ∙ c.in_ok-order.ensures)) ∙ sym c.lacks_direction.ensures ∙ c.if-lacks_direction.false)
    (sym (no_port s c.args.names.now m (map (λ n. n.now) c.deref-2.result.now) (has_name c.in_ok-listed.listed) h (ap (λ ns. map (λ n. n.now) ns) c.deref-2.ensures.value ∙ c.in_ok-order.ensures) c.in_ok-listed.ensures)
    ∙ ap (λ rs. some_port_is (λ n. not (has_name c.in_ok-listed.listed n)) (rows_of rs)) (sym c.declarations.ensures) ∙ sym c.lacks_port.ensures ∙ c.if-lacks_port.true)

pub returns-then-has_reg_input : goal.returns-then-has_reg_input
returns-then-has_reg_input c = λ s h.
    let m = module_of c.args.within.now in
    third_bad (lacks_direction m) (lacks_port m) (has_reg_input m) (has_unequal_ranges s m)
    (sym (no_direction s c.args.names.now m (map (λ n. n.now) c.deref.result.now) h (ap (λ ns. map (λ n. n.now) ns) c.deref.ensures.value ∙ c.in_ok-order.ensures)) ∙ sym c.lacks_direction.ensures ∙ c.if-lacks_direction.false)
    (sym (no_port s c.args.names.now m (map (λ n. n.now) c.deref-2.result.now) (has_name c.in_ok-listed.listed) h (ap (λ ns. map (λ n. n.now) ns) c.deref-2.ensures.value ∙ c.in_ok-order.ensures) c.in_ok-listed.ensures)
    ∙ ap (λ rs. some_port_is (λ n. not (has_name c.in_ok-listed.listed n)) (rows_of rs)) (sym c.declarations.ensures) ∙ sym c.lacks_port.ensures ∙ c.if-lacks_port.false)
    (sym (reg_input s c.args.names.now m (map (λ n. n.now) c.deref-3.result.now) h (ap (λ ns. map (λ n. n.now) ns) c.deref-3.ensures.value ∙ c.in_ok-order.ensures)) ∙ sym c.has_reg_input.ensures ∙ c.if-has_reg_input.true)

pub returns : goal.returns
returns c =
    let m = module_of c.args.within.now in
    if_ok_then c.has_unequal_ranges.result
    (λ b. b ≡ some_port_is (differs_after None (rows_of c.declarations-2.result.now)) (rows_of c.declarations-2.result.now))
    (λ b. (s : Scope) → IsScopeIn s c.args.names.now m → b ≡ ports_are_bad s m)
    (λ b e. λ s h.
    e ∙ ap (λ rs. some_port_is (differs_after None (rows_of rs)) (rows_of rs)) c.declarations-2.ensures ∙ unequal s c.args.names.now m h
    ∙ last_bad (lacks_direction m) (lacks_port m) (has_reg_input m) (has_unequal_ranges s m)
    (sym (no_direction s c.args.names.now m (map (λ n. n.now) c.deref.result.now) h (ap (λ ns. map (λ n. n.now) ns) c.deref.ensures.value ∙ c.in_ok-order.ensures)) ∙ sym c.lacks_direction.ensures ∙ c.if-lacks_direction.false)
    (sym (no_port s c.args.names.now m (map (λ n. n.now) c.deref-2.result.now) (has_name c.in_ok-listed.listed) h (ap (λ ns. map (λ n. n.now) ns) c.deref-2.ensures.value ∙ c.in_ok-order.ensures) c.in_ok-listed.ensures)
    ∙ ap (λ rs. some_port_is (λ n. not (has_name c.in_ok-listed.listed n)) (rows_of rs)) (sym c.declarations.ensures) ∙ sym c.lacks_port.ensures ∙ c.if-lacks_port.false)
    (sym (reg_input s c.args.names.now m (map (λ n. n.now) c.deref-3.result.now) h (ap (λ ns. map (λ n. n.now) ns) c.deref-3.ensures.value ∙ c.in_ok-order.ensures)) ∙ sym c.has_reg_input.ensures ∙ c.if-has_reg_input.false))
    c.has_unequal_ranges.ensures
