use Rattle.std.proofs.Common.{◌∙◌, refl, ap, map, arith}
use Rattle.std.proofs.lemmas.List.{at_drop_all}
use Rattle.verilog_meaning.specs.Register.{clocked_blocks}
use Rattle.v_value.specs.Scope.{scope_at}
use Rattle.v_syntax.specs.Source.{item_of}
use Rattle.v_flow.specs.Spans.{bits_in}
use Rattle.v_registers.specs.Registers.{counted_of}
use Rattle.v_registers.proofs.Splitting.{split_start, name_turn, split_end}
use Rattle.v_registers.proofs.registers.registers_among.Goals as goal

pub loop-name-init : goal.loop-name-init
loop-name-init c =
    split_start (scope_at c.args.scope.now) (clocked_blocks (map item_of c.args.items.now)) (map (λ n. n.now) c.args.declared.now) _ _
    (ap (map counted_of) c.new.ensures.items) (ap (map (λ n. n.now)) c.new-2.ensures.items)

pub loop-name-preserved : goal.loop-name-preserved
loop-name-preserved c =
    let q = clocked_blocks (map item_of c.args.items.now) in
    name_turn (scope_at c.args.scope.now) (scope_at c.args.scope.now) q c.args.declared.now c.loop-name.name-index _ _ _ _ _ refl (omega arith)
    (c.in_ok-add_name.ensures q
    (c.in_ok-groups.ensures ∙ ap bits_in c.deref.ensures.value ∙ c.in_ok-spans.ensures))
    c.loop-name.invariant

pub returns : goal.returns
returns c =
    split_end (scope_at c.args.scope.now) (clocked_blocks (map item_of c.args.items.now)) (map (λ n. n.now) c.args.declared.now) _ _ _
    (at_drop_all (map (λ n. n.now)) c.args.declared.now c.loop-name.name-index c.loop-name-test.false) c.loop-name.invariant
