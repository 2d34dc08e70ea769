use Rattle.std.proofs.Common.{◌∙◌, List, Vec, Global, ap, map, refl, subst, sym, arith}
use Rattle.v_syntax.specs.Source.{item_of}
use Rattle.emitted_names.specs.declared.ways.Way.{Way}
use Rattle.emitted_names.specs.Parts.{update_of, AreAllWays, AreWaysFor}
use Rattle.emitted_trees.proofs.Loops.{row_for, instruction_ways, ways_from_instruction, nothing_left}
use Rattle.emitted_trees.proofs.ways.with_ways.Goals as goal

pub ways_at-requires : goal.ways_at-requires
ways_at-requires c = omega (arith, c.loop-number-test.true, c.requires.ways.many)

pub with_all_vias-requires : goal.with_all_vias-requires
with_all_vias-requires c = record {
  ways = (row_for c.args.wires.terms.now c.args.instructions.now c.loop-number.number _ c.args.rows.now c.ways_at.result.now c.requires.ways c.instruction_at-instruction.ensures c.ways_at.ensures).all_ways;
  named = c.requires.named;
}

pub loop-number-preserved : goal.loop-number-preserved
loop-number-preserved c =
    let g = c.args.wires.terms.now in
    let row = row_for g c.args.instructions.now c.loop-number.number c.instruction_at-instruction.result.now c.args.rows.now c.ways_at.result.now c.requires.ways c.instruction_at-instruction.ensures c.ways_at.ensures in
    instruction_ways g c.args.instructions.now c.loop-number.number c.instruction_at-instruction.result.now (map (update_of g) c.ways_at.result.now) _ (map item_of c.loop-number.all.items) _
    c.instruction_at-instruction.ensures row.updates c.loop-number.invariant c.in_ok-all.ensures

pub returns : goal.returns
returns c =
    nothing_left (ways_from_instruction c.args.wires.terms.now) (λ k. refl) c.args.instructions.now c.loop-number.number _ (map item_of c.loop-number.all.items)
    (omega (arith, c.loop-number-test.false)) c.loop-number.invariant
