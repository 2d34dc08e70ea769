use Rattle.std.proofs.Common.{◌++◌, ap, map, refl, arith}
use Rattle.v_syntax.specs.Tree.{statement_of}
use Rattle.emitted_names.proofs.Bounds.{instruction_within}
use Rattle.emitted_trees.proofs.Loops.{row_for, instruction_guarded, statements_from, nothing_left}
use Rattle.emitted_trees.proofs.updates.instruction_statements.Goals as goal

pub loop-number-init : goal.loop-number-init
loop-number-init c = ap (λ xs. map statement_of xs ++ statements_from c.args.wires.terms.now 0 c.args.instructions.now) c.new-all.ensures.items

pub ways_at-requires : goal.ways_at-requires
ways_at-requires c = omega (arith, c.loop-number-test.true, c.requires.ways.many)

pub with_instruction-requires : goal.with_instruction-requires
with_instruction-requires c =
    let g = c.args.wires.terms.now in
    record {
      within = instruction_within g c.args.instructions.now c.loop-number.number c.instruction_at-each.result.now c.requires.within c.instruction_at-each.ensures;
      named = c.requires.named;
      ways = row_for g c.args.instructions.now c.loop-number.number c.instruction_at-each.result.now c.args.rows.now c.ways_at.result.now c.requires.ways c.instruction_at-each.ensures c.ways_at.ensures;
    }

pub loop-number-preserved : goal.loop-number-preserved
loop-number-preserved c =
    instruction_guarded c.args.wires.terms.now c.args.instructions.now c.loop-number.number c.instruction_at-each.result.now _ (map statement_of c.loop-number.all.items) _
    c.instruction_at-each.ensures c.loop-number.invariant c.in_ok-all.ensures

pub returns : goal.returns
returns c =
    nothing_left (statements_from c.args.wires.terms.now) (λ k. refl) c.args.instructions.now c.loop-number.number _ (map statement_of c.loop-number.all.items)
    (omega (arith, c.loop-number-test.false)) c.loop-number.invariant
