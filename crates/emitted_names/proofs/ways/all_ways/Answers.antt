use Rattle.std.proofs.Common.{◌≡◌, ◌∙◌, length, sym, subst, ap, arith}
use Rattle.emitted_names.specs.Within.{AreUpdatesWithin}
use Rattle.emitted_modules.specs.Nodes.{operand}
use Rattle.emitted_modules.specs.Module.{memory_updates}
use Rattle.emitted_names.proofs.Bounds.{instruction_within}
use Rattle.emitted_names.proofs.PartLists.{no_way_rows, one_way_row, way_rows_done}
use Rattle.emitted_names.proofs.ways.all_ways.Goals as goal

pub loop-number-init : goal.loop-number-init
loop-number-init c = no_way_rows c.args.terms.now c.args.instructions.now _ c.new-rows.ensures.items

pub ways-requires : goal.ways-requires
ways-requires c =
    let b = instruction_within c.args.terms.now c.args.instructions.now c.loop-number.number c.instruction_at-instruction.result.now c.requires.within c.instruction_at-instruction.ensures in
    record {
      ordered = c.requires.ordered;
      decode = b.condition;
      within = subst (AreUpdatesWithin c.args.terms.now) (sym c.as_slice-updates.ensures.value) b.updated;
    }

pub loop-number-preserved : goal.loop-number-preserved
loop-number-preserved c =
    let g = c.args.terms.now in
    let l = c.loop-number in
    let i = c.instruction_at-instruction.result.now in
    one_way_row g c.args.instructions.now l.number i l.rows.items _ c.in_ok-row.row c.instruction_at-instruction.ensures l.invariant
    (record {
      updates = c.in_ok-row.ensures.updates ∙ ap (memory_updates g l.number (operand g i.decode.0)) c.as_slice-updates.ensures.value;
      all_ways = c.in_ok-row.ensures.each;
    }) c.in_ok-push.ensures.items

pub returns : goal.returns
returns c =
    let e : c.loop-number.number ≡ length c.args.instructions.now = omega (arith, c.loop-number-test.false, c.loop-number.auto.number-end) in
    way_rows_done c.args.terms.now c.args.instructions.now c.loop-number.number _ c.loop-number.rows.items e c.loop-number.invariant
