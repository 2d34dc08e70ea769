use Rattle.std.proofs.Common.{arith, refl}
use Rattle.read_cases.specs.Named.{AreNamesInCommit}
use Rattle.read_cases.proofs.Naming.{added_none, added_turn, added_end, added_as, commit_named}
use Rattle.read_cases.proofs.names.add_commits.Goals as goal

pub loop-instruction-init : goal.loop-instruction-init
loop-instruction-init c = added_none c.args.names.now.items refl

pub loop-instruction-preserved : goal.loop-instruction-preserved
loop-instruction-preserved c =
    added_turn AreNamesInCommit c.args.names.now.items c.loop-instruction.names.items c.add_text.new.names.items c.args.instructions.now c.loop-instruction.instruction-index c.instruction-item.result _ (omega arith)
    c.instruction-item.is c.loop-instruction.invariant (added_as _ _ (commit_named c.instruction-item.result) c.in_ok-add_text.ensures)

pub returns : goal.returns
returns c = added_end AreNamesInCommit c.args.names.now.items c.loop-instruction.names.items c.args.instructions.now c.loop-instruction.instruction-index (omega arith) c.loop-instruction.invariant
