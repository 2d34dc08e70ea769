use Rattle.std.proofs.Common.{◌∙◌, ap, arith}
use Rattle.map_files.specs.Written as pure
use Rattle.map_trees.specs.Tokens.{IsInstructionEntry}
use Rattle.map_trees.specs.Trees.{AreInstructionTrees}
use Rattle.map_trees.proofs.Places.{each_turn, each_end, each_at, each_through}
use Rattle.map_trees.proofs.Readings.{IsInstructionTree, instructions_read, one_unread, view_among, handed_up}
use Rattle.map_trees.proofs.Turns.{IsInstructionTreeOf}
use Rattle.map_trees.proofs.trees.instruction_trees.Goals as goal

pub returns-in_err-commit : goal.returns-in_err-commit
returns-in_err-commit c = λ es h.
    let at = each_at IsInstructionEntry c.args.instructions.now es c.loop-index.index c.index-instructions-index.result _ (omega arith) c.index-instructions-index.is h in
    handed_up (AreInstructionTrees es) c.from_residual.result c.in_err-commit.field-0.0 c.from_residual.ensures.1
    (one_unread c.in_err-commit.field-0.0 _ at.0.commit (view_among (λ (i : pure.InstructionEntry). i.commit) es at.0 at.1) (c.in_err-commit.ensures at.0.commit at.2.1))

pub loop-index-preserved : goal.loop-index-preserved
loop-index-preserved c =
    each_turn IsInstructionTreeOf c.loop-index.list.items c.push.new.self.items c.args.instructions.now c.loop-index.index _ c.index-instructions-index.result _ (omega arith)
    c.index-instructions-index.is c.in_ok-push.ensures.items
    (λ e is. record {
      called = c.as_str-name.ensures.value ∙ ap (λ (i : pure.InstructionEntry). i.called) is.0;
      bound = ap (λ (i : pure.InstructionEntry). i.bound) is.0;
      commit = c.in_ok-commit.ensures e.commit is.1;
    })
    c.loop-index.invariant

pub returns : goal.returns
returns c = λ es h.
    instructions_read c.loop-index.list.items es
    (each_through IsInstructionTreeOf IsInstructionEntry IsInstructionTree (λ x y e read is. read e is) c.loop-index.list.items c.args.instructions.now es
    (each_end IsInstructionTreeOf c.loop-index.list.items c.args.instructions.now c.loop-index.index c.loop-index-test.false c.loop-index.invariant) h)
