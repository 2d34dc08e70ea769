use Rattle.std.proofs.Common.{arith, refl}
use Rattle.read_cases.specs.Named.{AreNamesInText}
use Rattle.read_cases.proofs.Naming.{added_none, added_turn, added_end}
use Rattle.read_cases.proofs.names.add_texts.Goals as goal

pub loop-text-init : goal.loop-text-init
loop-text-init c = added_none c.args.names.now.items refl

pub loop-text-preserved : goal.loop-text-preserved
loop-text-preserved c =
    added_turn AreNamesInText c.args.names.now.items c.loop-text.names.items c.add_text.new.names.items c.args.texts.now c.loop-text.text-index c.text-item.result _ (omega arith)
    c.text-item.is c.loop-text.invariant c.in_ok-add_text.ensures

pub returns : goal.returns
returns c = added_end AreNamesInText c.args.names.now.items c.loop-text.names.items c.args.texts.now c.loop-text.text-index (omega arith) c.loop-text.invariant
