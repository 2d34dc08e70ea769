use Rattle.std.proofs.Common.{arith, sym}
use Rattle.std.proofs.lemmas.List.{append-nil}
use Rattle.read_cases.specs.Named.{names_of_texts}
use Rattle.read_cases.proofs.Naming.{more_turn, more_end}
use Rattle.read_cases.proofs.names.add_names.Goals as goal

pub loop-name-init : goal.loop-name-init
loop-name-init c = sym (append-nil (names_of_texts c.args.names.now.items))

pub loop-name-preserved : goal.loop-name-preserved
loop-name-preserved c =
    more_turn c.args.names.now.items c.loop-name.names.items c.push.new.self.items c.args.more.now c.loop-name.name-index _ (omega arith) c.in_ok-push.ensures.items
    c.loop-name.invariant

pub returns : goal.returns
returns c = more_end c.args.names.now.items c.loop-name.names.items c.args.more.now c.loop-name.name-index (omega arith) c.loop-name.invariant
