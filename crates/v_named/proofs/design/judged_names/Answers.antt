use Rattle.std.proofs.Common.{refl}
use Rattle.v_syntax.specs.Source.{source_of}
use Rattle.v_named.proofs.design.judged_names.Goals as goal

pub returns : goal.returns
returns c =
    c.in_ok-named.ensures (record { source = source_of c.args.tree.now; top = c.args.top.now; clock = c.args.clock.now })
    refl c.top_of.ensures refl
