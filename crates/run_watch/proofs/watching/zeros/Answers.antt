use Rattle.v_design.specs.Seen.{parts_of}
use Rattle.run_watch.proofs.ZeroInputs.{zeros_listed}
use Rattle.run_watch.proofs.watching.zeros.Goals as goal

pub returns : goal.returns
returns c =
    zeros_listed (parts_of c.args.design.now) c.in_ok-numbers.numbers.items c.input_count.result c.args.design.now.words c.input_count.ensures
    (c.in_ok-numbers.ensures.items_if_clones_equal (λ y e. e))
