use Rattle.std.proofs.Common.{◌∙◌, ap, sym}
use Rattle.verilog_designs.specs.Reads.{and_in}
use Rattle.v_flow.specs.Spans.{bits_in}
use Rattle.v_masks.specs.Masks.{spread}
use Rattle.v_paths.specs.Walks.{met}
use Rattle.v_paths.proofs.path.met_arms.Goals as goal

pub returns-then-first : goal.returns-then-first
returns-then-first c = ap (λ f. met f (bits_in c.args.assigned.items) (spread (bits_in c.args.before.now))) (sym c.if-first.true)

pub returns : goal.returns
returns c =
    c.in_ok-both.ensures ∙ ap (λ ys. and_in (bits_in ys) (spread (bits_in c.args.before.now))) c.deref.ensures.value
    ∙ ap (λ f. met f (bits_in c.args.assigned.items) (spread (bits_in c.args.before.now))) (sym c.if-first.false)
