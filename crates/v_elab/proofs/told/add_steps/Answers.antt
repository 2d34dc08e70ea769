use Rattle.std.proofs.Common.{◌∙◌, ◌++◌, ap, arith}
use Rattle.std.specs.String.{string_bytes}
use Rattle.v_elab.proofs.Telling.{step_written}
use Rattle.v_elab.proofs.told.add_steps.Goals as goal

pub loop-left-preserved : goal.loop-left-preserved
loop-left-preserved c =
    let l = c.loop-left in
    record {
      within = omega (arith, l.invariant.within);
      written = step_written (string_bytes c.args.text.now) c.args.steps.now l.left _ (string_bytes l.text) (string_bytes c.push_str.new.self) (string_bytes c.push.new.self)
          c.loop-left-test.true l.invariant.within c.in_ok-push_str.ensures.bytes
          (c.in_ok-push.ensures.bytes ∙ ap (λ t. string_bytes c.push_str.new.self ++ t) (c.in_ok-push.ensures.ascii (omega arith))) l.invariant.written;
    }
