use Rattle.std.proofs.Common.{◌∙◌, map, sym, ap}
use Rattle.wb_terms.specs.Environment.{as_value}
use Rattle.v_cycle.specs.Changing.{changed_at}
use Rattle.v_cycle.proofs.Changed.{changed_at-push}
use Rattle.v_cycle.proofs.setting.make_chain.Goals as goal

pub loop-stored-preserved : goal.loop-stored-preserved
loop-stored-preserved c =
    let k = c.args.register in
    let vs = map as_value c.loop-stored.values in
    let ss = c.pop.new.self.items in
    record {
      made =
          (λ i. changed_at (c.make.ensures.values i) k (c.make.ensures.chain i).items)
          ∙ sym (changed_at-push vs k ss c.in-Some.stored)
          ∙ sym (ap (changed_at vs k) c.in-Some.ensures.items)
          ∙ c.loop-stored.invariant.made;
      listed = λ xs h. c.make.ensures.listed xs (c.loop-stored.invariant.listed xs h);
    }
