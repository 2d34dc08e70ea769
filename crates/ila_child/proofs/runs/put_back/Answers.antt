use Rattle.std.proofs.Common.{◌∙◌, ◌++◌, List, length, length-append, get_or, set, take, drop, refl, ap, arith}
use Rattle.std.proofs.lemmas.List.{length-take, length-drop}
use Rattle.wb_values.specs.Value as meaning
use Rattle.wb_values.specs.Value.{number}
use Rattle.ila_child.proofs.Movement.{put_back-turn}
use Rattle.ila_child.proofs.runs.put_back.Goals as goal

pub loop-k-init : goal.loop-k-init
loop-k-init c = record { values = refl; aside = refl; point = λ g h. h }

pub put-requires-clause-place : goal.put-requires-clause-place
put-requires-clause-place c =
    let x = c.args.point.now in
    let k = c.loop-k.k in
    omega (arith, c.requires.values, c.requires.kept, c.loop-k-test.true, ap (λ (vs : List meaning.Value). length vs) c.loop-k.invariant.values, length-append (take k x.aside) (drop k x.values), length-take k x.aside, length-drop k x.values)

pub put-requires-clause-from : goal.put-requires-clause-from
put-requires-clause-from c = omega (arith, c.requires.kept, c.loop-k-test.true, ap (λ (vs : List meaning.Value). length vs) c.loop-k.invariant.aside)

pub loop-k-preserved : goal.loop-k-preserved
loop-k-preserved c =
    let k = c.loop-k.k in
    let x = c.args.point.now in
    let y = c.loop-k.point in
    record {
      values = c.put.ensures.values
          ∙ ap (λ (vs : List meaning.Value). set vs k (get_or y.aside k (number 0))) c.loop-k.invariant.values
          ∙ ap (λ (vs : List meaning.Value). set (take k x.aside ++ drop k x.values) k (get_or vs k (number 0))) c.loop-k.invariant.aside
          ∙ put_back-turn x.aside x.values k (omega (arith, c.requires.kept, c.loop-k-test.true)) (omega (arith, c.requires.values, c.loop-k-test.true));
      aside = c.put.ensures.aside ∙ c.loop-k.invariant.aside;
      point = λ g h. c.put.ensures.point g (c.loop-k.invariant.point g h);
    }
