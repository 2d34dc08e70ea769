use Rattle.std.proofs.Common.{◌∙◌, ◌+◌, List, length, get_or, set, drop, refl, sym, ap, arith}
use Rattle.std.proofs.Math.ListN.{length-set}
use Rattle.std.proofs.lemmas.List.{get_or_default}
use Rattle.wb_values.specs.Value as meaning
use Rattle.wb_values.specs.Value.{number}
use Rattle.ila_model.specs.declared.parts.Update.{Update}
use Rattle.ila_child.specs.Updating.{with_kept}
use Rattle.ila_child.proofs.Updates.{no_update, update_now, AreOfSorts-length, with_kept-turn, none_left}
use Rattle.ila_child.proofs.updating.put_updates.Goals as goal

pub loop-k-init : goal.loop-k-init
loop-k-init c = record {
  values = ap (λ j. with_kept c.args.updates.now (drop j c.args.point.now.aside) c.args.point.now.values) (omega arith);
  count = refl;
  aside = refl;
  point = λ g h. h;
}

pub put-requires-clause-place : goal.put-requires-clause-place
put-requires-clause-place c =
    let g = c.args.terms.now in
    let f = update_now g c.args.updates.now c.loop-k.k no_update c.requires.updates c.loop-k-test.true in
    omega (arith, f.state, AreOfSorts-length g.names c.args.point.now.values c.requires.fits, c.loop-k.invariant.count)

pub put-requires-clause-from : goal.put-requires-clause-from
put-requires-clause-from c =
    omega (arith, c.requires.kept, c.loop-k-test.true, ap (λ (vs : List meaning.Value). length vs) c.loop-k.invariant.aside)

pub loop-k-preserved : goal.loop-k-preserved
loop-k-preserved c =
    let us = c.args.updates.now in
    let k = c.loop-k.k in
    let first = c.args.first in
    let x = c.args.point.now in
    let y = c.loop-k.point in
    let u = get_or us k no_update in
    let put = c.put.ensures.values ∙ ap (λ (vs : List meaning.Value). set y.values u.state.0 (get_or vs (first + k) (number 0))) c.loop-k.invariant.aside in
    record {
      values = ap (λ (zs : List meaning.Value). with_kept (drop (k + 1) us) (drop (first + (k + 1)) x.aside) zs) put
          ∙ with_kept-turn us x.aside y.values first k u c.loop-k-test.true (omega (arith, c.requires.kept, c.loop-k-test.true)) (get_or_default us k no_update u c.loop-k-test.true)
          ∙ c.loop-k.invariant.values;
      count = ap (λ (zs : List meaning.Value). length zs) put ∙ length-set y.values u.state.0 _ ∙ c.loop-k.invariant.count;
      aside = c.put.ensures.aside ∙ c.loop-k.invariant.aside;
      point = λ g h. c.put.ensures.point g (c.loop-k.invariant.point g h);
    }

pub returns-clause-values : goal.returns-clause-values
returns-clause-values c =
    let us = c.args.updates.now in
    let x = c.args.point.now in
    let y = c.loop-k.point in
    let none = none_left us c.loop-k.k (omega (arith, c.loop-k-test.false)) in
    sym (ap (λ (vs : List Update). with_kept vs (drop (c.args.first + c.loop-k.k) x.aside) y.values) none) ∙ c.loop-k.invariant.values
