use Rattle.std.proofs.Common.{◌∙◌, ◌<◌, ◌++◌, [], ◌∷◌, List, length, get_or, take, refl, sym, ap, arith, append_assoc}
use Rattle.std.proofs.lemmas.List.{take_more}
use Rattle.wb_values.specs.Value as meaning
use Rattle.wb_values.specs.Value.{number}
use Rattle.ila_child.proofs.Updates.{kept_none}
use Rattle.ila_child.proofs.runs.keep_states.Goals as goal

pub loop-k-init : goal.loop-k-init
loop-k-init c = record { aside = kept_none c.args.point.now.aside; values = refl; point = λ g h. h }

pub keep_name-requires : goal.keep_name-requires
keep_name-requires c = omega (arith, c.requires, c.loop-k-test.true, ap (λ (vs : List meaning.Value). length vs) c.loop-k.invariant.values)

pub loop-k-preserved : goal.loop-k-preserved
loop-k-preserved c =
    let k = c.loop-k.k in
    let x = c.args.point.now in
    let y = c.loop-k.point in
    let low : k < length x.values = omega (arith, c.requires, c.loop-k-test.true) in
    let v = get_or x.values k (number 0) in
    record {
      aside = c.in_ok-keep_name.ensures.aside
          ∙ ap (λ (vs : List meaning.Value). y.aside ++ get_or vs k (number 0) ∷ []) c.loop-k.invariant.values
          ∙ ap (λ (vs : List meaning.Value). vs ++ v ∷ []) c.loop-k.invariant.aside
          ∙ append_assoc x.aside (take k x.values) (v ∷ [])
          ∙ ap (λ (vs : List meaning.Value). x.aside ++ vs) (sym (take_more x.values k (number 0) low));
      values = c.keep_name.ensures.values ∙ c.loop-k.invariant.values;
      point = λ g h. c.keep_name.ensures.point g (c.loop-k.invariant.point g h);
    }
