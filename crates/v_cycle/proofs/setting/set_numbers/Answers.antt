use Rattle.std.proofs.Common.{◌≡◌, ◌∙◌, ◌+◌, ◌++◌, [], ◌∷◌, get_or, set, take, map, sym, ap, arith}
use Rattle.std.proofs.lemmas.List.{length-set, length-map, map-set, take_more_set, map_more, append_assoc}
use Rattle.wb_values.specs.Value.{number}
use Rattle.wb_terms.specs.Environment.{as_value}
use Rattle.wb_terms.specs.declared.values.Value.TheVariants.{Number}
use Rattle.v_cycle.proofs.setting.set_numbers.Goals as goal

pub loop-k-preserved : goal.loop-k-preserved
loop-k-preserved c =
    let i = c.loop-k.invariant in
    let k = c.loop-k.k in
    let f = c.args.first in
    let vs = c.loop-k.values in
    let ns = c.args.numbers.now in
    let x = get_or ns k 0 in
    let on : f + (k + 1) ≡ f + k + 1 = omega arith in
    let short = length-map vs as_value in
    record {
      set =
          ap (λ j. take j (map as_value (set vs (f + k) (Number x)))) on
          ∙ ap (take (f + k + 1)) (map-set as_value vs (f + k) (Number x))
          ∙ take_more_set (map as_value vs) (f + k) (number x) (omega arith)
          ∙ ap (λ l. l ++ number x ∷ []) i.set
          ∙ append_assoc (take f (map as_value c.args.values.now)) (map number (take k ns)) (number x ∷ [])
          ∙ ap (λ l. take f (map as_value c.args.values.now) ++ l) (sym (map_more number ns k 0 c.loop-k-test.true));
      long = length-set vs (f + k) (Number x) ∙ i.long;
    }
