use Rattle.std.proofs.Common.{◌∙◌, ◌+◌, ◌<◌, length, get_or, take, drop, map, sym, ap, subst, arith}
use Rattle.std.proofs.lemmas.List.{length-map, length-take, map-set, get_or-map, get_or-take}
use Rattle.wb_terms.specs.Environment.{as_value}
use Rattle.v_cycle.specs.Alike.{IsAlike}
use Rattle.v_cycle.proofs.Shapes.{AreAlike-length, AreAlike-at}
use Rattle.v_cycle.proofs.Steps.{set-taken, set-left, left-at}
use Rattle.v_cycle.proofs.following.copy_all.Goals as goal

pub bounds-values-k : goal.bounds-values-k
bounds-values-k c =
    let xs = map as_value c.args.values.now in
    let n = length c.args.others.now in
    let all = AreAlike-length (take n xs) (map as_value c.args.others.now) c.requires in
    omega (arith, all, length-take n xs, length-map c.args.values.now as_value, length-map c.args.others.now as_value, c.loop-k-test.true)

pub copy_over-requires : goal.copy_over-requires
copy_over-requires c =
    let vs = c.loop-k.values in
    let xs = map as_value c.args.values.now in
    let os = c.args.others.now in
    let n = length os in
    let k = c.loop-k.k in
    let x = c.index-values-k.result in
    let y = c.index-others-k.result in
    let all = AreAlike-length (take n xs) (map as_value os) c.requires in
    let lt : k < length vs = omega (arith, all, length-take n xs, length-map c.args.values.now as_value, length-map os as_value, c.loop-k-test.true) in
    let here = get_or-take n xs k (as_value x) c.loop-k-test.true ∙ sym (left-at (map as_value vs) xs k (as_value x) c.loop-k.invariant.left)
    ∙ get_or-map as_value vs k x (as_value x) lt in
    let there = get_or-map as_value os k y (as_value y) c.loop-k-test.true ∙ ap as_value (sym c.index-others-k.is) in
    subst (λ z. IsAlike z (as_value y)) here
    (subst (IsAlike (get_or (take n xs) k (as_value x))) there
    (AreAlike-at (take n xs) (map as_value os) k (as_value x) (as_value y) c.requires (omega (arith, length-map os as_value, c.loop-k-test.true))))

pub loop-k-preserved : goal.loop-k-preserved
loop-k-preserved c =
    let vs = c.loop-k.values in
    let xs = map as_value c.args.values.now in
    let os = c.args.others.now in
    let n = length os in
    let k = c.loop-k.k in
    let y = c.index-others-k.result in
    let z = c.copy_over.new.value in
    let all = AreAlike-length (take n xs) (map as_value os) c.requires in
    let short = length-map vs as_value in
    let lt : k < length (map as_value vs) = omega (arith, all, short, length-take n xs, length-map c.args.values.now as_value, length-map os as_value, c.loop-k-test.true) in
    let now = map-set as_value vs k z in
    let there = c.copy_over.ensures ∙ ap as_value c.index-others-k.is ∙ sym (get_or-map as_value os k y (as_value y) c.loop-k-test.true) in
    record {
      set =
          ap (take (k + 1)) now
          ∙ set-taken (map as_value vs) (map as_value os) k (as_value z) (as_value y) lt (omega (arith, length-map os as_value, c.loop-k-test.true)) c.loop-k.invariant.set there;
      left = ap (drop (k + 1)) now ∙ set-left (map as_value vs) xs k (as_value z) c.loop-k.invariant.left;
    }
