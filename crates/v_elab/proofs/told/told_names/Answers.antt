use Rattle.std.proofs.Common.{◌∷◌, [], ap, length, arith}
use Rattle.std.specs.String.{string_bytes}
use Rattle.std.proofs.lemmas.List.{length-append}
use Rattle.v_places.specs.Views.{spots_of}
use Rattle.v_elab.proofs.Telling.{told_turn}
use Rattle.v_elab.proofs.told.told_names.Goals as goal

pub loop-name-preserved : goal.loop-name-preserved
loop-name-preserved c =
    let l = c.loop-name in
    let more = length-append l.list.items (c.in_ok-told.told ∷ []) in
    let same = ap length c.in_ok-push.ensures.items in
    record {
      count = omega (arith, l.invariant.count, more, same);
      told = told_turn string_bytes (spots_of c.args.places.now) c.args.names.now l.name-index _ l.list.items c.push.new.self.items c.in_ok-told.told
          c.loop-name-test.true c.in_ok-push.ensures.items c.in_ok-told.ensures l.invariant.told;
    }
