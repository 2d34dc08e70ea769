use Rattle.std.proofs.Common.{◌≡◌, ◌+◌, ◌-◌, ◌<◌, ◌%◌, ◌^◌, suc, length, ◌∙◌, ap, sym, subst, arith, drop}
use Rattle.verilog_meaning.specs.Statement.{written, places_width}
use Rattle.v_value.specs.Narrow.{HasFittingValues}
use Rattle.v_value.specs.Scope.{scope_at, valuation_at}
use Rattle.v_statement.specs.Places.{places_of}
use Rattle.v_statement.proofs.Written.{written_all, count_fits, shr_all, turn, turn_rest, place_fits}
use Rattle.v_statement.proofs.write.write_in_room.Goals as goal

pub write_place-requires-clause-count_at_most_128 : goal.write_place-requires-clause-count_at_most_128
write_place-requires-clause-count_at_most_128 c = count_fits c.args.places.now _ _ (omega arith) c.requires.at_most_128

pub loop-i-preserved : goal.loop-i-preserved
loop-i-preserved c =
    let ps = c.args.places.now in
    let s = scope_at c.args.scope.now in
    let h : length ps - (c.loop-i.i + 1) < length ps = omega arith in
    let is_i : length ps - c.loop-i.i ≡ suc (length ps - (c.loop-i.i + 1)) = omega arith in
    let is_j : length ps - 1 - c.loop-i.i ≡ length ps - (c.loop-i.i + 1) = omega arith in
    record {
      so_far = turn s (valuation_at c.args.values.now.entries.items) ps _ c.args.number _ _ _ _ _ c.loop-i.rest h is_i is_j
          c.loop-i.invariant.so_far c.loop-i.invariant.rest c.write_place.ensures.written;
      rest = turn_rest ps _ c.args.number _ _ _ c.loop-i.rest c.unwrap_or-rest.result h is_i is_j c.loop-i.invariant.rest
          (c.unwrap_or-rest.ensures ∙ shr_all c.checked_shr.result c.loop-i.rest _ c.loop-i.invariant.small c.checked_shr.ensures);
      small = c.unwrap_or-rest.type_inv;
      room = omega (arith, c.loop-i.invariant.room, c.write_place.ensures.room, c.write_place.ensures.capacity);
      fits = subst (HasFittingValues s) (sym c.write_place.ensures.written) (place_fits s (valuation_at c.loop-i.values.entries.items) _ c.loop-i.rest c.loop-i.invariant.fits);
    }

pub returns : goal.returns
returns c =
    let ps = c.args.places.now in
    let s = scope_at c.args.scope.now in
    let v = valuation_at c.args.values.now.entries.items in
    let x = c.args.number in
    let none : length ps - c.loop-i.i ≡ 0 = omega arith in
    c.loop-i.invariant.so_far
    ∙ ap (λ k. written s v (places_of (drop k ps)) (x % 2 ^ places_width (places_of (drop k ps)))) none
    ∙ written_all s v (places_of ps) x
