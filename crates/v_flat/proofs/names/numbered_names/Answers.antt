use Rattle.std.proofs.Common.{◌≡◌, ◌∙◌, [], ◌∷◌, refl, ap, sym, map, length, arith}
use Rattle.std.proofs.lemmas.List.{length-map}
use Rattle.v_places.specs.Views.{spot_of, spots_of}
use Rattle.v_flat.specs.Entries.{spot_names}
use Rattle.v_flat.specs.Numbered.{number_front, numbered_from}
use Rattle.v_flat.specs.Views.{names_in}
use Rattle.v_flat.proofs.Loops.{numbered_turn, numbered_end, pushed}
use Rattle.v_flat.proofs.Rows.{numbered_length}
use Rattle.v_flat.proofs.Numbers.{numbered_are_called}
use Rattle.v_flat.proofs.Seen.{numbers_are_seen}
use Rattle.v_flat.proofs.names.numbered_names.Goals as goal

pub loop-number-preserved : goal.loop-number-preserved
loop-number-preserved c =
    record {
      few = c.loop-number.invariant.few;
      made = numbered_turn (λ k x. spot_names (number_front c.args.top_is_plain k) (spot_of x) ∷ []) (λ k xs. numbered_from c.args.top_is_plain k (spots_of xs)) (λ k x xs. refl)
          c.args.places.now c.loop-number.number _ _ (map names_in c.loop-number.list.items) (map names_in c.push.new.self.items) (omega arith) c.loop-number.invariant.made
          (pushed names_in c.loop-number.list.items c.push.new.self.items c.in_ok-names.names _ c.in_ok-push.ensures.items
          (c.in_ok-names.ensures ∙ ap (λ f. spot_names f (spot_of c.index-places-number.result)) c.in_ok-front.ensures
          ∙ ap (λ x. spot_names (number_front c.args.top_is_plain c.loop-number.number) (spot_of x)) c.index-places-number.is));
    }

pub returns-clause-called : goal.returns-clause-called
returns-clause-called c =
    let many = length-map c.args.places.now spot_of in
    let few = c.loop-number.invariant.few in
    numbered_are_called c.args.top_is_plain (spots_of c.args.places.now) (map names_in c.loop-number.list.items) (omega (arith, many, few))
    (numbered_end (λ k x. spot_names (number_front c.args.top_is_plain k) (spot_of x) ∷ []) (λ k xs. numbered_from c.args.top_is_plain k (spots_of xs)) (λ k x xs. refl) (λ k. refl)
    c.args.places.now c.loop-number.number _ (map names_in c.loop-number.list.items) (omega (arith, c.loop-number-test.false)) c.loop-number.invariant.made)

pub returns-clause-count : goal.returns-clause-count
returns-clause-count c =
    let all : map names_in c.loop-number.list.items ≡ numbered_from c.args.top_is_plain 0 (spots_of c.args.places.now)
    = numbered_end (λ k x. spot_names (number_front c.args.top_is_plain k) (spot_of x) ∷ []) (λ k xs. numbered_from c.args.top_is_plain k (spots_of xs)) (λ k x xs. refl) (λ k. refl)
    c.args.places.now c.loop-number.number _ (map names_in c.loop-number.list.items) (omega (arith, c.loop-number-test.false)) c.loop-number.invariant.made in
    sym (length-map c.loop-number.list.items names_in) ∙ ap length all ∙ numbered_length c.args.top_is_plain 0 (spots_of c.args.places.now) ∙ length-map c.args.places.now spot_of

pub returns-clause-seen : goal.returns-clause-seen
returns-clause-seen c = λ d v h.
    let many = length-map c.args.places.now spot_of in
    let few = c.loop-number.invariant.few in
    numbers_are_seen d (spots_of c.args.places.now) h (omega (arith, many, few)) v
