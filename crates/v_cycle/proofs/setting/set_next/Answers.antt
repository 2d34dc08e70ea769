use Rattle.std.proofs.Common.{◌∙◌, ◌+◌, ◌<◌, ◌++◌, [], ◌∷◌, length, get_or, take, drop, map, sym, ap, subst, arith}
use Rattle.std.proofs.lemmas.List.{length-map, take_all, take_more_set, get_or-take, map_more}
use Rattle.wb_values.specs.Value.{number}
use Rattle.model_meaning.specs.Term.{sort_of}
use Rattle.wb_terms.specs.declared.nodes.TermId.{TermId}
use Rattle.wb_terms.specs.Graph.{tree}
use Rattle.wb_terms.specs.Environment.{HasSortOf, as_value, value_of, values_of}
use Rattle.v_cycle.specs.Next.{values_of_terms}
use Rattle.v_cycle.proofs.Steps.{set-left, left-at}
use Rattle.v_cycle.proofs.Terms.{AreOfTerms-length, AreOfTerms-within, AreOfTerms-at}
use Rattle.v_cycle.proofs.setting.set_next.Goals as goal

pub set_register-requires-clause-id : goal.set_register-requires-clause-id
set_register-requires-clause-id c =
    AreOfTerms-within c.args.terms.now c.args.next.now (map as_value c.args.values.now) c.loop-k.k (record { 0 = 0 }) c.requires.sorted c.loop-k-test.true

pub set_register-requires-clause-register : goal.set_register-requires-clause-register
set_register-requires-clause-register c =
    let xs = c.args.values.now in
    let all = AreOfTerms-length c.args.terms.now c.args.next.now (map as_value xs) c.requires.sorted in
    omega (arith, all, length-map xs as_value, c.loop-k-test.true)

pub set_register-requires-clause-own : goal.set_register-requires-clause-own
set_register-requires-clause-own c =
    let xs = c.args.values.now in
    let k = c.loop-k.k in
    let all = AreOfTerms-length c.args.terms.now c.args.next.now (map as_value xs) c.requires.sorted in
    let lt : k < length xs = omega (arith, all, length-map xs as_value, c.loop-k-test.true) in
    left-at (map as_value c.loop-k.values) (map as_value xs) k (number 0) c.loop-k.invariant.left
    ∙ ap (λ l. get_or l k (number 0)) c.requires.own
    ∙ get_or-take (length xs) (values_of c.args.env.now) k (number 0) lt

pub set_register-requires-clause-sorted : goal.set_register-requires-clause-sorted
set_register-requires-clause-sorted c =
    let g = c.args.terms.now in
    let ids = c.args.next.now in
    let xs = map as_value c.args.values.now in
    let k = c.loop-k.k in
    let d : TermId = record { 0 = 0 } in
    subst (λ x. HasSortOf x (sort_of (tree g (get_or ids k d).0))) (sym (left-at (map as_value c.loop-k.values) xs k (number 0) c.loop-k.invariant.left))
    (AreOfTerms-at g ids xs k d (number 0) c.requires.sorted c.loop-k-test.true)

pub loop-k-preserved : goal.loop-k-preserved
loop-k-preserved c =
    let g = c.args.terms.now in
    let e = c.args.env.now in
    let ids = c.args.next.now in
    let xs = c.args.values.now in
    let vs = c.loop-k.values in
    let k = c.loop-k.k in
    let d : TermId = record { 0 = 0 } in
    let y = value_of g e (get_or ids k d).0 in
    let all = AreOfTerms-length g ids (map as_value xs) c.requires.sorted in
    let now = c.set_register.ensures.values in
    record {
      set =
          ap (take (k + 1)) now
          ∙ take_more_set (map as_value vs) k y (omega (arith, all, length-map xs as_value, length-map vs as_value, c.loop-k-test.true))
          ∙ ap (λ l. l ++ y ∷ []) c.loop-k.invariant.set
          ∙ sym (map_more (λ id. value_of g e id.0) ids k d c.loop-k-test.true);
      left = ap (drop (k + 1)) now ∙ set-left (map as_value vs) (map as_value xs) k y c.loop-k.invariant.left;
      listed = λ zs h. c.set_register.ensures.listed zs (c.loop-k.invariant.listed zs h);
    }

pub returns-clause-values : goal.returns-clause-values
returns-clause-values c =
    let g = c.args.terms.now in
    let ids = c.args.next.now in
    let xs = c.args.values.now in
    let vs = c.loop-k.values in
    let k = c.loop-k.k in
    let all = AreOfTerms-length g ids (map as_value xs) c.requires.sorted in
    sym (take_all k (map as_value vs) (omega (arith, all, length-map xs as_value, length-map vs as_value)))
    ∙ c.loop-k.invariant.set
    ∙ ap (values_of_terms g c.args.env.now) (take_all k ids (omega arith))
