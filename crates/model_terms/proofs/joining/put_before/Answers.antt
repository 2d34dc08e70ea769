use Rattle.std.proofs.Common.{List, subst}
use Rattle.wb_terms.specs.declared.nodes.TermId.{TermId}
use Rattle.term_copies.specs.Copies.{AreLeaves}
use Rattle.model_terms.specs.Symbolic.{worths}
use Rattle.std.proofs.Common.{◌≡◌, ◌∙◌, ◌&&◌, true, false, cond, refl, sym, ap}
use Rattle.term_copies.proofs.Extending.{extended_trans, extended_refl, extended_same}
use Rattle.term_copies.proofs.Copying.{leaves_kept}
use Rattle.model_terms.specs.Symbolic.{is_true}
use Rattle.model_terms.proofs.Choosing.{true_kept, condition_kept, test_kept, test_condition, worths_names}
use Rattle.model_terms.proofs.joining.put_before.Goals as goal

pub put_unless-requires-clause-condition : goal.put_unless-requires-clause-condition
put_unless-requires-clause-condition c = condition_kept c.args.decode.0 c.in_ok-ended.ensures.extended c.requires.decode

pub put_unless-requires-clause-test : goal.put_unless-requires-clause-test
put_unless-requires-clause-test c = test_kept c.args.rest.now.none.0 c.in_ok-ended.ensures.extended c.requires.none_test

pub put_choices-requires-clause-condition : goal.put_choices-requires-clause-condition
put_choices-requires-clause-condition c = condition_kept c.args.decode.0 (extended_trans c.in_ok-ended.ensures.extended c.in_ok-none.ensures.extended) c.requires.decode

pub returns-clause-added : goal.returns-clause-added
returns-clause-added c =
    let g = c.args.terms.now in
    let h = c.put_alone.new.terms in
    let k = c.put_unless.new.terms in
    let names = c.args.source.now.names in
    let e1 = c.in_ok-ended.ensures.extended in
    let e2 = c.in_ok-none.ensures.extended in
    let e3 = c.in_ok-point.ensures.extended in
    let rest = c.args.rest.now in
    record {
      none_test = test_kept c.in_ok-none.none.0 e3 c.in_ok-none.ensures.test;
      ended_test = test_kept c.in_ok-ended.ended.0 (extended_trans e2 e3) c.in_ok-ended.ensures.test;
      leaves = c.in_ok-point.ensures.leaves;
      none_value = λ v.
          true_kept c.in_ok-none.none.0 v e3 c.in_ok-none.ensures.test.below ∙ c.in_ok-none.ensures.value v
          ∙ ap (λ b. cond b false (is_true h rest.none.0 v)) (true_kept c.args.decode.0 v e1 c.requires.decode.below)
          ∙ ap (λ b. cond (is_true g c.args.decode.0 v) false b) (true_kept rest.none.0 v e1 c.requires.none_test.below);
      ended_value = λ v. true_kept c.in_ok-ended.ended.0 v (extended_trans e2 e3) c.in_ok-ended.ensures.test.below ∙ c.in_ok-ended.ensures.value v;
      point_value = λ v.
          (let h = c.put_unless.new.terms in
          let g = c.args.terms.now in
          let names = c.args.source.now.names in
          let e = (extended_trans c.in_ok-ended.ensures.extended c.in_ok-none.ensures.extended) in
          c.in_ok-point.ensures.values v
          ∙ ap (λ b. cond b (worths h c.deref.result.now v) (worths h c.deref-2.result.now v)) (true_kept c.args.decode.0 v e c.requires.decode.below)
          ∙ ap (λ (ids : List TermId). cond (is_true g c.args.decode.0 v) (worths h ids v) (worths h c.deref-2.result.now v)) c.deref.ensures.value
          ∙ ap (λ (ids : List TermId). cond (is_true g c.args.decode.0 v) (worths h c.args.one.now.point.items v) (worths h ids v)) c.deref-2.ensures.value
          ∙ ap (λ xs. cond (is_true g c.args.decode.0 v) xs (worths h c.args.rest.now.point.items v)) (worths_names names c.args.one.now.point.items v e c.requires.one_point)
          ∙ ap (λ xs. cond (is_true g c.args.decode.0 v) (worths g c.args.one.now.point.items v) xs) (worths_names names c.args.rest.now.point.items v e c.requires.rest_point));
    }

pub put_choices-requires-clause-first : goal.put_choices-requires-clause-first
put_choices-requires-clause-first c = subst (λ (ids : List TermId). AreLeaves c.put_unless.new.terms c.args.source.now.names ids) (sym c.deref.ensures.value) (leaves_kept c.args.source.now.names c.args.one.now.point.items (extended_trans c.in_ok-ended.ensures.extended c.in_ok-none.ensures.extended) c.requires.one_point)

pub put_choices-requires-clause-second : goal.put_choices-requires-clause-second
put_choices-requires-clause-second c = subst (λ (ids : List TermId). AreLeaves c.put_unless.new.terms c.args.source.now.names ids) (sym c.deref-2.ensures.value) (leaves_kept c.args.source.now.names c.args.rest.now.point.items (extended_trans c.in_ok-ended.ensures.extended c.in_ok-none.ensures.extended) c.requires.rest_point)
