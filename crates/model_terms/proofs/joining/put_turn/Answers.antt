use Rattle.std.proofs.Common.{List, subst}
use Rattle.wb_terms.specs.declared.nodes.TermId.{TermId}
use Rattle.term_copies.specs.Copies.{AreLeaves}
use Rattle.model_terms.specs.Symbolic.{worths}
use Rattle.std.proofs.Common.{◌≡◌, ◌∙◌, ◌&&◌, true, false, cond, refl, sym, ap}
use Rattle.term_copies.proofs.Extending.{extended_trans, extended_refl, extended_same}
use Rattle.term_copies.proofs.Copying.{leaves_kept}
use Rattle.model_terms.specs.Symbolic.{is_true}
use Rattle.model_terms.proofs.Choosing.{true_kept, condition_kept, test_kept, test_condition, worths_names}
use Rattle.model_terms.proofs.joining.put_turn.Goals as goal

pub put_choices-requires-clause-condition : goal.put_choices-requires-clause-condition
put_choices-requires-clause-condition c = condition_kept c.args.valid.0 c.in_ok-ended.ensures.extended c.requires.valid

pub returns-clause-turned : goal.returns-clause-turned
returns-clause-turned c =
    let e2 = c.in_ok-point.ensures.extended in
    record {
      ended_test = test_kept c.in_ok-ended.ended.0 e2 c.in_ok-ended.ensures.test;
      leaves = c.in_ok-point.ensures.leaves;
      ended_value = λ v. true_kept c.in_ok-ended.ended.0 v e2 c.in_ok-ended.ensures.test.below ∙ c.in_ok-ended.ensures.value v;
      point_value = λ v.
          (let h = c.put_went.new.terms in
          let g = c.args.terms.now in
          let names = c.args.source.now.names in
          let e = c.in_ok-ended.ensures.extended in
          c.in_ok-point.ensures.values v
          ∙ ap (λ b. cond b (worths h c.deref.result.now v) (worths h c.deref-2.result.now v)) (true_kept c.args.valid.0 v e c.requires.valid.below)
          ∙ ap (λ (ids : List TermId). cond (is_true g c.args.valid.0 v) (worths h ids v) (worths h c.deref-2.result.now v)) c.deref.ensures.value
          ∙ ap (λ (ids : List TermId). cond (is_true g c.args.valid.0 v) (worths h c.args.taken.now.point.items v) (worths h ids v)) c.deref-2.ensures.value
          ∙ ap (λ xs. cond (is_true g c.args.valid.0 v) xs (worths h c.args.before.now.point.items v)) (worths_names names c.args.taken.now.point.items v e c.requires.taken_point)
          ∙ ap (λ xs. cond (is_true g c.args.valid.0 v) (worths g c.args.taken.now.point.items v) xs) (worths_names names c.args.before.now.point.items v e c.requires.before_point));
    }

pub put_choices-requires-clause-first : goal.put_choices-requires-clause-first
put_choices-requires-clause-first c = subst (λ (ids : List TermId). AreLeaves c.put_went.new.terms c.args.source.now.names ids) (sym c.deref.ensures.value) (leaves_kept c.args.source.now.names c.args.taken.now.point.items c.in_ok-ended.ensures.extended c.requires.taken_point)

pub put_choices-requires-clause-second : goal.put_choices-requires-clause-second
put_choices-requires-clause-second c = subst (λ (ids : List TermId). AreLeaves c.put_went.new.terms c.args.source.now.names ids) (sym c.deref-2.ensures.value) (leaves_kept c.args.source.now.names c.args.before.now.point.items c.in_ok-ended.ensures.extended c.requires.before_point)
