use Rattle.std.proofs.Common.{◌∙◌, ◌++◌, ◌≤◌, ap, sym, subst, rules}
use Rattle.std.proofs.lemmas.Result.{on_ok_weaker}
use Rattle.verilog_meaning.specs.Statement.{places, all_places, target_width, targets_width}
use Rattle.v_value.specs.Scope.{scope_at, valuation_at}
use Rattle.v_syntax.specs.Tree.{target_of}
use Rattle.v_statement.specs.Places.{places_of}
use Rattle.v_statement.specs.Statements.{HasNarrowSelects, HaveNarrowSelects, target_list}
use Rattle.v_syntax.specs.declared.tree.Target.{the_lemmas}
use Rattle.v_statement.proofs.Targets.{target_of-Joined}
use Rattle.v_statement.proofs.target.+places.Goals as goal

pub add_places-add_all_places-requires : goal.add_places-add_all_places-requires
add_places-add_all_places-requires t c = (
  search (rules, the_lemmas),
  (
    c.requires.ready,
    (
      let s = scope_at c.args.scope.now in
          let h = subst (HasNarrowSelects s) (ap target_of c.in-Joined.is ∙ target_of-Joined c.in-Joined.targets) c.requires.narrow in
          subst (λ ts. HaveNarrowSelects s (target_list ts)) (sym c.deref.ensures.value) h,
      let s = scope_at c.args.scope.now in
          let h = subst (λ t. target_width s t ≤ 128) (ap target_of c.in-Joined.is ∙ target_of-Joined c.in-Joined.targets) c.requires.at_most_128 in
          subst (λ ts. targets_width s (target_list ts) ≤ 128) (sym c.deref.ensures.value) h,
    ),
  ),
)

pub add_places-returns-in-Joined : goal.add_places-returns-in-Joined
add_places-returns-in-Joined t c =
    let s = scope_at c.args.scope.now in
    let v = valuation_at c.args.values.now in
    let e = ap (λ ts. all_places s v (target_list ts)) c.deref.ensures.value
    ∙ sym (ap (λ x. places s v (target_of x)) c.in-Joined.is ∙ ap (places s v) (target_of-Joined c.in-Joined.targets)) in
    on_ok_weaker c.add_all_places.result (λ k. k ∙ ap (λ ps. places_of c.args.found.now.items ++ ps) e) c.add_all_places.ensures
