use Rattle.std.proofs.Common.{ap, sym, ◌∙◌, Some, Bor, List, ℕ}
use Rattle.v_value.specs.Scope.{scope_at}
use Rattle.v_syntax.specs.Source.{optional_tree_of}
use Rattle.v_constants.specs.Given.{has_name, gives}
use Rattle.v_constants.proofs.Gathered.{skipped, left_out, put}
use Rattle.v_constants.proofs.overrides.add.Goals as goal

pub returns-then-contains : goal.returns-then-contains
returns-then-contains c = λ rest all h.
    skipped (has_name c.args.met.now) c.args.list.now.items c.args.name.now _ rest all (sym c.contains.ensures ∙ c.if-contains.true) h

pub returns-in_ok-push-in-Some : goal.returns-in_ok-push-in-Some
returns-in_ok-push-in-Some c = λ rest all h.
    put c.args.met.now c.insert.new.self c.args.name c.in_ok-insert.ensures.updates (sym c.contains.ensures ∙ c.if-contains.false)
    c.args.list.now.items _ c.override_by.result _ rest all (ap (λ (n : Bor (List ℕ)). n.now) c.override_by.ensures.name)
    (ap (λ v. gives (scope_at c.args.around.scope.now) (optional_tree_of v)) c.in-Some.is ∙ ap Some (sym c.override_by.ensures.value)) c.in_ok-push-in-Some.ensures.items h

pub returns-in-None : goal.returns-in-None
returns-in-None c = λ rest all h.
    left_out c.args.met.now c.insert.new.self c.args.name c.in_ok-insert.ensures.updates (sym c.contains.ensures ∙ c.if-contains.false)
    c.args.list.now.items _ rest all (ap (λ v. gives (scope_at c.args.around.scope.now) (optional_tree_of v)) c.in-None.is) h
