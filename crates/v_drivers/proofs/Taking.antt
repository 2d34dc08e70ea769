-- The first of several assignments, and the rest.
use Rattle.std.proofs.Common.{◌≡◌, ◌∙◌, ap, sym, subst, List, [], ◌++◌}
use Rattle.std.proofs.lemmas.List.{append-nil}
use Rattle.verilog_trees.specs.Syntax as pure
use Rattle.verilog_meaning.specs.Expression.{Scope}
use Rattle.v_drivers.specs.Sets.{assignments_drivers}
use Rattle.v_drivers.specs.Premises.{HaveNarrowTargets}
use Rattle.v_drivers.proofs.Driving.{drivers-append, narrow-append}

abbrev Links : Type 0
Links = List (pure.Target × pure.Expression)

pub split-drivers : (s : Scope) (xs ys : Links) → assignments_drivers s (xs ++ ys) ≡ assignments_drivers s (xs ++ []) ++ assignments_drivers s ys
split-drivers s xs ys = drivers-append s xs ys ∙ ap (λ z. assignments_drivers s z ++ assignments_drivers s ys) (sym (append-nil xs))

pub split-narrow : (s : Scope) (xs ys : Links) → HaveNarrowTargets s (xs ++ ys) → HaveNarrowTargets s (xs ++ []) × HaveNarrowTargets s ys
split-narrow s xs ys h = let r = narrow-append s xs ys h in (subst (HaveNarrowTargets s) (sym (append-nil xs)) r.0, r.1)
