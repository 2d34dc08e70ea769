-- A parameter's value as it is judged, and parameters of one declaration as the code has them.
use Rattle.std.proofs.Common.{◌≡◌, ◌∙◌, ap, sym, Bool, false, None}
use Rattle.verilog_trees.specs.Syntax.{Expression}
use Rattle.verilog_meaning.specs.Expression.{Scope}
use Rattle.verilog_rules.specs.Expression.{Position, is_unbroken, broken}
use Rattle.verilog_designs.specs.Known.{known_parameter}
use Rattle.v_scopes.specs.declared.range.Bounds.{Bounds}
use Rattle.v_scopes.specs.declared.range.Bounds.TheVariants.{Absent}
use Rattle.v_constants.specs.Values.{place_at, is_right_at, parameter_at}
use Rattle.v_constants.proofs.Ranges.{parameter_so}

pub right_so : (s : Scope) (b : Bounds) (e : Expression) (p : Position) → p ≡ place_at s b e → {t : Bool} → is_unbroken (broken s p e) ≡ t → is_right_at s b e ≡ t
unfolding is_right_at
right_so s b e p h {t} g = ap (λ q. is_unbroken (broken s q e)) (sym h) ∙ g

-- what an expression gives as an override
pub given_so : (s : Scope) (e : Expression) → parameter_at s false Absent e ≡ known_parameter s false None e
given_so s e = sym (parameter_so s false None e)
