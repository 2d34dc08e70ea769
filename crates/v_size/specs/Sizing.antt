-- What the answer of `size` says: the width and the sign, where no rule is broken, and else the first kind of those that are.
use Rattle.std.specs.Prelude.{◌≡◌, ℕ, Bool, Option, Some, None, Result, Ok, Err}
use Rattle.verilog_trees.specs.Syntax as pure
use Rattle.verilog_meaning.specs.Expression.{Scope, width_of, sign_of}
use Rattle.verilog_rules.specs.Expression.{refusal_of}
use Rattle.v_size.specs.declared.sizing.SizeRefusal.{SizeRefusal}
use Rattle.v_size.specs.declared.rule.Kind.{Kind}
use Rattle.v_size.specs.declared.rule.Kind.TheVariants.{WidthOver128}
use Rattle.v_size.specs.Rule.{kind_of}

abbrev pub IsSizing : Scope → pure.Expression → Result (ℕ × Bool) SizeRefusal → Type 0
IsSizing s e (Ok x) = (refusal_of s e ≡ None) × (x.0 ≡ width_of s e) × (x.1 ≡ sign_of s e)
IsSizing s e (Err r) = refusal_of s e ≡ Some (kind_of r.kind)

-- what is answered, by the first kind whose rule is broken and the width
abbrev pub given : Option Kind → Option ℕ → Bool → Result (ℕ × Bool) SizeRefusal
given (Some k) w t = Err (record { kind = k })
given None (Some w) t = Ok (w, t)
given None None t = Err (record { kind = WidthOver128 })
