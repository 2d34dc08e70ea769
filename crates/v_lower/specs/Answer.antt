-- What the lowering of a whole expression answers.
use Rattle.std.specs.Prelude.{◌≡◌, ℕ, ◌≤◌, Bool, false, Some, None, Result, Ok, Err}
use Rattle.verilog_trees.specs.Syntax.{Expression}
use Rattle.verilog_meaning.specs.Expression.{Scope, width_of}
use Rattle.verilog_rules.specs.Expression.{Kind, anywhere, broken, refusal_of}
use Rattle.wb_terms.specs.Graph.{Graph}
use Rattle.v_operators.specs.Meaning.{Grows}
use Rattle.wb_terms.specs.declared.nodes.TermId.{TermId}
use Rattle.v_size.specs.Rule.{kind_of}
use Rattle.v_lower.specs.declared.expression.SizeStop.{SizeStop}
use Rattle.v_lower.specs.declared.expression.SizeStop.TheVariants.{Refused, NoMemory}
use Rattle.v_lower.specs.Lowered.{Images, HasImages, IsLowered}

pub data Outcome : Type 0 where
  lowered : (id : ℕ) → Outcome
  refused : Kind → Outcome
  out_of_memory : Outcome

-- When an expression may be lowered in a context of this width: it is of a text, each name has its term, and the context is no
-- narrower than the expression, where it breaks no rule. (It may be signed where the expression is not: its value is defined so.)
pub record IsAsked (s : Scope) (images : Images) (g : Graph) (e : Expression) (w : ℕ) : Type 0 where
  pub of_text : (broken s anywhere e).misshapen ≡ false
  pub known : HasImages s images g
  pub wider : refusal_of s e ≡ None → width_of s e ≤ w
  pub at_most_128 : w ≤ 128

-- g is the store before, and h after: a term where no rule is broken, else the first kind of those that are, and the store as it was.
abbrev pub IsAnswer : Scope → Images → Graph → Graph → Expression → ℕ → Bool → Outcome → Type 0
IsAnswer s images g h e w t (lowered id) = (refusal_of s e ≡ None) × Grows g h × IsLowered s images h e w t id
IsAnswer s images g h e w t (refused k) = (refusal_of s e ≡ Some k) × (h ≡ g)
IsAnswer s images g h e w t out_of_memory = h ≡ g

-- The same of an expression that breaks no rule.
abbrev pub IsMade : Scope → Images → Graph → Graph → Expression → ℕ → Bool → Outcome → Type 0
IsMade s images g h e w t (lowered id) = Grows g h × IsLowered s images h e w t id
IsMade s images g h e w t (refused k) = ⊥
IsMade s images g h e w t out_of_memory = h ≡ g

-- the answer of a call
abbrev pub outcome_of : Result TermId SizeStop → Outcome
outcome_of (Ok id) = lowered id.0
outcome_of (Err (Refused r)) = refused (kind_of r.kind)
outcome_of (Err NoMemory) = out_of_memory
