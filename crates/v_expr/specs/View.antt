-- What the code's values stand for, and what its functions give.
use Rattle.std.specs.Prelude.{◌≡◌, ◌<◌, ◌≤◌, ℕ, ◌-◌, List, ◌++◌, Option, Some, None, Result, Ok, Err}
use Rattle.std.specs.Borrow.{Bor}
use Rattle.verilog_trees.specs.Syntax as pure
use Rattle.verilog_text.specs.Spelling.{Operator}
use Rattle.verilog_text.specs.Token as pure_token
use Rattle.v_token.specs.declared.token.Token.{Token}
use Rattle.v_token.specs.View.{tokens_of}
use Rattle.v_syntax.specs.declared.tree.PrefixOperator.{PrefixOperator}
use Rattle.v_syntax.specs.Tree.{combined, tested, all_prefixed}
use Rattle.v_expr.specs.Repeat.{◌>>=◌, Read}
use Rattle.v_expr.specs.Reading.{of_level, joins_from, joins_at}
use Rattle.v_expr.specs.declared.stop.ExpressionStop.{ExpressionStop}
use Rattle.v_expr.specs.declared.stop.ExpressionStop.TheVariants.{NoMemory, Refused}
use Rattle.v_expr.specs.declared.operator.JointOperator.{JointOperator}
use Rattle.v_expr.specs.declared.operator.JointOperator.TheVariants.{Binary, Test}
use Rattle.v_expr.specs.declared.operator.Joint.{Joint}

-- Reading gives nothing, unless memory ran out.
abbrev pub Fails : {Y : Type 0} → ExpressionStop → Option Y → Type 0
Fails NoMemory read = Unit {0}
Fails (Refused left) read = read ≡ None

-- What a function returned, seen by view, is what reading gives, unless memory ran out.
abbrev pub Gives : {X Y : Type 0} → (X → Y) → Result X ExpressionStop → Option Y → Type 0
Gives view (Ok x) read = read ≡ Some (view x)
Gives view (Err e) read = Fails e read

abbrev pub joins_of : JointOperator → pure.Expression → pure.Expression → pure.Expression
joins_of (Binary o) = combined o
joins_of (Test o) = tested o

abbrev pub joint_of : Joint → Operator
joint_of j = record { level = 11 - j.tier; joins = joins_of j.operator }

-- what an operator makes of its operands, where it is of a level
abbrev pub joins_found : ℕ → Option Joint → Option (pure.Expression → pure.Expression → pure.Expression)
joins_found k (Some j) = of_level k (joint_of j)
joins_found k None = None

-- a token is an operator of the first so many tiers, or none of these
abbrev pub IsFitting : ℕ → pure_token.Token → Option Joint → Type 0
IsFitting tiers t None = (k : ℕ) → k < tiers → joins_from (11 - k) t ≡ None
IsFitting tiers t (Some j) = (j.tier < tiers) × (j.tier ≤ 10) × ((k : ℕ) → joins_from k t ≡ of_level k (joint_of j))

-- tokens begin with an operator of the first so many tiers, and what stands behind it, or with none of these
abbrev pub IsJoining : ℕ → List pure_token.Token → Option (Joint × Bor (List Token)) → Type 0
IsJoining tiers ts None = (k : ℕ) → k < tiers → joins_at (11 - k) ts ≡ None
IsJoining tiers ts (Some x) =
    (x.0.tier < tiers) × (x.0.tier ≤ 10) × ((k : ℕ) → joins_at k ts ≡ (of_level k (joint_of x.0) >>= λ f. Some (f, tokens_of x.1.now)))

-- the operand that was read, with the operators in front of it
abbrev pub after_prefixes : List PrefixOperator → Read pure_token.Token pure.Expression → Read pure_token.Token pure.Expression
after_prefixes os r = r >>= λ e. Some (all_prefixed os e.0, e.1)

-- what was read before, with what is read still behind it
abbrev pub in_front : List pure.Expression → Read pure_token.Token (List pure.Expression) → Read pure_token.Token (List pure.Expression)
in_front front r = r >>= λ x. Some (front ++ x.0, x.1)
