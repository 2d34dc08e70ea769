-- Whether a kind is among the rules that are broken, and the law on scopes that agree.
use Rattle.std.specs.Prelude.{◌≡◌, Bool, ◌||◌, Contains}
use Rattle.wb_values.specs.Value.{Name}
use Rattle.verilog_trees.specs.Syntax.{Expression}
use Rattle.verilog_meaning.specs.Expression.{Scope, width_of}
use Rattle.verilog_rules.specs.Expression.{has_width, refusal_of}
use Rattle.verilog_designs.specs.Names.{names_in}
use Rattle.v_size.specs.declared.rule.Broken.{Broken}

-- the rules without that on trees of no text, which is no kind
abbrev pub has_kind : Broken → Bool
has_kind b = b.undeclared || (b.has_xz || (b.bad_constant || (b.width_over_128 || (b.bad_select || b.memory_use))))

-- what is judged of the expression is the same in both scopes
pub record AgreeOnRules (s t : Scope) (e : Expression) : Type 0 where
  pub refusal : refusal_of s e ≡ refusal_of t e
  pub has : has_width s e ≡ has_width t e
  pub width : width_of s e ≡ width_of t e

abbrev pub RulesAreAgreedOn : Type 0
RulesAreAgreedOn = (s t : Scope) (e : Expression) → ((n : Name) → Contains (names_in e) n → s n ≡ t n) → AgreeOnRules s t e
