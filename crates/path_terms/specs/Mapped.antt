-- Terms of what expressions give values of sorts.
use Rattle.std.specs.Prelude.{◌≡◌, ℕ, Bool, true, false, List, [], ◌∷◌, Option, None}
use Rattle.wb_values.specs.Value.{Name, Sort, truth, word, memory, Value, truth_value, number, words, Valuation}
use Rattle.model_meaning.specs.Term.{val}
use Rattle.verilog_trees.specs.Syntax.{Expression, number as a_number, name, concatenation, replication, as_signed, as_unsigned, unary, reduction, binary, shift, power, comparison, logical, conditional, whole}
use Rattle.verilog_meaning.specs.Expression.{Scope, width_of, self_value, is_true}
use Rattle.verilog_rules.specs.Expression.{anywhere, broken, refusal_of}
use Rattle.refinement.specs.Map.{mapped_memory}
use Rattle.wb_terms.specs.Graph.{Graph, tree}
use Rattle.v_operators.specs.Meaning.{IsOfSort}
use Rattle.v_lower.specs.Lowered.{Images, IsSortOf, StandsFor, has_sort}

-- The expression is of a text, and breaks no rule.
pub record IsFit (s : Scope) (e : Expression) : Type 0 where
  pub of_text : (broken s anywhere e).misshapen ≡ false
  pub unbroken : refusal_of s e ≡ None

abbrev pub AreFit : Scope → List Expression → Type 0
AreFit s [] = Unit {0}
AreFit s (e ∷ es) = IsFit s e × AreFit s es

-- the whole name of a memory of the sort
pub record IsMemoryName (s : Scope) (a d : ℕ) (e : Expression) : Type 0 where
  pub called : Name
  pub is_name : e ≡ name called whole
  pub of_sort : IsSortOf (s called) (memory a d)
  pub known : has_sort (s called) ≡ true

-- The expression gives values of the sort: a truth value by its number, a word of its own width; a memory is named.
abbrev pub Gives : Scope → Sort → Expression → Type 0
Gives s truth e = IsFit s e
Gives s (word w) e = IsFit s e × (width_of s e ≡ w)
Gives s (memory a d) e = IsMemoryName s a d e

-- nothing stands in the list
abbrev pub stands_alone : {X : Type 0} → List X → Bool
stands_alone [] = true
stands_alone (x ∷ xs) = false

-- the term of the name that the expression is
abbrev pub named_term : Images → Expression → Option ℕ
named_term a (a_number k) = None
named_term a (name n x) = a n
named_term a (concatenation es) = None
named_term a (replication k es) = None
named_term a (as_signed x) = None
named_term a (as_unsigned x) = None
named_term a (unary op x) = None
named_term a (reduction op x) = None
named_term a (binary op x y) = None
named_term a (shift op x n) = None
named_term a (power x n) = None
named_term a (comparison op x y) = None
named_term a (logical op x y) = None
named_term a (conditional c x y) = None

-- what it gives, by what names mean
abbrev pub given_value : Scope → Valuation → Sort → Expression → Value
given_value s v truth e = truth_value (is_true s v e)
given_value s v (word w) e = number (self_value s v e)
given_value s v (memory a d) e = words (mapped_memory v e)

-- The term is of the sort, and worth that wherever the environment stands for the valuation.
pub record IsTermFor (s : Scope) (a : Images) (g : Graph) (t : Sort) (e : Expression) (id : ℕ) : Type 0 where
  pub of_sort : IsOfSort g id t
  pub value : (p v : Valuation) → StandsFor s a g p v → val (tree g id) p ≡ given_value s v t e

-- terms of conditions
abbrev pub AreConditions : Scope → Images → Graph → List Expression → List ℕ → Type 0
AreConditions s a g [] [] = Unit {0}
AreConditions s a g [] (id ∷ ids) = ⊥
AreConditions s a g (e ∷ es) [] = ⊥
AreConditions s a g (e ∷ es) (id ∷ ids) = IsTermFor s a g truth e id × AreConditions s a g es ids
