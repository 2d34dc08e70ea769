-- What the walk down an expression needs to know of each part: that it breaks no rule, under names that do not unfold by themselves.
use Rattle.std.specs.Prelude.{◌≡◌, ℕ, ◌≤◌, max, cond, Bool, true, false, not, ◌&&◌, ◌||◌, List, [], ◌∷◌}
use Rattle.wb_values.specs.Value.{Name, word, Valuation}
use Rattle.verilog_trees.specs.Syntax as pure
use Rattle.verilog_trees.specs.Syntax.{index, part, part_up, part_down, whole, one, two}
use Rattle.verilog_meaning.specs.Expression.{Object, Scope, is_memory, width_of, sign_of, value_of, selects_width}
use Rattle.verilog_rules.specs.Expression.{anywhere, broken, is_unbroken}
use Rattle.wb_terms.specs.Graph.{Graph}
use Rattle.v_syntax.specs.declared.tree.PrefixOperator.{PrefixOperator}
use Rattle.v_syntax.specs.declared.tree.BinaryOperator.{BinaryOperator}
use Rattle.v_syntax.specs.declared.tree.TestOperator.{TestOperator}
use Rattle.v_syntax.specs.declared.tree.Expression.{Expression}
use Rattle.v_syntax.specs.declared.tree.BinaryLink.{BinaryLink}
use Rattle.v_syntax.specs.declared.tree.TestLink.{TestLink}
use Rattle.v_syntax.specs.declared.tree.Choice.{Choice}
use Rattle.v_syntax.specs.Tree.{tree_of}
use Rattle.v_value.specs.Narrow.{IsWidth, IsSelectNarrow, AreSelectsNarrow}
use Rattle.v_value.specs.Links.{is_reduction}
use Rattle.v_operators.specs.Meaning.{IsOfSort, HasNumber}
use Rattle.v_lower.specs.Kinds.{is_plain, is_shift, is_logical}
use Rattle.v_lower.specs.Lowered.{Images, StandsFor, has_sort}

-- The expression breaks no rule where anything may be read.
unfoldable pub sound_at : Scope → pure.Expression → Bool
sound_at s e = is_unbroken (broken s anywhere e)

abbrev pub IsSound : Scope → pure.Expression → Type 0
IsSound s e = sound_at s e ≡ true

-- an operator that has a term (/ % and ** stand in constants alone)
abbrev pub has_term : BinaryOperator → Bool
has_term o = is_plain o || is_shift o

abbrev pub AreLinksSound : Scope → List BinaryLink → Type 0
AreLinksSound s [] = Unit {0}
AreLinksSound s (l ∷ ls) = (has_term l.operator ≡ true) × IsSound s (tree_of l.operand) × AreLinksSound s ls

abbrev pub AreTestsSound : Scope → List TestLink → Type 0
AreTestsSound s [] = Unit {0}
AreTestsSound s (l ∷ ls) = IsSound s (tree_of l.operand) × AreTestsSound s ls

abbrev pub AreChoicesSound : Scope → List Choice → Type 0
AreChoicesSound s [] = Unit {0}
AreChoicesSound s (c ∷ cs) = IsSound s (tree_of c.condition) × IsSound s (tree_of c.value) × AreChoicesSound s cs

abbrev pub ArePartsSound : Scope → List Expression → Type 0
ArePartsSound s [] = Unit {0}
ArePartsSound s (e ∷ es) = IsSound s (tree_of e) × ArePartsSound s es

-- the index of a select, or the base of +: and -:, is sound (bounds and counts are constants)
abbrev pub IsSelectSound : Scope → pure.Select → Type 0
IsSelectSound s (index i) = IsSound s i
IsSelectSound s (part h l) = Unit {0}
IsSelectSound s (part_up b n) = IsSound s b
IsSelectSound s (part_down b n) = IsSound s b

-- a single index
abbrev pub IsIndex : pure.Select → Type 0
IsIndex (index i) = Unit {0}
IsIndex (part h l) = ⊥
IsIndex (part_up b n) = ⊥
IsIndex (part_down b n) = ⊥

abbrev pub AreSelectsSound : Scope → Object → pure.Selects → Type 0
AreSelectsSound s o whole = is_memory o ≡ false
AreSelectsSound s o (one x) = IsSelectSound s x × (is_memory o ≡ true → IsIndex x)
AreSelectsSound s o (two x y) = (is_memory o ≡ true) × IsIndex x × IsSelectSound s x × IsSelectSound s y

-- a name with its selects
pub record IsNameSound (s : Scope) (n : Name) (x : pure.Selects) : Type 0 where
  pub sort : has_sort (s n) ≡ true
  pub sound : AreSelectsSound s (s n) x
  pub narrow : AreSelectsNarrow s x
  pub width : IsWidth (selects_width s (s n) x)

-- The context of a left and of a right operand of a test, by their own widths and signs.
abbrev pub left_width : TestOperator → ℕ → ℕ → ℕ
left_width o v w = cond (is_logical o) v (max v w)

abbrev pub left_sign : TestOperator → Bool → Bool → Bool
left_sign o t u = cond (is_logical o) t (t && u)

abbrev pub right_width : TestOperator → ℕ → ℕ → ℕ
right_width o v w = cond (is_logical o) w (max v w)

abbrev pub right_sign : TestOperator → Bool → Bool → Bool
right_sign o t u = cond (is_logical o) u (t && u)

-- The outermost of the operators makes one bit of a whole operand.
abbrev pub begins_with_reduction : List PrefixOperator → Bool
begins_with_reduction [] = false
begins_with_reduction (o ∷ os) = is_reduction o

-- The term is the one bit that an expression has, in a context of any width and sign.
pub record IsBit (s : Scope) (images : Images) (g : Graph) (e : pure.Expression) (id : ℕ) : Type 0 where
  pub width : width_of s e ≡ 1
  pub sign : sign_of s e ≡ false
  pub of_sort : IsOfSort g id (word 1)
  pub value : (w : ℕ) (t : Bool) (p v : Valuation) → StandsFor s images g p v → HasNumber g id 1 p (value_of s v e w t)

-- a part select between two bounds
abbrev pub IsBounded : pure.Select → Type 0
IsBounded (part h l) = Unit {0}
IsBounded (index i) = ⊥
IsBounded (part_up b n) = ⊥
IsBounded (part_down b n) = ⊥
