-- Values of expressions in a design that has settled.
use Rattle.std.specs.Prelude.{◌≡◌, ◌^◌, ◌<◌, List, [], ◌∷◌, Some, is_some, IsTrue, ◌⊎◌, ⊤}
use Rattle.wb_values.specs.Value.{Name, Valuation, entry_of}
use Rattle.verilog_trees.specs.Syntax.{Expression, number, name, concatenation, replication, as_signed, as_unsigned, unary, reduction, binary, shift, power, comparison, logical, conditional, Expressions, no_expressions, expression, ParameterDeclaration, Module, Source}
use Rattle.verilog_meaning.specs.Expression.{width_of, self_value}
use Rattle.verilog_meaning.specs.Hierarchy.{all_parameters, Placed, placed_scope, module_named, Instance, instance_named, connected}
use Rattle.verilog_meaning.specs.Settled.{Design, IsPlacedIn, inside, IsDeclared, IsSettled}

abbrev mutual
  -- The numbers whose bits may come into the expression's value fit their widths, and its names are all of a kind.
  pub NamesAre : (Name → Type 0) → Expression → Type 0
  NamesAre IsOfKind (number k) = k.value < 2 ^ k.width
  NamesAre IsOfKind (name n x) = IsOfKind n
  NamesAre IsOfKind (concatenation es) = AllNamesAre IsOfKind es
  NamesAre IsOfKind (replication k es) = AllNamesAre IsOfKind es
  NamesAre IsOfKind (as_signed x) = NamesAre IsOfKind x
  NamesAre IsOfKind (as_unsigned x) = NamesAre IsOfKind x
  NamesAre IsOfKind (unary op x) = NamesAre IsOfKind x
  NamesAre IsOfKind (reduction op x) = ⊤
  NamesAre IsOfKind (binary op x y) = NamesAre IsOfKind x × NamesAre IsOfKind y
  NamesAre IsOfKind (shift op x n) = NamesAre IsOfKind x
  NamesAre IsOfKind (power x n) = ⊤
  NamesAre IsOfKind (comparison op x y) = ⊤
  NamesAre IsOfKind (logical op x y) = ⊤
  NamesAre IsOfKind (conditional c x y) = NamesAre IsOfKind x × NamesAre IsOfKind y

  pub AllNamesAre : (Name → Type 0) → Expressions → Type 0
  AllNamesAre IsOfKind no_expressions = ⊤
  AllNamesAre IsOfKind (expression e es) = NamesAre IsOfKind e × AllNamesAre IsOfKind es

-- The numbers of an expression fit, whatever its names are.
abbrev pub HasNumbersThatFit : Expression → Type 0
HasNumbersThatFit e = NamesAre (λ n. ⊤) e

abbrev pub ValuesFit : List (Name × Expression) → Type 0
ValuesFit [] = ⊤
ValuesFit (v ∷ vs) = HasNumbersThatFit v.1 × ValuesFit vs

abbrev pub ParametersFit : List ParameterDeclaration → Type 0
ParametersFit [] = ⊤
ParametersFit (d ∷ ds) = ValuesFit d.values × ParametersFit ds

-- The numbers in the parameters' values of a module fit, and so do those that its instances give to parameters.
pub record HasFittingNumbers (m : Module) : Type 0 where
  pub parameters : ParametersFit (all_parameters m)
  pub overrides : (u : Name) (i : Instance) (names : List Name) (n : Name) (e : Expression) → instance_named m.items u ≡ Some i
      → connected i.parameters names n ≡ Some e → HasNumbersThatFit e

abbrev pub SourceHasFittingNumbers : Source → Type 0
SourceHasFittingNumbers source = (n : Name) (m : Module) → module_named source n ≡ Some m → HasFittingNumbers m

-- n is a parameter of the module, or one of its nets and variables
abbrev pub IsKnown : Placed → Name → Type 0
IsKnown p n = IsTrue (is_some (entry_of p.constants n)) ⊎ IsDeclared p n

-- In a settled valuation the value of each expression of a module is a number of its width, where its numbers and those of the
-- source's parameters fit their widths: parameters, nets, variables and memories all do.
abbrev pub SettledValueFitsItsWidth : Type 0
SettledValueFitsItsWidth =
    (d : Design) (registers inputs v : Valuation) (p : Placed) (e : Expression)
    → SourceHasFittingNumbers d.source → IsSettled d registers inputs v → IsPlacedIn d p → NamesAre (IsKnown p) e
    → self_value (placed_scope p) (inside v p) e < 2 ^ width_of (placed_scope p) e
