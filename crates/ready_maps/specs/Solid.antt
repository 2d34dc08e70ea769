-- Expressions whose numbers have bits and fit them, and whose parts are some.
use Rattle.std.specs.Prelude.{◌^◌, ◌<◌, ◌≤◌, List, [], ◌∷◌, Some}
use Rattle.verilog_trees.specs.Syntax as tree
use Rattle.verilog_trees.specs.Syntax.{Number, Expression, Expressions, no_expressions, expression, Select, Selects, whole, one, two}
use Rattle.verilog_text.specs.Token.{Token, decimal, based}
use Rattle.verilog_text.specs.Spelling.{decimal_value, based_number}

pub record IsSolidNumber (n : Number) : Type 0 where
  pub some_bits : 1 ≤ n.width
  pub value_fits : n.value < 2 ^ n.width

abbrev pub AreSome : Expressions → Type 0
AreSome no_expressions = ⊥
AreSome (expression e es) = Unit {0}

abbrev mutual
  pub IsSolid : Expression → Type 0
  IsSolid (tree.number n) = IsSolidNumber n
  IsSolid (tree.name n s) = AreSolidSelects s
  IsSolid (tree.concatenation es) = AreSome es × AreSolid es
  IsSolid (tree.replication k es) = IsSolid k × AreSome es × AreSolid es
  IsSolid (tree.as_signed x) = IsSolid x
  IsSolid (tree.as_unsigned x) = IsSolid x
  IsSolid (tree.unary o x) = IsSolid x
  IsSolid (tree.reduction o x) = IsSolid x
  IsSolid (tree.binary o x y) = IsSolid x × IsSolid y
  IsSolid (tree.shift o x y) = IsSolid x × IsSolid y
  IsSolid (tree.power x y) = IsSolid x × IsSolid y
  IsSolid (tree.comparison o x y) = IsSolid x × IsSolid y
  IsSolid (tree.logical o x y) = IsSolid x × IsSolid y
  IsSolid (tree.conditional c x y) = IsSolid c × IsSolid x × IsSolid y

  pub AreSolid : Expressions → Type 0
  AreSolid no_expressions = Unit {0}
  AreSolid (expression e es) = IsSolid e × AreSolid es

  pub IsSolidSelect : Select → Type 0
  IsSolidSelect (tree.index e) = IsSolid e
  IsSolidSelect (tree.part x y) = IsSolid x × IsSolid y
  IsSolidSelect (tree.part_up x y) = IsSolid x × IsSolid y
  IsSolidSelect (tree.part_down x y) = IsSolid x × IsSolid y

  pub AreSolidSelects : Selects → Type 0
  AreSolidSelects whole = Unit {0}
  AreSolidSelects (one s) = IsSolidSelect s
  AreSolidSelects (two s t) = IsSolidSelect s × IsSolidSelect t

-- The size of a number that has one is not 0,
abbrev pub IsSizedBefore : Token → List Token → Type 0
IsSizedBefore (decimal size) (based text ∷ ts) = 1 ≤ (based_number (Some (decimal_value size)) text).width
IsSizedBefore _ ts = Unit {0}

-- so it is with each number of the tokens.
abbrev pub AreSized : List Token → Type 0
AreSized [] = Unit {0}
AreSized (t ∷ ts) = IsSizedBefore t ts × AreSized ts
