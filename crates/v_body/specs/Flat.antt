-- Flat targets and statements: the arms of an if with each else if stand in one node, however many they are.
use Rattle.std.specs.Prelude.{List}
use Rattle.v_syntax.specs.declared.tree.Target.{Target, Place, Joined', Row_of-Target, end_of-Target, more_of-Target}
use Rattle.v_syntax.specs.declared.tree.Arm.{Arm}
use Rattle.v_syntax.specs.declared.tree.CaseItem.{CaseItem, Values, Default}
use Rattle.v_syntax.specs.declared.tree.Statement.{Statement, Empty, Blocking, Nonblocking, If', Case', Block', Row_of-Arm, end_of-Arm, more_of-Arm, Held-Statement-If-1, None', Some', Row_of-CaseItem, end_of-CaseItem, more_of-CaseItem, Row_of-Statement, end_of-Statement, more_of-Statement}
use Rattle.v_expr.specs.Flat.{IsFlat, AreFlatSelects, Each}

abbrev mutual
  pub IsFlatTarget : Target → Type 0
  IsFlatTarget (Place _ x) = AreFlatSelects x
  IsFlatTarget (Joined' _ ts) = AreFlatTargets ts

  pub AreFlatTargets : {m : _} → Row_of-Target m → Type 0
  AreFlatTargets end_of-Target = Unit {0}
  AreFlatTargets (more_of-Target t ts) = IsFlatTarget t × AreFlatTargets ts

abbrev pub IsNoIf : Statement → Type 0
IsNoIf Empty = Unit {0}
IsNoIf (Blocking _ _) = Unit {0}
IsNoIf (Nonblocking _ _) = Unit {0}
IsNoIf (If' _ _ _) = ⊥
IsNoIf (Case' _ _ _ _) = Unit {0}
IsNoIf (Block' _ _ _) = Unit {0}

-- there is an arm
abbrev pub HasArms : {m : _} → Row_of-Arm m → Type 0
HasArms end_of-Arm = ⊥
HasArms (more_of-Arm _ _ _) = Unit {0}

abbrev mutual
  pub IsFlatStatement : Statement → Type 0
  IsFlatStatement Empty = Unit {0}
  IsFlatStatement (Blocking t e) = IsFlatTarget t.value × IsFlat e
  IsFlatStatement (Nonblocking t e) = IsFlatTarget t.value × IsFlat e
  IsFlatStatement (If' _ arms y) = HasArms arms × AreFlatArms arms × IsFlatElse y
  IsFlatStatement (Case' _ e _ items) = IsFlat e × AreFlatItems items
  IsFlatStatement (Block' _ _ xs) = AreFlatStatements xs

  -- what stands behind the last else is no if alone
  pub IsFlatElse : Held-Statement-If-1 → Type 0
  IsFlatElse None' = Unit {0}
  IsFlatElse (Some' _ x) = IsNoIf x × IsFlatStatement x

  pub AreFlatArms : {m : _} → Row_of-Arm m → Type 0
  AreFlatArms end_of-Arm = Unit {0}
  AreFlatArms (more_of-Arm c x arms) = IsFlat c × IsFlatStatement x × AreFlatArms arms

  pub AreFlatItems : {m : _} → Row_of-CaseItem m → Type 0
  AreFlatItems end_of-CaseItem = Unit {0}
  AreFlatItems (more_of-CaseItem (Values es x) items) = Each IsFlat es.items × IsFlatStatement x × AreFlatItems items
  AreFlatItems (more_of-CaseItem (Default x) items) = IsFlatStatement x × AreFlatItems items

  pub AreFlatStatements : {m : _} → Row_of-Statement m → Type 0
  AreFlatStatements end_of-Statement = Unit {0}
  AreFlatStatements (more_of-Statement x xs) = IsFlatStatement x × AreFlatStatements xs

abbrev pub IsFlatArm : Arm → Type 0
IsFlatArm a = IsFlat a.condition × IsFlatStatement a.statement

abbrev pub IsFlatCaseItem : CaseItem → Type 0
IsFlatCaseItem (Values es x) = Each IsFlat es.items × IsFlatStatement x
IsFlatCaseItem (Default x) = IsFlatStatement x
