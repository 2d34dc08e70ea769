-- Flat trees: a chain of operators, of tests, of prefix operators or of choices is one node with all of its links, however long it is.
use Rattle.std.specs.Prelude.{◌≡◌, List, [], ◌∷◌}
use Rattle.std.specs.declared.boxed.Box.{Box}
use Rattle.std.specs.declared.vec.Vec.{Vec}
use Rattle.std.specs.declared.alloc.Global.{Global}
use Rattle.v_syntax.specs.declared.tree.PrefixOperator.{PrefixOperator}
use Rattle.v_syntax.specs.declared.tree.BinaryLink.{BinaryLink}
use Rattle.v_syntax.specs.declared.tree.TestLink.{TestLink}
use Rattle.v_syntax.specs.declared.tree.Choice.{Choice}
use Rattle.v_syntax.specs.declared.tree.Expression.{Expression, Number, Name as NameOf, Prefix, Binary, Test, Conditional, Concatenation', Replication', AsSigned', AsUnsigned', Prefix', Binary', Test', Conditional', Row_of-Expression, end_of-Expression, more_of-Expression, Row_of-BinaryLink, end_of-BinaryLink, more_of-BinaryLink, Row_of-TestLink, end_of-TestLink, more_of-TestLink, Row_of-Choice, end_of-Choice, more_of-Choice}
use Rattle.v_syntax.specs.declared.tree.Select.{Select, Index', Part', PartUp', PartDown'}
use Rattle.v_syntax.specs.declared.tree.Selects.{Selects, Whole, One, Two}

-- ---- what is no chain of a kind

abbrev pub IsNoPrefix : Expression → Type 0
IsNoPrefix e = (os : Vec PrefixOperator Global) (x : Box Expression Global) → e ≡ Prefix os x → ⊥

abbrev pub IsNoBinary : Expression → Type 0
IsNoBinary e = (x : Box Expression Global) (links : Vec BinaryLink Global) → e ≡ Binary x links → ⊥

abbrev pub IsNoTest : Expression → Type 0
IsNoTest e = (x : Box Expression Global) (links : Vec TestLink Global) → e ≡ Test x links → ⊥

abbrev pub IsNoConditional : Expression → Type 0
IsNoConditional e = (choices : Vec Choice Global) (y : Box Expression Global) → e ≡ Conditional choices y → ⊥

-- ---- the links of a node: there is one

abbrev pub IsNotEmpty : {A : Type 0} → List A → Type 0
IsNotEmpty [] = ⊥
IsNotEmpty (x ∷ xs) = Unit {0}

abbrev pub HasLinks : {m : _} → Row_of-BinaryLink m → Type 0
HasLinks end_of-BinaryLink = ⊥
HasLinks (more_of-BinaryLink _ _ _) = Unit {0}

abbrev pub HasTests : {m : _} → Row_of-TestLink m → Type 0
HasTests end_of-TestLink = ⊥
HasTests (more_of-TestLink _ _ _) = Unit {0}

abbrev pub HasChoices : {m : _} → Row_of-Choice m → Type 0
HasChoices end_of-Choice = ⊥
HasChoices (more_of-Choice _ _ _) = Unit {0}

-- ---- flat trees

abbrev mutual
  pub IsFlat : Expression → Type 0
  IsFlat (Number _) = Unit {0}
  IsFlat (NameOf _ x) = AreFlatSelects x
  IsFlat (Concatenation' _ es) = IsFlatRow es
  IsFlat (Replication' _ k _ es) = IsFlat k × IsFlatRow es
  IsFlat (AsSigned' _ x) = IsFlat x
  IsFlat (AsUnsigned' _ x) = IsFlat x
  IsFlat (Prefix' os _ x) = IsNotEmpty os.items × IsNoPrefix x × IsFlat x
  IsFlat (Binary' _ x _ links) = HasLinks links × IsNoBinary x × IsFlat x × AreFlatLinks links
  IsFlat (Test' _ x _ links) = HasTests links × IsNoTest x × IsFlat x × AreFlatTests links
  IsFlat (Conditional' _ choices _ y) = HasChoices choices × IsNoConditional y × IsFlat y × AreFlatChoices choices

  pub IsFlatRow : {m : _} → Row_of-Expression m → Type 0
  IsFlatRow end_of-Expression = Unit {0}
  IsFlatRow (more_of-Expression e es) = IsFlat e × IsFlatRow es

  pub AreFlatLinks : {m : _} → Row_of-BinaryLink m → Type 0
  AreFlatLinks end_of-BinaryLink = Unit {0}
  AreFlatLinks (more_of-BinaryLink _ y links) = IsFlat y × AreFlatLinks links

  pub AreFlatTests : {m : _} → Row_of-TestLink m → Type 0
  AreFlatTests end_of-TestLink = Unit {0}
  AreFlatTests (more_of-TestLink _ y links) = IsFlat y × AreFlatTests links

  pub AreFlatChoices : {m : _} → Row_of-Choice m → Type 0
  AreFlatChoices end_of-Choice = Unit {0}
  AreFlatChoices (more_of-Choice c x choices) = IsFlat c × IsFlat x × AreFlatChoices choices

  pub IsFlatSelect : Select → Type 0
  IsFlatSelect (Index' _ i) = IsFlat i
  IsFlatSelect (Part' _ l _ r) = IsFlat l × IsFlat r
  IsFlatSelect (PartUp' _ b _ w) = IsFlat b × IsFlat w
  IsFlatSelect (PartDown' _ b _ w) = IsFlat b × IsFlat w

  pub AreFlatSelects : Selects → Type 0
  AreFlatSelects Whole = Unit {0}
  AreFlatSelects (One x) = IsFlatSelect x
  AreFlatSelects (Two x y) = IsFlatSelect x × IsFlatSelect y

-- ---- the same over lists

abbrev pub AreFlat : List Expression → Type 0
AreFlat [] = Unit {0}
AreFlat (e ∷ es) = IsFlat e × AreFlat es

abbrev pub IsFlatChoice : Choice → Type 0
IsFlatChoice c = IsFlat c.condition × IsFlat c.value

abbrev pub HasFlatChoices : List Choice → Type 0
HasFlatChoices [] = Unit {0}
HasFlatChoices (c ∷ cs) = IsFlatChoice c × HasFlatChoices cs

-- each element of a list is as said
abbrev pub Each : {A : Type 0} → (A → Type 0) → List A → Type 0
Each P [] = Unit {0}
Each P (x ∷ xs) = P x × Each P xs
