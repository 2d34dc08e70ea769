-- What trees with other names mean: the same, under the new names.
use Rattle.std.specs.Prelude.{◌≡◌, ◌⊎◌, ◌↔◌, ℕ, Bool, false, List, option_map, IsTrue}
use Rattle.wb_values.specs.Value.{Name, same_name, Value, Valuation}
use Rattle.verilog_trees.specs.Syntax.{Expression, Expressions, Select, Selects, Target, CaseKind, Statement, CaseItems}
use Rattle.verilog_meaning.specs.Expression.{Object, Scope, selects_sign, sign_of, width_of, widths_of, selects_width, value_of, joined_value, selected, select_index, select_bits, self_value, integer_of, is_true, assigned_value}
use Rattle.verilog_meaning.specs.Statement.{Place, places, target_width, written, Update, Effect, run, with_updates}
use Rattle.verilog_meaning.specs.Register.{is_constant, selects_are_constant, may_mean, may_reach, may_assign, one_may_assign, counts, after_edge}
use Rattle.verilog_meaning.specs.Settled.{Has, HasAssigned, HasRun, HasRunAll, as_target, one_may_reach}
use Rattle.verilog_designs.specs.Reads.{BitSet, reads, target_reads, items_read, surely_reaches, surely_assigns, has_default, is_full, reads_after, reads_outside}
use Rattle.verilog_designs.specs.Dependence.{Bit, IsGivenBy, at_start, After}
use Rattle.verilog_settled.specs.Locality.{has_constant_selects}
use Rattle.verilog_renamed.specs.Renamed.{renamed_expression, renamed_expressions, renamed_select, renamed_selects, renamed_target, renamed_statement, renamed_case_items, renamed_assignments, renamed_blocks, renamed_places, renamed_updates, renamed_bit}

-- `new` says of each new name what `old` says of the old one: two scopes, or two valuations.
abbrev pub AreRenamed : {A : Type 0} → (Name → Name) → (old new : Name → A) → Type 0
AreRenamed f old new = (n : Name) → new (f n) ≡ old n

-- Different names get different new names.
abbrev pub IsOneToOne : (Name → Name) → Type 0
IsOneToOne f = (m n : Name) → same_name (f m) (f n) ≡ same_name m n

-- It is the new name of some name.
pub record IsNewName (f : Name → Name) (n : Name) : Type 0 where
  pub old : Name
  pub is_new : f old ≡ n

-- ---- expressions

-- The renamed expression means in the scope and under the valuation of the new names what the expression means in its own.
pub record MeansTheSame (f : Name → Name) (s t : Scope) (v w : Valuation) (e : Expression) : Type 0 where
  pub sign : sign_of t (renamed_expression f e) ≡ sign_of s e
  pub width : width_of t (renamed_expression f e) ≡ width_of s e
  pub value : (width : ℕ) (signed : Bool) → value_of t w (renamed_expression f e) width signed ≡ value_of s v e width signed
  pub self : self_value t w (renamed_expression f e) ≡ self_value s v e
  pub integer : integer_of t w (renamed_expression f e) ≡ integer_of s v e
  pub condition : is_true t w (renamed_expression f e) ≡ is_true s v e
  pub assigned : (width : ℕ) → assigned_value t w width (renamed_expression f e) ≡ assigned_value s v width e

abbrev pub ExpressionsMeanTheSame : Type 0
ExpressionsMeanTheSame = (f : Name → Name) (s t : Scope) (v w : Valuation) (e : Expression) → AreRenamed f s t → AreRenamed f v w → MeansTheSame f s t v w e

-- So do parts side by side, and selects after a name.
pub record PartsMeanTheSame (f : Name → Name) (s t : Scope) (v w : Valuation) : Type 0 where
  pub widths : (es : Expressions) → widths_of t (renamed_expressions f es) ≡ widths_of s es
  pub joined : (es : Expressions) → joined_value t w (renamed_expressions f es) ≡ joined_value s v es
  pub index : (x : Select) → select_index t w (renamed_select f x) ≡ select_index s v x
  pub bits : (o : Object) (x : Select) → select_bits t w o (renamed_select f x) ≡ select_bits s v o x
  pub selects_sign : (o : Object) (x : Selects) → selects_sign o (renamed_selects f x) ≡ selects_sign o x
  pub selects_width : (o : Object) (x : Selects) → selects_width t o (renamed_selects f x) ≡ selects_width s o x
  pub selected : (o : Object) (y : Value) (x : Selects) → selected t w o y (renamed_selects f x) ≡ selected s v o y x

abbrev pub PartsDoMeanTheSame : Type 0
PartsDoMeanTheSame = (f : Name → Name) (s t : Scope) (v w : Valuation) → AreRenamed f s t → AreRenamed f v w → PartsMeanTheSame f s t v w

-- ---- targets and statements

-- The renamed target has the same width, and means the same places under the new names.
pub record NamesTheSame (f : Name → Name) (s t : Scope) (v w : Valuation) (x : Target) : Type 0 where
  pub width : target_width t (renamed_target f x) ≡ target_width s x
  pub places : places t w (renamed_target f x) ≡ renamed_places f (places s v x)

abbrev pub TargetsNameTheSame : Type 0
TargetsNameTheSame = (f : Name → Name) (s t : Scope) (v w : Valuation) (x : Target) → AreRenamed f s t → AreRenamed f v w → NamesTheSame f s t v w x

-- Each name is a new one, or has what it had before.
abbrev pub KeepsOthers : (Name → Name) → (before after : Valuation) → Type 0
KeepsOthers f v w = (n : Name) → IsNewName f n ⊎ (w n ≡ v n)

-- Of `before` came `new`: under each new name what `old` has under the old one, and under every other name what was there before.
pub record ChangesTheSame (f : Name → Name) (before old new : Valuation) : Type 0 where
  pub valuation : AreRenamed f old new
  pub others : KeepsOthers f before new

abbrev pub WritesChangeTheSame : Type 0
WritesChangeTheSame =
    (f : Name → Name) (s t : Scope) (v w : Valuation) (ps : List Place) (x : ℕ) → IsOneToOne f → AreRenamed f s t → AreRenamed f v w
    → ChangesTheSame f w (written s v ps x) (written t w (renamed_places f ps) x)

abbrev pub UpdatesChangeTheSame : Type 0
UpdatesChangeTheSame =
    (f : Name → Name) (s t : Scope) (v w : Valuation) (us : List Update) → IsOneToOne f → AreRenamed f s t → AreRenamed f v w
    → ChangesTheSame f w (with_updates s v us) (with_updates t w (renamed_updates f us))

-- So does a run, and its updates are the same under the new names.
pub record DoesTheSame (f : Name → Name) (before : Valuation) (old new : Effect) : Type 0 where
  pub changes : ChangesTheSame f before old.valuation new.valuation
  pub updates : new.updates ≡ renamed_updates f old.updates

abbrev pub RunsDoTheSame : Type 0
RunsDoTheSame =
    (f : Name → Name) (s t : Scope) (v w : Valuation) (x : Statement) → IsOneToOne f → AreRenamed f s t → AreRenamed f v w
    → DoesTheSame f w (run s x v) (run t (renamed_statement f x) w)

-- ---- registers

abbrev pub EdgesChangeTheSame : Type 0
EdgesChangeTheSame =
    (f : Name → Name) (s t : Scope) (v w : Valuation) (clocked : List Statement) → IsOneToOne f → AreRenamed f s t → AreRenamed f v w
    → ChangesTheSame f w (after_edge s clocked v) (after_edge t (renamed_blocks f clocked) w)

-- What is constant is so under other names, and a select may mean the same words and bits.
pub record IsConstantTheSame (f : Name → Name) (s t : Scope) : Type 0 where
  pub expression : (e : Expression) → is_constant t (renamed_expression f e) ≡ is_constant s e
  pub selects : (x : Selects) → selects_are_constant t (renamed_selects f x) ≡ selects_are_constant s x
  pub may_mean : (o : Object) (x : Selects) (k b : ℕ) → may_mean t o (renamed_selects f x) k b ≡ may_mean s o x k b

abbrev pub ConstantsAreTheSame : Type 0
ConstantsAreTheSame = (f : Name → Name) (s t : Scope) → AreRenamed f s t → IsConstantTheSame f s t

-- The bits of `new` are those of `old` under the new names: at each new name the same, and of no other name any.
pub record AreRenamedBits (f : Name → Name) (old new : BitSet) : Type 0 where
  pub same : (n : Name) (k b : ℕ) → new (f n) k b ≡ old n k b
  pub only : (n : Name) (k b : ℕ) → IsTrue (new n k b) → IsNewName f n

abbrev pub OtherNamesHaveNoBits : Type 0
OtherNamesHaveNoBits =
    (f : Name → Name) (old new : BitSet) (n : Name) (k b : ℕ) → AreRenamedBits f old new → ¬ IsNewName f n → new n k b ≡ false

-- The bits that may be assigned.
pub record MayAssignTheSame (f : Name → Name) (s t : Scope) : Type 0 where
  pub targets : (x : Target) → AreRenamedBits f (may_reach s x) (may_reach t (renamed_target f x))
  pub assignments : (xs : List (Target × Expression)) → AreRenamedBits f (one_may_reach s xs) (one_may_reach t (renamed_assignments f xs))
  pub statements : (x : Statement) → AreRenamedBits f (may_assign s x) (may_assign t (renamed_statement f x))
  pub blocks : (xs : List Statement) → AreRenamedBits f (one_may_assign s xs) (one_may_assign t (renamed_blocks f xs))
  pub registers : (xs : List Statement) → AreRenamedBits f (counts s xs) (counts t (renamed_blocks f xs))

abbrev pub AssignedBitsAreTheSame : Type 0
AssignedBitsAreTheSame = (f : Name → Name) (s t : Scope) → IsOneToOne f → AreRenamed f s t → MayAssignTheSame f s t

-- ---- settled valuations

-- Equations on the valuation of the new names hold where they hold on the other one.
pub record HoldsTheSame (f : Name → Name) (s t : Scope) (v w : Valuation) : Type 0 where
  pub targets : (x : Target) (y : ℕ) → Has t w (renamed_target f x) y ↔ Has s v x y
  pub assignments : (xs : List (Target × Expression)) → HasAssigned t w (renamed_assignments f xs) ↔ HasAssigned s v xs
  pub runs : (x : Statement) → HasRun t w (renamed_statement f x) ↔ HasRun s v x
  pub blocks : (xs : List Statement) → HasRunAll t w (renamed_blocks f xs) ↔ HasRunAll s v xs

abbrev pub EquationsHoldTheSame : Type 0
EquationsHoldTheSame =
    (f : Name → Name) (s t : Scope) (v w : Valuation) → IsOneToOne f → AreRenamed f s t → AreRenamed f v w → HoldsTheSame f s t v w

-- An expression that is a target as well is so under other names.
abbrev pub TargetsAreRenamed : Type 0
TargetsAreRenamed = (f : Name → Name) (e : Expression) → as_target (renamed_expression f e) ≡ option_map (renamed_target f) (as_target e)

abbrev pub ConstantTargetsAreTheSame : Type 0
ConstantTargetsAreTheSame =
    (f : Name → Name) (s t : Scope) (x : Target) → AreRenamed f s t → has_constant_selects t (renamed_target f x) ≡ has_constant_selects s x

-- ---- what is read

pub record ReadsTheSame (f : Name → Name) (s t : Scope) : Type 0 where
  pub expressions : (e : Expression) → AreRenamedBits f (reads s e) (reads t (renamed_expression f e))
  pub targets : (x : Target) → AreRenamedBits f (target_reads s x) (target_reads t (renamed_target f x))
  pub items : (is : CaseItems) → AreRenamedBits f (items_read s is) (items_read t (renamed_case_items f is))
  -- of a statement, where the same bits were assigned before
  pub statements : (x : Statement) (old new : BitSet) → ((n : Name) (k b : ℕ) → new (f n) k b ≡ old n k b)
      → AreRenamedBits f (reads_after s old x) (reads_after t new (renamed_statement f x))
  pub outside : (x : Statement) → AreRenamedBits f (reads_outside s x) (reads_outside t (renamed_statement f x))

abbrev pub ReadBitsAreTheSame : Type 0
ReadBitsAreTheSame = (f : Name → Name) (s t : Scope) → IsOneToOne f → AreRenamed f s t → ReadsTheSame f s t

-- What is assigned on each path, and which cases are full.
pub record SurelyAssignsTheSame (f : Name → Name) (s t : Scope) : Type 0 where
  pub targets : (x : Target) → AreRenamedBits f (surely_reaches s x) (surely_reaches t (renamed_target f x))
  pub statements : (x : Statement) → AreRenamedBits f (surely_assigns s x) (surely_assigns t (renamed_statement f x))
  pub defaults : (is : CaseItems) → has_default (renamed_case_items f is) ≡ has_default is
  pub full : (kind : CaseKind) (e : Expression) (is : CaseItems)
      → is_full t kind (renamed_expression f e) (renamed_case_items f is) ≡ is_full s kind e is

abbrev pub SurelyAssignedBitsAreTheSame : Type 0
SurelyAssignedBitsAreTheSame = (f : Name → Name) (s t : Scope) → IsOneToOne f → AreRenamed f s t → SurelyAssignsTheSame f s t

-- ---- what rests on what

-- A bit gets its value from the same bits, the names of the target replaced by f and those of the right side by g, as those of the two
-- sides of a connection are; and no bit of another name gets or gives a value.
pub record IsGivenByTheSame (f g : Name → Name) (around new_around inner new_inner : Scope) (x : Target) (e : Expression) : Type 0 where
  pub same : (u y : Bit)
      → IsGivenBy new_around (renamed_target f x) new_inner (renamed_expression g e) (renamed_bit f u) (renamed_bit g y) ↔ IsGivenBy around x inner e u y
  pub only : (u y : Bit) → IsGivenBy new_around (renamed_target f x) new_inner (renamed_expression g e) u y → IsNewName f u.of_name × IsNewName g y.of_name

abbrev pub GivenBitsAreTheSame : Type 0
GivenBitsAreTheSame =
    (f g : Name → Name) (around new_around inner new_inner : Scope) (x : Target) (e : Expression) → IsOneToOne f → IsOneToOne g
    → AreRenamed f around new_around → AreRenamed g inner new_inner → IsGivenByTheSame f g around new_around inner new_inner x e

-- After the statement a bit of a new name depends on the same bits as in the tree with the old names, all of new names, and a bit of
-- another name on itself alone.
pub record DependsOnTheSame (f : Name → Name) (s t : Scope) (x : Statement) : Type 0 where
  pub same : (u y : Bit) → After t at_start (renamed_statement f x) (renamed_bit f u) (renamed_bit f y) ↔ After s at_start x u y
  pub only : (u y : Bit) → After t at_start (renamed_statement f x) (renamed_bit f u) y → IsNewName f y.of_name
  pub others : (u y : Bit) → After t at_start (renamed_statement f x) u y → IsNewName f u.of_name ⊎ (u ≡ y)

abbrev pub DependencesAreTheSame : Type 0
DependencesAreTheSame = (f : Name → Name) (s t : Scope) (x : Statement) → IsOneToOne f → AreRenamed f s t → DependsOnTheSame f s t x
