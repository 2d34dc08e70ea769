-- The laws on trees with other names, where the scope of the new names says of them what the old one says of the names that stand in
-- the tree. Of all others it may say anything: for instance, a scope of dotted names also declares `u.x`, which no name in a module's tree
-- is.
use Rattle.std.specs.Prelude.{◌≡◌, ◌↔◌, ℕ, List}
use Rattle.wb_values.specs.Value.{Name, Value, Valuation}
use Rattle.verilog_trees.specs.Syntax.{Expression, Expressions, Select, Selects, Target, CaseKind, Statement, CaseItems}
use Rattle.verilog_meaning.specs.Expression.{Object, Scope, widths_of, selects_width, joined_value, selected, select_index, select_bits}
use Rattle.verilog_meaning.specs.Statement.{Place, written, Update, run, with_updates}
use Rattle.verilog_meaning.specs.Register.{is_constant, selects_are_constant, may_mean, may_reach, may_assign, one_may_assign, counts, after_edge}
use Rattle.verilog_meaning.specs.Settled.{Has, HasAssigned, HasRun, HasRunAll, one_may_reach}
use Rattle.verilog_designs.specs.Reads.{BitSet, reads, target_reads, items_read, surely_reaches, surely_assigns, is_full, reads_after, reads_outside}
use Rattle.verilog_settled.specs.Locality.{has_constant_selects}
use Rattle.verilog_renamed.specs.Renamed.{renamed_expression, renamed_expressions, renamed_select, renamed_selects, renamed_target, renamed_statement, renamed_case_items, renamed_assignments, renamed_blocks, renamed_places, renamed_updates}
use Rattle.verilog_renamed.specs.Laws.{AreRenamed, IsOneToOne, MeansTheSame, NamesTheSame, ChangesTheSame, DoesTheSame, AreRenamedBits, IsGivenByTheSame, DependsOnTheSame}
use Rattle.verilog_renamed.specs.EachName.{EachIn, EachInAll, EachInSelect, EachInSelects, EachInTarget, EachInStatement, EachInItems, EachInAssignments, EachInBlocks, EachPlaced, EachUpdated}

-- The new scope says of the new name what the old one says of the name.
abbrev pub IsRenamed : (Name → Name) → (s t : Scope) → Name → Type 0
IsRenamed f s t n = t (f n) ≡ s n

-- ---- expressions

abbrev pub KnownExpressionsMeanTheSame : Type 0
KnownExpressionsMeanTheSame =
    (f : Name → Name) (s t : Scope) (v w : Valuation) (e : Expression) → EachIn (IsRenamed f s t) e → AreRenamed f v w → MeansTheSame f s t v w e

abbrev pub KnownConstantsAreTheSame : Type 0
KnownConstantsAreTheSame =
    (f : Name → Name) (s t : Scope) (e : Expression) → EachIn (IsRenamed f s t) e → is_constant t (renamed_expression f e) ≡ is_constant s e

abbrev pub KnownReadBitsAreTheSame : Type 0
KnownReadBitsAreTheSame =
    (f : Name → Name) (s t : Scope) (e : Expression) → IsOneToOne f → EachIn (IsRenamed f s t) e
    → AreRenamedBits f (reads s e) (reads t (renamed_expression f e))

-- parts side by side
pub record ArePartsTheSame (f : Name → Name) (s t : Scope) (v w : Valuation) (es : Expressions) : Type 0 where
  pub widths : widths_of t (renamed_expressions f es) ≡ widths_of s es
  pub joined : joined_value t w (renamed_expressions f es) ≡ joined_value s v es

abbrev pub KnownPartsMeanTheSame : Type 0
KnownPartsMeanTheSame =
    (f : Name → Name) (s t : Scope) (v w : Valuation) (es : Expressions) → EachInAll (IsRenamed f s t) es → AreRenamed f v w
    → ArePartsTheSame f s t v w es

-- selects, after a name that stands for any object
pub record IsSelectTheSame (f : Name → Name) (s t : Scope) (v w : Valuation) (x : Select) : Type 0 where
  pub index : select_index t w (renamed_select f x) ≡ select_index s v x
  pub bits : (o : Object) → select_bits t w o (renamed_select f x) ≡ select_bits s v o x

abbrev pub EachKnownSelectMeansTheSame : Type 0
EachKnownSelectMeansTheSame =
    (f : Name → Name) (s t : Scope) (v w : Valuation) (x : Select) → EachInSelect (IsRenamed f s t) x → AreRenamed f v w → IsSelectTheSame f s t v w x

pub record AreSelectsTheSame (f : Name → Name) (s t : Scope) (v w : Valuation) (x : Selects) : Type 0 where
  pub width : (o : Object) → selects_width t o (renamed_selects f x) ≡ selects_width s o x
  pub selected : (o : Object) (y : Value) → selected t w o y (renamed_selects f x) ≡ selected s v o y x
  pub constant : selects_are_constant t (renamed_selects f x) ≡ selects_are_constant s x
  pub may_mean : (o : Object) (k b : ℕ) → may_mean t o (renamed_selects f x) k b ≡ may_mean s o x k b

abbrev pub KnownSelectsMeanTheSame : Type 0
KnownSelectsMeanTheSame =
    (f : Name → Name) (s t : Scope) (v w : Valuation) (x : Selects) → EachInSelects (IsRenamed f s t) x → AreRenamed f v w
    → AreSelectsTheSame f s t v w x

-- ---- targets and statements

abbrev pub KnownTargetsNameTheSame : Type 0
KnownTargetsNameTheSame =
    (f : Name → Name) (s t : Scope) (v w : Valuation) (x : Target) → EachInTarget (IsRenamed f s t) x → AreRenamed f v w → NamesTheSame f s t v w x

abbrev pub KnownWritesChangeTheSame : Type 0
KnownWritesChangeTheSame =
    (f : Name → Name) (s t : Scope) (v w : Valuation) (ps : List Place) (x : ℕ) → IsOneToOne f → EachPlaced (IsRenamed f s t) ps → AreRenamed f v w
    → ChangesTheSame f w (written s v ps x) (written t w (renamed_places f ps) x)

abbrev pub KnownUpdatesChangeTheSame : Type 0
KnownUpdatesChangeTheSame =
    (f : Name → Name) (s t : Scope) (v w : Valuation) (us : List Update) → IsOneToOne f → EachUpdated (IsRenamed f s t) us → AreRenamed f v w
    → ChangesTheSame f w (with_updates s v us) (with_updates t w (renamed_updates f us))

abbrev pub KnownRunsDoTheSame : Type 0
KnownRunsDoTheSame =
    (f : Name → Name) (s t : Scope) (v w : Valuation) (x : Statement) → IsOneToOne f → EachInStatement (IsRenamed f s t) x → AreRenamed f v w
    → DoesTheSame f w (run s x v) (run t (renamed_statement f x) w)

abbrev pub KnownEdgesChangeTheSame : Type 0
KnownEdgesChangeTheSame =
    (f : Name → Name) (s t : Scope) (v w : Valuation) (xs : List Statement) → IsOneToOne f → EachInBlocks (IsRenamed f s t) xs → AreRenamed f v w
    → ChangesTheSame f w (after_edge s xs v) (after_edge t (renamed_blocks f xs) w)

-- ---- bits

pub record HasTargetTheSameBits (f : Name → Name) (s t : Scope) (x : Target) : Type 0 where
  pub constant : has_constant_selects t (renamed_target f x) ≡ has_constant_selects s x
  pub reached : AreRenamedBits f (may_reach s x) (may_reach t (renamed_target f x))
  pub surely_reached : AreRenamedBits f (surely_reaches s x) (surely_reaches t (renamed_target f x))
  pub read : AreRenamedBits f (target_reads s x) (target_reads t (renamed_target f x))

abbrev pub KnownTargetsHaveTheSameBits : Type 0
KnownTargetsHaveTheSameBits =
    (f : Name → Name) (s t : Scope) (x : Target) → IsOneToOne f → EachInTarget (IsRenamed f s t) x → HasTargetTheSameBits f s t x

pub record HasStatementTheSameBits (f : Name → Name) (s t : Scope) (x : Statement) : Type 0 where
  pub assigned : AreRenamedBits f (may_assign s x) (may_assign t (renamed_statement f x))
  pub surely_assigned : AreRenamedBits f (surely_assigns s x) (surely_assigns t (renamed_statement f x))
  -- where the same bits were assigned before
  pub read : (old new : BitSet) → ((n : Name) (k b : ℕ) → new (f n) k b ≡ old n k b)
      → AreRenamedBits f (reads_after s old x) (reads_after t new (renamed_statement f x))
  pub read_outside : AreRenamedBits f (reads_outside s x) (reads_outside t (renamed_statement f x))

abbrev pub KnownStatementsHaveTheSameBits : Type 0
KnownStatementsHaveTheSameBits =
    (f : Name → Name) (s t : Scope) (x : Statement) → IsOneToOne f → EachInStatement (IsRenamed f s t) x → HasStatementTheSameBits f s t x

abbrev pub KnownCaseItemsReadTheSame : Type 0
KnownCaseItemsReadTheSame =
    (f : Name → Name) (s t : Scope) (items : CaseItems) → IsOneToOne f → EachInItems (IsRenamed f s t) items
    → AreRenamedBits f (items_read s items) (items_read t (renamed_case_items f items))

abbrev pub KnownCasesAreFullTheSame : Type 0
KnownCasesAreFullTheSame =
    (f : Name → Name) (s t : Scope) (kind : CaseKind) (e : Expression) (items : CaseItems) → EachIn (IsRenamed f s t) e
    → EachInItems (IsRenamed f s t) items → is_full t kind (renamed_expression f e) (renamed_case_items f items) ≡ is_full s kind e items

abbrev pub KnownAssignmentsReachTheSame : Type 0
KnownAssignmentsReachTheSame =
    (f : Name → Name) (s t : Scope) (xs : List (Target × Expression)) → IsOneToOne f → EachInAssignments (IsRenamed f s t) xs
    → AreRenamedBits f (one_may_reach s xs) (one_may_reach t (renamed_assignments f xs))

pub record HaveBlocksTheSameBits (f : Name → Name) (s t : Scope) (xs : List Statement) : Type 0 where
  pub assigned : AreRenamedBits f (one_may_assign s xs) (one_may_assign t (renamed_blocks f xs))
  pub registers : AreRenamedBits f (counts s xs) (counts t (renamed_blocks f xs))

abbrev pub KnownBlocksHaveTheSameBits : Type 0
KnownBlocksHaveTheSameBits =
    (f : Name → Name) (s t : Scope) (xs : List Statement) → IsOneToOne f → EachInBlocks (IsRenamed f s t) xs → HaveBlocksTheSameBits f s t xs

-- ---- equations

abbrev pub KnownTargetsHaveTheSame : Type 0
KnownTargetsHaveTheSame =
    (f : Name → Name) (s t : Scope) (v w : Valuation) (x : Target) (y : ℕ) → IsOneToOne f → EachInTarget (IsRenamed f s t) x → AreRenamed f v w
    → Has t w (renamed_target f x) y ↔ Has s v x y

abbrev pub KnownAssignmentsHoldTheSame : Type 0
KnownAssignmentsHoldTheSame =
    (f : Name → Name) (s t : Scope) (v w : Valuation) (xs : List (Target × Expression)) → IsOneToOne f → EachInAssignments (IsRenamed f s t) xs
    → AreRenamed f v w → HasAssigned t w (renamed_assignments f xs) ↔ HasAssigned s v xs

abbrev pub KnownRunsHoldTheSame : Type 0
KnownRunsHoldTheSame =
    (f : Name → Name) (s t : Scope) (v w : Valuation) (x : Statement) → IsOneToOne f → EachInStatement (IsRenamed f s t) x → AreRenamed f v w
    → HasRun t w (renamed_statement f x) ↔ HasRun s v x

abbrev pub KnownBlocksHoldTheSame : Type 0
KnownBlocksHoldTheSame =
    (f : Name → Name) (s t : Scope) (v w : Valuation) (xs : List Statement) → IsOneToOne f → EachInBlocks (IsRenamed f s t) xs → AreRenamed f v w
    → HasRunAll t w (renamed_blocks f xs) ↔ HasRunAll s v xs

-- ---- what rests on what

abbrev pub KnownGivenBitsAreTheSame : Type 0
KnownGivenBitsAreTheSame =
    (f g : Name → Name) (around new_around inner new_inner : Scope) (x : Target) (e : Expression) → IsOneToOne f → IsOneToOne g
    → EachInTarget (IsRenamed f around new_around) x → EachIn (IsRenamed g inner new_inner) e
    → IsGivenByTheSame f g around new_around inner new_inner x e

abbrev pub KnownDependencesAreTheSame : Type 0
KnownDependencesAreTheSame =
    (f : Name → Name) (s t : Scope) (x : Statement) → IsOneToOne f → EachInStatement (IsRenamed f s t) x → DependsOnTheSame f s t x
