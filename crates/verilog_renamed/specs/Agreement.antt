-- What trees mean rests on what a scope says of the names that stand in them: scopes that agree on those give a tree one meaning,
-- whatever they say of other names.
use Rattle.std.specs.Prelude.{◌≡◌, ◌↔◌, ℕ, Bool, List, Contains, Some}
use Rattle.wb_values.specs.Value.{Name, Value, Valuation}
use Rattle.verilog_trees.specs.Syntax.{Expression, Expressions, Select, Selects, Target, CaseKind, Statement, CaseItems}
use Rattle.verilog_meaning.specs.Expression.{Object, Scope, sign_of, width_of, widths_of, selects_width, value_of, joined_value, selected, select_index, select_bits, self_value, integer_of, is_true, assigned_value}
use Rattle.verilog_meaning.specs.Statement.{Place, places, target_width, written, Update, run, with_updates}
use Rattle.verilog_meaning.specs.Register.{is_constant, selects_are_constant, may_mean, may_reach, may_assign, one_may_assign, counts, after_edge}
use Rattle.verilog_meaning.specs.Settled.{Has, HasAssigned, HasRun, HasRunAll, as_target, one_may_reach}
use Rattle.verilog_designs.specs.Names.{names_in, names_in_target, names_in_statement, names_in_assignments}
use Rattle.verilog_designs.specs.Reads.{BitSet, reads, target_reads, items_read, surely_reaches, surely_assigns, is_full, reads_after, reads_outside}
use Rattle.verilog_designs.specs.Dependence.{Bit, IsGivenBy, at_start, After}
use Rattle.verilog_settled.specs.Locality.{has_constant_selects}
use Rattle.verilog_renamed.specs.EachName.{EachIn, EachInAll, EachInSelect, EachInSelects, EachInTarget, EachInStatement, EachInItems, EachInAssignments, EachInBlocks, EachPlaced, EachUpdated}

-- Both scopes say the same of the name.
abbrev pub IsSameIn : (s t : Scope) → Name → Type 0
IsSameIn s t n = t n ≡ s n

-- ---- expressions

pub record AgreeOnExpression (s t : Scope) (e : Expression) : Type 0 where
  pub sign : sign_of t e ≡ sign_of s e
  pub width : width_of t e ≡ width_of s e
  pub value : (v : Valuation) (width : ℕ) (signed : Bool) → value_of t v e width signed ≡ value_of s v e width signed
  pub self : (v : Valuation) → self_value t v e ≡ self_value s v e
  pub integer : (v : Valuation) → integer_of t v e ≡ integer_of s v e
  pub condition : (v : Valuation) → is_true t v e ≡ is_true s v e
  pub assigned : (v : Valuation) (width : ℕ) → assigned_value t v width e ≡ assigned_value s v width e
  pub constant : is_constant t e ≡ is_constant s e
  pub reads : reads t e ≡ reads s e

abbrev pub ExpressionsAreAgreedOn : Type 0
ExpressionsAreAgreedOn = (s t : Scope) (e : Expression) → EachIn (IsSameIn s t) e → AgreeOnExpression s t e

-- parts side by side
pub record AgreeOnParts (s t : Scope) (es : Expressions) : Type 0 where
  pub widths : widths_of t es ≡ widths_of s es
  pub joined : (v : Valuation) → joined_value t v es ≡ joined_value s v es

abbrev pub PartsAreAgreedOn : Type 0
PartsAreAgreedOn = (s t : Scope) (es : Expressions) → EachInAll (IsSameIn s t) es → AgreeOnParts s t es

-- selects, after a name that stands for any object
pub record AgreeOnSelect (s t : Scope) (x : Select) : Type 0 where
  pub index : (v : Valuation) → select_index t v x ≡ select_index s v x
  pub bits : (v : Valuation) (o : Object) → select_bits t v o x ≡ select_bits s v o x

abbrev pub EachSelectIsAgreedOn : Type 0
EachSelectIsAgreedOn = (s t : Scope) (x : Select) → EachInSelect (IsSameIn s t) x → AgreeOnSelect s t x

pub record AgreeOnSelects (s t : Scope) (x : Selects) : Type 0 where
  pub width : (o : Object) → selects_width t o x ≡ selects_width s o x
  pub selected : (v : Valuation) (o : Object) (y : Value) → selected t v o y x ≡ selected s v o y x
  pub constant : selects_are_constant t x ≡ selects_are_constant s x
  pub may_mean : (o : Object) (k b : ℕ) → may_mean t o x k b ≡ may_mean s o x k b

abbrev pub SelectsAreAgreedOn : Type 0
SelectsAreAgreedOn = (s t : Scope) (x : Selects) → EachInSelects (IsSameIn s t) x → AgreeOnSelects s t x

-- ---- targets, writes and updates

pub record AgreeOnTarget (s t : Scope) (x : Target) : Type 0 where
  pub width : target_width t x ≡ target_width s x
  pub places : (v : Valuation) → places t v x ≡ places s v x
  pub has : (v : Valuation) (y : ℕ) → Has t v x y ↔ Has s v x y
  pub constant : has_constant_selects t x ≡ has_constant_selects s x
  pub may_reach : may_reach t x ≡ may_reach s x
  pub surely_reaches : surely_reaches t x ≡ surely_reaches s x
  pub reads : target_reads t x ≡ target_reads s x

abbrev pub TargetsAreAgreedOn : Type 0
TargetsAreAgreedOn = (s t : Scope) (x : Target) → EachInTarget (IsSameIn s t) x → AgreeOnTarget s t x

abbrev pub WritesAreAgreedOn : Type 0
WritesAreAgreedOn = (s t : Scope) (v : Valuation) (ps : List Place) (x : ℕ) → EachPlaced (IsSameIn s t) ps → written t v ps x ≡ written s v ps x

abbrev pub UpdatesAreAgreedOn : Type 0
UpdatesAreAgreedOn = (s t : Scope) (v : Valuation) (us : List Update) → EachUpdated (IsSameIn s t) us → with_updates t v us ≡ with_updates s v us

-- ---- statements

pub record AgreeOnStatement (s t : Scope) (x : Statement) : Type 0 where
  pub run : (v : Valuation) → run t x v ≡ run s x v
  pub has_run : (v : Valuation) → HasRun t v x ↔ HasRun s v x
  pub may_assign : may_assign t x ≡ may_assign s x
  pub surely_assigns : surely_assigns t x ≡ surely_assigns s x
  -- where these bits were assigned before
  pub reads_after : (done : BitSet) → reads_after t done x ≡ reads_after s done x
  pub reads_outside : reads_outside t x ≡ reads_outside s x
  pub rests_on : (u y : Bit) → After t at_start x u y ↔ After s at_start x u y

abbrev pub StatementsAreAgreedOn : Type 0
StatementsAreAgreedOn = (s t : Scope) (x : Statement) → EachInStatement (IsSameIn s t) x → AgreeOnStatement s t x

abbrev pub CaseItemsAreAgreedOn : Type 0
CaseItemsAreAgreedOn = (s t : Scope) (items : CaseItems) → EachInItems (IsSameIn s t) items → items_read t items ≡ items_read s items

abbrev pub FullCasesAreAgreedOn : Type 0
FullCasesAreAgreedOn =
    (s t : Scope) (kind : CaseKind) (e : Expression) (items : CaseItems) → EachIn (IsSameIn s t) e → EachInItems (IsSameIn s t) items
    → is_full t kind e items ≡ is_full s kind e items

-- ---- the assignments and blocks of a module

pub record AgreeOnAssignments (s t : Scope) (xs : List (Target × Expression)) : Type 0 where
  pub may_reach : one_may_reach t xs ≡ one_may_reach s xs
  pub has : (v : Valuation) → HasAssigned t v xs ↔ HasAssigned s v xs

abbrev pub AssignmentsAreAgreedOn : Type 0
AssignmentsAreAgreedOn = (s t : Scope) (xs : List (Target × Expression)) → EachInAssignments (IsSameIn s t) xs → AgreeOnAssignments s t xs

pub record AgreeOnBlocks (s t : Scope) (xs : List Statement) : Type 0 where
  pub may_assign : one_may_assign t xs ≡ one_may_assign s xs
  pub registers : counts t xs ≡ counts s xs
  pub edge : (v : Valuation) → after_edge t xs v ≡ after_edge s xs v
  pub has_run : (v : Valuation) → HasRunAll t v xs ↔ HasRunAll s v xs

abbrev pub BlocksAreAgreedOn : Type 0
BlocksAreAgreedOn = (s t : Scope) (xs : List Statement) → EachInBlocks (IsSameIn s t) xs → AgreeOnBlocks s t xs

-- The sides of an assignment may have scopes of their own, as those of a connection have.
abbrev pub GivenBitsAreAgreedOn : Type 0
GivenBitsAreAgreedOn =
    (around new_around inner new_inner : Scope) (x : Target) (e : Expression) (u y : Bit) → EachInTarget (IsSameIn around new_around) x
    → EachIn (IsSameIn inner new_inner) e → IsGivenBy new_around x new_inner e u y ↔ IsGivenBy around x inner e u y

-- ---- which names stand where

-- Scopes that agree on each name of the list of names agree on each name in the tree.
abbrev pub NamesInExpressions : Type 0
NamesInExpressions = (s t : Scope) (e : Expression) → ((n : Name) → Contains (names_in e) n → IsSameIn s t n) → EachIn (IsSameIn s t) e

abbrev pub NamesInTargets : Type 0
NamesInTargets = (s t : Scope) (x : Target) → ((n : Name) → Contains (names_in_target x) n → IsSameIn s t n) → EachInTarget (IsSameIn s t) x

abbrev pub NamesInStatements : Type 0
NamesInStatements = (s t : Scope) (x : Statement) → ((n : Name) → Contains (names_in_statement x) n → IsSameIn s t n) → EachInStatement (IsSameIn s t) x

abbrev pub NamesInAssignments : Type 0
NamesInAssignments =
    (s t : Scope) (xs : List (Target × Expression)) → ((n : Name) → Contains (names_in_assignments xs) n → IsSameIn s t n)
    → EachInAssignments (IsSameIn s t) xs

-- Those that agree on each name in each block agree on each name in the blocks.
abbrev pub NamesInBlocks : Type 0
NamesInBlocks =
    (s t : Scope) (xs : List Statement) → ((x : Statement) → Contains xs x → EachInStatement (IsSameIn s t) x) → EachInBlocks (IsSameIn s t) xs

-- An expression that is a target as well has the target's names.
abbrev pub TargetsHaveTheirNames : Type 0
TargetsHaveTheirNames =
    (s t : Scope) (e : Expression) (x : Target) → EachIn (IsSameIn s t) e → as_target e ≡ Some x → EachInTarget (IsSameIn s t) x

-- A target means places of names in it alone, and the updates of a run are to names in the statement.
abbrev pub PlacesAreInTargets : Type 0
PlacesAreInTargets = (s t r : Scope) (v : Valuation) (x : Target) → EachInTarget (IsSameIn s t) x → EachPlaced (IsSameIn s t) (places r v x)

abbrev pub UpdatesAreInStatements : Type 0
UpdatesAreInStatements =
    (s t r : Scope) (v : Valuation) (x : Statement) → EachInStatement (IsSameIn s t) x → EachUpdated (IsSameIn s t) (run r x v).updates
