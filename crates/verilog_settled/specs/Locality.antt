-- What a value depends on is what the definitions of reads and of dependence say, within one module or between two: where two
-- valuations give two results, they differ at a bit that is read, or on which the result is said to depend.
use Rattle.std.specs.Prelude.{◌≡◌, ◌≢◌, ℕ, ◌^◌, ◌<◌, Bool, true, false, not, ◌&&◌, ◌||◌, Option, Some, None, is_some, IsTrue, ⊤, ◌⊎◌}
use Rattle.wb_values.specs.Value.{Name, Value, Valuation}
use Rattle.verilog_trees.specs.Syntax.{Expression, number, name, concatenation, replication, as_signed, as_unsigned, unary, reduction, binary, shift, power, comparison, logical, conditional, Expressions, no_expressions, expression, Select, index, part, part_up, part_down, Selects, whole, one, two, Target, place, joined, Targets, no_targets, target, Statement, empty, blocking, nonblocking, if_then, if_else, case, block, Statements, no_statements, statement, CaseItems, no_items, arm, default_arm}
use Rattle.verilog_meaning.specs.Expression.{Object, Scope, object_width, is_memory, sign_of, value_of, self_value, assigned_value}
use Rattle.verilog_meaning.specs.Statement.{places, target_width, written, run}
use Rattle.verilog_meaning.specs.Register.{value_bit, is_set, selects_are_constant, may_reach}
use Rattle.verilog_meaning.specs.Settled.{IsValueOf, Has, HasRun}
use Rattle.verilog_rules.specs.Expression.{lacks_index}
use Rattle.verilog_designs.specs.Reads.{reads, surely_reaches}
use Rattle.verilog_designs.specs.Dependence.{Bit, is_in, is_plain, copied, takes, index_reads, IsGivenBy, at_start, After}

-- ---- two valuations

-- They have the same bit there.
abbrev pub IsSame : Valuation → Valuation → Bit → Type 0
IsSame v w u = value_bit (v u.of_name) u.word u.place ≡ value_bit (w u.of_name) u.word u.place

-- They differ at a bit of this kind.
pub record DifferAt (v w : Valuation) (IsSo : Bit → Type 0) : Type 0 where
  pub bit : Bit
  pub is_so : IsSo bit
  pub differs : ¬ IsSame v w bit

-- ---- what fits

-- A parameter is no memory.
abbrev pub HasNoConstantMemory : Scope → Type 0
HasNoConstantMemory s = (n : Name) → IsTrue (is_some (s n).constant) → is_memory (s n) ≡ false

-- What stands for an object fits it: the number of a parameter; the value of a net, a variable or a memory.
abbrev pub Fits : (constant : Option ℕ) → Object → Value → Type 0
Fits (Some c) o x = c < 2 ^ object_width o
Fits None o x = IsValueOf o x

-- It does for each name of a kind.
abbrev pub AllFit : Scope → (Name → Type 0) → Valuation → Type 0
AllFit s IsKnown v = (n : Name) → IsKnown n → Fits (s n).constant (s n) (v n)

abbrev mutual
  -- The numbers that stand in an expression fit their widths, and its names are all known. (Nothing is asked of counts, and of the
  -- bounds and widths of selects, which are constants.)
  pub LeavesAre : (Name → Type 0) → Expression → Type 0
  LeavesAre IsKnown (number k) = k.value < 2 ^ k.width
  LeavesAre IsKnown (name n x) = IsKnown n × SelectsAre IsKnown x
  LeavesAre IsKnown (concatenation es) = AllLeavesAre IsKnown es
  LeavesAre IsKnown (replication k es) = AllLeavesAre IsKnown es
  LeavesAre IsKnown (as_signed x) = LeavesAre IsKnown x
  LeavesAre IsKnown (as_unsigned x) = LeavesAre IsKnown x
  LeavesAre IsKnown (unary op x) = LeavesAre IsKnown x
  LeavesAre IsKnown (reduction op x) = LeavesAre IsKnown x
  LeavesAre IsKnown (binary op x y) = LeavesAre IsKnown x × LeavesAre IsKnown y
  LeavesAre IsKnown (shift op x n) = LeavesAre IsKnown x × LeavesAre IsKnown n
  LeavesAre IsKnown (power x n) = LeavesAre IsKnown x × LeavesAre IsKnown n
  LeavesAre IsKnown (comparison op x y) = LeavesAre IsKnown x × LeavesAre IsKnown y
  LeavesAre IsKnown (logical op x y) = LeavesAre IsKnown x × LeavesAre IsKnown y
  LeavesAre IsKnown (conditional c x y) = LeavesAre IsKnown c × LeavesAre IsKnown x × LeavesAre IsKnown y

  pub AllLeavesAre : (Name → Type 0) → Expressions → Type 0
  AllLeavesAre IsKnown no_expressions = ⊤
  AllLeavesAre IsKnown (expression e es) = LeavesAre IsKnown e × AllLeavesAre IsKnown es

  pub SelectIs : (Name → Type 0) → Select → Type 0
  SelectIs IsKnown (index i) = LeavesAre IsKnown i
  SelectIs IsKnown (part h l) = ⊤
  SelectIs IsKnown (part_up b n) = LeavesAre IsKnown b
  SelectIs IsKnown (part_down b n) = LeavesAre IsKnown b

  pub SelectsAre : (Name → Type 0) → Selects → Type 0
  SelectsAre IsKnown whole = ⊤
  SelectsAre IsKnown (one x) = SelectIs IsKnown x
  SelectsAre IsKnown (two x y) = SelectIs IsKnown x × SelectIs IsKnown y

abbrev mutual
  -- the same of the indexes of a target
  pub IndexesAre : (Name → Type 0) → Target → Type 0
  IndexesAre IsKnown (place n x) = SelectsAre IsKnown x
  IndexesAre IsKnown (joined ts) = AllIndexesAre IsKnown ts

  pub AllIndexesAre : (Name → Type 0) → Targets → Type 0
  AllIndexesAre IsKnown no_targets = ⊤
  AllIndexesAre IsKnown (target t ts) = IndexesAre IsKnown t × AllIndexesAre IsKnown ts

abbrev mutual
  -- and of all that a statement reads
  pub StatementIs : (Name → Type 0) → Statement → Type 0
  StatementIs IsKnown empty = ⊤
  StatementIs IsKnown (blocking t e) = IndexesAre IsKnown t × LeavesAre IsKnown e
  StatementIs IsKnown (nonblocking t e) = IndexesAre IsKnown t × LeavesAre IsKnown e
  StatementIs IsKnown (if_then c x) = LeavesAre IsKnown c × StatementIs IsKnown x
  StatementIs IsKnown (if_else c x y) = LeavesAre IsKnown c × StatementIs IsKnown x × StatementIs IsKnown y
  StatementIs IsKnown (case kind e items) = LeavesAre IsKnown e × ItemsAre IsKnown items
  StatementIs IsKnown (block n xs) = StatementsAre IsKnown xs

  pub StatementsAre : (Name → Type 0) → Statements → Type 0
  StatementsAre IsKnown no_statements = ⊤
  StatementsAre IsKnown (statement x xs) = StatementIs IsKnown x × StatementsAre IsKnown xs

  pub ItemsAre : (Name → Type 0) → CaseItems → Type 0
  ItemsAre IsKnown no_items = ⊤
  ItemsAre IsKnown (arm es x items) = AllLeavesAre IsKnown es × StatementIs IsKnown x × ItemsAre IsKnown items
  ItemsAre IsKnown (default_arm x items) = StatementIs IsKnown x × ItemsAre IsKnown items

-- ---- expressions

-- The value of an expression in a context is the same under two valuations, or they differ at a bit that it reads.
abbrev pub ValueIsLocalAt : (s : Scope) (v w : Valuation) (IsKnown : Name → Type 0) → Type 0
ValueIsLocalAt s v w IsKnown =
    (e : Expression) (width : ℕ) (signed : Bool)
    → HasNoConstantMemory s → AllFit s IsKnown v → AllFit s IsKnown w → LeavesAre IsKnown e
    → (value_of s v e width signed ≡ value_of s w e width signed) ⊎ DifferAt v w (λ y. IsTrue (is_in (reads s e) y))

-- So is its value by itself,
abbrev pub SelfValueIsLocalAt : (s : Scope) (v w : Valuation) (IsKnown : Name → Type 0) → Type 0
SelfValueIsLocalAt s v w IsKnown =
    (e : Expression)
    → HasNoConstantMemory s → AllFit s IsKnown v → AllFit s IsKnown w → LeavesAre IsKnown e
    → (self_value s v e ≡ self_value s w e) ⊎ DifferAt v w (λ y. IsTrue (is_in (reads s e) y))

-- and the one that is assigned to a target.
abbrev pub AssignedValueIsLocalAt : (s : Scope) (v w : Valuation) (IsKnown : Name → Type 0) → Type 0
AssignedValueIsLocalAt s v w IsKnown =
    (e : Expression) (width : ℕ)
    → HasNoConstantMemory s → AllFit s IsKnown v → AllFit s IsKnown w → LeavesAre IsKnown e
    → (assigned_value s v width e ≡ assigned_value s w width e) ⊎ DifferAt v w (λ y. IsTrue (is_in (reads s e) y))

-- Of a plain right side each bit of the assigned value is the same, or the valuations differ at the bit that is copied to it.
abbrev pub CopiedBitIsLocalAt : (s : Scope) (v w : Valuation) (IsKnown : Name → Type 0) → Type 0
CopiedBitIsLocalAt s v w IsKnown =
    (e : Expression) (width j : ℕ)
    → HasNoConstantMemory s → AllFit s IsKnown v → AllFit s IsKnown w → LeavesAre IsKnown e → IsTrue (is_plain s e) → j < width
    → (is_set (assigned_value s v width e) j ≡ is_set (assigned_value s w width e) j)
    ⊎ DifferAt v w (λ y. copied s e (sign_of s e) j ≡ Some y)

abbrev mutual
  -- a memory stands in a plain right side without an index
  pub has_bare_memory : Scope → Expression → Bool
  has_bare_memory s (name n x) = is_memory (s n) && lacks_index x
  has_bare_memory s (concatenation es) = some_bare_memory s es
  has_bare_memory s (replication k es) = some_bare_memory s es
  has_bare_memory s (number k) = false
  has_bare_memory s (as_signed x) = false
  has_bare_memory s (as_unsigned x) = false
  has_bare_memory s (unary op x) = false
  has_bare_memory s (reduction op x) = false
  has_bare_memory s (binary op x y) = false
  has_bare_memory s (shift op x n) = false
  has_bare_memory s (power x n) = false
  has_bare_memory s (comparison op x y) = false
  has_bare_memory s (logical op x y) = false
  has_bare_memory s (conditional c x y) = false

  pub some_bare_memory : Scope → Expressions → Bool
  some_bare_memory s no_expressions = false
  some_bare_memory s (expression e es) = has_bare_memory s e || some_bare_memory s es

-- Where a bit is copied, the value has it: the bit is not only the one that decides.
abbrev pub CopiedBitIsThereAt : (s : Scope) (v : Valuation) (IsKnown : Name → Type 0) → Type 0
CopiedBitIsThereAt s v IsKnown =
    (e : Expression) (width j : ℕ) (y : Bit)
    → HasNoConstantMemory s → AllFit s IsKnown v → LeavesAre IsKnown e → IsTrue (is_plain s e) → has_bare_memory s e ≡ false → j < width
    → copied s e (sign_of s e) j ≡ Some y → is_set (assigned_value s v width e) j ≡ value_bit (v y.of_name) y.word y.place

-- ---- targets

-- Why a bit may differ after numbers x and y were written to a target: it did before, and is not surely reached; the numbers differ
-- at a place from which it may get its value; the valuations differ at a bit of an index by which it may be reached.
pub data WhyWritten (s : Scope) (v w : Valuation) (t : Target) (x y : ℕ) (u : Bit) : Type 0 where
  kept : IsTrue (not (is_in (surely_reaches s t) u)) → ¬ IsSame v w u → WhyWritten s v w t x y u
  given : (j : ℕ) → j < target_width s t → IsTrue (takes s t u j) → is_set x j ≢ is_set y j → WhyWritten s v w t x y u
  indexed : DifferAt v w (λ z. IsTrue (is_in (index_reads s t u) z)) → WhyWritten s v w t x y u

-- The bit's name has a value of its object before and after, so that no memory is written as a whole.
abbrev pub WrittenBitIsLocalAt : (s : Scope) (v w : Valuation) (IsKnown : Name → Type 0) → Type 0
WrittenBitIsLocalAt s v w IsKnown =
    (t : Target) (x y : ℕ) (u : Bit)
    → HasNoConstantMemory s → AllFit s IsKnown v → AllFit s IsKnown w → IndexesAre IsKnown t
    → IsValueOf (s u.of_name) (v u.of_name) → IsValueOf (s u.of_name) (written s v (places s v t) x u.of_name)
    → IsValueOf (s u.of_name) (w u.of_name) → IsValueOf (s u.of_name) (written s w (places s w t) y u.of_name)
    → IsSame (written s v (places s v t) x) (written s w (places s w t) y) u ⊎ WhyWritten s v w t x y u

-- ---- assignments

abbrev mutual
  -- all indexes of a target are constant
  pub has_constant_selects : Scope → Target → Bool
  has_constant_selects s (place n x) = selects_are_constant s x
  has_constant_selects s (joined ts) = all_have_constant_selects s ts

  pub all_have_constant_selects : Scope → Targets → Bool
  all_have_constant_selects s no_targets = true
  all_have_constant_selects s (target t ts) = has_constant_selects s t && all_have_constant_selects s ts

-- An assignment holds as an equation under two pairs of valuations, the target in the one's scope and the right side in the other's,
-- as the two sides of a connection are. Then each bit that the target reaches is the same, or the others differ at a bit that gives
-- it its value.
abbrev pub AssignedBitIsLocalAt : (around inner : Scope) (v w inner_v inner_w : Valuation) (IsKnown : Name → Type 0) → Type 0
AssignedBitIsLocalAt around inner v w inner_v inner_w IsKnown =
    (t : Target) (e : Expression) (u : Bit)
    → HasNoConstantMemory around → HasNoConstantMemory inner → AllFit inner IsKnown inner_v → AllFit inner IsKnown inner_w → LeavesAre IsKnown e
    → IsValueOf (around u.of_name) (v u.of_name) → IsValueOf (around u.of_name) (w u.of_name)
    → IsTrue (has_constant_selects around t) → IsTrue (may_reach around t u.of_name u.word u.place)
    → Has around v t (assigned_value inner inner_v (target_width around t) e)
    → Has around w t (assigned_value inner inner_w (target_width around t) e)
    → IsSame v w u ⊎ DifferAt inner_v inner_w (IsGivenBy around t inner e u)

-- ---- statements

-- After runs of a statement, which leave each name a value of its object where it had one, each bit of a name that has one is the
-- same, or the valuations before differ at a bit on which it depends.
abbrev pub RunBitIsLocalAt : (s : Scope) (v w : Valuation) (IsKnown : Name → Type 0) → Type 0
RunBitIsLocalAt s v w IsKnown =
    (x : Statement) (u : Bit)
    → HasNoConstantMemory s → AllFit s IsKnown v → AllFit s IsKnown w → StatementIs IsKnown x
    → ((n : Name) → IsValueOf (s n) (v n) → IsValueOf (s n) ((run s x v).valuation n))
    → ((n : Name) → IsValueOf (s n) (w n) → IsValueOf (s n) ((run s x w).valuation n))
    → IsValueOf (s u.of_name) (v u.of_name) → IsValueOf (s u.of_name) (w u.of_name)
    → IsSame (run s x v).valuation (run s x w).valuation u ⊎ DifferAt v w (After s at_start x u)

-- So where runs of a block give both valuations back, each bit is the same, or they differ at a bit on which it depends.
abbrev pub BlockBitIsLocalAt : (s : Scope) (v w : Valuation) (IsKnown : Name → Type 0) → Type 0
BlockBitIsLocalAt s v w IsKnown =
    (x : Statement) (u : Bit)
    → HasNoConstantMemory s → AllFit s IsKnown v → AllFit s IsKnown w → StatementIs IsKnown x → HasRun s v x → HasRun s w x
    → IsValueOf (s u.of_name) (v u.of_name) → IsValueOf (s u.of_name) (w u.of_name)
    → IsSame v w u ⊎ DifferAt v w (After s at_start x u)

-- ---- for all valuations, and names that are known by whatever they are known

abbrev pub ValueIsLocal : Type 1
ValueIsLocal = (s : Scope) (v w : Valuation) (IsKnown : Name → Type 0) → ValueIsLocalAt s v w IsKnown

abbrev pub SelfValueIsLocal : Type 1
SelfValueIsLocal = (s : Scope) (v w : Valuation) (IsKnown : Name → Type 0) → SelfValueIsLocalAt s v w IsKnown

abbrev pub AssignedValueIsLocal : Type 1
AssignedValueIsLocal = (s : Scope) (v w : Valuation) (IsKnown : Name → Type 0) → AssignedValueIsLocalAt s v w IsKnown

abbrev pub CopiedBitIsLocal : Type 1
CopiedBitIsLocal = (s : Scope) (v w : Valuation) (IsKnown : Name → Type 0) → CopiedBitIsLocalAt s v w IsKnown

abbrev pub WrittenBitIsLocal : Type 1
WrittenBitIsLocal = (s : Scope) (v w : Valuation) (IsKnown : Name → Type 0) → WrittenBitIsLocalAt s v w IsKnown

abbrev pub AssignedBitIsLocal : Type 1
AssignedBitIsLocal = (around inner : Scope) (v w inner_v inner_w : Valuation) (IsKnown : Name → Type 0) → AssignedBitIsLocalAt around inner v w inner_v inner_w IsKnown

abbrev pub RunBitIsLocal : Type 1
RunBitIsLocal = (s : Scope) (v w : Valuation) (IsKnown : Name → Type 0) → RunBitIsLocalAt s v w IsKnown

abbrev pub BlockBitIsLocal : Type 1
BlockBitIsLocal = (s : Scope) (v w : Valuation) (IsKnown : Name → Type 0) → BlockBitIsLocalAt s v w IsKnown
