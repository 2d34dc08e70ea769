-- Syntax trees of Verilog sources: the synthesizable subset of IEEE 1364-2005, annex A, with one clock.
use Rattle.std.specs.Prelude.{ℕ, Bool, List, Option}
use Rattle.wb_values.specs.Value.{Name}

-- A number (1364-2005, 3.5.1): its width, 32 where no size stands; whether it has a size; whether it is signed;
-- its bits, those of x, z and ? digits as 0; the bits of x digits; the bits of z and ? digits, and the bits to the left of all
-- digits where the leftmost digit is z or ?; whether some digit is x, and whether some is z or ?, of all digits as written,
-- those too of which it keeps no bit. (To the left of a leftmost x digit the bits are 0: no accepted number has an x digit.)
pub record Number : Type 0 where
  pub width : ℕ
  pub sized : Bool
  pub signed : Bool
  pub value : ℕ
  pub unknown : ℕ
  pub wild : ℕ
  pub has_unknown : Bool
  pub has_wild : Bool

-- + - ~, whose operand is widened with the whole
pub data UnaryOperator : Type 0 where
  plus minus complement : UnaryOperator

-- ! & ~& | ~| ^ ~^, which make one bit of a whole operand
pub data ReductionOperator : Type 0 where
  is_zero all_ones not_all_ones any_one no_one odd_ones even_ones : ReductionOperator

-- + - * / % & | ^ ~^, both of whose operands are widened with the whole
pub data BinaryOperator : Type 0 where
  add subtract multiply divide modulo : BinaryOperator
  bitwise_and bitwise_or bitwise_xor bitwise_xnor : BinaryOperator

-- << (and <<<), >>, >>>
pub data ShiftOperator : Type 0 where
  left right arithmetic_right : ShiftOperator

-- < <= > >= == != (=== and !== mean == and !=)
pub data ComparisonOperator : Type 0 where
  less less_or_equal greater greater_or_equal equal not_equal : ComparisonOperator

-- && ||
pub data LogicalOperator : Type 0 where
  both either : LogicalOperator

mutual
  -- Expressions (A.8.3). Brackets leave no trace.
  pub data Expression : Type 0 where
    number : Number → Expression
    name : Name → Selects → Expression
    concatenation : Expressions → Expression
    replication : (count : Expression) → Expressions → Expression
    as_signed as_unsigned : Expression → Expression
    unary : UnaryOperator → Expression → Expression
    reduction : ReductionOperator → Expression → Expression
    binary : BinaryOperator → Expression → Expression → Expression
    shift : ShiftOperator → Expression → Expression → Expression
    power : Expression → Expression → Expression
    comparison : ComparisonOperator → Expression → Expression → Expression
    logical : LogicalOperator → Expression → Expression → Expression
    conditional : Expression → Expression → Expression → Expression

  pub data Expressions : Type 0 where
    no_expressions : Expressions
    expression : Expression → Expressions → Expressions

  -- [i], [left:right], [base +: width], [base -: width]
  pub data Select : Type 0 where
    index : Expression → Select
    part : (left right : Expression) → Select
    part_up part_down : (base width : Expression) → Select

  -- none, one or two after a name
  pub data Selects : Type 0 where
    whole : Selects
    one : Select → Selects
    two : Select → Select → Selects

mutual
  -- what is assigned to (A.8.5)
  pub data Target : Type 0 where
    place : Name → Selects → Target
    joined : Targets → Target

  pub data Targets : Type 0 where
    no_targets : Targets
    target : Target → Targets → Targets

-- which words of a case match
pub data CaseKind : Type 0 where
  exact_case wild_case : CaseKind

mutual
  -- statements (A.6.4)
  pub data Statement : Type 0 where
    empty : Statement
    blocking nonblocking : Target → Expression → Statement
    if_then : Expression → Statement → Statement
    if_else : Expression → Statement → Statement → Statement
    case : CaseKind → Expression → CaseItems → Statement
    block : Option Name → Statements → Statement

  pub data Statements : Type 0 where
    no_statements : Statements
    statement : Statement → Statements → Statements

  pub data CaseItems : Type 0 where
    no_items : CaseItems
    arm : Expressions → Statement → CaseItems → CaseItems
    default_arm : Statement → CaseItems → CaseItems

-- posedge n, negedge n, n
pub data EdgeKind : Type 0 where
  posedge negedge any_edge : EdgeKind

pub record Event : Type 0 where
  pub edge : EdgeKind
  pub signal : Name

-- @* and @(..)
pub data Events : Type 0 where
  any_change : Events
  on_events : List Event → Events

-- [left:right]
pub record Range : Type 0 where
  pub left : Expression
  pub right : Expression

pub data Direction : Type 0 where
  input output : Direction

pub data NetKind : Type 0 where
  wire reg : NetKind

-- input or output, perhaps wire or reg, perhaps signed, perhaps a range, then names
pub record PortDeclaration : Type 0 where
  pub direction : Direction
  pub kind : Option NetKind
  pub signed : Bool
  pub range : Option Range
  pub names : List Name

-- parameter or localparam, perhaps signed, perhaps a range, then names with values
pub record ParameterDeclaration : Type 0 where
  pub is_local : Bool
  pub signed : Bool
  pub range : Option Range
  pub values : List (Name × Expression)

-- connections of ports and parameters: by name, or by order, where an entry may be left empty
pub data Connections : Type 0 where
  by_name : List (Name × Option Expression) → Connections
  by_order : List (Option Expression) → Connections

-- module items (A.1.4)
pub data Item : Type 0 where
  port : PortDeclaration → Item
  parameter : ParameterDeclaration → Item
  wires : (signed : Bool) → Option Range → List (Name × Option Expression) → Item
  variables : (signed : Bool) → Option Range → List (Name × Option Range) → Item
  assign : List (Target × Expression) → Item
  always : Events → Statement → Item
  instances : (of_module : Name) → (parameters : Connections) → List (Name × Connections) → Item

-- no list of ports, names alone, or declarations
pub data Ports : Type 0 where
  no_ports : Ports
  listed : List Name → Ports
  declared : List PortDeclaration → Ports

-- modules (A.1.2)
pub record Module : Type 0 where
  pub module_name : Name
  pub parameters : List ParameterDeclaration
  pub ports : Ports
  pub items : List Item

-- The source is its modules in the order of the text.
abbrev pub Source : Type 0
Source = List Module
