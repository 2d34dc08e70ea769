-- Verilog modules of registers that guarded updates change, at each start: the form of an emitted design.
use Rattle.std.specs.Prelude.{ℕ, ◌-◌, ◌^◌, false, List, [], ◌∷◌, ◌++◌, map, Option, Some, None}
use Rattle.wb_values.specs.Value.{Name, Sort, truth, word, memory, Value, numeral_of, Entries}
use Rattle.model_meaning.specs.Model.{StateDeclaration, InputDeclaration}
use Rattle.verilog_trees.specs.Syntax.{Expression, one, index, place, Statement, nonblocking, if_then, if_else, block, Statements, no_statements, statement, posedge, Events, on_events, Range, Direction, input, output, PortDeclaration, Item, wires, variables, assign, always, declared, Module}
use Rattle.verilog_meaning.specs.Settled.{whole_of, whole_name}
use Rattle.term_expressions.specs.Expressions.{sized, plain, word_at}
use Rattle.emitted_designs.specs.Names.{clock_name, reset_name, go_name, start_name, commit_name}

-- ---- the parts of such a module

-- a net of a sort, and the expression that is assigned to it
pub record Wire : Type 0 where
  pub wire_name : Name
  pub sort : Sort
  pub expression : Expression

-- a store to a word of a memory, where the condition holds, if there is one
pub record Stored : Type 0 where
  pub condition : Option Expression
  pub memory_name : Name
  pub address : Expression
  pub value : Expression

-- what registers take where a condition holds; and stores, in their order, each under its own condition
pub record Guarded : Type 0 where
  pub guard : Expression
  pub updates : Entries Expression
  pub stores : List Stored

pub record Rtl : Type 0 where
  pub called : Name
  pub inputs : List InputDeclaration
  pub registers : List StateDeclaration
  pub wires : List Wire
  -- where wb_go starts something, if it does
  pub ready : Expression
  pub guarded : List Guarded

-- ---- sorts

-- the bits of a net of the sort, or of a word of a memory
abbrev pub bits_of_sort : Sort → ℕ
bits_of_sort truth = 1
bits_of_sort (word w) = w
bits_of_sort (memory a d) = d

-- [w-1:0]
abbrev pub range_of_bits : ℕ → Range
range_of_bits w = record { left = plain (w - 1); right = plain 0 }

-- a truth value is a scalar
abbrev pub range_of_sort : Sort → Option Range
range_of_sort truth = None
range_of_sort (word w) = Some (range_of_bits w)
range_of_sort (memory a d) = Some (range_of_bits d)

-- [0:2^a-1]
abbrev pub addresses_of_sort : Sort → Option Range
addresses_of_sort truth = None
addresses_of_sort (word w) = None
addresses_of_sort (memory a d) = Some (record { left = plain 0; right = plain (2 ^ a - 1) })

-- ---- declarations

abbrev pub port_of : Direction → Name → Sort → PortDeclaration
port_of d n t = record { direction = d; kind = None; signed = false; range = range_of_sort t; names = n ∷ [] }

abbrev pub input_port : InputDeclaration → PortDeclaration
input_port i = port_of input i.input_name i.sort

abbrev pub port_list : List InputDeclaration → List PortDeclaration
port_list is =
    port_of input clock_name truth ∷ port_of input reset_name truth ∷ port_of input go_name truth
    ∷ (map input_port is ++ port_of output start_name truth ∷ port_of output commit_name truth ∷ [])

-- reg [w-1:0] n; for a memory reg [d-1:0] n [0:2^a-1];
abbrev pub register_item : StateDeclaration → Item
register_item d = variables false (range_of_sort d.sort) ((d.state_name, addresses_of_sort d.sort) ∷ [])

-- wire [w-1:0] n = e;
abbrev pub wire_item : Wire → Item
wire_item w = wires false (range_of_sort w.sort) ((w.wire_name, Some w.expression) ∷ [])

-- ---- statements

abbrev pub in_order : List Statement → Statements
in_order [] = no_statements
in_order (x ∷ xs) = statement x (in_order xs)

-- begin .. end
abbrev pub in_block : List Statement → Statement
in_block xs = block None (in_order xs)

abbrev pub takes : Name × Expression → Statement
takes u = nonblocking (whole_of u.0) u.1

-- A register without an initial value keeps what it has: n <= n. So each register is assigned somewhere, and is one.
abbrev pub first_value : Name → Sort → Option Value → Expression
first_value n t (Some x) = sized (bits_of_sort t) (numeral_of x)
first_value n t None = whole_name n

abbrev pub first_take : Name → Sort → Option Value → Entries Expression
first_take n (memory a d) i = []
first_take n t i = (n, first_value n t i) ∷ []

abbrev pub first_takes : List StateDeclaration → Entries Expression
first_takes [] = []
first_takes (d ∷ ds) = first_take d.state_name d.sort d.init ++ first_takes ds

-- Of a memory, which states no initial value, a word is kept: n[wb_rst] <= n[wb_rst].
abbrev pub kept_word : Name → Sort → List Stored
kept_word n (memory a d) =
    record { condition = None; memory_name = n; address = whole_name reset_name; value = word_at n (whole_name reset_name) } ∷ []
kept_word n t = []

abbrev pub kept_words : List StateDeclaration → List Stored
kept_words [] = []
kept_words (d ∷ ds) = kept_word d.state_name d.sort ++ kept_words ds

-- if (c) x
abbrev pub under : Option Expression → Statement → Statement
under None x = x
under (Some c) x = if_then c x

-- if (c) n[i] <= e
abbrev pub writes : Stored → Statement
writes w = under w.condition (nonblocking (place w.memory_name (one (index w.address))) w.value)

-- if (c) n <= e; (A statement for each update, without begin and end: so any number of them may follow one another.)
abbrev pub guarded_statements : Guarded → List Statement
guarded_statements g = map (λ u. if_then g.guard (takes u)) g.updates ++ map writes g.stores

abbrev pub all_guarded : List Guarded → List Statement
all_guarded [] = []
all_guarded (g ∷ gs) = guarded_statements g ++ all_guarded gs

-- if (wb_rst) begin .. end else if (wb_start) begin .. end
abbrev pub clocked_statement : Rtl → Statement
clocked_statement r =
    if_else (whole_name reset_name) (in_block (map takes (first_takes r.registers) ++ map writes (kept_words r.registers)))
    (if_then (whole_name start_name) (in_block (all_guarded r.guarded)))

-- @(posedge wb_clk)
abbrev pub at_clock : Events
at_clock = on_events (record { edge = posedge; signal = clock_name } ∷ [])

-- ---- the module

abbrev pub module_items : Rtl → List Item
module_items r =
    map register_item r.registers
    ++ (map wire_item r.wires
    ++ assign ((whole_of start_name, r.ready) ∷ []) ∷ assign ((whole_of commit_name, whole_name start_name) ∷ [])
    ∷ always at_clock (clocked_statement r) ∷ [])

abbrev pub module_of : Rtl → Module
module_of r = record { module_name = r.called; parameters = []; ports = declared (port_list r.inputs); items = module_items r }
