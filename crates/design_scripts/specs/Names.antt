-- What a script may set of a design: its registers, and the inputs of its top but for the clock.
use Rattle.std.specs.Prelude.{◌≡◌, ◌≢◌, ◌↔◌, ◌<◌, ◌+◌, ◌^◌, ℕ, false, min, [], map, Contains, Some, None, option_map, IsTrue}
use Rattle.wb_values.specs.Value.{Name}
use Rattle.verilog_trees.specs.Syntax.{input}
use Rattle.verilog_meaning.specs.Expression.{object_width, is_memory, distance}
use Rattle.verilog_meaning.specs.Register.{is_set}
use Rattle.verilog_meaning.specs.Hierarchy.{Placed, placed_scope, dotted}
use Rattle.verilog_meaning.specs.Settled.{Design, at_path, HasPort, is_counted}
use Rattle.verilog_registers.specs.Registers.{IsRegister}
use Rattle.verilog_registers.specs.Order.{AreRegisterNames}
use Rattle.scripts.specs.Script.{Settable, Settables}

-- the least address of a memory, and how many words it has
abbrev pub span : ℕ × ℕ → ℕ × ℕ
span a = (min a.0 a.1, distance a.0 a.1 + 1)

-- Each bit of the value is one that counts in this word.
abbrev pub HasCountedBits : Placed → Name → (word value : ℕ) → Type 0
HasCountedBits p n k x = (b : ℕ) → IsTrue (is_set x b) → IsTrue (is_counted p n k b)

-- A register is set by its dotted name, and a memory word by word, by the addresses of the Verilog text, to values of which no bit is
-- set that does not count.
pub record IsSettableRegister (d : Design) (s : Settable) : Type 0 where
  pub place : Placed
  pub name : Name
  pub is_register : IsRegister d place name
  pub called : s.called ≡ dotted place.path name
  pub addressed : s.addresses ≡ option_map span (placed_scope place name).addresses
  pub fitting : (k x : ℕ) → IsTrue (s.fits k x) ↔ HasCountedBits place name k x

-- An input of the top, which is not the clock. (No port is a memory in an accepted design.)
pub record IsSetInput (d : Design) (n : Name) : Type 0 where
  pub top : Placed
  pub is_top : at_path d [] ≡ Some top
  pub is_input : HasPort top.of_module n input
  pub no_clock : n ≢ d.clock
  pub no_memory : is_memory (placed_scope top n) ≡ false

-- It is set to a number of its width.
pub record IsSettableInput (d : Design) (s : Settable) : Type 0 where
  pub is_input : IsSetInput d s.called
  pub addressed : s.addresses ≡ None
  pub fitting : (k x : ℕ) → IsTrue (s.fits k x) ↔ (x < 2 ^ object_width (placed_scope is_input.top s.called))

-- They are the names that a script may set of the design: by a state line its registers, here in their order, and by an input line the
-- inputs of its top but for the clock.
pub record AreSettables (d : Design) (names : Settables) : Type 0 where
  pub in_order : AreRegisterNames d (map (λ s. s.called) names.states)
  pub registers : (s : Settable) → Contains names.states s → IsSettableRegister d s
  pub inputs : (s : Settable) → Contains names.inputs s → IsSettableInput d s
  pub all_inputs : (n : Name) → IsSetInput d n → (s : Settable) × Contains names.inputs s × (s.called ≡ n)
