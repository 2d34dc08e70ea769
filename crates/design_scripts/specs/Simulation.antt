-- What a design does under a script, and the text that tells it.
use Rattle.std.specs.Prelude.{◌≡◌, ℕ, suc, false, List, [], ◌∷◌, ◌++◌, map, Option, Some, None, codes, decimal}
use Rattle.wb_values.specs.Value.{Name, Value, number, words, numeral_of, Valuation}
use Rattle.verilog_meaning.specs.Register.{value_bit}
use Rattle.verilog_meaning.specs.Hierarchy.{Placed, dotted}
use Rattle.verilog_meaning.specs.Settled.{Design, at_path, IsPlacedIn, IsDeclared, inside, IsSettled}
use Rattle.verilog_meaning.specs.Next.{AreRegisters, AreInputs, IsNext}
use Rattle.verilog_registers.specs.Outputs.{outputs_of}
use Rattle.scripts.specs.Script.{Settable, Settables, Set, Script, with_sets}
use Rattle.scripts.specs.Simulation.{spaced, words_text}

-- ---- the run

-- Registers all of whose bits are 0.
pub record AreZero (d : Design) (registers : Valuation) : Type 0 where
  pub registers_are : AreRegisters d registers
  pub zero : (p : Placed) (n : Name) (k b : ℕ) → IsPlacedIn d p → IsDeclared p n → value_bit (inside registers p n) k b ≡ false

abbrev pub no_inputs : Valuation
no_inputs n = number 0

-- the inputs that an input line gives
abbrev pub line_inputs : List Set → Valuation
line_inputs ss = with_sets no_inputs ss

-- From these registers the design settles so, with one list of inputs after the other, and the registers after the last edge of the
-- clock are these.
abbrev pub AreCycles : Design → (first : Valuation) → (inputs settled : List Valuation) → (last : Valuation) → Type 0
AreCycles d r [] [] last = last ≡ r
AreCycles d r [] (v ∷ vs) last = ⊥
AreCycles d r (i ∷ is) [] last = ⊥
AreCycles d r (i ∷ is) (v ∷ vs) last = IsSettled d r i v × (next : Valuation) × IsNext d v next × AreCycles d next is vs last

-- The run of a script: it begins with all registers 0, but for what the script sets, and each line gives the inputs of a cycle.
pub record IsScriptRun (d : Design) (script : Script) (settled : List Valuation) (last : Valuation) : Type 0 where
  pub zeros : Valuation
  pub are_zero : AreZero d zeros
  pub cycles : AreCycles d (with_sets zeros script.state) (map line_inputs script.inputs) settled last

-- ---- its text

-- ` cnt=7`
abbrev pub number_text : Name → ℕ → List ℕ
number_text n x = spaced (n ++ (61 ∷ decimal x))

abbrev pub outputs_text : List Name → Valuation → List ℕ
outputs_text [] v = []
outputs_text (n ∷ ns) v = number_text n (numeral_of (v n)) ++ outputs_text ns v

-- A line for each settled valuation: its number from t on, and the outputs.
abbrev pub cycle_lines : List Name → ℕ → List Valuation → List ℕ
cycle_lines outputs t [] = []
cycle_lines outputs t (v ∷ vs) = decimal t ++ (outputs_text outputs v ++ (10 ∷ cycle_lines outputs (suc t) vs))

abbrev pub least_of : Option (ℕ × ℕ) → ℕ
least_of None = 0
least_of (Some a) = a.0

-- ` cnt=7`, or of a memory each word that is not 0 by its address
abbrev pub register_text : Settable → Value → List ℕ
register_text s (words xs) = words_text s.called (least_of s.addresses) xs
register_text s x = number_text s.called (numeral_of x)

abbrev pub registers_text : List Settable → Valuation → List ℕ
registers_text [] r = []
registers_text (s ∷ ss) r = register_text s (r s.called) ++ registers_text ss r

-- the last line
abbrev pub end_line : List Settable → Valuation → List ℕ
end_line registers last = codes "end" ++ (registers_text registers last ++ 10 ∷ [])

-- lines for the cycles, numbered from 0, and the last line
abbrev pub run_text : (outputs : List Name) → (registers : List Settable) → (settled : List Valuation) → (last : Valuation) → List ℕ
run_text outputs registers settled last = cycle_lines outputs 0 settled ++ end_line registers last

-- The text tells what the design does under the script: there is a run of it, and the text is that of each such run. (They give each net
-- and variable the same values.)
pub record IsTold (d : Design) (names : Settables) (script : Script) (text : List ℕ) : Type 0 where
  pub top : Placed
  pub is_top : at_path d [] ≡ Some top
  pub some_run : (settled : List Valuation) × (last : Valuation) × IsScriptRun d script settled last
  pub each_run : (settled : List Valuation) (last : Valuation) → IsScriptRun d script settled last
      → text ≡ run_text (outputs_of top.of_module) names.states settled last

-- ---- designs that run

-- The design has a top, a settled valuation for all registers and all inputs, and registers after the edge; and a dotted name is that
-- of one net or variable. (So it is in an accepted design, whose tree is that of a text.)
pub record HasCycles (d : Design) : Type 0 where
  pub top : Placed
  pub is_top : at_path d [] ≡ Some top
  pub apart : (p q : Placed) (m n : Name) → IsPlacedIn d p → IsPlacedIn d q → IsDeclared p m → IsDeclared q n
      → dotted p.path m ≡ dotted q.path n → (p ≡ q) × (m ≡ n)
  pub settles : (registers inputs : Valuation) → AreInputs d inputs → (v : Valuation) × IsSettled d registers inputs v
  pub steps : (v : Valuation) → (next : Valuation) × IsNext d v next
