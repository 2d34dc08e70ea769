-- What Verilog files and a script say together, and what a simulation of their design ends with.
use Rattle.std.specs.Prelude.{◌≡◌, ℕ, List, [], ◌∷◌, Option, Some, None, codes}
use Rattle.wb_values.specs.Value.{Name}
use Rattle.verilog_trees.specs.Syntax.{Source}
use Rattle.verilog_text.specs.Text.{tokens_in}
use Rattle.verilog_text.specs.Grammar.{IsTreeOf}
use Rattle.verilog_meaning.specs.Settled.{Design}
use Rattle.rtl_simulation.specs.Ending.{Ending, broken, bad_line, missing_input, ran, IsEnding}
use Rattle.wb_top.specs.Files.{IsKindOfText}
use Rattle.check_cases.specs.Kinds.{kind_name}
use Rattle.wb_top.specs.Texts.{IsRefusalBy}
use Rattle.wb_top.specs.declared.status.Status.{Status}
use Rattle.wb_top.specs.declared.status.Status.TheVariants.{Done, Refused}

-- Done: the text of what the design does under the script. Refused: by what keeps it from being run.
abbrev pub IsWrittenFor : Ending → Status → List ℕ → Type 0
IsWrittenFor (ran lines) Done text = text ≡ lines
IsWrittenFor (broken kind) Refused text = IsRefusalBy (kind_name kind) text
IsWrittenFor bad_line Refused text = IsRefusalBy (codes "S1 BadLine") text
IsWrittenFor missing_input Refused text = IsRefusalBy (codes "S2 MissingInput") text
IsWrittenFor _ status text = ⊥

-- What a simulation of the design ends with.
abbrev pub IsSimulatedDesign : Design → (script : List ℕ) → Status → List ℕ → Type 0
IsSimulatedDesign d script status text = (e : Ending) × IsEnding d script e × IsWrittenFor e status text

-- A kind refuses the Verilog files before their tree is read; where none does, their tree is that of a design.
abbrev pub IsSimulatedText : (top clock : Name) → (script : List ℕ) → (designs : List (List ℕ)) → Option (List ℕ) → Status → List ℕ → Type 0
IsSimulatedText top clock script ds (Some kind) Refused text = IsRefusalBy kind text
IsSimulatedText top clock script ds (Some kind) _ text = ⊥
IsSimulatedText top clock script ds None status text =
    (ms : Source) × IsTreeOf ds ms × IsSimulatedDesign (record { source = ms; top = top; clock = clock }) script status text

pub record IsRtlSimulated (top clock : Name) (script : List ℕ) (designs : List (List ℕ)) (status : Status) (text : List ℕ) : Type 0 where
  pub kind : Option (List ℕ)
  pub is_kind : IsKindOfText (tokens_in designs) kind
  pub is_simulated : IsSimulatedText top clock script designs kind status text

-- of files in their order: the script, then the Verilog files
abbrev pub AreRtlSimulated : (top clock : Name) → List (List ℕ) → Status → List ℕ → Type 0
AreRtlSimulated top clock [] status text = ⊥
AreRtlSimulated top clock (script ∷ designs) status text = IsRtlSimulated top clock script designs status text
