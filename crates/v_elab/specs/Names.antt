-- The names of a store that are declared for those of a module.
use Rattle.std.specs.Prelude.{◌≡◌, ◌≤◌, ℕ, Bool, false, cond, not, ◌&&◌, ◌==◌, List, [], ◌∷◌, length, codes, ⊤, Option, Some, None, IsSome}
use Rattle.wb_values.specs.Value.{Name, same_name, Sort, Entries, entry_of}
use Rattle.verilog_trees.specs.Syntax.{Module}
use Rattle.verilog_meaning.specs.Expression.{Scope, is_memory}
use Rattle.verilog_meaning.specs.Register.{word_count}
use Rattle.verilog_meaning.specs.Settled.{port_directions}
use Rattle.verilog_designs.specs.Ports.{is_input}
use Rattle.verilog_registers.specs.Outputs.{is_output}
use Rattle.verilog_designs.specs.Names.{is_among}
use Rattle.v_scopes.specs.declared.table.ModuleScope.{ModuleScope}
use Rattle.v_scopes.specs.Rows.{Row}
use Rattle.v_scopes.specs.Scopes.{declared_in}
use Rattle.v_lower.specs.Lowered.{Images, IsSortOf}
use Rattle.v_registers.specs.Registers.{Counted}

-- There is an entry for each name, with the sort of its object.
abbrev pub AreEntriesOf : Scope → List Name → Entries Sort → Type 0
AreEntriesOf s [] [] = ⊤
AreEntriesOf s [] (e ∷ es) = ⊥
AreEntriesOf s (n ∷ ns) [] = ⊥
AreEntriesOf s (n ∷ ns) (e ∷ es) = (e.0 ≡ n) × IsSortOf (s n) e.1 × AreEntriesOf s ns es

-- No name stands twice.
abbrev pub AreDistinct : List Name → Type 0
AreDistinct [] = ⊤
AreDistinct (n ∷ ns) = (is_among ns n ≡ false) × AreDistinct ns

abbrev pub is_input_row : Option Row → Bool
is_input_row None = false
is_input_row (Some r) = is_input r.direction

-- the name is an input port, and not the clock
abbrev pub is_data_input : ModuleScope → (clock : Name) → Name → Bool
is_data_input names clock n = not (same_name clock n) && is_input_row (declared_in names n)

-- the same by the module itself
abbrev pub is_data_port : Module → (clock : Name) → Name → Bool
is_data_port m clock n = not (same_name clock n) && is_input (entry_of (port_directions m) n)

-- what stands before the names of the top in the one scope: its number, and a dot
abbrev pub top_front : Name
top_front = codes "0."

-- what comes after a front, if the name begins with it
abbrev pub after_front : (front n : Name) → Option Name
after_front [] n = Some n
after_front (c ∷ cs) [] = None
after_front (c ∷ cs) (x ∷ xs) = cond (c == x) (after_front cs xs) None

abbrev pub tested_after : (Name → Bool) → Option Name → Bool
tested_after f None = false
tested_after f (Some n) = f n

-- the name is one of the top, whose names have this front, and an input port, and not the clock
abbrev pub is_given_input : ModuleScope → (clock front : Name) → Name → Bool
is_given_input names clock front n = tested_after (is_data_input names clock) (after_front front n)

-- the same by the module itself
abbrev pub is_given_port : Module → (clock front : Name) → Name → Bool
is_given_port m clock front n = tested_after (is_data_port m clock) (after_front front n)

abbrev pub is_output_row : Option Row → Bool
is_output_row None = false
is_output_row (Some r) = is_output r.direction

-- the name is an output port
abbrev pub is_output_of : ModuleScope → Name → Bool
is_output_of names n = is_output_row (declared_in names n)

-- those names of which a test is true
abbrev pub chosen : (Name → Bool) → List Name → List Name
chosen f [] = []
chosen f (n ∷ ns) = cond (f n) (n ∷ chosen f ns) (chosen f ns)

abbrev pub left_out : (Name → Bool) → List Name → List Name
left_out f [] = []
left_out f (n ∷ ns) = cond (f n) (left_out f ns) (n ∷ left_out f ns)

-- Addresses of memories are below 65,536.
abbrev pub HasSmallAddresses : Scope → Type 0
HasSmallAddresses s = (n : Name) (a : ℕ × ℕ) → (s n).addresses ≡ Some a → (a.0 ≤ 65535) × (a.1 ≤ 65535)

-- so a memory has at most as many words
abbrev pub HasFewWords : Scope → Type 0
HasFewWords s = (n : Name) → word_count (s n) ≤ 65536

-- None of the names is that of a memory.
abbrev pub ArePlain : Scope → List Name → Type 0
ArePlain s [] = ⊤
ArePlain s (n ∷ ns) = (is_memory (s n) ≡ false) × ArePlain s ns

-- Each of the names has a term.
abbrev pub HaveTerms : Images → List Name → Type 0
HaveTerms a [] = ⊤
HaveTerms a (n ∷ ns) = IsSome (a n) × HaveTerms a ns

-- Each register has a mask for each of its words.
abbrev pub AreMasksOf : Scope → List Counted → Type 0
AreMasksOf s [] = ⊤
AreMasksOf s (c ∷ cs) = (length c.masks ≡ word_count (s c.of_name)) × AreMasksOf s cs
