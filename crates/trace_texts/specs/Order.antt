-- The order of a design's registers and inputs in a trace.
use Rattle.std.specs.Prelude.{ℕ, zero, suc, Bool, true, cond, nat_lt, List, [], ◌∷◌, map, length, slice_index_or, None}
use Rattle.std.specs.List.{list_any}
use Rattle.wb_values.specs.Value.{Name, same_name, truth, Entries}
use Rattle.reports.specs.Report.{is_before}
use Rattle.v_design.specs.Registers.{CountedBits}
use Rattle.v_design.specs.Parts.{Parts, registers_of, inputs_of}

-- the numbers of names, in the order of the names' bytes, and one more in its place
abbrev pub with_number : Name → ℕ → Entries ℕ → Entries ℕ
with_number n k [] = (n, k) ∷ []
with_number n k (e ∷ es) = cond (same_name e.0 n) ((e.0, k) ∷ es) (cond (is_before e.0 n) (e ∷ with_number n k es) ((n, k) ∷ e ∷ es))

-- of the numbers from k on, n of them, those that are kept, in the order of the names that they have
abbrev pub in_name_order : (name : ℕ → Name) → (kept : ℕ → Bool) → (k n : ℕ) → Entries ℕ → Entries ℕ
in_name_order name kept k zero es = es
in_name_order name kept k (suc n) es = in_name_order name kept (suc k) n (cond (kept k) (with_number (name k) k es) es)

-- the name of a design's register, and of an input of its top, by its place
abbrev pub register_name : Parts → ℕ → Name
register_name d k = (slice_index_or (registers_of d) k ([], truth)).0

abbrev pub input_name : Parts → ℕ → Name
input_name d k = (slice_index_or (inputs_of d) k ([], truth)).0

-- which bits of a register count, by its place
abbrev pub register_bits : Parts → ℕ → CountedBits
register_bits d k = slice_index_or d.bits k (record { least = None; masks = [] })

-- some bit of the numbers is set
abbrev pub has_set : List ℕ → Bool
has_set xs = list_any (λ x. nat_lt 0 x) xs

-- The register stands in a trace: some bit of it counts. (None does of a memory that no clocked block assigns.)
abbrev pub is_traced : Parts → ℕ → Bool
is_traced d k = has_set (register_bits d k).masks

abbrev pub is_any : ℕ → Bool
is_any k = true

-- The places of the registers that stand in a trace, and of the inputs, in the order of their names' bytes.
abbrev pub register_places : Parts → List ℕ
register_places d = map (λ e. e.1) (in_name_order (register_name d) (is_traced d) 0 (length (registers_of d)) [])

abbrev pub input_places : Parts → List ℕ
input_places d = map (λ e. e.1) (in_name_order (input_name d) is_any 0 (length (inputs_of d)) [])
