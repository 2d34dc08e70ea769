-- Environments: the values of the declared names, and what a term of a store means under them.
use Rattle.std.specs.Prelude.{ℕ, ◌<◌, ◌^◌, List, [], ◌∷◌, map, ⊤, Option, Some, None}
use Rattle.wb_values.specs.Value as meaning
use Rattle.wb_values.specs.Value.{Sort, truth, word, memory, truth_value, number, words, Entries, Valuation, HasSort, valuation_of}
use Rattle.model_meaning.specs.Term.{val}
use Rattle.wb_terms.specs.declared.values.Value.{Value}
use Rattle.wb_terms.specs.declared.values.Value.TheVariants.{Truth, Number, Words}
use Rattle.wb_terms.specs.declared.values.Env.{Env}
use Rattle.wb_terms.specs.Graph.{Graph, tree}

-- what a value of the code stands for
abbrev pub as_value : Value → meaning.Value
as_value (Truth b) = truth_value b
as_value (Number n) = number n
as_value (Words ws) = words ws.items

abbrev pub values_of : Env → List meaning.Value
values_of e = map as_value e.values.items

-- There is one value for each name, of its sort.
abbrev pub AreOfSorts : Entries Sort → List meaning.Value → Type 0
AreOfSorts [] [] = ⊤
AreOfSorts [] (x ∷ xs) = ⊥
AreOfSorts (n ∷ ns) [] = ⊥
AreOfSorts (n ∷ ns) (x ∷ xs) = HasSort x n.1 × AreOfSorts ns xs

-- the values under their names
abbrev pub values_by_name : Entries Sort → List meaning.Value → Entries meaning.Value
values_by_name [] xs = []
values_by_name (n ∷ ns) [] = []
values_by_name (n ∷ ns) (x ∷ xs) = (n.0, x) ∷ values_by_name ns xs

-- The environment has a value for each name of the store, of its sort.
abbrev pub Fits : Graph → Env → Type 0
Fits g e = AreOfSorts g.names (values_of e)

-- what the names stand for under the environment
abbrev pub valuation : Graph → Env → Valuation
valuation g e = valuation_of (values_by_name g.names (values_of e))

-- the value of a term of the store under the environment
abbrev pub value_of : Graph → Env → ℕ → meaning.Value
value_of g e k = val (tree g k) (valuation g e)

-- the value is one of the sort, where there is a sort
abbrev pub HasSortOf : meaning.Value → Option Sort → Type 0
HasSortOf x (Some s) = HasSort x s
HasSortOf x None = ⊥

-- the number is an address of a memory of that sort
abbrev pub IsAddressOf : ℕ → Option Sort → Type 0
IsAddressOf i (Some (memory a d)) = i < 2 ^ a
IsAddressOf i _ = ⊥
