-- What names stand for in a store of terms, and the term that a written one stands for by that.
use Rattle.std.specs.Prelude.{ℕ, ◌<◌, ◌≤◌, ◌≡◌, ◌++◌, false, cond, List, [], ◌∷◌, length, ⊤, Option, Some, None, Result, Ok, Err, codes}
use Rattle.std.specs.Borrow.{Bor}
use Rattle.std.specs.Ordering.{nat_cmp}
use Rattle.std.specs.Cmp.Lexicographic.{slice_cmp}
use Rattle.std.specs.BTreeMap.{BTreeMap, get_by}
use Rattle.wb_values.specs.Value.{Name, Sort, Entries, same_name}
use Rattle.model_meaning.specs.Term as terms
use Rattle.model_meaning.specs.Term.{Term, sort_of}
use Rattle.model_files.specs.Written.{WrittenTerm, name, constant_truth, const, unary, binary, extract, widen, ite, store}
use Rattle.model_meaning.specs.Among.{is_name_in}
use Rattle.model_files.specs.Scope.{Visible, declared, unary_term, binary_term, widened_term}
use Rattle.wb_terms.specs.declared.nodes.TermId.{TermId}
use Rattle.wb_terms.specs.declared.store.PutStop.{PutStop}
use Rattle.wb_terms.specs.declared.store.PutStop.TheVariants.{BadSort, NoMemory}
use Rattle.wb_terms.specs.Graph.{Graph, tree}

-- the term under a name of a table
abbrev pub under_name : BTreeMap (Bor (List ℕ)) TermId → Name → Option TermId
under_name t n = get_by (λ k. slice_cmp nat_cmp n k.now) t

-- The term that a name stands for: fetch for the machine's fetch where it has one, other names for what the table says.
abbrev pub found : BTreeMap (Bor (List ℕ)) TermId → Option TermId → Name → Option TermId
found t None n = under_name t n
found t (Some id) n = cond (same_name (codes "fetch") n) (Some id) (under_name t n)

-- The name stands for its term, which is in the store and has the sort of the name.
abbrev pub StandsFor : Graph → Visible → Option TermId → Type 0
StandsFor g v None = ⊥
StandsFor g v (Some id) = (id.0 < length g.nodes) × (tree g id.0 ≡ v.term) × (sort_of v.term ≡ v.sort)

abbrev pub IsIn : Graph → Option TermId → Type 0
IsIn g None = ⊤
IsIn g (Some id) = id.0 < length g.nodes

-- What the names stand for is in the store.
unfoldable pub AreIn : Graph → BTreeMap (Bor (List ℕ)) TermId → Option TermId → Type 0
AreIn g t f = (n : Name) → IsIn g (found t f n)

-- the tree of what a name stands for; that of an unknown name is read as false
abbrev pub seen : Graph → Option TermId → Term
seen g None = terms.constant_truth false
seen g (Some id) = tree g id.0

unfoldable pub seen_by : Graph → BTreeMap (Bor (List ℕ)) TermId → Option TermId → Name → Term
seen_by g t f n = seen g (found t f n)

-- The term that a written one stands for, by what its names stand for.
abbrev pub term_by : (Name → Term) → WrittenTerm → Term
term_by at (name n) = at n
term_by at (constant_truth b) = terms.constant_truth b
term_by at (const w x) = terms.const w x
term_by at (unary op x) = unary_term op (term_by at x)
term_by at (binary op x y) = binary_term op (term_by at x) (term_by at y)
term_by at (extract h l x) = terms.extract h l (term_by at x)
term_by at (widen z n x) = widened_term z n (term_by at x)
term_by at (ite c x y) = terms.ite (term_by at c) (term_by at x) (term_by at y)
term_by at (store m i x) = terms.store (term_by at m) (term_by at i) (term_by at x)

-- The second store has the names of the first, and its terms in front.
pub record IsGrown (g h : Graph) : Type 0 where
  pub names : h.names ≡ g.names
  pub longer : length g.nodes ≤ length h.nodes
  pub trees : (k : ℕ) → k < length g.nodes → tree h k ≡ tree g k

-- The second store has the names and the terms of the first in front.
pub record IsWider (g h : Graph) : Type 0 where
  pub more : Entries Sort
  pub names : h.names ≡ g.names ++ more
  pub longer : length g.nodes ≤ length h.nodes
  pub trees : (k : ℕ) → k < length g.nodes → tree h k ≡ tree g k

-- A term was put: the store has only grown, and has the term's tree. It is refused only where the term has no sort.
abbrev pub IsPut : Graph → Graph → Result TermId PutStop → Term → Type 0
IsPut g h (Ok id) t = IsGrown g h × (id.0 < length h.nodes) × (tree h id.0 ≡ t)
IsPut g h (Err BadSort) t = IsGrown g h × (sort_of t ≡ None)
IsPut g h (Err NoMemory) t = IsGrown g h

-- what a written term is found to stand for as it is: a name's term
abbrev pub found_alone : (Name → Option TermId) → WrittenTerm → Option TermId
found_alone at (name n) = at n
found_alone at (constant_truth b) = None
found_alone at (const w x) = None
found_alone at (unary op x) = None
found_alone at (binary op x y) = None
found_alone at (extract h l x) = None
found_alone at (widen z n x) = None
found_alone at (ite c x y) = None
found_alone at (store m i x) = None

-- A term that is found is the answer, and the store is as it was: nothing is copied.
abbrev pub IsShared : Graph → Graph → Result TermId PutStop → Option TermId → Type 0
IsShared g h r None = ⊤
IsShared g h r (Some id) = (r ≡ Ok id) × (h ≡ g)

-- What stands in the first table stands in the second: no name was given another meaning.
unfoldable pub IsKept : BTreeMap (Bor (List ℕ)) TermId → BTreeMap (Bor (List ℕ)) TermId → Type 0
IsKept t u = (n : Name) (id : TermId) → under_name t n ≡ Some id → under_name u n ≡ Some id

-- No name of the list stands in the table, and none stands twice in the list.
abbrev pub IsFresh : BTreeMap (Bor (List ℕ)) TermId → List Name → Type 0
IsFresh t [] = ⊤
IsFresh t (n ∷ ns) = (under_name t n ≡ None) × (is_name_in n ns ≡ false) × IsFresh t ns

-- Each name of the list stands for itself.
abbrev pub StandAll : Graph → BTreeMap (Bor (List ℕ)) TermId → Entries Sort → Type 0
StandAll g t [] = ⊤
StandAll g t (n ∷ ns) = StandsFor g (declared n.0 n.1) (under_name t n.0) × StandAll g t ns

-- What stands in the table is in the store, and each declared name stands there for itself.
unfoldable pub IsTable : Graph → BTreeMap (Bor (List ℕ)) TermId → Type 0
IsTable g t = AreIn g t None × StandAll g t g.names
