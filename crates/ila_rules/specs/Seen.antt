-- What the judging of a term needs of the names that are visible: their sorts, and which memory they are.
use Rattle.std.specs.Prelude.{Bool, true, false, cond, not, ◌&&◌, ◌||◌, Option, Some, None, is_none, option_and_then}
use Rattle.wb_values.specs.Value.{Name, same_name, Sort, truth, word, memory}
use Rattle.wb_values.specs.Choice.{some_if}
use Rattle.model_meaning.specs.Term.{is_width, extract_sort, extended_sort, ite_sort, store_sort, is_sort, same_sort}
use Rattle.model_files.specs.Written as written
use Rattle.model_files.specs.Written.{WrittenTerm}
use Rattle.model_files.specs.Scope.{unary_sort, binary_sort}
use Rattle.model_meaning.specs.Term.{is_memory_sort}

-- What is known of a name or a term: its sort where it has one, and the memory that it is with words stored to it, if it is one.
pub record Brief : Type 0 where
  pub sort : Option Sort
  pub memory : Option Name

-- what is known of each visible name
abbrev pub LookUp : Type 0
LookUp = Name → Option Brief

-- the sorts of the states that an update may set
abbrev pub States : Type 0
States = Name → Option Sort

-- the look-ups with one name more
abbrev pub with_name : {A : Type 0} → Name → A → (Name → Option A) → Name → Option A
with_name k v look n = cond (same_name k n) (Some v) (look n)

abbrev pub sort_at : LookUp → WrittenTerm → Option Sort
sort_at look (written.name n) = option_and_then (λ b. b.sort) (look n)
sort_at look (written.constant_truth b) = Some truth
sort_at look (written.const w x) = some_if (is_width w) (word w)
sort_at look (written.unary op x) = unary_sort op (sort_at look x)
sort_at look (written.binary op x y) = binary_sort op (sort_at look x) (sort_at look y)
sort_at look (written.extract h l x) = extract_sort h l (sort_at look x)
sort_at look (written.widen z n x) = extended_sort n (sort_at look x)
sort_at look (written.ite c x y) = ite_sort (sort_at look c) (sort_at look x) (sort_at look y)
sort_at look (written.store m i x) = store_sort (sort_at look m) (sort_at look i) (sort_at look x)

-- the memory that both are
abbrev pub common_memory : Option Name → Option Name → Option Name
common_memory (Some k) (Some n) = some_if (same_name k n) k
common_memory _ _ = None

-- The memory that a term is with words stored to it: its own name, that of a store's memory, or the one of both branches.
abbrev pub memory_at : LookUp → WrittenTerm → Option Name
memory_at look (written.name n) = option_and_then (λ b. b.memory) (look n)
memory_at look (written.store m i x) = memory_at look m
memory_at look (written.ite c x y) = common_memory (memory_at look x) (memory_at look y)
memory_at look (written.constant_truth b) = None
memory_at look (written.const w x) = None
memory_at look (written.unary op x) = None
memory_at look (written.binary op x y) = None
memory_at look (written.extract h l x) = None
memory_at look (written.widen z n x) = None

abbrev pub uses_unknown : LookUp → WrittenTerm → Bool
uses_unknown look (written.name n) = is_none (look n)
uses_unknown look (written.constant_truth b) = false
uses_unknown look (written.const w x) = false
uses_unknown look (written.unary op x) = uses_unknown look x
uses_unknown look (written.binary op x y) = uses_unknown look x || uses_unknown look y
uses_unknown look (written.extract h l x) = uses_unknown look x
uses_unknown look (written.widen z n x) = uses_unknown look x
uses_unknown look (written.ite c x y) = uses_unknown look c || (uses_unknown look x || uses_unknown look y)
uses_unknown look (written.store m i x) = uses_unknown look m || (uses_unknown look i || uses_unknown look x)

abbrev pub brief_at : LookUp → WrittenTerm → Brief
brief_at look e = record { sort = sort_at look e; memory = memory_at look e }

-- a state or an input stands for itself
abbrev pub brief_declared : Name → Sort → Brief
brief_declared n s = record { sort = some_if (is_sort s) s; memory = Some n }

-- Where a term stands: an update with its state's name, and the state's sort if it names a state.
pub data Role : Type 0 where
  definition fetch condition : Role
  update : (called : Name) → (state : Option Sort) → Role

abbrev pub updates_none : Role → Bool
updates_none (update n s) = is_none s
updates_none definition = false
updates_none fetch = false
updates_none condition = false

abbrev pub fits_role : Role → Sort → Bool
fits_role definition s = true
fits_role fetch truth = true
fits_role fetch (word w) = true
fits_role fetch (memory a d) = false
fits_role condition s = same_sort truth s
fits_role (update n (Some d)) s = same_sort d s
fits_role (update n None) s = true

abbrev pub has_role_sort : Role → Option Sort → Bool
has_role_sort r (Some s) = fits_role r s
has_role_sort r None = false

abbrev pub is_memory_called : Name → Option Name → Bool
is_memory_called n (Some k) = same_name k n
is_memory_called n None = false

abbrev pub copies_at : Role → Option Name → Bool
copies_at (update n (Some d)) m = is_memory_sort d && not (is_memory_called n m)
copies_at (update n None) m = false
copies_at definition m = false
copies_at fetch m = false
copies_at condition m = false
