-- What is known of visible names tells of their terms what the rules want.
use Rattle.std.proofs.Common.{◌≡◌, ℕ, Bool, true, false, cond, ◌&&◌, Option, Some, None, option_map, sym, refl, ap, ◌∙◌}
use Rattle.std.specs.Prelude.{is_none, codes, List, [], ◌∷◌, option_and_then}
use Rattle.std.proofs.lemmas.Slice.Eq.{bytes_eq-Decides}
use Rattle.wb_values.specs.Value.{Name, same_name, Entries, entry_of}
use Rattle.model_meaning.specs.Term as terms
use Rattle.wb_values.specs.Choice.{some_if}
use Rattle.model_meaning.specs.Term.{Term, is_sort}
use Rattle.model_meaning.specs.Model.{StateDeclaration, InputDeclaration, state_named}
use Rattle.model_files.specs.Written as written
use Rattle.model_files.specs.Written.{WrittenTerm, UnaryForm, BinaryForm, Widening, zext, sext}
use Rattle.model_files.specs.Scope.{Visible, term_of, term_named, unary_term, binary_term, widened_term, unary_sort, written_sort, declared, defined, with_inputs, with_states, with_definitions, with_fetch}
use Rattle.model_meaning.specs.Invariant.{is_memory_with_stores}
use Rattle.model_files.specs.Rules.{uses_unknown_name}
use Rattle.ila_rules.specs.Seen.{Brief, LookUp, States, with_name, sort_at, common_memory, memory_at, uses_unknown, brief_at, is_memory_called}
use Rattle.ila_rules.specs.Flaws.{look_inputs, look_states, look_definitions, look_fetch}

-- the memory that a term is with words stored to it
abbrev pub memory_of : Term → Option Name
memory_of (terms.name k s) = Some k
memory_of (terms.store m i x) = memory_of m
memory_of (terms.ite c x y) = common_memory (memory_of x) (memory_of y)
memory_of _ = None

abbrev pub brief_of : Visible → Brief
brief_of v = record { sort = v.sort; memory = memory_of v.term }

abbrev pub briefs : Entries Visible → LookUp
briefs names n = option_map brief_of (entry_of names n)

-- ---- terms

pub unknown_same : (names : Entries Visible) (e : WrittenTerm) → uses_unknown (briefs names) e ≡ uses_unknown_name names e
unknown_same names (written.name n) = none_same (entry_of names n) where
  none_same : (o : Option Visible) → is_none (option_map brief_of o) ≡ is_none o
  none_same None = refl
  none_same (Some v) = refl
unknown_same names (written.constant_truth b) = refl
unknown_same names (written.const w x) = refl
unknown_same names (written.unary op x) = unknown_same names x
unknown_same names (written.binary op x y) = rw (unknown_same names x, unknown_same names y) refl
unknown_same names (written.extract h l x) = unknown_same names x
unknown_same names (written.widen z n x) = unknown_same names x
unknown_same names (written.ite c x y) = rw (unknown_same names c, unknown_same names x, unknown_same names y) refl
unknown_same names (written.store m i x) = rw (unknown_same names m, unknown_same names i, unknown_same names x) refl

pub sort_same : (names : Entries Visible) (e : WrittenTerm) → sort_at (briefs names) e ≡ written_sort names e
sort_same names (written.name n) = at (entry_of names n) where
  at : (o : Option Visible) → option_and_then (λ b. b.sort) (option_map brief_of o) ≡ option_and_then (λ v. v.sort) o
  at None = refl
  at (Some v) = refl
sort_same names (written.constant_truth b) = refl
sort_same names (written.const w x) = refl
sort_same names (written.unary op x) = ap (unary_sort op) (sort_same names x)
sort_same names (written.binary op x y) = rw (sort_same names x, sort_same names y) refl
sort_same names (written.extract h l x) = rw (sort_same names x) refl
sort_same names (written.widen z n x) = rw (sort_same names x) refl
sort_same names (written.ite c x y) = rw (sort_same names c, sort_same names x, sort_same names y) refl
sort_same names (written.store m i x) = rw (sort_same names m, sort_same names i, sort_same names x) refl

no_memory_unary : (op : UnaryForm) (x : Term) → None ≡ memory_of (unary_term op x)
no_memory_unary written.not x = refl
no_memory_unary written.neg x = refl

no_memory_binary : (op : BinaryForm) (x y : Term) → None ≡ memory_of (binary_term op x y)
no_memory_binary written.and x y = refl
no_memory_binary written.or x y = refl
no_memory_binary written.xor x y = refl
no_memory_binary written.add x y = refl
no_memory_binary written.sub x y = refl
no_memory_binary written.mul x y = refl
no_memory_binary written.shl x y = refl
no_memory_binary written.lshr x y = refl
no_memory_binary written.ashr x y = refl
no_memory_binary written.eq x y = refl
no_memory_binary written.ult x y = refl
no_memory_binary written.ule x y = refl
no_memory_binary written.slt x y = refl
no_memory_binary written.sle x y = refl
no_memory_binary written.concat x y = refl
no_memory_binary written.load x y = refl

no_memory_widened : (z : Widening) (n : ℕ) (x : Term) → None ≡ memory_of (widened_term z n x)
no_memory_widened zext n x = refl
no_memory_widened sext n x = refl

pub memory_same : (names : Entries Visible) (e : WrittenTerm) → memory_at (briefs names) e ≡ memory_of (term_of names e)
memory_same names (written.name n) = at (entry_of names n) where
  at : (o : Option Visible) → option_and_then (λ b. b.memory) (option_map brief_of o) ≡ memory_of (term_named o)
  at None = refl
  at (Some v) = refl
memory_same names (written.constant_truth b) = refl
memory_same names (written.const w x) = refl
memory_same names (written.unary op x) = no_memory_unary op (term_of names x)
memory_same names (written.binary op x y) = no_memory_binary op (term_of names x) (term_of names y)
memory_same names (written.extract h l x) = refl
memory_same names (written.widen z n x) = no_memory_widened z n (term_of names x)
memory_same names (written.ite c x y) = rw (memory_same names x, memory_same names y) refl
memory_same names (written.store m i x) = memory_same names m

-- ---- a memory with words stored to it

same_refl : (n : Name) → same_name n n ≡ true
same_refl n = (bytes_eq-Decides n n).1 refl

same_and : (b c : Bool) → b ≡ c → b ≡ (b && c)
same_and true c e = e
same_and false c e = refl

called_if : (n k : Name) (a : Bool) → is_memory_called n (some_if a k) ≡ (a && same_name k n)
called_if n k true = refl
called_if n k false = refl

both_called : (n : Name) (x y : Option Name) → is_memory_called n (common_memory x y) ≡ (is_memory_called n x && is_memory_called n y)
both_called n None y = refl
both_called n (Some k) None = by_value (same_name k n) where
  by_value : (b : Bool) → false ≡ (b && false)
  by_value true = refl
  by_value false = refl
both_called n (Some k) (Some m) =
    called_if n k (same_name k m) ∙ by_value (same_name k m) (same_name k n) (same_name m n)
    (λ e. ap (λ x. same_name x n) ((bytes_eq-Decides k m).0 e))
    (λ e f. (bytes_eq-Decides k m).1 ((bytes_eq-Decides k n).0 e ∙ sym ((bytes_eq-Decides m n).0 f))) where
      by_value : (a b c : Bool) → (a ≡ true → b ≡ c) → (b ≡ true → c ≡ true → a ≡ true) → (a && b) ≡ (b && c)
      by_value true b c f g = same_and b c (f refl)
      by_value false true true f g = g refl refl
      by_value false true false f g = refl
      by_value false false c f g = refl

pub called_same : (n : Name) (t : Term) → is_memory_called n (memory_of t) ≡ is_memory_with_stores n t
called_same n (terms.name k s) = refl
called_same n (terms.store m i x) = called_same n m
called_same n (terms.ite c x y) = both_called n (memory_of x) (memory_of y) ∙ rw (called_same n x, called_same n y) refl
called_same n (terms.constant_truth b) = refl
called_same n (terms.const w x) = refl
called_same n (terms.not x) = refl
called_same n (terms.neg x) = refl
called_same n (terms.and x y) = refl
called_same n (terms.or x y) = refl
called_same n (terms.xor x y) = refl
called_same n (terms.add x y) = refl
called_same n (terms.sub x y) = refl
called_same n (terms.mul x y) = refl
called_same n (terms.shl x y) = refl
called_same n (terms.lshr x y) = refl
called_same n (terms.ashr x y) = refl
called_same n (terms.eq x y) = refl
called_same n (terms.ult x y) = refl
called_same n (terms.ule x y) = refl
called_same n (terms.slt x y) = refl
called_same n (terms.sle x y) = refl
called_same n (terms.concat x y) = refl
called_same n (terms.extract h l x) = refl
called_same n (terms.zext w x) = refl
called_same n (terms.sext w x) = refl
called_same n (terms.load x y) = refl

-- ---- names that become visible

map_cond : (b : Bool) (v : Visible) (o : Option Visible) → option_map brief_of (cond b (Some v) o) ≡ cond b (Some (brief_of v)) (option_map brief_of o)
map_cond true v o = refl
map_cond false v o = refl

pub briefs_more : (names : Entries Visible) (k : Name) (v : Visible) → with_name k (brief_of v) (briefs names) ≡ briefs ((k, v) ∷ names)
briefs_more names k v = λ i n. sym (map_cond (same_name k n) v (entry_of names n)) i

pub defined_same : (names : Entries Visible) (e : WrittenTerm) → brief_at (briefs names) e ≡ brief_of (defined names e)
defined_same names e = λ i. record { sort = sort_same names e i; memory = memory_same names e i }

pub definition_more : (names : Entries Visible) (k : Name) (e : WrittenTerm)
    → with_name k (brief_at (briefs names) e) (briefs names) ≡ briefs ((k, defined names e) ∷ names)
definition_more names k e = ap (λ b. with_name k b (briefs names)) (defined_same names e) ∙ briefs_more names k (defined names e)

pub inputs_same : (names : Entries Visible) (is : List InputDeclaration) → look_inputs (briefs names) is ≡ briefs (with_inputs names is)
inputs_same names [] = refl
inputs_same names (i ∷ is) =
    ap (λ look. look_inputs look is) (briefs_more names i.input_name (declared i.input_name i.sort))
    ∙ inputs_same ((i.input_name, declared i.input_name i.sort) ∷ names) is

pub states_same : (names : Entries Visible) (ss : List StateDeclaration) → look_states (briefs names) ss ≡ briefs (with_states names ss)
states_same names [] = refl
states_same names (s ∷ ss) =
    ap (λ look. look_states look ss) (briefs_more names s.state_name (declared s.state_name s.sort))
    ∙ states_same ((s.state_name, declared s.state_name s.sort) ∷ names) ss

pub definitions_same : (names : Entries Visible) (ds : Entries WrittenTerm) → look_definitions (briefs names) ds ≡ briefs (with_definitions names ds)
definitions_same names [] = refl
definitions_same names (d ∷ ds) =
    ap (λ look. look_definitions look ds) (definition_more names d.0 d.1) ∙ definitions_same ((d.0, defined names d.1) ∷ names) ds

pub fetch_same : (names : Entries Visible) (f : Option WrittenTerm) → look_fetch (briefs names) f ≡ briefs (with_fetch names f)
fetch_same names None = refl
fetch_same names (Some e) = definition_more names (codes "fetch") e

-- ---- states that updates may set

abbrev pub sorts_of : List StateDeclaration → States
sorts_of ss n = option_map (λ s. s.sort) (state_named ss n)
