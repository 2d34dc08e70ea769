-- Ports with unequal ranges by the rows of declarations, and by the table of first ranges.
use Rattle.std.proofs.Common.{◌≡◌, ◌∙◌, refl, ap, sym, subst, ℕ, ◌+◌, ◌<◌, length, drop, get_or, add-one, drop-cons, ◌≤◌, Bool, true, false, true≢false, cond, ◌&&◌, ◌||◌, List, [], ◌∷◌, ◌++◌, Option, Some, None}
use Rattle.std.specs.Prelude.{is_some}
use Rattle.std.specs.List.{list_any}
use Rattle.std.proofs.lemmas.List.{drop_all}
use Rattle.std.proofs.lemmas.Slice.Eq.{bytes_eq-Decides}
use Rattle.wb_values.specs.Value.{Name, same_name}
use Rattle.wb_values.specs.Choice.{first_of}
use Rattle.verilog_trees.specs.Syntax.{Direction, Range}
use Rattle.verilog_meaning.specs.Expression.{Scope}
use Rattle.verilog_meaning.specs.Hierarchy.{Declaration}
use Rattle.verilog_designs.specs.Known.{known_range}
use Rattle.verilog_designs.specs.Ports.{one_range, ranges_of, is_other_range, differ}
use Rattle.v_scopes.specs.Bounds.{bound_at, known_bounds, bounds}
use Rattle.v_scopes.specs.declared.range.Bounds.TheVariants.{Absent}
use Rattle.v_scopes.specs.declared.row.Declared.{Declared}
use Rattle.v_scopes.specs.Rows.{Row, rows, row_of, rows_of, row_named}
use Rattle.v_ports.specs.Ports.{direction_in, some_port_is}
use Rattle.v_ports.specs.Ranges.{first_after, is_other, differs_after}
use Rattle.v_ports.proofs.Directions.{direction_more}

-- ---- ranges of a name

abbrev pub one_or_none : Option (ℕ × ℕ) → List (ℕ × ℕ)
one_or_none None = []
one_or_none (Some b) = b ∷ []

-- what is left to be found, where the first range is known or not
abbrev left_to_find : Option (ℕ × ℕ) → List (ℕ × ℕ) → Bool
left_to_find None bs = differ bs
left_to_find (Some a) bs = list_any (is_other_range a) bs

-- one declaration of the name: without a range, or with one that has a value or none
found : (first : Option (ℕ × ℕ)) (o : Option (ℕ × ℕ)) (bs : List (ℕ × ℕ)) (rest : Option (ℕ × ℕ) → Bool)
    → ((f : Option (ℕ × ℕ)) → left_to_find f bs ≡ rest f)
    → left_to_find first (one_or_none o ++ bs) ≡ (is_other first (known_bounds o) || rest (first_after first (known_bounds o)))
found None None bs rest h = h None
found None (Some b) bs rest h = h (Some b)
found (Some a) None bs rest h = h (Some a)
found (Some a) (Some b) bs rest h = ap (λ c. is_other_range a b || c) (h (Some a))

absent : (first : Option (ℕ × ℕ)) (bs : List (ℕ × ℕ)) (rest : Option (ℕ × ℕ) → Bool) → ((f : Option (ℕ × ℕ)) → left_to_find f bs ≡ rest f)
    → left_to_find first bs ≡ (is_other first Absent || rest (first_after first Absent))
absent None bs rest h = h None
absent (Some a) bs rest h = h (Some a)

-- the range of a declaration with its value
pub ranged : (s : Scope) (r : Range) (o : Option (ℕ × ℕ)) → known_range s r ≡ o → one_range s (Some r) ≡ one_or_none o
ranged s r None e = rw e refl
ranged s r (Some b) e = rw e refl

bounded : (s : Scope) (r : Range) (o : Option (ℕ × ℕ)) → known_range s r ≡ o → known_bounds o ≡ bounds s (Some r)
unfolding bound_at
bounded s r o e = ap known_bounds (sym e)

pub ranges_differ : (s : Scope) (first : Option (ℕ × ℕ)) (ds : List Declaration) (n : Name) → left_to_find first (ranges_of s ds n) ≡ differs_after first (rows s ds) n
ranges_differ s None [] n = refl
ranges_differ s (Some a) [] n = refl
ranges_differ s first (d ∷ ds) n = by_name (same_name d.of_name n) (λ f. ranges_differ s f ds n)
  where
    at_range : ((f : Option (ℕ × ℕ)) → left_to_find f (ranges_of s ds n) ≡ differs_after f (rows s ds) n) → (r : Option Range)
        → left_to_find first (one_range s r ++ ranges_of s ds n) ≡ (is_other first (bounds s r) || differs_after (first_after first (bounds s r)) (rows s ds) n)
    at_range h None = absent first (ranges_of s ds n) (λ f. differs_after f (rows s ds) n) h
    at_range h (Some r) =
        ap (λ xs. left_to_find first (xs ++ ranges_of s ds n)) (ranged s r (known_range s r) refl)
        ∙ found first (known_range s r) (ranges_of s ds n) (λ f. differs_after f (rows s ds) n) h
        ∙ ap (λ b. is_other first b || differs_after (first_after first b) (rows s ds) n) (bounded s r (known_range s r) refl)

    by_name : (b : Bool) → ((f : Option (ℕ × ℕ)) → left_to_find f (ranges_of s ds n) ≡ differs_after f (rows s ds) n)
        → left_to_find first (cond b (one_range s d.range) [] ++ ranges_of s ds n)
        ≡ cond b (is_other first (bounds s d.range) || differs_after (first_after first (bounds s d.range)) (rows s ds) n) (differs_after first (rows s ds) n)
    by_name true h = at_range h d.range
    by_name false h = h first

-- ---- ports among the rows

-- a name with a direction has a row with one
pub port_there : (is_so : Name → Bool) (rs : List Row) (n : Name) → is_some (direction_in (row_named rs n)) ≡ true → is_so n ≡ true → some_port_is is_so rs ≡ true
port_there is_so [] n e h = absurd (true≢false (sym e))
port_there is_so (r ∷ rs) n e h =
    by_row (same_name r.of_name n) refl r.direction refl (ap is_some (sym (direction_more r rs n)) ∙ e) (λ k. port_there is_so rs n k h)
  where
    here : r.of_name ≡ n → (o : Option Direction) → r.direction ≡ o → is_some o ≡ true → ((is_some r.direction && is_so r.of_name) || some_port_is is_so rs) ≡ true
    here i o f t = ap (λ b. b || some_port_is is_so rs) (ap (λ b. b && is_so r.of_name) (ap is_some f ∙ t) ∙ ap is_so i ∙ h)

    later : (b : Bool) → some_port_is is_so rs ≡ true → (b || some_port_is is_so rs) ≡ true
    later true k = refl
    later false k = k

    by_row : (b : Bool) → same_name r.of_name n ≡ b → (o : Option Direction) → r.direction ≡ o
        → is_some (cond b (first_of o (direction_in (row_named rs n))) (direction_in (row_named rs n))) ≡ true
        → (is_some (direction_in (row_named rs n)) ≡ true → some_port_is is_so rs ≡ true)
        → ((is_some r.direction && is_so r.of_name) || some_port_is is_so rs) ≡ true
    by_row true i (Some w) f t k = here ((bytes_eq-Decides r.of_name n).0 i) (Some w) f refl
    by_row true i None f t k = later (is_some r.direction && is_so r.of_name) (k t)
    by_row false i o f t k = later (is_some r.direction && is_so r.of_name) (k t)

-- none is so where no name with a direction is
pub port_nowhere : (is_so : Name → Bool) (rs : List Row) → ((n : Name) → is_some (direction_in (row_named rs n)) ≡ true → is_so n ≡ false) → some_port_is is_so rs ≡ false
port_nowhere is_so [] h = refl
port_nowhere is_so (r ∷ rs) h =
    neither (is_some r.direction && is_so r.of_name) (some_port_is is_so rs) (this r.direction refl)
    (port_nowhere is_so rs (λ n e. h n (ap is_some (direction_more r rs n) ∙ kept (same_name r.of_name n) r.direction (direction_in (row_named rs n)) e)))
  where
    neither : (a b : Bool) → a ≡ false → b ≡ false → (a || b) ≡ false
    neither a b e f = ap (λ x. x || b) e ∙ f

    kept : (b : Bool) (o p : Option Direction) → is_some p ≡ true → is_some (cond b (first_of o p) p) ≡ true
    kept true None p e = e
    kept true (Some w) p e = refl
    kept false o p e = e

    same_here : same_name r.of_name r.of_name ≡ true
    same_here = (bytes_eq-Decides r.of_name r.of_name).1 refl

    this : (o : Option Direction) → r.direction ≡ o → (is_some r.direction && is_so r.of_name) ≡ false
    this None e = ap (λ x. is_some x && is_so r.of_name) e
    this (Some w) e =
        ap (λ x. is_some x && is_so r.of_name) e
        ∙ h r.of_name
        (ap is_some (direction_more r rs r.of_name ∙ ap (λ b. cond b (first_of r.direction (direction_in (row_named rs r.of_name))) (direction_in (row_named rs r.of_name))) same_here)
        ∙ ap (λ x. is_some (first_of x (direction_in (row_named rs r.of_name)))) e)

-- ---- one turn of the code's loop

-- the first range of each port, where this is what is left of the rows
abbrev pub IsMetSoFar : List Row → (Name → Option (ℕ × ℕ)) → List Row → Type 0
IsMetSoFar all first rest =
    (n : Name) → is_some (direction_in (row_named all n)) ≡ true → differs_after None all n ≡ differs_after (first n) rest n

pub other_found : (all : List Row) (first : Name → Option (ℕ × ℕ)) (r : Row) (rest : List Row) → IsMetSoFar all first (r ∷ rest)
    → is_some (direction_in (row_named all r.of_name)) ≡ true → is_other (first r.of_name) r.range ≡ true → some_port_is (differs_after None all) all ≡ true
other_found all first r rest met port other =
    port_there (differs_after None all) all r.of_name port
    (met r.of_name port
    ∙ ap (λ b. cond b (is_other (first r.of_name) r.range || differs_after (first_after (first r.of_name) r.range) rest r.of_name) (differs_after (first r.of_name) rest r.of_name))
    ((bytes_eq-Decides r.of_name r.of_name).1 refl)
    ∙ ap (λ b. b || differs_after (first_after (first r.of_name) r.range) rest r.of_name) other)

pub met_more : (all : List Row) (first next : Name → Option (ℕ × ℕ)) (r : Row) (rest : List Row) → IsMetSoFar all first (r ∷ rest)
    → is_other (first r.of_name) r.range ≡ false → ((n : Name) → next n ≡ cond (same_name r.of_name n) (first_after (first r.of_name) r.range) (first n))
    → IsMetSoFar all next rest
met_more all first next r rest met other step n port =
    met n port ∙ by_name (same_name r.of_name n) refl ∙ ap (λ f. differs_after f rest n) (sym (step n))
  where
    by_name : (b : Bool) → same_name r.of_name n ≡ b
        → cond b (is_other (first n) r.range || differs_after (first_after (first n) r.range) rest n) (differs_after (first n) rest n)
        ≡ differs_after (cond b (first_after (first r.of_name) r.range) (first n)) rest n
    by_name true i =
        let same : first r.of_name ≡ first n = ap first ((bytes_eq-Decides r.of_name n).0 i) in
        ap (λ f. is_other f r.range || differs_after (first_after f r.range) rest n) (sym same)
        ∙ ap (λ b. b || differs_after (first_after (first r.of_name) r.range) rest n) other
    by_name false i = refl

-- a row of a name without a direction says nothing
pub met_past : (all : List Row) (first : Name → Option (ℕ × ℕ)) (r : Row) (rest : List Row) → IsMetSoFar all first (r ∷ rest)
    → is_some (direction_in (row_named all r.of_name)) ≡ false → IsMetSoFar all first rest
met_past all first r rest met none n port = met n port ∙ by_name (same_name r.of_name n) refl
  where
    by_name : (b : Bool) → same_name r.of_name n ≡ b
        → cond b (is_other (first n) r.range || differs_after (first_after (first n) r.range) rest n) (differs_after (first n) rest n) ≡ differs_after (first n) rest n
    by_name true i =
        absurd (true≢false (sym port ∙ ap (λ m. is_some (direction_in (row_named all m))) (sym ((bytes_eq-Decides r.of_name n).0 i)) ∙ none))
    by_name false i = refl

pub met_none : (all : List Row) (first : Name → Option (ℕ × ℕ)) → IsMetSoFar all first [] → some_port_is (differs_after None all) all ≡ false
met_none all first met = port_nowhere (differs_after None all) all (λ n port. met n port)

-- ---- the same over the code's rows

rows_drop : (ds : List Declared) (i : ℕ) (d : Declared) → i < length ds → rows_of (drop i ds) ≡ row_of (get_or ds i d) ∷ rows_of (drop (i + 1) ds)
rows_drop ds i d h = rw (add-one, drop-cons ds i d h) refl

met_at : (ds : List Declared) (i : ℕ) (d : Declared) (first : Name → Option (ℕ × ℕ)) → i < length ds → IsMetSoFar (rows_of ds) first (rows_of (drop i ds))
    → IsMetSoFar (rows_of ds) first (row_of (get_or ds i d) ∷ rows_of (drop (i + 1) ds))
met_at ds i d first h met = subst (λ rs. IsMetSoFar (rows_of ds) first rs) (rows_drop ds i d h) met

-- what a row's name says of the declarations, by the tests of one turn
pub other_at : (ds known : List Declared) (i : ℕ) (d : Declared) (first : Name → Option (ℕ × ℕ)) → i < length ds → IsMetSoFar (rows_of ds) first (rows_of (drop i ds)) → ds ≡ known
    → (p : Bool) → p ≡ is_some (direction_in (row_named (rows_of known) (get_or ds i d).name.now)) → p ≡ true
    → (b : Option (ℕ × ℕ)) → b ≡ first (get_or ds i d).name.now → (o : Bool) → o ≡ is_other b (get_or ds i d).range → o ≡ true
    → true ≡ some_port_is (differs_after None (rows_of ds)) (rows_of ds)
other_at ds known i d first h met same p e port b f o g other =
    sym
    (other_found (rows_of ds) first (row_of (get_or ds i d)) (rows_of (drop (i + 1) ds)) (met_at ds i d first h met)
    (ap (λ rs. is_some (direction_in (row_named (rows_of rs) (get_or ds i d).name.now))) same ∙ sym e ∙ port)
    (ap (λ x. is_other x (get_or ds i d).range) (sym f) ∙ sym g ∙ other))

pub more_at : (ds : List Declared) (i : ℕ) (d : Declared) (first next : Name → Option (ℕ × ℕ)) → i < length ds → IsMetSoFar (rows_of ds) first (rows_of (drop i ds))
    → (b : Option (ℕ × ℕ)) → b ≡ first (get_or ds i d).name.now → (o : Bool) → o ≡ is_other b (get_or ds i d).range → o ≡ false
    → ((n : Name) → next n ≡ cond (same_name (get_or ds i d).name.now n) (first_after b (get_or ds i d).range) (first n))
    → IsMetSoFar (rows_of ds) next (rows_of (drop (i + 1) ds))
more_at ds i d first next h met b f o g other step =
    met_more (rows_of ds) first next (row_of (get_or ds i d)) (rows_of (drop (i + 1) ds)) (met_at ds i d first h met)
    (ap (λ x. is_other x (get_or ds i d).range) (sym f) ∙ sym g ∙ other)
    (λ n. step n ∙ ap (λ x. cond (same_name (get_or ds i d).name.now n) (first_after x (get_or ds i d).range) (first n)) f)

pub past_at : (ds known : List Declared) (i : ℕ) (d : Declared) (first : Name → Option (ℕ × ℕ)) → i < length ds → IsMetSoFar (rows_of ds) first (rows_of (drop i ds)) → ds ≡ known
    → (p : Bool) → p ≡ is_some (direction_in (row_named (rows_of known) (get_or ds i d).name.now)) → p ≡ false
    → IsMetSoFar (rows_of ds) first (rows_of (drop (i + 1) ds))
past_at ds known i d first h met same p e none =
    met_past (rows_of ds) first (row_of (get_or ds i d)) (rows_of (drop (i + 1) ds)) (met_at ds i d first h met)
    (ap (λ rs. is_some (direction_in (row_named (rows_of rs) (get_or ds i d).name.now))) same ∙ sym e ∙ none)

pub met_end : (ds : List Declared) (i : ℕ) (first : Name → Option (ℕ × ℕ)) → length ds ≤ i → IsMetSoFar (rows_of ds) first (rows_of (drop i ds))
    → false ≡ some_port_is (differs_after None (rows_of ds)) (rows_of ds)
met_end ds i first h met = sym (met_none (rows_of ds) first (subst (λ xs. IsMetSoFar (rows_of ds) first (rows_of xs)) (drop_all i ds h) met))
