-- The table of a module's names has under each name what all its declarations say together.
use Rattle.std.proofs.Common.{◌≡◌, ◌∙◌, refl, ap, sym, ℕ, ◌+◌, ◌<◌, Bool, true, false, cond, ◌||◌, List, [], ◌∷◌, length, drop, get_or, Option, Some, None, option_map, add-one, drop-cons}
use Rattle.wb_values.specs.Value.{Name, same_name}
use Rattle.wb_values.specs.Choice.{first_of}
use Rattle.verilog_trees.specs.Syntax.{Range}
use Rattle.verilog_meaning.specs.Expression.{Scope}
use Rattle.verilog_meaning.specs.Hierarchy.{Declaration, both_declarations, and_later, declaration_of}
use Rattle.verilog_designs.specs.Known.{both_bounds}
use Rattle.std.specs.Option.{option_or}
use Rattle.v_syntax.specs.declared.module.Direction.{Direction}
use Rattle.v_syntax.specs.declared.module.NetKind.{NetKind}
use Rattle.v_syntax.specs.declared.module.NetKind.TheVariants.{Wire, Reg}
use Rattle.v_syntax.specs.Source.{direction_of, kind_of}
use Rattle.v_scopes.specs.declared.range.Bounds.{Bounds}
use Rattle.v_scopes.specs.declared.range.Bounds.TheVariants.{Absent, Unknown, Known}
use Rattle.v_scopes.specs.declared.row.Declared.{Declared}
use Rattle.v_scopes.specs.Bounds.{bound_at, known_bounds, bounds, first_bounds}
use Rattle.v_scopes.specs.Rows.{Row, row, rows, row_of, rows_of, both_rows, row_and_later, row_after, row_named, joined_rows}

-- ---- declarations of a name, with and without the values of ranges

known_first : (o : Option (ℕ × ℕ)) (b : Bounds) → first_bounds (known_bounds o) b ≡ known_bounds o
known_first None b = refl
known_first (Some x) b = refl

bounds_first : (s : Scope) (r q : Option Range) → bounds s (first_of r q) ≡ first_bounds (bounds s r) (bounds s q)
bounds_first s None q = refl
bounds_first s (Some r) q = sym (known_first (both_bounds (bound_at s r.left) (bound_at s r.right)) (bounds s q))

row_both : (s : Scope) (d e : Declaration) → row s (both_declarations d e) ≡ both_rows (row s d) (row s e)
row_both s d e =
    λ i. record {
      of_name = d.of_name;
      direction = first_of d.direction e.direction;
      kind = first_of d.kind e.kind;
      signed = d.signed || e.signed;
      range = bounds_first s d.range e.range i;
      addresses = bounds_first s d.addresses e.addresses i;
    }

row_later : (s : Scope) (d : Declaration) (o : Option Declaration) → row s (and_later d o) ≡ row_and_later (row s d) (option_map (row s) o)
row_later s d None = refl
row_later s d (Some e) = row_both s d e

mapped_cond : {A B : Type 0} (f : A → B) (b : Bool) (x : A) (o : Option A) → option_map f (cond b (Some x) o) ≡ cond b (Some (f x)) (option_map f o)
mapped_cond f true x o = refl
mapped_cond f false x o = refl

pub named_so : (s : Scope) (ds : List Declaration) (n : Name) → option_map (row s) (declaration_of ds n) ≡ row_named (rows s ds) n
named_so s [] n = refl
named_so s (d ∷ ds) n =
    mapped_cond (row s) (same_name d.of_name n) (and_later d (declaration_of ds n)) (declaration_of ds n)
    ∙ (ap (λ x. cond (same_name d.of_name n) (Some x) (option_map (row s) (declaration_of ds n))) (row_later s d (declaration_of ds n))
    ∙ ap (λ o. cond (same_name d.of_name n) (Some (row_and_later (row s d) o)) o) (named_so s ds n))

-- ---- the code's declarations

or_first : {A B : Type 0} (f : A → B) (x y : Option A) → option_map f (option_or x y) ≡ first_of (option_map f x) (option_map f y)
or_first f None y = refl
or_first f (Some a) y = refl

kind_first : (x y : Option NetKind) → kind_of (option_or x y) ≡ first_of (kind_of x) (kind_of y)
kind_first None y = refl
kind_first (Some Wire) y = refl
kind_first (Some Reg) y = refl

pub both_so : (d e x : Declared) (w : Option Direction) (k : Option NetKind) (g : Bool) (r a : Bounds) → w ≡ option_or d.direction e.direction → k ≡ option_or d.kind e.kind
    → g ≡ (d.signed || e.signed) → r ≡ first_bounds d.range e.range → a ≡ first_bounds d.addresses e.addresses
    → x ≡ record { name = d.name; direction = w; kind = k; signed = g; range = r; addresses = a } → row_of x ≡ both_rows (row_of d) (row_of e)
both_so d e x w k g r a p q s t u is =
    ap row_of is
    ∙ (λ i. record {
      of_name = d.name.now;
      direction = (ap (option_map direction_of) p ∙ or_first direction_of d.direction e.direction) i;
      kind = (ap kind_of q ∙ kind_first d.kind e.kind) i;
      signed = s i;
      range = t i;
      addresses = u i;
    })

-- ---- from the front

first_assoc : {A : Type 0} (x y z : Option A) → first_of (first_of x y) z ≡ first_of x (first_of y z)
first_assoc None y z = refl
first_assoc (Some a) y z = refl

or_assoc : (a b c : Bool) → ((a || b) || c) ≡ (a || (b || c))
or_assoc true b c = refl
or_assoc false b c = refl

bounds_assoc : (x y z : Bounds) → first_bounds (first_bounds x y) z ≡ first_bounds x (first_bounds y z)
bounds_assoc Absent y z = refl
bounds_assoc Unknown y z = refl
bounds_assoc (Known l r) y z = refl

both_assoc : (x y z : Row) → both_rows (both_rows x y) z ≡ both_rows x (both_rows y z)
both_assoc x y z =
    λ i. record {
      of_name = x.of_name;
      direction = first_assoc x.direction y.direction z.direction i;
      kind = first_assoc x.kind y.kind z.kind i;
      signed = or_assoc x.signed y.signed z.signed i;
      range = bounds_assoc x.range y.range z.range i;
      addresses = bounds_assoc x.addresses y.addresses z.addresses i;
    }

after_later : (o : Option Row) (x : Row) (p : Option Row) → Some (row_and_later (row_after o x) p) ≡ joined_rows o (Some (row_and_later x p))
after_later None x p = refl
after_later (Some d) x None = refl
after_later (Some d) x (Some e) = ap Some (both_assoc d x e)

one_more : (b : Bool) (o : Option Row) (x : Row) (p : Option Row)
    → joined_rows (cond b (Some (row_after o x)) o) p ≡ joined_rows o (cond b (Some (row_and_later x p)) p)
one_more true o x p = after_later o x p
one_more false o x p = refl

pub rows_drop : (ds : List Declared) (i : ℕ) (d : Declared) → i < length ds → rows_of (drop i ds) ≡ row_of (get_or ds i d) ∷ rows_of (drop (i + 1) ds)
rows_drop ds i d h = rw (add-one, drop-cons ds i d h) refl

-- a turn that puts a declaration into the table
pub row_turn : (ds : List Declared) (i : ℕ) (d : Declared) (old new all : Option Row) (n : Name) → i < length ds
    → new ≡ cond (same_name (row_of (get_or ds i d)).of_name n) (Some (row_after old (row_of (get_or ds i d)))) old
    → joined_rows old (row_named (rows_of (drop i ds)) n) ≡ all → joined_rows new (row_named (rows_of (drop (i + 1) ds)) n) ≡ all
row_turn ds i d old new all n h u e =
    let x : Row = row_of (get_or ds i d) in
    let rest : Option Row = row_named (rows_of (drop (i + 1) ds)) n in
    ap (λ o. joined_rows o rest) u
    ∙ (one_more (same_name x.of_name n) old x rest
    ∙ (ap (λ xs. joined_rows old (row_named xs n)) (sym (rows_drop ds i d h)) ∙ e))

none_before : (o : Option Row) → joined_rows o None ≡ o
none_before None = refl
none_before (Some d) = refl

-- at the end no declaration is left
pub row_end : (ds : List Declared) (i : ℕ) (o all : Option Row) (n : Name) → drop i ds ≡ [] → joined_rows o (row_named (rows_of (drop i ds)) n) ≡ all → o ≡ all
row_end ds i o all n h e = sym (ap (λ xs. joined_rows o (row_named (rows_of xs) n)) h ∙ none_before o) ∙ e
