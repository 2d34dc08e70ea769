-- The names of all places as they are made, and the tables and the scope that are made of them.
use Rattle.std.proofs.Common.{◌≡◌, ◌∙◌, ◌<◌, ◌+◌, ℕ, Bool, true, false, cond, refl, ap, sym, List, [], ◌∷◌, ◌++◌, map, length, drop, get_or, Bor, Option, Some, None, option_map}
use Rattle.std.specs.Prelude.{unwrap_or}
use Rattle.std.specs.String.{string_bytes}
use Rattle.std.specs.Cmp.Lexicographic.{slice_cmp}
use Rattle.std.specs.Ordering.{nat_cmp}
use Rattle.std.specs.BTreeMap as tree
use Rattle.std.specs.BTreeMap.{BTreeMap}
use Rattle.std.proofs.lemmas.Map.Text.{btree_map_updates_str}
use Rattle.std.proofs.lemmas.List.{map-append, drop_more}
use Rattle.wb_values.specs.Value.{Name, same_name}
use Rattle.verilog_meaning.specs.Expression.{Object, scope_of}
use Rattle.verilog_meaning.specs.Hierarchy.{declarations}
use Rattle.v_value.specs.declared.scope.Declaration.{Declaration}
use Rattle.v_value.specs.Scope.{object_of, objects_of}
use Rattle.v_hier.specs.Tables.{under_name}
use Rattle.v_scopes.specs.Rows.{Row, rows, scope_by, objects_by}
use Rattle.v_renamed.specs.NewNames.{name_or}
use Rattle.v_places.specs.Below.{Spot}
use Rattle.v_flat.specs.declared.names.Dotted.{Dotted}
use Rattle.v_flat.specs.Entries.{spot_entries, DottedEntry, dotted_entry, dotted_entries, SpotNames, spot_names, named_after, named_in}
use Rattle.v_flat.specs.Views.{entry_in}

-- ---- one module

-- the names of a module: its constants, then what it declares
pub names_so : (x : Spot) (front : Name) (rs : List Row) (n : SpotNames) → rs ≡ rows (scope_of x.constants) (declarations x.of_module)
    → n.front ≡ front → n.entries ≡ dotted_entries front x.constants ++ dotted_entries front (objects_by (scope_by rs) rs) → n ≡ spot_names front x
names_so x front rs n r f e = λ i. record { front = f i; entries = all i }
  where
    all : n.entries ≡ dotted_entries front (spot_entries x)
    all =
        e ∙ ap (λ qs. dotted_entries front x.constants ++ dotted_entries front (objects_by (scope_by qs) qs)) r
        ∙ sym (map-append (dotted_entry front) x.constants (objects_by (scope_by (rows (scope_of x.constants) (declarations x.of_module))) (rows (scope_of x.constants) (declarations x.of_module))))

pub declared_more : (s : Name → Object) (front : Name) (d : Row) (ds : List Row)
    → dotted_entries front (objects_by s (d ∷ ds)) ≡ dotted_entry front (d.of_name, s d.of_name) ∷ dotted_entries front (objects_by s ds)
declared_more s front d ds = refl

-- its object is said in another way
pub entry_so : (front n : Name) (o p : Object) (x : DottedEntry) → x ≡ dotted_entry front (n, o) → o ≡ p → x ≡ dotted_entry front (n, p)
entry_so front n o p x e h = e ∙ ap (λ q. dotted_entry front (n, q)) h

-- ---- tables

abbrev pub text_under : BTreeMap (Bor (List ℕ)) (Bor (List ℕ)) → Name → Option Name
text_under t q = option_map (λ m. m.now) (under_name t q)

mapped_cond : (b : Bool) (x : Bor (List ℕ)) (o : Option (Bor (List ℕ))) → option_map (λ m. m.now) (cond b (Some x) o) ≡ cond b (Some x.now) (option_map (λ m. m.now) o)
mapped_cond true x o = refl
mapped_cond false x o = refl

pub entered : (old new : BTreeMap (Bor (List ℕ)) (Bor (List ℕ))) (name text : Bor (List ℕ))
    → tree.Updates (λ a b. slice_cmp nat_cmp a.now b.now) old new name (Some text) → (q : Name)
    → text_under new q ≡ cond (same_name name.now q) (Some text.now) (text_under old q)
entered old new name text u q =
    ap (option_map (λ m. m.now)) (btree_map_updates_str name.now old new (Some text) u q) ∙ mapped_cond (same_name name.now q) text (under_name old q)

pub table_turn : (xs : List Dotted) (i : ℕ) (d : Dotted) (now new whole : Option Name) (q : Name) → i < length xs
    → named_after now (map entry_in (drop i xs)) q ≡ whole → new ≡ cond (same_name (get_or xs i d).name.now q) (Some (string_bytes (get_or xs i d).text)) now
    → named_after new (map entry_in (drop (i + 1) xs)) q ≡ whole
table_turn xs i d now new whole q lt h e =
    ap (λ o. named_after o (map entry_in (drop (i + 1) xs)) q) e ∙ ap (λ ys. named_after now (map entry_in ys) q) (sym (drop_more xs i d lt)) ∙ h

name_or_so : (o : Option (Bor (List ℕ))) (n : Name) → name_or o n ≡ unwrap_or (option_map (λ m. m.now) o) n
name_or_so None n = refl
name_or_so (Some m) n = refl

pub table_so : (t : BTreeMap (Bor (List ℕ)) (Bor (List ℕ))) (es : List DottedEntry) → ((q : Name) → text_under t q ≡ named_after None es q)
    → (n : Name) → name_or (under_name t n) n ≡ named_in es n
table_so t es h n = name_or_so (under_name t n) n ∙ ap (λ o. unwrap_or o n) (h n)

-- ---- objects

pub objects_append : (ds es : List Declaration) → objects_of (ds ++ es) ≡ objects_of ds ++ objects_of es
objects_append [] es = refl
objects_append (d ∷ ds) es = ap (λ xs. (d.name.now, object_of d.object) ∷ xs) (objects_append ds es)
