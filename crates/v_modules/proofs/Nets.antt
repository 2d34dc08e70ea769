-- Declared names that are no parameters, one after the other; the names of parameters, one after the other.
use Rattle.std.proofs.Common.{◌≡◌, ◌∙◌, refl, ap, sym, ℕ, suc, ◌+◌, ◌<◌, ◌≤◌, Bool, true, false, cond, ◌||◌, List, [], ◌∷◌, ◌++◌, append_assoc, append-nil, length, drop, get_or, map, Bor, add-one, drop-cons}
use Rattle.std.specs.Ordering.{nat_cmp}
use Rattle.std.specs.Cmp.Lexicographic.{slice_cmp}
use Rattle.std.specs.List.{list_any}
use Rattle.std.specs.BTreeMap.{is_at}
use Rattle.std.specs.BTreeSet as sorted
use Rattle.std.specs.BTreeSet.{BTreeSet}
use Rattle.std.proofs.lemmas.List.{drop_all}
use Rattle.std.proofs.lemmas.Map.Text.{is_eq-slice_cmp}
use Rattle.wb_values.specs.Value.{Name, same_name, Entries}
use Rattle.verilog_trees.specs.Syntax.{ParameterDeclaration, Item, port, parameter, wires, variables, assign, always, instances}
use Rattle.verilog_meaning.specs.Expression.{Object, Scope}
use Rattle.verilog_meaning.specs.Hierarchy.{body_parameters, value_names}
use Rattle.verilog_designs.specs.Names.{is_among, parameter_names}
use Rattle.v_hier.specs.Tables.{has_name}
use Rattle.v_value.specs.declared.scope.Declaration.{Declaration}
use Rattle.v_value.specs.Scope.{object_of, objects_of}
use Rattle.v_scopes.specs.declared.row.Declared.{Declared}
use Rattle.v_scopes.specs.Rows.{rows_of}
use Rattle.v_scopes.proofs.Joined.{rows_drop}
use Rattle.v_modules.specs.Combined.{narrowed, as_net, nets_by}
use Rattle.v_modules.specs.Parameters.{own_names}

-- ---- nets

objects-append : (ds es : List Declaration) → objects_of (ds ++ es) ≡ objects_of ds ++ objects_of es
objects-append [] es = refl
objects-append (d ∷ ds) es = ap (λ xs. (d.name.now, object_of d.object) ∷ xs) (objects-append ds es)

-- constants behind what was before
pub constants-added : (before new cs : List Declaration) → new ≡ before ++ cs → objects_of new ≡ objects_of before ++ objects_of cs
constants-added before new cs e = ap objects_of e ∙ objects-append before cs

module _ (p : Name → Bool) (s : Scope) (ds : List Declared) (i : ℕ) (d : Declared) (now : List Declaration) (whole : Entries Object) (h : i < length ds)
    (b : Bool) (is_b : b ≡ p (get_or ds i d).name.now) (so : objects_of now ++ nets_by p s (rows_of (drop i ds)) ≡ whole) where
  abbrev rest : Entries Object
  rest = nets_by p s (rows_of (drop (i + 1) ds))

  abbrev entry : Name × Object
  entry = ((get_or ds i d).name.now, as_net (narrowed (s (get_or ds i d).name.now)))

  split-here : objects_of now ++ cond b rest (entry ∷ rest) ≡ whole
  split-here = (λ j. objects_of now ++ cond (is_b j) rest (entry ∷ rest)) ∙ ap (λ rs. objects_of now ++ nets_by p s rs) (sym (rows_drop ds i d h)) ∙ so

  -- a parameter is passed over
  pub parameter-turn : b ≡ true → objects_of now ++ rest ≡ whole
  parameter-turn e = (λ j. objects_of now ++ cond (sym e j) rest (entry ∷ rest)) ∙ split-here

  -- another name is put behind those before
  pub net-turn : (new : List Declaration) (x : Declaration) → b ≡ false → new ≡ now ++ x ∷ [] → x.name.now ≡ (get_or ds i d).name.now
      → object_of x.object ≡ as_net (narrowed (s (get_or ds i d).name.now)) → objects_of new ++ rest ≡ whole
  net-turn new x e pushed n o =
      ap (λ xs. xs ++ rest) (constants-added now new (x ∷ []) pushed)
      ∙ append_assoc (objects_of now) ((x.name.now, object_of x.object) ∷ []) rest
      ∙ (λ j. objects_of now ++ (n j, o j) ∷ rest)
      ∙ (λ j. objects_of now ++ cond (sym e j) rest (entry ∷ rest)) ∙ split-here

pub nets-end : (p : Name → Bool) (s : Scope) (ds : List Declared) (i : ℕ) (now : List Declaration) (whole : Entries Object) → length ds ≤ i
    → objects_of now ++ nets_by p s (rows_of (drop i ds)) ≡ whole → objects_of now ≡ whole
nets-end p s ds i now whole h e = sym (append-nil (objects_of now)) ∙ ap (λ xs. objects_of now ++ nets_by p s (rows_of xs)) (sym (drop_all i ds h)) ∙ e

-- ---- names of parameters

or-none : (a : Bool) → a || false ≡ a
or-none true = refl
or-none false = refl

or-assoc : (a b c : Bool) → (a || b) || c ≡ a || (b || c)
or-assoc true b c = refl
or-assoc false b c = refl

pub nothing-more : (a : Bool) → a ≡ (a || false)
nothing-more a = sym (or-none a)

among-both : (ns ms : List Name) (q : Name) → is_among (ns ++ ms) q ≡ is_among ns q || is_among ms q
among-both [] ms q = refl
among-both (n ∷ ns) ms q = ap (λ b. same_name n q || b) (among-both ns ms q) ∙ sym (or-assoc (same_name n q) (is_among ns q) (is_among ms q))

pub none-yet : (s : BTreeSet (Bor (List ℕ))) → s.keys ≡ [] → (q : Name) → has_name s q ≡ false
none-yet s e q = ap (λ (ks : List (Bor (List ℕ))). list_any (is_at (λ k. slice_cmp nat_cmp q k.now)) ks) e

pub name-added : (s n : BTreeSet (Bor (List ℕ))) (k : Bor (List ℕ)) → sorted.Updates (λ x y. slice_cmp nat_cmp x.now y.now) s n k true → (q : Name)
    → has_name n q ≡ (has_name s q || is_among (k.now ∷ []) q)
name-added s n k u q =
    let at_q : Bor (List ℕ) = record { ref_ptr = (0, 0); now = q } in
    u.0 at_q ∙ ap (λ b. cond b true (has_name s q)) (is_eq-slice_cmp k.now q) ∙ turned (same_name k.now q) (has_name s q)
  where
    turned : (e h : Bool) → cond e true h ≡ (h || (e || false))
    turned true true = refl
    turned true false = refl
    turned false true = refl
    turned false false = refl

item-drop : {X Y : Type 0} (f : X → Y) (xs : List X) (i : ℕ) (x : X) → i < length xs → x ≡ get_or xs i x → map f (drop i xs) ≡ f x ∷ map f (drop (i + 1) xs)
item-drop f xs i x h is = rw (add-one, drop-cons xs i x h) (ap (λ z. f z ∷ map f (drop (suc i) xs)) (sym is))

-- the names that an item gives are met after those before
pub names-turn : {X Y : Type 0} (f : X → Y) (of_one : Y → List Name) (of_all : List Y → List Name)
    → ((y : Y) (ys : List Y) → of_all (y ∷ ys) ≡ of_one y ++ of_all ys)
    → (xs : List X) (i : ℕ) (x : X) (before after whole : Bool) (q : Name) → i < length xs → x ≡ get_or xs i x
    → after ≡ (before || is_among (of_one (f x)) q) → (before || is_among (of_all (map f (drop i xs))) q) ≡ whole
    → (after || is_among (of_all (map f (drop (i + 1) xs))) q) ≡ whole
names-turn f of_one of_all step xs i x before after whole q h is added e =
    let rest = map f (drop (i + 1) xs) in
    ap (λ b. b || is_among (of_all rest) q) added
    ∙ or-assoc before (is_among (of_one (f x)) q) (is_among (of_all rest) q)
    ∙ ap (λ b. before || b) (sym (among-both (of_one (f x)) (of_all rest) q) ∙ ap (λ ns. is_among ns q) (sym (step (f x) rest) ∙ ap of_all (sym (item-drop f xs i x h is))))
    ∙ e

pub body-then : (i : Item) (items : List Item) → parameter_names (body_parameters (i ∷ items)) ≡ own_names i ++ parameter_names (body_parameters items)
body-then (port d) items = refl
body-then (parameter d) items = refl
body-then (wires signed r ws) items = refl
body-then (variables signed r vs) items = refl
body-then (assign ts) items = refl
body-then (always es x) items = refl
body-then (instances m given is) items = refl

names-both : (ds es : List ParameterDeclaration) → parameter_names (ds ++ es) ≡ parameter_names ds ++ parameter_names es
names-both [] es = refl
names-both (d ∷ ds) es = ap (λ ns. value_names d.values ++ ns) (names-both ds es) ∙ sym (append_assoc (value_names d.values) (parameter_names ds) (parameter_names es))

-- the names of the header, and those of the body after them
pub all-names : (ds es : List ParameterDeclaration) (q : Name) (a b c : Bool) → a ≡ false → b ≡ (a || is_among (parameter_names ds) q)
    → c ≡ (b || is_among (parameter_names es) q) → c ≡ is_among (parameter_names (ds ++ es)) q
all-names ds es q a b c none header body =
    body ∙ ap (λ z. z || is_among (parameter_names es) q) (header ∙ ap (λ z. z || is_among (parameter_names ds) q) none)
    ∙ sym (ap (λ ns. is_among ns q) (names-both ds es) ∙ among-both (parameter_names ds) (parameter_names es) q)
