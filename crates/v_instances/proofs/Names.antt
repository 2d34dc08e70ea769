-- Names that are put into lists, sets and tables, one after the other.
use Rattle.std.proofs.Common.{◌≡◌, ◌∙◌, refl, ap, sym, subst, ℕ, suc, ◌+◌, ◌<◌, Bool, true, false, cond, ◌||◌, List, [], ◌∷◌, ◌++◌, append_assoc, length, drop, get_or, map, Bor, Option, Some, None, option_map, add-one, drop-cons}
use Rattle.std.specs.Prelude.{is_some}
use Rattle.std.specs.Ordering.{nat_cmp}
use Rattle.std.specs.Cmp.Lexicographic.{slice_cmp}
use Rattle.std.specs.BTreeMap as tree
use Rattle.std.specs.BTreeMap.{BTreeMap, is_at}
use Rattle.std.specs.Map.{lookup}
use Rattle.std.specs.BTreeSet as sorted
use Rattle.std.specs.BTreeSet.{BTreeSet}
use Rattle.std.proofs.lemmas.Slice.Eq.{bytes_eq-Decides}
use Rattle.std.proofs.lemmas.Map.Text.{is_eq-slice_cmp, btree_map_updates_str}
use Rattle.wb_values.specs.Value.{Name, same_name, Entries, entry_of}
use Rattle.wb_values.specs.Choice.{first_of, some_if}
use Rattle.verilog_trees.specs.Syntax as pure
use Rattle.verilog_trees.specs.Syntax.{ParameterDeclaration, Item, port, parameter, wires, variables, assign, always, instances}
use Rattle.verilog_meaning.specs.Hierarchy.{body_parameters, overridable}
use Rattle.verilog_meaning.specs.Settled.{named_ports, item_ports, names_of}
use Rattle.verilog_designs.specs.Names.{is_among}
use Rattle.v_syntax.specs.declared.module.Direction.{Direction}
use Rattle.v_syntax.specs.Source.{direction_of}
use Rattle.v_hier.specs.Tables.{under_name, has_name}
use Rattle.v_instances.specs.Texts.{texts}
use Rattle.v_instances.specs.Interface.{direction_in, own_ports, own_parameters, item_parameters}

-- ---- the item of a turn

pub texts_drop : (ns : List (Bor (List ℕ))) (i : ℕ) (d : Bor (List ℕ)) → i < length ns → texts (drop i ns) ≡ (get_or ns i d).now ∷ texts (drop (i + 1) ns)
texts_drop ns i d h = rw (add-one, drop-cons ns i d h) refl

pub item_drop : {X Y : Type 0} (f : X → Y) (xs : List X) (i : ℕ) (x : X) → i < length xs → x ≡ get_or xs i x → map f (drop i xs) ≡ f x ∷ map f (drop (i + 1) xs)
item_drop f xs i x h is = rw (add-one, drop-cons xs i x h) (ap (λ z. f z ∷ map f (drop (suc i) xs)) (sym is))

-- ---- lists

-- what an item gives is put behind what was before
pub order_turn : {X Y : Type 0} (f : X → Y) (of_one : Y → List Name) (of_all : List Y → List Name)
    → ((y : Y) (ys : List Y) → of_all (y ∷ ys) ≡ of_one y ++ of_all ys)
    → (xs : List X) (i : ℕ) (x : X) (before after whole : List Name) → i < length xs → x ≡ get_or xs i x
    → after ≡ before ++ of_one (f x) → whole ≡ before ++ of_all (map f (drop i xs)) → whole ≡ after ++ of_all (map f (drop (i + 1) xs))
order_turn f of_one of_all step xs i x before after whole h is added e =
    e ∙ ap (λ ys. before ++ of_all ys) (item_drop f xs i x h is)
    ∙ ap (λ ns. before ++ ns) (step (f x) (map f (drop (i + 1) xs)))
    ∙ sym (append_assoc before (of_one (f x)) (of_all (map f (drop (i + 1) xs))))
    ∙ ap (λ ns. ns ++ of_all (map f (drop (i + 1) xs))) (sym added)

pub names_then : (w : pure.Direction) (ns : List Name) (es : Entries pure.Direction) → names_of (named_ports w ns ++ es) ≡ ns ++ names_of es
names_then w [] es = refl
names_then w (n ∷ ns) es = ap (λ xs. n ∷ xs) (names_then w ns es)

pub body_then : (i : Item) (items : List Item) → overridable (body_parameters (i ∷ items)) ≡ item_parameters i ++ overridable (body_parameters items)
body_then (port d) items = refl
body_then (parameter d) items = refl
body_then (wires signed r ws) items = refl
body_then (variables signed r vs) items = refl
body_then (assign ts) items = refl
body_then (always es x) items = refl
body_then (instances m given is) items = refl

pub overridable_both : (ds es : List ParameterDeclaration) → overridable (ds ++ es) ≡ overridable ds ++ overridable es
overridable_both [] es = refl
overridable_both (d ∷ ds) es = ap (λ ns. own_parameters d ++ ns) (overridable_both ds es) ∙ sym (append_assoc (own_parameters d) (overridable ds) (overridable es))

-- ---- a set

moved : (e h r : Bool) → (cond e true h || r) ≡ (h || (e || r))
moved true true r = refl
moved true false r = refl
moved false h r = refl

pub has_more : (s n : BTreeSet (Bor (List ℕ))) (k : Bor (List ℕ)) → sorted.Updates (λ x y. slice_cmp nat_cmp x.now y.now) s n k true → (q : Name)
    → has_name n q ≡ cond (same_name k.now q) true (has_name s q)
has_more s n k u q =
    let at_q : Bor (List ℕ) = record { ref_ptr = (0, 0); now = q } in
    u.0 at_q ∙ ap (λ b. cond b true (has_name s q)) (is_eq-slice_cmp k.now q)

pub set_turn : (ns : List (Bor (List ℕ))) (i : ℕ) (d : Bor (List ℕ)) (s n : BTreeSet (Bor (List ℕ))) (t : Bool) (q : Name) → i < length ns
    → sorted.Updates (λ x y. slice_cmp nat_cmp x.now y.now) s n (get_or ns i d) true
    → (has_name s q || is_among (texts (drop i ns)) q) ≡ t → (has_name n q || is_among (texts (drop (i + 1) ns)) q) ≡ t
set_turn ns i d s n t q h u e =
    let rest : List Name = texts (drop (i + 1) ns) in
    ap (λ b. b || is_among rest q) (has_more s n (get_or ns i d) u q)
    ∙ moved (same_name (get_or ns i d).now q) (has_name s q) (is_among rest q)
    ∙ ap (λ xs. has_name s q || is_among xs q) (sym (texts_drop ns i d h))
    ∙ e

-- ---- a table of directions

first_assoc : {A : Type 0} (a b c : Option A) → first_of (first_of a b) c ≡ first_of a (first_of b c)
first_assoc None b c = refl
first_assoc (Some x) b c = refl

first_if : {A : Type 0} (b : Bool) (x : A) (r : Option A) → first_of (some_if b x) r ≡ cond b (Some x) r
first_if true x r = refl
first_if false x r = refl

pub first_none : {A : Type 0} (x : Option A) → first_of x None ≡ x
first_none None = refl
first_none (Some x) = refl

pub entry_both : {A : Type 0} (xs ys : Entries A) (q : Name) → entry_of (xs ++ ys) q ≡ first_of (entry_of xs q) (entry_of ys q)
entry_both [] ys q = refl
entry_both (x ∷ xs) ys q = (elim (same_name x.0 q) as (λ b. cond b (Some x.1) (entry_of (xs ++ ys) q) ≡ first_of (cond b (Some x.1) (entry_of xs q)) (entry_of ys q)) [
  | true ↦ refl
  | false ↦ entry_both xs ys q
])

-- a direction is put under a name that has none
no_value : {A : Type 0} (x : Option A) → is_some x ≡ false → x ≡ None
no_value None e = refl
no_value (Some x) e = cc

pub first_added : (old new : BTreeMap (Bor (List ℕ)) Direction) (k : Bor (List ℕ)) (v : Direction)
    → tree.Updates (λ x y. slice_cmp nat_cmp x.now y.now) old new k (Some v) → is_some (under_name old k.now) ≡ false → (q : Name)
    → direction_in new q ≡ first_of (direction_in old q) (some_if (same_name k.now q) (direction_of v))
first_added old new k v u absent q =
    ap (option_map direction_of) (btree_map_updates_str k.now old new (Some v) u q)
    ∙ (elim (same_name k.now q) as (λ b. same_name k.now q ≡ b → option_map direction_of (cond b (Some v) (under_name old q)) ≡ first_of (direction_in old q) (some_if b (direction_of v))) [
      | true ↦ λ e. subst (λ n. Some (direction_of v) ≡ first_of (direction_in old n) (Some (direction_of v))) ((bytes_eq-Decides k.now q).0 e)
          (ap (λ o. first_of (option_map direction_of o) (Some (direction_of v))) (sym (no_value (under_name old k.now) absent)))
      | false ↦ λ e. sym (first_none (direction_in old q))
    ]) refl

has_value : {A : Type 0} (a b : Option A) → is_some a ≡ true → a ≡ first_of a b
has_value None b h = cc
has_value (Some x) b h = refl

mapped_some : {A B : Type 0} (f : A → B) (x : Option A) → is_some x ≡ true → is_some (option_map f x) ≡ true
mapped_some f None h = cc
mapped_some f (Some x) h = refl

-- a name that has one keeps it
pub first_kept : (old : BTreeMap (Bor (List ℕ)) Direction) (k : Name) (v : Direction) → is_some (under_name old k) ≡ true → (q : Name)
    → direction_in old q ≡ first_of (direction_in old q) (some_if (same_name k q) (direction_of v))
first_kept old k v there q =
    (elim (same_name k q) as (λ b. same_name k q ≡ b → direction_in old q ≡ first_of (direction_in old q) (some_if b (direction_of v))) [
      | true ↦ λ e. subst (λ n. direction_in old n ≡ first_of (direction_in old n) (Some (direction_of v))) ((bytes_eq-Decides k q).0 e)
          (has_value (direction_in old k) (Some (direction_of v)) (mapped_some direction_of (under_name old k) there))
      | false ↦ λ e. sym (first_none (direction_in old q))
    ]) refl

pub named_turn : (ns : List (Bor (List ℕ))) (i : ℕ) (d : Bor (List ℕ)) (w : pure.Direction) (q : Name) (now new all : Option pure.Direction) → i < length ns
    → new ≡ first_of now (some_if (same_name (get_or ns i d).now q) w)
    → first_of now (entry_of (named_ports w (texts (drop i ns))) q) ≡ all → first_of new (entry_of (named_ports w (texts (drop (i + 1) ns))) q) ≡ all
named_turn ns i d w q now new all h is e =
    let rest : Option pure.Direction = entry_of (named_ports w (texts (drop (i + 1) ns))) q in
    let b : Bool = same_name (get_or ns i d).now q in
    ap (λ x. first_of x rest) is
    ∙ first_assoc now (some_if b w) rest
    ∙ ap (first_of now) (first_if b w rest)
    ∙ ap (λ xs. first_of now (entry_of (named_ports w xs) q)) (sym (texts_drop ns i d h))
    ∙ e

-- what an item gives is put where nothing was before
pub table_turn : {X Y : Type 0} (f : X → Y) (of_one : Y → Entries pure.Direction) (of_all : List Y → Entries pure.Direction)
    → ((y : Y) (ys : List Y) → of_all (y ∷ ys) ≡ of_one y ++ of_all ys)
    → (xs : List X) (i : ℕ) (x : X) (q : Name) (now new all : Option pure.Direction) → i < length xs → x ≡ get_or xs i x
    → new ≡ first_of now (entry_of (of_one (f x)) q)
    → first_of now (entry_of (of_all (map f (drop i xs))) q) ≡ all → first_of new (entry_of (of_all (map f (drop (i + 1) xs))) q) ≡ all
table_turn f of_one of_all step xs i x q now new all h is added e =
    let rest : Entries pure.Direction = of_all (map f (drop (i + 1) xs)) in
    ap (λ z. first_of z (entry_of rest q)) added
    ∙ first_assoc now (entry_of (of_one (f x)) q) (entry_of rest q)
    ∙ ap (first_of now) (sym (entry_both (of_one (f x)) rest q))
    ∙ ap (λ es. first_of now (entry_of es q)) (sym (step (f x) (map f (drop (i + 1) xs))))
    ∙ ap (λ ys. first_of now (entry_of (of_all ys) q)) (sym (item_drop f xs i x h is))
    ∙ e

pub items_then : (i : Item) (items : List Item) → item_ports (i ∷ items) ≡ own_ports i ++ item_ports items
items_then (port d) items = refl
items_then (parameter d) items = refl
items_then (wires signed r ws) items = refl
items_then (variables signed r vs) items = refl
items_then (assign ts) items = refl
items_then (always es x) items = refl
items_then (instances m given is) items = refl

-- the ports of the header, and those of the items behind them
pub whole_table : (t : BTreeMap (Bor (List ℕ)) Direction) (hs is : Entries pure.Direction) (q : Name) (x : Option pure.Direction) → t.entries ≡ []
    → x ≡ first_of (direction_in t q) (entry_of hs q) → first_of x (entry_of is q) ≡ entry_of (hs ++ is) q
whole_table t hs is q x empty h =
    ap (λ z. first_of z (entry_of is q)) (h ∙ ap (λ z. first_of z (entry_of hs q)) (nothing_under t q empty)) ∙ sym (entry_both hs is q)
  where
    nothing_under : (t : BTreeMap (Bor (List ℕ)) Direction) (q : Name) → t.entries ≡ [] → direction_in t q ≡ None
    nothing_under t q e = ap (λ es. option_map direction_of (lookup (is_at (λ k. slice_cmp nat_cmp q k.now)) es)) e

-- ---- a push

texts_more : (xs : List (Bor (List ℕ))) (k : Bor (List ℕ)) → texts (xs ++ k ∷ []) ≡ texts xs ++ k.now ∷ []
texts_more [] k = refl
texts_more (x ∷ xs) k = ap (λ ns. x.now ∷ ns) (texts_more xs k)

pub texts_pushed : (xs ys : List (Bor (List ℕ))) (k : Bor (List ℕ)) → ys ≡ xs ++ k ∷ [] → texts ys ≡ texts xs ++ k.now ∷ []
texts_pushed xs ys k e = ap texts e ∙ texts_more xs k
