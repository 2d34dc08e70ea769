-- Tables that are filled name after name.
use Rattle.std.proofs.Common.{◌≡◌, ◌∙◌, ℕ, suc, zero, ◌+◌, ◌<◌, ◌≤◌, refl, ap, sym, subst, Bool, true, false, cond, Bor, List, [], ◌∷◌, ◌++◌, length, drop, get_or, map, Some, None, append_assoc, append-nil, arith}
use Rattle.std.specs.Prelude.{◌||◌}
use Rattle.std.proofs.lemmas.Bool.{false≢true}
use Rattle.verilog_designs.specs.Names.{is_among}
use Rattle.verilog_unique.proofs.Options.{same_is, is_same}
use Rattle.std.proofs.lemmas.List.{drop_more, length-map}
use Rattle.wb_values.specs.Value.{Name, same_name, Sort, truth, word, Entries, entry_of, Valuation}
use Rattle.model_meaning.specs.Term.{val}
use Rattle.verilog_meaning.specs.Expression.{Object, Scope, object_width, is_memory}
use Rattle.verilog_meaning.specs.Register.{word_count}
use Rattle.wb_terms.specs.Graph.{Graph, tree, with_name}
use Rattle.v_operators.specs.Meaning.{Grows, IsOfSort, HasNumber}
use Rattle.v_operators.proofs.Growing.{Grows-trans, IsOfSort-kept, tree_kept}
use Rattle.v_lower.specs.Lowered.{Images, IsSortOf}
use Rattle.v_registers.specs.declared.registers.Register.{Register}
use Rattle.v_registers.specs.Registers.{counted_of}
use Rattle.v_elab.specs.Kept.{named_at}
use Rattle.v_elab.specs.Names.{AreEntriesOf, AreDistinct, ArePlain, AreMasksOf}
use Rattle.v_elab.specs.Elaborated.{register_names}
use Rattle.v_elab.specs.Tables.{kept, given, unset, Row, IsNamed, IsUnset, IsEntered, AreEntered, register_rows, input_rows}

-- whatever the rest of the rows gives, all of them give from the start on
abbrev pub EnteredSoFar : Scope → (all rest : List Row) → (a n : Images) → Graph → (c l : Images) → Graph → Type 0
EnteredSoFar s all rest a n g c l i = (b k : Images) (h : Graph) → AreEntered s rest c l i b k h → AreEntered s all a n g b k h

pub so_far_start : (s : Scope) (all : List Row) (a n : Images) (g : Graph) → EnteredSoFar s all all a n g a n g
so_far_start s all a n g = λ b k h x. x

pub so_far_turn : (s : Scope) (all : List Row) (r : Row) (rest : List Row) (a n : Images) (g : Graph) (c l : Images) (i : Graph) (d m : Images) (j : Graph)
    → EnteredSoFar s all (r ∷ rest) a n g c l i → IsEntered s r c l i d m j → EnteredSoFar s all rest a n g d m j
so_far_turn s all r rest a n g c l i d m j f e = λ b k h x. f b k h (d, m, j, e, x)

pub so_far_end : (s : Scope) (all rest : List Row) (a n : Images) (g : Graph) (c l : Images) (i : Graph) → rest ≡ [] → EnteredSoFar s all rest a n g c l i
    → AreEntered s all a n g c l i
so_far_end s all rest a n g c l i e f = f c l i (subst (λ rs. AreEntered s rs c l i c l i) (sym e) (refl, refl, refl))

-- ---- one name

pub same_named : (g h : Graph) (place : ℕ) → Grows g h → named_at h place ≡ named_at g place
same_named g h place e = ap (λ (ns : Entries Sort). named_at (record { names = ns; nodes = [] }) place) e.names

pub is_named : (o : Object) (g h k : Graph) (place id : ℕ) → Grows g h → Grows h k → IsSortOf o (named_at g place).1 → IsOfSort h id (named_at g place).1
    → ((p : Valuation) → val (tree h id) p ≡ p (named_at g place).0) → IsNamed o k place id
is_named o g h k place id gh hk sort of same =
    let names = same_named g k place (Grows-trans gh hk) in
    record {
      sort = (named_at g place).1;
      of_object = sort;
      is_sort = ap (λ (x : Name × Sort). x.1) names;
      of_sort = IsOfSort-kept id (named_at g place).1 hk of;
      same = λ p. ap (λ t. val t p) (tree_kept id hk of.below) ∙ same p ∙ ap (λ (x : Name × Sort). p x.0) (sym names);
    }

pub is_unset : (o : Object) (g : Graph) (w id : ℕ) → is_memory o ≡ false → w ≡ object_width o → IsOfSort g id (word w) → ((p : Valuation) → HasNumber g id w p 0) → IsUnset o g id
is_unset o g w id plain e sort none = record { plain = plain; of_sort = subst (λ z. IsOfSort g id (word z)) e sort; zero = λ p. (none p).value }

-- ---- at a place

pub entries_length : (s : Scope) (ns : List Name) (es : Entries Sort) → AreEntriesOf s ns es → length es ≡ length ns
entries_length s [] [] h = refl
entries_length s [] (e ∷ es) h = absurd h
entries_length s (n ∷ ns) [] h = absurd h
entries_length s (n ∷ ns) (e ∷ es) h = ap suc (entries_length s ns es h.2)

pub entry_at : (s : Scope) (xs : List (Bor Name)) (es : Entries Sort) (j : ℕ) (d : Bor Name) (r : Name × Sort) → AreEntriesOf s (map (λ n. n.now) xs) es → j < length xs
    → IsSortOf (s (get_or xs j d).now) (get_or es j r).1
entry_at s [] es j d r h l = absurd (omega (arith, l))
entry_at s (x ∷ xs) [] j d r h l = absurd h
entry_at s (x ∷ xs) (e ∷ es) zero d r h l = h.1
entry_at s (x ∷ xs) (e ∷ es) (suc j) d r h l = entry_at s xs es j d r h.2 (omega (arith, l))

pub register_entry : (s : Scope) (rs : List Register) (rest : List Name) (es : Entries Sort) (j : ℕ) (d : Register) (r : Name × Sort)
    → AreEntriesOf s (register_names (map counted_of rs) ++ rest) es → j < length rs → IsSortOf (s (get_or rs j d).name.now) (get_or es j r).1
register_entry s [] rest es j d r h l = absurd (omega (arith, l))
register_entry s (x ∷ xs) rest [] j d r h l = absurd h
register_entry s (x ∷ xs) rest (e ∷ es) zero d r h l = h.1
register_entry s (x ∷ xs) rest (e ∷ es) (suc j) d r h l = register_entry s xs rest es j d r h.2 (omega (arith, l))

pub more_entries : (s : Scope) (rs : List Register) (rest : List Name) (es : Entries Sort) → AreEntriesOf s (register_names (map counted_of rs) ++ rest) es → length rs ≤ length es
more_entries s [] rest es h = omega arith
more_entries s (x ∷ xs) rest [] h = absurd h
more_entries s (x ∷ xs) rest (e ∷ es) h = let r : length xs ≤ length es = more_entries s xs rest es h.2 in omega (arith, r)

pub masks_at : (s : Scope) (rs : List Register) (j : ℕ) (d : Register) → AreMasksOf s (map counted_of rs) → j < length rs
    → length (get_or rs j d).masks.items ≡ word_count (s (get_or rs j d).name.now)
masks_at s [] j d h l = absurd (omega (arith, l))
masks_at s (x ∷ xs) zero d h l = h.0
masks_at s (x ∷ xs) (suc j) d h l = masks_at s xs j d h.1 (omega (arith, l))

pub plain_at : (s : Scope) (xs : List (Bor Name)) (j : ℕ) (d : Bor Name) → ArePlain s (map (λ n. n.now) xs) → j < length xs → is_memory (s (get_or xs j d).now) ≡ false
plain_at s [] j d h l = absurd (omega (arith, l))
plain_at s (x ∷ xs) zero d h l = h.0
plain_at s (x ∷ xs) (suc j) d h l = plain_at s xs j d h.1 (omega (arith, l))

-- ---- turns

pub input_turn : (s : Scope) (all : List Row) (place : ℕ) (xs : List (Bor Name)) (d : Bor Name) (a n : Images) (g : Graph) (c l : Images) (i : Graph) (b m : Images) (j : Graph)
    → place < length xs → EnteredSoFar s all (input_rows place (map (λ k. k.now) (drop place xs))) a n g c l i
    → IsEntered s (record { of_name = (get_or xs place d).now; origin = given place; next_origin = unset }) c l i b m j
    → EnteredSoFar s all (input_rows (place + 1) (map (λ k. k.now) (drop (place + 1) xs))) a n g b m j
input_turn s all place xs d a n g c l i b m j within f e =
    subst (λ q. EnteredSoFar s all (input_rows q (map (λ k. k.now) (drop (place + 1) xs))) a n g b m j) (next place)
    (so_far_turn s all (record { of_name = (get_or xs place d).now; origin = given place; next_origin = unset })
    (input_rows (suc place) (map (λ k. k.now) (drop (place + 1) xs))) a n g c l i b m j
    (subst (λ ys. EnteredSoFar s all (input_rows place (map (λ k. k.now) ys)) a n g c l i) (drop_more xs place d within) f) e)
  where
    next : (q : ℕ) → suc q ≡ q + 1
    next q = omega arith

pub register_turn : (s : Scope) (place : ℕ) (rs : List Register) (d : Register) (a n : Images) (g : Graph) (c l : Images) (i : Graph) (b m : Images) (j : Graph) → place < length rs
    → EnteredSoFar s (register_rows 0 (map counted_of rs)) (register_rows place (map counted_of (drop place rs))) a n g c l i
    → IsEntered s (record { of_name = (get_or rs place d).name.now; origin = kept place (get_or rs place d).masks.items; next_origin = kept place (get_or rs place d).masks.items }) c l i b m j
    → EnteredSoFar s (register_rows 0 (map counted_of rs)) (register_rows (place + 1) (map counted_of (drop (place + 1) rs))) a n g b m j
register_turn s place rs d a n g c l i b m j within f e =
    subst (λ q. EnteredSoFar s (register_rows 0 (map counted_of rs)) (register_rows q (map counted_of (drop (place + 1) rs))) a n g b m j) (next place)
    (so_far_turn s (register_rows 0 (map counted_of rs))
    (record { of_name = (get_or rs place d).name.now; origin = kept place (get_or rs place d).masks.items; next_origin = kept place (get_or rs place d).masks.items })
    (register_rows (suc place) (map counted_of (drop (place + 1) rs))) a n g c l i b m j
    (subst (λ ys. EnteredSoFar s (register_rows 0 (map counted_of rs)) (register_rows place (map counted_of ys)) a n g c l i) (drop_more rs place d within) f) e)
  where
    next : (q : ℕ) → suc q ≡ q + 1
    next q = omega arith

-- ---- names that are declared

pub fresh_entry : (es : Entries Sort) (n m : Name) (t : Sort) → same_name n m ≡ false → entry_of es m ≡ None → entry_of (es ++ (n, t) ∷ []) m ≡ None
fresh_entry [] n m t e h = ap (λ b. cond b (Some t) None) e
fresh_entry (x ∷ es) n m t e h = by (same_name x.0 m) h (fresh_entry es n m t e)
  where
    by : (b : Bool) → cond b (Some x.1) (entry_of es m) ≡ None → (entry_of es m ≡ None → entry_of (es ++ (n, t) ∷ []) m ≡ None)
        → cond b (Some x.1) (entry_of (es ++ (n, t) ∷ []) m) ≡ None
    by true q f = q
    by false q f = f q

-- names that are left to declare: distinct, and not declared before
module _ (names : Entries Sort) (n : Name) (rest : List Name) (t : Sort) where
  pub first_fresh : ((m : Name) → is_among (n ∷ rest) m ≡ true → entry_of names m ≡ None) → entry_of names n ≡ None
  first_fresh f = f n (ap (λ b. b || is_among rest n) (is_same n))

  pub rest_fresh : is_among rest n ≡ false → ((m : Name) → is_among (n ∷ rest) m ≡ true → entry_of names m ≡ None)
      → (m : Name) → is_among rest m ≡ true → entry_of (names ++ (n, t) ∷ []) m ≡ None
  rest_fresh alone f m h = by (same_name n m) refl
    where
      both : (b : Bool) → is_among rest m ≡ true → (b || is_among rest m) ≡ true
      both true q = refl
      both false q = q

      by : (b : Bool) → same_name n m ≡ b → entry_of (names ++ (n, t) ∷ []) m ≡ None
      by true e = absurd (false≢true (sym alone ∙ ap (is_among rest) (same_is n m e) ∙ h))
      by false e = fresh_entry names n m t e (f m (both (same_name n m) h))

pub entries_turn : (s : Scope) (all : List Name) (n : Name) (rest : List Name) (names : Entries Sort) (t : Sort) → IsSortOf (s n) t
    → ((es : Entries Sort) → AreEntriesOf s (n ∷ rest) es → AreEntriesOf s all (names ++ es))
    → (es : Entries Sort) → AreEntriesOf s rest es → AreEntriesOf s all ((names ++ (n, t) ∷ []) ++ es)
entries_turn s all n rest names t h f es g =
    subst (AreEntriesOf s all) (sym (append_assoc names ((n, t) ∷ []) es)) (f ((n, t) ∷ es) (refl, h, g))

-- ---- stores that have grown

pub stored_below : (s : Scope) (xs : List (Bor Name)) (g h : Graph) (j : ℕ) → AreEntriesOf s (map (λ n. n.now) xs) g.names → Grows g h → j < length xs → j < length h.names
stored_below s xs g h j e grows l =
    subst (λ k. j < k)
    (sym (ap length grows.names ∙ entries_length s (map (λ n. n.now) xs) g.names e ∙ length-map xs (λ n. n.now))) l

pub entry_now : (s : Scope) (xs : List (Bor Name)) (g h : Graph) (j : ℕ) (d : Bor Name) → AreEntriesOf s (map (λ n. n.now) xs) g.names → Grows g h → j < length xs
    → IsSortOf (s (get_or xs j d).now) (named_at h j).1
entry_now s xs g h j d e grows l =
    subst (λ (x : Name × Sort). IsSortOf (s (get_or xs j d).now) x.1) (sym (same_named g h j grows)) (entry_at s xs g.names j d ([], truth) e l)

pub plain_now : (s : Scope) (xs : List (Bor Name)) (j : ℕ) (d : Bor Name) → j < length xs → ArePlain s (map (λ n. n.now) (drop j xs))
    → (is_memory (s (get_or xs j d).now) ≡ false) × ArePlain s (map (λ n. n.now) (drop (j + 1) xs))
plain_now s xs j d l h = subst (λ ys. ArePlain s (map (λ n. n.now) ys)) (drop_more xs j d l) h

pub register_below : (s : Scope) (rs : List Register) (rest : List Name) (g h : Graph) (j : ℕ) → AreEntriesOf s (register_names (map counted_of rs) ++ rest) g.names → Grows g h → j < length rs
    → j < length h.names
register_below s rs rest g h j e grows l =
    let m : length rs ≤ length g.names = more_entries s rs rest g.names e in
    subst (λ k. j < k) (sym (ap length grows.names)) (omega (arith, l, m))

pub register_now : (s : Scope) (rs : List Register) (rest : List Name) (g h : Graph) (j : ℕ) (d : Register) → AreEntriesOf s (register_names (map counted_of rs) ++ rest) g.names → Grows g h
    → j < length rs → IsSortOf (s (get_or rs j d).name.now) (named_at h j).1
register_now s rs rest g h j d e grows l =
    subst (λ (x : Name × Sort). IsSortOf (s (get_or rs j d).name.now) x.1) (sym (same_named g h j grows)) (register_entry s rs rest g.names j d ([], truth) e l)

pub plain_rest : (s : Scope) (xs : List (Bor Name)) (j : ℕ) → j < length xs → ArePlain s (map (λ n. n.now) (drop j xs)) → ArePlain s (map (λ n. n.now) (drop (j + 1) xs))
plain_rest s xs j l h = (plain_now s xs j (record { ref_ptr = (0, 0); now = [] }) l h).1

-- ---- a store that gets names

-- Whatever entries the rest of the names have, all have them after those so far; and the rest are distinct, and not among those so far.
pub record IsStoring (s : Scope) (all rest : List Name) (names : Entries Sort) : Type 0 where
  pub entries : (es : Entries Sort) → AreEntriesOf s rest es → AreEntriesOf s all (names ++ es)
  pub distinct : AreDistinct rest
  pub fresh : (n : Name) → is_among rest n ≡ true → entry_of names n ≡ None

pub storing_start : (s : Scope) (all : List Name) (names : Entries Sort) → names ≡ [] → AreDistinct all → IsStoring s all all names
storing_start s all names e h =
    subst (IsStoring s all all) (sym e) (record { entries = λ es g. g; distinct = h; fresh = λ n g. refl })

pub storing_fresh : (s : Scope) (all : List Name) (xs : List (Bor Name)) (i : ℕ) (d : Bor Name) (names : Entries Sort) → i < length xs
    → IsStoring s all (map (λ n. n.now) (drop i xs)) names → entry_of names (get_or xs i d).now ≡ None
storing_fresh s all xs i d names l h =
    first_fresh names (get_or xs i d).now (map (λ n. n.now) (drop (i + 1) xs)) truth
    (subst (λ ys. (n : Name) → is_among (map (λ k. k.now) ys) n ≡ true → entry_of names n ≡ None) (drop_more xs i d l) h.fresh)

pub storing_turn : (s : Scope) (all : List Name) (xs : List (Bor Name)) (i : ℕ) (d : Bor Name) (g h : Graph) (t : Sort) → i < length xs → IsSortOf (s (get_or xs i d).now) t
    → h ≡ with_name g (get_or xs i d).now t → IsStoring s all (map (λ n. n.now) (drop i xs)) g.names → IsStoring s all (map (λ n. n.now) (drop (i + 1) xs)) h.names
storing_turn s all xs i d g h t l sort e k =
    let n : Name = (get_or xs i d).now in
    let rest : List Name = map (λ m. m.now) (drop (i + 1) xs) in
    let old : IsStoring s all (n ∷ rest) g.names = subst (λ ys. IsStoring s all (map (λ m. m.now) ys) g.names) (drop_more xs i d l) k in
    subst (IsStoring s all rest) (sym (ap (λ (z : Graph). z.names) e))
    (record {
      entries = entries_turn s all n rest g.names t sort old.entries;
      distinct = old.distinct.1;
      fresh = rest_fresh g.names n rest t old.distinct.0 old.fresh;
    })

pub storing_end : (s : Scope) (all rest : List Name) (names : Entries Sort) → rest ≡ [] → IsStoring s all rest names → AreEntriesOf s all names
storing_end s all rest names e h = subst (AreEntriesOf s all) (append-nil names) (h.entries [] (subst (λ ns. AreEntriesOf s ns []) (sym e) tt))
