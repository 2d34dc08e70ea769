-- Turns of loops: over names that get new names, and over names of which some are inputs.
use Rattle.std.proofs.Common.{◌≡◌, ◌∙◌, ℕ, zero, suc, ◌+◌, ◌<◌, ◌≤◌, Bool, true, false, cond, ◌⊎◌, inl, inr, refl, ap, sym, subst, List, [], ◌∷◌, ◌++◌, length, get_or, drop, take, map, Option, Some, None, option_map, Bor, arith}
use Rattle.std.specs.Prelude.{◌↔◌, slice_get, Contains, IsTrue}
use Rattle.std.specs.String.{string_bytes}
use Rattle.std.specs.Ordering.{nat_cmp}
use Rattle.std.specs.Cmp.Lexicographic.{slice_cmp}
use Rattle.std.specs.BTreeMap as tree
use Rattle.std.specs.BTreeMap.{BTreeMap}
use Rattle.std.proofs.lemmas.Bool.{false≢true}
use Rattle.std.proofs.lemmas.Map.Text.{btree_map_updates_str}
use Rattle.std.proofs.lemmas.List.{append-nil, append_assoc, map-append, take_more, take_all, drop_more, drop_all}
use Rattle.wb_values.specs.Value.{Name, same_name, entry_of}
use Rattle.verilog_trees.specs.Syntax as pure
use Rattle.verilog_meaning.specs.Settled.{port_directions}
use Rattle.verilog_designs.specs.Ports.{is_input}
use Rattle.verilog_unique.proofs.Options.{same_is, is_same}
use Rattle.verilog_unique.proofs.Descent.{IsAmong, among_either, contains_among, among_contains}
use Rattle.v_hier.specs.Tables.{under_name}
use Rattle.v_instances.specs.Texts.{texts}
use Rattle.v_places.proofs.Spots.{same_some}
use Rattle.v_renamed.specs.declared.names.Names.{Names}
use Rattle.v_renamed.specs.NewNames.{name_or, new_name}
use Rattle.v_flat.specs.declared.names.Dotted.{Dotted}
use Rattle.v_flat.specs.Items.{naming_at}
use Rattle.v_flat.specs.Views.{entry_in, namings}
use Rattle.map_uses.specs.Users.{IsMarked}
use Rattle.map_uses.specs.declared.names.NewText.{NewText}
use Rattle.map_uses.specs.Table.{name_where, inputs_of}
use Rattle.map_uses.specs.Texts.{old_names, AreNewTexts}

-- ---- new names

pub name_some : (ts : List Names) (k : ℕ) (t : Names) (n : Name) → slice_get ts k ≡ Some t → new_name t n ≡ naming_at (namings ts) k n
name_some [] k t n e = cc
name_some (u ∷ ts) zero t n e = ap (λ z. new_name z n) (sym (same_some u t e))
name_some (u ∷ ts) (suc k) t n e = name_some ts k t n e

pub name_none : (ts : List Names) (k : ℕ) (n : Name) → slice_get ts k ≡ None → n ≡ naming_at (namings ts) k n
name_none [] k n e = refl
name_none (u ∷ ts) zero n e = cc
name_none (u ∷ ts) (suc k) n e = name_none ts k n e

abbrev Place : Type 0
Place = ℕ × Bor (List ℕ)

abbrev place_at : Place → ℕ × Name
place_at x = (x.0, x.1.now)

pub led_some : (fs : List (Name → Name)) (n : Name) (r : Option Place) (l : Option (ℕ × Name)) (p : Place) → option_map place_at r ≡ l → r ≡ Some p
    → naming_at fs p.0 p.1.now ≡ name_where fs n l
led_some fs n r l p e g = ap (name_where fs n) (sym (ap (option_map place_at) g) ∙ e)

pub led_none : (fs : List (Name → Name)) (n : Name) (r : Option Place) (l : Option (ℕ × Name)) → option_map place_at r ≡ l → r ≡ None → n ≡ name_where fs n l
led_none fs n r l e g = ap (name_where fs n) (sym (ap (option_map place_at) g) ∙ e)

-- each of these names has its new name in the table
abbrev pub HasNewNames : (Name → Name) → List Name → BTreeMap (Bor (List ℕ)) (Bor (List ℕ)) → Type 0
HasNewNames new ns t = (n : Name) → Contains ns n → name_or (under_name t n) n ≡ new n

pub none_named : (new : Name → Name) (t : BTreeMap (Bor (List ℕ)) (Bor (List ℕ))) → HasNewNames new [] t
none_named new t n c = absurd (among_contains [] n c)

one_new : (new : Name → Name) (xs : List NewText) (i : ℕ) (d : NewText) → i < length xs → AreNewTexts new xs → string_bytes (get_or xs i d).text ≡ new (get_or xs i d).name.now
one_new new [] i d lt h = absurd (omega (arith, lt))
one_new new (x ∷ xs) zero d lt h = h.0
one_new new (x ∷ xs) (suc i) d lt h = one_new new xs i d (omega (arith, lt)) h.1

module _ (new : Name → Name) (xs : List NewText) (i : ℕ) (x d : NewText) (text : Bor (List ℕ)) (old t : BTreeMap (Bor (List ℕ)) (Bor (List ℕ))) (lt : i < length xs)
    (is : x ≡ get_or xs i d) (u : tree.Updates (λ a b. slice_cmp nat_cmp a.now b.now) old t x.name (Some text)) (said : text.now ≡ string_bytes x.text)
    (are : AreNewTexts new xs) (h : HasNewNames new (old_names (take i xs)) old) where
  new_text : text.now ≡ new x.name.now
  new_text = said ∙ subst (λ (y : NewText). string_bytes y.text ≡ new y.name.now) (sym is) (one_new new xs i d lt are)

  listed : old_names (take (i + 1) xs) ≡ old_names (take i xs) ++ x.name.now ∷ []
  listed = ap old_names (take_more xs i d lt ∙ ap (λ y. take i xs ++ y ∷ []) (sym is)) ∙ map-append (λ (y : NewText). y.name.now) (take i xs) (x ∷ [])

  before : (n : Name) → same_name x.name.now n ≡ false → IsAmong (old_names (take i xs)) n ⊎ IsAmong (x.name.now ∷ []) n → name_or (under_name old n) n ≡ new n
  before n e (inl a) = h n (contains_among (old_names (take i xs)) n a)
  before n e (inr (inl same)) = absurd (false≢true (sym e ∙ subst (λ k. same_name x.name.now k ≡ true) same (is_same x.name.now)))
  before n e (inr (inr a)) = absurd a

  pub named_more : HasNewNames new (old_names (take (i + 1) xs)) t
  named_more n c = ap (λ o. name_or o n) (btree_map_updates_str x.name.now old t (Some text) u n) ∙ by (same_name x.name.now n) refl where
    by : (b : Bool) → same_name x.name.now n ≡ b → name_or (cond b (Some text) (under_name old n)) n ≡ new n
    by true e = new_text ∙ ap new (same_is x.name.now n e)
    by false e = before n e (among_either (old_names (take i xs)) (x.name.now ∷ []) n (among_contains _ n (subst (λ ms. Contains ms n) listed c)))

-- the same, where the list is gone through under another name
pub named_more_of : (new : Name → Name) (xs ys : List NewText) → ys ≡ xs → (i : ℕ) (x d : NewText) (text : Bor (List ℕ)) (old t : BTreeMap (Bor (List ℕ)) (Bor (List ℕ)))
    → i < length ys → x ≡ get_or ys i d → tree.Updates (λ a b. slice_cmp nat_cmp a.now b.now) old t x.name (Some text) → text.now ≡ string_bytes x.text
    → AreNewTexts new xs → HasNewNames new (old_names (take i xs)) old → HasNewNames new (old_names (take (i + 1) xs)) t
named_more_of new xs ys e i x d text old t lt is u said are h =
    subst (λ zs. HasNewNames new (old_names (take (i + 1) zs)) t) e
    (named_more new ys i x d text old t lt is u said (subst (AreNewTexts new) (sym e) are) (subst (λ zs. HasNewNames new (old_names (take i zs)) old) (sym e) h))

pub all_named : (new : Name → Name) (xs : List NewText) (i : ℕ) (t : BTreeMap (Bor (List ℕ)) (Bor (List ℕ))) → length xs ≤ i → HasNewNames new (old_names (take i xs)) t
    → HasNewNames new (old_names xs) t
all_named new xs i t le h = subst (λ ys. HasNewNames new (old_names ys) t) (take_all i xs le) h

-- the texts are made of the names, one after the other
abbrev pub TextsSoFar : (Name → Name) → (all left : List (Bor (List ℕ))) → List NewText → Type 0
TextsSoFar new all left xs = (texts all ≡ old_names xs ++ texts left) × AreNewTexts new xs

new_more : (new : Name → Name) (xs : List NewText) (x : NewText) → AreNewTexts new xs → string_bytes x.text ≡ new x.name.now → AreNewTexts new (xs ++ x ∷ [])
new_more new [] x h e = (e, tt)
new_more new (y ∷ xs) x h e = (h.0, new_more new xs x h.1 e)

pub text_more : (new : Name → Name) (ns : List (Bor (List ℕ))) (i : ℕ) (d : Bor (List ℕ)) (xs ys : List NewText) (x : NewText) → i < length ns → ys ≡ xs ++ x ∷ []
    → x.name.now ≡ (get_or ns i d).now → string_bytes x.text ≡ new (get_or ns i d).now → TextsSoFar new ns (drop i ns) xs → TextsSoFar new ns (drop (i + 1) ns) ys
text_more new ns i d xs ys x lt added same said h = (
  h.0 ∙ (ap (λ ms. old_names xs ++ texts ms) (drop_more ns i d lt)
      ∙ (ap (λ m. old_names xs ++ m ∷ texts (drop (i + 1) ns)) (sym same)
      ∙ (sym (append_assoc (old_names xs) (x.name.now ∷ []) (texts (drop (i + 1) ns)))
      ∙ ap (λ ms. ms ++ texts (drop (i + 1) ns)) (sym (ap old_names added ∙ map-append (λ (y : NewText). y.name.now) xs (x ∷ [])))))),
  subst (AreNewTexts new) (sym added) (new_more new xs x h.1 (said ∙ ap new (sym same))),
)

pub no_texts : (new : Name → Name) (ns : List (Bor (List ℕ))) (xs : List NewText) → xs ≡ [] → TextsSoFar new ns ns xs
no_texts new ns xs e = subst (TextsSoFar new ns ns) (sym e) (refl, tt)

pub text_more_of : (new : Name → Name) (ns ms : List (Bor (List ℕ))) → ms ≡ ns → (i : ℕ) (d : Bor (List ℕ)) (xs ys : List NewText) (x : NewText) → i < length ms
    → ys ≡ xs ++ x ∷ [] → x.name.now ≡ (get_or ms i d).now → string_bytes x.text ≡ new (get_or ms i d).now → TextsSoFar new ns (drop i ns) xs
    → TextsSoFar new ns (drop (i + 1) ns) ys
text_more_of new ns ms e i d xs ys x lt added same said h =
    subst (λ ks. TextsSoFar new ks (drop (i + 1) ks) ys) e
    (text_more new ms i d xs ys x lt added same said (subst (λ ks. TextsSoFar new ks (drop i ks) xs) (sym e) h))

pub all_texts : (new : Name → Name) (ns : List (Bor (List ℕ))) (i : ℕ) (xs : List NewText) → length ns ≤ i → TextsSoFar new ns (drop i ns) xs → old_names xs ≡ texts ns
all_texts new ns i xs le h = sym (h.0 ∙ (ap (λ ms. old_names xs ++ texts ms) (drop_all i ns le) ∙ append-nil (old_names xs)))

-- ---- inputs

module _ (m : pure.Module) (ns : List Dotted) (i : ℕ) where
  module _ (x d : Dotted) (old : List (Bor (List ℕ))) (whole : List Name) (b : Bool) (lt : i < length ns) (is : x ≡ get_or ns i d)
      (told : b ≡ is_input (entry_of (port_directions m) x.name.now)) (h : whole ≡ texts old ++ inputs_of m (map entry_in (drop i ns))) where
    rest : List Name
    rest = inputs_of m (map entry_in (drop (i + 1) ns))

    here : whole ≡ texts old ++ cond b (x.name.now ∷ rest) rest
    unfolding rest
    here =
        h ∙ (ap (λ ys. texts old ++ inputs_of m (map entry_in ys)) (drop_more ns i d lt ∙ ap (λ y. y ∷ drop (i + 1) ns) (sym is))
        ∙ ap (λ c. texts old ++ cond c (x.name.now ∷ inputs_of m (map entry_in (drop (i + 1) ns))) (inputs_of m (map entry_in (drop (i + 1) ns)))) (sym told))

    pub input_more : (new : List (Bor (List ℕ))) → new ≡ old ++ x.name ∷ [] → b ≡ true → whole ≡ texts new ++ inputs_of m (map entry_in (drop (i + 1) ns))
    unfolding rest
    input_more new added e =
        here ∙ (ap (λ c. texts old ++ cond c (x.name.now ∷ rest) rest) e
        ∙ (sym (append_assoc (texts old) (x.name.now ∷ []) rest)
        ∙ ap (λ ys. ys ++ rest) (sym (ap texts added ∙ map-append (λ (y : Bor (List ℕ)). y.now) old (x.name ∷ [])))))

    pub input_less : b ≡ false → whole ≡ texts old ++ inputs_of m (map entry_in (drop (i + 1) ns))
    unfolding rest
    input_less e = here ∙ ap (λ c. texts old ++ cond c (x.name.now ∷ rest) rest) e

  pub all_inputs : (found : List (Bor (List ℕ))) (whole : List Name) → length ns ≤ i → whole ≡ texts found ++ inputs_of m (map entry_in (drop i ns)) → texts found ≡ whole
  all_inputs found whole le h = sym (h ∙ (ap (λ ys. texts found ++ inputs_of m (map entry_in ys)) (drop_all i ns le) ∙ append-nil (texts found)))

-- ---- flags

pub marked_some : (xs : List Bool) (k : ℕ) (b : Bool) → slice_get xs k ≡ Some b → IsTrue b ↔ IsMarked xs k
marked_some xs k b e = ((λ t. e ∙ ap Some t), (λ g. same_some b true (sym e ∙ g)))

pub marked_none : (xs : List Bool) (k : ℕ) → slice_get xs k ≡ None → IsTrue false ↔ IsMarked xs k
marked_none xs k e = ((λ t. absurd (false≢true t)), (λ g. let n : None ≡ Some true = sym e ∙ g in cc))
