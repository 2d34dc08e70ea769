-- Items of a case: their common width and sign, and the values that the constant ones have.
use Rattle.std.proofs.Common.{◌≡◌, ◌∙◌, refl, ap, sym, subst, ℕ, zero, suc, ◌+◌, ◌*◌, ◌%◌, ◌^◌, ◌<◌, ◌≤◌, max, arith, inl, inr, Bool, true, false, cond, List, [], ◌∷◌}
use Rattle.std.specs.Prelude.{◌&&◌, ◌||◌, ◌==◌, ◌⊎◌, nat_le}
use Rattle.std.specs.Ordering.{nat_cmp}
use Rattle.std.specs.BTreeMap.{is_at}
use Rattle.std.specs.BTreeSet as sorted
use Rattle.std.specs.BTreeSet.{BTreeSet}
use Rattle.std.specs.List.{list_any}
use Rattle.std.proofs.Math.Pow.{pow_mono}
use Rattle.std.proofs.lemmas.Bool.{lt-leb, le-leb, cases_eq}
use Rattle.std.proofs.lemmas.Bool.Decides.{nat_tests}
use Rattle.verilog_trees.specs.Syntax as pure
use Rattle.verilog_meaning.specs.Expression.{Scope, width_of, value_of, no_values}
use Rattle.verilog_meaning.specs.Statement.{items_width, items_signed}
use Rattle.verilog_designs.specs.Reads.{has_default, one_is, items_have, items_have_all, is_full}
use Rattle.v_syntax.specs.declared.tree.Expression.{Expression}
use Rattle.v_syntax.specs.declared.tree.CaseItem.{CaseItem, Values, Default}
use Rattle.v_syntax.specs.declared.tree.CaseKind.{CaseKind as CodeKind}
use Rattle.v_syntax.specs.declared.tree.CaseKind.TheVariants.{Exact, Wild}
use Rattle.v_syntax.specs.Tree.{tree_of, expressions_of, case_kind_of}
use Rattle.v_statement.specs.Effects.{item_list}
use Rattle.v_flow.specs.Flow.{constant_at}
use Rattle.v_flow.proofs.Sets.{or_assoc, or_false}
use Rattle.v_flow.proofs.Constants.{and_true, and_false, and_assoc}
use Rattle.v_paths.specs.Cases.{full_at, case_width, case_signed, values_at, label_is, one_label_is, one_item_has, label_width, label_signed, has_number, all_below}

-- ---- the common width and sign

pub width-turn : (whole w l rest new ws : ℕ) → whole ≡ max w ws → ws ≡ max l rest → new ≡ max w l → whole ≡ max new rest
width-turn whole w l rest new ws e f g = omega (arith, e, f, g)

pub signed-turn : (whole c l rest new cs : Bool) → whole ≡ (c && cs) → cs ≡ (l && rest) → new ≡ (c && l) → whole ≡ (new && rest)
signed-turn whole c l rest new cs e f g = e ∙ ap (λ t. c && t) f ∙ sym (and_assoc c l rest) ∙ ap (λ t. t && rest) (sym g)

pub width-end : (whole w n : ℕ) → whole ≡ max w n → n ≡ 0 → w ≡ whole
width-end whole w n e f = omega (arith, e, f)

pub signed-end : (whole c n : Bool) → whole ≡ (c && n) → n ≡ true → c ≡ whole
signed-end whole c n e f = sym (e ∙ ap (λ t. c && t) f ∙ and_true c)

none-wider : (n : ℕ) → n ≡ max 0 n
none-wider n = omega arith

pub item-width : (s : Scope) (i : CaseItem) (items : List CaseItem) → items_width s (item_list (i ∷ items)) ≡ max (label_width s i) (items_width s (item_list items))
item-width s (Values es x) items = refl
item-width s (Default x) items = none-wider (items_width s (item_list items))

pub item-signed : (s : Scope) (i : CaseItem) (items : List CaseItem) → items_signed s (item_list (i ∷ items)) ≡ (label_signed s i && items_signed s (item_list items))
item-signed s (Values es x) items = refl
item-signed s (Default x) items = refl

pub default-width : (w : ℕ) → w ≡ max w 0
default-width w = omega arith

-- ---- the values of labels

module _ (s : Scope) (w : ℕ) (signed : Bool) where
  all-labels : (x : ℕ) (es : List Expression) → one_is s w signed x (expressions_of es) ≡ one_label_is s w signed x es
  unfolding label_is
  all-labels x [] = refl
  all-labels x (e ∷ es) = ap (λ t. label_is s w signed x (tree_of e) || t) (all-labels x es)

  all-items : (x : ℕ) (items : List CaseItem) → items_have s w signed x (item_list items) ≡ one_item_has s w signed x items
  all-items x [] = refl
  all-items x (Values es y ∷ items) =
      ap (λ t. t || items_have s w signed x (item_list items)) (all-labels x es.items) ∙ ap (λ t. one_label_is s w signed x es.items || t) (all-items x items)
  all-items x (Default y ∷ items) = all-items x items

  all-numbers : (items : List CaseItem) (is : ℕ → Bool) → ((x : ℕ) → is x ≡ one_item_has s w signed x items) → (n : ℕ)
      → all_below is n ≡ items_have_all s w signed n (item_list items)
  all-numbers items is h zero = refl
  all-numbers items is h (suc n) =
      ap (λ t. t && all_below is n) (h n ∙ sym (all-items n items))
      ∙ ap (λ t. items_have s w signed n (item_list items) && t) (all-numbers items is h n)

  -- a label that is not constant, and one that is
  no-label : (x : ℕ) (e : pure.Expression) (c : Bool) → c ≡ constant_at s e → c ≡ false → label_is s w signed x e ≡ false
  unfolding label_is constant_at
  no-label x e c h f = ap (λ b. b && (value_of s no_values e w signed == x)) (sym h ∙ f)

  pub passed-over : (x : ℕ) (e : pure.Expression) (c has : Bool) → c ≡ constant_at s e → c ≡ false → has ≡ (has || label_is s w signed x e)
  passed-over x e c has h f = sym (or_false has) ∙ ap (λ t. has || t) (sym (no-label x e c h f))

  label-value : (x : ℕ) (e : pure.Expression) (c : Bool) (v : ℕ) → c ≡ constant_at s e → c ≡ true → v ≡ value_of s no_values e w signed → (v == x) ≡ label_is s w signed x e
  unfolding label_is constant_at
  label-value x e c v h t i = ap (λ z. z == x) i ∙ ap (λ b. b && (value_of s no_values e w signed == x)) (sym t ∙ h)

  same-number : (v x : ℕ) → is_at (nat_cmp v) x ≡ (v == x)
  same-number v x = grind (arith, nat_tests)

  put-after : (e has : Bool) → cond e true has ≡ (has || e)
  put-after true true = refl
  put-after true false = refl
  put-after false has = sym (or_false has)

  pub value-added : (old new : BTreeSet ℕ) (e : pure.Expression) (c : Bool) (v : ℕ) → c ≡ constant_at s e → c ≡ true → v ≡ value_of s no_values e w signed
      → sorted.Updates nat_cmp old new v true → (x : ℕ) → has_number new x ≡ (has_number old x || label_is s w signed x e)
  value-added old new e c v h t i u x =
      u.0 x ∙ ap (λ b. cond b true (has_number old x)) (same-number v x) ∙ put-after (v == x) (has_number old x)
      ∙ ap (λ b. has_number old x || b) (label-value x e c v h t i)

-- a turn of a loop over labels or items
pub has-turn : (whole old new l rest has : Bool) → whole ≡ (old || has) → has ≡ (l || rest) → new ≡ (old || l) → whole ≡ (new || rest)
has-turn whole old new l rest has e f g = e ∙ ap (λ t. old || t) f ∙ sym (or_assoc old l rest) ∙ ap (λ t. t || rest) (sym g)

pub has-end : (whole old none : Bool) → whole ≡ (old || none) → none ≡ false → old ≡ whole
has-end whole old none e f = sym (e ∙ ap (λ t. old || t) f ∙ or_false old)

-- an empty set
pub no-number : (t : BTreeSet ℕ) → t.keys ≡ [] → (x : ℕ) → has_number t x ≡ false
no-number t e x = ap (λ ks. list_any (is_at (nat_cmp x)) ks) e

-- ---- all values

pub below-more : (is : ℕ → Bool) (i j : ℕ) → j ≡ i + 1 → is i ≡ true → all_below is i ≡ true → all_below is j ≡ true
below-more is i j e h g =
    let k : suc i ≡ j = omega (arith, e) in
    subst (λ n. all_below is n ≡ true) k (ap (λ t. t && all_below is i) h ∙ g)

pub below-lacks : (is : ℕ → Bool) (i n : ℕ) → i < n → is i ≡ false → all_below is n ≡ false
below-lacks is i zero h f = absurd (omega (arith, h))
below-lacks is i (suc n) h f = at (cases_eq i n) (below-lacks is i n)
  where
    at : (i ≡ n) ⊎ (i ≡ n → ⊥) → (i < n → is i ≡ false → all_below is n ≡ false) → (is n && all_below is n) ≡ false
    at (inl e) k = ap (λ b. b && all_below is n) (sym (ap is e) ∙ f)
    at (inr d) k = ap (λ b. is n && b) (k (omega (arith, h, d)) f) ∙ and_false (is n)

module _ (s : Scope) (e : pure.Expression) (items : List CaseItem) (w : ℕ) (signed : Bool)
    (is_width : w ≡ case_width s e (item_list items)) (is_sign : signed ≡ case_signed s e (item_list items)) where
  pub too-wide : 8 < w → false ≡ values_at s e (item_list items)
  unfolding values_at
  too-wide h =
      ap (λ b. b && items_have_all s w signed (2 ^ w) (item_list items)) (sym (lt-leb w 8 h))
      ∙ ap (λ v. nat_le v 8 && items_have_all s v signed (2 ^ v) (item_list items)) is_width
      ∙ ap (λ t. nat_le (case_width s e (item_list items)) 8 && items_have_all s (case_width s e (item_list items)) t (2 ^ case_width s e (item_list items)) (item_list items)) is_sign

  pub all-values : (is : ℕ → Bool) (n : ℕ) (r : Bool) → ((x : ℕ) → is x ≡ one_item_has s w signed x items) → w ≤ 8 → n ≡ 2 ^ w → r ≡ all_below is n
      → r ≡ values_at s e (item_list items)
  unfolding values_at
  all-values is n r h l c k =
      k ∙ ap (all_below is) c ∙ all-numbers s w signed items is h (2 ^ w)
      ∙ ap (λ b. b && items_have_all s w signed (2 ^ w) (item_list items)) (sym (le-leb w 8 l))
      ∙ ap (λ v. nat_le v 8 && items_have_all s v signed (2 ^ v) (item_list items)) is_width
      ∙ ap (λ t. nat_le (case_width s e (item_list items)) 8 && items_have_all s (case_width s e (item_list items)) t (2 ^ case_width s e (item_list items)) (item_list items)) is_sign

-- ---- full cases

full-default : (s : Scope) (kind : pure.CaseKind) (e : pure.Expression) (items : pure.CaseItems) → has_default items ≡ true → true ≡ is_full s kind e items
full-default s pure.wild_case e items h = sym h
full-default s pure.exact_case e items h =
    ap (λ b. b || (nat_le (case_width s e items) 8 && items_have_all s (case_width s e items) (case_signed s e items) (2 ^ case_width s e items) items)) (sym h)

pub default-full : (s : Scope) (kind : CodeKind) (e : pure.Expression) (items : List CaseItem) (d : Bool) → d ≡ has_default (item_list items) → d ≡ true
    → true ≡ full_at s (case_kind_of kind) e (item_list items)
unfolding full_at
default-full s kind e items d h t = full-default s (case_kind_of kind) e (item_list items) (sym h ∙ t)

pub wild-full : (s : Scope) (kind : CodeKind) (e : pure.Expression) (items : List CaseItem) (d : Bool) → kind ≡ Wild → d ≡ has_default (item_list items) → d ≡ false
    → false ≡ full_at s (case_kind_of kind) e (item_list items)
unfolding full_at
wild-full s kind e items d i h f = sym f ∙ h ∙ ap (λ k. is_full s (case_kind_of k) e (item_list items)) (sym i)

pub exact-full : (s : Scope) (kind : CodeKind) (e : pure.Expression) (items : List CaseItem) (d r : Bool) → kind ≡ Exact → d ≡ has_default (item_list items) → d ≡ false
    → r ≡ values_at s e (item_list items) → r ≡ full_at s (case_kind_of kind) e (item_list items)
unfolding full_at values_at
exact-full s kind e items d r i h f k =
    k ∙ ap (λ b. b || (nat_le (case_width s e (item_list items)) 8
    && items_have_all s (case_width s e (item_list items)) (case_signed s e (item_list items)) (2 ^ case_width s e (item_list items)) (item_list items))) (sym f ∙ h)
    ∙ ap (λ q. is_full s (case_kind_of q) e (item_list items)) (sym i)

-- ---- widths within the common one

pub first-within : (a b w : ℕ) → max a b ≤ w → a ≤ w
first-within a b w h = omega (arith, h)

pub rest-within : (a b w : ℕ) → max a b ≤ w → b ≤ w
rest-within a b w h = omega (arith, h)

pub items-within : (s : Scope) (e : pure.Expression) (items : List CaseItem) (w : ℕ) → w ≡ case_width s e (item_list items) → items_width s (item_list items) ≤ w
items-within s e items w h = wider (width_of s e) (items_width s (item_list items)) w h
  where
    wider : (a b w : ℕ) → w ≡ max a b → b ≤ w
    wider a b w h = omega (arith, h)

-- ---- how many values there are

pub small-power : (w : ℕ) → w ≤ 8 → 1 * 2 ^ w % 2 ^ 32 ≡ 2 ^ w
small-power w h = let p : 2 ^ w ≤ 2 ^ 8 = pow_mono h in omega (arith, p)
