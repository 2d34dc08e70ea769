-- Tables to which spans are added, and loops over spans and drivers.
use Rattle.std.proofs.Common.{◌≡◌, ◌∙◌, ℕ, ◌+◌, ◌<◌, refl, ap, sym, Bool, true, false, cond, List, [], ◌∷◌, length, drop, get_or, Bor, Some, unwrap_or, bit_or}
use Rattle.std.specs.Prelude.{◌||◌}
use Rattle.std.specs.List.{list_any}
use Rattle.std.specs.declared.vec.Vec.{Vec}
use Rattle.std.specs.declared.alloc.Global.{Global}
use Rattle.std.specs.Ordering.{nat_cmp}
use Rattle.std.specs.Cmp.Lexicographic.{slice_cmp}
use Rattle.std.specs.BTreeMap as tree
use Rattle.std.specs.BTreeMap.{BTreeMap, is_at}
use Rattle.std.specs.Map.{lookup}
use Rattle.std.proofs.lemmas.Slice.Eq.{bytes_eq-Decides}
use Rattle.std.proofs.lemmas.Map.Text.{btree_map_updates_str}
use Rattle.std.proofs.lemmas.List.{drop_more}
use Rattle.wb_values.specs.Value.{Name, same_name}
use Rattle.verilog_meaning.specs.Expression.{Scope}
use Rattle.verilog_meaning.specs.Register.{is_set}
use Rattle.v_flow.specs.declared.span.Span.{Span}
use Rattle.v_masks.specs.Masks.{mask_under}
use Rattle.v_flow.specs.Spans.{bits_in}
use Rattle.v_drivers.specs.Lists.{sets_in}
use Rattle.v_drivers.specs.Tables.{span_mask, spans_mask}
use Rattle.v_masks.proofs.Bits.{set-none, set-or}

pub or_false : (a : Bool) → a || false ≡ a
or_false true = refl
or_false false = refl

pub or_assoc : (a b c : Bool) → (a || b) || c ≡ a || (b || c)
or_assoc true b c = refl
or_assoc false b c = refl

-- ---- a span more

module _ (s : Scope) (old new : BTreeMap (Bor (List ℕ)) ℕ) (x : Span) (m : ℕ) (is : m ≡ bit_or (mask_under old x.name.now) (span_mask s x))
    (u : tree.Updates (λ a b. slice_cmp nat_cmp a.now b.now) old new x.name (Some m)) where
  by-name : (q : Name) (b : ℕ) (t : Bool) → same_name x.name.now q ≡ t
      → is_set (unwrap_or (cond t (Some m) (tree.get_by (λ k. slice_cmp nat_cmp q k.now) old)) 0) b ≡ (is_set (mask_under old q) b || is_set (cond t (span_mask s x) 0) b)
  by-name q b true h =
      ap (λ z. is_set z b) is ∙ set-or (mask_under old x.name.now) (span_mask s x) b
      ∙ ap (λ n. is_set (mask_under old n) b || is_set (span_mask s x) b) ((bytes_eq-Decides x.name.now q).0 h)
  by-name q b false h = sym (ap (λ t. is_set (mask_under old q) b || t) (set-none b) ∙ or_false (is_set (mask_under old q) b))

  pub mask-added : (q : Name) (b : ℕ) → is_set (mask_under new q) b ≡ (is_set (mask_under old q) b || is_set (cond (same_name x.name.now q) (span_mask s x) 0) b)
  mask-added q b = ap (λ o. is_set (unwrap_or o 0) b) (btree_map_updates_str x.name.now old new (Some m) u q) ∙ by-name q b (same_name x.name.now q) refl

-- ---- loops

pub masks-turn : (s : Scope) (xs : List Span) (i : ℕ) (d : Span) (q : Name) (b : ℕ) (t m n : Bool) → i < length xs
    → n ≡ (m || is_set (cond (same_name (get_or xs i d).name.now q) (span_mask s (get_or xs i d)) 0) b)
    → t ≡ (m || is_set (spans_mask s (drop i xs) q) b) → t ≡ (n || is_set (spans_mask s (drop (i + 1) xs) q) b)
masks-turn s xs i d q b t m n h e g =
    let x = get_or xs i d in
    let rest = drop (i + 1) xs in
    let own = cond (same_name x.name.now q) (span_mask s x) 0 in
    g ∙ ap (λ ys. m || is_set (spans_mask s ys q) b) (drop_more xs i d h) ∙ ap (λ z. m || z) (set-or own (spans_mask s rest q) b)
    ∙ sym (or_assoc m (is_set own b) (is_set (spans_mask s rest q) b)) ∙ ap (λ z. z || is_set (spans_mask s rest q) b) (sym e)

pub masks-end : (s : Scope) (xs : List Span) (q : Name) (b : ℕ) (t m : Bool) → t ≡ (m || is_set (spans_mask s xs q) b)
    → is_set (spans_mask s xs q) b ≡ is_set 0 b → m ≡ t
masks-end s xs q b t m g e = sym (g ∙ ap (λ z. m || z) (e ∙ set-none b) ∙ or_false m)

pub no-masks : (t : BTreeMap (Bor (List ℕ)) ℕ) → t.entries ≡ [] → (q : Name) → mask_under t q ≡ 0
no-masks t e q = ap (λ (es : List (Bor (List ℕ) × ℕ)). unwrap_or (lookup (is_at (λ (c : Bor (List ℕ)). slice_cmp nat_cmp q c.now)) es) 0) e

pub any-turn : {X : Type 0} (p : X → Bool) (xs : List X) (i : ℕ) (d : X) (t : Bool) → i < length xs → p (get_or xs i d) ≡ false
    → t ≡ list_any p (drop i xs) → t ≡ list_any p (drop (i + 1) xs)
any-turn p xs i d t h e g = g ∙ ap (list_any p) (drop_more xs i d h) ∙ ap (λ z. z || list_any p (drop (i + 1) xs)) e

pub any-found : {X : Type 0} (p : X → Bool) (xs : List X) (i : ℕ) (d : X) (t : Bool) → i < length xs → p (get_or xs i d) ≡ true
    → t ≡ list_any p (drop i xs) → true ≡ t
any-found p xs i d t h e g = sym (g ∙ ap (list_any p) (drop_more xs i d h) ∙ ap (λ z. z || list_any p (drop (i + 1) xs)) e)

pub drivers-at : (vs : List (Vec Span Global)) (i : ℕ) (r : Vec Span Global) → i < length vs → r ≡ get_or vs i r
    → sets_in (drop i vs) ≡ bits_in r.items ∷ sets_in (drop (i + 1) vs)
drivers-at vs i r h is = ap sets_in (drop_more vs i r h ∙ ap (λ v. v ∷ drop (i + 1) vs) (sym is))
