-- Spans that are taken out of a table.
use Rattle.std.proofs.Common.{◌≡◌, ◌∙◌, ℕ, ◌+◌, ◌<◌, refl, ap, sym, Bool, true, false, cond, not, List, [], length, drop, get_or, Bor, Some, unwrap_or}
use Rattle.std.specs.Prelude.{◌&&◌, ◌||◌}
use Rattle.std.specs.Ordering.{nat_cmp}
use Rattle.std.specs.Cmp.Lexicographic.{slice_cmp}
use Rattle.std.specs.BTreeMap as tree
use Rattle.std.specs.BTreeMap.{BTreeMap}
use Rattle.std.proofs.lemmas.Slice.Eq.{bytes_eq-Decides}
use Rattle.std.proofs.lemmas.Map.Text.{btree_map_updates_str}
use Rattle.std.proofs.lemmas.List.{drop_more}
use Rattle.wb_values.specs.Value.{Name, same_name}
use Rattle.verilog_meaning.specs.Register.{is_set}
use Rattle.verilog_designs.specs.Reads.{BitSet, but_not_in}
use Rattle.v_flow.specs.declared.span.Span.{Span}
use Rattle.v_flow.specs.Spans.{is_between, bits_of, bits_in}
use Rattle.v_hier.specs.Tables.{under_name}
use Rattle.v_masks.specs.Masks.{mask_under, masked, spread}

-- ---- one span

and-true : (t : Bool) → t ≡ (t && true)
and-true true = refl
and-true false = refl

module _ (old new : BTreeMap (Bor (List ℕ)) ℕ) (x : Span) (word m : ℕ) (bits : (b : ℕ) → is_set word b ≡ (is_between x.from_word x.to_word 0 && is_set x.bits b))
    (is : (b : ℕ) → is_set m b ≡ (is_set (mask_under old x.name.now) b && not (is_set word b)))
    (u : tree.Updates (λ a b. slice_cmp nat_cmp a.now b.now) old new x.name (Some m)) where
  same : (q : Name) (b : ℕ) → same_name x.name.now q ≡ true → is_set m b ≡ (is_set (mask_under old q) b && not (is_between x.from_word x.to_word 0 && is_set x.bits b))
  same q b h =
      is b ∙ ap (λ t. is_set (mask_under old x.name.now) b && not t) (bits b)
      ∙ ap (λ n. is_set (mask_under old n) b && not (is_between x.from_word x.to_word 0 && is_set x.bits b)) ((bytes_eq-Decides x.name.now q).0 h)

  by-name : (q : Name) (b : ℕ) (t : Bool) → same_name x.name.now q ≡ t
      → is_set (unwrap_or (cond t (Some m) (under_name old q)) 0) b ≡ (is_set (mask_under old q) b && not (t && (is_between x.from_word x.to_word 0 && is_set x.bits b)))
  by-name q b true h = same q b h
  by-name q b false h = and-true (is_set (mask_under old q) b)

  at : (q : Name) (k b : ℕ) → masked new q k b ≡ but_not_in (masked old) (spread (bits_of x)) q k b
  at q k b = ap (λ o. is_set (unwrap_or o 0) b) (btree_map_updates_str x.name.now old new (Some m) u q) ∙ by-name q b (same_name x.name.now q) refl

  pub span-removed : masked new ≡ but_not_in (masked old) (spread (bits_of x))
  span-removed = λ i q k b. at q k b i

-- ---- the spans of a list

one-by-one : (p a b : Bool) → (p && not (a || b)) ≡ ((p && not a) && not b)
one-by-one true true b = refl
one-by-one true false b = refl
one-by-one false a b = refl

pub remove-turn : (xs : List Span) (i : ℕ) (d : Span) (t m n : BitSet) → i < length xs → n ≡ but_not_in m (spread (bits_of (get_or xs i d)))
    → t ≡ but_not_in m (spread (bits_in (drop i xs))) → t ≡ but_not_in n (spread (bits_in (drop (i + 1) xs)))
remove-turn xs i d t m n l e g =
    g ∙ ap (λ ys. but_not_in m (spread (bits_in ys))) (drop_more xs i d l)
    ∙ (λ j q k b. one-by-one (m q k b) (bits_of (get_or xs i d) q 0 b) (bits_in (drop (i + 1) xs) q 0 b) j)
    ∙ ap (λ (z : BitSet). but_not_in z (spread (bits_in (drop (i + 1) xs)))) (sym e)

pub remove-end : (rest : List Span) (t m : BitSet) → rest ≡ [] → t ≡ but_not_in m (spread (bits_in rest)) → m ≡ t
remove-end rest t m e g = (λ j q k b. and-true (m q k b) j) ∙ sym (g ∙ ap (λ ys. but_not_in m (spread (bits_in ys))) e)
