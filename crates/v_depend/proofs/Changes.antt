-- Changes of tables, one after the other.
use Rattle.std.proofs.Common.{◌≡◌, ◌∙◌, ℕ, ◌+◌, ◌<◌, refl, ap, sym, Bool, true, false, cond, List, [], ◌∷◌, ◌++◌, length, drop, get_or, Bor, Some, unwrap_or, bit_and, bit_or}
use Rattle.std.specs.Prelude.{◌&&◌, ◌||◌}
use Rattle.std.specs.Ordering.{nat_cmp}
use Rattle.std.specs.Cmp.Lexicographic.{slice_cmp}
use Rattle.std.specs.BTreeMap as tree
use Rattle.std.specs.BTreeMap.{BTreeMap}
use Rattle.std.proofs.lemmas.Slice.Eq.{bytes_eq-Decides}
use Rattle.std.proofs.lemmas.Map.Text.{btree_map_updates_str}
use Rattle.std.proofs.lemmas.List.{drop_more}
use Rattle.wb_values.specs.Value.{Name, same_name}
use Rattle.verilog_meaning.specs.Register.{is_set}
use Rattle.verilog_designs.specs.Reads.{BitSet}
use Rattle.v_hier.specs.Tables.{under_name}
use Rattle.v_masks.specs.Masks.{mask_under, masked}
use Rattle.v_masks.proofs.Bits.{set-or, set-and}
use Rattle.v_depend.specs.declared.change.Change.{Change}
use Rattle.v_depend.specs.Tables.{changed, all_changed}

module _ (old new : BTreeMap (Bor (List ℕ)) ℕ) (x : Change) (v m : ℕ) (was : v ≡ mask_under old x.name.now) (is : m ≡ bit_or (bit_and v x.kept) x.set)
    (u : tree.Updates (λ a b. slice_cmp nat_cmp a.now b.now) old new x.name (Some m)) where
  same : (q : Name) (b : ℕ) → same_name x.name.now q ≡ true → is_set m b ≡ ((is_set (mask_under old q) b && is_set x.kept b) || is_set x.set b)
  same q b h =
      ap (λ z. is_set z b) is ∙ set-or (bit_and v x.kept) x.set b ∙ ap (λ t. t || is_set x.set b) (set-and v x.kept b)
      ∙ ap (λ z. (is_set z b && is_set x.kept b) || is_set x.set b) was
      ∙ ap (λ n. (is_set (mask_under old n) b && is_set x.kept b) || is_set x.set b) ((bytes_eq-Decides x.name.now q).0 h)

  by-name : (q : Name) (b : ℕ) (t : Bool) → same_name x.name.now q ≡ t
      → is_set (unwrap_or (cond t (Some m) (under_name old q)) 0) b ≡ cond t ((is_set (mask_under old q) b && is_set x.kept b) || is_set x.set b) (is_set (mask_under old q) b)
  by-name q b true h = same q b h
  by-name q b false h = refl

  at : (q : Name) (k b : ℕ) → masked new q k b ≡ changed x (masked old) q k b
  at q k b = ap (λ o. is_set (unwrap_or o 0) b) (btree_map_updates_str x.name.now old new (Some m) u q) ∙ by-name q b (same_name x.name.now q) refl

  pub change-made : masked new ≡ changed x (masked old)
  change-made = λ i q k b. at q k b i

-- the turn of a loop over changes
pub changes-turn : (xs : List Change) (i : ℕ) (d : Change) (t p q : BitSet) → i < length xs → q ≡ changed (get_or xs i d) p
    → t ≡ all_changed (drop i xs) p → t ≡ all_changed (drop (i + 1) xs) q
changes-turn xs i d t p q h e g =
    g ∙ ap (λ ys. all_changed ys p) (drop_more xs i d h) ∙ ap (all_changed (drop (i + 1) xs)) (sym e)

-- one change more
pub pushed : (xs : List Change) (x : Change) (p : BitSet) → all_changed (xs ++ x ∷ []) p ≡ changed x (all_changed xs p)
pushed [] x p = refl
pushed (y ∷ xs) x p = pushed xs x (changed y p)
