-- The table of a module's names after one declaration more.
use Rattle.std.proofs.Common.{◌≡◌, ◌∙◌, refl, ap, sym, ℕ, Bool, true, false, true≢false, nat_eq, eq-eqb, cond, List, Bor, Option, Some, None, option_map}
use Rattle.std.specs.Ordering.{nat_cmp}
use Rattle.std.specs.Cmp.Lexicographic.{slice_cmp}
use Rattle.std.specs.BTreeMap as tree
use Rattle.std.specs.BTreeMap.{BTreeMap, get, get_by}
use Rattle.std.proofs.lemmas.Slice.Eq.{bytes_eq-Decides}
use Rattle.std.proofs.lemmas.Map.Text.{btree_map_updates_str}
use Rattle.wb_values.specs.Value.{Name, same_name}
use Rattle.wb_values.specs.Choice.{first_of}
use Rattle.v_value.specs.Hash.{hash_of}
use Rattle.v_value.proofs.Hashed.{are_same, at_hash, put_twice, taken_back}
use Rattle.v_scopes.specs.declared.row.Declared.{Declared}
use Rattle.v_scopes.specs.Rows.{Row, row_of, both_rows, row_after}
use Rattle.v_scopes.specs.Tables.{under, hashed_at, other_at}

-- what is under a name in two tables
abbrev both_at : BTreeMap ℕ Declared → BTreeMap (Bor (List ℕ)) Declared → Name → Option Row
both_at hs os q = first_of (other_at os q) (hashed_at hs q)

-- what a table has under a name after a declaration
abbrev after : Option Row → Declared → Name → Option Row
after o d q = cond (same_name d.name.now q) (Some (row_after o (row_of d))) o

row_cond : (b : Bool) (x : Declared) (o : Option Declared) → option_map row_of (cond b (Some x) o) ≡ cond b (Some (row_of x)) (option_map row_of o)
row_cond true x o = refl
row_cond false x o = refl

named : (a b : Name) → same_name a b ≡ true → a ≡ b
named a b t = (bytes_eq-Decides a b).0 t

module _ (d : Declared) (q : Name) where
  other_put : (os ps : BTreeMap (Bor (List ℕ)) Declared) (x : Declared) → tree.Updates (λ a b. slice_cmp nat_cmp a.now b.now) os ps d.name (Some x)
      → other_at ps q ≡ cond (same_name d.name.now q) (Some (row_of x)) (other_at os q)
  other_put os ps x w =
      ap (option_map row_of) (btree_map_updates_str d.name.now os ps (Some x) w q) ∙ row_cond (same_name d.name.now q) x (get_by (λ k. slice_cmp nat_cmp q k.now) os)

  -- a name that was put aside before
  pub join_other : (hs : BTreeMap ℕ Declared) (os ps : BTreeMap (Bor (List ℕ)) Declared) (first x : Declared) → Some (row_of first) ≡ other_at os d.name.now
      → row_of x ≡ both_rows (row_of first) (row_of d) → tree.Updates (λ a b. slice_cmp nat_cmp a.now b.now) os ps d.name (Some x)
      → both_at hs ps q ≡ after (both_at hs os q) d q
  join_other hs os ps first x there is w =
      ap (λ o. first_of o (hashed_at hs q)) (other_put os ps x w) ∙ by (same_name d.name.now q) refl
    where
      by : (b : Bool) → same_name d.name.now q ≡ b
          → first_of (cond b (Some (row_of x)) (other_at os q)) (hashed_at hs q) ≡ cond b (Some (row_after (both_at hs os q) (row_of d))) (both_at hs os q)
      by false t = refl
      by true t =
          let here : both_at hs os q ≡ Some (row_of first)
          = ap (λ o. first_of o (hashed_at hs q)) (sym (ap (other_at os) (named d.name.now q t)) ∙ sym there) in
          ap Some (is ∙ sym (ap (λ o. row_after o (row_of d)) here))

  -- a name whose hash is free
  free_by : (b e : Bool) (o : Option Declared) (y : Option Row) → same_name d.name.now q ≡ b → (b ≡ true → e ≡ true) → (e ≡ true → o ≡ None) → (b ≡ true → y ≡ None)
      → first_of y (under (cond e (Some d) o) q) ≡ after (first_of y (under o q)) d q
  free_by true true o y s g f n = rw (f refl, n refl, s) refl
  free_by true false o y s g f n = absurd (true≢false (sym (g refl)))
  free_by false true o y s g f n = rw (f refl, s) refl
  free_by false false o y s g f n = rw s refl

  pub put_first : (hs ks : BTreeMap ℕ Declared) (os : BTreeMap (Bor (List ℕ)) Declared) (h : ℕ) → h ≡ hash_of d.name.now → other_at os d.name.now ≡ None
      → None ≡ get nat_cmp hs h → tree.Updates nat_cmp hs ks h (Some d) → both_at ks os q ≡ after (both_at hs os q) d q
  put_first hs ks os h is apart free u =
      ap (λ o. first_of (other_at os q) (under o q)) (at_hash hs ks h (Some d) u (hash_of q))
      ∙ free_by (same_name d.name.now q) (nat_eq h (hash_of q)) (get nat_cmp hs (hash_of q)) (other_at os q) refl
      (λ t. eq-eqb h (hash_of q) (is ∙ ap hash_of (named d.name.now q t))) (λ t. sym (free ∙ ap (get nat_cmp hs) (are_same h (hash_of q) t)))
      (λ t. sym (ap (other_at os) (named d.name.now q t)) ∙ apart)

  module _ (first : Declared) where
    -- the name has its hash
    same_by : (x : Declared) → row_of x ≡ both_rows (row_of first) (row_of d) → (b e : Bool) (o : Option Declared) (y : Option Row) → same_name d.name.now q ≡ b
        → same_name x.name.now q ≡ b → same_name first.name.now q ≡ b → (b ≡ true → e ≡ true) → (e ≡ true → o ≡ Some first) → (b ≡ true → y ≡ None)
        → first_of y (under (cond e (Some x) o) q) ≡ after (first_of y (under o q)) d q
    same_by x is true true o y s sx sf g f n = rw (f refl, n refl, s, sx, sf) (ap Some is)
    same_by x is true false o y s sx sf g f n = absurd (true≢false (sym (g refl)))
    same_by x is false true o y s sx sf g f n = rw (f refl, s, sx, sf) refl
    same_by x is false false o y s sx sf g f n = rw s refl

    module _ (hs ks ls : BTreeMap ℕ Declared) (h : ℕ) (is : h ≡ hash_of d.name.now) (u : tree.Updates nat_cmp hs ks h (Some d)) (was : Some first ≡ get nat_cmp hs h)
        (os : BTreeMap (Bor (List ℕ)) Declared) (apart : other_at os d.name.now ≡ None) where
      pub join_hashed : (x : Declared) → row_of x ≡ both_rows (row_of first) (row_of d) → same_name first.name.now d.name.now ≡ true
          → tree.Updates nat_cmp ks ls h (Some x) → both_at ls os q ≡ after (both_at hs os q) d q
      join_hashed x joined same v =
          let first_so : first.name.now ≡ d.name.now = named first.name.now d.name.now same in
          let name_so : x.name.now ≡ first.name.now = ap (λ (r : Row). r.of_name) joined in
          ap (λ o. first_of (other_at os q) (under o q)) (put_twice hs ks ls h d x u v (hash_of q))
          ∙ same_by x joined (same_name d.name.now q) (nat_eq h (hash_of q)) (get nat_cmp hs (hash_of q)) (other_at os q) refl
          (ap (λ n. same_name n q) (name_so ∙ first_so)) (ap (λ n. same_name n q) first_so)
          (λ t. eq-eqb h (hash_of q) (is ∙ ap hash_of (named d.name.now q t))) (λ t. sym (was ∙ ap (get nat_cmp hs) (are_same h (hash_of q) t)))
          (λ t. sym (ap (other_at os) (named d.name.now q t)) ∙ apart)

      -- another one has it
      pub put_other : (ps : BTreeMap (Bor (List ℕ)) Declared) → same_name first.name.now d.name.now ≡ false → tree.Updates nat_cmp ks ls h (Some first)
          → tree.Updates (λ a b. slice_cmp nat_cmp a.now b.now) os ps d.name (Some d) → both_at ls ps q ≡ after (both_at hs os q) d q
      put_other ps differs v w =
          ap (λ o. first_of (other_at ps q) (under o q)) (taken_back hs ks ls h d first u was v (hash_of q))
          ∙ (ap (λ o. first_of o (hashed_at hs q)) (other_put os ps d w) ∙ by (same_name d.name.now q) refl)
        where
          by : (b : Bool) → same_name d.name.now q ≡ b
              → first_of (cond b (Some (row_of d)) (other_at os q)) (hashed_at hs q) ≡ cond b (Some (row_after (both_at hs os q) (row_of d))) (both_at hs os q)
          by false t = refl
          by true t =
              let so : d.name.now ≡ q = named d.name.now q t in
              let none : hashed_at hs q ≡ None
              = sym (ap (hashed_at hs) so) ∙ (ap (λ o. under o d.name.now) (sym (was ∙ ap (get nat_cmp hs) is)) ∙ ap (λ b. cond b (Some (row_of first)) None) differs) in
              let absent : other_at os q ≡ None = sym (ap (other_at os) so) ∙ apart in
              ap Some (sym (ap (λ o. row_after o (row_of d)) (ap (λ o. first_of o (hashed_at hs q)) absent ∙ none)))
