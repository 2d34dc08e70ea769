-- The table of a scope has under each name what its first declaration says.
use Rattle.std.proofs.Common.{◌≡◌, ◌∙◌, refl, ap, sym, ℕ, ◌+◌, ◌<◌, Bool, true, false, true≢false, nat_eq, eq-eqb, cond, List, [], ◌∷◌, ◌++◌, length, drop, get_or, Bor, Option, Some, None, option_map, add-one, drop-cons}
use Rattle.std.specs.Ordering.{nat_cmp}
use Rattle.std.specs.Cmp.Lexicographic.{slice_cmp}
use Rattle.std.specs.BTreeMap as tree
use Rattle.std.specs.BTreeMap.{BTreeMap, get, get_by}
use Rattle.std.proofs.lemmas.Slice.Eq.{bytes_eq-Decides}
use Rattle.std.proofs.lemmas.Map.Text.{btree_map_updates_str}
use Rattle.wb_values.specs.Value.{Name, same_name, entry_of}
use Rattle.wb_values.specs.Choice.{first_of}
use Rattle.verilog_meaning.specs.Expression as meaning
use Rattle.v_value.specs.declared.scope.Object.{Object}
use Rattle.v_value.specs.declared.scope.Declaration.{Declaration}
use Rattle.v_value.specs.Objects.{object_of, objects_of}
use Rattle.v_value.specs.Hash.{hash_of}
use Rattle.v_value.specs.Tables.{under, hashed_at, other_at}
use Rattle.v_value.proofs.Hashed.{are_same, at_hash, taken_back}

-- ---- one declaration

-- what a table has under a name after a declaration
abbrev after : Option meaning.Object → Declaration → Name → Option meaning.Object
after o d q = first_of o (cond (same_name d.name.now q) (Some (object_of d.object)) None)

no_more : (o : Option meaning.Object) → o ≡ first_of o None
no_more None = refl
no_more (Some y) = refl

-- what is under a name in two tables
abbrev both_at : BTreeMap ℕ Declaration → BTreeMap (Bor (List ℕ)) Object → Name → Option meaning.Object
both_at hs os q = first_of (hashed_at hs q) (other_at os q)

-- a name that is there stays as it is
stays : (hs : BTreeMap ℕ Declaration) (os : BTreeMap (Bor (List ℕ)) Object) (d : Declaration) (x : meaning.Object) (q : Name) → both_at hs os d.name.now ≡ Some x
    → both_at hs os q ≡ after (both_at hs os q) d q
stays hs os d x q e =
    (elim (same_name d.name.now q) as (λ b. same_name d.name.now q ≡ b
    → both_at hs os q ≡ first_of (both_at hs os q) (cond b (Some (object_of d.object)) None)) [
      | true ↦ λ h. found (ap (both_at hs os) (sym ((bytes_eq-Decides d.name.now q).0 h)) ∙ e)
      | false ↦ λ h. no_more (both_at hs os q)
    ]) refl
  where
    found : both_at hs os q ≡ Some x → both_at hs os q ≡ first_of (both_at hs os q) (Some (object_of d.object))
    found f = f ∙ sym (ap (λ o. first_of o (Some (object_of d.object))) f)

some_behind : (a : Option meaning.Object) (x : meaning.Object) → (y : meaning.Object) × (first_of a (Some x) ≡ Some y)
some_behind None x = (x, refl)
some_behind (Some y) x = (y, refl)

-- a name of which the other table has something
pub stays_other : (hs : BTreeMap ℕ Declaration) (os : BTreeMap (Bor (List ℕ)) Object) (d : Declaration) (x : meaning.Object) (q : Name) → other_at os d.name.now ≡ Some x
    → both_at hs os q ≡ after (both_at hs os q) d q
stays_other hs os d x q e =
    let s = some_behind (hashed_at hs d.name.now) x in
    stays hs os d s.0 q (ap (first_of (hashed_at hs d.name.now)) e ∙ s.1)

-- ---- the table by hashes

mapped_cond : (b : Bool) (x : Object) (o : Option Object) → option_map object_of (cond b (Some x) o) ≡ cond b (Some (object_of x)) (option_map object_of o)
mapped_cond true x o = refl
mapped_cond false x o = refl

module _ (d : Declaration) (q : Name) where
  -- the hash is free
  free_by : (b e : Bool) (o : Option Declaration) (x : Option meaning.Object) → same_name d.name.now q ≡ b → (b ≡ true → e ≡ true) → (e ≡ true → o ≡ None) → (b ≡ true → x ≡ None)
      → first_of (under (cond e (Some d) o) q) x ≡ after (first_of (under o q) x) d q
  free_by true true o x s g f n = rw (f refl, n refl, s) refl
  free_by true false o x s g f n = absurd (true≢false (sym (g refl)))
  free_by false true o x s g f n = rw (f refl, s) (no_more x)
  free_by false false o x s g f n = rw s (no_more (first_of (under o q) x))

  pub put_first : (hs ks : BTreeMap ℕ Declaration) (os : BTreeMap (Bor (List ℕ)) Object) (h : ℕ) → h ≡ hash_of d.name.now → other_at os d.name.now ≡ None
      → None ≡ get nat_cmp hs h → tree.Updates nat_cmp hs ks h (Some d) → both_at ks os q ≡ after (both_at hs os q) d q
  put_first hs ks os h is apart free u =
      ap (λ o. first_of (under o q) (other_at os q)) (at_hash hs ks h (Some d) u (hash_of q))
      ∙ free_by (same_name d.name.now q) (nat_eq h (hash_of q)) (get nat_cmp hs (hash_of q)) (other_at os q) refl
      (λ t. eq-eqb h (hash_of q) (is ∙ ap hash_of (named t))) (λ t. sym (free ∙ ap (get nat_cmp hs) (are_same h (hash_of q) t))) (λ t. sym (ap (other_at os) (named t)) ∙ apart)
    where
      named : same_name d.name.now q ≡ true → d.name.now ≡ q
      named t = (bytes_eq-Decides d.name.now q).0 t

  module _ (hs ks ls : BTreeMap ℕ Declaration) (h : ℕ) (first : Declaration) (is : h ≡ hash_of d.name.now) (u : tree.Updates nat_cmp hs ks h (Some d))
      (was : Some first ≡ get nat_cmp hs h) (v : tree.Updates nat_cmp ks ls h (Some first)) where
    same_hashed : hashed_at ls q ≡ hashed_at hs q
    same_hashed = ap (λ o. under o q) (taken_back hs ks ls h d first u was v (hash_of q))

    first_there : get nat_cmp hs (hash_of d.name.now) ≡ Some first
    first_there = sym (was ∙ ap (get nat_cmp hs) is)

    -- the declaration of that hash has the same name
    pub stays_hashed : (os : BTreeMap (Bor (List ℕ)) Object) → same_name first.name.now d.name.now ≡ true → both_at ls os q ≡ after (both_at hs os q) d q
    stays_hashed os s =
        ap (λ o. first_of o (other_at os q)) same_hashed
        ∙ stays hs os d (object_of first.object) q
        (ap (λ o. first_of (under o d.name.now) (other_at os d.name.now)) first_there ∙ ap (λ b. first_of (cond b (Some (object_of first.object)) None) (other_at os d.name.now)) s)

    -- it has another one
    pub put_other : (os ps : BTreeMap (Bor (List ℕ)) Object) → other_at os d.name.now ≡ None → same_name first.name.now d.name.now ≡ false
        → tree.Updates (λ a b. slice_cmp nat_cmp a.now b.now) os ps d.name (Some d.object) → both_at ls ps q ≡ after (both_at hs os q) d q
    put_other os ps apart s w =
        ap (λ o. first_of o (other_at ps q)) same_hashed
        ∙ (ap (λ o. first_of (hashed_at hs q) o) (ap (option_map object_of) (btree_map_updates_str d.name.now os ps (Some d.object) w q) ∙ mapped_cond (same_name d.name.now q) d.object (get_by (λ k. slice_cmp nat_cmp q k.now) os))
        ∙ by (same_name d.name.now q) refl)
      where
        by : (b : Bool) → same_name d.name.now q ≡ b
            → first_of (hashed_at hs q) (cond b (Some (object_of d.object)) (other_at os q)) ≡ first_of (both_at hs os q) (cond b (Some (object_of d.object)) None)
        by false t = no_more (both_at hs os q)
        by true t =
            let same : d.name.now ≡ q = (bytes_eq-Decides d.name.now q).0 t in
            let none : hashed_at hs q ≡ None = sym (ap (hashed_at hs) same) ∙ (ap (λ o. under o d.name.now) first_there ∙ ap (λ b. cond b (Some (object_of first.object)) None) s) in
            let absent : other_at os q ≡ None = sym (ap (other_at os) same) ∙ apart in
            rw (none, absent) refl

-- ---- declaration after declaration

objects_drop : (ds : List Declaration) (i : ℕ) (d : Declaration) → i < length ds
    → objects_of (drop i ds) ≡ ((get_or ds i d).name.now, object_of (get_or ds i d).object) ∷ objects_of (drop (i + 1) ds)
objects_drop ds i d h = rw (add-one, drop-cons ds i d h) refl

one_more : (b : Bool) (o p : Option meaning.Object) (x : meaning.Object) → first_of (first_of o (cond b (Some x) None)) p ≡ first_of o (cond b (Some x) p)
one_more true None p x = refl
one_more true (Some y) p x = refl
one_more false None p x = refl
one_more false (Some y) p x = refl

-- a turn that puts a declaration into the table
pub turn : (ds : List Declaration) (i : ℕ) (d : Declaration) (old new all : Option meaning.Object) (q : Name) → i < length ds
    → new ≡ after old (get_or ds i d) q → first_of old (entry_of (objects_of (drop i ds)) q) ≡ all → first_of new (entry_of (objects_of (drop (i + 1) ds)) q) ≡ all
turn ds i d old new all q h u e =
    let x : Declaration = get_or ds i d in
    let rest : Option meaning.Object = entry_of (objects_of (drop (i + 1) ds)) q in
    ap (λ o. first_of o rest) u
    ∙ (one_more (same_name x.name.now q) old rest (object_of x.object)
    ∙ (ap (λ xs. first_of old (entry_of xs q)) (sym (objects_drop ds i d h)) ∙ e))

-- a declaration behind others
pub one_behind : (ds : List Declaration) (d : Declaration) (q : Name)
    → entry_of (objects_of (ds ++ d ∷ [])) q ≡ first_of (entry_of (objects_of ds) q) (cond (same_name d.name.now q) (Some (object_of d.object)) None)
one_behind [] d q = refl
one_behind (e ∷ ds) d q = by (same_name e.name.now q) (one_behind ds d q)
  where
    last : Option meaning.Object
    last = cond (same_name d.name.now q) (Some (object_of d.object)) None

    by : (b : Bool) → entry_of (objects_of (ds ++ d ∷ [])) q ≡ first_of (entry_of (objects_of ds) q) last
        → cond b (Some (object_of e.object)) (entry_of (objects_of (ds ++ d ∷ [])) q) ≡ first_of (cond b (Some (object_of e.object)) (entry_of (objects_of ds) q)) last
    by true h = refl
    by false h = h
