-- The table of numbers by the names of the modules.
use Rattle.std.proofs.Common.{◌≡◌, ◌≤◌, ◌∙◌, refl, ap, sym, subst, ℕ, suc, ◌+◌, ◌<◌, Bool, true, false, cond, List, [], ◌∷◌, ◌++◌, length, drop, get_or, Bor, Option, Some, None, option_map, map, add-one, drop-cons, arith}
use Rattle.std.proofs.lemmas.Bool.{false≢true}
use Rattle.std.proofs.lemmas.List.{drop_all}
use Rattle.std.specs.Ordering.{nat_cmp}
use Rattle.std.specs.Cmp.Lexicographic.{slice_cmp}
use Rattle.std.specs.BTreeMap as tree
use Rattle.std.specs.BTreeMap.{BTreeMap}
use Rattle.std.proofs.lemmas.Slice.Eq.{bytes_eq-Decides}
use Rattle.std.proofs.lemmas.Map.Text.{btree_map_updates_str}
use Rattle.wb_values.specs.Value.{Name, same_name}
use Rattle.wb_values.specs.Choice.{first_of}
use Rattle.verilog_trees.specs.Syntax.{Module, Source}
use Rattle.verilog_meaning.specs.Hierarchy.{module_named}
use Rattle.v_syntax.specs.declared.module.Module.{Module as CodeModule}
use Rattle.v_syntax.specs.Source.{module_of}
use Rattle.v_hier.specs.Tables.{under_name}
use Rattle.v_standing.specs.Standing.{number_named, module_at, left_in, AreBelow, AreWithin}

pub no_more : (o : Option ℕ) → o ≡ first_of o None
no_more None = refl
no_more (Some y) = refl

-- A number is put under a new name.
pub put_so : (old new : BTreeMap (Bor (List ℕ)) ℕ) (name : Bor (List ℕ)) (k : ℕ) → under_name old name.now ≡ None
    → tree.Updates (λ a b. slice_cmp nat_cmp a.now b.now) old new name (Some k) → (q : Name)
    → under_name new q ≡ first_of (under_name old q) (cond (same_name name.now q) (Some k) None)
put_so old new name k e u q =
    btree_map_updates_str name.now old new (Some k) u q
    ∙ (elim (same_name name.now q) as (λ b. same_name name.now q ≡ b
    → cond b (Some k) (under_name old q) ≡ first_of (under_name old q) (cond b (Some k) None)) [
      | true ↦ λ h. absent (ap (under_name old) (sym ((bytes_eq-Decides name.now q).0 h)) ∙ e)
      | false ↦ λ h. no_more (under_name old q)
    ]) refl
  where
    absent : under_name old q ≡ None → Some k ≡ first_of (under_name old q) (Some k)
    absent f = sym (ap (λ o. first_of o (Some k)) f)

modules_drop : (ms : List CodeModule) (i : ℕ) (m : CodeModule) → i < length ms → m ≡ get_or ms i m → map module_of (drop i ms) ≡ module_of m ∷ map module_of (drop (i + 1) ms)
modules_drop ms i m h e = ap (map module_of) parted
  where
    parted : drop i ms ≡ m ∷ drop (i + 1) ms
    parted = rw (add-one, drop-cons ms i m h) (ap (λ c. c ∷ drop (suc i) ms) (sym e))

one_more : (b : Bool) (o p : Option ℕ) (x : ℕ) → first_of (first_of o (cond b (Some x) None)) p ≡ first_of o (cond b (Some x) p)
one_more true None p x = refl
one_more true (Some y) p x = refl
one_more false None p x = refl
one_more false (Some y) p x = refl

-- a turn that puts a number into the table
pub turn : (ms : List CodeModule) (i k : ℕ) (m : CodeModule) (old new all : Option ℕ) (q : Name) → i < length ms → m ≡ get_or ms i m → k ≡ i
    → new ≡ first_of old (cond (same_name m.name.now q) (Some k) None)
    → first_of old (number_named i (map module_of (drop i ms)) q) ≡ all → first_of new (number_named (i + 1) (map module_of (drop (i + 1) ms)) q) ≡ all
turn ms i k m old new all q h g n u e =
    let rest : Option ℕ = number_named (suc i) (map module_of (drop (i + 1) ms)) q in
    ap (λ j. first_of new (number_named j (map module_of (drop (i + 1) ms)) q)) (add-one i)
    ∙ (ap (λ o. first_of o rest) (u ∙ ap (λ j. first_of old (cond (same_name m.name.now q) (Some j) None)) n)
    ∙ (one_more (same_name m.name.now q) old rest i ∙ (ap (λ xs. first_of old (number_named i xs q)) (sym (modules_drop ms i m h g)) ∙ e)))

-- the end of the turns
pub all_put : (ms : List CodeModule) (i : ℕ) (old all : Option ℕ) (q : Name) → length ms ≤ i → first_of old (number_named i (map module_of (drop i ms)) q) ≡ all → old ≡ all
all_put ms i old all q h e = no_more old ∙ (ap (λ xs. first_of old (number_named i (map module_of xs) q)) (sym (drop_all i ms h)) ∙ e)

-- A name is taken out.
pub taken_so : (old new : BTreeMap (Bor (List ℕ)) ℕ) (name : Name)
    → tree.UpdatesBy (λ a b. slice_cmp nat_cmp a.now b.now) (λ x. slice_cmp nat_cmp name x.now) old new None → (q : Name)
    → under_name new q ≡ cond (same_name name q) None (under_name old q)
taken_so old new name u q = btree_map_updates_str name old new None u q

pub left_so : (source : Source) (old new : BTreeMap (Bor (List ℕ)) ℕ) (name : Name) → ((q : Name) → under_name new q ≡ cond (same_name name q) None (under_name old q))
    → (q : Name) → left_in source new q ≡ cond (same_name name q) None (left_in source old q)
left_so source old new name e q = ap (option_map (module_at source)) (e q) ∙ mapped_none (same_name name q) (under_name old q)
  where
    mapped_none : (b : Bool) (o : Option ℕ) → option_map (module_at source) (cond b None o) ≡ cond b None (option_map (module_at source) o)
    mapped_none true o = refl
    mapped_none false o = refl

-- ---- numbers and their modules

-- The numbers are those of the modules, where the module with number k + j is the one at j.
named_by : (ms : Source) (k : ℕ) (at : ℕ → Module) → ((j : ℕ) → j < length ms → at (k + j) ≡ module_at ms j) → (q : Name)
    → option_map at (number_named k ms q) ≡ module_named ms q
named_by [] k at h q = refl
named_by (m ∷ ms) k at h q =
    let next : (j : ℕ) → suc k + j ≡ k + suc j = λ j. omega arith in
    by (same_name m.module_name q) (named_by ms (suc k) at (λ j l. ap at (next j) ∙ h (suc j) (omega (arith, l))) q)
  where
    here : at k ≡ m
    here = let e : k ≡ k + 0 = omega arith in ap at e ∙ h 0 (omega arith)

    by : (b : Bool) → option_map at (number_named (suc k) ms q) ≡ module_named ms q
        → option_map at (cond b (Some k) (number_named (suc k) ms q)) ≡ cond b (Some m) (module_named ms q)
    by true e = ap Some here
    by false e = e

pub all_named : (source : Source) (t : BTreeMap (Bor (List ℕ)) ℕ) → ((q : Name) → under_name t q ≡ number_named 0 source q) → (q : Name)
    → left_in source t q ≡ module_named source q
all_named source t h q =
    let from : (j : ℕ) → 0 + j ≡ j = λ j. omega arith in
    ap (option_map (module_at source)) (h q) ∙ named_by source 0 (module_at source) (λ j l. ap (module_at source) (from j)) q

-- ---- numbers within bounds

named_within : (ms : Source) (i k : ℕ) (q : Name) → number_named i ms q ≡ Some k → k < i + length ms
named_within [] i k q e = absurd (none_is k e)
  where
    none_is : (n : ℕ) → None ≡ Some n → ⊥
    none_is n f = false≢true (ap is f)
      where
        is : Option ℕ → Bool
        is None = false
        is (Some x) = true
named_within (m ∷ ms) i k q e = by (same_name m.module_name q) (named_within ms (suc i) k q) e
  where
    from : Option ℕ → ℕ
    from None = k
    from (Some x) = x

    by : (b : Bool) → (number_named (suc i) ms q ≡ Some k → k < suc i + length ms) → cond b (Some i) (number_named (suc i) ms q) ≡ Some k → k < i + suc (length ms)
    by true f g = let same : i ≡ k = ap from g in omega (arith, same)
    by false f g = let l : k < suc i + length ms = f g in omega (arith, l)

-- at the start
pub within_begun : (source : Source) (t : BTreeMap (Bor (List ℕ)) ℕ) → ((q : Name) → under_name t q ≡ number_named 0 source q) → (n : ℕ) → length source ≡ n → AreWithin n t []
within_begun source t h n e =
    record {
      left = λ q k g. let l : k < 0 + length source = named_within source 0 k q (sym (h q) ∙ g) in omega (arith, l, e);
      found = tt;
    }

below_one : (n : ℕ) (ks : List ℕ) (k : ℕ) → AreBelow n ks → k < n → AreBelow n (ks ++ k ∷ [])
below_one n [] k h l = (l, tt)
below_one n (x ∷ ks) k h l = (h.0, below_one n ks k h.1 l)

still_within : (n : ℕ) (old new : BTreeMap (Bor (List ℕ)) ℕ) (name : Name) → ((q : Name) → under_name new q ≡ cond (same_name name q) None (under_name old q))
    → ((q : Name) (k : ℕ) → under_name old q ≡ Some k → k < n) → (q : Name) (k : ℕ) → under_name new q ≡ Some k → k < n
still_within n old new name t h q k e = by (same_name name q) (sym (t q) ∙ e)
  where
    none_is : None ≡ Some k → ⊥
    none_is f = false≢true (ap is f)
      where
        is : Option ℕ → Bool
        is None = false
        is (Some x) = true

    by : (b : Bool) → cond b None (under_name old q) ≡ Some k → k < n
    by true f = absurd (none_is f)
    by false f = h q k f

pub within_taken : (n : ℕ) (old new : BTreeMap (Bor (List ℕ)) ℕ) (name : Name) (ks after : List ℕ) (k : ℕ) → ((q : Name) → under_name new q ≡ cond (same_name name q) None (under_name old q))
    → under_name old name ≡ Some k → after ≡ ks ++ k ∷ [] → AreWithin n old ks → AreWithin n new after
within_taken n old new name ks after k t e f h =
    record {
      left = still_within n old new name t h.left;
      found = subst (AreBelow n) (sym f) (below_one n ks k h.found (h.left name k e));
    }

pub within_kept : (n : ℕ) (old new : BTreeMap (Bor (List ℕ)) ℕ) (name : Name) (ks : List ℕ) → ((q : Name) → under_name new q ≡ cond (same_name name q) None (under_name old q))
    → AreWithin n old ks → AreWithin n new ks
within_kept n old new name ks t h = record { left = still_within n old new name t h.left; found = h.found }
