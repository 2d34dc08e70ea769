-- The table of numbers has under each name that of the first module that has it.
use Rattle.std.proofs.Common.{◌≡◌, ◌∙◌, refl, ap, sym, ℕ, suc, ◌+◌, ◌<◌, Bool, true, false, cond, List, [], ◌∷◌, length, drop, get_or, map, Bor, Option, Some, None, option_map, add-one, drop-cons, arith}
use Rattle.std.specs.Prelude.{slice_get}
use Rattle.std.specs.Ordering.{nat_cmp}
use Rattle.std.specs.Cmp.Lexicographic.{slice_cmp}
use Rattle.std.specs.BTreeMap as tree
use Rattle.std.specs.BTreeMap.{BTreeMap}
use Rattle.std.proofs.lemmas.Slice.Eq.{bytes_eq-Decides}
use Rattle.std.proofs.lemmas.Map.Text.{btree_map_updates_str}
use Rattle.wb_values.specs.Value.{Name, same_name}
use Rattle.wb_values.specs.Choice.{first_of}
use Rattle.verilog_trees.specs.Syntax as pure
use Rattle.verilog_meaning.specs.Hierarchy.{module_named}
use Rattle.v_syntax.specs.declared.module.Module.{Module}
use Rattle.v_syntax.specs.Source.{module_of}
use Rattle.v_places.specs.Views.{number_in, module_at, module_in}

abbrev after : Option ℕ → Name → ℕ → Name → Option ℕ
after o name i q = first_of o (cond (same_name name q) (Some i) None)

-- the number of the first module of a name, where the first of these has this number
abbrev pub number_named : ℕ → List Module → Name → Option ℕ
number_named k [] q = None
number_named k (m ∷ ms) q = cond (same_name m.name.now q) (Some k) (number_named (suc k) ms q)

pub no_more : (o : Option ℕ) → o ≡ first_of o None
no_more None = refl
no_more (Some y) = refl

-- a name that is there already
pub stays : (t : BTreeMap (Bor (List ℕ)) ℕ) (name : Name) (i x : ℕ) (q : Name) → number_in t name ≡ Some x → number_in t q ≡ after (number_in t q) name i q
stays t name i x q e =
    (elim (same_name name q) as (λ b. same_name name q ≡ b
    → number_in t q ≡ first_of (number_in t q) (cond b (Some i) None)) [
      | true ↦ λ h. found (ap (number_in t) (sym ((bytes_eq-Decides name q).0 h)) ∙ e)
      | false ↦ λ h. no_more (number_in t q)
    ]) refl
  where
    found : number_in t q ≡ Some x → number_in t q ≡ first_of (number_in t q) (Some i)
    found f = f ∙ sym (ap (λ o. first_of o (Some i)) f)

-- a name that is new
pub stands : (old new : BTreeMap (Bor (List ℕ)) ℕ) (name : Bor (List ℕ)) (i : ℕ) → number_in old name.now ≡ None
    → tree.Updates (λ a b. slice_cmp nat_cmp a.now b.now) old new name (Some i) → (q : Name) → number_in new q ≡ after (number_in old q) name.now i q
stands old new name i e u q =
    btree_map_updates_str name.now old new (Some i) u q
    ∙ (elim (same_name name.now q) as (λ b. same_name name.now q ≡ b
    → cond b (Some i) (number_in old q) ≡ first_of (number_in old q) (cond b (Some i) None)) [
      | true ↦ λ h. absent (ap (number_in old) (sym ((bytes_eq-Decides name.now q).0 h)) ∙ e)
      | false ↦ λ h. no_more (number_in old q)
    ]) refl
  where
    absent : number_in old q ≡ None → Some i ≡ first_of (number_in old q) (Some i)
    absent f = sym (ap (λ o. first_of o (Some i)) f)

one_more : (b : Bool) (o p : Option ℕ) (x : ℕ) → first_of (first_of o (cond b (Some x) None)) p ≡ first_of o (cond b (Some x) p)
one_more true None p x = refl
one_more true (Some y) p x = refl
one_more false None p x = refl
one_more false (Some y) p x = refl

-- a turn that puts a number into the table
pub turn : (ms : List Module) (i k : ℕ) (d : Module) (old new all : Option ℕ) (q : Name) → i < length ms → d ≡ get_or ms i d → k ≡ i
    → new ≡ after old d.name.now k q → first_of old (number_named i (drop i ms) q) ≡ all → first_of new (number_named (i + 1) (drop (i + 1) ms) q) ≡ all
turn ms i k d old new all q h g n u e =
    let rest : Option ℕ = number_named (suc i) (drop (i + 1) ms) q in
    ap (λ j. first_of new (number_named j (drop (i + 1) ms) q)) (add-one i)
    ∙ (ap (λ o. first_of o rest) (u ∙ ap (λ j. after old d.name.now j q) n)
    ∙ (one_more (same_name d.name.now q) old rest i
    ∙ (ap (λ xs. first_of old (number_named i xs q)) (sym parted) ∙ e)))
  where
    parted : drop i ms ≡ d ∷ drop (i + 1) ms
    parted = rw (add-one, drop-cons ms i d h) (ap (λ c. c ∷ drop (suc i) ms) (sym g))

-- what stands at a number, by any list
abbrev found : (ℕ → Option Module) → Option ℕ → Option pure.Module
found at None = None
found at (Some k) = option_map module_of (at k)

same_found : (ms : List Module) (o : Option ℕ) → module_at ms o ≡ found (slice_get ms) o
same_found ms None = refl
same_found ms (Some k) = refl

all_found : (ms : List Module) (k : ℕ) (at : ℕ → Option Module) → ((j : ℕ) → at (k + j) ≡ slice_get ms j) → (q : Name)
    → found at (number_named k ms q) ≡ module_named (map module_of ms) q
all_found [] k at h q = refl
all_found (m ∷ ms) k at h q =
    let next : (j : ℕ) → suc k + j ≡ k + suc j = λ j. omega arith in
    by (same_name m.name.now q) (all_found ms (suc k) at (λ j. ap at (next j) ∙ h (suc j)) q)
  where
    here : option_map module_of (at k) ≡ Some (module_of m)
    here = let e : k ≡ k + 0 = omega arith in ap (λ j. option_map module_of (at j)) e ∙ ap (option_map module_of) (h 0)

    by : (b : Bool) → found at (number_named (suc k) ms q) ≡ module_named (map module_of ms) q
        → found at (cond b (Some k) (number_named (suc k) ms q)) ≡ cond b (Some (module_of m)) (module_named (map module_of ms) q)
    by true e = here
    by false e = e

-- all of them, by their names
pub all_named : (ms : List Module) (t : BTreeMap (Bor (List ℕ)) ℕ) → ((q : Name) → number_in t q ≡ number_named 0 ms q) → (q : Name)
    → module_in ms t q ≡ module_named (map module_of ms) q
all_named ms t h q =
    let from : (j : ℕ) → 0 + j ≡ j = λ j. omega arith in
    ap (module_at ms) (h q) ∙ (same_found ms (number_named 0 ms q) ∙ all_found ms 0 (slice_get ms) (λ j. ap (slice_get ms) (from j)) q)
