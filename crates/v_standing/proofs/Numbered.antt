-- The modules of a list of numbers.
use Rattle.std.proofs.Common.{◌≡◌, ◌≤◌, ◌<◌, ◌∙◌, refl, ap, sym, subst, ℕ, zero, suc, ◌+◌, List, [], ◌∷◌, ◌++◌, append_assoc, append-nil, length, drop, get_or, Bor, Option, Some, None, option_map, map, add-one, drop-cons, arith}
use Rattle.std.proofs.lemmas.List.{drop_all}
use Rattle.std.proofs.lemmas.Option.{slice_get_read}
use Rattle.std.specs.Prelude.{slice_get}
use Rattle.std.specs.Slice.{IsItemAt}
use Rattle.verilog_trees.specs.Syntax.{Source}
use Rattle.v_syntax.specs.declared.module.Module.{Module as CodeModule}
use Rattle.v_syntax.specs.Source.{module_of}
use Rattle.v_standing.specs.Standing.{modules_of, numbered, module_at, items_of, one_if_any, AreBelow}

none_past : (ms : List CodeModule) (k : ℕ) → length ms ≤ k → slice_get ms k ≡ None
none_past [] k h = refl
none_past (m ∷ ms) zero h = absurd (omega (arith, h))
none_past (m ∷ ms) (suc k) h = none_past ms k (omega (arith, h))

-- what `get` gives
got : (ms : List CodeModule) (k : ℕ) (o : Option (Bor CodeModule)) → IsItemAt ms k o → option_map (λ m. module_of m.now) o ≡ option_map module_of (slice_get ms k)
got ms k None h = sym (ap (option_map module_of) (none_past ms k h.3))
got ms k (Some m) h = sym (ap (option_map module_of) (slice_get_read ms (length ms) k m.now refl h.3.0 h.1))

-- the items of the module with a number
items_at : (ms : List CodeModule) (k : ℕ) → items_of (option_map module_of (slice_get ms k)) ≡ (module_at (map module_of ms) k).items
items_at [] k = refl
items_at (m ∷ ms) zero = refl
items_at (m ∷ ms) (suc k) = items_at ms k

pub items_got : (ms : List CodeModule) (k : ℕ) (o : Option (Bor CodeModule)) → IsItemAt ms k o
    → items_of (option_map (λ m. module_of m.now) o) ≡ (module_at (map module_of ms) k).items
items_got ms k o h = ap items_of (got ms k o h) ∙ items_at ms k

-- the module with a number that is there
there : (ms : List CodeModule) (k : ℕ) → k < length ms → option_map module_of (slice_get ms k) ≡ Some (module_at (map module_of ms) k)
there [] k h = absurd (omega (arith, h))
there (m ∷ ms) zero h = refl
there (m ∷ ms) (suc k) h = there ms k (omega (arith, h))

-- ---- the loop over the numbers

pub list_begun : (ms : List CodeModule) (ks : List ℕ) (list : List (Bor CodeModule)) → list ≡ [] → AreBelow (length ms) ks
    → AreBelow (length ms) ks × (modules_of list ++ numbered (map module_of ms) ks ≡ numbered (map module_of ms) ks)
list_begun ms ks list e h = (h, ap (λ xs. modules_of xs ++ numbered (map module_of ms) ks) e)

pub list_on : (ms : List CodeModule) (ks : List ℕ) (i : ℕ) (o : Option (Bor CodeModule)) (list after : List (Bor CodeModule)) → i < length ks → IsItemAt ms (get_or ks i 0) o
    → modules_of after ≡ modules_of list ++ one_if_any (option_map (λ m. module_of m.now) o)
    → AreBelow (length ms) (drop i ks) × (modules_of list ++ numbered (map module_of ms) (drop i ks) ≡ numbered (map module_of ms) ks)
    → AreBelow (length ms) (drop (i + 1) ks) × (modules_of after ++ numbered (map module_of ms) (drop (i + 1) ks) ≡ numbered (map module_of ms) ks)
list_on ms ks i o list after h r a inv =
    let k : ℕ = get_or ks i 0 in
    let source : Source = map module_of ms in
    let rest : List ℕ = drop (i + 1) ks in
    let bounds : (k < length ms) × AreBelow (length ms) rest = subst (AreBelow (length ms)) parted inv.0 in
    let one : one_if_any (option_map (λ m. module_of m.now) o) ≡ module_at source k ∷ [] = ap one_if_any (got ms k o r ∙ there ms k bounds.0) in (
      bounds.1,
      ap (λ xs. xs ++ numbered source rest) (a ∙ ap (λ xs. modules_of list ++ xs) one)
          ∙ (append_assoc (modules_of list) (module_at source k ∷ []) (numbered source rest) ∙ (ap (λ xs. modules_of list ++ numbered source xs) (sym parted) ∙ inv.1)),
    )
  where
    parted : drop i ks ≡ get_or ks i 0 ∷ drop (i + 1) ks
    parted = rw (add-one, drop-cons ks i 0 h) refl

pub list_ended : (ms : List CodeModule) (ks : List ℕ) (i : ℕ) (list : List (Bor CodeModule)) → length ks ≤ i
    → AreBelow (length ms) (drop i ks) × (modules_of list ++ numbered (map module_of ms) (drop i ks) ≡ numbered (map module_of ms) ks) → modules_of list ≡ numbered (map module_of ms) ks
list_ended ms ks i list h inv =
    sym (append-nil (modules_of list)) ∙ (ap (λ xs. modules_of list ++ numbered (map module_of ms) xs) (sym (drop_all i ks h)) ∙ inv.1)
