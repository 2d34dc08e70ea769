-- Overrides are gathered connection by connection.
use Rattle.std.proofs.Common.{◌≡◌, ◌∙◌, refl, ap, sym, ℕ, suc, ◌+◌, ◌<◌, ◌≤◌, Bool, true, false, true≢false, cond, List, [], ◌∷◌, ◌++◌, length, drop, get_or, Bor, Option, Some, None, map, add-one, drop-cons, arith, min, nat_le, ◌⊎◌, inl, inr}
use Rattle.std.proofs.lemmas.Bool.Decides.{nat_tests}
use Rattle.std.specs.Ordering.{nat_cmp}
use Rattle.std.specs.Cmp.Lexicographic.{slice_cmp}
use Rattle.std.specs.BTreeSet as sorted
use Rattle.std.specs.BTreeSet.{BTreeSet}
use Rattle.std.specs.List.{list_any}
use Rattle.std.specs.BTreeMap.{is_at}
use Rattle.std.proofs.lemmas.Slice.Eq.{bytes_eq-Decides}
use Rattle.std.proofs.lemmas.Map.Text.{is_eq-slice_cmp}
use Rattle.std.proofs.lemmas.List.{drop_all}
use Rattle.wb_values.specs.Value.{Name, same_name, entry_of}
use Rattle.wb_values.specs.Choice.{first_of}
use Rattle.verilog_trees.specs.Syntax as pure
use Rattle.verilog_meaning.specs.Expression as meaning
use Rattle.verilog_meaning.specs.Expression.{Scope}
use Rattle.verilog_meaning.specs.Hierarchy.{joined_option, in_order}
use Rattle.verilog_designs.specs.Known.{KnownOverrides}
use Rattle.v_syntax.specs.declared.tree.Expression.{Expression}
use Rattle.v_syntax.specs.declared.module.NamedConnection.{NamedConnection}
use Rattle.v_syntax.specs.Source.{optional_tree_of}
use Rattle.v_constants.specs.declared.given.Override.{Override}
use Rattle.v_constants.specs.Given.{value_of, given_of, has_name, IsGathered, before, gives, named_given, ordered_given}
use Rattle.v_constants.proofs.Entered.{one_behind}

abbrev Given : Type 0
Given = Option (Option meaning.Object)

-- ---- one connection

pub skipped : (met : Name → Bool) (list : List Override) (m : Name) (g : Given) (rest all : KnownOverrides) → met m ≡ true
    → IsGathered met list (before m g rest) all → IsGathered met list rest all
skipped met list m g rest all k h = record { whole = λ n. by_name n (same_name m n) refl; unmet = h.unmet }
  where
    by_name : (n : Name) (b : Bool) → same_name m n ≡ b → cond (met n) (given_of list n) (rest n) ≡ all n
    by_name n true q =
        let t : met n ≡ true = ap met (sym ((bytes_eq-Decides m n).0 q)) ∙ k in
        ap (λ b. cond b (given_of list n) (rest n)) t ∙ (sym (ap (λ b. cond b (given_of list n) (before m g rest n)) t) ∙ h.whole n)
    by_name n false q = ap (λ b. cond (met n) (given_of list n) (cond b g (rest n))) (sym q) ∙ h.whole n

has_more : (s n : BTreeSet (Bor (List ℕ))) (k : Bor (List ℕ)) (b : Bool) → sorted.Updates (λ x y. slice_cmp nat_cmp x.now y.now) s n k b → (q : Name)
    → has_name n q ≡ cond (same_name k.now q) b (has_name s q)
has_more s n k b u q =
    let at_q : Bor (List ℕ) = record { ref_ptr = (0, 0); now = q } in
    u.0 at_q ∙ ap (λ t. cond t b (has_name s q)) (is_eq-slice_cmp k.now q)

module _ (s t : BTreeSet (Bor (List ℕ))) (k : Bor (List ℕ)) (u : sorted.Updates (λ x y. slice_cmp nat_cmp x.now y.now) s t k true) (absent : has_name s k.now ≡ false) where
  added : (old new : List Override) (g : Given) (rest all : KnownOverrides)
      → ((n : Name) → given_of new n ≡ first_of (given_of old n) (cond (same_name k.now n) g None))
      → IsGathered (has_name s) old (before k.now g rest) all → IsGathered (has_name t) new rest all
  added old new g rest all f h = record { whole = λ n. whole_at n (same_name k.now n) refl; unmet = λ n e. unmet_at n e (same_name k.now n) refl }
    where
      none_more : (o : Given) → first_of o None ≡ o
      none_more None = refl
      none_more (Some x) = refl

      other : (n : Name) → same_name k.now n ≡ false → given_of new n ≡ given_of old n
      other n q = f n ∙ (ap (λ b. first_of (given_of old n) (cond b g None)) q ∙ none_more (given_of old n))

      met_after : (n : Name) (b : Bool) → same_name k.now n ≡ b → has_name t n ≡ cond b true (has_name s n)
      met_after n b q = has_more s t k true u n ∙ ap (λ c. cond c true (has_name s n)) q

      whole_at : (n : Name) (b : Bool) → same_name k.now n ≡ b → cond (has_name t n) (given_of new n) (rest n) ≡ all n
      whole_at n true q =
          let old_met : has_name s n ≡ false = ap (has_name s) (sym ((bytes_eq-Decides k.now n).0 q)) ∙ absent in
          let given : given_of new n ≡ g
          = f n ∙ (ap (λ b. first_of (given_of old n) (cond b g None)) q ∙ ap (λ o. first_of o g) (h.unmet n old_met)) in
          ap (λ b. cond b (given_of new n) (rest n)) (met_after n true q)
          ∙ (given
          ∙ (sym (ap (λ b. cond b (given_of old n) (cond (same_name k.now n) g (rest n))) old_met ∙ ap (λ b. cond b g (rest n)) q)
          ∙ h.whole n))
      whole_at n false q =
          ap (λ b. cond b (given_of new n) (rest n)) (met_after n false q)
          ∙ (ap (λ o. cond (has_name s n) o (rest n)) (other n q)
          ∙ (ap (λ b. cond (has_name s n) (given_of old n) (cond b g (rest n))) (sym q)
          ∙ h.whole n))

      unmet_at : (n : Name) → has_name t n ≡ false → (b : Bool) → same_name k.now n ≡ b → given_of new n ≡ None
      unmet_at n e true q = absurd (true≢false (sym (met_after n true q) ∙ e))
      unmet_at n e false q = other n q ∙ h.unmet n (sym (met_after n false q) ∙ e)

  -- nothing is given
  pub left_out : (list : List Override) (g : Given) (rest all : KnownOverrides) → g ≡ None
      → IsGathered (has_name s) list (before k.now g rest) all → IsGathered (has_name t) list rest all
  left_out list g rest all e =
      added list list g rest all (λ n. sym (ap (λ x. first_of (given_of list n) (cond (same_name k.now n) x None)) e ∙ nothing (same_name k.now n) (given_of list n)))
    where
      nothing : (b : Bool) (o : Given) → first_of o (cond b None None) ≡ o
      nothing true None = refl
      nothing true (Some x) = refl
      nothing false None = refl
      nothing false (Some x) = refl

  -- an override is given
  pub put : (old new : List Override) (d : Override) (g : Given) (rest all : KnownOverrides) → d.name.now ≡ k.now → g ≡ Some (value_of d) → new ≡ old ++ d ∷ []
      → IsGathered (has_name s) old (before k.now g rest) all → IsGathered (has_name t) new rest all
  put old new d g rest all i e p =
      added old new g rest all (λ n. ap (λ ds. given_of ds n) p ∙ (one_behind old d n
      ∙ (ap (λ m. first_of (given_of old n) (cond (same_name m n) (Some (value_of d)) None)) i
      ∙ ap (λ x. first_of (given_of old n) (cond (same_name k.now n) x None)) (sym e))))

-- ---- all connections

-- the rest may be told otherwise
pub gathered_by : (met : Name → Bool) (list : List Override) (r q all : KnownOverrides) → ((n : Name) → q n ≡ r n) → IsGathered met list r all → IsGathered met list q all
gathered_by met list r q all e h = record { whole = λ n. ap (cond (met n) (given_of list n)) (e n) ∙ h.whole n; unmet = h.unmet }

-- nothing is gathered yet
pub begun : (s : BTreeSet (Bor (List ℕ))) (list : List Override) (all : KnownOverrides) → s.keys ≡ [] → list ≡ [] → IsGathered (has_name s) list all all
begun s list all f e = record { whole = λ n. ap (λ b. cond b (given_of list n) (all n)) (none n); unmet = λ n h. ap (λ ds. given_of ds n) e }
  where
    none : (n : Name) → has_name s n ≡ false
    none n = ap (λ ks. list_any (is_at (λ k. slice_cmp nat_cmp n k.now)) ks) f

-- all is gathered
pub ended : (met : Name → Bool) (list : List Override) (rest all : KnownOverrides) → ((n : Name) → rest n ≡ None) → IsGathered met list rest all → (n : Name) → given_of list n ≡ all n
ended met list rest all f h n = by_met (met n) refl
  where
    by_met : (b : Bool) → met n ≡ b → given_of list n ≡ all n
    by_met true e = sym (ap (λ b. cond b (given_of list n) (rest n)) e) ∙ h.whole n
    by_met false e = h.unmet n e ∙ (sym (f n) ∙ (sym (ap (λ b. cond b (given_of list n) (rest n)) e) ∙ h.whole n))

-- ---- connections by name

abbrev pub by_names : List NamedConnection → List (Name × Option pure.Expression)
by_names cs = map (λ c. (c.name.now, optional_tree_of c.value)) cs

named_before : (s : Scope) (b : Bool) (e : Option pure.Expression) (o : Option (Option pure.Expression)) → gives s (joined_option (cond b (Some e) o)) ≡ cond b (gives s e) (gives s (joined_option o))
named_before s true e o = refl
named_before s false e o = refl

pub named_turn : (s : Scope) (cs : List NamedConnection) (i : ℕ) (c : NamedConnection) → i < length cs → c ≡ get_or cs i c
    → (n : Name) → before c.name.now (gives s (optional_tree_of c.value)) (named_given s (by_names (drop (i + 1) cs))) n ≡ named_given s (by_names (drop i cs)) n
named_turn s cs i c h e n =
    let rest : List NamedConnection = drop (i + 1) cs in
    let split : drop i cs ≡ c ∷ rest = parted in
    sym (ap (λ ds. named_given s (by_names ds) n) split ∙ named_before s (same_name c.name.now n) (optional_tree_of c.value) (entry_of (by_names rest) n))
  where
    parted : drop i cs ≡ c ∷ drop (i + 1) cs
    parted = rw (add-one, drop-cons cs i c h) (ap (λ d. d ∷ drop (suc i) cs) (sym e))

pub named_end : (s : Scope) (cs : List NamedConnection) (i : ℕ) → length cs ≤ i → (n : Name) → named_given s (by_names (drop i cs)) n ≡ None
named_end s cs i h n = ap (λ ds. named_given s (by_names ds) n) (drop_all i cs h)

-- ---- connections by order

abbrev pub names_of : List (Bor (List ℕ)) → List Name
names_of ms = map (λ m. m.now) ms

order_before : (s : Scope) (b : Bool) (e o : Option pure.Expression) → gives s (cond b e o) ≡ cond b (gives s e) (gives s o)
order_before s true e o = refl
order_before s false e o = refl

pub order_turn : (s : Scope) (es : List (Option Expression)) (ms : List (Bor (List ℕ))) (i : ℕ) (e : Option Expression) (m : Bor (List ℕ)) → i < length es → i < length ms
    → e ≡ get_or es i e
    → (n : Name) → before (get_or ms i m).now (gives s (optional_tree_of e)) (ordered_given s (map optional_tree_of (drop (i + 1) es)) (names_of (drop (i + 1) ms))) n
    ≡ ordered_given s (map optional_tree_of (drop i es)) (names_of (drop i ms)) n
order_turn s es ms i e m h k p n =
    sym (ap (λ ds. ordered_given s (map optional_tree_of ds) (names_of (drop i ms)) n) one
    ∙ (ap (λ ds. ordered_given s (optional_tree_of e ∷ map optional_tree_of (drop (i + 1) es)) (names_of ds) n) two
    ∙ order_before s (same_name (get_or ms i m).now n) (optional_tree_of e) (in_order (map optional_tree_of (drop (i + 1) es)) (names_of (drop (i + 1) ms)) n)))
  where
    one : drop i es ≡ e ∷ drop (i + 1) es
    one = rw (add-one, drop-cons es i e h) (ap (λ d. d ∷ drop (suc i) es) (sym p))

    two : drop i ms ≡ get_or ms i m ∷ drop (i + 1) ms
    two = rw (add-one, drop-cons ms i m k) refl

pub first_left : (i e a b : ℕ) → i < e → e ≡ min a b → i < a
first_left i e a b h k = omega (arith, h, k)

pub second_left : (i e a b : ℕ) → i < e → e ≡ min a b → i < b
second_left i e a b h k = omega (arith, h, k)

no_names : (s : Scope) (es : List (Option pure.Expression)) (n : Name) → ordered_given s es [] n ≡ None
no_names s [] n = refl
no_names s (e ∷ es) n = refl

pub order_end : (s : Scope) (es : List (Option Expression)) (ms : List (Bor (List ℕ))) (i : ℕ) → min (length es) (length ms) ≤ i
    → (n : Name) → ordered_given s (map optional_tree_of (drop i es)) (names_of (drop i ms)) n ≡ None
order_end s es ms i h n =
    elim (shorter (length es) (length ms) h) as (λ _. ordered_given s (map optional_tree_of (drop i es)) (names_of (drop i ms)) n ≡ None) [
      | inl k ↦ ap (λ ds. ordered_given s (map optional_tree_of ds) (names_of (drop i ms)) n) (drop_all i es k)
      | inr k ↦ ap (λ ds. ordered_given s (map optional_tree_of (drop i es)) (names_of ds) n) (drop_all i ms k) ∙ no_names s (map optional_tree_of (drop i es)) n
    ]
  where
    shorter : (a b : ℕ) → min a b ≤ i → (a ≤ i) ⊎ (b ≤ i)
    shorter a b k = by_test (nat_le a i) refl
      where
        by_test : (t : Bool) → nat_le a i ≡ t → (a ≤ i) ⊎ (b ≤ i)
        by_test true e = inl (grind (arith, nat_tests, e))
        by_test false e = inr (grind (arith, nat_tests, e, k))
