-- The conditions and updates of well sorted parts.
use Rattle.std.proofs.Common.{◌≡◌, ℕ, suc, ◌<◌, ◌≤◌, Bool, true, false, cond, ◌==◌, nat_le, nat_lt, inl, inr, List, [], ◌∷◌, map, length, Option, Some, None, refl, sym, ◌∙◌, ap, subst, arith}
use Rattle.std.proofs.lemmas.Bool.{false≢true, and_parts}
use Rattle.std.proofs.lemmas.Bool.Decides.{nat_tests}
use Rattle.wb_values.specs.Value.{Name, same_name, Sort, truth, word, memory}
use Rattle.model_meaning.specs.Term.{sort_of}
use Rattle.wb_terms.specs.Graph.{tree}
use Rattle.ila_model.specs.declared.parts.Update.{Update}
use Rattle.ila_model.specs.declared.parts.Instruction.{Instruction}
use Rattle.ila_model.specs.declared.parts.Parts.{Parts}
use Rattle.ila_model.specs.Sorted.{are_distinct, has_sort, is_term_of, is_read_at, sort_at, name_at, is_state_at, are_updates, is_instruction, is_link, child_after, are_instructions}
use Rattle.emitted_modules.specs.Module.{update_for, is_of_memory, updates_for}
use Rattle.emitted_modules.proofs.Names.{Among, AreDistinct, among_map, mapped_from, none_in, differs_in, names_apart}
use Rattle.emitted_modules.proofs.Edge.{names_in}

less_by : (k n : ℕ) → nat_lt k n ≡ true → k < n
less_by k n e = grind (arith, nat_tests, e)

at_most_by : (k n : ℕ) → nat_le k n ≡ true → k ≤ n
at_most_by k n e = grind (arith, nat_tests, e)

same_width : (u w : ℕ) → (u == w) ≡ true → u ≡ w
same_width u w e = grind (arith, nat_tests, e)

sort_by : (o : Option Sort) (t : Sort) → has_sort o t ≡ true → o ≡ Some t
sort_by None t e = absurd (false≢true e)
sort_by (Some truth) truth e = refl
sort_by (Some truth) (word w) e = absurd (false≢true e)
sort_by (Some truth) (memory b c) e = absurd (false≢true e)
sort_by (Some (word u)) truth e = absurd (false≢true e)
sort_by (Some (word u)) (word w) e = ap (λ k. Some (word k)) (same_width u w e)
sort_by (Some (word u)) (memory b c) e = absurd (false≢true e)
sort_by (Some (memory a d)) truth e = absurd (false≢true e)
sort_by (Some (memory a d)) (word w) e = absurd (false≢true e)
sort_by (Some (memory a d)) (memory b c) e =
    let parts = and_parts (a == b) (d == c) e in
    ap (λ k. Some (memory k d)) (same_width a b parts.0) ∙ ap (λ k. Some (memory b k)) (same_width d c parts.1)

-- a term of the store of this sort
pub term_of : (p : Parts) (t : Sort) (k : ℕ) → is_read_at p None t k ≡ true → (k < length p.terms.nodes) × (sort_of (tree p.terms k) ≡ Some t)
term_of p t k e =
    let parts = and_parts (nat_lt k (length p.terms.nodes)) (has_sort (sort_of (tree p.terms k)) t) (and_parts (is_term_of p.terms t k) _ e).0 in
    (less_by k (length p.terms.nodes) parts.0, sort_by (sort_of (tree p.terms k)) t parts.1)

-- what is known of an instruction
pub instruction_sorted : (p : Parts) (from : ℕ) (is : List Instruction) (i : Instruction) → are_instructions p None from is ≡ true → Among i is
    → is_instruction p None i ≡ true
instruction_sorted p from [] i e h = absurd h
instruction_sorted p from (x ∷ is) i e (inl f) = subst (λ y. is_instruction p None y ≡ true) f (and_parts (is_instruction p None x) _ e).0
instruction_sorted p from (x ∷ is) i e (inr h) =
    instruction_sorted p (child_after from x.child) is i
    (and_parts (is_link p.children.items None from x.child) _ (and_parts (is_instruction p None x) _ e).1).1 h

-- ---- updates

-- what is known of an update
pub record IsUpdateOf (p : Parts) (from : ℕ) (u : Update) : Type 0 where
  pub behind : from ≤ u.state.0
  pub in_table : u.state.0 < length p.terms.names
  pub read : is_read_at p None (sort_at p.terms.names u.state.0) u.term.0 ≡ true

first_update : (p : Parts) (from : ℕ) (u : Update) (us : List Update) → are_updates p None from (u ∷ us) ≡ true
    → IsUpdateOf p from u × (are_updates p None (suc u.state.0) us ≡ true)
first_update p from u us e =
    let a = and_parts (nat_le from u.state.0) _ e in
    let b = and_parts (is_state_at p None u.state.0) _ a.1 in
    let c = and_parts (is_read_at p None (sort_at p.terms.names u.state.0) u.term.0) _ b.1 in
    let d = and_parts (nat_lt u.state.0 (length p.terms.names)) _ b.0 in
    (record { behind = at_most_by from u.state.0 a.0; in_table = less_by u.state.0 (length p.terms.names) d.0; read = c.0 }, c.1)

pub update_sorted : (p : Parts) (from : ℕ) (us : List Update) (u : Update) → are_updates p None from us ≡ true → Among u us → IsUpdateOf p from u
update_sorted p from [] u e h = absurd h
update_sorted p from (x ∷ us) u e (inl f) = subst (IsUpdateOf p from) f (first_update p from x us e).0
update_sorted p from (x ∷ us) u e (inr h) =
    let first = first_update p from x us e in
    let later = update_sorted p (suc x.state.0) us u first.1 h in
    record { behind = before from x.state.0 u.state.0 first.0.behind later.behind; in_table = later.in_table; read = later.read }
  where
    before : (a b c : ℕ) → a ≤ b → suc b ≤ c → a ≤ c
    before a b c l m = omega (arith, l, m)

-- the names of the states that are updated
abbrev pub update_names : Parts → List Update → List Name
update_names p us = map (λ u. name_at p.terms.names u.state.0) us

-- no state is updated twice
pub updates_distinct : (p : Parts) (from : ℕ) (us : List Update) → are_distinct p.terms.names ≡ true → are_updates p None from us ≡ true
    → AreDistinct (update_names p us)
updates_distinct p from [] d e = tt
updates_distinct p from (u ∷ us) d e =
    let first = first_update p from u us e in (
      none_in (name_at p.terms.names u.state.0) (update_names p us) (λ k at. later us first.0.in_table first.1 k at),
      updates_distinct p (suc u.state.0) us d first.1,
    )
  where
    before : (a b : ℕ) → suc a ≤ b → a ≡ b → ⊥
    before a b l q = omega (arith, l, q)

    differs : (x : Update) → u.state.0 < length p.terms.names → IsUpdateOf p (suc u.state.0) x
        → same_name (name_at p.terms.names u.state.0) (name_at p.terms.names x.state.0) ≡ false
    differs x low g =
        names_apart p.terms.names u.state.0 x.state.0 d low g.in_table (λ q. before u.state.0 x.state.0 g.behind q)

    later : (xs : List Update) → u.state.0 < length p.terms.names → are_updates p None (suc u.state.0) xs ≡ true → (k : Name)
        → Among k (update_names p xs) → same_name (name_at p.terms.names u.state.0) k ≡ false
    later xs low g k at =
        let x = mapped_from (λ (y : Update). name_at p.terms.names y.state.0) k xs at in
        subst (λ n. same_name (name_at p.terms.names u.state.0) n ≡ false) x.2 (differs x.0 low (update_sorted p (suc u.state.0) xs x.0 g x.1))

-- ---- updates of truth values and words

pub update_from : (p : Parts) (us : List Update) (n : Name) → Among n (names_in (updates_for p.terms us))
    → (u : Update) × Among u us × (is_of_memory p.terms u ≡ false) × (name_at p.terms.names u.state.0 ≡ n)
update_from p [] n at = absurd at
update_from p (u ∷ us) n at = by_test (is_of_memory p.terms u) refl at (λ k. update_from p us n k)
  where
    by_test : (b : Bool) → is_of_memory p.terms u ≡ b → Among n (names_in (cond b (updates_for p.terms us) (update_for p.terms u ∷ updates_for p.terms us)))
        → (Among n (names_in (updates_for p.terms us)) → (x : Update) × Among x us × (is_of_memory p.terms x ≡ false) × (name_at p.terms.names x.state.0 ≡ n))
        → (x : Update) × Among x (u ∷ us) × (is_of_memory p.terms x ≡ false) × (name_at p.terms.names x.state.0 ≡ n)
    by_test true e k more = let x = more k in (x.0, inr x.1, x.2, x.3)
    by_test false e (inl f) more = (u, inl refl, e, f)
    by_test false e (inr k) more = let x = more k in (x.0, inr x.1, x.2, x.3)

pub words_distinct : (p : Parts) (us : List Update) → AreDistinct (update_names p us) → AreDistinct (names_in (updates_for p.terms us))
words_distinct p [] d = tt
words_distinct p (u ∷ us) d = by_test (is_of_memory p.terms u) (words_distinct p us d.1)
  where
    by_test : (b : Bool) → AreDistinct (names_in (updates_for p.terms us))
        → AreDistinct (names_in (cond b (updates_for p.terms us) (update_for p.terms u ∷ updates_for p.terms us)))
    by_test true e = e
    by_test false e = (
      none_in (name_at p.terms.names u.state.0) (names_in (updates_for p.terms us))
          (λ k at. let x = update_from p us k at in
          differs_in (name_at p.terms.names u.state.0) k (update_names p us) d.0
          (subst (λ n. Among n (update_names p us)) x.3 (among_map (λ (y : Update). name_at p.terms.names y.state.0) x.0 us x.1))),
      e,
    )

pub update_in : (p : Parts) (us : List Update) (u : Update) → Among u us → is_of_memory p.terms u ≡ false → Among (update_for p.terms u) (updates_for p.terms us)
update_in p [] u at e = absurd at
update_in p (x ∷ us) u (inl f) e =
    subst (λ (y : Update). Among (update_for p.terms y) (updates_for p.terms (x ∷ us))) f
    (subst (λ b. Among (update_for p.terms x) (cond b (updates_for p.terms us) (update_for p.terms x ∷ updates_for p.terms us)))
    (sym (ap (is_of_memory p.terms) f ∙ e)) (inl refl))
update_in p (x ∷ us) u (inr at) e = by_test (is_of_memory p.terms x) (update_in p us u at e)
  where
    by_test : (b : Bool) → Among (update_for p.terms u) (updates_for p.terms us)
        → Among (update_for p.terms u) (cond b (updates_for p.terms us) (update_for p.terms x ∷ updates_for p.terms us))
    by_test true k = k
    by_test false k = inr k
