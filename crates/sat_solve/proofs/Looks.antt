-- A look at a clause, one of whose watched literals has become false.
use Rattle.std.proofs.Common.{◌≡◌, ◌≢◌, ℕ, ◌*◌, ◌<◌, List, [], ◌∷◌, ◌++◌, length, set, get_or, map, ◌⊎◌, inl, inr, ⊎_elim, Some, sym, ap, ◌∙◌, subst, arith}
use Rattle.std.specs.List.{Contains, slice_get}
use Rattle.std.proofs.lemmas.List.{get_or-map, length-map, get_or_default}
use Rattle.sat_base.specs.declared.literals.Lit.{Lit}
use Rattle.sat_base.specs.declared.logs.Lemma.{Lemma}
use Rattle.sat_base.specs.Formula.{Formula}
use Rattle.sat_solve.specs.declared.trail.Entry.{Entry}
use Rattle.sat_solve.specs.declared.lists.Watch.{Watch}
use Rattle.sat_solve.specs.Trail.{IsFalseIn}
use Rattle.sat_solve.specs.Kept.{TrailView}
use Rattle.sat_solve.specs.State.{known_clauses, IsState}
use Rattle.sat_base.specs.Codes.{literal_of}
use Rattle.sat_solve.specs.Held.{Held}
use Rattle.sat_solve.specs.Watches.{IsPaired, IsMove}
use Rattle.sat_base.proofs.CodeLemmas.{same_code, code_of_literal, code_below}
use Rattle.sat_solve.proofs.StateLemmas.{known_literal}
use Rattle.sat_solve.proofs.SearchLemmas.{clause_of}

-- the watched literal that is not the one of the code
abbrev pub IsOther : Held → (code other : ℕ) → Type 0
IsOther h code other = ((other ≡ h.first) ⊎ (other ≡ h.second)) × (other ≡ code → h.first ≡ h.second)

pub other_then : (h : Held) (code other first second : ℕ) → (first ≡ h.first) × (second ≡ h.second) → first ≡ code → other ≡ second → IsOther h code other
other_then h code other first second pair is same = (inr (same ∙ pair.1), λ e. sym pair.0 ∙ is ∙ sym e ∙ same ∙ pair.1)

pub other_else : (h : Held) (code other first second : ℕ) → (first ≡ h.first) × (second ≡ h.second) → (first ≡ code → ⊥) → other ≡ first → IsOther h code other
other_else h code other first second pair differ same = (inl (same ∙ pair.0), λ e. absurd (differ (sym same ∙ e)))

module _ (h : Held) (codes : List ℕ) (are : map literal_of codes ≡ h.lits) where
  pub in_clause : (c : ℕ) → Contains codes c → Contains h.lits (literal_of c)
  in_clause c i = subst (λ ls. Contains ls (literal_of c)) are (i.0, omega (arith, i.1, length-map codes literal_of), get_or-map literal_of codes i.0 c (literal_of c) i.1 ∙ ap literal_of i.2)

  pub of_clause : (x : Lit) → Contains h.lits x → (c : ℕ) × Contains codes c × (literal_of c ≡ x)
  of_clause x i =
      let j : Contains (map literal_of codes) x = subst (λ ls. Contains ls x) (sym are) i in
      let l : j.0 < length codes = omega (arith, j.1, length-map codes literal_of) in
      (get_or codes j.0 0, (j.0, l, get_or_same codes j.0 l), sym (get_or-map literal_of codes j.0 0 x l) ∙ j.2)
    where
      get_or_same : (cs : List ℕ) (i : ℕ) → i < length cs → get_or cs i (get_or cs i 0) ≡ get_or cs i 0
      get_or_same cs i l = get_or_default cs i (get_or cs i 0) 0 l

  -- all literals are false, but perhaps the other
  pub all_but : (trail : List Entry) (other : ℕ) → ((c : ℕ) → Contains codes c → (c ≡ other) ⊎ IsFalseIn trail (literal_of c)) → (x : Lit) → Contains h.lits x → (x ≡ literal_of other) ⊎ IsFalseIn trail x
  all_but trail other none x i =
      let c = of_clause x i in
      ⊎_elim
      (λ same. inl (sym c.2 ∙ ap literal_of same))
      (λ f. inr (subst (λ y. IsFalseIn trail y) c.2 f))
      (none c.0 c.1)

  pub look_moved : (trail : List Entry) (held held' : List Held) (lists lists' : List (List Watch)) (code k other next : ℕ) → slice_get held k ≡ Some h → IsPaired h → IsOther h code other → Contains codes next × (next ≢ other) × (¬ IsFalseIn trail (literal_of next)) → held' ≡ set held k record { lits = h.lits; first = other; second = next } → lists' ≡ set lists next (get_or lists next [] ++ record { clause = k; blocker = other } ∷ []) → IsMove trail held held' lists lists' code k
  look_moved trail held held' lists lists' code k other next at paired is found held_is lists_are = record {
    clause = h;
    at = at;
    other = other;
    next = next;
    other_is = is.0;
    other_apart = λ same.
        let single = is.1 same in
        let only : next ≡ h.first = same_code next h.first (paired.alone single (literal_of next) (in_clause next found.0)) in
        found.1 (⊎_elim (λ f. only ∙ sym f) (λ s. only ∙ single ∙ sym s) is.0);
    next_in = in_clause next found.0;
    next_apart = found.1;
    next_known = found.2;
    held_is = held_is;
    lists_are = lists_are;
  }

-- the other watched literal is one of the clause's
pub other_in : (h : Held) (code other : ℕ) → IsPaired h → IsOther h code other → Contains h.lits (literal_of other)
other_in h code other paired is = ⊎_elim
    (λ (f : other ≡ h.first). subst (λ c. Contains h.lits (literal_of c)) (sym f) paired.first_in)
    (λ (s : other ≡ h.second). subst (λ c. Contains h.lits (literal_of c)) (sym s) paired.second_in)
    is.0

-- a literal of a clause that is held
pub held_known : (f : Formula) (log : List Lemma) (trail : TrailView) (held : List Held) (k : ℕ) (h : Held) (c : ℕ) → IsState f log trail → map (λ (y : Held). y.lits) held ≡ known_clauses f log → slice_get held k ≡ Some h → Contains h.lits (literal_of c) → (literal_of c).var < trail.vars
held_known f log trail held k h c state are at among = known_literal f log trail k h.lits (literal_of c) state (clause_of held (known_clauses f log) k h are at) among

pub code_known : (c n : ℕ) → (literal_of c).var < n → c < 2 * n
code_known c n h = subst (λ d. d < 2 * n) (code_of_literal c) (code_below (literal_of c) n h)
