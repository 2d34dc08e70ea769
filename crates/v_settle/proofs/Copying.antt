-- A second table with the terms of declared names.
use Rattle.std.proofs.Common.{◌≡◌, ◌∙◌, ℕ, refl, ap, sym, subst, Bool, true, false, cond, List, [], ◌∷◌, ◌⊎◌, inl, inr, Option, Some, None, is_some}
use Rattle.std.specs.Prelude.{◌&&◌, not, nat_le}
use Rattle.std.proofs.lemmas.Bool.{false≢true, and_parts}
use Rattle.std.proofs.lemmas.Slice.Eq.{bytes_eq-Decides}
use Rattle.wb_values.specs.Value.{Name, same_name, Valuation, entry_of}
use Rattle.verilog_meaning.specs.Expression.{Object, Scope, object_width, object_or_undeclared, scope_of}
use Rattle.verilog_rules.specs.Expression.{has_many_words}
use Rattle.wb_terms.specs.Graph.{Graph}
use Rattle.v_value.specs.declared.scope.Declaration.{Declaration}
use Rattle.v_value.specs.Scope.{object_of, objects_of}
use Rattle.v_lower.specs.Lowered.{Images, HasImages, StandsFor, has_sort}
use Rattle.v_settle.specs.Copies.{IsWithin}

pub stands-within : (s : Scope) (a b : Images) (g : Graph) (p v : Valuation) → IsWithin a b → StandsFor s b g p v → StandsFor s a g p v
stands-within s a b g p v f st = record { fits = λ n id e. st.fits n id (f n id e); same = λ n id e. st.same n id (f n id e) }

-- ---- one name

abbrev first : Option ℕ → ℕ
first (Some x) = x
first None = 0

some-is : (x y : ℕ) → Some x ≡ Some y → x ≡ y
some-is x y e = ap first e

not-some : (id : ℕ) → None ≡ Some id → ⊥
not-some id e = false≢true (ap is_some e)

module _ (a b c : Images) (name : Name) (id : ℕ) (had : a name ≡ Some id) (is_c : (n : Name) → c n ≡ cond (same_name name n) (Some id) (b n)) where
  same-is : (n : Name) → same_name name n ≡ true → name ≡ n
  same-is n e = (bytes_eq-Decides name n).0 e

  pub name-within : IsWithin b a → IsWithin c a
  name-within f n k e = by (same_name name n) refl (sym (is_c n) ∙ e)
    where
      by : (t : Bool) → same_name name n ≡ t → cond t (Some id) (b n) ≡ Some k → a n ≡ Some k
      by true q h = ap a (sym (same-is n q)) ∙ had ∙ h
      by false q h = f n k h

  pub name-kept : (n : Name) → is_some (b n) ≡ true → is_some (c n) ≡ true
  name-kept n h = ap is_some (is_c n) ∙ by (same_name name n)
    where
      by : (t : Bool) → is_some (cond t (Some id) (b n)) ≡ true
      by true = refl
      by false = h

  pub name-there : is_some (c name) ≡ true
  name-there = ap is_some (is_c name) ∙ ap (λ t. is_some (cond t (Some id) (b name))) (itself name)
    where
      itself : (n : Name) → same_name n n ≡ true
      itself n = (bytes_eq-Decides n n).1 refl

pub none-within : (a copy : Images) → ((n : Name) → copy n ≡ None) → IsWithin copy a
none-within a copy f n id e = absurd (not-some id (sym (f n) ∙ e))

-- ---- the names of a scope

abbrev pub IsNamedIn : List Declaration → Name → Type 0
IsNamedIn ds n = is_some (entry_of (objects_of ds) n) ≡ true

-- A declared name has its term in the copy, or is still to come.
abbrev pub IsCopied : (all rest : List Declaration) → (a copy : Images) → Type 0
IsCopied all rest a copy = (n : Name) → IsNamedIn all n → is_some (a n) ≡ true → (is_some (copy n) ≡ true) ⊎ IsNamedIn rest n

pub none-copied : (all rest : List Declaration) (a copy : Images) → rest ≡ all → IsCopied all rest a copy
none-copied all rest a copy e n h g = inr (subst (λ (ds : List Declaration). IsNamedIn ds n) (sym e) h)

pub copied-turn : (all rest : List Declaration) (d : Declaration) (more : List Declaration) (a b c : Images) → rest ≡ d ∷ more → IsCopied all rest a b
    → ((n : Name) → is_some (b n) ≡ true → is_some (c n) ≡ true) → (is_some (a d.name.now) ≡ true → is_some (c d.name.now) ≡ true) → IsCopied all more a c
copied-turn all rest d more a b c e f kept there n h g = at (f n h g)
  where
    by : (t : Bool) → same_name d.name.now n ≡ t → is_some (cond t (Some (object_of d.object)) (entry_of (objects_of more) n)) ≡ true → (is_some (c n) ≡ true) ⊎ IsNamedIn more n
    by true q k =
        let same : d.name.now ≡ n = (bytes_eq-Decides d.name.now n).0 q in
        inl (subst (λ (m : Name). is_some (c m) ≡ true) same (there (subst (λ (m : Name). is_some (a m) ≡ true) (sym same) g)))
    by false q k = inr k

    at : (is_some (b n) ≡ true) ⊎ IsNamedIn rest n → (is_some (c n) ≡ true) ⊎ IsNamedIn more n
    at (inl k) = inl (kept n k)
    at (inr k) = by (same_name d.name.now n) refl (subst (λ (ds : List Declaration). IsNamedIn ds n) e k)

pub copied-end : (all rest : List Declaration) (a copy : Images) → rest ≡ [] → IsCopied all rest a copy
    → (n : Name) → (scope_of (objects_of all) n).is_declared ≡ true → is_some (a n) ≡ true → is_some (copy n) ≡ true
copied-end all rest a copy e f n h g = at (f n (named (entry_of (objects_of all) n) h) g)
  where
    named : (o : Option Object) → (object_or_undeclared o).is_declared ≡ true → is_some o ≡ true
    named (Some o) k = refl
    named None k = absurd (false≢true k)

    at : (is_some (copy n) ≡ true) ⊎ IsNamedIn rest n → is_some (copy n) ≡ true
    at (inl k) = k
    at (inr k) = absurd (false≢true (subst (λ (ds : List Declaration). IsNamedIn ds n) e k))

-- ---- images

declared-sort : (o : Object) → has_sort o ≡ true → o.is_declared ≡ true
declared-sort o h = (and_parts o.is_declared (nat_le (object_width o) 128 && not (has_many_words o.addresses)) h).0

pub copied-known : (s : Scope) (a copy : Images) (g : Graph) → HasImages s a g → IsWithin copy a
    → ((n : Name) → (s n).is_declared ≡ true → is_some (a n) ≡ true → is_some (copy n) ≡ true) → HasImages s copy g
copied-known s a copy g known within all =
    record {
      some = λ n h e. all n (declared-sort (s n) h) (known.some n h e);
      image = λ n id e. known.image n id (within n id e);
    }
