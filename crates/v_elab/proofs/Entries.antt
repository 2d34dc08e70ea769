-- Entries of names, and the names that they have.
use Rattle.std.proofs.Common.{◌≡◌, ◌∙◌, refl, ap, sym, subst, Bool, true, false, cond, take, drop, length, List, [], ◌∷◌, ◌++◌, inl, inr, Some, is_some}
use Rattle.wb_values.specs.Value.{Name, same_name, Sort, Entries, entry_of}
use Rattle.verilog_meaning.specs.Expression.{Scope}
use Rattle.verilog_meaning.specs.Settled.{names_of}
use Rattle.verilog_unique.proofs.Options.{same_is, is_same}
use Rattle.verilog_unique.proofs.Descent.{IsAmong}
use Rattle.v_lower.specs.Lowered.{IsSortOf}
use Rattle.v_elab.specs.Names.{AreEntriesOf}

pub first_entries : (s : Scope) (xs ys : List Name) (es : Entries Sort) → AreEntriesOf s (xs ++ ys) es → AreEntriesOf s xs (take (length xs) es)
first_entries s [] ys es h = tt
first_entries s (x ∷ xs) ys [] h = absurd h
first_entries s (x ∷ xs) ys (e ∷ es) h = (h.0, h.1, first_entries s xs ys es h.2)

pub last_entries : (s : Scope) (xs ys : List Name) (es : Entries Sort) → AreEntriesOf s (xs ++ ys) es → AreEntriesOf s ys (drop (length xs) es)
last_entries s [] ys es h = h
last_entries s (x ∷ xs) ys [] h = absurd h
last_entries s (x ∷ xs) ys (e ∷ es) h = last_entries s xs ys es h.2

pub of_entry : (s : Scope) (ns : List Name) (es : Entries Sort) (n : Name) (t : Sort) → AreEntriesOf s ns es → IsAmong es (n, t) → IsAmong ns n × IsSortOf (s n) t
of_entry s [] [] n t h k = absurd k
of_entry s [] (e ∷ es) n t h k = absurd h
of_entry s (m ∷ ns) [] n t h k = absurd h
of_entry s (m ∷ ns) (e ∷ es) n t h (inl i) =
    let q : m ≡ n = sym h.0 ∙ ap (λ (x : Name × Sort). x.0) i in
    (inl q, subst (λ k. IsSortOf (s k) t) q (subst (IsSortOf (s m)) (ap (λ (x : Name × Sort). x.1) i) h.1))
of_entry s (m ∷ ns) (e ∷ es) n t h (inr k) = let r = of_entry s ns es n t h.2 k in (inr r.0, r.1)

pub an_entry : (s : Scope) (ns : List Name) (es : Entries Sort) (n : Name) → AreEntriesOf s ns es → IsAmong ns n → (t : Sort) × IsAmong es (n, t)
an_entry s [] es n h k = absurd k
an_entry s (m ∷ ns) [] n h k = absurd h
an_entry s (m ∷ ns) (e ∷ es) n h (inl i) = (e.1, inl (ap (λ (q : Name). (q, e.1)) (h.0 ∙ i)))
an_entry s (m ∷ ns) (e ∷ es) n h (inr k) = let r = an_entry s ns es n h.2 k in (r.0, inr r.1)

pub is_named : (es : Entries Sort) (n : Name) (t : Sort) → IsAmong es (n, t) → is_some (entry_of es n) ≡ true
is_named [] n t k = absurd k
is_named (e ∷ es) n t (inl i) =
    ap (λ b. is_some (cond b (Some e.1) (entry_of es n))) (ap (λ (x : Name × Sort). same_name x.0 n) i ∙ is_same n)
is_named (e ∷ es) n t (inr k) = by (same_name e.0 n) (is_named es n t k)
  where
    by : (b : Bool) → is_some (entry_of es n) ≡ true → is_some (cond b (Some e.1) (entry_of es n)) ≡ true
    by true h = refl
    by false h = h

pub not_named : (s : Scope) (ns : List Name) (es : Entries Sort) (n : Name) → AreEntriesOf s ns es → ¬ IsAmong ns n → is_some (entry_of es n) ≡ false
not_named s [] [] n h k = refl
not_named s [] (e ∷ es) n h k = absurd h
not_named s (m ∷ ns) [] n h k = absurd h
not_named s (m ∷ ns) (e ∷ es) n h k = by (same_name e.0 n) refl (not_named s ns es n h.2 (λ g. k (inr g)))
  where
    by : (b : Bool) → same_name e.0 n ≡ b → is_some (entry_of es n) ≡ false → is_some (cond b (Some e.1) (entry_of es n)) ≡ false
    by true i f = absurd (k (inl (sym h.0 ∙ same_is e.0 n i)))
    by false i f = f

pub names_are : (s : Scope) (ns : List Name) (es : Entries Sort) → AreEntriesOf s ns es → names_of es ≡ ns
names_are s [] [] h = refl
names_are s [] (e ∷ es) h = absurd h
names_are s (m ∷ ns) [] h = absurd h
names_are s (m ∷ ns) (e ∷ es) h = ap (λ n. n ∷ names_of es) h.0 ∙ ap (λ xs. m ∷ xs) (names_are s ns es h.2)
