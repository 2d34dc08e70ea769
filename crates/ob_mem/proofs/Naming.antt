-- New names: none of them is in the table yet.
use Rattle.std.proofs.Common.{◌≡◌, ℕ, zero, suc, ◌+◌, ◌<◌, ◌≤◌, ◌^◌, Bool, true, false, cond, List, [], ◌∷◌, ◌++◌, length, take, get_or, replicate, Option, Some, None, refl, sym, ap, ◌∙◌, subst, arith, length-append, inl, inr, ◌⊎◌}
use Rattle.std.specs.Prelude.{◌==◌, IsTrue}
use Rattle.std.specs.Fmt.{decimal}
use Rattle.std.proofs.lemmas.List.{append_cancel_left, take_more}
use Rattle.std.proofs.lemmas.Slice.Eq.{bytes_eq-Decides}
use Rattle.std.proofs.lemmas.Fmt.{decimal_injective}
use Rattle.std.proofs.lemmas.Bool.{false≢true, cases_lt}
use Rattle.std.proofs.lemmas.Cmp.{nat_list_eq_equiv}
use Rattle.std.proofs.lemmas.Bool.Decides.{nat_tests}
use Rattle.wb_values.specs.Value.{Name, Sort, truth, Entries, entry_of, same_name}
use Rattle.wb_terms.specs.Graph.{HasDistinctNames}
use Rattle.ob_mem.specs.Words.{entry_at, marks_of, AllHaveFewer, name_of_word, AreFree}

tested : (a b : Name) (t : Bool) → same_name a b ≡ t → (a ≡ b → ⊥) → t ≡ false
tested a b true e h = absurd (h ((bytes_eq-Decides a b).0 e))
tested a b false e h = refl

differ : (a b : Name) → (a ≡ b → ⊥) → same_name a b ≡ false
differ a b h = tested a b (same_name a b) refl h

-- what begins with fewer marks is another name
fewer_differ : (m : ℕ) (n r : Name) → marks_of n < m → n ≡ replicate m 35 ++ r → ⊥
fewer_differ m n r l e = absurd (omega (arith, l, marks_at m r, ap marks_of e))
  where
    marks_at : (m : ℕ) (r : Name) → m ≤ marks_of (replicate m 35 ++ r)
    marks_at zero r = omega arith
    marks_at (suc m) r = omega (arith, marks_at m r)

-- two new names at different places differ
places_differ : (m j k : ℕ) → j < 2 ^ 64 → k < 2 ^ 64 → j < k → name_of_word m j ≡ name_of_word m k → ⊥
places_differ m j k a b l e =
    let d : decimal j ≡ decimal k = append_cancel_left (replicate m 35) (decimal j) (decimal k) e in
    absurd (omega (arith, decimal_injective j k a b d, l))

-- a name that the table lacks
pub lacks : (es : Entries Sort) (n : Name) → ((k : ℕ) → k < length es → same_name (entry_at es k).0 n ≡ false) → entry_of es n ≡ None
lacks [] n h = refl
lacks (e ∷ es) n h =
    let first : same_name e.0 n ≡ false = h 0 (omega arith) in
    rw first (lacks es n (λ k b. h (suc k) (omega (arith, b))))

pub free_start : (m : ℕ) (es : Entries Sort) → AllHaveFewer m es → AreFree m es
free_start m es h k a b = lacks es (name_of_word m k) (λ j c. differ (entry_at es j).0 (name_of_word m k) (fewer_differ m (entry_at es j).0 (decimal k) (h j c)))

pushed : (t : Bool) (s : Option Sort) (x y : Option Sort) → cond t s x ≡ None → (x ≡ None → y ≡ None) → cond t s y ≡ None
pushed true s x y h f = h
pushed false s x y h f = f h

entry_of-push : (es : Entries Sort) (b c : Name) (s : Sort) → entry_of es c ≡ None → same_name b c ≡ false → entry_of (es ++ (b, s) ∷ []) c ≡ None
entry_of-push [] b c s h f = rw f refl
entry_of-push (e ∷ es) b c s h f = pushed (same_name e.0 c) (Some e.1) (entry_of es c) (entry_of (es ++ (b, s) ∷ []) c) h (λ i. entry_of-push es b c s i f)

pub free_push : (m : ℕ) (es : Entries Sort) (s : Sort) → length es < 2 ^ 64 → AreFree m es → AreFree m (es ++ (name_of_word m (length es), s) ∷ [])
free_push m es s l h k a b =
    let n : length es < k = omega (arith, a, length-append es ((name_of_word m (length es), s) ∷ [])) in
    entry_of-push es (name_of_word m (length es)) (name_of_word m k) s (h k (omega (arith, n)) b)
    (differ (name_of_word m (length es)) (name_of_word m k) (places_differ m (length es) k l b n))

-- the names of a table one after the other: none of them is among those before
absent : (t : Bool) (s : Sort) (o : Option Sort) → cond t (Some s) o ≡ None → (t ≡ false) × (o ≡ None)
absent true s o h = cc
absent false s o h = (refl, h)

pub next_is_new : (es : Entries Sort) (k : ℕ) → HasDistinctNames es → k < length es → entry_of (take k es) (entry_at es k).0 ≡ None
next_is_new es zero d b = refl
next_is_new [] (suc k) d b = absurd (omega (arith, b))
next_is_new (e ∷ es) (suc k) d b =
    let n = (entry_at es k).0 in
    let f : same_name e.0 n ≡ false = nat_list_eq_equiv.symm e.0 n ∙ not_there es k e.0 d.0 (omega (arith, b)) in
    rw f (next_is_new es k d.1 (omega (arith, b)))
  where
    not_there : (es : Entries Sort) (k : ℕ) (n : Name) → entry_of es n ≡ None → k < length es → same_name (entry_at es k).0 n ≡ false
    not_there [] k n h b = absurd (omega (arith, b))
    not_there (e ∷ es) zero n h b = (absent (same_name e.0 n) e.1 (entry_of es n) h).0
    not_there (e ∷ es) (suc k) n h b = not_there es k n (absent (same_name e.0 n) e.1 (entry_of es n) h).1 (omega (arith, b))

-- the marks seen so far
pub fewer_more : (es : Entries Sort) (place m n : ℕ) → ((k : ℕ) → k < place → marks_of (entry_at es k).0 < m) → m ≤ n → marks_of (entry_at es place).0 < n → (k : ℕ) → k < place + 1 → marks_of (entry_at es k).0 < n
fewer_more es place m n h a b k l = by_place (cases_lt k place)
  where
    by_place : (k < place) ⊎ (place ≤ k) → marks_of (entry_at es k).0 < n
    by_place (inl c) = omega (arith, h k c, a)
    by_place (inr c) =
        let e : place ≡ k = omega (arith, l, c) in
        subst (λ j. marks_of (entry_at es j).0 < n) e b
