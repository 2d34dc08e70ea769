-- The names that a script may set, at their places.
use Rattle.std.proofs.Common.{◌≡◌, ℕ, zero, suc, ◌<◌, Bool, true, false, cond, List, [], ◌∷◌, length, get_or, slice_get, Some, None, is_none, refl, sym, ap, subst, arith}
use Rattle.std.specs.Prelude.{Contains}
use Rattle.std.proofs.lemmas.Bool.{and_parts, and_from, false≢true}
use Rattle.wb_values.specs.Value.{Name, same_name, Sort, truth, Entries, entry_of}
use Rattle.scripts.specs.Script.{Settable, settable_named}
use Rattle.wb_terms.specs.Graph.{HasDistinctNames}
use Rattle.v_design.specs.Registers.{CountedBits}
use Rattle.v_design.specs.Parts.{are_bits_of, are_bits_for, under_names, is_word, are_words}
use Rattle.ila_sim.specs.Names.{are_apart}
use Rattle.ila_sim.specs.Places.{called_at}
use Rattle.v_sim.specs.Names.{register_settable, register_settables, input_settable, input_settables}
use Rattle.v_sim.proofs.Lists.{name_at, sort_at, AreNamed, none_or_some}

abbrev pub no_bits : CountedBits
no_bits = record { least = None; masks = [] }

abbrev pub bits_at : List CountedBits → ℕ → CountedBits
bits_at cs k = get_or cs k no_bits

pub right_length : (ns : Entries Sort) (cs : List CountedBits) → are_bits_for ns cs ≡ true → length cs ≡ length ns
right_length [] [] h = refl
right_length [] (c ∷ cs) h = absurd (false≢true h)
right_length (n ∷ ns) [] h = absurd (false≢true h)
right_length (n ∷ ns) (c ∷ cs) h = ap suc (right_length ns cs (and_parts (are_bits_of n.1 c) _ h).1)

pub right_at : (ns : Entries Sort) (cs : List CountedBits) (k : ℕ) → are_bits_for ns cs ≡ true → k < length ns → are_bits_of (sort_at ns k) (bits_at cs k) ≡ true
right_at [] cs k h l = absurd (omega (arith, l))
right_at (n ∷ ns) [] k h l = absurd (false≢true h)
right_at (n ∷ ns) (c ∷ cs) zero h l = (and_parts (are_bits_of n.1 c) _ h).0
right_at (n ∷ ns) (c ∷ cs) (suc k) h l = right_at ns cs k (and_parts (are_bits_of n.1 c) _ h).1 (omega (arith, l))

pub bits_named : (ns : Entries Sort) (cs : List CountedBits) (k : ℕ) → are_bits_for ns cs ≡ true → k < length ns → Contains (under_names ns cs) (name_at ns k, bits_at cs k)
bits_named ns cs k h l = (k, within ns cs k h l, there ns cs k h l)
  where
    within : (ms : Entries Sort) (ds : List CountedBits) (j : ℕ) → are_bits_for ms ds ≡ true → j < length ms → j < length (under_names ms ds)
    within [] ds j p m = absurd (omega (arith, m))
    within (n ∷ ms) [] j p m = absurd (false≢true p)
    within (n ∷ ms) (c ∷ ds) zero p m = omega arith
    within (n ∷ ms) (c ∷ ds) (suc j) p m = omega (arith, within ms ds j (and_parts (are_bits_of n.1 c) _ p).1 (omega (arith, m)))

    there : (ms : Entries Sort) (ds : List CountedBits) (j : ℕ) → are_bits_for ms ds ≡ true → j < length ms
        → get_or (under_names ms ds) j (name_at ms j, bits_at ds j) ≡ (name_at ms j, bits_at ds j)
    there [] ds j p m = absurd (omega (arith, m))
    there (n ∷ ms) [] j p m = absurd (false≢true p)
    there (n ∷ ms) (c ∷ ds) zero p m = refl
    there (n ∷ ms) (c ∷ ds) (suc j) p m = there ms ds j (and_parts (are_bits_of n.1 c) _ p).1 (omega (arith, m))

pub same_at : {X : Type 0} (xs : List X) (k : ℕ) (d e : X) → k < length xs → get_or xs k d ≡ get_or xs k e
same_at [] k d e l = absurd (omega (arith, l))
same_at (x ∷ xs) zero d e l = refl
same_at (x ∷ xs) (suc k) d e l = same_at xs k d e (omega (arith, l))

pub name_there : (ns : Entries Sort) (k : ℕ) → k < length ns → Contains ns (name_at ns k, sort_at ns k)
name_there ns k l = (k, l, same_at ns k (name_at ns k, sort_at ns k) ([], truth) l)

-- ---- registers

pub registers_named : (ns : Entries Sort) (cs : List CountedBits) → are_bits_for ns cs ≡ true → AreNamed ns (register_settables ns cs)
registers_named ns cs h = record { all = all ns cs h; called = called ns cs h }
  where
    all : (ms : Entries Sort) (ds : List CountedBits) → are_bits_for ms ds ≡ true → length (register_settables ms ds) ≡ length ms
    all [] ds p = refl
    all (n ∷ ms) [] p = absurd (false≢true p)
    all (n ∷ ms) (c ∷ ds) p = ap suc (all ms ds (and_parts (are_bits_of n.1 c) _ p).1)

    called : (ms : Entries Sort) (ds : List CountedBits) → are_bits_for ms ds ≡ true → (k : ℕ) → k < length ms → called_at (register_settables ms ds) k ≡ name_at ms k
    called [] ds p k l = absurd (omega (arith, l))
    called (n ∷ ms) [] p k l = absurd (false≢true p)
    called (n ∷ ms) (c ∷ ds) p zero l = refl
    called (n ∷ ms) (c ∷ ds) p (suc k) l = called ms ds (and_parts (are_bits_of n.1 c) _ p).1 k (omega (arith, l))

pub register_there : (ns : Entries Sort) (cs : List CountedBits) (k : ℕ) (s : Settable) → are_bits_for ns cs ≡ true → k < length ns
    → get_or (register_settables ns cs) k s ≡ register_settable (name_at ns k) (sort_at ns k) (bits_at cs k)
register_there [] cs k s h l = absurd (omega (arith, l))
register_there (n ∷ ns) [] k s h l = absurd (false≢true h)
register_there (n ∷ ns) (c ∷ cs) zero s h l = refl
register_there (n ∷ ns) (c ∷ cs) (suc k) s h l = register_there ns cs k s (and_parts (are_bits_of n.1 c) _ h).1 (omega (arith, l))

pub register_found : (ns : Entries Sort) (cs : List CountedBits) (k : ℕ) → are_bits_for ns cs ≡ true → k < length ns
    → slice_get (register_settables ns cs) k ≡ Some (register_settable (name_at ns k) (sort_at ns k) (bits_at cs k))
register_found [] cs k h l = absurd (omega (arith, l))
register_found (n ∷ ns) [] k h l = absurd (false≢true h)
register_found (n ∷ ns) (c ∷ cs) zero h l = refl
register_found (n ∷ ns) (c ∷ cs) (suc k) h l = register_found ns cs k (and_parts (are_bits_of n.1 c) _ h).1 (omega (arith, l))

-- ---- inputs

pub inputs_named : (ns : Entries Sort) → AreNamed ns (input_settables ns)
inputs_named ns = record { all = all ns; called = called ns }
  where
    all : (ms : Entries Sort) → length (input_settables ms) ≡ length ms
    all [] = refl
    all (n ∷ ms) = ap suc (all ms)

    called : (ms : Entries Sort) (k : ℕ) → k < length ms → called_at (input_settables ms) k ≡ name_at ms k
    called [] k l = absurd (omega (arith, l))
    called (n ∷ ms) zero l = refl
    called (n ∷ ms) (suc k) l = called ms k (omega (arith, l))

pub input_there : (ns : Entries Sort) (k : ℕ) (s : Settable) → k < length ns → get_or (input_settables ns) k s ≡ input_settable (name_at ns k) (sort_at ns k)
input_there [] k s l = absurd (omega (arith, l))
input_there (n ∷ ns) zero s l = refl
input_there (n ∷ ns) (suc k) s l = input_there ns k s (omega (arith, l))

pub input_found : (ns : Entries Sort) (k : ℕ) → k < length ns → slice_get (input_settables ns) k ≡ Some (input_settable (name_at ns k) (sort_at ns k))
input_found [] k l = absurd (omega (arith, l))
input_found (n ∷ ns) zero l = refl
input_found (n ∷ ns) (suc k) l = input_found ns k (omega (arith, l))

pub word_at : (ns : Entries Sort) (k : ℕ) → are_words ns ≡ true → k < length ns → is_word (sort_at ns k) ≡ true
word_at [] k h l = absurd (omega (arith, l))
word_at (n ∷ ns) zero h l = (and_parts (is_word n.1) _ h).0
word_at (n ∷ ns) (suc k) h l = word_at ns k (and_parts (is_word n.1) _ h).1 (omega (arith, l))

-- ---- no name stands twice

rest_named : (n : Name × Sort) (ns : Entries Sort) (s : Settable) (ss : List Settable) → AreNamed (n ∷ ns) (s ∷ ss) → AreNamed ns ss
rest_named n ns s ss a = record { all = omega (arith, a.all); called = λ k l. a.called (suc k) (omega (arith, l)) }

lacks : (ns : Entries Sort) (ss : List Settable) (n : Name) → AreNamed ns ss → entry_of ns n ≡ None → is_none (settable_named ss n) ≡ true
lacks ns [] n a e = refl
lacks [] (s ∷ ss) n a e = absurd (omega (arith, a.all))
lacks (m ∷ ns) (s ∷ ss) n a e = shown (same_name m.0 n) (same_name s.called n) (ap (λ c. same_name c n) (a.called 0 (omega arith))) e (lacks ns ss n (rest_named m ns s ss a))
  where
    shown : (t u : Bool) → u ≡ t → cond t (Some m.1) (entry_of ns n) ≡ None → (entry_of ns n ≡ None → is_none (settable_named ss n) ≡ true)
        → is_none (cond u (Some s) (settable_named ss n)) ≡ true
    shown true u q g r = absurd (none_or_some m.1 g)
    shown false true q g r = absurd (false≢true (sym q))
    shown false false q g r = r g

pub apart : (ns : Entries Sort) (ss : List Settable) → AreNamed ns ss → HasDistinctNames ns → are_apart ss ≡ true
apart ns [] a h = refl
apart [] (s ∷ ss) a h = absurd (omega (arith, a.all))
apart (m ∷ ns) (s ∷ ss) a h =
    let b = rest_named m ns s ss a in
    and_from _ _ (lacks ns ss s.called b (subst (λ c. entry_of ns c ≡ None) (sym (a.called 0 (omega arith))) h.0)) (apart ns ss b h.1)
