-- Values of names by entries: they are of their sorts, and the environment has them.
use Rattle.std.proofs.Common.{◌≡◌, ◌∙◌, ℕ, ◌^◌, ◌<◌, suc, refl, ap, sym, subst, Bool, true, false, cond, map, List, [], ◌∷◌, ◌++◌, length, slice_index, inl, inr, Some, is_some, arith, le_antisymm}
use Rattle.std.specs.Prelude.{nat_lt, ◌==◌}
use Rattle.std.proofs.lemmas.Bool.{and_from, false≢true}
use Rattle.std.proofs.lemmas.Bool.Decides.{nat_tests}
use Rattle.std.proofs.lemmas.List.{take-append-drop}
use Rattle.wb_values.specs.Value.{Name, same_name, Sort, truth, word, memory, all_below, Value, truth_value, number as a_number, words, HasSort, Entries, entry_of, Valuation, value_or_zero}
use Rattle.verilog_meaning.specs.Expression.{Object, object_width, is_memory}
use Rattle.verilog_meaning.specs.Register.{word_count}
use Rattle.verilog_meaning.specs.Settled.{IsAddressWidth, IsValueOf}
use Rattle.verilog_settled.proofs.Values.{not_both}
use Rattle.verilog_unique.proofs.Options.{same_is, is_same}
use Rattle.verilog_unique.proofs.Descent.{IsAmong}
use Rattle.wb_terms.specs.Environment.{AreOfSorts, values_by_name}
use Rattle.v_lower.specs.Lowered.{IsSortOf}
use Rattle.v_design.specs.Parts.{Parts, registers_of, inputs_of}
use Rattle.v_design.specs.Design as design
use Rattle.v_design.specs.Design.{values_under}
use Rattle.path_terms.specs.Cycles.{environment}

-- ---- sorts of objects

same_width : (n a b : ℕ) → IsAddressWidth n a → IsAddressWidth n b → a ≡ b
same_width n a b p q = le_antisymm (p.least b q.at_least_one q.enough) (q.least a p.at_least_one p.enough)

below : (x w : ℕ) → x < 2 ^ w → nat_lt x (2 ^ w) ≡ true
below x w h = grind (arith, nat_tests)

same : (a b : ℕ) → a ≡ b → (a == b) ≡ true
same a b h = grind (arith, nat_tests)

all_narrow : (w : ℕ) (xs : List ℕ) → ((k : ℕ) → slice_index xs k < 2 ^ w) → all_below w xs ≡ true
all_narrow w [] h = refl
all_narrow w (x ∷ xs) h = and_from (nat_lt x (2 ^ w)) (all_below w xs) (below x w (h 0)) (all_narrow w xs (λ k. h (suc k)))

-- a value of an object is of its sort
pub of_value : (o : Object) (t : Sort) (x : Value) → design.IsSortOf o t → IsValueOf o x → HasSort x t
of_value o truth x h k = absurd h
of_value o (word w) (a_number x) h k = subst (λ z. nat_lt x (2 ^ z) ≡ true) (sym h.1) (below x (object_width o) k.1)
of_value o (word w) (words xs) h k = absurd (not_both (is_memory o) h.0 k.0)
of_value o (word w) (truth_value b) h k = absurd k
of_value o (memory a w) (a_number x) h k = absurd (not_both (is_memory o) k.0 h.0)
of_value o (memory a w) (words xs) h k =
    and_from (length xs == 2 ^ a) (all_below w xs)
    (same (length xs) (2 ^ a) (k.1.all ∙ ap (λ z. 2 ^ z) (same_width (word_count o) k.1.address_width a k.1.is_address_width h.1)))
    (subst (λ z. all_below z xs ≡ true) (sym h.2) (all_narrow (object_width o) xs k.1.narrow))
of_value o (memory a w) (truth_value b) h k = absurd k

-- an object has one sort
pub same_sorts : (o : Object) (t r : Sort) → IsSortOf o t → IsSortOf o r → t ≡ r
same_sorts o truth r h k = absurd h
same_sorts o (word w) truth h k = absurd k
same_sorts o (word w) (word z) h k = ap word (h.1 ∙ sym k.1)
same_sorts o (word w) (memory a z) h k = absurd (not_both (is_memory o) h.0 k.0)
same_sorts o (memory a w) truth h k = absurd k
same_sorts o (memory a w) (word z) h k = absurd (not_both (is_memory o) k.0 h.0)
same_sorts o (memory a w) (memory b z) h k = ap (λ i. memory i w) (same_width (word_count o) a b h.1 k.1) ∙ ap (memory b) (h.2 ∙ sym k.2)

-- what is a sort for the design is one for expressions
pub sort_there : (o : Object) (t : Sort) → design.IsSortOf o t → IsSortOf o t
sort_there o truth h = absurd h
sort_there o (word w) h = h
sort_there o (memory a w) h = h

-- ---- values by entries

abbrev under : Entries Sort → Valuation → List Value
under ns f = map (λ n. f n.0) ns

found_first : (ns ms : Entries Sort) (f g : Valuation) (m : Name) → is_some (entry_of ns m) ≡ true
    → entry_of (values_by_name (ns ++ ms) (under ns f ++ under ms g)) m ≡ Some (f m)
found_first [] ms f g m h = absurd (false≢true h)
found_first (n ∷ ns) ms f g m h = by (same_name n.0 m) refl (found_first ns ms f g m) h
  where
    by : (t : Bool) → same_name n.0 m ≡ t
        → (is_some (entry_of ns m) ≡ true → entry_of (values_by_name (ns ++ ms) (under ns f ++ under ms g)) m ≡ Some (f m))
        → is_some (cond t (Some n.1) (entry_of ns m)) ≡ true
        → cond t (Some (f n.0)) (entry_of (values_by_name (ns ++ ms) (under ns f ++ under ms g)) m) ≡ Some (f m)
    by true e later k = ap (λ q. Some (f q)) (same_is n.0 m e)
    by false e later k = later k

pub all_sorted : (ns : Entries Sort) (f : Valuation) → ((m : Name) (t : Sort) → IsAmong ns (m, t) → HasSort (f m) t) → AreOfSorts ns (under ns f)
all_sorted [] f h = tt
all_sorted (n ∷ ns) f h = (h n.0 n.1 (inl refl), all_sorted ns f (λ m t k. h m t (inr k)))

is_named : (es : Entries Sort) (n : Name) (t : Sort) → IsAmong es (n, t) → is_some (entry_of es n) ≡ true
is_named [] n t k = absurd k
is_named (e ∷ es) n t (inl i) =
    ap (λ b. is_some (cond b (Some e.1) (entry_of es n))) (ap (λ (x : Name × Sort). same_name x.0 n) i ∙ is_same n)
is_named (e ∷ es) n t (inr k) = by (same_name e.0 n) (is_named es n t k)
  where
    by : (b : Bool) → is_some (entry_of es n) ≡ true → is_some (cond b (Some e.1) (entry_of es n)) ≡ true
    by true h = refl
    by false h = h

-- a register's name stands for the register
pub at_register : (e : Parts) (registers inputs : Valuation) (n : Name) (t : Sort) → IsAmong (registers_of e) (n, t) → environment e registers inputs n ≡ registers n
at_register e registers inputs n t h =
    ap (λ ns. value_or_zero (entry_of (values_by_name ns (values_under (registers_of e) registers ++ values_under (inputs_of e) inputs)) n))
    (sym (take-append-drop e.register_count e.graph.names))
    ∙ ap value_or_zero (found_first (registers_of e) (inputs_of e) registers inputs n (is_named (registers_of e) n t h))
