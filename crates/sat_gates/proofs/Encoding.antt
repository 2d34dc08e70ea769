-- The formula of the circuit of a term encodes the term.
use Rattle.std.proofs.Common.{◌≡◌, ◌∙◌, ℕ, zero, suc, refl, ◌+◌, ◌<◌, ◌≤◌, Bool, true, false, List, [], ◌∷◌, ◌++◌, length, map, take, get_or, Option, Some, None, Contains, arith, sym, ap, subst}
use Rattle.std.proofs.lemmas.List.{get_or-take, ext_get_or, length-take-le}
use Rattle.std.specs.Prelude.{not as truth_not, is_some}
use Rattle.std.proofs.lemmas.Bool.{false≢true, and_parts}
use Rattle.wb_values.specs.Value.{Name, Sort, truth, word, memory, truth_value, as_truth, Valuation}
use Rattle.model_meaning.specs.Term.{Term, name, constant_truth, const, not, neg, and, or, xor, add, sub, mul, shl, lshr, ashr, eq, ult, ule, slt, sle, concat, extract, zext, sext, ite, load, store, sort_of, val}
use Rattle.sat_gates.proofs.Using.{of_one, of_two, of_none}
use Rattle.wb_terms.specs.Graph.{Graph, HasDistinctNames, tree}
use Rattle.sat_base.specs.Formula.{Formula, variable_value}
use Rattle.gate_base.specs.declared.bits.Bit.{Bit}
use Rattle.gate_base.specs.Circuit.{Circuit, size, bit_value, FollowsCircuit, IsDetermined, IsFormulaOf}
use Rattle.gate_base.specs.Assumed.{AreJoined, IsAsked}
use Rattle.sat_gates.specs.Names.{names_in, is_blastable}
use Rattle.sat_gates.specs.Encodes.{Writes, GivesSorts, RestrictsTo, Encodes}
use Rattle.sat_gates.specs.Layout.{bit_count, variables_from, variables_of, firsts_of, end_of, IsLaidOut, IsNumbered}
use Rattle.sat_gates.specs.Used.{entry_at, IsMarked, AreUsed}
use Rattle.sat_gates.specs.Blasting.{WritesOf, AreBitsOf, AllHaveVariables}
use Rattle.sat_gates.proofs.Nodes.{truth_written}
use Rattle.sat_gates.proofs.Layouts.{IsBitSort, WriteAll, HasFrom, bits_of, inputs_for, first_at, lookup, first_is, firsts_count, first_fits, laid_out, used_some, same_place, bits_write, inputs_count, has_from, inputs_read, same_inputs}

-- the layout of the names that stand in a term
pub record IsLaid (g : Graph) (root : ℕ) (used : List Bool) (firsts : List (Option ℕ)) (inputs : ℕ) : Type 0 where
  pub distinct : HasDistinctNames g.names
  pub are_used : AreUsed g root used
  pub are_firsts : firsts ≡ firsts_of 0 g.names used
  pub end : inputs ≡ end_of 0 g.names used

is_marked : (g : Graph) (root : ℕ) (used : List Bool) (firsts : List (Option ℕ)) (inputs : ℕ) → IsLaid g root used firsts inputs → (j : ℕ) → j < length g.names
    → Contains (names_in (tree g root)) (entry_at g.names j) → IsMarked used j
is_marked g root used firsts inputs l j i stands =
    let e = entry_at g.names j in
    let u = l.are_used.all e.0 e.1 stands in
    subst (IsMarked used) (same_place g.names u.0 j l.distinct u.1 i (ap (λ (x : Name × Sort). x.0) u.2)) u.3

pub numbered : (g : Graph) (root : ℕ) (used : List Bool) (firsts : List (Option ℕ)) (inputs vars : ℕ) → IsLaid g root used firsts inputs → inputs ≤ vars
    → IsNumbered g.names (names_in (tree g root)) firsts vars
numbered g root used firsts inputs vars l h = record {
  stands = λ j i.
      let e : is_some (get_or firsts j None) ≡ get_or used j false = ap (λ fs. is_some (get_or fs j None)) l.are_firsts ∙ used_some 0 g.names used j i l.are_used.room in
      (λ s. l.are_used.none_else j (sym e ∙ s), λ s. e ∙ is_marked g root used firsts inputs l j i s);
  declared = λ n s h. let u = l.are_used.all n s h in (u.0, u.1, u.2);
  end = inputs;
  laid_out = subst (λ n. IsLaidOut 0 g.names firsts n) (sym l.end) (subst (λ fs. IsLaidOut 0 g.names fs (end_of 0 g.names used)) (sym l.are_firsts) (laid_out 0 g.names used l.are_used.room));
  below = h;
}

pub has_variables : (g : Graph) (root : ℕ) (used : List Bool) (firsts : List (Option ℕ)) (inputs : ℕ) → IsLaid g root used firsts inputs → AllHaveVariables g root firsts inputs
has_variables g root used firsts inputs l j i stands =
    let e = entry_at g.names j in
    let m = is_marked g root used firsts inputs l j i stands in
    let n = l.are_used.room in
    let vars = ap (λ fs. variables_of g.names fs e.0) l.are_firsts ∙ lookup 0 g.names used j l.distinct i n m in (
      first_at 0 g.names used j,
      (let c : j < length firsts = omega (arith, i, ap length l.are_firsts ∙ firsts_count 0 g.names used n) in c),
      ap (λ fs. get_or fs j None) l.are_firsts ∙ first_is 0 g.names used j i n m,
      (let f : first_at 0 g.names used j + bit_count e.1 ≤ inputs = omega (arith, first_fits 0 g.names used j i n m, l.end) in f),
      vars,
      stands,
    )

-- the names of a blastable term are no memories
abbrev BitSort : Name → Sort → Type 0
BitSort n s = IsBitSort s

pub bit_names : (t : Term) → is_blastable t ≡ true → (n : Name) (s : Sort) → Contains (names_in t) (n, s) → IsBitSort s
bit_names (name m truth) b n s h = of_one BitSort (m, truth) tt n s h
bit_names (name m (word w)) b n s h = of_one BitSort (m, word w) tt n s h
bit_names (name m (memory a d)) b n s h = absurd (false≢true b)
bit_names (constant_truth c) b n s h = of_none BitSort n s h
bit_names (const w x) b n s h = of_none BitSort n s h
bit_names (not x) b n s h = bit_names x b n s h
bit_names (neg x) b n s h = bit_names x b n s h
bit_names (and x y) b n s h = let p = and_parts _ _ b in of_two BitSort (names_in x) (names_in y) (bit_names x p.0) (bit_names y p.1) n s h
bit_names (or x y) b n s h = let p = and_parts _ _ b in of_two BitSort (names_in x) (names_in y) (bit_names x p.0) (bit_names y p.1) n s h
bit_names (xor x y) b n s h = let p = and_parts _ _ b in of_two BitSort (names_in x) (names_in y) (bit_names x p.0) (bit_names y p.1) n s h
bit_names (add x y) b n s h = let p = and_parts _ _ b in of_two BitSort (names_in x) (names_in y) (bit_names x p.0) (bit_names y p.1) n s h
bit_names (sub x y) b n s h = let p = and_parts _ _ b in of_two BitSort (names_in x) (names_in y) (bit_names x p.0) (bit_names y p.1) n s h
bit_names (eq x y) b n s h = let p = and_parts _ _ b in of_two BitSort (names_in x) (names_in y) (bit_names x p.0) (bit_names y p.1) n s h
bit_names (ult x y) b n s h = let p = and_parts _ _ b in of_two BitSort (names_in x) (names_in y) (bit_names x p.0) (bit_names y p.1) n s h
bit_names (ule x y) b n s h = let p = and_parts _ _ b in of_two BitSort (names_in x) (names_in y) (bit_names x p.0) (bit_names y p.1) n s h
bit_names (concat x y) b n s h = let p = and_parts _ _ b in of_two BitSort (names_in x) (names_in y) (bit_names x p.0) (bit_names y p.1) n s h
bit_names (mul x y) b n s h = let p = and_parts _ _ b in of_two BitSort (names_in x) (names_in y) (bit_names x p.0) (bit_names y p.1) n s h
bit_names (shl x y) b n s h = let p = and_parts _ _ b in of_two BitSort (names_in x) (names_in y) (bit_names x p.0) (bit_names y p.1) n s h
bit_names (lshr x y) b n s h = let p = and_parts _ _ b in of_two BitSort (names_in x) (names_in y) (bit_names x p.0) (bit_names y p.1) n s h
bit_names (ashr x y) b n s h = let p = and_parts _ _ b in of_two BitSort (names_in x) (names_in y) (bit_names x p.0) (bit_names y p.1) n s h
bit_names (slt x y) b n s h = let p = and_parts _ _ b in of_two BitSort (names_in x) (names_in y) (bit_names x p.0) (bit_names y p.1) n s h
bit_names (sle x y) b n s h = let p = and_parts _ _ b in of_two BitSort (names_in x) (names_in y) (bit_names x p.0) (bit_names y p.1) n s h
bit_names (load x y) b n s h = absurd (false≢true b)
bit_names (extract i j x) b n s h = bit_names x b n s h
bit_names (zext w x) b n s h = bit_names x b n s h
bit_names (sext w x) b n s h = bit_names x b n s h
bit_names (ite c x y) b n s h = let p = and_parts _ _ b in let q = and_parts _ _ p.1 in of_two BitSort (names_in c) (names_in x ++ names_in y) (bit_names c p.0) (of_two BitSort (names_in x) (names_in y) (bit_names x q.0) (bit_names y q.1)) n s h
bit_names (store x y z) b n s h = absurd (false≢true b)

-- What is known when the formula stands: the circuit `old` has a bit for the term, and the formula is that of the same question of the
-- circuit c.
pub record IsBlastedTo (g : Graph) (root : ℕ) (used : List Bool) (firsts : List (Option ℕ)) (old c : Circuit) (bit turned wanted : Bit) (f : Formula) : Type 0 where
  pub laid : IsLaid g root used firsts c.inputs
  pub truth_sort : sort_of (tree g root) ≡ Some truth
  pub blastable : is_blastable (tree g root) ≡ true
  pub bits : AreBitsOf (tree g root) (variables_of g.names firsts) old (tree g root) (bit ∷ [])
  pub negated : (w : List Bool) → bit_value w turned ≡ truth_not (bit_value w bit)
  pub asked : IsAsked old turned c wanted
  pub formula : IsFormulaOf c wanted f
  pub determined : IsDetermined c

-- variables below a bound have the same values where the assignments agree below it
same_variables : (a w : List Bool) (inputs first n : ℕ) → first + n ≤ inputs → ((k : ℕ) → k < inputs → variable_value a k ≡ variable_value w k)
    → map (variable_value a) (variables_from first n) ≡ map (variable_value w) (variables_from first n)
same_variables a w inputs first zero l same = refl
same_variables a w inputs first (suc n) l same =
    ap (λ b. b ∷ map (variable_value a) (variables_from (suc first) n)) (same first (omega (arith, l)))
    ∙ ap (λ bs. variable_value w first ∷ bs) (same_variables a w inputs (suc first) n (omega (arith, l)) same)

-- an assignment of the same inputs restricts to the same values
also_restricts : (g : Graph) (root : ℕ) (used : List Bool) (firsts : List (Option ℕ)) (inputs : ℕ) → IsLaid g root used firsts inputs → (a w : List Bool) (v : Valuation)
    → ((k : ℕ) → k < inputs → variable_value a k ≡ variable_value w k)
    → RestrictsTo (variables_of g.names firsts) a v (tree g root) → RestrictsTo (variables_of g.names firsts) w v (tree g root)
also_restricts g root used firsts inputs l a w v same r n s stands =
    let u = l.are_used.all n s stands in
    let e = entry_at g.names u.0 in
    let has = has_variables g root used firsts inputs l u.0 u.1 (subst (λ (x : Name × Sort). Contains (names_in (tree g root)) x) (sym u.2) stands) in
    let here : map (variable_value a) (variables_of g.names firsts e.0) ≡ map (variable_value w) (variables_of g.names firsts e.0) =
    ap (map (variable_value a)) has.4 ∙ (same_variables a w inputs has.0 (bit_count e.1) has.3 same ∙ sym (ap (map (variable_value w)) has.4)) in
    let there : map (variable_value a) (variables_of g.names firsts n) ≡ map (variable_value w) (variables_of g.names firsts n) =
    subst (λ (x : Name × Sort). map (variable_value a) (variables_of g.names firsts x.0) ≡ map (variable_value w) (variables_of g.names firsts x.0)) u.2 here in
    subst (λ bs. Writes s (v n) bs) there (r n s stands)

turned_twice : (b c d : Bool) → c ≡ truth_not b → d ≡ c → b ≡ truth_not d
turned_twice true c d p q = sym (ap truth_not (q ∙ p))
turned_twice false c d p q = sym (ap truth_not (q ∙ p))

from_false : (b : Bool) → truth_not b ≡ false → b ≡ true
from_false true e = refl
from_false false e = absurd (false≢true (sym e))

-- an assignment that follows the circuit and restricts to a valuation tells the term's value by the wanted bit
the_bit : (g : Graph) (root : ℕ) (used : List Bool) (firsts : List (Option ℕ)) (old c : Circuit) (bit turned wanted : Bit) (f : Formula) → IsBlastedTo g root used firsts old c bit turned wanted f
    → (a : List Bool) (v : Valuation) → length a ≡ size c → FollowsCircuit a c → RestrictsTo (variables_of g.names firsts) a v (tree g root)
    → val (tree g root) v ≡ truth_value (truth_not (bit_value a wanted))
the_bit g root used firsts old c bit turned wanted f h a v whole follows r =
    let inputs : c.inputs ≡ old.inputs = h.asked.inputs in
    let long : length (take c.inputs a) ≡ c.inputs = length-take-le c.inputs a (omega (arith, whole)) in
    let w = h.asked.determined.some (take c.inputs a) (long ∙ inputs) in
    let same : (k : ℕ) → k < c.inputs → variable_value a k ≡ variable_value w.0 k =
    λ k l. sym (get_or-take c.inputs a k false l) ∙ (ap (λ xs. get_or xs k false) (sym w.2) ∙ get_or-take old.inputs w.0 k false (omega (arith, l, inputs))) in
    let joined : AreJoined old c w.0 a = record { first = w.3; second = follows; inputs = λ k l. same k (omega (arith, l, inputs)) } in
    let written = subst (λ o. WritesOf o (val (tree g root) v) (bit_value w.0 bit ∷ [])) h.truth_sort
    (h.bits.value w.0 v w.3 (also_restricts g root used firsts c.inputs h.laid a w.0 v same r)) in
    let p = truth_written (val (tree g root) v) (bit_value w.0 bit ∷ []) written in
    let is : bit_value w.0 bit ≡ truth_not (bit_value a wanted) = turned_twice (bit_value w.0 bit) (bit_value w.0 turned) (bit_value a wanted) (h.negated w.0) (h.asked.value w.0 a joined) in
    p.0 ∙ ap truth_value (sym (ap (λ bs. get_or bs 0 false) p.1) ∙ is)

restricts : (g : Graph) (root : ℕ) (used : List Bool) (firsts : List (Option ℕ)) (inputs : ℕ) → IsLaid g root used firsts inputs → is_blastable (tree g root) ≡ true
    → (a : List Bool) (v : Valuation) → GivesSorts v (tree g root) → HasFrom a 0 (inputs_for v g.names used) → RestrictsTo (variables_of g.names firsts) a v (tree g root)
restricts g root used firsts inputs l b a v sorts h n s stands =
    let u = l.are_used.all n s stands in
    let e = entry_at g.names u.0 in
    let vars : variables_of g.names firsts e.0 ≡ variables_from (first_at 0 g.names used u.0) (bit_count e.1) = ap (λ fs. variables_of g.names fs e.0) l.are_firsts ∙ lookup 0 g.names used u.0 l.distinct u.1 l.are_used.room u.3 in
    let read : map (variable_value a) (variables_of g.names firsts e.0) ≡ bits_of e.1 (v e.0) = ap (map (variable_value a)) vars ∙ inputs_read a v 0 g.names used u.0 u.1 l.are_used.room u.3 h in
    let all : map (variable_value a) (variables_of g.names firsts n) ≡ bits_of s (v n) = subst (λ (x : Name × Sort). map (variable_value a) (variables_of g.names firsts x.0) ≡ bits_of x.1 (v x.0)) u.2 read in
    subst (λ bs. Writes s (v n) bs) (sym all) (bits_write s (v n) (bit_names (tree g root) b n s stands) (sorts n s stands))

writes_all : (g : Graph) (root : ℕ) (used : List Bool) (firsts : List (Option ℕ)) (inputs : ℕ) → IsLaid g root used firsts inputs
    → (a : List Bool) (v : Valuation) → RestrictsTo (variables_of g.names firsts) a v (tree g root) → WriteAll a v 0 g.names used
writes_all g root used firsts inputs l a v r = λ j i m.
    let e = entry_at g.names j in
    let vars : variables_of g.names firsts e.0 ≡ variables_from (first_at 0 g.names used j) (bit_count e.1) = ap (λ fs. variables_of g.names fs e.0) l.are_firsts ∙ lookup 0 g.names used j l.distinct i l.are_used.room m in
    subst (λ xs. Writes e.1 (v e.0) (map (variable_value a) xs)) vars (r e.0 e.1 (l.are_used.none_else j m))

-- the circuit's inputs are the bits of the names, so an assignment that restricts to values has them there
same_front : (g : Graph) (root : ℕ) (used : List Bool) (firsts : List (Option ℕ)) (old c : Circuit) (bit turned wanted : Bit) (f : Formula) → IsBlastedTo g root used firsts old c bit turned wanted f
    → (v : Valuation) (a b : List Bool) → length a ≡ size c → length b ≡ size c → RestrictsTo (variables_of g.names firsts) a v (tree g root)
    → RestrictsTo (variables_of g.names firsts) b v (tree g root) → take c.inputs a ≡ take c.inputs b
same_front g root used firsts old c bit turned wanted f h v a b na nb p q =
    let agree = same_inputs a b v 0 g.names used h.laid.are_used.room (writes_all g root used firsts c.inputs h.laid a v p) (writes_all g root used firsts c.inputs h.laid b v q) in
    ext_get_or false (take c.inputs a) (take c.inputs b)
    (length-take-le c.inputs a (omega (arith, na)) ∙ sym (length-take-le c.inputs b (omega (arith, nb))))
    (λ i k. let below : i < c.inputs = omega (arith, k, length-take-le c.inputs a (omega (arith, na))) in
    get_or-take c.inputs a i false below ∙ (agree i (omega arith) (omega (arith, below, h.laid.end)) ∙ sym (get_or-take c.inputs b i false below)))

pub encoded : (g : Graph) (root : ℕ) (used : List Bool) (firsts : List (Option ℕ)) (old c : Circuit) (bit turned wanted : Bit) (f : Formula) → IsBlastedTo g root used firsts old c bit turned wanted f
    → Encodes f (variables_of g.names firsts) (tree g root)
encoded g root used firsts old c bit turned wanted f h = record {
  question = h.formula.question;
  some = λ v sorts.
      let inputs = inputs_for v g.names used in
      let n : length inputs ≡ c.inputs = omega (arith, inputs_count v 0 g.names used, h.laid.end) in
      let w = h.determined.some inputs n in
      let from : HasFrom w.0 0 inputs = has_from w.0 inputs 0 (λ i k.
      let z : 0 + i ≡ i = omega arith in
      ap (variable_value w.0) z ∙ (sym (get_or-take c.inputs w.0 i false (omega (arith, k, n))) ∙ ap (λ xs. get_or xs i false) w.2)) in (
        w.0,
        record {
          follows = record { whole = w.1 ∙ sym h.formula.vars; gates = (h.formula.follows w.0).1 w.3 };
          restricts = restricts g root used firsts c.inputs h.laid h.blastable w.0 v sorts from;
        },
      );
  one = λ v a b p q.
      let na : length a ≡ size c = p.follows.whole ∙ h.formula.vars in
      let nb : length b ≡ size c = q.follows.whole ∙ h.formula.vars in
      h.determined.one a b na nb (same_front g root used firsts old c bit turned wanted f h v a b na nb p.restricts q.restricts)
      ((h.formula.follows a).0 p.follows.gates) ((h.formula.follows b).0 q.follows.gates);
  asks = λ v a p.
      let told = the_bit g root used firsts old c bit turned wanted f h a v (p.follows.whole ∙ h.formula.vars) ((h.formula.follows a).0 p.follows.gates) p.restricts in (
        λ so. told ∙ ap (λ b. truth_value (truth_not b)) ((h.formula.asks a).0 so),
        λ e. (h.formula.asks a).1 (from_false (bit_value a wanted) (ap as_truth (sym told ∙ e))),
      );
}
