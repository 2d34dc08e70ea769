-- The clauses of gates are satisfied by the assignments that follow the gates, and are those of a circuit.
use Rattle.std.proofs.Common.{◌≡◌, ◌∙◌, ℕ, suc, ◌+◌, ◌<◌, ◌≤◌, Bool, true, false, not, cond, ◌&&◌, ◌||◌, List, [], ◌∷◌, ◌++◌, length, get_or, arith, refl, sym, ap, subst, All}
use Rattle.std.proofs.lemmas.List.{take_all, take_at, get_or_at}
use Rattle.std.proofs.lemmas.List.Elements.{All-nil, All-cons, All-head, All-tail, All-append}
use Rattle.std.specs.List.{list_any}
use Rattle.std.proofs.lemmas.List.Folds.{Any-from_list_any, list_any-from_Any}
use Rattle.std.proofs.lemmas.Bool.{and_parts, and_from}
use Rattle.sat_base.specs.declared.literals.Lit.{Lit}
use Rattle.sat_base.specs.Literal.{negation, positive}
use Rattle.sat_base.specs.Formula.{Formula, value, SatisfiesClause, IsClauseOver}
use Rattle.gate_base.specs.declared.bits.Bit.{Bit}
use Rattle.gate_base.specs.declared.bits.Bit.TheVariants.{Constant, Literal}
use Rattle.gate_base.specs.declared.bits.Gate.{Gate}
use Rattle.gate_base.specs.declared.bits.Gate.TheVariants.{And, Xor, Ite}
use Rattle.gate_base.specs.Circuit.{Circuit, size, exactly_one, gate_value, bit_value, FollowsFrom, IsBitBelow, IsFormulaOf}
use Rattle.gate_base.specs.Clauses.{clauses_for, clauses_from, clauses_of_bit, IsGateBelow, AreOrdered}
use Rattle.gate_base.specs.Question.{GiveValue, AreCircuit}
use Rattle.gate_base.proofs.Following.{same_gate_value}

-- the list of clauses as a test
abbrev all_true : List Bool → List (List Lit) → Bool
all_true w [] = true
all_true w (c ∷ cs) = list_any (value w) c && all_true w cs

all_hold : (w : List Bool) (cs : List (List Lit)) → All (SatisfiesClause w) cs → all_true w cs ≡ true
all_hold w [] h = refl
all_hold w (c ∷ cs) h =
    and_from _ _ (list_any-from_Any (value w) c (All-head (SatisfiesClause w) c cs h)) (all_hold w cs (All-tail (SatisfiesClause w) c cs h))

hold_all : (w : List Bool) (cs : List (List Lit)) → all_true w cs ≡ true → All (SatisfiesClause w) cs
hold_all w [] h = All-nil (SatisfiesClause w)
hold_all w (c ∷ cs) h =
    let p = and_parts _ _ h in
    All-cons (SatisfiesClause w) c cs (Any-from_list_any (value w) c p.0) (hold_all w cs p.1)

abbrev same : Bool → Bool → Bool
same a b = cond a b (not b)

same_from : (a b : Bool) → a ≡ b → same a b ≡ true
same_from true true e = refl
same_from true false e = sym e
same_from false true e = e
same_from false false e = refl

from_same : (a b : Bool) → same a b ≡ true → a ≡ b
from_same true true e = refl
from_same true false e = sym e
from_same false true e = e
from_same false false e = refl

pub value-negation : (w : List Bool) (l : Lit) → value w (negation l) ≡ not (value w l)
value-negation w l = flip l.negative (get_or w l.var false)
  where
    flip : (n p : Bool) → cond (not n) (not p) p ≡ not (cond n (not p) p)
    flip true true = refl
    flip true false = refl
    flip false true = refl
    flip false false = refl

and_table : (v x y : Bool) → ((not v || (x || false)) && ((not v || (y || false)) && ((v || (not x || (not y || false))) && true))) ≡ same v (x && y)
and_table true true true = refl
and_table true true false = refl
and_table true false true = refl
and_table true false false = refl
and_table false true true = refl
and_table false true false = refl
and_table false false true = refl
and_table false false false = refl

and_clauses : (v x y nv nx ny : Bool) → nv ≡ not v → nx ≡ not x → ny ≡ not y
    → ((nv || (x || false)) && ((nv || (y || false)) && ((v || (nx || (ny || false))) && true))) ≡ same v (x && y)
and_clauses v x y nv nx ny p q r = rw (p, q, r) (and_table v x y)

xor_table : (v x y : Bool)
    → ((not v || (x || (y || false))) && ((not v || (not x || (not y || false))) && ((v || (not x || (y || false))) && ((v || (x || (not y || false))) && true)))) ≡ same v (exactly_one x y)
xor_table true true true = refl
xor_table true true false = refl
xor_table true false true = refl
xor_table true false false = refl
xor_table false true true = refl
xor_table false true false = refl
xor_table false false true = refl
xor_table false false false = refl

xor_clauses : (v x y nv nx ny : Bool) → nv ≡ not v → nx ≡ not x → ny ≡ not y
    → ((nv || (x || (y || false))) && ((nv || (nx || (ny || false))) && ((v || (nx || (y || false))) && ((v || (x || (ny || false))) && true)))) ≡ same v (exactly_one x y)
xor_clauses v x y nv nx ny p q r = rw (p, q, r) (xor_table v x y)

ite_table : (v c x y : Bool)
    → ((not v || (not c || (x || false))) && ((v || (not c || (not x || false))) && ((not v || (c || (y || false))) && ((v || (c || (not y || false))) && true)))) ≡ same v (cond c x y)
ite_table true true true true = refl
ite_table true true true false = refl
ite_table true true false true = refl
ite_table true true false false = refl
ite_table true false true true = refl
ite_table true false true false = refl
ite_table true false false true = refl
ite_table true false false false = refl
ite_table false true true true = refl
ite_table false true true false = refl
ite_table false true false true = refl
ite_table false true false false = refl
ite_table false false true true = refl
ite_table false false true false = refl
ite_table false false false true = refl
ite_table false false false false = refl

ite_clauses : (v c x y nv nc nx ny : Bool) → nv ≡ not v → nc ≡ not c → nx ≡ not x → ny ≡ not y
    → ((nv || (nc || (x || false))) && ((v || (nc || (nx || false))) && ((nv || (c || (y || false))) && ((v || (c || (ny || false))) && true)))) ≡ same v (cond c x y)
ite_clauses v c x y nv nc nx ny p q r s = rw (p, q, r, s) (ite_table v c x y)

gate_true : (w : List Bool) (v : Lit) (g : Gate) → all_true w (clauses_for v g) ≡ same (value w v) (gate_value w g)
gate_true w v (And x y) = and_clauses (value w v) (value w x) (value w y) _ _ _ (value-negation w v) (value-negation w x) (value-negation w y)
gate_true w v (Xor x y) = xor_clauses (value w v) (value w x) (value w y) _ _ _ (value-negation w v) (value-negation w x) (value-negation w y)
gate_true w v (Ite c x y) = ite_clauses (value w v) (value w c) (value w x) (value w y) _ _ _ _ (value-negation w v) (value-negation w c) (value-negation w x) (value-negation w y)

all_true-append : (w : List Bool) (cs ds : List (List Lit)) → all_true w (cs ++ ds) ≡ (all_true w cs && all_true w ds)
all_true-append w [] ds = refl
all_true-append w (c ∷ cs) ds = ap (λ t. list_any (value w) c && t) (all_true-append w cs ds) ∙ and_assoc (list_any (value w) c) (all_true w cs) (all_true w ds)
  where
    and_assoc : (a b c : Bool) → (a && (b && c)) ≡ ((a && b) && c)
    and_assoc true b c = refl
    and_assoc false b c = refl

gates_followed : (w : List Bool) (v : ℕ) (gs : List Gate) → all_true w (clauses_from v gs) ≡ true → FollowsFrom v w gs
gates_followed w v [] h = tt
gates_followed w v (g ∷ gs) h =
    let p = and_parts _ _ (sym (all_true-append w (clauses_for (positive v) g) (clauses_from (suc v) gs)) ∙ h) in
    (from_same _ _ (sym (gate_true w (positive v) g) ∙ p.0), gates_followed w (suc v) gs p.1)

followed_gates : (w : List Bool) (v : ℕ) (gs : List Gate) → FollowsFrom v w gs → all_true w (clauses_from v gs) ≡ true
followed_gates w v [] f = refl
followed_gates w v (g ∷ gs) f =
    all_true-append w (clauses_for (positive v) g) (clauses_from (suc v) gs)
    ∙ and_from _ _ (gate_true w (positive v) g ∙ same_from _ _ f.0) (followed_gates w (suc v) gs f.1)

bit_holds : (w : List Bool) (b : Bit) → all_true w (clauses_of_bit b) ≡ bit_value w b
bit_holds w (Constant true) = refl
bit_holds w (Constant false) = refl
bit_holds w (Literal l) = units (value w l)
  where
    units : (b : Bool) → ((b || false) && true) ≡ b
    units true = refl
    units false = refl

-- the clauses are over the circuit's variables
over_two : (n : ℕ) (x y : Lit) → x.var < n → y.var < n → IsClauseOver n (x ∷ y ∷ [])
over_two n x y a b = All-cons (λ l. l.var < n) x (y ∷ []) a (All-cons (λ l. l.var < n) y [] b (All-nil (λ l. l.var < n)))

over_three : (n : ℕ) (x y z : Lit) → x.var < n → y.var < n → z.var < n → IsClauseOver n (x ∷ y ∷ z ∷ [])
over_three n x y z a b c = All-cons (λ l. l.var < n) x (y ∷ z ∷ []) a (over_two n y z b c)

all_three : (P : List Lit → Type 0) (a b c : List Lit) → P a → P b → P c → All P (a ∷ b ∷ c ∷ [])
all_three P a b c p q r = All-cons P a (b ∷ c ∷ []) p (All-cons P b (c ∷ []) q (All-cons P c [] r (All-nil P)))

gate_over : (n v : ℕ) (g : Gate) → v < n → IsGateBelow v g → All (IsClauseOver n) (clauses_for (positive v) g)
gate_over n v (And x y) h b =
    let i : x.var < n = omega (arith, b.0) in
    let j : y.var < n = omega (arith, b.1) in
    let p = positive v in
    all_three (IsClauseOver n) (negation p ∷ x ∷ []) (negation p ∷ y ∷ []) (p ∷ negation x ∷ negation y ∷ [])
    (over_two n (negation p) x h i) (over_two n (negation p) y h j) (over_three n p (negation x) (negation y) h i j)
gate_over n v (Xor x y) h b =
    let i : x.var < n = omega (arith, b.0) in
    let j : y.var < n = omega (arith, b.1) in
    let p = positive v in
    All-cons (IsClauseOver n) (negation p ∷ x ∷ y ∷ []) ((negation p ∷ negation x ∷ negation y ∷ []) ∷ (p ∷ negation x ∷ y ∷ []) ∷ (p ∷ x ∷ negation y ∷ []) ∷ [])
    (over_three n (negation p) x y h i j)
    (all_three (IsClauseOver n) (negation p ∷ negation x ∷ negation y ∷ []) (p ∷ negation x ∷ y ∷ []) (p ∷ x ∷ negation y ∷ [])
    (over_three n (negation p) (negation x) (negation y) h i j) (over_three n p (negation x) y h i j) (over_three n p x (negation y) h i j))
gate_over n v (Ite c x y) h b =
    let k : c.var < n = omega (arith, b.0) in
    let i : x.var < n = omega (arith, b.1) in
    let j : y.var < n = omega (arith, b.2) in
    let p = positive v in
    All-cons (IsClauseOver n) (negation p ∷ negation c ∷ x ∷ []) ((p ∷ negation c ∷ negation x ∷ []) ∷ (negation p ∷ c ∷ y ∷ []) ∷ (p ∷ c ∷ negation y ∷ []) ∷ [])
    (over_three n (negation p) (negation c) x h k i)
    (all_three (IsClauseOver n) (p ∷ negation c ∷ negation x ∷ []) (negation p ∷ c ∷ y ∷ []) (p ∷ c ∷ negation y ∷ [])
    (over_three n p (negation c) (negation x) h k i) (over_three n (negation p) c y h k j) (over_three n p c (negation y) h k j))

gates_over : (n v : ℕ) (gs : List Gate) → v + length gs ≤ n → AreOrdered v gs → All (IsClauseOver n) (clauses_from v gs)
gates_over n v [] h o = All-nil (IsClauseOver n)
gates_over n v (g ∷ gs) h o =
    All-append (IsClauseOver n) (clauses_for (positive v) g) (clauses_from (suc v) gs) (gate_over n v g (omega (arith, h)) o.0) (gates_over n (suc v) gs (omega (arith, h)) o.1)

bit_over : (n : ℕ) (b : Bit) → IsBitBelow n b → All (IsClauseOver n) (clauses_of_bit b)
bit_over n (Constant true) h = All-nil (IsClauseOver n)
bit_over n (Constant false) h = All-cons (IsClauseOver n) [] [] (All-nil (λ l. l.var < n)) (All-nil (IsClauseOver n))
bit_over n (Literal l) h = All-cons (IsClauseOver n) (l ∷ []) [] (All-cons (λ l. l.var < n) l [] h (All-nil (λ l. l.var < n))) (All-nil (IsClauseOver n))

pub all_over : (n v : ℕ) (gs : List Gate) (b : Bit) → v + length gs ≡ n → AreOrdered v gs → IsBitBelow n b
    → All (IsClauseOver n) (clauses_from v gs ++ clauses_of_bit b)
all_over n v gs b e o k = All-append (IsClauseOver n) (clauses_from v gs) (clauses_of_bit b) (gates_over n v gs (omega (arith, e)) o) (bit_over n b k)

-- the clauses of a gate give its variable its value
gate_gives : (v : ℕ) (g : Gate) → IsGateBelow v g → GiveValue v (clauses_for (positive v) g)
gate_gives v g o = record {
  over = gate_over (suc v) v g (omega arith) o;
  some = λ a n.
      let b = gate_value a g in
      let w = a ++ b ∷ [] in
      (b, hold_all w (clauses_for (positive v) g) (gate_true w (positive v) g ∙ same_from (value w (positive v)) (gate_value w g) (own a b n ∙ given a b n)));
  one = λ a b c n h k. sym (own a b n) ∙ (told a b n h ∙ (sym (told a c n k) ∙ own a c n));
}
  where
    own : (a : List Bool) (b : Bool) → length a ≡ v → value (a ++ b ∷ []) (positive v) ≡ b
    own a b n = get_or_at a b [] false v n

    given : (a : List Bool) (b : Bool) → length a ≡ v → gate_value a g ≡ gate_value (a ++ b ∷ []) g
    given a b n = same_gate_value v a (a ++ b ∷ []) g (take_all v a (omega (arith, n)) ∙ sym (take_at a (b ∷ []) v n)) o

    told : (a : List Bool) (b : Bool) → length a ≡ v → All (SatisfiesClause (a ++ b ∷ [])) (clauses_for (positive v) g)
        → value (a ++ b ∷ []) (positive v) ≡ gate_value a g
    told a b n h =
        let w = a ++ b ∷ [] in
        from_same (value w (positive v)) (gate_value w g) (sym (gate_true w (positive v) g) ∙ all_hold w (clauses_for (positive v) g) h) ∙ sym (given a b n)

gates_are_circuit : (v : ℕ) (gs : List Gate) → AreOrdered v gs → AreCircuit v (length gs) (clauses_from v gs)
gates_are_circuit v [] o = refl
gates_are_circuit v (g ∷ gs) o =
    (clauses_for (positive v) g, clauses_from (suc v) gs, refl, gate_gives v g o.0, gates_are_circuit (suc v) gs o.1)

one_clause : (b : Bit) → length (clauses_of_bit b) ≤ 1
one_clause (Constant true) = omega arith
one_clause (Constant false) = omega arith
one_clause (Literal l) = omega arith

-- what the builder's formula is
pub formula_of : (c : Circuit) (b : Bit) (f : Formula) (vars : ℕ) (clauses gates : List (List Lit)) → AreOrdered c.inputs c.gates
    → f ≡ record { vars = vars; clauses = clauses } → vars ≡ size c → clauses ≡ gates ++ clauses_of_bit b → gates ≡ clauses_from c.inputs c.gates → IsFormulaOf c b f
formula_of c b f vars clauses gates o e v p q = record {
  vars = ap (λ (g : Formula). g.vars) e ∙ v;
  question = record {
    inputs = c.inputs;
    gates = length c.gates;
    circuit = clauses_from c.inputs c.gates;
    asked = clauses_of_bit b;
    vars = ap (λ (g : Formula). g.vars) e ∙ v;
    clauses = ap (λ (g : Formula). g.clauses) e ∙ (p ∙ ap (λ cs. cs ++ clauses_of_bit b) q);
    is_circuit = gates_are_circuit c.inputs c.gates o;
    one_clause = one_clause b;
  };
  inputs = refl;
  follows = λ w. (
    λ h. gates_followed w c.inputs c.gates (all_hold w (clauses_from c.inputs c.gates) h),
    λ h. hold_all w (clauses_from c.inputs c.gates) (followed_gates w c.inputs c.gates h),
  );
  asks = λ w. (λ h. sym (bit_holds w b) ∙ all_hold w (clauses_of_bit b) h, λ h. hold_all w (clauses_of_bit b) (bit_holds w b ∙ h));
}

pub formula_over : (c : Circuit) (b : Bit) (vars : ℕ) (clauses gates : List (List Lit)) → vars ≡ size c → AreOrdered c.inputs c.gates → IsBitBelow (size c) b
    → clauses ≡ gates ++ clauses_of_bit b → gates ≡ clauses_from c.inputs c.gates → All (IsClauseOver vars) clauses
formula_over c b vars clauses gates v o k p q =
    subst (λ cs. All (IsClauseOver vars) cs) (sym (p ∙ ap (λ cs. cs ++ clauses_of_bit b) q))
    (all_over vars c.inputs c.gates b (sym v) o (subst (λ n. IsBitBelow n b) (sym v) k))
