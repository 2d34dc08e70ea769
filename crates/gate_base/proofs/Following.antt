-- One gate more: what follows the longer circuit, and that every assignment of the inputs goes on in one way.
use Rattle.std.proofs.Common.{◌≡◌, ◌∙◌, ℕ, suc, ◌+◌, ◌<◌, Bool, false, not, cond, ◌&&◌, List, [], ◌∷◌, ◌++◌, length, take, get_or, slice_get, Some, zero, arith, refl, sym, ap, subst}
use Rattle.std.proofs.lemmas.List.{get_or-take, take_more, take_all, length-append, take-take, take_at, get_or_at}
use Rattle.std.proofs.lemmas.Option.{none-some, same_Some, slice_get_within}
use Rattle.sat_base.specs.declared.literals.Lit.{Lit}
use Rattle.sat_base.specs.Formula.{variable_value, value}
use Rattle.gate_base.specs.declared.bits.Bit.TheVariants.{Literal}
use Rattle.gate_base.specs.declared.bits.Gate.{Gate}
use Rattle.gate_base.specs.declared.bits.Gate.TheVariants.{And, Xor, Ite}
use Rattle.gate_base.specs.Circuit.{Circuit, exactly_one, gate_value, FollowsFrom, IsDetermined, Grows, Gives}
use Rattle.gate_base.specs.Clauses.{IsGateBelow, AreOrdered}

pub first_follows : (v : ℕ) (w : List Bool) (gs hs : List Gate) → FollowsFrom v w (gs ++ hs) → FollowsFrom v w gs
first_follows v w [] hs f = tt
first_follows v w (g ∷ gs) hs f = (f.0, first_follows (suc v) w gs hs f.1)

pub last_follows : (v : ℕ) (w : List Bool) (gs : List Gate) (g : Gate) → FollowsFrom v w (gs ++ g ∷ []) → variable_value w (v + length gs) ≡ gate_value w g
last_follows v w [] g f = let e : v ≡ v + 0 = omega arith in subst (λ n. variable_value w n ≡ gate_value w g) e f.0
last_follows v w (h ∷ gs) g f =
    let e : suc v + length gs ≡ v + suc (length gs) = omega arith in
    subst (λ n. variable_value w n ≡ gate_value w g) e (last_follows (suc v) w gs g f.1)

pub ordered_push : (v : ℕ) (gs : List Gate) (g : Gate) → AreOrdered v gs → IsGateBelow (v + length gs) g → AreOrdered v (gs ++ g ∷ [])
ordered_push v [] g o b = let e : v + 0 ≡ v = omega arith in (subst (λ n. IsGateBelow n g) e b, tt)
ordered_push v (h ∷ gs) g o b =
    let e : v + suc (length gs) ≡ suc v + length gs = omega arith in
    (o.0, ordered_push (suc v) gs g o.1 (subst (λ n. IsGateBelow n g) e b))

-- literals and gates below v depend on the first v variables alone
same_value : (v : ℕ) (w u : List Bool) (l : Lit) → take v w ≡ take v u → l.var < v → value w l ≡ value u l
same_value v w u l e b =
    ap (λ t. cond l.negative (not t) t) (sym (get_or-take v w l.var false b) ∙ ap (λ xs. get_or xs l.var false) e ∙ get_or-take v u l.var false b)

pub same_gate_value : (v : ℕ) (w u : List Bool) (g : Gate) → take v w ≡ take v u → IsGateBelow v g → gate_value w g ≡ gate_value u g
same_gate_value v w u (And x y) e b = ap (λ t. t && value w y) (same_value v w u x e b.0) ∙ ap (λ t. value u x && t) (same_value v w u y e b.1)
same_gate_value v w u (Xor x y) e b = ap (λ t. exactly_one t (value w y)) (same_value v w u x e b.0) ∙ ap (λ t. exactly_one (value u x) t) (same_value v w u y e b.1)
same_gate_value v w u (Ite c x y) e b =
    ap (λ t. cond t (value w x) (value w y)) (same_value v w u c e b.0)
    ∙ (ap (λ t. cond (value u c) t (value w y)) (same_value v w u x e b.1) ∙ ap (λ t. cond (value u c) (value u x) t) (same_value v w u y e b.2))

-- each assignment of the variables below v goes on
pub goes_on : (v : ℕ) (gs : List Gate) → AreOrdered v gs → (a : List Bool) → length a ≡ v
    → (w : List Bool) × (length w ≡ v + length gs) × (take v w ≡ a) × FollowsFrom v w gs
goes_on v [] o a n = (a, omega (arith, n), take_all v a (omega (arith, n)), tt)
goes_on v (g ∷ gs) o a n =
    let more : List Bool = a ++ gate_value a g ∷ [] in
    let m : length more ≡ suc v = length-append a (gate_value a g ∷ []) ∙ omega (arith, n) in
    let rest = goes_on (suc v) gs o.1 more m in
    let w = rest.0 in
    let front : take v w ≡ a =
    sym (take-take v (suc v) w (omega arith)) ∙ (ap (take v) rest.2 ∙ take_at a (gate_value a g ∷ []) v n) in
    let own : variable_value w v ≡ gate_value a g =
    sym (get_or-take (suc v) w v false (omega arith)) ∙ (ap (λ xs. get_or xs v false) rest.2 ∙ get_or_at a (gate_value a g) [] false v n) in
    let whole : take v a ≡ a = take_all v a (omega (arith, n)) in
    (w, rest.1 ∙ omega arith, front, (own ∙ same_gate_value v a w g (whole ∙ sym front) o.0, rest.3))

-- and in one way
pub goes_one_way : (v : ℕ) (gs : List Gate) → AreOrdered v gs → (w u : List Bool) → length w ≡ v + length gs → length u ≡ v + length gs
    → take v w ≡ take v u → FollowsFrom v w gs → FollowsFrom v u gs → w ≡ u
goes_one_way v [] o w u n m e f h = sym (take_all v w (omega (arith, n))) ∙ (e ∙ take_all v u (omega (arith, m)))
goes_one_way v (g ∷ gs) o w u n m e f h =
    let here : variable_value w v ≡ variable_value u v = f.0 ∙ (same_gate_value v w u g e o.0 ∙ sym h.0) in
    let next : take (v + 1) w ≡ take (v + 1) u =
    take_more w v false (omega (arith, n)) ∙ (ap (λ xs. xs ++ variable_value w v ∷ []) e ∙ (ap (λ t. take v u ++ t ∷ []) here ∙ sym (take_more u v false (omega (arith, m))))) in
    let s : v + 1 ≡ suc v = omega arith in
    goes_one_way (suc v) gs o.1 w u (n ∙ omega arith) (m ∙ omega arith) (subst (λ k. take k w ≡ take k u) s next) f.1 h.1

pub determined : (c : Circuit) → AreOrdered c.inputs c.gates → IsDetermined c
determined c o = record {
  some = goes_on c.inputs c.gates o;
  one = goes_one_way c.inputs c.gates o;
}

-- one gate more
pub grows_by_gate : (inputs : ℕ) (gs hs : List Gate) (g : Gate) → hs ≡ gs ++ g ∷ [] → Grows (record { inputs = inputs; gates = gs }) (record { inputs = inputs; gates = hs })
grows_by_gate inputs gs hs g e = record {
  inputs = refl;
  size = omega (arith, ap length e ∙ length-append gs (g ∷ []));
  follows = λ w f. first_follows inputs w gs (g ∷ []) (subst (FollowsFrom inputs w) e f);
}

pub gives_gate : (inputs var : ℕ) (gs hs : List Gate) (g : Gate) → hs ≡ gs ++ g ∷ [] → var ≡ inputs + length gs
    → Gives (record { inputs = inputs; gates = hs }) (Literal (record { var = var; negative = false })) (λ w. gate_value w g)
gives_gate inputs var gs hs g e v = record {
  known = omega (arith, v, ap length e ∙ length-append gs (g ∷ []));
  value = λ w f. ap (variable_value w) v ∙ last_follows inputs w gs g (subst (FollowsFrom inputs w) e f);
}

-- the variable of the gate at a place has what the gate gives
pub placed_follows : (v : ℕ) (w : List Bool) (gs : List Gate) (k : ℕ) (g : Gate) → slice_get gs k ≡ Some g → FollowsFrom v w gs → variable_value w (v + k) ≡ gate_value w g
placed_follows v w [] k g e f = absurd (none-some g e)
placed_follows v w (h ∷ gs) zero g e f =
    let s : v ≡ v + 0 = omega arith in
    subst (λ n. variable_value w n ≡ gate_value w h) s f.0 ∙ ap (gate_value w) (same_Some h g e)
placed_follows v w (h ∷ gs) (suc k) g e f =
    let s : suc v + k ≡ v + suc k = omega arith in
    subst (λ n. variable_value w n ≡ gate_value w g) s (placed_follows (suc v) w gs k g e f.1)

-- a gate that is there already, maybe with its operands in another order
pub gives_placed : (c : Circuit) (k : ℕ) (g h : Gate) → slice_get c.gates k ≡ Some g → ((w : List Bool) → gate_value w g ≡ gate_value w h)
    → Gives c (Literal (record { var = c.inputs + k; negative = false })) (λ w. gate_value w h)
gives_placed c k g h e same = record {
  known = omega (arith, slice_get_within c.gates k g e);
  value = λ w f. placed_follows c.inputs w c.gates k g e f ∙ same w;
}
