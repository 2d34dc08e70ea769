-- Copies of parts of a circuit: what is worth the same where a bit is true stays so while the copy grows, and with more that is known.
use Rattle.std.proofs.Common.{◌≡◌, ◌∙◌, ℕ, zero, suc, ◌+◌, ◌<◌, ◌≤◌, Bool, true, false, not, cond, ◌&&◌, List, [], ◌∷◌, length, get_or, set, replicate, slice_get, IfSome, Option, Some, None, Vec, Global, ◌⊎◌, inl, inr, refl, sym, ap, subst, arith}
use Rattle.std.proofs.lemmas.Bool.{cases_eq, false≢true, and_parts, and_from}
use Rattle.std.proofs.lemmas.List.{get_or-set_same, get_or-set_other, get_or-take, length-replicate}
use Rattle.std.proofs.lemmas.Option.{none-some, same_Some}
use Rattle.std.proofs.Math.ListN.{length-set}
use Rattle.sat_base.specs.declared.literals.Lit.{Lit}
use Rattle.sat_base.specs.Formula.{variable_value, value}
use Rattle.gate_base.specs.declared.bits.Bit.{Bit}
use Rattle.gate_base.specs.declared.bits.Bit.TheVariants.{Constant, Literal}
use Rattle.gate_base.specs.declared.bits.Gate.{Gate}
use Rattle.gate_base.specs.declared.bits.Gate.TheVariants.{And, Xor, Ite}
use Rattle.gate_base.specs.declared.assuming.Copier.{Copier}
use Rattle.gate_base.specs.Circuit.{Circuit, size, exactly_one, bit_value, gate_value, FollowsFrom, FollowsCircuit, IsBitBelow, IsKnown, IsDetermined, Grows, Gives}
use Rattle.gate_base.proofs.Following.{placed_follows}
use Rattle.gate_base.specs.Clauses.{IsGateBelow, AreOrdered}
use Rattle.gate_base.specs.Assumed.{AreJoined, truth_at, bit_at, IsFact, AreFacts, IsSameWhere, IsLike, HasWorth, IsCopying}

-- ---- one circuit under two assignments

literal_agrees : (v : ℕ) (w u : List Bool) (l : Lit) → ((k : ℕ) → k < v → variable_value u k ≡ variable_value w k) → l.var < v → value u l ≡ value w l
literal_agrees v w u l a b = ap (λ t. cond l.negative (not t) t) (a l.var b)

gate_agrees : (v : ℕ) (w u : List Bool) (g : Gate) → ((k : ℕ) → k < v → variable_value u k ≡ variable_value w k) → IsGateBelow v g → gate_value u g ≡ gate_value w g
gate_agrees v w u (And x y) a b = ap (λ t. t && value u y) (literal_agrees v w u x a b.0) ∙ ap (λ t. value w x && t) (literal_agrees v w u y a b.1)
gate_agrees v w u (Xor x y) a b = ap (λ t. exactly_one t (value u y)) (literal_agrees v w u x a b.0) ∙ ap (λ t. exactly_one (value w x) t) (literal_agrees v w u y a b.1)
gate_agrees v w u (Ite c x y) a b =
    ap (λ t. cond t (value u x) (value u y)) (literal_agrees v w u c a b.0)
    ∙ (ap (λ t. cond (value w c) t (value u y)) (literal_agrees v w u x a b.1) ∙ ap (λ t. cond (value w c) (value w x) t) (literal_agrees v w u y a b.2))

agrees_more : (v : ℕ) (w u : List Bool) → ((k : ℕ) → k < v → variable_value u k ≡ variable_value w k) → variable_value u v ≡ variable_value w v
    → (k : ℕ) → k < suc v → variable_value u k ≡ variable_value w k
agrees_more v w u a here k l = elim (cases_eq k v) [
  | inl q ↦ subst (λ n. variable_value u n ≡ variable_value w n) (sym q) here
  | inr ne ↦ a k (omega (arith, l, ne))
]

agrees : (v : ℕ) (gs : List Gate) (w u : List Bool) → AreOrdered v gs → ((k : ℕ) → k < v → variable_value u k ≡ variable_value w k)
    → FollowsFrom v w gs → FollowsFrom v u gs → (k : ℕ) → k < v + length gs → variable_value u k ≡ variable_value w k
agrees v [] w u o a f h k l = a k (omega (arith, l))
agrees v (g ∷ gs) w u o a f h k l =
    let here : variable_value u v ≡ variable_value w v = h.0 ∙ (gate_agrees v w u g a o.0 ∙ sym f.0) in
    agrees (suc v) gs w u o.1 (agrees_more v w u a here) f.1 h.1 k (omega (arith, l))

pub bit_agrees : (c : Circuit) (w u : List Bool) (b : Bit) → AreOrdered c.inputs c.gates → AreJoined c c w u → IsKnown c b → bit_value u b ≡ bit_value w b
bit_agrees c w u (Constant t) o j k = refl
bit_agrees c w u (Literal l) o j k = literal_agrees (size c) w u l (agrees c.inputs c.gates w u o j.inputs j.first j.second) k

-- ---- gates at their places

pub ordered_at : (v : ℕ) (gs : List Gate) (k : ℕ) (g : Gate) → AreOrdered v gs → slice_get gs k ≡ Some g → IsGateBelow (v + k) g
ordered_at v [] k g o e = absurd (none-some g e)
ordered_at v (h ∷ gs) zero g o e =
    let s : v ≡ v + 0 = omega arith in
    subst (λ n. IsGateBelow n g) s (subst (IsGateBelow v) (same_Some h g e) o.0)
ordered_at v (h ∷ gs) (suc k) g o e =
    let s : suc v + k ≡ v + suc k = omega arith in
    subst (λ n. IsGateBelow n g) s (ordered_at (suc v) gs k g o.1 e)

-- ---- tables

abbrev taken : {A : Type 0} → Option A → A → A
taken (Some x) d = x
taken None d = d

pub entry_set : {A : Type 0} (xs : List (Option A)) (k j : ℕ) (x y : A) → k < length xs → get_or (set xs k (Some x)) j None ≡ Some y
    → ((k ≡ j) × (x ≡ y)) ⊎ (get_or xs j None ≡ Some y)
entry_set xs k j x y l e = elim (cases_eq k j) [
  | inl q ↦
      let here : get_or (set xs k (Some x)) k None ≡ Some y = subst (λ i. get_or (set xs k (Some x)) i None ≡ Some y) (sym q) e in
      inl (q, ap (λ o. taken o x) (sym (get_or-set_same xs k (Some x) None l) ∙ here))
  | inr ne ↦ inr (sym (get_or-set_other xs k j (Some x) None (λ q. ne (sym q))) ∙ e)
]

-- ---- facts

true_literal : (n p : Bool) → cond n (not p) p ≡ true → p ≡ not n
true_literal true true e = absurd (false≢true e)
true_literal true false e = refl
true_literal false true e = refl
true_literal false false e = absurd (false≢true e)

pub literal_is_fact : (c : Circuit) (l x : Lit) → ((w : List Bool) → FollowsCircuit w c → value w l ≡ true → value w x ≡ true) → IsFact c l x.var (not x.negative)
literal_is_fact c l x h w f so = true_literal x.negative (variable_value w x.var) (h w f so)

pub fact_set : (c : Circuit) (l : Lit) (ts : List (Option Bool)) (k : ℕ) (b : Bool) → k < length ts → IsFact c l k b → AreFacts c l ts → AreFacts c l (set ts k (Some b))
fact_set c l ts k b m f a = record {
  room = length-set ts k (Some b) ∙ a.room;
  hold = λ j d e. elim (entry_set ts k j b d m e) [
    | inl p ↦ subst (λ i. IsFact c l i d) p.0 (subst (IsFact c l k) p.1 f)
    | inr q ↦ a.hold j d q
  ];
}

abbrev is_there : Option Bool → Bool
is_there (Some b) = true
is_there None = false

none_at : (n k : ℕ) → truth_at (replicate n None) k ≡ None
none_at zero zero = refl
none_at zero (suc k) = refl
none_at (suc n) zero = refl
none_at (suc n) (suc k) = none_at n k

-- the literal itself
pub first_fact : (c : Circuit) (l : Lit) (n : ℕ) (ts : List (Option Bool)) → n ≡ size c → l.var < n → ts ≡ replicate n None → AreFacts c l (set ts l.var (Some (not l.negative)))
first_fact c l n ts e m r =
    let long : length ts ≡ n = ap length r ∙ length-replicate n None in
    fact_set c l ts l.var (not l.negative) (omega (arith, m, long)) (literal_is_fact c l l (λ w f so. so)) (record {
      room = long ∙ e;
      hold = λ k b q. absurd (false≢true (sym (ap is_there (ap (λ xs. truth_at xs k) r ∙ none_at n k)) ∙ ap is_there q));
    })

-- what a read of the table says
pub read_truth : (ts : List (Option Bool)) (k : ℕ) (x : Option Bool) (b : Bool) → k < length ts → x ≡ get_or ts k x → x ≡ Some b → truth_at ts k ≡ Some b
read_truth [] k x b l e q = absurd (omega (arith, l))
read_truth (y ∷ ts) zero x b l e q = sym e ∙ q
read_truth (y ∷ ts) (suc k) x b l e q = read_truth ts k x b (omega (arith, l)) e q

-- the variable of the gate at a place
pub variable_is : (c : Circuit) (v k : ℕ) (g h : Gate) → v ≡ c.inputs + k → slice_get c.gates k ≡ Some g → g ≡ h → (w : List Bool) → FollowsCircuit w c → variable_value w v ≡ gate_value w h
variable_is c v k g h e at same w f = ap (variable_value w) e ∙ (placed_follows c.inputs w c.gates k g at f ∙ ap (gate_value w) same)

pub some_weaker : {A : Type 0} (P Q : A → Type 0) (o : Option A) → ((x : A) → P x → Q x) → IfSome o P → IfSome o Q
some_weaker P Q (Some x) f h = f x h
some_weaker P Q None f h = tt

-- ---- copies while the circuit grows

known_grown : (n m : ℕ) (b : Bit) → n ≤ m → IsBitBelow n b → IsBitBelow m b
known_grown n m (Constant t) l k = tt
known_grown n m (Literal x) l k = omega (arith, l, k)

joined_back : (c d e : Circuit) (w u : List Bool) → Grows d e → AreJoined c e w u → AreJoined c d w u
joined_back c d e w u g j = record { first = j.first; second = g.follows u j.second; inputs = j.inputs }

pub copying_grown : (c : Circuit) (l : Lit) (k : Copier) (e : Circuit) → Grows k.fresh e → IsCopying c l k
    → IsCopying c l (record { fresh = e; copies = k.copies; worth = k.worth; all = k.all })
copying_grown c l k e g h = record {
  inputs = g.inputs ∙ h.inputs;
  all = known_grown (size k.fresh) (size e) k.all g.size h.all;
  copies = λ v b at. record {
    known = known_grown (size k.fresh) (size e) b g.size (h.copies v b at).known;
    value = λ w u j so. (h.copies v b at).value w u (joined_back c k.fresh e w u g j) so;
  };
  worth = λ v t at u f so. h.worth v t at u (g.follows u f) so;
  follows = λ w u j so. h.follows w u (joined_back c k.fresh e w u g j) so;
}

pub like_and : (c d e : Circuit) (all x y b : Bit) (p q : List Bool → Bool) → Grows d e → IsLike c d all x p → IsLike c d all y q
    → Gives e b (λ u. bit_value u x && bit_value u y) → IsLike c e all b (λ w. p w && q w)
like_and c d e all x y b p q g first second is = record {
  known = is.known;
  value = λ w u j so.
      let back = joined_back c d e w u g j in
      is.value u j.second ∙ (ap (λ t. t && bit_value u y) (first.value w u back so) ∙ ap (λ t. p w && t) (second.value w u back so));
}

pub like_xor : (c d e : Circuit) (all x y b : Bit) (p q : List Bool → Bool) → Grows d e → IsLike c d all x p → IsLike c d all y q
    → Gives e b (λ u. exactly_one (bit_value u x) (bit_value u y)) → IsLike c e all b (λ w. exactly_one (p w) (q w))
like_xor c d e all x y b p q g first second is = record {
  known = is.known;
  value = λ w u j so.
      let back = joined_back c d e w u g j in
      is.value u j.second ∙ (ap (λ t. exactly_one t (bit_value u y)) (first.value w u back so) ∙ ap (λ t. exactly_one (p w) t) (second.value w u back so));
}

pub like_ite : (c d e : Circuit) (all s x y b : Bit) (r p q : List Bool → Bool) → Grows d e → IsLike c d all s r → IsLike c d all x p → IsLike c d all y q
    → Gives e b (λ u. cond (bit_value u s) (bit_value u x) (bit_value u y)) → IsLike c e all b (λ w. cond (r w) (p w) (q w))
like_ite c d e all s x y b r p q g chosen first second is = record {
  known = is.known;
  value = λ w u j so.
      let back = joined_back c d e w u g j in
      is.value u j.second
      ∙ (ap (λ t. cond t (bit_value u x) (bit_value u y)) (chosen.value w u back so)
      ∙ (ap (λ t. cond (r w) t (bit_value u y)) (first.value w u back so) ∙ ap (λ t. cond (r w) (p w) t) (second.value w u back so)));
}

pub like_variable : (c d : Circuit) (all b : Bit) (v : ℕ) (f : List Bool → Bool) → ((w : List Bool) → FollowsCircuit w c → variable_value w v ≡ f w)
    → IsLike c d all b f → IsLike c d all b (λ w. variable_value w v)
like_variable c d all b v f same like = record { known = like.known; value = λ w u j so. like.value w u j so ∙ sym (same w j.first) }

pub like_literal : (c d : Circuit) (all bit turned last : Bit) (l : Lit) → IsLike c d all bit (λ w. variable_value w l.var)
    → ((u : List Bool) → bit_value u turned ≡ exactly_one l.negative (bit_value u bit)) → IsSameWhere d all last turned → IsLike c d all last (λ w. value w l)
like_literal c d all bit turned last l like turn same = record {
  known = same.known;
  value = λ w u j so. same.value u j.second so ∙ (turn u ∙ ap (λ t. cond l.negative (not t) t) (like.value w u j so));
}

pub known_is_same : (d : Circuit) (all a b : Bit) (l : Lit) (t : Bool) → IsKnown d a → ((u : List Bool) → bit_value u a ≡ exactly_one l.negative t) → b ≡ Literal l
    → ((u : List Bool) → FollowsCircuit u d → bit_value u all ≡ true → variable_value u l.var ≡ t) → IsSameWhere d all a b
known_is_same d all a b l t known turn is worth = record {
  known = known;
  value = λ u f so. turn u ∙ (sym (ap (λ s. cond l.negative (not s) s) (worth u f so)) ∙ sym (ap (bit_value u) is));
}

pub copy_put : (c : Circuit) (l : Lit) (k : Copier) (copies : Vec (Option Bit) Global) (v : ℕ) (b : Bit) → v < length k.copies.items → copies.items ≡ set k.copies.items v (Some b)
    → IsLike c k.fresh k.all b (λ w. variable_value w v) → IsCopying c l k → IsCopying c l (record { fresh = k.fresh; copies = copies; worth = k.worth; all = k.all })
copy_put c l k copies v b m e like h = record {
  inputs = h.inputs;
  all = h.all;
  copies = λ i x at. elim (entry_set k.copies.items v i b x m (subst (λ xs. bit_at xs i ≡ Some x) e at)) [
    | inl p ↦ subst (λ n. IsLike c k.fresh k.all x (λ w. variable_value w n)) p.0 (subst (λ y. IsLike c k.fresh k.all y (λ w. variable_value w v)) p.1 like)
    | inr q ↦ h.copies i x q
  ];
  worth = h.worth;
  follows = h.follows;
}

-- ---- one fact more

abbrev literal_for : ℕ → Bool → Lit
literal_for v t = record { var = v; negative = not t }

is_so : (t p : Bool) → p ≡ t → cond (not t) (not p) p ≡ true
is_so true true e = refl
is_so true false e = absurd (false≢true e)
is_so false true e = absurd (false≢true (sym e))
is_so false false e = refl

pub fact_noted : (c : Circuit) (l : Lit) (k : Copier) (e : Circuit) (all bit : Bit) (worth : Vec (Option Bool) Global) (v : ℕ) (t : Bool)
    → Grows k.fresh e → Gives e all (λ u. bit_value u k.all && bit_value u bit) → IsLike c k.fresh k.all bit (λ w. value w (literal_for v t)) → IsFact c l v t
    → (HasWorth e all k.worth.items → ((u : List Bool) → FollowsCircuit u e → bit_value u all ≡ true → bit_value u bit ≡ true) → HasWorth e all worth.items)
    → IsCopying c l k → IsCopying c l (record { fresh = e; copies = k.copies; worth = worth; all = all })
fact_noted c l k e all bit worth v t g is like fact put h =
    let parts : (u : List Bool) → FollowsCircuit u e → bit_value u all ≡ true → (bit_value u k.all ≡ true) × (bit_value u bit ≡ true) =
    λ u f so. and_parts (bit_value u k.all) (bit_value u bit) (sym (is.value u f) ∙ so) in
    record {
      inputs = g.inputs ∙ h.inputs;
      all = is.known;
      copies = λ i b at. record {
        known = known_grown (size k.fresh) (size e) b g.size (h.copies i b at).known;
        value = λ w u j so. (h.copies i b at).value w u (joined_back c k.fresh e w u g j) (parts u j.second so).0;
      };
      worth = put (λ i s at u f so. h.worth i s at u (g.follows u f) (parts u f so).0) (λ u f so. (parts u f so).1);
      follows = λ w u j so.
          let back = joined_back c k.fresh e w u g j in
          let first : bit_value u k.all ≡ true = h.follows w u back so in
          let second : bit_value u bit ≡ true = like.value w u back first ∙ is_so t (variable_value w v) (fact w j.first so) in
          is.value u j.second ∙ and_from (bit_value u k.all) (bit_value u bit) first second;
    }

-- ---- the end

meet : (a o v : Bool) → (v ≡ true → a ≡ true) → (a ≡ true → o ≡ v) → (a && o) ≡ v
meet true o v f g = g refl
meet false o true f g = absurd (false≢true (f refl))
meet false o false f g = refl

pub asked_value : (c : Circuit) (l : Lit) (k : Copier) (e : Circuit) (own bit : Bit) → Grows k.fresh e → Gives e bit (λ u. bit_value u k.all && bit_value u own)
    → IsLike c k.fresh k.all own (λ w. value w l) → IsCopying c l k → (w u : List Bool) → AreJoined c e w u → bit_value u bit ≡ value w l
asked_value c l k e own bit g is like h w u j =
    let back = joined_back c k.fresh e w u g j in
    is.value u j.second ∙ meet (bit_value u k.all) (bit_value u own) (value w l) (h.follows w u back) (like.value w u back)

-- the first so many values, with false for those that are not there
abbrev front : ℕ → List Bool → List Bool
front zero w = []
front (suc n) [] = false ∷ front n []
front (suc n) (b ∷ bs) = b ∷ front n bs

front_count : (n : ℕ) (w : List Bool) → length (front n w) ≡ n
front_count zero w = refl
front_count (suc n) [] = ap suc (front_count n [])
front_count (suc n) (b ∷ bs) = ap suc (front_count n bs)

front_at : (n k : ℕ) (w : List Bool) → k < n → get_or (front n w) k false ≡ get_or w k false
front_at zero k w l = absurd (omega (arith, l))
front_at (suc n) zero [] l = refl
front_at (suc n) (suc k) [] l = front_at n k [] (omega (arith, l)) ∙ none_there k
  where
    none_there : (k : ℕ) → get_or [] k false ≡ false
    none_there zero = refl
    none_there (suc k) = refl
front_at (suc n) zero (b ∷ bs) l = refl
front_at (suc n) (suc k) (b ∷ bs) l = front_at n k bs (omega (arith, l))

-- where the copy is never true, nor is the literal
pub never : (c : Circuit) (l : Lit) (k : Copier) (e : Circuit) (own bit : Bit) → Grows k.fresh e → Gives e bit (λ u. bit_value u k.all && bit_value u own)
    → IsLike c k.fresh k.all own (λ w. value w l) → IsCopying c l k → IsDetermined e → bit ≡ Constant false → (w : List Bool) → FollowsCircuit w c → false ≡ value w l
never c l k e own bit g is like h determined at w f =
    let inputs : e.inputs ≡ c.inputs = g.inputs ∙ h.inputs in
    let u = determined.some (front e.inputs w) (front_count e.inputs w) in
    let joined : AreJoined c e w u.0 = record {
      first = f;
      second = u.3;
      inputs = λ v m.
          let n : v < e.inputs = omega (arith, m, inputs) in
          sym (get_or-take e.inputs u.0 v false n) ∙ (ap (λ xs. get_or xs v false) u.2 ∙ front_at e.inputs v w n);
    } in
    sym (ap (bit_value u.0) at) ∙ asked_value c l k e own bit g is like h w u.0 joined
