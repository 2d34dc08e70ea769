-- The names that a script may set of a design are one list of registers, and inputs that are found alike.
use Rattle.std.proofs.Common.{◌≡◌, ◌∙◌, ℕ, zero, suc, ◌<◌, ◌^◌, Bool, true, false, cond, List, [], ◌∷◌, length, get_or, map, Option, Some, None, option_map, refl, sym, ap, ap₂, subst, arith, IsTrue}
use Rattle.std.specs.Prelude.{Contains}
use Rattle.std.specs.List.{list_all, list_any}
use Rattle.std.proofs.lemmas.Bool.{and_parts, and_from, false≢true}
use Rattle.std.proofs.lemmas.Slice.Eq.{bytes_eq-Decides}
use Rattle.wb_values.specs.Value.{Name, same_name}
use Rattle.verilog_meaning.specs.Expression.{object_width}
use Rattle.verilog_meaning.specs.Hierarchy.{placed_scope}
use Rattle.verilog_meaning.specs.Settled.{Design}
use Rattle.verilog_registers.specs.Order.{members_in}
use Rattle.scripts.specs.Script.{Settable, Settables, Set, settable_named, sets_name}
use Rattle.design_scripts.specs.Names.{span, HasCountedBits, IsSettableRegister, IsSettableInput, AreSettables}
use Rattle.design_scripts.specs.Simulation.{HasCycles}
use Rattle.design_cycles.proofs.Order.{one_order, some_same}

same_tests : (a b : Bool) → (IsTrue a → IsTrue b) → (IsTrue b → IsTrue a) → a ≡ b
same_tests true b f g = sym (f refl)
same_tests false true f g = g refl
same_tests false false f g = refl

-- two of one name that fit the same values are one
one_settable : (s t : Settable) → s.called ≡ t.called → s.addresses ≡ t.addresses → ((k x : ℕ) → s.fits k x ≡ t.fits k x) → s ≡ t
one_settable s t e f g = λ i. record { called = e i; addresses = f i; fits = λ k x. g k x i }

-- ---- registers

same_registers : (d : Design) → HasCycles d → (s t : Settable) → IsSettableRegister d s → IsSettableRegister d t → s.called ≡ t.called → s ≡ t
same_registers d runs s t a b e =
    let i = a.is_register in
    let j = b.is_register in
    let one = runs.apart a.place b.place a.name b.name i.is_placed j.is_placed i.is_declared j.is_declared (sym a.called ∙ (e ∙ b.called)) in
    one_settable s t e
    (a.addressed ∙ (ap₂ (λ p n. option_map span (placed_scope p n).addresses) one.0 one.1 ∙ sym b.addressed))
    (λ k x. same_tests (s.fits k x) (t.fits k x)
    (λ h. (b.fitting k x).1 (subst (λ n. HasCountedBits b.place n k x) one.1 (subst (λ p. HasCountedBits p a.name k x) one.0 ((a.fitting k x).0 h))))
    (λ h. (a.fitting k x).1 (subst (λ n. HasCountedBits a.place n k x) (sym one.1) (subst (λ p. HasCountedBits p b.name k x) (sym one.0) ((b.fitting k x).0 h)))))

front : (s : Settable) (ss : List Settable) → Contains (s ∷ ss) s
front s ss = (0, omega arith, refl)

behind : (s : Settable) (ss : List Settable) (t : Settable) → Contains ss t → Contains (s ∷ ss) t
behind s ss t c = (suc c.0, omega (arith, c.1), c.2)

one_list : (d : Design) → HasCycles d → (ss ts : List Settable) → map (λ s. s.called) ss ≡ map (λ s. s.called) ts
    → ((s : Settable) → Contains ss s → IsSettableRegister d s) → ((s : Settable) → Contains ts s → IsSettableRegister d s) → ss ≡ ts
one_list d runs [] [] e f g = refl
one_list d runs [] (t ∷ ts) e f g = cc
one_list d runs (s ∷ ss) [] e f g = cc
one_list d runs (s ∷ ss) (t ∷ ts) e f g =
    let here : s.called ≡ t.called = cc in
    let there : map (λ (x : Settable). x.called) ss ≡ map (λ x. x.called) ts = cc in
    ap₂ (λ x xs. x ∷ xs) (same_registers d runs s t (f s (front s ss)) (g t (front t ts)) here)
    (one_list d runs ss ts there (λ x c. f x (behind s ss x c)) (λ x c. g x (behind t ts x c)))

pub one_states : (d : Design) (names others : Settables) → HasCycles d → AreSettables d names → AreSettables d others → names.states ≡ others.states
one_states d names others runs a b =
    one_list d runs names.states others.states (one_order d runs.top (members_in runs.top.of_module) _ _ (a.in_order runs.top runs.is_top) (b.in_order runs.top runs.is_top))
    a.registers b.registers

-- ---- inputs

same_inputs : (d : Design) (s t : Settable) → IsSettableInput d s → IsSettableInput d t → s.called ≡ t.called → s ≡ t
same_inputs d s t a b e =
    let one : a.is_input.top ≡ b.is_input.top = some_same (sym a.is_input.is_top ∙ b.is_input.is_top) in
    let width = ap₂ (λ p n. object_width (placed_scope p n)) one e in
    one_settable s t e (a.addressed ∙ sym b.addressed)
    (λ k x. same_tests (s.fits k x) (t.fits k x)
    (λ h. (b.fitting k x).1 (subst (λ w. x < 2 ^ w) width ((a.fitting k x).0 h)))
    (λ h. (a.fitting k x).1 (subst (λ w. x < 2 ^ w) (sym width) ((b.fitting k x).0 h))))

-- what is found under a name stands in the list, and has the name; and of what stands in the list one is found
found_in : (ss : List Settable) (n : Name) (s : Settable) → settable_named ss n ≡ Some s → Contains ss s × (s.called ≡ n)
found_in [] n s e = cc
found_in (t ∷ ss) n s e = one (same_name t.called n) refl e (found_in ss n s)
  where
    one : (b : Bool) → same_name t.called n ≡ b → cond b (Some t) (settable_named ss n) ≡ Some s → (settable_named ss n ≡ Some s → Contains ss s × (s.called ≡ n))
        → Contains (t ∷ ss) s × (s.called ≡ n)
    one true f g r = let same : t ≡ s = some_same g in (subst (Contains (t ∷ ss)) same (front t ss), ap (λ x. x.called) (sym same) ∙ (bytes_eq-Decides t.called n).0 f)
    one false f g r = let h = r g in (behind t ss s h.0, h.1)

is_found : (ss : List Settable) (n : Name) (s : Settable) → Contains ss s → s.called ≡ n → (t : Settable) × (settable_named ss n ≡ Some t)
is_found [] n s c e = absurd (omega (arith, c.1))
is_found (t ∷ ss) n s c e = one (same_name t.called n) refl c.0 c.1 c.2 (is_found ss n s)
  where
    one : (b : Bool) → same_name t.called n ≡ b → (k : ℕ) → k < suc (length ss) → get_or (t ∷ ss) k s ≡ s
        → (Contains ss s → s.called ≡ n → (u : Settable) × (settable_named ss n ≡ Some u)) → (u : Settable) × (cond b (Some t) (settable_named ss n) ≡ Some u)
    one true f k l h r = (t, refl)
    one false f zero l h r = absurd (false≢true (sym f ∙ (bytes_eq-Decides t.called n).1 (ap (λ x. x.called) h ∙ e)))
    one false f (suc k) l h r = r (k, omega (arith, l), h) e

module _ (d : Design) (names others : Settables) (a : AreSettables d names) (b : AreSettables d others) where
  -- an input of the one is found in the other
  given : (s : Settable) → Contains names.inputs s → (t : Settable) × Contains others.inputs t × (t.called ≡ s.called)
  given s c = b.all_inputs s.called (a.inputs s c).is_input

pub one_input : (d : Design) (names others : Settables) → AreSettables d names → AreSettables d others → (n : Name)
    → settable_named names.inputs n ≡ settable_named others.inputs n
one_input d names others a b n = by_both (settable_named names.inputs n) (settable_named others.inputs n) refl refl
  where
    by_both : (x y : Option Settable) → settable_named names.inputs n ≡ x → settable_named others.inputs n ≡ y → x ≡ y
    by_both None None e f = refl
    by_both None (Some t) e f =
        let h = found_in others.inputs n t f in
        let g = given d others names b a t h.0 in
        let r = is_found names.inputs n g.0 g.1 (g.2 ∙ h.1) in
        absurd (let k : None ≡ Some r.0 = sym e ∙ r.1 in cc)
    by_both (Some s) None e f =
        let h = found_in names.inputs n s e in
        let g = given d names others a b s h.0 in
        let r = is_found others.inputs n g.0 g.1 (g.2 ∙ h.1) in
        absurd (let k : None ≡ Some r.0 = sym f ∙ r.1 in cc)
    by_both (Some s) (Some t) e f =
        let h = found_in names.inputs n s e in
        let k = found_in others.inputs n t f in
        ap Some (same_inputs d s t (a.inputs s h.0) (b.inputs t k.0) (h.1 ∙ sym k.1))

-- settings set all inputs of the one exactly where they set all of the other
all_from : (P : Settable → Bool) (ss : List Settable) → ((s : Settable) → Contains ss s → P s ≡ true) → list_all P ss ≡ true
all_from P [] f = refl
all_from P (s ∷ ss) f = and_from _ _ (f s (front s ss)) (all_from P ss (λ x c. f x (behind s ss x c)))

all_at : (P : Settable → Bool) (ss : List Settable) (s : Settable) → list_all P ss ≡ true → Contains ss s → P s ≡ true
all_at P [] s h c = absurd (omega (arith, c.1))
all_at P (t ∷ ss) s h c = one c.0 c.1 c.2 (and_parts (P t) (list_all P ss) h) (all_at P ss s)
  where
    one : (k : ℕ) → k < suc (length ss) → get_or (t ∷ ss) k s ≡ s → (P t ≡ true) × (list_all P ss ≡ true)
        → (list_all P ss ≡ true → Contains ss s → P s ≡ true) → P s ≡ true
    one zero l e p r = subst (λ x. P x ≡ true) e p.0
    one (suc k) l e p r = r p.1 (k, omega (arith, l), e)

sets_all : (d : Design) (names others : Settables) → AreSettables d names → AreSettables d others → (ss : List Set)
    → list_all (sets_name ss) names.inputs ≡ true → list_all (sets_name ss) others.inputs ≡ true
sets_all d names others a b ss h =
    all_from (sets_name ss) others.inputs (λ s c.
    let g = given d others names b a s c in
    subst (λ n. list_any (λ u. same_name u.called n) ss ≡ true) g.2 (all_at (sets_name ss) names.inputs g.0 h g.1))

pub one_all : (d : Design) (names others : Settables) → AreSettables d names → AreSettables d others → (ss : List Set)
    → list_all (sets_name ss) names.inputs ≡ list_all (sets_name ss) others.inputs
one_all d names others a b ss =
    same_tests (list_all (sets_name ss) names.inputs) (list_all (sets_name ss) others.inputs) (sets_all d names others a b ss) (sets_all d others names b a ss)
