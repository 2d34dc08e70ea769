-- A model and a design have one limit.
use Rattle.std.proofs.Common.{◌≡◌, ◌∙◌, ℕ, zero, suc, ◌+◌, ◌<◌, ◌≤◌, Bool, true, false, ◌&&◌, List, [], ◌∷◌, Option, Some, None, refl, sym, ap, subst, arith, inl, inr}
use Rattle.std.specs.Prelude.{IsTrue, slice_get, unwrap_or}
use Rattle.std.proofs.lemmas.Bool.{false≢true, and_parts, cases_lt}
use Rattle.wb_values.specs.Value.{Name, Sort, Entries}
use Rattle.model_meaning.specs.Model.{Model, Instruction, states_of, instructions_in}
use Rattle.model_results.specs.Results.{unrolled}
use Rattle.verilog_meaning.specs.Hierarchy.{Placed, placed_scope, dotted}
use Rattle.verilog_meaning.specs.Settled.{Design, names_of}
use Rattle.design_scripts.specs.Simulation.{HasCycles}
use Rattle.design_cycles.specs.Cycles.{AcceptedDesignHasCycles}
use Rattle.design_cycles.specs.Unique.{OneOrder}
use Rattle.verilog_registers.specs.Order.{members_in}
use Rattle.v_design.specs.Registers.{CountedBits}
use Rattle.v_design.specs.Parts.{Parts, registers_of, are_bits_of, are_bits_for}
use Rattle.check_limits.specs.Limits.{Limit, limit_memory, limit_unroll, IsLimit, IsFirstOver, AreUnrolledWithin, register_bits, register_bits_of, state_bits, memory_bits}
use Rattle.check_limits.specs.Sources.{declared_bits, DeclaresBits}
use Rattle.check_limits.specs.Unique.{ArePartsOf, OneLimit}
use Rattle.check_limits.proofs.Declaring.{as_declared}

-- ---- the bits of registers

-- a register declares its bits once
declared_once : (d : Design) → HasCycles d → (n : Name) (a b : ℕ) → DeclaresBits d n a → DeclaresBits d n b → a ≡ b
declared_once d has n a b x y =
    let one =
    has.apart x.placed y.placed x.name y.name x.is_register.is_placed y.is_register.is_placed x.is_register.is_declared y.is_register.is_declared
    (sym x.is_name ∙ y.is_name) in
    x.has_bits ∙ (λ i. declared_bits (placed_scope (one.0 i) (one.1 i))) ∙ sym y.has_bits

abbrev first_name : Name → List Name → Name
first_name z [] = z
first_name z (n ∷ ns) = n

abbrev later_names : List Name → List Name
later_names [] = []
later_names (n ∷ ns) = ns

abbrev is_empty : List Name → Bool
is_empty [] = true
is_empty (n ∷ ns) = false

-- what each register of a list declares, by its place
abbrev AllDeclare : (Name → ℕ → Type 0) → Entries Sort → List CountedBits → Type 0
AllDeclare P ns cs = (k : ℕ) (n : Name) (s : Sort) (c : CountedBits) → slice_get ns k ≡ Some (n, s) → slice_get cs k ≡ Some c → P n (register_bits_of s c)

same_sum : (P : Name → ℕ → Type 0) → ((n : Name) (a b : ℕ) → P n a → P n b → a ≡ b) → (ns ms : Entries Sort) (cs bs : List CountedBits) → names_of ns ≡ names_of ms
    → are_bits_for ns cs ≡ true → are_bits_for ms bs ≡ true → AllDeclare P ns cs → AllDeclare P ms bs → register_bits ns cs ≡ register_bits ms bs
same_sum P once [] [] cs bs same a b p q = refl
same_sum P once [] (y ∷ ms) cs bs same a b p q = absurd (false≢true (sym (ap is_empty same)))
same_sum P once (x ∷ ns) [] cs bs same a b p q = absurd (false≢true (ap is_empty same))
same_sum P once (x ∷ ns) (y ∷ ms) [] bs same a b p q = absurd (false≢true a)
same_sum P once (x ∷ ns) (y ∷ ms) (c ∷ cs) [] same a b p q = absurd (false≢true b)
same_sum P once (x ∷ ns) (y ∷ ms) (c ∷ cs) (e ∷ bs) same a b p q =
    let first : x.0 ≡ y.0 = ap (first_name x.0) same in
    let here = once y.0 (register_bits_of x.1 c) (register_bits_of y.1 e) (subst (λ n. P n (register_bits_of x.1 c)) first (p zero x.0 x.1 c refl refl)) (q zero y.0 y.1 e refl refl) in
    let rest =
    same_sum P once ns ms cs bs (ap later_names same) (and_parts (are_bits_of x.1 c) _ a).1 (and_parts (are_bits_of y.1 e) _ b).1
    (λ k n s d f g. p (suc k) n s d f g) (λ k n s d f g. q (suc k) n s d f g) in
    (λ i. here i + rest i)

same_register_bits : OneOrder → (d : Design) → HasCycles d → (e f : Parts) → ArePartsOf d e → ArePartsOf d f → register_bits (registers_of e) e.bits ≡ register_bits (registers_of f) f.bits
same_register_bits one_order d has e f a b =
    same_sum (DeclaresBits d) (declared_once d has) (registers_of e) (registers_of f) e.bits f.bits
    (one_order d has.top (members_in has.top.of_module) (names_of (registers_of e)) (names_of (registers_of f)) (a.is_design.in_order has.top has.is_top) (b.is_design.in_order has.top has.is_top))
    a.counting b.counting
    (λ k n s c g h. as_declared d e k n s c a.is_design g h)
    (λ k n s c g h. as_declared d f k n s c b.is_design g h)

-- ---- limits

some_same : {A : Type 0} (x y : A) → Some x ≡ Some y → x ≡ y
some_same x y e = ap (λ o. unwrap_or o x) e

-- two instructions cannot both be the first that takes more, unless they take as many
one_over : (is : List Instruction) (n o : ℕ) → IsFirstOver is n → IsFirstOver is o → n ≡ o
one_over is n o a b =
    elim (cases_lt a.place b.place) as (λ _. n ≡ o) [
      | inl low ↦ (let small = b.none_before a.place a.instruction low a.at_place in absurd (omega (arith, small, a.takes, a.over)))
      | inr high ↦ elim (cases_lt b.place a.place) as (λ _. n ≡ o) [
        | inl low ↦ (let small = a.none_before b.place b.instruction low b.at_place in absurd (omega (arith, small, b.takes, b.over)))
        | inr low ↦ (let same : a.place ≡ b.place = omega (arith, high, low) in
            sym a.takes ∙ ap unrolled (some_same a.instruction b.instruction (sym a.at_place ∙ ap (slice_get is) same ∙ b.at_place)) ∙ b.takes)
      ]
    ]

none_over : (is : List Instruction) (n : ℕ) → IsFirstOver is n → AreUnrolledWithin is → ⊥
none_over is n a within = let small = within a.place a.instruction a.at_place in omega (arith, small, a.takes, a.over)

same_limit : (m : Model) (e f : Parts) (k l : Option Limit) → memory_bits m e ≡ memory_bits m f → IsLimit m e k → IsLimit m f l → k ≡ l
same_limit m e f None None bits a b = refl
same_limit m e f None (Some (limit_memory n)) bits a b = absurd (omega (arith, bits, a.0, b.0, b.1))
same_limit m e f None (Some (limit_unroll n)) bits a b = absurd (none_over (instructions_in m.top) n b.1 a.1)
same_limit m e f (Some (limit_memory n)) None bits a b = absurd (omega (arith, bits, a.0, a.1, b.0))
same_limit m e f (Some (limit_memory n)) (Some (limit_memory o)) bits a b = ap (λ x. Some (limit_memory x)) (a.0 ∙ bits ∙ sym b.0)
same_limit m e f (Some (limit_memory n)) (Some (limit_unroll o)) bits a b = absurd (omega (arith, bits, a.0, a.1, b.0))
same_limit m e f (Some (limit_unroll n)) None bits a b = absurd (none_over (instructions_in m.top) n a.1 b.1)
same_limit m e f (Some (limit_unroll n)) (Some (limit_memory o)) bits a b = absurd (omega (arith, bits, a.0, b.0, b.1))
same_limit m e f (Some (limit_unroll n)) (Some (limit_unroll o)) bits a b = ap (λ x. Some (limit_unroll x)) (one_over (instructions_in m.top) n o a.1 b.1)

pub one_limit : AcceptedDesignHasCycles → OneOrder → OneLimit
one_limit has_cycles one_order d m e f k l accepted of_text a b x y =
    same_limit m e f k l (ap (λ r. state_bits (states_of m.top) + r) (same_register_bits one_order d (has_cycles d accepted of_text) e f a b)) x y
