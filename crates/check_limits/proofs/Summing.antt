-- Sums of bits, one element more, and the first instruction that takes too many steps.
use Rattle.std.proofs.Common.{◌≡◌, ℕ, zero, suc, ◌+◌, ◌*◌, ◌^◌, ◌<◌, ◌≤◌, ◌%◌, Bool, true, false, ◌&&◌, nat_le, List, [], ◌∷◌, drop, take, map, length, get_or, Option, Some, option_map, refl, sym, ap, ◌∙◌, subst, arith, inl, inr}
use Rattle.std.specs.Prelude.{slice_get, is_some, unwrap_or}
use Rattle.std.proofs.lemmas.Bool.{false≢true, cases_lt}
use Rattle.std.proofs.lemmas.Bool.Decides.{nat_tests}
use Rattle.std.proofs.lemmas.Option.{slice_get_within, slice_get_read}
use Rattle.std.proofs.lemmas.Nat.{mul-le}
use Rattle.std.proofs.Math.Pow.{pow_mono}
use Rattle.wb_values.specs.Value.{Name, Sort, truth, memory, Entries, all_below}
use Rattle.model_meaning.specs.Term.{is_sort, is_width}
use Rattle.model_meaning.specs.Model.{StateDeclaration, Instruction, Instructions, instruction_list}
use Rattle.model_results.specs.Results.{unrolled}
use Rattle.wb_terms.specs.Graph.{Graph}
use Rattle.ila_model.specs.declared.parts.Instruction as code
use Rattle.ila_model.specs.declared.parts.ChildId.{ChildId}
use Rattle.ila_model.specs.Meaning.{instructions_of}
use Rattle.model_meaning.specs.Model as pure
use Rattle.v_design.specs.declared.bits.RegisterBits.{RegisterBits}
use Rattle.v_design.specs.Bits.{counted_bits}
use Rattle.v_design.specs.Registers.{CountedBits}
use Rattle.v_design.specs.Parts.{are_bits_of, are_bits_for}
use Rattle.check_limits.specs.Limits.{state_bits_of, register_bits_of, state_bits, register_bits, AreUnrolledWithin, IsFirstOver}

some_same : {A : Type 0} (x y : A) → Some x ≡ Some y → x ≡ y
some_same x y e = ap (λ o. unwrap_or o x) e

and_parts : (a b : Bool) → (a && b) ≡ true → (a ≡ true) × (b ≡ true)
and_parts true b h = (refl, h)
and_parts false b h = absurd (false≢true h)

at_most : (m n : ℕ) → nat_le m n ≡ true → m ≤ n
at_most m n h = grind (arith, nat_tests)

-- ---- one memory

-- what is known of a memory's sort
pub record IsMemorySort (a d : ℕ) : Type 0 where
  pub addresses : a ≤ 16
  pub width : d ≤ 128

pub memory_sort : (a d : ℕ) → is_sort (memory a d) ≡ true → IsMemorySort a d
memory_sort a d h =
    let p = and_parts (nat_le 1 a && nat_le a 16) (is_width d) h in
    record { addresses = at_most a 16 (and_parts (nat_le 1 a) (nat_le a 16) p.0).1; width = at_most d 128 (and_parts (nat_le 1 d) (nat_le d 128) p.1).1 }

pub masks_within : (a d : ℕ) (c : CountedBits) → are_bits_of (memory a d) c ≡ true → length c.masks ≤ 65536
masks_within a d c h =
    let p = (and_parts (is_some c.least) (nat_le (length c.masks) (2 ^ a) && (nat_le (unwrap_or c.least 0 + length c.masks) 65536 && all_below d c.masks)) h).1 in
    let q = (and_parts (nat_le (length c.masks) (2 ^ a)) (nat_le (unwrap_or c.least 0 + length c.masks) 65536 && all_below d c.masks) p).1 in
    omega (arith, at_most (unwrap_or c.least 0 + length c.masks) 65536 (and_parts (nat_le (unwrap_or c.least 0 + length c.masks) 65536) (all_below d c.masks) q).0)

pub state_bound : (a d n : ℕ) → is_sort (memory a d) ≡ true → n ≡ d → 1 * 2 ^ a % 2 ^ 128 * n ≤ 2 ^ 23
state_bound a d n h e =
    let s = memory_sort a d h in
    let p : 2 ^ a ≤ 2 ^ 16 = pow_mono s.addresses in
    let q : 1 * 2 ^ a % 2 ^ 128 ≤ 2 ^ 16 = omega (arith, p) in
    let w : n ≤ 128 = omega (arith, e, s.width) in
    omega (arith, mul-le (1 * 2 ^ a % 2 ^ 128) n (2 ^ 16) 128 q w)

-- ---- sums

states_from : (ss : List StateDeclaration) (k : ℕ) (s : Sort) → option_map (λ (d : StateDeclaration). d.sort) (slice_get ss k) ≡ Some s → state_bits (drop k ss) ≡ state_bits_of s + state_bits (drop (suc k) ss)
states_from [] k s e = absurd (cc)
states_from (d ∷ ss) zero s e = ap (λ x. state_bits_of x + state_bits ss) (some_same d.sort s e)
states_from (d ∷ ss) (suc k) s e = states_from ss k s e

pub one_state : (ss : List StateDeclaration) (k total one next : ℕ) (s : Sort) → option_map (λ (d : StateDeclaration). d.sort) (slice_get ss k) ≡ Some s → one ≡ state_bits_of s → next ≡ total + one
    → total + state_bits (drop k ss) ≡ state_bits ss → next + state_bits (drop (k + 1) ss) ≡ state_bits ss
one_state ss k total one next s e o n h =
    let later : k + 1 ≡ suc k = omega arith in
    subst (λ j. next + state_bits (drop j ss) ≡ state_bits ss) (sym later) (omega (arith, states_from ss k s e, o, n, h))

pub all_states : (ss : List StateDeclaration) (k total : ℕ) → length ss ≤ k → total + state_bits (drop k ss) ≡ state_bits ss → total ≡ state_bits ss
all_states ss k total l h = omega (arith, h, none_left ss k l)
  where
    none_left : (ss : List StateDeclaration) (k : ℕ) → length ss ≤ k → state_bits (drop k ss) ≡ 0
    none_left [] zero l = refl
    none_left [] (suc k) l = refl
    none_left (d ∷ ss) zero l = absurd (omega (arith, l))
    none_left (d ∷ ss) (suc k) l = none_left ss k (omega (arith, l))

registers_from : (ns : Entries Sort) (cs : List CountedBits) (k : ℕ) (n : Name × Sort) (c : CountedBits) → slice_get ns k ≡ Some n → slice_get cs k ≡ Some c
    → register_bits (drop k ns) (drop k cs) ≡ register_bits_of n.1 c + register_bits (drop (suc k) ns) (drop (suc k) cs)
registers_from [] cs k n c e i = absurd (cc)
registers_from (m ∷ ns) [] k n c e i = absurd (cc)
registers_from (m ∷ ns) (b ∷ cs) zero n c e i = (λ j. register_bits_of (some_same m n e j).1 (some_same b c i j) + register_bits ns cs)
registers_from (m ∷ ns) (b ∷ cs) (suc k) n c e i = registers_from ns cs k n c e i

pub one_register : (ns : Entries Sort) (cs : List CountedBits) (k total one next : ℕ) (n : Name × Sort) (c : CountedBits) → slice_get ns k ≡ Some n → slice_get cs k ≡ Some c → one ≡ register_bits_of n.1 c
    → next ≡ total + one → total + register_bits (drop k ns) (drop k cs) ≡ register_bits ns cs → next + register_bits (drop (k + 1) ns) (drop (k + 1) cs) ≡ register_bits ns cs
one_register ns cs k total one next n c e i o x h =
    let later : k + 1 ≡ suc k = omega arith in
    subst (λ j. next + register_bits (drop j ns) (drop j cs) ≡ register_bits ns cs) (sym later) (omega (arith, registers_from ns cs k n c e i, o, x, h))

pub all_registers : (ns : Entries Sort) (cs : List CountedBits) (k total : ℕ) → length ns ≤ k → total + register_bits (drop k ns) (drop k cs) ≡ register_bits ns cs → total ≡ register_bits ns cs
all_registers ns cs k total l h = omega (arith, h, none_left ns cs k l)
  where
    no_bits : (ns : Entries Sort) → register_bits ns [] ≡ 0
    no_bits [] = refl
    no_bits (n ∷ ns) = refl

    none_left : (ns : Entries Sort) (cs : List CountedBits) (k : ℕ) → length ns ≤ k → register_bits (drop k ns) (drop k cs) ≡ 0
    none_left [] cs zero l = refl
    none_left [] cs (suc k) l = refl
    none_left (n ∷ ns) cs zero l = absurd (omega (arith, l))
    none_left (n ∷ ns) [] (suc k) l = no_bits (drop k ns)
    none_left (n ∷ ns) (c ∷ cs) (suc k) l = none_left ns cs k (omega (arith, l))

-- ---- registers by place

pub bits_counted : (ns : Entries Sort) (cs : List CountedBits) → are_bits_for ns cs ≡ true → length cs ≡ length ns
bits_counted [] [] h = refl
bits_counted [] (c ∷ cs) h = absurd (false≢true h)
bits_counted (n ∷ ns) [] h = absurd (false≢true h)
bits_counted (n ∷ ns) (c ∷ cs) h = ap suc (bits_counted ns cs (and_parts (are_bits_of n.1 c) (are_bits_for ns cs) h).1)

pub bits_at : (ns : Entries Sort) (cs : List CountedBits) (k : ℕ) (n : Name × Sort) (c : CountedBits) → are_bits_for ns cs ≡ true → slice_get ns k ≡ Some n → slice_get cs k ≡ Some c → are_bits_of n.1 c ≡ true
bits_at [] cs k n c h e i = absurd (cc)
bits_at (m ∷ ns) [] k n c h e i = absurd (false≢true h)
bits_at (m ∷ ns) (b ∷ cs) zero n c h e i =
    subst (λ z. are_bits_of n.1 z ≡ true) (some_same b c i) (subst (λ (z : Name × Sort). are_bits_of z.1 b ≡ true) (some_same m n e) (and_parts (are_bits_of m.1 b) (are_bits_for ns cs) h).0)
bits_at (m ∷ ns) (b ∷ cs) (suc k) n c h e i = bits_at ns cs k n c (and_parts (are_bits_of m.1 b) (are_bits_for ns cs) h).1 e i

-- ---- instructions

pub instructions_counted : (g : Graph) (inner : Option ChildId → pure.Child) (is : List code.Instruction) → length (instruction_list (instructions_of g inner is)) ≡ length is
instructions_counted g inner [] = refl
instructions_counted g inner (i ∷ is) = ap suc (instructions_counted g inner is)

there : {A : Type 0} (xs : List A) (k : ℕ) → k < length xs → (x : A) × (slice_get xs k ≡ Some x)
there [] k b = absurd (omega (arith, b))
there (x ∷ xs) zero b = (x, refl)
there (x ∷ xs) (suc k) b = there xs k (omega (arith, b))

taken : (is : List Instruction) (k n : ℕ) (i : Instruction) → option_map unrolled (slice_get is k) ≡ Some n → slice_get is k ≡ Some i → unrolled i ≡ n
taken is k n i e a = some_same (unrolled i) n (ap (option_map unrolled) (sym a) ∙ e)

-- none of those before a place takes more
abbrev pub NoneBefore : List Instruction → ℕ → Type 0
NoneBefore is n = (k : ℕ) (i : Instruction) → k < n → slice_get is k ≡ Some i → unrolled i ≤ 4096

pub one_within : (is : List Instruction) (n steps : ℕ) → option_map unrolled (slice_get is n) ≡ Some steps → steps ≤ 4096 → NoneBefore is n → NoneBefore is (n + 1)
one_within is n steps e l h k i b a = elim (cases_lt k n) as (λ _. unrolled i ≤ 4096) [
  | inl less ↦ h k i less a
  | inr m ↦ (let same : n ≡ k = omega (arith, b, m) in omega (arith, taken is k steps i (subst (λ j. option_map unrolled (slice_get is j) ≡ Some steps) same e) a, l))
]

pub first_found : (is : List Instruction) (n steps : ℕ) → n < length is → option_map unrolled (slice_get is n) ≡ Some steps → 4096 < steps → NoneBefore is n → IsFirstOver is steps
first_found is n steps b e l h =
    let i = there is n b in
    record { place = n; instruction = i.0; at_place = i.1; takes = taken is n steps i.0 e i.1; over = l; none_before = h }

pub none_over : (is : List Instruction) (n : ℕ) → length is ≤ n → NoneBefore is n → AreUnrolledWithin is
none_over is n l h k i a = h k i (omega (arith, l, slice_get_within is k i a)) a

-- ---- names and bits of registers

mapped_at : {A B : Type 0} (f : A → B) (xs : List A) (k : ℕ) (x : A) → slice_get xs k ≡ Some x → slice_get (map f xs) k ≡ Some (f x)
mapped_at f [] k x e = absurd (cc)
mapped_at f (y ∷ ys) zero x e = ap (λ (z : _). Some (f z)) (some_same y x e)
mapped_at f (y ∷ ys) (suc k) x e = mapped_at f ys k x e

pub bits_read : (items : List RegisterBits) (k : ℕ) (b : RegisterBits) → k < length items → b ≡ get_or items k b → slice_get (map counted_bits items) k ≡ Some (counted_bits b)
bits_read items k b l e = mapped_at counted_bits items k b (slice_get_read items (length items) k b refl l e)

pub register_there : (ns : Entries Sort) (count k : ℕ) → k < count → count ≤ length ns → slice_get (take count ns) k ≡ Some (get_or ns k ([], truth))
register_there [] count k b l = absurd (omega (arith, b, l))
register_there (n ∷ ns) zero k b l = absurd (omega (arith, b))
register_there (n ∷ ns) (suc count) zero b l = refl
register_there (n ∷ ns) (suc count) (suc k) b l = register_there ns count k (omega (arith, b)) (omega (arith, l))

pub registers_counted : (ns : Entries Sort) (count : ℕ) → count ≤ length ns → length (take count ns) ≡ count
registers_counted ns zero l = refl
registers_counted [] (suc count) l = absurd (omega (arith, l))
registers_counted (n ∷ ns) (suc count) l = ap suc (registers_counted ns count (omega (arith, l)))
