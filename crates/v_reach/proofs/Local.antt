-- What a bit depends on after a statement is the bit itself, or a bit that the statement reads: so a table of these bits alone says as much.
use Rattle.std.proofs.Common.{◌≡◌, ◌∙◌, ℕ, ◌+◌, ◌-◌, ◌%◌, ◌<◌, ◌≤◌, refl, ap, sym, subst, arith, Bool, true, false, cond, not, inl, inr, Option, Some, None}
use Rattle.std.specs.Prelude.{IsTrue, ◌↔◌, ◌⊎◌, ◌&&◌, ◌||◌, nat_lt, is_none, option_and_then, ℤ, pos, negsuc, ◌+ℤ◌, int_le, int_lt}
use Rattle.std.proofs.lemmas.Bool.{true≢false, false≢true, and_parts, and_from, or_left, or_right}
use Rattle.std.proofs.lemmas.Bool.Decides.{nat_tests}
use Rattle.std.proofs.lemmas.Int.{ints}
use Rattle.wb_values.specs.Value.{Name, same_name}
use Rattle.wb_values.specs.Choice.{some_if}
use Rattle.verilog_trees.specs.Syntax.{Expression, number, name, concatenation, replication, as_signed, as_unsigned, unary, reduction, binary, shift, power, comparison, logical, conditional, Expressions, no_expressions, expression, Selects, whole, one, two, Target, place, joined, Targets, no_targets, target, Statement, empty, blocking, nonblocking, if_then, if_else, case, block, Statements, no_statements, statement, CaseItems, no_items, arm, default_arm}
use Rattle.verilog_meaning.specs.Expression.{Object, Scope, object_width, is_memory, Bits, no_values, word_number, select_index, select_bits, selects_width, sign_of, width_of, widths_of}
use Rattle.verilog_meaning.specs.Statement.{Place, variable_cell, cell_at, indexed_cell, all_bits, named_place}
use Rattle.verilog_meaning.specs.Register.{select_is_constant, selects_are_constant, is_within, is_word_number, may_mean_bit, may_mean_word, may_mean, may_reach, may_assign, may_assign_in_case, is_bit_of}
use Rattle.verilog_designs.specs.Reads.{BitSet, or_in, and_in, name_reads, reads, reads_in_all, selects_read, target_reads, targets_read, items_read, surely_reaches, is_full}
use Rattle.verilog_designs.specs.Drivers.{statement_reads, statements_read, arms_read}
use Rattle.verilog_designs.specs.Dependence.{Bit, is_in, word_of_cell, natural_in, bit_in, bit_at, widened_bit, copied, copied_in, index_reads, one_index_reads, IsGivenBy, copied_to, computed, Dependences, at_start, ThroughReads, AfterAssignment, kept, given, indexed, AfterChoice, NoArm, After, AfterAll, AfterArms}
use Rattle.verilog_unique.proofs.Options.{is_same}
use Rattle.v_value.specs.Narrow.{IsNarrow, AreNarrow}
use Rattle.v_flow.specs.Spans.{existing}
use Rattle.v_flow.specs.Narrow.{IsNarrowFlow, AreNarrowFlows, AreNarrowArms}
use Rattle.v_masks.specs.Masks.{spread}
use Rattle.v_paths.specs.Premises.{HasNoMemory}
use Rattle.v_depend.specs.Resting.{IsThere, OneIsUnsettled, RestsAfter}
use Rattle.v_loops.specs.Turns.{RestsBy}
use Rattle.v_loops.proofs.Steps.{RestsWhereItDepends, in-first, spread-free, after-there}

-- ---- the bits that a part of a name takes

never : {A : Type 0} (y : Bit) → None ≡ Some y → A
never {A} y e = absurd (let f : None ≡ Some y = e in cc)

inside : (low : ℤ) (count j b : ℕ) → natural_in (low +ℤ pos j) ≡ Some b → j < count → (int_le low (pos b) && int_lt (pos b) (low +ℤ pos count)) ≡ true
inside low count j b e l = by low (low +ℤ pos j) refl e
  where
    by : (low : ℤ) (i : ℤ) → low +ℤ pos j ≡ i → natural_in i ≡ Some b → (int_le low (pos b) && int_lt (pos b) (low +ℤ pos count)) ≡ true
    by (pos k) (pos n) g f =
        let same : n ≡ b = cc in
        let sum : k + j ≡ n = omega (arith, ints, g) in
        grind (arith, ints, nat_tests, same, sum, l)
    by (negsuc k) (pos n) g f =
        let same : n ≡ b = cc in
        let sum : j ≡ n + (k + 1) = omega (arith, ints, g) in
        grind (arith, ints, nat_tests, same, sum, l)
    by low (negsuc n) g f = absurd (let h : None ≡ Some b = f in cc)

either-so : (c t : Bool) → t ≡ true → cond c t true ≡ true
either-so true t e = e
either-so false t e = refl

word-so : (q : Option ℕ) (k : ℕ) → word_of_cell (cell_at q) ≡ Some k → is_word_number q k ≡ true
word-so None k e = absurd (let f : None ≡ Some k = e in cc)
word-so (Some j) k e = let same : j ≡ k = cc in grind (arith, nat_tests, same)

abbrev kind-place : Bool → Name → Object → ℤ → Bits → Place
kind-place m n o i bits = cond m (record { of_name = n; cell = indexed_cell o i; bits = all_bits o }) (record { of_name = n; cell = variable_cell; bits = bits })

means : (s : Scope) (n : Name) (x : Selects) (j k b : ℕ) → j < selects_width s (s n) x → word_of_cell (named_place s no_values n x).cell ≡ Some k
    → natural_in ((named_place s no_values n x).bits.low +ℤ pos j) ≡ Some b → may_mean s (s n) x k b ≡ true
means s n whole j k b l e f = refl
means s n (one i) j k b l e f = by-kind (is_memory (s n)) l e f
  where
    by-kind : (m : Bool) → j < cond m (object_width (s n)) (select_bits s no_values (s n) i).count
        → word_of_cell (kind-place m n (s n) (select_index s no_values i) (select_bits s no_values (s n) i)).cell ≡ Some k
        → natural_in ((kind-place m n (s n) (select_index s no_values i) (select_bits s no_values (s n) i)).bits.low +ℤ pos j) ≡ Some b
        → cond m (may_mean_word s (s n) i k) (may_mean_bit s (s n) i b) ≡ true
    by-kind true g h r =
        either-so (select_is_constant s i) (is_word_number (option_and_then (λ a. word_number a (select_index s no_values i)) (s n).addresses) k)
        (word-so (option_and_then (λ a. word_number a (select_index s no_values i)) (s n).addresses) k h)
    by-kind false g h r =
        either-so (select_is_constant s i) (is_within (select_bits s no_values (s n) i) b)
        (inside (select_bits s no_values (s n) i).low (select_bits s no_values (s n) i).count j b r g)
means s n (two i x) j k b l e f =
    and_from (may_mean_word s (s n) i k) (may_mean_bit s (s n) x b)
    (either-so (select_is_constant s i) (is_word_number (option_and_then (λ a. word_number a (select_index s no_values i)) (s n).addresses) k)
    (word-so (option_and_then (λ a. word_number a (select_index s no_values i)) (s n).addresses) k e))
    (either-so (select_is_constant s x) (is_within (select_bits s no_values (s n) x) b)
    (inside (select_bits s no_values (s n) x).low (select_bits s no_values (s n) x).count j b f l))

-- ---- a bit that is copied is read

is-given : (b : Bool) (u y : Bit) → some_if b u ≡ Some y → (b ≡ true) × (u ≡ y)
is-given true u y e = (refl, cc)
is-given false u y e = never y e

record IsBitOf (s : Scope) (n : Name) (w p : Option ℕ) (y : Bit) : Type 0 where
  is_named : n ≡ y.of_name
  is_word : w ≡ Some y.word
  is_place : p ≡ Some y.place
  is_net : is_none (s n).constant ≡ true
  is_there : is_bit_of (s n) y.word y.place ≡ true

from-bit : (s : Scope) (n : Name) (w p : Option ℕ) (y : Bit) → bit_in (s n) n w p ≡ Some y → IsBitOf s n w p y
from-bit s n (Some k) (Some b) y e =
    let g = is-given (is_none (s n).constant && is_bit_of (s n) k b) (record { of_name = n; word = k; place = b }) y e in
    let h = and_parts (is_none (s n).constant) (is_bit_of (s n) k b) g.0 in
    subst (λ (z : Bit). IsBitOf s n (Some k) (Some b) z) g.1 (record { is_named = refl; is_word = refl; is_place = refl; is_net = h.0; is_there = h.1 })
from-bit s n (Some k) None y e = never y e
from-bit s n None p y e = never y e

bit-read : (s : Scope) (n : Name) (x : Selects) (j : ℕ) (y : Bit) → j < selects_width s (s n) x → bit_at s n x j ≡ Some y → is_in (name_reads s n x) y ≡ true
bit-read s n x j y l e =
    let c = named_place s no_values n x in
    let r = from-bit s n (word_of_cell c.cell) (natural_in (c.bits.low +ℤ pos j)) y e in
    let m = means s n x j y.word y.place l r.is_word r.is_place in
    and_from (same_name n y.of_name) (is_none (s n).constant && (is_bit_of (s n) y.word y.place && cond (selects_are_constant s x) (may_mean s (s n) x y.word y.place) true))
    (subst (λ z. same_name n z ≡ true) r.is_named (is_same n))
    (and_from (is_none (s n).constant) (is_bit_of (s n) y.word y.place && cond (selects_are_constant s x) (may_mean s (s n) x y.word y.place) true) r.is_net
    (and_from (is_bit_of (s n) y.word y.place) (cond (selects_are_constant s x) (may_mean s (s n) x y.word y.place) true) r.is_there
    (either-so (selects_are_constant s x) (may_mean s (s n) x y.word y.place) m)))

below : (j w : ℕ) → nat_lt j w ≡ true → j < w
below j w h = grind (arith, nat_tests, h)

by-test : (P : Type 0) (b : Bool) (o q : Option Bit) (y : Bit) → (b ≡ true → o ≡ Some y → P) → (q ≡ Some y → P) → cond b o q ≡ Some y → P
by-test P true o q y f g e = f refl e
by-test P false o q y f g e = g e

name-read : (s : Scope) (n : Name) (x : Selects) (signed : Bool) (j : ℕ) (y : Bit) → 1 ≤ selects_width s (s n) x → widened_bit s signed n x j ≡ Some y
    → is_in (name_reads s n x) y ≡ true
name-read s n x signed j y some e =
    let w = selects_width s (s n) x in
    by-test (is_in (name_reads s n x) y ≡ true) (nat_lt j w) (bit_at s n x j) (cond signed (bit_at s n x (w - 1)) None) y
    (λ l h. bit-read s n x j y (below j w l) h)
    (by-test (is_in (name_reads s n x) y ≡ true) signed (bit_at s n x (w - 1)) None y (λ t h. bit-read s n x (w - 1) y (omega (arith, some)) h) (never y)) e

mutual
  copied-read : (s : Scope) (e : Expression) (signed : Bool) (j : ℕ) (y : Bit) → IsNarrow s e → copied s e signed j ≡ Some y → is_in (reads s e) y ≡ true
  copied-read s (number k) signed j y n h = never y h
  copied-read s (name m x) signed j y n h = or_left (is_in (name_reads s m x) y) (is_in (selects_read s x) y) (name-read s m x signed j y n.0.0 h)
  copied-read s (concatenation es) signed j y n h = parts-read s es j y n.1 h
  copied-read s (replication k es) signed j y n h =
      by-test (is_in (reads_in_all s es) y ≡ true) (nat_lt j (width_of s (replication k es))) (copied_in s es (j % widths_of s es)) None y
      (λ t g. parts-read s es (j % widths_of s es) y n.3 g) (never y) h
  copied-read s (as_signed x) signed j y n h = never y h
  copied-read s (as_unsigned x) signed j y n h = never y h
  copied-read s (unary op x) signed j y n h = never y h
  copied-read s (reduction op x) signed j y n h = never y h
  copied-read s (binary op x z) signed j y n h = never y h
  copied-read s (shift op x m) signed j y n h = never y h
  copied-read s (power x m) signed j y n h = never y h
  copied-read s (comparison op x z) signed j y n h = never y h
  copied-read s (logical op x z) signed j y n h = never y h
  copied-read s (conditional c x z) signed j y n h = never y h

  parts-read : (s : Scope) (es : Expressions) (j : ℕ) (y : Bit) → AreNarrow s es → copied_in s es j ≡ Some y → is_in (reads_in_all s es) y ≡ true
  parts-read s no_expressions j y n h = never y h
  parts-read s (expression e es) j y n h =
      by-test (is_in (reads_in_all s (expression e es)) y ≡ true) (nat_lt j (widths_of s es)) (copied_in s es j)
      (cond (nat_lt (j - widths_of s es) (width_of s e)) (copied s e (sign_of s e) (j - widths_of s es)) None) y
      (λ t g. or_right (is_in (reads s e) y) (is_in (reads_in_all s es) y) (parts-read s es j y n.1 g))
      (by-test (is_in (reads_in_all s (expression e es)) y ≡ true) (nat_lt (j - widths_of s es) (width_of s e)) (copied s e (sign_of s e) (j - widths_of s es)) None y
      (λ t g. or_left (is_in (reads s e) y) (is_in (reads_in_all s es) y) (copied-read s e (sign_of s e) (j - widths_of s es) y n.0 g)) (never y)) h

given-read : (s : Scope) (t : Target) (e : Expression) (u x : Bit) → IsNarrow s e → IsGivenBy s t s e u x → is_in (reads s e) x ≡ true
given-read s t e u x n (copied_to j p l k c) = copied-read s e (sign_of s e) j x n c
given-read s t e u x n (computed p r h) = h

either : (p q t : Bool) → (p ≡ true → t ≡ true) → (q ≡ true → t ≡ true) → (p || q) ≡ true → t ≡ true
either true q t f g h = f refl
either false q t f g h = g h

mutual
  index-read : (s : Scope) (t : Target) (u y : Bit) → is_in (index_reads s t u) y ≡ true → is_in (target_reads s t) y ≡ true
  index-read s (place n x) u y h = (and_parts (may_reach s (place n x) u.of_name u.word u.place) (is_in (selects_read s x) y) h).1
  index-read s (joined ts) u y h = indexes-read s ts u y h

  indexes-read : (s : Scope) (ts : Targets) (u y : Bit) → is_in (one_index_reads s ts u) y ≡ true → is_in (targets_read s ts) y ≡ true
  indexes-read s no_targets u y h = absurd (false≢true h)
  indexes-read s (target t ts) u y h =
      either (is_in (index_reads s t u) y) (not (is_in (surely_reaches s t) u) && is_in (one_index_reads s ts u) y) _
      (λ g. or_left (is_in (target_reads s t) y) (is_in (targets_read s ts) y) (index-read s t u y g))
      (λ g. or_right (is_in (target_reads s t) y) (is_in (targets_read s ts) y)
      (indexes-read s ts u y (and_parts (not (is_in (surely_reaches s t) u)) (is_in (one_index_reads s ts u) y) g).1)) h

-- ---- a property of bits that what a bit depends on keeps

abbrev Keeps : Dependences → (Bit → Type 0) → Type 0
Keeps before Good = (u y : Bit) → before u y → Good u → Good y

-- each bit of the set has it
abbrev Covers : BitSet → (Bit → Type 0) → Type 0
Covers bits Good = (y : Bit) → is_in bits y ≡ true → Good y

left-covers : (p q : BitSet) (Good : Bit → Type 0) → Covers (or_in p q) Good → Covers p Good
left-covers p q Good c y h = c y (or_left (is_in p y) (is_in q y) h)

right-covers : (p q : BitSet) (Good : Bit → Type 0) → Covers (or_in p q) Good → Covers q Good
right-covers p q Good c y h = c y (or_right (is_in p y) (is_in q y) h)

through-keeps : (before : Dependences) (Good : Bit → Type 0) (bits : BitSet) (y : Bit) → Keeps before Good → Covers bits Good → ThroughReads before bits y → Good y
through-keeps before Good bits y k c r = k r.0 y r.2 (c r.0 r.1)

assigned-keeps : (s : Scope) (before : Dependences) (Good : Bit → Type 0) (t : Target) (e : Expression) → IsNarrow s e → Keeps before Good
    → Covers (or_in (reads s e) (target_reads s t)) Good → (u y : Bit) → AfterAssignment s before t e u y → Good u → Good y
assigned-keeps s before Good t e n k c u y (kept f h) g = k u y h g
assigned-keeps s before Good t e n k c u y (given x i h) g = k x y h (left-covers (reads s e) (target_reads s t) Good c x (given-read s t e u x n i))
assigned-keeps s before Good t e n k c u y (indexed r) g =
    k r.0 y r.2 (right-covers (reads s e) (target_reads s t) Good c r.0 (index-read s t u r.0 r.1))

choice-keeps : (b : Bool) (condition branches otherwise goal : Type 0) → (condition → goal) → (branches → goal) → (otherwise → goal)
    → AfterChoice b condition branches otherwise → goal
choice-keeps true condition branches otherwise goal f g h (inl x) = f x
choice-keeps true condition branches otherwise goal f g h (inr x) = g x
choice-keeps false condition branches otherwise goal f g h x = h x

one-of : {A B C : Type 0} → (A → C) → (B → C) → A ⊎ B → C
one-of f g (inl x) = f x
one-of f g (inr x) = g x

no-arm : (b : Bool) (otherwise goal : Type 0) → (otherwise → goal) → NoArm b otherwise → goal
no-arm true otherwise goal f h = absurd h
no-arm false otherwise goal f h = f h

either-of : (p q : Bool) (P : Type 0) → (p ≡ true → P) → (q ≡ true → P) → (p || q) ≡ true → P
either-of true q P f g h = f refl
either-of false q P f g h = g h

mutual
  after-keeps : (s : Scope) (before : Dependences) (Good : Bit → Type 0) (x : Statement) → IsNarrowFlow s x → Keeps before Good → Covers (statement_reads s x) Good
      → (u y : Bit) → After s before x u y → Good u → Good y
  after-keeps s before Good empty n k c u y h g = k u y h g
  after-keeps s before Good (blocking t e) n k c u y h g = assigned-keeps s before Good t e n.1 k c u y h g
  after-keeps s before Good (nonblocking t e) n k c u y h g = k u y h g
  after-keeps s before Good (if_then e x) n k c u y h g =
      choice-keeps (may_assign s x u.of_name u.word u.place) (ThroughReads before (reads s e) y) (After s before x u y ⊎ before u y) (before u y) (Good y)
      (λ f. through-keeps before Good (reads s e) y k (left-covers (reads s e) (statement_reads s x) Good c) f)
      (one-of (λ f. after-keeps s before Good x n.1 k (right-covers (reads s e) (statement_reads s x) Good c) u y f g) (λ f. k u y f g))
      (λ f. k u y f g) h
  after-keeps s before Good (if_else e x z) n k c u y h g =
      let d = right-covers (reads s e) (or_in (statement_reads s x) (statement_reads s z)) Good c in
      choice-keeps (may_assign s x u.of_name u.word u.place || may_assign s z u.of_name u.word u.place) (ThroughReads before (reads s e) y)
      (After s before x u y ⊎ After s before z u y) (before u y) (Good y)
      (λ f. through-keeps before Good (reads s e) y k (left-covers (reads s e) (or_in (statement_reads s x) (statement_reads s z)) Good c) f)
      (one-of (λ f. after-keeps s before Good x n.1 k (left-covers (statement_reads s x) (statement_reads s z) Good d) u y f g)
      (λ f. after-keeps s before Good z n.2 k (right-covers (statement_reads s x) (statement_reads s z) Good d) u y f g))
      (λ f. k u y f g) h
  after-keeps s before Good (case kind e items) n k c u y h g =
      let d = right-covers (reads s e) (or_in (items_read s items) (arms_read s items)) Good c in
      choice-keeps (may_assign_in_case s items u.of_name u.word u.place) (ThroughReads before (or_in (reads s e) (items_read s items)) y)
      (AfterArms s before items u y ⊎ NoArm (is_full s kind e items) (before u y)) (before u y) (Good y)
      (λ f. through-keeps before Good (or_in (reads s e) (items_read s items)) y k
      (λ z r. either-of (is_in (reads s e) z) (is_in (items_read s items) z) (Good z)
      (λ q. c z (or_left (is_in (reads s e) z) (is_in (or_in (items_read s items) (arms_read s items)) z) q)) (λ q. left-covers (items_read s items) (arms_read s items) Good d z q) r) f)
      (one-of (λ f. arms-keep s before Good items n.1 k (right-covers (items_read s items) (arms_read s items) Good d) u y f g)
      (no-arm (is_full s kind e items) (before u y) (Good y) (λ f. k u y f g)))
      (λ f. k u y f g) h
  after-keeps s before Good (block m xs) n k c u y h g = all-keep s before Good xs n k c u y h g

  all-keep : (s : Scope) (before : Dependences) (Good : Bit → Type 0) (xs : Statements) → AreNarrowFlows s xs → Keeps before Good → Covers (statements_read s xs) Good
      → (u y : Bit) → AfterAll s before xs u y → Good u → Good y
  all-keep s before Good no_statements n k c u y h g = k u y h g
  all-keep s before Good (statement x xs) n k c u y h g =
      all-keep s (After s before x) Good xs n.1 (after-keeps s before Good x n.0 k (left-covers (statement_reads s x) (statements_read s xs) Good c))
      (right-covers (statement_reads s x) (statements_read s xs) Good c) u y h g

  arms-keep : (s : Scope) (before : Dependences) (Good : Bit → Type 0) (items : CaseItems) → AreNarrowArms s items → Keeps before Good → Covers (arms_read s items) Good
      → (u y : Bit) → AfterArms s before items u y → Good u → Good y
  arms-keep s before Good no_items n k c u y h g = absurd h
  arms-keep s before Good (arm es x items) n k c u y h g =
      one-of (λ f. after-keeps s before Good x n.1 k (left-covers (statement_reads s x) (arms_read s items) Good c) u y f g)
      (λ f. arms-keep s before Good items n.2 k (right-covers (statement_reads s x) (arms_read s items) Good c) u y f g) h
  arms-keep s before Good (default_arm x items) n k c u y h g =
      one-of (λ f. after-keeps s before Good x n.0 k (left-covers (statement_reads s x) (arms_read s items) Good c) u y f g)
      (λ f. arms-keep s before Good items n.1 k (right-covers (statement_reads s x) (arms_read s items) Good c) u y f g) h

depends-read : (s : Scope) (x : Statement) (u y : Bit) → IsNarrowFlow s x → After s at_start x u y → (u ≡ y) ⊎ (is_in (statement_reads s x) y ≡ true)
depends-read s x u y n h =
    after-keeps s at_start (λ z. (u ≡ z) ⊎ (is_in (statement_reads s x) z ≡ true)) x n (λ a b e f. subst (λ z. (u ≡ z) ⊎ (is_in (statement_reads s x) z ≡ true)) e f)
    (λ z r. inr r) u y h (inl refl)

-- where the statement reads no bit of a set, what rests on one is one itself
pub marks-nothing : RestsWhereItDepends → (s : Scope) (x : Statement) (p read : BitSet) (some : Bool) → HasNoMemory s p → IsNarrowFlow s x → read ≡ statement_reads s x
    → IsTrue some ↔ OneIsUnsettled p read → some ≡ false → (u : Bit) → RestsBy false p s x u → IsTrue (is_in p u)
marks-nothing law s x p read some none narrow is f e u r =
    let y = (law (spread p) s x u r.0).0 r.2 in
    let zero_word = in-first s p y.0 none (after-there s x u y.0 r.0 y.2) 0 y.0.place y.1 in
    let marked = subst (λ k. p y.0.of_name k y.0.place ≡ true) (sym zero_word) y.1 in
    elim (depends-read s x u y.0 narrow y.2) as (λ _. is_in p u ≡ true) [
      | inl same ↦ subst (λ z. is_in p z ≡ true) (sym same) marked
      | inr h ↦ absurd (true≢false (sym (f.1 (y.0, subst (λ (q : BitSet). is_in q y.0 ≡ true) (sym is) h, marked)) ∙ e))
    ]

-- ---- a table of these bits alone

-- the bits that the statement reads, and those that it may assign
abbrev pub needs : Scope → Statement → BitSet
needs s x = or_in (statement_reads s x) (existing s (may_assign s x))

module _ (s : Scope) (x : Statement) (p own : BitSet) (none : HasNoMemory s p) (is : own ≡ spread (and_in (needs s x) p)) where
  both-free : HasNoMemory s (and_in (needs s x) p)
  both-free n k b m = ap (λ t. needs s x n k b && t) (none n k b m) ∙ and-false (needs s x n k b)
    where
      and-false : (t : Bool) → (t && false) ≡ false
      and-false true = refl
      and-false false = refl

  pub own-free : HasNoMemory s (existing s own)
  own-free = subst (λ (q : BitSet). HasNoMemory s (existing s q)) (sym is) (spread-free s (and_in (needs s x) p) both-free)

  module _ (law : RestsWhereItDepends) (narrow : IsNarrowFlow s x) (u : Bit) (at : IsThere s u) (may : IsTrue (may_assign s x u.of_name u.word u.place)) where
    needed : (y : Bit) → After s at_start x u y → is_in (needs s x) y ≡ true
    needed y h =
        elim (depends-read s x u y narrow h) as (λ _. is_in (needs s x) y ≡ true) [
          | inl e ↦ subst (λ z. is_in (needs s x) z ≡ true) e
              (or_right (is_in (statement_reads s x) u) (is_in (existing s (may_assign s x)) u)
              (and_from (is_bit_of (s u.of_name) u.word u.place) (may_assign s x u.of_name u.word u.place) at may))
          | inr r ↦ or_left (is_in (statement_reads s x) y) (is_in (existing s (may_assign s x)) y) r
        ]

    pub same-rests : RestsAfter own s x u ↔ RestsAfter (spread p) s x u
    same-rests = (there, back)
      where
        there : RestsAfter own s x u → RestsAfter (spread p) s x u
        there h =
            let r = (law own s x u at).0 h in
            let b = subst (λ (q : BitSet). is_in q r.0 ≡ true) is r.1 in
            (law (spread p) s x u at).1 (r.0, (and_parts (needs s x r.0.of_name 0 r.0.place) (p r.0.of_name 0 r.0.place) b).1, r.2)

        back : RestsAfter (spread p) s x u → RestsAfter own s x u
        back h =
            let r = (law (spread p) s x u at).0 h in
            let zero_word = in-first s p r.0 none (after-there s x u r.0 at r.2) 0 r.0.place r.1 in
            let n = subst (λ k. needs s x r.0.of_name k r.0.place ≡ true) zero_word (needed r.0 r.2) in
            (law own s x u at).1
            (r.0, subst (λ (q : BitSet). is_in q r.0 ≡ true) (sym is) (and_from (needs s x r.0.of_name 0 r.0.place) (p r.0.of_name 0 r.0.place) n r.1), r.2)
