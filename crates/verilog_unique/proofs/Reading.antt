-- Bits that an expression or a block reads are bits of nets that it names.
use Rattle.std.proofs.Common.{◌≡◌, ℕ, ◌-◌, ◌%◌, Bool, true, false, cond, List, [], ◌∷◌, ◌++◌, ◌⊎◌, inl, inr, refl, subst, Option, Some, None}
use Rattle.std.specs.Prelude.{IsTrue, is_none, not, ◌&&◌, ◌||◌, nat_lt, pos, ◌+ℤ◌}
use Rattle.wb_values.specs.Value.{Name, same_name}
use Rattle.wb_values.specs.Choice.{some_if}
use Rattle.verilog_trees.specs.Syntax.{Expression, number, name, concatenation, replication, as_signed, as_unsigned, unary, reduction, binary, shift, power, comparison, logical, conditional, Expressions, no_expressions, expression, Select, index, part, part_up, part_down, Selects, whole, one, two, Target, place, joined, Targets, no_targets, target, Statement, empty, blocking, nonblocking, if_then, if_else, case, block, Statements, no_statements, statement, CaseItems, no_items, arm, default_arm}
use Rattle.verilog_meaning.specs.Expression.{Object, Scope, no_values, sign_of, width_of, widths_of, selects_width}
use Rattle.verilog_meaning.specs.Statement.{Place, named_place}
use Rattle.verilog_meaning.specs.Register.{selects_are_constant, is_bit_of, may_mean, may_reach, may_assign, may_assign_in_case}
use Rattle.verilog_designs.specs.Names.{names_in, names_in_all, names_in_select, names_in_selects, names_in_target, names_in_targets, names_in_statement, names_in_statements, names_in_items}
use Rattle.verilog_designs.specs.Reads.{BitSet, no_bits, or_in, name_reads, reads, reads_in_all, select_reads, selects_read, target_reads, targets_read, items_read, surely_reaches, is_full}
use Rattle.verilog_designs.specs.Dependence.{Bit, is_in, word_of_cell, natural_in, bit_in, bit_at, widened_bit, copied, copied_in, index_reads, one_index_reads, IsGivenBy, copied_to, computed, Dependences, at_start, ThroughReads, AfterAssignment, kept, given, indexed, AfterChoice, NoArm, After, AfterAll, AfterArms}
use Rattle.verilog_unique.proofs.Options.{same_is, both_true, either_true}
use Rattle.verilog_unique.proofs.Descent.{IsAmong, among_left, among_right}

-- a bit of a name of the list that is no parameter
pub record IsNetBit (s : Scope) (ns : List Name) (y : Bit) : Type 0 where
  pub is_named : IsAmong ns y.of_name
  pub is_net : IsTrue (is_none (s y.of_name).constant)
  pub is_bit : IsTrue (is_bit_of (s y.of_name) y.word y.place)

net_left : (s : Scope) (ns ms : List Name) (y : Bit) → IsNetBit s ns y → IsNetBit s (ns ++ ms) y
net_left s ns ms y h = record { is_named = among_left ns ms y.of_name h.is_named; is_net = h.is_net; is_bit = h.is_bit }

net_right : (s : Scope) (ns ms : List Name) (y : Bit) → IsNetBit s ms y → IsNetBit s (ns ++ ms) y
net_right s ns ms y h = record { is_named = among_right ns ms y.of_name h.is_named; is_net = h.is_net; is_bit = h.is_bit }

-- the set has such bits alone
abbrev pub AreNetBits : Scope → List Name → BitSet → Type 0
AreNetBits s ns bits = (y : Bit) → IsTrue (is_in bits y) → IsNetBit s ns y

none_are : (s : Scope) (ns : List Name) → AreNetBits s ns no_bits
none_are s ns y t = cc

both_are : (s : Scope) (ns ms : List Name) (p q : BitSet) → AreNetBits s ns p → AreNetBits s ms q → AreNetBits s (ns ++ ms) (or_in p q)
both_are s ns ms p q f g y t =
    elim (either_true (is_in p y) (is_in q y) t) as (λ _. IsNetBit s (ns ++ ms) y)
    [ inl h ↦ net_left s ns ms y (f y h) | inr h ↦ net_right s ns ms y (g y h) ]

three_are : (s : Scope) (ns ms ks : List Name) (p q r : BitSet) → AreNetBits s ns p → AreNetBits s ms q → AreNetBits s ks r
    → AreNetBits s ((ns ++ ms) ++ ks) (or_in p (or_in q r))
three_are s ns ms ks p q r f g h y t =
    elim (either_true (is_in p y) (is_in q y || is_in r y) t) as (λ _. IsNetBit s ((ns ++ ms) ++ ks) y) [
      | inl a ↦ net_left s (ns ++ ms) ks y (net_left s ns ms y (f y a))
      | inr a ↦ elim (either_true (is_in q y) (is_in r y) a) as (λ _. IsNetBit s ((ns ++ ms) ++ ks) y)
          [ inl b ↦ net_left s (ns ++ ms) ks y (net_right s ns ms y (g y b)) | inr b ↦ net_right s (ns ++ ms) ks y (h y b) ]
    ]

left_are : (s : Scope) (ns ms : List Name) (p : BitSet) → AreNetBits s ns p → AreNetBits s (ns ++ ms) p
left_are s ns ms p f y t = net_left s ns ms y (f y t)

right_are : (s : Scope) (ns ms : List Name) (p : BitSet) → AreNetBits s ms p → AreNetBits s (ns ++ ms) p
right_are s ns ms p f y t = net_right s ns ms y (f y t)

pub name_bits : (s : Scope) (n : Name) (x : Selects) (ms : List Name) → AreNetBits s (n ∷ ms) (name_reads s n x)
name_bits s n x ms y t =
    let m = y.of_name in
    let one = both_true (same_name n m) (is_none (s n).constant && (is_bit_of (s n) y.word y.place && cond (selects_are_constant s x) (may_mean s (s n) x y.word y.place) true)) t in
    let two = both_true (is_none (s n).constant) (is_bit_of (s n) y.word y.place && cond (selects_are_constant s x) (may_mean s (s n) x y.word y.place) true) one.1 in
    let three = both_true (is_bit_of (s n) y.word y.place) (cond (selects_are_constant s x) (may_mean s (s n) x y.word y.place) true) two.1 in
    let e : n ≡ m = same_is n m one.0 in
    record { is_named = inl e; is_net = subst (λ k. IsTrue (is_none (s k).constant)) e two.0; is_bit = subst (λ k. IsTrue (is_bit_of (s k) y.word y.place)) e three.0 }

mutual
  pub read : (s : Scope) (e : Expression) → AreNetBits s (names_in e) (reads s e)
  read s (number k) = none_are s []
  read s (name n x) =
      λ y t. elim (either_true (is_in (name_reads s n x) y) (is_in (selects_read s x) y) t) as (λ _. IsNetBit s (n ∷ names_in_selects x) y)
      [ inl h ↦ name_bits s n x (names_in_selects x) y h | inr h ↦ net_right s (n ∷ []) (names_in_selects x) y (selects_are_read s x y h) ]
  read s (concatenation es) = read_all s es
  read s (replication k es) = right_are s (names_in k) (names_in_all es) (reads_in_all s es) (read_all s es)
  read s (as_signed x) = read s x
  read s (as_unsigned x) = read s x
  read s (unary op x) = read s x
  read s (reduction op x) = read s x
  read s (binary op x y) = both_are s (names_in x) (names_in y) (reads s x) (reads s y) (read s x) (read s y)
  read s (shift op x n) = both_are s (names_in x) (names_in n) (reads s x) (reads s n) (read s x) (read s n)
  read s (power x n) = both_are s (names_in x) (names_in n) (reads s x) (reads s n) (read s x) (read s n)
  read s (comparison op x y) = both_are s (names_in x) (names_in y) (reads s x) (reads s y) (read s x) (read s y)
  read s (logical op x y) = both_are s (names_in x) (names_in y) (reads s x) (reads s y) (read s x) (read s y)
  read s (conditional c x y) =
      three_are s (names_in c) (names_in x) (names_in y) (reads s c) (reads s x) (reads s y) (read s c) (read s x) (read s y)

  pub read_all : (s : Scope) (es : Expressions) → AreNetBits s (names_in_all es) (reads_in_all s es)
  read_all s no_expressions = none_are s []
  read_all s (expression e es) = both_are s (names_in e) (names_in_all es) (reads s e) (reads_in_all s es) (read s e) (read_all s es)

  select_is_read : (s : Scope) (x : Select) → AreNetBits s (names_in_select x) (select_reads s x)
  select_is_read s (index i) = read s i
  select_is_read s (part h l) = none_are s (names_in h ++ names_in l)
  select_is_read s (part_up b n) = left_are s (names_in b) (names_in n) (reads s b) (read s b)
  select_is_read s (part_down b n) = left_are s (names_in b) (names_in n) (reads s b) (read s b)

  pub selects_are_read : (s : Scope) (x : Selects) → AreNetBits s (names_in_selects x) (selects_read s x)
  selects_are_read s whole = none_are s []
  selects_are_read s (one x) = select_is_read s x
  selects_are_read s (two x y) =
      both_are s (names_in_select x) (names_in_select y) (select_reads s x) (select_reads s y) (select_is_read s x) (select_is_read s y)

-- ---- copied bits

some_bit : (o : Object) (n : Name) (k b : Option ℕ) (y : Bit) → bit_in o n k b ≡ Some y
    → (n ≡ y.of_name) × IsTrue (is_none o.constant) × IsTrue (is_bit_of o y.word y.place)
some_bit o n None b y e = cc
some_bit o n (Some k) None y e = cc
some_bit o n (Some k) (Some b) y e = chosen (is_none o.constant && is_bit_of o k b) (λ t. both_true (is_none o.constant) (is_bit_of o k b) t) e
  where
    chosen : (t : Bool) → (IsTrue t → IsTrue (is_none o.constant) × IsTrue (is_bit_of o k b))
        → some_if t (record { of_name = n; word = k; place = b }) ≡ Some y
        → (n ≡ y.of_name) × IsTrue (is_none o.constant) × IsTrue (is_bit_of o y.word y.place)
    chosen true f h =
        let same : record { of_name = n; word = k; place = b } ≡ y = cc in
        subst (λ (z : Bit). (n ≡ z.of_name) × IsTrue (is_none o.constant) × IsTrue (is_bit_of o z.word z.place)) same (refl, (f refl).0, (f refl).1)
    chosen false f h = cc

at_net : (s : Scope) (n : Name) (x : Selects) (j : ℕ) (ms : List Name) (y : Bit) → bit_at s n x j ≡ Some y → IsNetBit s (n ∷ ms) y
at_net s n x j ms y e =
    let p : Place = named_place s no_values n x in
    let f = some_bit (s n) n (word_of_cell p.cell) (natural_in (p.bits.low +ℤ pos j)) y e in
    record { is_named = inl f.0; is_net = subst (λ k. IsTrue (is_none (s k).constant)) f.0 f.1; is_bit = subst (λ k. IsTrue (is_bit_of (s k) y.word y.place)) f.0 f.2 }

pub either_option : {A : Type 0} (b : Bool) (x z : Option A) (y : A) → cond b x z ≡ Some y → (x ≡ Some y) ⊎ (z ≡ Some y)
either_option true x z y e = inl e
either_option false x z y e = inr e

pub widened_net : (s : Scope) (signed : Bool) (n : Name) (x : Selects) (j : ℕ) (ms : List Name) (y : Bit) → widened_bit s signed n x j ≡ Some y
    → IsNetBit s (n ∷ ms) y
widened_net s signed n x j ms y e =
    let w : ℕ = selects_width s (s n) x in
    elim (either_option (nat_lt j w) (bit_at s n x j) (cond signed (bit_at s n x (w - 1)) None) y e) as (λ _. IsNetBit s (n ∷ ms) y) [
      | inl h ↦ at_net s n x j ms y h
      | inr h ↦ elim (either_option signed (bit_at s n x (w - 1)) None y h) as (λ _. IsNetBit s (n ∷ ms) y)
          [ inl k ↦ at_net s n x (w - 1) ms y k | inr k ↦ cc ]
    ]

mutual
  pub copied_net : (s : Scope) (e : Expression) (signed : Bool) (j : ℕ) (y : Bit) → copied s e signed j ≡ Some y → IsNetBit s (names_in e) y
  copied_net s (number k) signed j y h = cc
  copied_net s (name n x) signed j y h = widened_net s signed n x j (names_in_selects x) y h
  copied_net s (concatenation es) signed j y h = copied_nets s es j y h
  copied_net s (replication k es) signed j y h =
      elim (either_option (nat_lt j (width_of s (replication k es))) (copied_in s es (j % widths_of s es)) None y h) as (λ _. IsNetBit s (names_in k ++ names_in_all es) y)
      [ inl f ↦ net_right s (names_in k) (names_in_all es) y (copied_nets s es (j % widths_of s es) y f) | inr f ↦ cc ]
  copied_net s (as_signed x) signed j y h = cc
  copied_net s (as_unsigned x) signed j y h = cc
  copied_net s (unary op x) signed j y h = cc
  copied_net s (reduction op x) signed j y h = cc
  copied_net s (binary op x z) signed j y h = cc
  copied_net s (shift op x n) signed j y h = cc
  copied_net s (power x n) signed j y h = cc
  copied_net s (comparison op x z) signed j y h = cc
  copied_net s (logical op x z) signed j y h = cc
  copied_net s (conditional c x z) signed j y h = cc

  copied_nets : (s : Scope) (es : Expressions) (j : ℕ) (y : Bit) → copied_in s es j ≡ Some y → IsNetBit s (names_in_all es) y
  copied_nets s no_expressions j y h = cc
  copied_nets s (expression e es) j y h =
      elim (either_option (nat_lt j (widths_of s es)) (copied_in s es j)
      (cond (nat_lt (j - widths_of s es) (width_of s e)) (copied s e (sign_of s e) (j - widths_of s es)) None) y h)
      as (λ _. IsNetBit s (names_in e ++ names_in_all es) y) [
        | inl f ↦ net_right s (names_in e) (names_in_all es) y (copied_nets s es j y f)
        | inr f ↦ elim (either_option (nat_lt (j - widths_of s es) (width_of s e)) (copied s e (sign_of s e) (j - widths_of s es)) None y f)
            as (λ _. IsNetBit s (names_in e ++ names_in_all es) y)
            [ inl k ↦ net_left s (names_in e) (names_in_all es) y (copied_net s e (sign_of s e) (j - widths_of s es) y k) | inr k ↦ cc ]
      ]

pub given_net : (around inner : Scope) (t : Target) (e : Expression) (u y : Bit) → IsGivenBy around t inner e u y → IsNetBit inner (names_in e) y
given_net around inner t e u y (copied_to j plain within takes copy) = copied_net inner e (sign_of inner e) j y copy
given_net around inner t e u y (computed plain reaches is_read) = read inner e y is_read

-- ---- blocks

mutual
  target_is_read : (s : Scope) (t : Target) → AreNetBits s (names_in_target t) (target_reads s t)
  target_is_read s (place n x) = right_are s (n ∷ []) (names_in_selects x) (selects_read s x) (selects_are_read s x)
  target_is_read s (joined ts) = targets_are_read s ts

  targets_are_read : (s : Scope) (ts : Targets) → AreNetBits s (names_in_targets ts) (targets_read s ts)
  targets_are_read s no_targets = none_are s []
  targets_are_read s (target t ts) =
      both_are s (names_in_target t) (names_in_targets ts) (target_reads s t) (targets_read s ts) (target_is_read s t) (targets_are_read s ts)

mutual
  index_net : (s : Scope) (t : Target) (u : Bit) → AreNetBits s (names_in_target t) (index_reads s t u)
  index_net s (place n x) u y h =
      net_right s (n ∷ []) (names_in_selects x) y
      (selects_are_read s x y (both_true (may_reach s (place n x) u.of_name u.word u.place) (is_in (selects_read s x) y) h).1)
  index_net s (joined ts) u y h = index_nets s ts u y h

  index_nets : (s : Scope) (ts : Targets) (u : Bit) → AreNetBits s (names_in_targets ts) (one_index_reads s ts u)
  index_nets s no_targets u y h = cc
  index_nets s (target t ts) u y h =
      elim (either_true (is_in (index_reads s t u) y) (not (is_in (surely_reaches s t) u) && is_in (one_index_reads s ts u) y) h)
      as (λ _. IsNetBit s (names_in_target t ++ names_in_targets ts) y) [
        | inl f ↦ net_left s (names_in_target t) (names_in_targets ts) y (index_net s t u y f)
        | inr f ↦ net_right s (names_in_target t) (names_in_targets ts) y
            (index_nets s ts u y (both_true (not (is_in (surely_reaches s t) u)) (is_in (one_index_reads s ts u) y) f).1)
      ]

-- A property of bits that each net bit of the names has; and one that what depends on it keeps.
abbrev pub Covers : Scope → (Bit → Type 0) → List Name → Type 0
Covers s Good ns = (y : Bit) → IsNetBit s ns y → Good y

abbrev Keeps : Dependences → (Bit → Type 0) → Type 0
Keeps before Good = (u y : Bit) → before u y → Good u → Good y

covers_left : (s : Scope) (Good : Bit → Type 0) (ns ms : List Name) → Covers s Good (ns ++ ms) → Covers s Good ns
covers_left s Good ns ms f y h = f y (net_left s ns ms y h)

covers_right : (s : Scope) (Good : Bit → Type 0) (ns ms : List Name) → Covers s Good (ns ++ ms) → Covers s Good ms
covers_right s Good ns ms f y h = f y (net_right s ns ms y h)

through_keeps : (s : Scope) (before : Dependences) (Good : Bit → Type 0) (ns : List Name) (bits : BitSet) (y : Bit) → Keeps before Good
    → Covers s Good ns → AreNetBits s ns bits → ThroughReads before bits y → Good y
through_keeps s before Good ns bits y k c a h = k h.0 y h.2 (c h.0 (a h.0 h.1))

assignment_keeps : (s : Scope) (before : Dependences) (Good : Bit → Type 0) (t : Target) (e : Expression) → Keeps before Good
    → Covers s Good (names_in_target t ++ names_in e) → Keeps (λ u y. AfterAssignment s before t e u y) Good
assignment_keeps s before Good t e k c u y (kept n h) g = k u y h g
assignment_keeps s before Good t e k c u y (given x i h) g =
    k x y h (covers_right s Good (names_in_target t) (names_in e) c x (given_net s s t e u x i))
assignment_keeps s before Good t e k c u y (indexed h) g =
    through_keeps s before Good (names_in_target t) (index_reads s t u) y k (covers_left s Good (names_in_target t) (names_in e) c)
    (index_net s t u) h

choice_keeps : (b : Bool) (condition branches otherwise goal : Type 0) → (condition → goal) → (branches → goal) → (otherwise → goal)
    → AfterChoice b condition branches otherwise → goal
choice_keeps true condition branches otherwise goal f g h (inl x) = f x
choice_keeps true condition branches otherwise goal f g h (inr x) = g x
choice_keeps false condition branches otherwise goal f g h x = h x

one_of : {A B C : Type 0} → (A → C) → (B → C) → A ⊎ B → C
one_of f g (inl x) = f x
one_of f g (inr x) = g x

no_arm : (b : Bool) (otherwise goal : Type 0) → (otherwise → goal) → NoArm b otherwise → goal
no_arm true otherwise goal f h = absurd h
no_arm false otherwise goal f h = f h

items_are_read : (s : Scope) (items : CaseItems) → AreNetBits s (names_in_items items) (items_read s items)
items_are_read s no_items = none_are s []
items_are_read s (arm es x items) =
    both_are s (names_in_all es ++ names_in_statement x) (names_in_items items) (reads_in_all s es) (items_read s items)
    (left_are s (names_in_all es) (names_in_statement x) (reads_in_all s es) (read_all s es)) (items_are_read s items)
items_are_read s (default_arm x items) = right_are s (names_in_statement x) (names_in_items items) (items_read s items) (items_are_read s items)

mutual
  pub after_keeps : (s : Scope) (before : Dependences) (Good : Bit → Type 0) (x : Statement) → Keeps before Good → Covers s Good (names_in_statement x)
      → Keeps (After s before x) Good
  after_keeps s before Good empty k c u y h g = k u y h g
  after_keeps s before Good (blocking t e) k c u y h g = assignment_keeps s before Good t e k c u y h g
  after_keeps s before Good (nonblocking t e) k c u y h g = k u y h g
  after_keeps s before Good (if_then e x) k c u y h g =
      choice_keeps (may_assign s x u.of_name u.word u.place) (ThroughReads before (reads s e) y) (After s before x u y ⊎ before u y) (before u y) (Good y)
      (λ f. through_keeps s before Good (names_in e) (reads s e) y k (covers_left s Good (names_in e) (names_in_statement x) c) (read s e) f)
      (one_of (λ f. after_keeps s before Good x k (covers_right s Good (names_in e) (names_in_statement x) c) u y f g) (λ f. k u y f g))
      (λ f. k u y f g) h
  after_keeps s before Good (if_else e x z) k c u y h g =
      let cx = covers_left s Good (names_in e ++ names_in_statement x) (names_in_statement z) c in
      choice_keeps (may_assign s x u.of_name u.word u.place || may_assign s z u.of_name u.word u.place) (ThroughReads before (reads s e) y)
      (After s before x u y ⊎ After s before z u y) (before u y) (Good y)
      (λ f. through_keeps s before Good (names_in e) (reads s e) y k (covers_left s Good (names_in e) (names_in_statement x) cx) (read s e) f)
      (one_of (λ f. after_keeps s before Good x k (covers_right s Good (names_in e) (names_in_statement x) cx) u y f g)
      (λ f. after_keeps s before Good z k (covers_right s Good (names_in e ++ names_in_statement x) (names_in_statement z) c) u y f g))
      (λ f. k u y f g) h
  after_keeps s before Good (case kind e items) k c u y h g =
      choice_keeps (may_assign_in_case s items u.of_name u.word u.place) (ThroughReads before (or_in (reads s e) (items_read s items)) y)
      (AfterArms s before items u y ⊎ NoArm (is_full s kind e items) (before u y)) (before u y) (Good y)
      (λ f. through_keeps s before Good (names_in e ++ names_in_items items) (or_in (reads s e) (items_read s items)) y k c
      (both_are s (names_in e) (names_in_items items) (reads s e) (items_read s items) (read s e) (items_are_read s items)) f)
      (one_of (λ f. arms_keep s before Good items k (covers_right s Good (names_in e) (names_in_items items) c) u y f g)
      (no_arm (is_full s kind e items) (before u y) (Good y) (λ f. k u y f g)))
      (λ f. k u y f g) h
  after_keeps s before Good (block n xs) k c u y h g = all_keep s before Good xs k c u y h g

  all_keep : (s : Scope) (before : Dependences) (Good : Bit → Type 0) (xs : Statements) → Keeps before Good → Covers s Good (names_in_statements xs)
      → Keeps (AfterAll s before xs) Good
  all_keep s before Good no_statements k c u y h g = k u y h g
  all_keep s before Good (statement x xs) k c u y h g =
      all_keep s (After s before x) Good xs (after_keeps s before Good x k (covers_left s Good (names_in_statement x) (names_in_statements xs) c))
      (covers_right s Good (names_in_statement x) (names_in_statements xs) c) u y h g

  arms_keep : (s : Scope) (before : Dependences) (Good : Bit → Type 0) (items : CaseItems) → Keeps before Good → Covers s Good (names_in_items items)
      → Keeps (AfterArms s before items) Good
  arms_keep s before Good no_items k c u y h g = absurd h
  arms_keep s before Good (arm es x items) k c u y h g =
      let cx = covers_left s Good (names_in_all es ++ names_in_statement x) (names_in_items items) c in
      one_of (λ f. after_keeps s before Good x k (covers_right s Good (names_in_all es) (names_in_statement x) cx) u y f g)
      (λ f. arms_keep s before Good items k (covers_right s Good (names_in_all es ++ names_in_statement x) (names_in_items items) c) u y f g) h
  arms_keep s before Good (default_arm x items) k c u y h g =
      one_of (λ f. after_keeps s before Good x k (covers_left s Good (names_in_statement x) (names_in_items items) c) u y f g)
      (λ f. arms_keep s before Good items k (covers_right s Good (names_in_statement x) (names_in_items items) c) u y f g) h

-- what a bit depends on after a block is a good bit, where it is one and each net bit that the block names is
pub after_block : (s : Scope) (Good : Bit → Type 0) (x : Statement) (u y : Bit) → Covers s Good (names_in_statement x) → Good u
    → After s at_start x u y → Good y
after_block s Good x u y c g h = after_keeps s at_start Good x (λ a b e f. subst Good e f) c u y h g
