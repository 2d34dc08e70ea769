-- The bits that are read or copied are bits of names of the module.
use Rattle.std.proofs.Common.{◌≡◌, refl, subst, Bool, true, false, cond}
use Rattle.std.specs.Prelude.{ℕ, ◌&&◌, ◌||◌, ◌-◌, ◌%◌, nat_lt, is_none, Option, Some, None, IsTrue}
use Rattle.std.proofs.lemmas.Bool.{false≢true, and_parts}
use Rattle.std.proofs.lemmas.Slice.Eq.{bytes_eq-Decides}
use Rattle.wb_values.specs.Value.{Name, same_name}
use Rattle.wb_values.specs.Choice.{some_if}
use Rattle.verilog_trees.specs.Syntax.{Expression, number, name, concatenation, replication, as_signed, as_unsigned, unary, reduction, binary, shift, power, comparison, logical, conditional, Expressions, no_expressions, expression, Select, index, part, part_up, part_down, Selects, whole, one, two, Target, place, joined, Targets, no_targets, target, CaseItems, no_items, arm, default_arm}
use Rattle.verilog_meaning.specs.Expression.{Scope, sign_of, width_of, widths_of, selects_width}
use Rattle.verilog_meaning.specs.Register.{is_bit_of, may_reach}
use Rattle.verilog_designs.specs.Reads.{or_in, name_reads, reads, reads_in_all, select_reads, selects_read, items_read}
use Rattle.verilog_designs.specs.Dependence.{Bit, is_in, bit_in, bit_at, widened_bit, copied, copied_in, index_reads, one_index_reads, IsGivenBy, copied_to, computed}
use Rattle.v_depend.specs.Resting.{IsThere}

either : (p q t : Bool) → (p ≡ true → t ≡ true) → (q ≡ true → t ≡ true) → (p || q) ≡ true → t ≡ true
either true q t f g h = f refl
either false q t f g h = g h

first-of : (p q : Bool) → (p && q) ≡ true → p ≡ true
first-of true q h = refl
first-of false q h = h

-- ---- what is read

name-within : (s : Scope) (m : Name) (x : Selects) (n : Name) (k b : ℕ) → name_reads s m x n k b ≡ true → is_bit_of (s n) k b ≡ true
name-within s m x n k b h =
    let a = and_parts (same_name m n) _ h in
    let c = and_parts (is_none (s m).constant) _ a.1 in
    subst (λ z. is_bit_of (s z) k b ≡ true) ((bytes_eq-Decides m n).0 a.0) (first-of (is_bit_of (s m) k b) _ c.1)

mutual
  within : (s : Scope) (e : Expression) (n : Name) (k b : ℕ) → reads s e n k b ≡ true → is_bit_of (s n) k b ≡ true
  within s (number c) n k b h = absurd (false≢true h)
  within s (name m x) n k b h = either (name_reads s m x n k b) (selects_read s x n k b) _ (name-within s m x n k b) (selects-within s x n k b) h
  within s (concatenation es) n k b h = all-within s es n k b h
  within s (replication c es) n k b h = all-within s es n k b h
  within s (as_signed x) n k b h = within s x n k b h
  within s (as_unsigned x) n k b h = within s x n k b h
  within s (unary op x) n k b h = within s x n k b h
  within s (reduction op x) n k b h = within s x n k b h
  within s (binary op x y) n k b h = either (reads s x n k b) (reads s y n k b) _ (within s x n k b) (within s y n k b) h
  within s (shift op x y) n k b h = either (reads s x n k b) (reads s y n k b) _ (within s x n k b) (within s y n k b) h
  within s (power x y) n k b h = either (reads s x n k b) (reads s y n k b) _ (within s x n k b) (within s y n k b) h
  within s (comparison op x y) n k b h = either (reads s x n k b) (reads s y n k b) _ (within s x n k b) (within s y n k b) h
  within s (logical op x y) n k b h = either (reads s x n k b) (reads s y n k b) _ (within s x n k b) (within s y n k b) h
  within s (conditional c x y) n k b h =
      either (reads s c n k b) (or_in (reads s x) (reads s y) n k b) _ (within s c n k b)
      (either (reads s x n k b) (reads s y n k b) _ (within s x n k b) (within s y n k b)) h

  all-within : (s : Scope) (es : Expressions) (n : Name) (k b : ℕ) → reads_in_all s es n k b ≡ true → is_bit_of (s n) k b ≡ true
  all-within s no_expressions n k b h = absurd (false≢true h)
  all-within s (expression e es) n k b h = either (reads s e n k b) (reads_in_all s es n k b) _ (within s e n k b) (all-within s es n k b) h

  select-within : (s : Scope) (x : Select) (n : Name) (k b : ℕ) → select_reads s x n k b ≡ true → is_bit_of (s n) k b ≡ true
  select-within s (index i) n k b h = within s i n k b h
  select-within s (part l r) n k b h = absurd (false≢true h)
  select-within s (part_up i w) n k b h = within s i n k b h
  select-within s (part_down i w) n k b h = within s i n k b h

  selects-within : (s : Scope) (x : Selects) (n : Name) (k b : ℕ) → selects_read s x n k b ≡ true → is_bit_of (s n) k b ≡ true
  selects-within s whole n k b h = absurd (false≢true h)
  selects-within s (one x) n k b h = select-within s x n k b h
  selects-within s (two x y) n k b h = either (select_reads s x n k b) (select_reads s y n k b) _ (select-within s x n k b) (select-within s y n k b) h

items-within : (s : Scope) (items : CaseItems) (n : Name) (k b : ℕ) → items_read s items n k b ≡ true → is_bit_of (s n) k b ≡ true
items-within s no_items n k b h = absurd (false≢true h)
items-within s (arm es x items) n k b h = either (reads_in_all s es n k b) (items_read s items n k b) _ (all-within s es n k b) (items-within s items n k b) h
items-within s (default_arm x items) n k b h = items-within s items n k b h

pub read-there : (s : Scope) (e : Expression) (y : Bit) → IsTrue (is_in (reads s e) y) → IsThere s y
read-there s e y h = within s e y.of_name y.word y.place h

pub chosen-there : (s : Scope) (e : Expression) (items : CaseItems) (y : Bit) → IsTrue (is_in (or_in (reads s e) (items_read s items)) y) → IsThere s y
chosen-there s e items y h =
    either (reads s e y.of_name y.word y.place) (items_read s items y.of_name y.word y.place) _ (within s e y.of_name y.word y.place)
    (items-within s items y.of_name y.word y.place) h

mutual
  pub index-there : (s : Scope) (t : Target) (u y : Bit) → IsTrue (is_in (index_reads s t u) y) → IsThere s y
  index-there s (place n x) u y h =
      selects-within s x y.of_name y.word y.place (and_parts (may_reach s (place n x) u.of_name u.word u.place) _ h).1
  index-there s (joined ts) u y h = indexes-there s ts u y h

  indexes-there : (s : Scope) (ts : Targets) (u y : Bit) → IsTrue (is_in (one_index_reads s ts u) y) → IsThere s y
  indexes-there s no_targets u y h = absurd (false≢true h)
  indexes-there s (target t ts) u y h =
      either (is_in (index_reads s t u) y) _ _ (index-there s t u y)
      (λ g. indexes-there s ts u y (and_parts _ (is_in (one_index_reads s ts u) y) g).1) h

-- ---- what is copied

never : {A : Type 0} (y : Bit) → None ≡ Some y → A
never {A} y e = absurd (let f : None ≡ Some y = e in cc)

is-given : (b : Bool) (u y : Bit) → some_if b u ≡ Some y → (b ≡ true) × (u ≡ y)
is-given true u y e = (refl, cc)
is-given false u y e = never y e

bit-there : (s : Scope) (n : Name) (w p : Option ℕ) (y : Bit) → bit_in (s n) n w p ≡ Some y → IsThere s y
bit-there s n (Some k) (Some b) y e =
    let g = is-given (is_none (s n).constant && is_bit_of (s n) k b) (record { of_name = n; word = k; place = b }) y e in
    subst (IsThere s) g.1 (and_parts (is_none (s n).constant) (is_bit_of (s n) k b) g.0).1
bit-there s n (Some k) None y e = never y e
bit-there s n None p y e = never y e

by-choice : (P : Type 0) (b : Bool) (o q : Option Bit) (y : Bit) → (o ≡ Some y → P) → (q ≡ Some y → P) → cond b o q ≡ Some y → P
by-choice P true o q y f g e = f e
by-choice P false o q y f g e = g e

named-there : (s : Scope) (n : Name) (x : Selects) (signed : Bool) (j : ℕ) (y : Bit) → widened_bit s signed n x j ≡ Some y → IsThere s y
named-there s n x signed j y e =
    by-choice (IsThere s y) (nat_lt j (selects_width s (s n) x)) (bit_at s n x j) _ y (bit-there s n _ _ y)
    (by-choice (IsThere s y) signed (bit_at s n x (selects_width s (s n) x - 1)) None y (bit-there s n _ _ y) (never y)) e

mutual
  pub copied-there : (s : Scope) (e : Expression) (signed : Bool) (j : ℕ) (y : Bit) → copied s e signed j ≡ Some y → IsThere s y
  copied-there s (number k) signed j y h = never y h
  copied-there s (name n x) signed j y h = named-there s n x signed j y h
  copied-there s (concatenation es) signed j y h = parts-there s es j y h
  copied-there s (replication k es) signed j y h =
      by-choice (IsThere s y) (nat_lt j (width_of s (replication k es))) (copied_in s es (j % widths_of s es)) None y
      (parts-there s es (j % widths_of s es) y) (never y) h
  copied-there s (as_signed x) signed j y h = never y h
  copied-there s (as_unsigned x) signed j y h = never y h
  copied-there s (unary op x) signed j y h = never y h
  copied-there s (reduction op x) signed j y h = never y h
  copied-there s (binary op x z) signed j y h = never y h
  copied-there s (shift op x n) signed j y h = never y h
  copied-there s (power x n) signed j y h = never y h
  copied-there s (comparison op x z) signed j y h = never y h
  copied-there s (logical op x z) signed j y h = never y h
  copied-there s (conditional c x z) signed j y h = never y h

  parts-there : (s : Scope) (es : Expressions) (j : ℕ) (y : Bit) → copied_in s es j ≡ Some y → IsThere s y
  parts-there s no_expressions j y h = never y h
  parts-there s (expression e es) j y h =
      by-choice (IsThere s y) (nat_lt j (widths_of s es)) (copied_in s es j) _ y (parts-there s es j y)
      (by-choice (IsThere s y) (nat_lt (j - widths_of s es) (width_of s e)) (copied s e (sign_of s e) (j - widths_of s es)) None y
      (copied-there s e (sign_of s e) (j - widths_of s es) y) (never y)) h

pub given-there : (s : Scope) (t : Target) (e : Expression) (u x : Bit) → IsGivenBy s t s e u x → IsThere s x
given-there s t e u x (copied_to j p l k c) = copied-there s e (sign_of s e) j x c
given-there s t e u x (computed p r h) = read-there s e x h
