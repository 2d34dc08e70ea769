-- What is read are bits of names.
use Rattle.std.proofs.Common.{◌≡◌, refl, subst, Bool, true, false}
use Rattle.std.specs.Prelude.{ℕ, ◌&&◌, ◌||◌, is_none}
use Rattle.std.proofs.lemmas.Bool.{false≢true, and_parts}
use Rattle.std.proofs.lemmas.Slice.Eq.{bytes_eq-Decides}
use Rattle.wb_values.specs.Value.{Name, same_name}
use Rattle.verilog_trees.specs.Syntax.{Expression, number, name, concatenation, replication, as_signed, as_unsigned, unary, reduction, binary, shift, power, comparison, logical, conditional, Expressions, no_expressions, expression, Select, index, part, part_up, part_down, Selects, whole, one, two, Target, place, joined, Targets, no_targets, target, Statement, empty, blocking, nonblocking, if_then, if_else, case, block, Statements, no_statements, statement, CaseItems, no_items, arm, default_arm}
use Rattle.verilog_meaning.specs.Expression.{Scope}
use Rattle.verilog_meaning.specs.Register.{is_bit_of}
use Rattle.verilog_designs.specs.Reads.{BitSet, no_bits, or_in, but_not_in, name_reads, reads, reads_in_all, select_reads, selects_read, target_reads, targets_read, items_read, surely_assigns, reads_after, all_read_after, arms_read_after, reads_outside}

-- bits that there are
abbrev pub IsWithin : Scope → BitSet → Type 0
IsWithin s p = (n : Name) (k b : ℕ) → p n k b ≡ true → is_bit_of (s n) k b ≡ true

either : (p q t : Bool) → (p ≡ true → t ≡ true) → (q ≡ true → t ≡ true) → (p || q) ≡ true → t ≡ true
either true q t f g h = f refl
either false q t f g h = g h

pub first-of : (p q : Bool) → (p && q) ≡ true → p ≡ true
first-of true q h = refl
first-of false q h = h

name-within : (s : Scope) (m : Name) (x : Selects) (n : Name) (k b : ℕ) → name_reads s m x n k b ≡ true → is_bit_of (s n) k b ≡ true
name-within s m x n k b h =
    let a = and_parts (same_name m n) _ h in
    let c = and_parts (is_none (s m).constant) _ a.1 in
    subst (λ z. is_bit_of (s z) k b ≡ true) ((bytes_eq-Decides m n).0 a.0) (first-of (is_bit_of (s m) k b) _ c.1)

mutual
  within : (s : Scope) (e : Expression) (n : Name) (k b : ℕ) → reads s e n k b ≡ true → is_bit_of (s n) k b ≡ true
  within s (number c) n k b h = absurd (false≢true h)
  within s (name m x) n k b h = either (name_reads s m x n k b) (selects_read s x n k b) _ (name-within s m x n k b) (selects-within s x n k b) h
  within s (concatenation es) n k b h = all-within s es n k b h
  within s (replication c es) n k b h = all-within s es n k b h
  within s (as_signed x) n k b h = within s x n k b h
  within s (as_unsigned x) n k b h = within s x n k b h
  within s (unary op x) n k b h = within s x n k b h
  within s (reduction op x) n k b h = within s x n k b h
  within s (binary op x y) n k b h = either (reads s x n k b) (reads s y n k b) _ (within s x n k b) (within s y n k b) h
  within s (shift op x y) n k b h = either (reads s x n k b) (reads s y n k b) _ (within s x n k b) (within s y n k b) h
  within s (power x y) n k b h = either (reads s x n k b) (reads s y n k b) _ (within s x n k b) (within s y n k b) h
  within s (comparison op x y) n k b h = either (reads s x n k b) (reads s y n k b) _ (within s x n k b) (within s y n k b) h
  within s (logical op x y) n k b h = either (reads s x n k b) (reads s y n k b) _ (within s x n k b) (within s y n k b) h
  within s (conditional c x y) n k b h =
      either (reads s c n k b) (or_in (reads s x) (reads s y) n k b) _ (within s c n k b)
      (either (reads s x n k b) (reads s y n k b) _ (within s x n k b) (within s y n k b)) h

  all-within : (s : Scope) (es : Expressions) (n : Name) (k b : ℕ) → reads_in_all s es n k b ≡ true → is_bit_of (s n) k b ≡ true
  all-within s no_expressions n k b h = absurd (false≢true h)
  all-within s (expression e es) n k b h = either (reads s e n k b) (reads_in_all s es n k b) _ (within s e n k b) (all-within s es n k b) h

  select-within : (s : Scope) (x : Select) (n : Name) (k b : ℕ) → select_reads s x n k b ≡ true → is_bit_of (s n) k b ≡ true
  select-within s (index i) n k b h = within s i n k b h
  select-within s (part l r) n k b h = absurd (false≢true h)
  select-within s (part_up i w) n k b h = within s i n k b h
  select-within s (part_down i w) n k b h = within s i n k b h

  selects-within : (s : Scope) (x : Selects) (n : Name) (k b : ℕ) → selects_read s x n k b ≡ true → is_bit_of (s n) k b ≡ true
  selects-within s whole n k b h = absurd (false≢true h)
  selects-within s (one x) n k b h = select-within s x n k b h
  selects-within s (two x y) n k b h = either (select_reads s x n k b) (select_reads s y n k b) _ (select-within s x n k b) (select-within s y n k b) h

mutual
  target-within : (s : Scope) (t : Target) (n : Name) (k b : ℕ) → target_reads s t n k b ≡ true → is_bit_of (s n) k b ≡ true
  target-within s (place m x) n k b h = selects-within s x n k b h
  target-within s (joined ts) n k b h = targets-within s ts n k b h

  targets-within : (s : Scope) (ts : Targets) (n : Name) (k b : ℕ) → targets_read s ts n k b ≡ true → is_bit_of (s n) k b ≡ true
  targets-within s no_targets n k b h = absurd (false≢true h)
  targets-within s (target t ts) n k b h = either (target_reads s t n k b) (targets_read s ts n k b) _ (target-within s t n k b) (targets-within s ts n k b) h

items-within : (s : Scope) (items : CaseItems) (n : Name) (k b : ℕ) → items_read s items n k b ≡ true → is_bit_of (s n) k b ≡ true
items-within s no_items n k b h = absurd (false≢true h)
items-within s (arm es x items) n k b h = either (reads_in_all s es n k b) (items_read s items n k b) _ (all-within s es n k b) (items-within s items n k b) h
items-within s (default_arm x items) n k b h = items-within s items n k b h

-- those of two sets, without what is done
both-within : (s : Scope) (p q done : BitSet) (n : Name) (k b : ℕ) → (p n k b ≡ true → is_bit_of (s n) k b ≡ true) → (q n k b ≡ true → is_bit_of (s n) k b ≡ true)
    → but_not_in (or_in p q) done n k b ≡ true → is_bit_of (s n) k b ≡ true
both-within s p q done n k b f g h = either (p n k b) (q n k b) _ f g (first-of (or_in p q n k b) _ h)

mutual
  after-within : (s : Scope) (done : BitSet) (x : Statement) (n : Name) (k b : ℕ) → reads_after s done x n k b ≡ true → is_bit_of (s n) k b ≡ true
  after-within s done empty n k b h = absurd (false≢true h)
  after-within s done (blocking t e) n k b h = both-within s (reads s e) (target_reads s t) done n k b (within s e n k b) (target-within s t n k b) h
  after-within s done (nonblocking t e) n k b h = both-within s (reads s e) (target_reads s t) done n k b (within s e n k b) (target-within s t n k b) h
  after-within s done (if_then c x) n k b h =
      either (but_not_in (reads s c) done n k b) (reads_after s done x n k b) _ (λ g. within s c n k b (first-of (reads s c n k b) _ g)) (after-within s done x n k b) h
  after-within s done (if_else c x y) n k b h =
      either (but_not_in (reads s c) done n k b) (or_in (reads_after s done x) (reads_after s done y) n k b) _ (λ g. within s c n k b (first-of (reads s c n k b) _ g))
      (either (reads_after s done x n k b) (reads_after s done y n k b) _ (after-within s done x n k b) (after-within s done y n k b)) h
  after-within s done (case kind e items) n k b h =
      either (but_not_in (or_in (reads s e) (items_read s items)) done n k b) (arms_read_after s done items n k b) _
      (both-within s (reads s e) (items_read s items) done n k b (within s e n k b) (items-within s items n k b)) (arms-within s done items n k b) h
  after-within s done (block m xs) n k b h = all-after-within s done xs n k b h

  all-after-within : (s : Scope) (done : BitSet) (xs : Statements) (n : Name) (k b : ℕ) → all_read_after s done xs n k b ≡ true → is_bit_of (s n) k b ≡ true
  all-after-within s done no_statements n k b h = absurd (false≢true h)
  all-after-within s done (statement x xs) n k b h =
      either (reads_after s done x n k b) (all_read_after s (or_in done (surely_assigns s x)) xs n k b) _
      (after-within s done x n k b) (all-after-within s (or_in done (surely_assigns s x)) xs n k b) h

  arms-within : (s : Scope) (done : BitSet) (items : CaseItems) (n : Name) (k b : ℕ) → arms_read_after s done items n k b ≡ true → is_bit_of (s n) k b ≡ true
  arms-within s done no_items n k b h = absurd (false≢true h)
  arms-within s done (arm es x items) n k b h =
      either (reads_after s done x n k b) (arms_read_after s done items n k b) _ (after-within s done x n k b) (arms-within s done items n k b) h
  arms-within s done (default_arm x items) n k b h =
      either (reads_after s done x n k b) (arms_read_after s done items n k b) _ (after-within s done x n k b) (arms-within s done items n k b) h

pub outside-within : (s : Scope) (x : Statement) → IsWithin s (reads_outside s x)
outside-within s x = λ n k b. after-within s no_bits x n k b

pub all-outside-within : (s : Scope) (xs : Statements) → IsWithin s (all_read_after s no_bits xs)
all-outside-within s xs = λ n k b. all-after-within s no_bits xs n k b
