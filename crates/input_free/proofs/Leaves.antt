-- Where an expression breaks no rule on names, all names that it reads are declared.
use Rattle.std.proofs.Common.{◌≡◌, Bool, true, false, cond, Some, None, refl}
use Rattle.std.specs.Prelude.{IsTrue, ◌&&◌, pos}
use Rattle.wb_values.specs.Choice.{some_if}
use Rattle.wb_values.specs.Value.{Name}
use Rattle.verilog_trees.specs.Syntax.{Expression, number, name, concatenation, replication, as_signed, as_unsigned, unary, reduction, binary, shift, power, comparison, logical, conditional, Expressions, no_expressions, expression, Select, index, part, part_up, part_down, Selects, whole, one, two}
use Rattle.verilog_meaning.specs.Expression.{Object, Scope, is_memory, width_of, widths_of, sign_of}
use Rattle.verilog_rules.specs.Expression.{undeclared_name, Broken, nothing, also, constant_if, first_broken, Position, anywhere, in_context, wider, by_name, is_below, by_total, copies, is_unsized, divides, is_bad_divisor, is_bad_exponent, number_if, is_unbroken, by_itself, as_constant, broken, broken_parts, broken_selects, broken_select, broken_bits, has_width, have_widths, refusal_of}
use Rattle.verilog_settled.specs.Locality.{LeavesAre, AllLeavesAre, SelectIs, SelectsAre}
use Rattle.verilog_unique.specs.Unique.{AnyName}
use Rattle.verilog_unique.proofs.Options.{first_false, second_false, not_is_false}

left_ok : (a b : Broken) → (also a b).undeclared ≡ false → a.undeclared ≡ false
left_ok a b h = first_false a.undeclared b.undeclared h

right_ok : (a b : Broken) → (also a b).undeclared ≡ false → b.undeclared ≡ false
right_ok a b h = second_false a.undeclared b.undeclared h

abbrev Declared : Scope → Name → Type 0
Declared s n = IsTrue ((s n).is_declared)

mutual
  leaves_known : (s : Scope) (p : Position) (e : Expression) → (broken s p e).undeclared ≡ false → LeavesAre AnyName e → LeavesAre (Declared s) e
  leaves_known s p (number k) b h = h
  leaves_known s p (name n x) b h = (
    not_is_false (s n).is_declared (left_ok (by_name p (s n) x) (broken_selects s p (s n) x) b),
    selects_known s p (s n) x (right_ok (by_name p (s n) x) (broken_selects s p (s n) x) b) h.1,
  )
  leaves_known s p (concatenation es) b h =
      parts_known s p es (right_ok (by_total (some_if (have_widths s es) (widths_of s es))) (broken_parts s p es) b) h
  leaves_known s p (replication k es) b h =
      let c : Broken = broken s (as_constant s (has_width s k) k) k in
      let t : Broken = by_total (copies (number_if c s k) (some_if (have_widths s es) (widths_of s es))) in
      parts_known s p es
      (right_ok t (broken_parts s p es) (right_ok (also (constant_if (is_below (pos 1) (number_if c s k))) c) (also t (broken_parts s p es)) b)) h
  leaves_known s p (as_signed x) b h = leaves_known s (by_itself s p (has_width s x) x) x b h
  leaves_known s p (as_unsigned x) b h = leaves_known s (by_itself s p (has_width s x) x) x b h
  leaves_known s p (unary op x) b h = leaves_known s p x b h
  leaves_known s p (reduction op x) b h = leaves_known s (by_itself s p (has_width s x) x) x b h
  leaves_known s p (binary op x y) b h =
      let c : Broken = broken s p y in
      let t : Broken = constant_if (divides op && is_bad_divisor s p y (is_unbroken c)) in (
        leaves_known s p x (left_ok (broken s p x) (also t c) b) h.0,
        leaves_known s p y (right_ok t c (right_ok (broken s p x) (also t c) b)) h.1,
      )
  leaves_known s p (shift op x n) b h =
      let q = by_itself s p (has_width s n) n in (
        leaves_known s p x (left_ok (broken s p x) (broken s q n) b) h.0,
        leaves_known s q n (right_ok (broken s p x) (broken s q n) b) h.1,
      )
  leaves_known s p (power x n) b h =
      let q = by_itself s p (has_width s n) n in
      let c : Broken = broken s q n in
      let t : Broken = constant_if (is_bad_exponent p (number_if c s n)) in (
        leaves_known s p x (left_ok (broken s p x) (also t c) b) h.0,
        leaves_known s q n (right_ok t c (right_ok (broken s p x) (also t c) b)) h.1,
      )
  leaves_known s p (comparison op x y) b h =
      let q = in_context p (wider (some_if (has_width s x) (width_of s x)) (some_if (has_width s y) (width_of s y))) (sign_of s x && sign_of s y) in
      (leaves_known s q x (left_ok (broken s q x) (broken s q y) b) h.0, leaves_known s q y (right_ok (broken s q x) (broken s q y) b) h.1)
  leaves_known s p (logical op x y) b h =
      let q = by_itself s p (has_width s x) x in
      let r = by_itself s p (has_width s y) y in
      (leaves_known s q x (left_ok (broken s q x) (broken s r y) b) h.0, leaves_known s r y (right_ok (broken s q x) (broken s r y) b) h.1)
  leaves_known s p (conditional c x y) b h =
      let q = by_itself s p (has_width s c) c in
      let front = left_ok (also (broken s q c) (broken s p x)) (broken s p y) b in (
        leaves_known s q c (left_ok (broken s q c) (broken s p x) front) h.0,
        leaves_known s p x (right_ok (broken s q c) (broken s p x) front) h.1,
        leaves_known s p y (right_ok (also (broken s q c) (broken s p x)) (broken s p y) b) h.2,
      )

  parts_known : (s : Scope) (p : Position) (es : Expressions) → (broken_parts s p es).undeclared ≡ false → AllLeavesAre AnyName es → AllLeavesAre (Declared s) es
  parts_known s p no_expressions b h = h
  parts_known s p (expression e es) b h =
      let q = by_itself s p (has_width s e) e in
      let front : Broken = also (constant_if (is_unsized e)) (broken s q e) in (
        leaves_known s q e (right_ok (constant_if (is_unsized e)) (broken s q e) (left_ok front (broken_parts s p es) b)) h.0,
        parts_known s p es (right_ok front (broken_parts s p es) b) h.1,
      )

  select_known : (s : Scope) (p : Position) (x : Select) → (broken_select s p x).undeclared ≡ false → SelectIs AnyName x → SelectIs (Declared s) x
  select_known s p (index i) b h = leaves_known s (by_itself s p (has_width s i) i) i b h
  select_known s p (part high low) b h = h
  select_known s p (part_up e n) b h =
      let q = by_itself s p (has_width s e) e in
      let c : Broken = broken s (as_constant s (has_width s n) n) n in
      leaves_known s q e (left_ok (broken s q e) (also (constant_if (is_below (pos 1) (number_if c s n))) c) b) h
  select_known s p (part_down e n) b h =
      let q = by_itself s p (has_width s e) e in
      let c : Broken = broken s (as_constant s (has_width s n) n) n in
      leaves_known s q e (left_ok (broken s q e) (also (constant_if (is_below (pos 1) (number_if c s n))) c) b) h

  selects_known : (s : Scope) (p : Position) (o : Object) (x : Selects) → (broken_selects s p o x).undeclared ≡ false → SelectsAre AnyName x → SelectsAre (Declared s) x
  selects_known s p o whole b h = h
  selects_known s p o (one x) b h =
      select_known s p x (left_ok (broken_select s p x) (cond (is_memory o) nothing (broken_bits s o x)) b) h
  selects_known s p o (two x y) b h =
      let rest : Broken = also (broken_select s p y) (broken_bits s o y) in (
        select_known s p x (left_ok (broken_select s p x) rest b) h.0,
        select_known s p y (left_ok (broken_select s p y) (broken_bits s o y) (right_ok (broken_select s p x) rest b)) h.1,
      )

none_undeclared : (b : Broken) → first_broken b ≡ None → b.undeclared ≡ false
none_undeclared b h = by b.undeclared h
  where
    by : (t : Bool) → cond t (Some undeclared_name) (first_broken (record b { undeclared = false })) ≡ None → t ≡ false
    by true e = cc
    by false e = refl

-- the names that an expression reads are declared, where it breaks no rule
pub leaves_declared : (s : Scope) (e : Expression) → refusal_of s e ≡ None → LeavesAre AnyName e → LeavesAre (λ n. IsTrue ((s n).is_declared)) e
leaves_declared s e h l = leaves_known s anywhere e (none_undeclared (broken s anywhere e) h) l
