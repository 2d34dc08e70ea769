-- A name that is assigned is judged as one that has a number: what it breaks then is what it breaks where anything may be read.
use Rattle.std.proofs.Common.{◌≡◌, refl, ap, cond, ◌&&◌, nat_le, Option, Some, None, ℤ}
use Rattle.wb_values.specs.Choice.{some_if}
use Rattle.verilog_trees.specs.Syntax as pure
use Rattle.verilog_trees.specs.Syntax.{index, part, part_up, part_down, whole, one, two}
use Rattle.verilog_meaning.specs.Expression.{Scope, Object, object_width, is_memory, selects_width}
use Rattle.verilog_rules.specs.Expression as rules
use Rattle.v_size.specs.declared.rule.Position.{Position}
use Rattle.v_size.specs.declared.rule.Position.TheVariants.{Anywhere, Constant}
use Rattle.v_size.specs.Rule.{coded, both, position_of}
use Rattle.v_size.specs.Judged.{with_number, name_at}

own-same : (p : Position) (o : Object) (x : pure.Selects) → rules.by_name (position_of p) (with_number o) x ≡ rules.by_name rules.anywhere o x
own-same Anywhere o whole = refl
own-same Anywhere o (one y) = refl
own-same Anywhere o (two y z) = refl
own-same (Constant w t) o whole = refl
own-same (Constant w t) o (one y) = refl
own-same (Constant w t) o (two y z) = refl

runs-same : (o : Object) (h l : Option ℤ) → rules.runs_against (with_number o) h l ≡ rules.runs_against o h l
runs-same o (Some h) (Some l) = refl
runs-same o (Some h) None = refl
runs-same o None l = refl

bits-same : (s : Scope) (o : Object) (y : pure.Select) → rules.broken_bits s (with_number o) y ≡ rules.broken_bits s o y
bits-same s o (index i) = refl
bits-same s o (part h l) =
    ap (λ b. rules.also (rules.select_if (o.is_declared && b)) (rules.width_if (rules.is_over_128 (rules.bits_between_bounds (rules.constant_number s h) (rules.constant_number s l)))))
    (runs-same o (rules.constant_number s h) (rules.constant_number s l))
bits-same s o (part_up b n) = refl
bits-same s o (part_down b n) = refl

selects-same : (s : Scope) (p : rules.Position) (o : Object) (x : pure.Selects) → rules.broken_selects s p (with_number o) x ≡ rules.broken_selects s p o x
selects-same s p o whole = refl
selects-same s p o (one y) = ap (λ b. rules.also (rules.broken_select s p y) (cond (is_memory o) rules.nothing b)) (bits-same s o y)
selects-same s p o (two y z) = ap (λ b. rules.also (rules.broken_select s p y) (rules.also (rules.broken_select s p z) b)) (bits-same s o z)

pub numbered-broken : (s : Scope) (p : Position) (o : Object) (x : pure.Selects)
    → (name_at s p (with_number o) x).broken ≡ coded (rules.also (rules.by_name rules.anywhere o x) (rules.broken_selects s (position_of p) o x))
unfolding name_at
numbered-broken s p o x = λ i. both (coded (own-same p o x i)) (coded (selects-same s (position_of p) o x i))

pub numbered-width : (s : Scope) (p : Position) (o : Object) (x : pure.Selects)
    → (name_at s p (with_number o) x).width ≡ some_if ((o.is_declared && nat_le (object_width o) 128) && rules.selects_have_width s o x) (selects_width s o x)
unfolding name_at
numbered-width s p o whole = refl
numbered-width s p o (one (index i)) = refl
numbered-width s p o (one (part h l)) = refl
numbered-width s p o (one (part_up b n)) = refl
numbered-width s p o (one (part_down b n)) = refl
numbered-width s p o (two y (index i)) = refl
numbered-width s p o (two y (part h l)) = refl
numbered-width s p o (two y (part_up b n)) = refl
numbered-width s p o (two y (part_down b n)) = refl
