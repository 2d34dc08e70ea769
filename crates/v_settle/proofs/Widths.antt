-- How many bits the parts of targets have.
use Rattle.std.proofs.Common.{◌≡◌, ◌∙◌, ◌+◌, ◌≤◌, ℕ, refl, ap, sym, arith, Bool, true, false, cond, List, ◌∷◌}
use Rattle.std.specs.declared.vec.Vec.{Vec}
use Rattle.std.specs.declared.alloc.Global.{Global}
use Rattle.std.specs.Borrow.{Bor}
use Rattle.verilog_trees.specs.Syntax.{whole, one, two}
use Rattle.verilog_trees.specs.Syntax as pure
use Rattle.verilog_meaning.specs.Expression.{Object, Scope, object_width, is_memory, no_values, selects_width, select_bits}
use Rattle.verilog_meaning.specs.Statement.{all_bits, target_width, targets_width}
use Rattle.v_syntax.specs.declared.tree.Target.{Target, Place, Joined}
use Rattle.v_syntax.specs.declared.tree.Selects.{Selects}
use Rattle.v_syntax.specs.Tree.{target_of, selects_of}
use Rattle.v_statement.specs.Statements.{target_list}
use Rattle.v_statement.proofs.Targets.{target_of-Joined}
use Rattle.v_depend.specs.Left.{part_bits}

pub part-width : (s : Scope) (o : Object) (x : pure.Selects) → (part_bits s o x).count ≡ selects_width s o x
part-width s o whole = refl
part-width s o (one i) = by (is_memory o)
  where
    by : (t : Bool) → (cond t (all_bits o) (select_bits s no_values o i)).count ≡ cond t (object_width o) (select_bits s no_values o i).count
    by true = refl
    by false = refl
part-width s o (two i j) = refl

module _ (s : Scope) (e : Target) where
  pub width-Place : (m : Bor (List ℕ)) (x : Selects) → e ≡ Place m x → selects_width s (s m.now) (selects_of x) ≡ target_width s (target_of e)
  width-Place m x i = sym (ap (λ z. target_width s (target_of z)) i)

  pub width-Joined : (v : Vec Target Global) → e ≡ Joined v → (ts : List Target) → ts ≡ v.items → targets_width s (target_list ts) ≡ target_width s (target_of e)
  width-Joined v i ts j = ap (λ l. targets_width s (target_list l)) j ∙ sym (ap (target_width s) (ap target_of i ∙ target_of-Joined v))

pub all-turn : (s : Scope) (rest : List Target) (r : Target) (more : List Target) (w total x y : ℕ) → rest ≡ r ∷ more → w + targets_width s (target_list rest) ≡ total
    → x ≡ target_width s (target_of r) → y ≡ w + x → y + targets_width s (target_list more) ≡ total
all-turn s rest r more w total x y e h f g =
    let k : w + (target_width s (target_of r) + targets_width s (target_list more)) ≡ total = sym (ap (λ zs. w + targets_width s (target_list zs)) e) ∙ h in
    omega (arith, k, f, g)

pub one-within : (s : Scope) (rest : List Target) (r : Target) (more : List Target) (w total : ℕ) → rest ≡ r ∷ more → w + targets_width s (target_list rest) ≡ total
    → total ≤ 128 → target_width s (target_of r) ≤ 128
one-within s rest r more w total e h l =
    let k : w + (target_width s (target_of r) + targets_width s (target_list more)) ≡ total = sym (ap (λ zs. w + targets_width s (target_list zs)) e) ∙ h in
    omega (arith, k, l)

pub sum-within : (s : Scope) (rest : List Target) (r : Target) (more : List Target) (w total x : ℕ) → rest ≡ r ∷ more → w + targets_width s (target_list rest) ≡ total
    → x ≡ target_width s (target_of r) → total ≤ 128 → w + x ≤ 128
sum-within s rest r more w total x e h f l =
    let k : w + (target_width s (target_of r) + targets_width s (target_list more)) ≡ total = sym (ap (λ zs. w + targets_width s (target_list zs)) e) ∙ h in
    omega (arith, k, f, l)

pub all-end : (s : Scope) (rest : List Target) (w total : ℕ) → targets_width s (target_list rest) ≡ 0 → w + targets_width s (target_list rest) ≡ total → w ≡ total
all-end s rest w total e h = omega (arith, e, h)
