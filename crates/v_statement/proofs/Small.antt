-- Statements of tests that fit words.
use Rattle.std.proofs.Common.{◌≡◌, ◌≤◌, ◌<◌, ◌++◌, ◌∙◌, ℕ, ap, sym, subst, Bool, true, false, cond, List, [], ◌∷◌, arith}
use Rattle.std.specs.Borrow.{Bor}
use Rattle.std.specs.declared.boxed.Box.{Box}
use Rattle.std.specs.declared.alloc.Global.{Global}
use Rattle.wb_values.specs.Value.{Name}
use Rattle.verilog_trees.specs.Syntax as pure
use Rattle.verilog_trees.specs.Syntax.{number, one, place}
use Rattle.verilog_meaning.specs.Expression.{Scope, Object, no_values, select_bits, is_memory, object_width}
use Rattle.v_syntax.specs.declared.tree.Expression.{Expression}
use Rattle.v_syntax.specs.declared.tree.Select.{Select}
use Rattle.v_syntax.specs.declared.tree.Selects.{Whole, One}
use Rattle.v_syntax.specs.declared.tree.Target.{Target, Place}
use Rattle.v_syntax.specs.declared.tree.Statement.{Statement, Blocking}
use Rattle.v_syntax.specs.Tree.{tree_of, select_of, target_of}
use Rattle.v_value.specs.Narrow.{IsNarrow, HasNarrowObjects}
use Rattle.v_statement.specs.Statements.{IsNarrowSelect, IsNarrowTarget, AreNarrowStatements, statement_list}

-- an unsigned number of 8 bits
abbrev pub byte : ℕ → pure.Expression
byte x = number (record { width = 8; sized = true; signed = false; value = x; unknown = 0; wild = 0; has_unknown = false; has_wild = false })

abbrev pub IsSmallSelect : pure.Select → Type 0
IsSmallSelect x = (s : Scope) → IsNarrowSelect s x × ((o : Object) → (select_bits s no_values o x).count ≤ 128)

byte_fits : (s : Scope) (x : ℕ) → x < 256 → IsNarrow s (byte x)
byte_fits s x h = ((omega arith, omega arith), h)

select_fits : (s : Scope) (n : Name) (x : pure.Select) → HasNarrowObjects s → IsSmallSelect x → IsNarrowTarget s (place n (one x))
select_fits s n x o h = ((h s).0, either (is_memory (s n)))
  where
    either : (t : Bool) → cond t (object_width (s n)) (select_bits s no_values (s n) x).count ≤ 128
    either true = (o n).0
    either false = (h s).1 (s n)

fits : (s : Scope) (p q : Target) → p ≡ q → IsNarrowTarget s (target_of q) → IsNarrowTarget s (target_of p)
fits s p q same = subst (λ t. IsNarrowTarget s (target_of t)) (sym same)

-- an assignment to a whole name, and one to a part of it
pub two_assignments : (xs ys zs : List Statement) (n m : Bor (List ℕ)) (x : Select) (d e : Expression) (t u : Box Target Global) (y z : ℕ)
    → t.value ≡ Place n Whole → u.value ≡ Place m (One x) → xs ≡ [] → ys ≡ xs ++ Blocking t d ∷ [] → zs ≡ ys ++ Blocking u e ∷ []
    → tree_of d ≡ byte y → tree_of e ≡ byte z → y < 256 → z < 256 → IsSmallSelect (select_of x)
    → (s : Scope) → HasNarrowObjects s → AreNarrowStatements s (statement_list zs)
two_assignments xs ys zs n m x d e t u y z is_t is_u none first second is_d is_e a b h s o =
    let before : ys ≡ Blocking t d ∷ [] = first ∙ ap (λ ws. ws ++ Blocking t d ∷ []) none in
    let both : zs ≡ Blocking t d ∷ Blocking u e ∷ [] = second ∙ ap (λ ws. ws ++ Blocking u e ∷ []) before in
    subst (λ ws. AreNarrowStatements s (statement_list ws)) (sym both)
    ((fits s t.value (Place n Whole) is_t (tt, (o n.now).0), subst (IsNarrow s) (sym is_d) (byte_fits s y a)), ((fits s u.value (Place m (One x)) is_u (select_fits s m.now (select_of x) o h), subst (IsNarrow s) (sym is_e) (byte_fits s z b)), tt))
