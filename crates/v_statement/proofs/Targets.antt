-- The trees of targets over the lists of their parts.
use Rattle.std.proofs.Common.{◌≡◌, ℕ, ◌+◌, ◌∙◌, refl, ap, ap₂, sym, subst, ◌≤◌, Bool, true, false, cond, List, [], ◌∷◌, ◌++◌, zero-add, add-zero, add_assoc}
use Rattle.std.specs.declared.vec.Vec.{Vec}
use Rattle.std.specs.declared.alloc.Global.{Global}
use Rattle.wb_values.specs.Value.{Name, Valuation}
use Rattle.verilog_trees.specs.Syntax as pure
use Rattle.verilog_trees.specs.Syntax.{Select, index, part, part_up, part_down, Selects, whole, one, two, place, joined, no_targets, target}
use Rattle.verilog_meaning.specs.Expression.{Scope, is_memory, object_width, selects_width, select_index, select_bits, no_values, assigned_value}
use Rattle.verilog_meaning.specs.Statement.{Place, Update, written, variable_cell, indexed_cell, all_bits, named_place, places, all_places, places_width, target_width, targets_width}
use Rattle.v_syntax.specs.declared.tree.Target.{Target, Joined, Row_of-Target, end_of-Target, more_of-Target, items-the_row-Target, items_hidden-the_row-Target-0}
use Rattle.v_syntax.specs.declared.tree.Target.TheBlock.{hidden-the_row-Target-0}
use Rattle.v_syntax.specs.Tree.{target_of, targets_of}
use Rattle.v_statement.specs.Statements.{target_list}
use mathlib.Core.Former as Former

targets-row : (n : Former.Count) (k : Row_of-Target n) → targets_of k ≡ target_list (items-the_row-Target n k)
targets-row n end_of-Target = refl
targets-row n (more_of-Target t k) = ap (target (target_of t)) (targets-row _ k)

pub target_of-Joined : (v : Vec Target Global) → target_of (Joined v) ≡ joined (target_list v.items)
target_of-Joined v = ap joined (targets-row _ (hidden-the_row-Target-0 v) ∙ ap target_list (items_hidden-the_row-Target-0 v))

-- the places of a target have as many bits as the target
place-width : (s : Scope) (v : Valuation) (n : Name) (x : Selects) → (named_place s v n x).bits.count ≡ selects_width s (s n) x
place-width s v n whole = refl
place-width s v n (one x) = either (is_memory (s n))
  where
    bits-count : (x : Select) → (select_bits s v (s n) x).count ≡ (select_bits s no_values (s n) x).count
    bits-count (index i) = refl
    bits-count (part h l) = refl
    bits-count (part_up b m) = refl
    bits-count (part_down b m) = refl

    either : (b : Bool) → (cond {A = Place} b (record { of_name = n; cell = indexed_cell (s n) (select_index s v x); bits = all_bits (s n) })
        (record { of_name = n; cell = variable_cell; bits = select_bits s v (s n) x })).bits.count ≡ cond b (object_width (s n)) (select_bits s no_values (s n) x).count
    either true = refl
    either false = bits-count x
place-width s v n (two x (index i)) = refl
place-width s v n (two x (part h l)) = refl
place-width s v n (two x (part_up b m)) = refl
place-width s v n (two x (part_down b m)) = refl

width-append : (ps qs : List Place) → places_width (ps ++ qs) ≡ places_width ps + places_width qs
width-append [] qs = sym (zero-add (places_width qs))
width-append (p ∷ ps) qs = ap (λ n. p.bits.count + n) (width-append ps qs) ∙ sym (add_assoc p.bits.count (places_width ps) (places_width qs))

mutual
  pub places-width : (s : Scope) (v : Valuation) (t : pure.Target) → places_width (places s v t) ≡ target_width s t
  places-width s v (place n x) = add-zero (named_place s v n x).bits.count ∙ place-width s v n x
  places-width s v (joined ts) = all_places-width s v ts

  pub all_places-width : (s : Scope) (v : Valuation) (ts : pure.Targets) → places_width (all_places s v ts) ≡ targets_width s ts
  all_places-width s v no_targets = refl
  all_places-width s v (target t ts) = width-append (places s v t) (all_places s v ts) ∙ ap₂ (λ a b. a + b) (places-width s v t) (all_places-width s v ts)

pub target-fits : (s : Scope) (v : Valuation) (t : pure.Target) (ps : List Place) → ps ≡ places s v t → target_width s t ≤ 128 → places_width ps ≤ 128
target-fits s v t ps h b = subst (λ w. w ≤ 128) (sym (ap places_width h ∙ places-width s v t)) b

-- an update as the code makes it
pub update-of : (s : Scope) (v : Valuation) (t : pure.Target) (e : pure.Expression) (ps qs : List Place) (w x : ℕ)
    → ps ≡ places s v t → qs ≡ ps → w ≡ places_width qs → x ≡ assigned_value s v w e
    → ◌≡◌ {A = Update} (record { places = ps; value = x }) (record { places = places s v t; value = assigned_value s v (target_width s t) e })
update-of s v t e ps qs w x is_ps is_qs is_w is_x =
    let width : w ≡ target_width s t = is_w ∙ ap places_width (is_qs ∙ is_ps) ∙ places-width s v t in
    let value : x ≡ assigned_value s v (target_width s t) e = is_x ∙ ap (λ k. assigned_value s v k e) width in
    λ i. record { places = is_ps i; value = value i }

-- a write as the code makes it
pub written-of : (s : Scope) (t : pure.Target) (e : pure.Expression) (v u1 u2 : Valuation) (ps qs rs : List Place) (w x : ℕ)
    → u1 ≡ v → u2 ≡ v → ps ≡ places s u1 t → qs ≡ ps → rs ≡ ps → w ≡ places_width qs → x ≡ assigned_value s u2 w e
    → written s v rs x ≡ written s v (places s v t) (assigned_value s v (target_width s t) e)
written-of s t e v u1 u2 ps qs rs w x is_u1 is_u2 is_ps is_qs is_rs is_w is_x =
    let same : ps ≡ places s v t = is_ps ∙ ap (λ u. places s u t) is_u1 in
    let width : w ≡ target_width s t = is_w ∙ ap places_width (is_qs ∙ same) ∙ places-width s v t in
    let value : x ≡ assigned_value s v (target_width s t) e = is_x ∙ ap (λ u. assigned_value s u w e) is_u2 ∙ ap (λ k. assigned_value s v k e) width in
    λ i. written s v ((is_rs ∙ same) i) (value i)
