-- What stands below a place, by the table of numbers and by the source; and how many places there are.
use Rattle.std.proofs.Common.{◌≡◌, ℕ, suc, ◌+◌, ◌-◌, ◌<◌, ◌≤◌, List, [], ◌∷◌, ◌++◌, length, Bor, refl, sym, ap, ◌∙◌, subst, Option, Some, None, true, false, arith}
use Rattle.std.proofs.lemmas.List.{length-append}
use mathlib.Core.Path.{fun_ext}
use Rattle.std.specs.BTreeMap.{BTreeMap}
use Rattle.verilog_trees.specs.Syntax as pure
use Rattle.verilog_trees.specs.Syntax.{Source}
use Rattle.v_syntax.specs.declared.module.Module.{Module}
use Rattle.v_places.specs.declared.place.Place.{Place}
use Rattle.v_places.specs.Below.{Spot, all_instances, below_by, spots_below}
use Rattle.v_places.specs.Added.{IsAdded}
use Rattle.v_places.specs.Views.{spot_of, spots_of, module_in}
use Rattle.v_places.specs.Whole.{Knows}
use Rattle.v_places.specs.Walk.{IsWalked, IsWalk}
use Rattle.v_places.proofs.Rooms.{spots_length, spots_append}
use Rattle.v_places.proofs.Turns.{walk_on, walk_off, walk_end}

pub whole_part : (ms : List Module) (t : BTreeMap (Bor (List ℕ)) ℕ) (source : Source) (k : ℕ) (x : Spot) → Knows ms t source
    → below_by (module_in ms t) k x (all_instances x.of_module.items) ≡ spots_below source k x
whole_part ms t source k x h = ap (λ modules. below_by modules k x (all_instances x.of_module.items)) (fun_ext h)

-- the numbers of the list and of the queue, after a turn
module _ (count more : ℕ) (o : Option ℕ) (list after waiting rest queue : List Place) (p : Place) (part : List Spot) (is : count ≡ length list + length waiting) (popped : waiting ≡ p ∷ rest)
    (t : o ≡ Some more) (added : IsAdded count o (spots_of queue) (spots_of rest) part) (pushed : after ≡ list ++ p ∷ []) where
  all : IsAdded count (Some more) (spots_of queue) (spots_of rest) part
  all = subst (λ q. IsAdded count q (spots_of queue) (spots_of rest) part) t added

  pub all_counted : more ≡ length after + length queue
  all_counted =
      let first : length waiting ≡ suc (length rest) = ap length popped in
      let second : length after ≡ length list + 1 = ap length pushed ∙ length-append list (p ∷ []) in
      let third : length (spots_of queue) ≡ length (spots_of rest) + length part = ap length all.0 ∙ length-append (spots_of rest) part in
      let fourth : length (spots_of queue) ≡ length queue = spots_length queue in
      let fifth : length (spots_of rest) ≡ length rest = spots_length rest in
      let sixth : more ≡ count + length part = all.1 in
      omega (arith, is, first, second, third, fourth, fifth, sixth)

  pub all_fit : count ≤ 65537 → more ≤ 65537
  all_fit l = all.2 l

pub one_listed : (n : ℕ) (list after : List Place) (p : Place) → n ≡ length list → after ≡ list ++ p ∷ [] → n + 1 ≡ length after
one_listed n list after p e f = let long : length after ≡ length list + 1 = ap length f ∙ length-append list (p ∷ []) in omega (arith, e, long)

pub fewer : (n count : ℕ) (list waiting rest : List Place) (p : Place) → n ≡ length list → count ≡ length list + length waiting → waiting ≡ p ∷ rest → count ≤ 65537 → n < 65537
fewer n count list waiting rest p e f g l = let first : length waiting ≡ suc (length rest) = ap length g in omega (arith, e, f, first, l)

pub none_waits : (len : ℕ) (waiting : List Place) → len ≡ length waiting → (0 < len → ⊥) → waiting ≡ []
none_waits len [] e h = refl
none_waits len (p ∷ ps) e h = let some : len ≡ suc (length ps) = e in absurd (h (omega (arith, some)))

pub counts_both : (count : ℕ) (list waiting : List Place) → count ≡ length list + length waiting → count ≡ length (spots_of list ++ spots_of waiting)
counts_both count list waiting e =
    let whole : length (spots_of list ++ spots_of waiting) ≡ length (spots_of list) + length (spots_of waiting) = length-append (spots_of list) (spots_of waiting) in
    let first : length (spots_of list) ≡ length list = spots_length list in
    let second : length (spots_of waiting) ≡ length waiting = spots_length waiting in
    omega (arith, e, whole, first, second)

pub nearer : (n : ℕ) → n < 65537 → 65537 - (n + 1) < 65537 - n
nearer n l = omega (arith, l)

-- ---- the queue with the top

pub one_waits : (queue empty : List Place) (x : Spot) → spots_of queue ≡ spots_of empty ++ x ∷ [] → empty ≡ [] → length queue ≡ 1
one_waits queue empty x e f = sym (spots_length queue) ∙ ap length (e ∙ ap (λ q. spots_of q ++ x ∷ []) f)

pub top_waits : (queue empty : List Place) (x : Spot) → spots_of queue ≡ spots_of empty ++ x ∷ [] → empty ≡ [] → spots_of queue ≡ x ∷ []
top_waits queue empty x e f = e ∙ ap (λ q. spots_of q ++ x ∷ []) f

-- a turn, over the code's lists
module _ (ms : List Module) (t : BTreeMap (Bor (List ℕ)) ℕ) (source : Source) (top : pure.Module) (n count : ℕ) (o : Option ℕ) (list waiting rest queue : List Place) (p : Place) (knows : Knows ms t source) (number : n ≡ length list)
    (walked : IsWalked source top n (spots_of list ++ spots_of waiting)) (popped : waiting ≡ p ∷ rest)
    (added : IsAdded count o (spots_of queue) (spots_of rest) (below_by (module_in ms t) n (spot_of p) (all_instances (spot_of p).of_module.items))) where
  so_long : n ≡ length (spots_of list)
  so_long = number ∙ sym (spots_length list)

  pub turn_on : (more : ℕ) (after : List Place) → o ≡ Some more → after ≡ list ++ p ∷ [] → IsWalked source top (n + 1) (spots_of after ++ spots_of queue)
  turn_on more after e f =
      subst (λ xs. IsWalked source top (n + 1) (xs ++ spots_of queue)) (sym (ap spots_of f ∙ spots_append list (p ∷ [])))
      (walk_on source top n count (spots_of list) (spots_of waiting) (spots_of rest) (spot_of p) so_long (ap spots_of popped) walked (spots_of queue)
      (below_by (module_in ms t) n (spot_of p) (all_instances (spot_of p).of_module.items)) o (whole_part ms t source n (spot_of p) knows) added more (n + 1) e refl)

  pub turn_off : (new : List Spot) → o ≡ None → count ≡ length list + length waiting → IsWalk source top false new
  turn_off new e f =
      walk_off source top n count (spots_of list) (spots_of waiting) (spots_of rest) (spot_of p) so_long (ap spots_of popped) walked (spots_of queue)
      (below_by (module_in ms t) n (spot_of p) (all_instances (spot_of p).of_module.items)) o (whole_part ms t source n (spot_of p) knows) added new e (counts_both count list waiting f)

pub turn_end : (source : Source) (top : pure.Module) (n count : ℕ) (list waiting : List Place) → n ≡ length list → count ≡ length list + length waiting → count ≤ 65537 → waiting ≡ []
    → IsWalked source top n (spots_of list ++ spots_of waiting) → IsWalk source top true (spots_of list)
turn_end source top n count list waiting e f l w h =
    let long : length (spots_of list) ≡ length list = spots_length list in
    walk_end source top n (spots_of list) (spots_of waiting) (e ∙ sym long) (ap spots_of w) (omega (arith, long, f, l)) h
