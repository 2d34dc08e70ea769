-- A walk over the parts of a target, the last first. (What is said of lists stands in the proofs of `v_depend`, where it is private.)
use Rattle.std.proofs.Common.{◌≡◌, ◌∙◌, ℕ, zero, suc, ◌+◌, ◌-◌, ◌<◌, ◌≤◌, refl, ap, sym, subst, List, [], ◌∷◌, length, drop, get_or, arith, drop-cons}
use Rattle.std.specs.declared.vec.Vec.{Vec}
use Rattle.std.specs.declared.alloc.Global.{Global}
use Rattle.wb_values.specs.Value.{word}
use Rattle.verilog_trees.specs.Syntax as pure
use Rattle.verilog_meaning.specs.Expression.{Scope, no_values}
use Rattle.verilog_meaning.specs.Statement.{places, all_places, target_width, targets_width}
use Rattle.wb_terms.specs.Graph.{Graph}
use Rattle.v_syntax.specs.declared.tree.Target.{Target, Joined}
use Rattle.v_syntax.specs.Tree.{target_of}
use Rattle.v_statement.specs.Statements.{target_list}
use Rattle.v_statement.proofs.Targets.{target_of-Joined, places-width, all_places-width}
use Rattle.v_operators.specs.Meaning.{Grows, IsOfSort}
use Rattle.v_lower.specs.Lowered.{Images, HasImages}
use Rattle.v_flow.specs.Narrow.{HaveNarrowParts, HasNarrowParts}
use Rattle.v_settle.specs.Drivers.{IsNetTarget, AreNetTargets, AreBitsWritten}
use Rattle.v_settle.proofs.Placed.{none_written, more_written}

-- ---- the part before others

pub drop-before : {A : Type 0} (xs : List A) (i : ℕ) (r : A) → 0 < i → i ≤ length xs → r ≡ get_or xs (i - 1) r → drop (i - 1) xs ≡ r ∷ drop i xs
drop-before xs i r h g is =
    let e : suc (i - 1) ≡ i = omega (arith, h) in
    let l : i - 1 < length xs = omega (arith, h, g) in
    drop-cons xs (i - 1) r l ∙ ap (λ a. a ∷ drop (suc (i - 1)) xs) (sym is) ∙ ap (λ k. r ∷ drop k xs) e

drop-all : (xs : List Target) → drop (length xs) xs ≡ []
drop-all [] = refl
drop-all (x ∷ xs) = drop-all xs

-- what holds of parts holds of the later ones
later : (P : List Target → Type 0) → ((x : Target) (xs : List Target) → P (x ∷ xs) → P xs) → (k : ℕ) (xs : List Target) → P xs → P (drop k xs)
later P f zero xs h = h
later P f (suc k) [] h = h
later P f (suc k) (x ∷ xs) h = later P f k xs (f x xs h)

module _ (s : Scope) (xs : List Target) (i : ℕ) (r : Target) (e : drop (i - 1) xs ≡ r ∷ drop i xs) where
  pub part-narrow : HaveNarrowParts s (target_list xs) → HasNarrowParts s (target_of r)
  part-narrow h =
      (subst (λ ys. HaveNarrowParts s (target_list ys)) e (later (λ ys. HaveNarrowParts s (target_list ys)) (λ x ys g. g.1) (i - 1) xs h)).0

  pub part-net : AreNetTargets s (target_list xs) → IsNetTarget s (target_of r)
  part-net h = (subst (λ ys. AreNetTargets s (target_list ys)) e (later (λ ys. AreNetTargets s (target_list ys)) (λ x ys g. g.1) (i - 1) xs h)).0

  two : targets_width s (target_list (drop (i - 1) xs)) ≡ target_width s (target_of r) + targets_width s (target_list (drop i xs))
  two = ap (λ ys. targets_width s (target_list ys)) e

  pub part-within : (low now width : ℕ) → low + targets_width s (target_list xs) ≤ width → now ≡ low + targets_width s (target_list (drop i xs))
      → now + target_width s (target_of r) ≤ width
  part-within low now width h g =
      let l : low + targets_width s (target_list (drop (i - 1) xs)) ≤ width = later (λ ys. low + targets_width s (target_list ys) ≤ width) fewer (i - 1) xs h in
      let t = two in
      omega (arith, l, g, t)
    where
      fewer : (x : Target) (ys : List Target) → low + (target_width s (target_of x) + targets_width s (target_list ys)) ≤ width → low + targets_width s (target_list ys) ≤ width
      fewer x ys k = omega (arith, k)

  pub number-turn : (low now new : ℕ) → now ≡ low + targets_width s (target_list (drop i xs)) → new ≡ now + target_width s (target_of r)
      → new ≡ low + targets_width s (target_list (drop (i - 1) xs))
  number-turn low now new h g = let t = two in omega (arith, h, g, t)

  pub written-turn : (a : Images) (g : Graph) (b : Images) (h : Graph) (c : Images) (l : Graph) (number w low now : ℕ) → IsOfSort g number (word w) → Grows g h
      → now ≡ low + targets_width s (target_list (drop i xs))
      → AreBitsWritten s a g (all_places s no_values (target_list (drop i xs))) (targets_width s (target_list (drop i xs))) number w low b h
      → AreBitsWritten s b h (places s no_values (target_of r)) (target_width s (target_of r)) number w now c l
      → AreBitsWritten s a g (all_places s no_values (target_list (drop (i - 1) xs))) (targets_width s (target_list (drop (i - 1) xs))) number w low c l
  written-turn a g b h c l number w low now sort grows is_now before after =
      let t = target_of r in
      let ts = target_list (drop i xs) in
      subst (λ ys. AreBitsWritten s a g (all_places s no_values (target_list ys)) (targets_width s (target_list ys)) number w low c l) (sym e)
      (more_written s a b c g h l (places s no_values t) (all_places s no_values ts) (target_width s t) (targets_width s ts) number w low sort grows
      (sym (places-width s no_values t)) (sym (all_places-width s no_values ts)) before
      (subst (λ k. AreBitsWritten s b h (places s no_values t) (target_width s t) number w k c l) is_now after))

pub begun-number : (s : Scope) (xs : List Target) (low : ℕ) → low ≡ low + targets_width s (target_list (drop (length xs) xs))
begun-number s xs low =
    let e : targets_width s (target_list (drop (length xs) xs)) ≡ 0 = ap (λ ys. targets_width s (target_list ys)) (drop-all xs) in
    omega (arith, e)

pub begun-written : (s : Scope) (xs : List Target) (a : Images) (g : Graph) (number w low : ℕ) → HasImages s a g
    → AreBitsWritten s a g (all_places s no_values (target_list (drop (length xs) xs))) (targets_width s (target_list (drop (length xs) xs))) number w low a g
begun-written s xs a g number w low known =
    subst (λ ys. AreBitsWritten s a g (all_places s no_values (target_list ys)) (targets_width s (target_list ys)) number w low a g) (sym (drop-all xs))
    (none_written s a g number w low known)

pub ended-number : (s : Scope) (xs : List Target) (i low now : ℕ) → i ≡ 0 → now ≡ low + targets_width s (target_list (drop i xs)) → now ≡ low + targets_width s (target_list xs)
ended-number s xs i low now z h = subst (λ k. now ≡ low + targets_width s (target_list (drop k xs))) z h

pub ended-written : (s : Scope) (xs : List Target) (i : ℕ) (a : Images) (g : Graph) (number w low : ℕ) (b : Images) (h : Graph) → i ≡ 0
    → AreBitsWritten s a g (all_places s no_values (target_list (drop i xs))) (targets_width s (target_list (drop i xs))) number w low b h
    → AreBitsWritten s a g (all_places s no_values (target_list xs)) (targets_width s (target_list xs)) number w low b h
ended-written s xs i a g number w low b h z k =
    subst (λ m. AreBitsWritten s a g (all_places s no_values (target_list (drop m xs))) (targets_width s (target_list (drop m xs))) number w low b h) z k

-- ---- parts side by side

module _ (s : Scope) (t : Target) (v : Vec Target Global) (is : t ≡ Joined v) (ts : List Target) (items : ts ≡ v.items) where
  of-joined : target_of t ≡ pure.joined (target_list ts)
  of-joined = ap target_of is ∙ target_of-Joined v ∙ sym (ap (λ ys. pure.joined (target_list ys)) items)

  pub net-joined : IsNetTarget s (target_of t) → AreNetTargets s (target_list ts)
  net-joined h = subst (IsNetTarget s) of-joined h

  pub narrow-joined : HasNarrowParts s (target_of t) → HaveNarrowParts s (target_list ts)
  narrow-joined h = subst (HasNarrowParts s) of-joined h

  pub within-joined : (low width : ℕ) → low + target_width s (target_of t) ≤ width → low + targets_width s (target_list ts) ≤ width
  within-joined low width h = subst (λ (z : pure.Target). low + target_width s z ≤ width) of-joined h

  pub number-joined : (low new : ℕ) → new ≡ low + targets_width s (target_list ts) → new ≡ low + target_width s (target_of t)
  number-joined low new h = subst (λ (z : pure.Target). new ≡ low + target_width s z) (sym of-joined) h

  pub written-joined : (a : Images) (g : Graph) (number w low : ℕ) (b : Images) (h : Graph)
      → AreBitsWritten s a g (all_places s no_values (target_list ts)) (targets_width s (target_list ts)) number w low b h
      → AreBitsWritten s a g (places s no_values (target_of t)) (target_width s (target_of t)) number w low b h
  written-joined a g number w low b h k =
      subst (λ (z : pure.Target). AreBitsWritten s a g (places s no_values z) (target_width s z) number w low b h) (sym of-joined) k
