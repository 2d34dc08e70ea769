-- Lemmas on child programs: how a run goes on, ends, or has a trouble.
use Rattle.std.proofs.Common.{◌≡◌, ℕ, zero, suc, ◌+◌, ◌-◌, ◌<◌, ◌≤◌, Bool, true, false, List, [], ◌∷◌, length, get_or, drop, Option, Some, None, inl, inr, refl, sym, ap, ◌∙◌, subst, arith}
use Rattle.std.proofs.Math.Numerals.{add-one}
use Rattle.std.proofs.lemmas.Bool.{and_parts}
use Rattle.wb_values.specs.Value as meaning
use Rattle.wb_values.specs.Value.{Valuation}
use Rattle.model_meaning.specs.Model as pure
use Rattle.model_meaning.specs.Model.{holds, entered, left_behind}
use Rattle.model_meaning.specs.Instruction as instruction
use Rattle.model_meaning.specs.Instruction.{Reaches, DoesChild, DoesStep, ChildTrouble, OneTrouble}
use Rattle.wb_terms.specs.Graph.{Graph, tree}
use Rattle.ila_model.specs.declared.parts.ChildId.{ChildId}
use Rattle.ila_model.specs.declared.parts.Child.{Child}
use Rattle.ila_model.specs.declared.parts.Parts.{Parts}
use Rattle.ila_model.specs.Scope.{nesting, around, is_child_nested, tops}
use Rattle.ila_model.specs.Sorted.{is_limit, are_states, is_machine, is_child, are_children}
use Rattle.ila_model.specs.Meaning.{privates_of, machine_of, program_at, program_of, instructions_of}
use Rattle.ila_model.proofs.Declarations.{AreSorted}
use Rattle.ila_child.specs.Running.{point_at, HasDepth, IsLinked, program_in}
use Rattle.ila_child.proofs.Places.{privates_within}
use Rattle.ila_child.proofs.Points.{IsInside, left_point, depth_inside}

pub nesting-is : nesting ≡ 3
unfolding nesting
nesting-is = refl

pub low_enough : (d : ℕ) → d ≤ 3 → d ≤ nesting
unfolding nesting
low_enough d h = h

pub reach_more : (step : Valuation → Valuation → Type 0) (n : ℕ) (p q r : Valuation) → Reaches step n p q → step q r → Reaches step (suc n) p r
reach_more step zero p q r e s = (r, subst (λ x. step x r) (sym e) s, refl)
reach_more step (suc n) p q r h s = (h.0, h.1, reach_more step n h.0 q r h.2 s)

-- what is known of a child of the table
pub record IsSortedChild (p : Parts) (c d : ℕ) (x : Child) : Type 0 where
  pub inside : IsInside p c d x
  pub states : are_states true (drop x.first.0 p.terms.names) x.initial_values.items ≡ true
  pub places : x.first.0 + length x.initial_values.items ≤ length p.terms.names
  pub machine : is_machine p (Some c) x.valid.0 x.instructions.items ≡ true
  pub low : suc d ≤ 3

child_at : (p : Parts) (from : ℕ) (cs : List Child) (k : ℕ) (d : Child) → are_children p from cs ≡ true → k < length cs → is_child p (from + k) (get_or cs k d) ≡ true
child_at p from [] k d h b = absurd (omega arith)
child_at p from (c ∷ cs) zero d h b =
    let e : from ≡ from + 0 = omega arith in
    subst (λ j. is_child p j c ≡ true) e (and_parts (is_child p from c) _ h).0
child_at p from (c ∷ cs) (suc k) d h b =
    let e : suc from + k ≡ from + suc k = omega arith in
    subst (λ j. is_child p j (get_or cs k d) ≡ true) e (child_at p (suc from) cs k d (and_parts (is_child p from c) _ h).1 (omega arith))

pub sorted_child : (p : Parts) (s : AreSorted p) (at : Option ℕ) (c d : ℕ) (x : Child) → HasDepth p.children.items d at → c < length p.children.items → around p.children.items c ≡ at → x ≡ get_or p.children.items c x → IsSortedChild p c d x
sorted_child p s at c d x deep within run here =
    let e : 0 + c ≡ c = omega arith in
    let a = subst (λ j. is_child p j (get_or p.children.items c x) ≡ true) e (child_at p 0 p.children.items c x s.children within) in
    let b = subst (λ y. is_child p c y ≡ true) (sym here) a in
    let limit = and_parts (is_limit x.steps) _ b in
    let nest = and_parts (is_child_nested p.children.items c) _ limit.1 in
    let states = and_parts (are_states true (drop x.first.0 p.terms.names) x.initial_values.items) _ nest.1 in
    let deep_here = subst (HasDepth p.children.items d) (sym run) deep in
    let inside : IsInside p c d x = record { within = within; is_child = here; nested = nest.0; deep = deep_here } in
    record {
      inside = inside;
      states = states.0;
      places = subst (λ (y : Child). y.first.0 + length y.initial_values.items ≤ length p.terms.names) (sym here) (privates_within (tops p) (length p.terms.names) p.children.items c x s.declared.placed within);
      machine = states.1;
      low = depth_inside p.children.items c d nest.0 deep_here;
    }

program-there : (g : Graph) (inner : Option ChildId → pure.Child) (cs : List Child) (k : ℕ) (d : Child) → k < length cs → program_at g inner cs k ≡ pure.child (get_or cs k d).steps (machine_of g inner (get_or cs k d))
program-there g inner [] k d h = absurd (omega arith)
program-there g inner (c ∷ cs) zero d h = refl
program-there g inner (c ∷ cs) (suc k) d h = program-there g inner cs k d (omega arith)

-- the program of a child of the table
pub program_child : (p : Parts) (i : ChildId) (d : ℕ) (x : Child) → i.0 < length p.children.items → x ≡ get_or p.children.items i.0 x → suc d ≤ 3 → program_in p d (Some i) ≡ pure.child x.steps (machine_of p.terms (program_in p (suc d)) x)
program_child p i d x within here low =
    let g = p.terms in
    let cs = p.children.items in
    let level : nesting - d ≡ suc (nesting - suc d) = omega (arith, nesting-is) in
    ap (λ l. program_of g cs l (Some i)) level
    ∙ program-there g (program_in p (suc d)) cs i.0 x within
    ∙ sym (ap (λ (y : Child). pure.child y.steps (machine_of g (program_in p (suc d)) y)) here)

abbrev pub steps_of : Parts → ℕ → Child → Valuation → Valuation → Type 0
steps_of p d x = DoesStep (machine_of p.terms (program_in p (suc d)) x)

-- the valid condition fails
pub ended : (p : Parts) (s : AreSorted p) (at : Option ℕ) (i : ChildId) (d n : ℕ) (x : Child) (xs ys : List meaning.Value) → around p.children.items i.0 ≡ at → IsSortedChild p i.0 d x → length xs ≡ length p.terms.names → length ys ≡ length p.terms.names → n ≤ x.steps → Reaches (steps_of p d x) n (entered (privates_of p.terms x) (point_at p at xs)) (point_at p (Some i.0) ys) → holds (tree p.terms x.valid.0) (point_at p (Some i.0) ys) ≡ false → DoesChild (program_in p d (Some i)) (point_at p at xs) (point_at p at ys)
ended p s at i d n x xs ys run c l m b r v =
    let inside = c.inside in
    let left = subst (λ a. left_behind (privates_of p.terms x) (point_at p a xs) (point_at p (Some i.0) ys) ≡ point_at p a ys) run (left_point p s i.0 d x xs ys inside l m) in
    subst (λ y. DoesChild y (point_at p at xs) (point_at p at ys)) (sym (program_child p i d x inside.within inside.is_child c.low))
    (n, b, point_at p (Some i.0) ys, r, v, sym left)

-- the limit is reached, and the valid condition holds
pub too_long_at : (p : Parts) (i : ChildId) (d n : ℕ) (x : Child) (v q : Valuation) → IsSortedChild p i.0 d x → n ≡ x.steps → Reaches (steps_of p d x) n (entered (privates_of p.terms x) v) q → holds (tree p.terms x.valid.0) q ≡ true → ChildTrouble (program_in p d (Some i)) v (suc d) (instruction.too_long (suc d))
too_long_at p i d n x v q c e r t =
    subst (λ y. ChildTrouble y v (suc d) (instruction.too_long (suc d))) (sym (program_child p i d x c.inside.within c.inside.is_child c.low))
    (n, q, r, t, inl (e, refl))

-- a step has a trouble
pub troubled : (p : Parts) (i : ChildId) (d n : ℕ) (x : Child) (v q : Valuation) (t : instruction.Trouble) → IsSortedChild p i.0 d x → n < x.steps → Reaches (steps_of p d x) n (entered (privates_of p.terms x) v) q → holds (tree p.terms x.valid.0) q ≡ true → OneTrouble (instructions_of p.terms (program_in p (suc d)) x.instructions.items) q (suc d) n t → ChildTrouble (program_in p d (Some i)) v (suc d) t
troubled p i d n x v q t c b r h o =
    subst (λ y. ChildTrouble y v (suc d) t) (sym (program_child p i d x c.inside.within c.inside.is_child c.low))
    (n, q, r, h, inr (b, o))
