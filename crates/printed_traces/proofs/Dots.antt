-- What a dotted name means to a map: what the name means in the module at its path.
use Rattle.std.proofs.Common.{◌≡◌, ◌∙◌, ℕ, Bool, true, false, cond, refl, ap, sym, List, [], ◌∷◌, ◌++◌, append-nil, inl, inr, ne_eqb, None}
use Rattle.std.specs.Prelude.{◌==◌}
use Rattle.wb_values.specs.Value.{Name}
use Rattle.verilog_meaning.specs.Hierarchy.{PathStep, instance_step, step_text, Placed, placed_scope, dotted}
use Rattle.verilog_meaning.specs.Settled.{Design, IsPlacedIn, IsDeclared}
use Rattle.refinement.specs.Map.{dotted_parts, with_character, object_in, object_at}
use Rattle.verilog_exists.specs.Exists.{NamesHaveNoDots}
use Rattle.verilog_exists.proofs.Dots.{Plain, ArePlainSteps}
use Rattle.verilog_exists.proofs.Spots.{plain_declared, plain_path}

abbrev IsSome : List Name → Type 0
IsSome [] = ⊥
IsSome (n ∷ parts) = Unit {0}

some_with : (c : ℕ) (parts : List Name) → IsSome (with_character c parts)
some_with c [] = tt
some_with c (part ∷ parts) = tt

some_parts : (n : Name) → IsSome (dotted_parts n)
some_parts [] = tt
some_parts (c ∷ cs) = by (c == 46) where
  by : (b : Bool) → IsSome (cond b ([] ∷ dotted_parts cs) (with_character c (dotted_parts cs)))
  by true = tt
  by false = some_with c (dotted_parts cs)

-- what has parts begins with one
begins : (parts : List Name) → IsSome parts → (n : Name) × (more : List Name) × (parts ≡ n ∷ more)
begins [] s = absurd s
begins (n ∷ parts) s = (n, parts, refl)

first_part : (n : Name) → (m : Name) × (more : List Name) × (dotted_parts n ≡ m ∷ more)
first_part n = begins (dotted_parts n) (some_parts n)

no_dot : (c : ℕ) (cs : Name) → Plain (c ∷ cs) → (c == 46) ≡ false
no_dot c cs h = ne_eqb c 46 (λ e. h (inl e))

one_part : (n : Name) → Plain n → dotted_parts n ≡ n ∷ []
one_part [] h = refl
one_part (c ∷ cs) h =
    ap (λ b. cond b ([] ∷ dotted_parts cs) (with_character c (dotted_parts cs))) (no_dot c cs h) ∙ ap (with_character c) (one_part cs (λ k. h (inr k)))

part_before : (n more : Name) → Plain n → dotted_parts (n ++ 46 ∷ more) ≡ n ∷ dotted_parts more
part_before [] more h = refl
part_before (c ∷ cs) more h =
    ap (λ b. cond b ([] ∷ dotted_parts (cs ++ 46 ∷ more)) (with_character c (dotted_parts (cs ++ 46 ∷ more)))) (no_dot c cs h)
    ∙ ap (with_character c) (part_before cs more (λ k. h (inr k)))

plain_step : (u : PathStep) → u.index ≡ None → instance_step u.of_name ≡ u
plain_step u e = ap (λ i. record { of_name = u.of_name; index = i }) (sym e)

written : (u : PathStep) → u.index ≡ None → step_text u ≡ u.of_name
written u e = ap step_text (sym (plain_step u e)) ∙ append-nil u.of_name

meant : (d : Design) (path : List PathStep) (n : Name) → ArePlainSteps path → object_at d [] (dotted_parts (dotted path n)) ≡ object_at d path (dotted_parts n)
meant d [] n h = refl
meant d (u ∷ around) n h =
    let more = first_part n in
    meant d around (step_text u ++ 46 ∷ n) h.2
    ∙ (ap (λ t. object_at d around (dotted_parts (t ++ 46 ∷ n))) (written u h.0)
    ∙ (ap (object_at d around) (part_before u.of_name n h.1 ∙ ap (λ ps. u.of_name ∷ ps) more.2)
    ∙ (ap (λ s. object_at d (s ∷ around) (more.0 ∷ more.1)) (plain_step u h.0)
    ∙ ap (object_at d (u ∷ around)) (sym more.2))))

-- A dotted name of a module that stands in the design means what the name means there.
pub means_there : (d : Design) (p : Placed) (n : Name) → NamesHaveNoDots d.source → IsPlacedIn d p → IsDeclared p n
    → object_at d [] (dotted_parts (dotted p.path n)) ≡ placed_scope p n
means_there d p n dotless at declared =
    meant d p.path n (plain_path d dotless p.path p at)
    ∙ (ap (object_at d p.path) (one_part n (plain_declared d dotless p n at declared)) ∙ ap (λ o. object_in o n) at)
