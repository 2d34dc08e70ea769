-- Where dotted names lead by a list of modules, and what they mean in the design.
use Rattle.std.proofs.Common.{◌≡◌, ◌∙◌, ℕ, refl, ap, sym, subst, List, [], ◌∷◌, ◌++◌, Option, Some, None}
use Rattle.std.specs.Prelude.{slice_get, option_and_then, Contains}
use Rattle.std.proofs.lemmas.List.Elements.{Contains-get_or}
use Rattle.std.proofs.lemmas.List.{append-nil}
use Rattle.wb_values.specs.Value.{Name}
use Rattle.verilog_meaning.specs.Expression.{undeclared}
use Rattle.verilog_meaning.specs.Hierarchy.{PathStep, instance_step, Placed, placed_below, step_text, dotted}
use Rattle.verilog_meaning.specs.Settled.{Design, at_path}
use Rattle.verilog_unique.proofs.Paths.{stands_at, placed_in}
use Rattle.refinement.specs.Map.{dotted_parts, object_in, object_at}
use Rattle.v_places.specs.Below.{Spot}
use Rattle.v_places.specs.Places.{IsPathOf, placed_by, IsPlaceAt}
use Rattle.v_places.proofs.Spots.{same_some}
use Rattle.map_paths.specs.Located.{Below, located, IsBelow, AreBelow, AreStanding, object_there, object_where}
use Rattle.map_paths.specs.Laws.{LocatedNamesHaveTheirMeaning, LocatedNamesAreDotted, DottedNamesAreLocated, HasNoDot, HaveNoDots}
use Rattle.map_paths.proofs.Dots.{joined, joined_again, first_part, one_part, part_before, NoneIsDot}

-- ---- numbers and paths

-- the module with a number stands at its path
spot_on : (spots : List Spot) (k : ℕ) (path : List PathStep) (x : Spot) → slice_get spots k ≡ Some x → IsPathOf spots k path → IsPlaceAt spots k path (placed_by path x)
spot_on spots k path x e h = record { stands = h; spot = x; is_spot = e; is_placed = refl }

-- at one path stands one number
one_number : (d : Design) (spots : List Spot) → AreStanding d spots → (path : List PathStep) (i j : ℕ) → IsPathOf spots i path → IsPathOf spots j path → i ≡ j
one_number d spots places [] i j h g = h ∙ sym g
one_number d spots places (u ∷ around) i j h g =
    places.once i j (u ∷ around) (placed_by (u ∷ around) h.0) (placed_by (u ∷ around) g.0)
    (spot_on spots i (u ∷ around) h.0 h.1 h) (spot_on spots j (u ∷ around) g.0 g.1 g)

-- an instance of the module at a path stands a step below it
step_below : (spots : List Spot) (k j : ℕ) (u : Name) (path : List PathStep) → IsPathOf spots k path → IsBelow spots k u (Some j) → IsPathOf spots j (instance_step u ∷ path)
step_below spots k j u path h (x, e, before, around, called) =
    (x, e, before, ap instance_step (sym called), subst (λ n. IsPathOf spots n path) (sym around) h)

-- ---- what names mean

object_nowhere : (d : Design) (parts : List Name) (path : List PathStep) → at_path d path ≡ None → object_at d path parts ≡ undeclared
object_nowhere d [] path e = refl
object_nowhere d (n ∷ []) path e = ap (λ o. object_in o n) e
object_nowhere d (u ∷ n ∷ parts) path e =
    object_nowhere d (n ∷ parts) (instance_step u ∷ path) (ap (option_and_then (placed_below d.source (instance_step u))) e)

-- there is nothing at a path at which nothing can stand
no_placed : (o : Option Placed) → ((p : Placed) → o ≡ Some p → ⊥) → o ≡ None
no_placed None h = refl
no_placed (Some p) h = absurd (h p refl)

module _ (d : Design) (spots : List Spot) (below : Below) (places : AreStanding d spots) (are_below : AreBelow spots below) where
  -- the module with this number has the name
  here : (k : ℕ) (n : Name) (path : List PathStep) → IsPathOf spots k path → (o : Option Spot) → slice_get spots k ≡ o → object_in (at_path d path) n ≡ object_there o n
  here k n path h (Some x) e =
      let p : Placed = placed_by path x in
      let placed : at_path d path ≡ Some p = places.stands k path p (spot_on spots k path x e h) in
      ap (λ o. object_in o n) placed ∙ (λ i. sym (places.scope k path x (spot_on spots k path x e h)) i n)
  here k n [] h None e =
      ap (λ o. object_in o n) (no_placed (at_path d []) (λ p is.
      let same : p.path ≡ [] = stands_at d [] p is in
      let f = places.number p (placed_in d [] p is) in
      let top : f.0 ≡ 0 = subst (λ q. IsPathOf spots f.0 q) same f.1.stands in
      let there : slice_get spots k ≡ Some f.1.spot = ap (slice_get spots) (h ∙ sym top) ∙ f.1.is_spot in
      let gone : None ≡ Some f.1.spot = sym e ∙ there in cc))
  here k n (u ∷ around) h None e = let gone : None ≡ Some h.0 = sym e ∙ h.1 in absurd cc

  -- no module stands below where no instance has the name
  none_below : (k : ℕ) (u : Name) (path : List PathStep) → IsPathOf spots k path → IsBelow spots k u None → at_path d (instance_step u ∷ path) ≡ None
  none_below k u path h no_instance =
      no_placed (at_path d (instance_step u ∷ path)) (λ p is.
      let same : p.path ≡ instance_step u ∷ path = stands_at d (instance_step u ∷ path) p is in
      let f = places.number p (placed_in d (instance_step u ∷ path) p is) in
      let at : IsPathOf spots f.0 (instance_step u ∷ path) = subst (λ q. IsPathOf spots f.0 q) same f.1.stands in
      let around : at.0.parent ≡ k = one_number d spots places path at.0.parent k at.4 h in
      let called : at.0.instance ≡ u = ap (λ (s : PathStep). s.of_name) (sym at.3) in
      no_instance f.0 at.0 at.1 at.2 around called)

  meant : (parts : List Name) (k : ℕ) (path : List PathStep) → IsPathOf spots k path → object_at d path parts ≡ object_where spots (located below k parts)
  meant [] k path h = refl
  meant (n ∷ []) k path h = here k n path h (slice_get spots k) refl
  meant (u ∷ n ∷ parts) k path h = by (below k u) (are_below k u) (λ j. meant (n ∷ parts) j (instance_step u ∷ path)) where
    by : (o : Option ℕ) → IsBelow spots k u o → ((j : ℕ) → IsPathOf spots j (instance_step u ∷ path)
        → object_at d (instance_step u ∷ path) (n ∷ parts) ≡ object_where spots (located below j (n ∷ parts)))
        → object_at d (instance_step u ∷ path) (n ∷ parts) ≡ object_where spots (option_and_then (λ j. located below j (n ∷ parts)) o)
    by None no_instance next = object_nowhere d (n ∷ parts) (instance_step u ∷ path) (none_below k u path h no_instance)
    by (Some j) is next = next j (step_below spots k j u path h is)

pub names_have_their_meaning : LocatedNamesHaveTheirMeaning
names_have_their_meaning d spots below places are_below n = meant d spots below places are_below (dotted_parts n) 0 [] refl

-- ---- names and their dotted names

module _ (spots : List Spot) (below : Below) (are_below : AreBelow spots below) where
  leads : (parts : List Name) (k j : ℕ) (own : Name) (path : List PathStep) → IsPathOf spots k path → located below k parts ≡ Some (j, own)
      → (to : List PathStep) × IsPathOf spots j to × (dotted path (joined parts) ≡ dotted to own)
  leads [] k j own path h e = absurd cc
  leads (n ∷ []) k j own path h e =
      let same : (k, n) ≡ (j, own) = same_some (k, n) (j, own) e in
      (path, subst (λ i. IsPathOf spots i path) (ap (λ (p : ℕ × Name). p.0) same) h, ap (λ (p : ℕ × Name). dotted path p.1) same)
  leads (u ∷ n ∷ parts) k j own path h e = by (below k u) (are_below k u) e (λ i. leads (n ∷ parts) i j own (instance_step u ∷ path)) where
    by : (o : Option ℕ) → IsBelow spots k u o → option_and_then (λ i. located below i (n ∷ parts)) o ≡ Some (j, own)
        → ((i : ℕ) → IsPathOf spots i (instance_step u ∷ path) → located below i (n ∷ parts) ≡ Some (j, own)
        → (to : List PathStep) × IsPathOf spots j to × (dotted (instance_step u ∷ path) (joined (n ∷ parts)) ≡ dotted to own))
        → (to : List PathStep) × IsPathOf spots j to × (dotted path (u ++ 46 ∷ joined (n ∷ parts)) ≡ dotted to own)
    by None is gone next = absurd cc
    by (Some i) is found next =
        let r = next i (step_below spots k i u path h is) found in
        (r.0, r.1, ap (λ v. dotted path (v ++ 46 ∷ joined (n ∷ parts))) (sym (append-nil u)) ∙ r.2)

pub names_are_dotted : LocatedNamesAreDotted
names_are_dotted spots below are_below n own k e =
    let r = leads spots below are_below (dotted_parts n) 0 k own [] refl e in
    (r.0, r.1, sym (joined_again n) ∙ r.2)

none_is_dot : (n : Name) → HasNoDot n → NoneIsDot n
none_is_dot n h i l e = h (subst (λ c. Contains n c) e (Contains-get_or n i 0 l))

-- an instance has the number that stands at its path
child_number : (d : Design) (spots : List Spot) (below : Below) → AreStanding d spots → AreBelow spots below → (k : ℕ) (u : PathStep) (around : List PathStep)
    → (h : IsPathOf spots k (u ∷ around)) → below h.0.parent h.0.instance ≡ Some k
child_number d spots below places are_below k u around h = by (below h.0.parent h.0.instance) (are_below h.0.parent h.0.instance) where
  by : (o : Option ℕ) → IsBelow spots h.0.parent h.0.instance o → o ≡ Some k
  by None no_instance = absurd (no_instance k h.0 h.1 h.2 refl refl)
  by (Some j) is =
      let there : IsPathOf spots j (instance_step h.0.instance ∷ around) = step_below spots h.0.parent j h.0.instance around h.4 is in
      let here : IsPathOf spots j (u ∷ around) = subst (λ s. IsPathOf spots j (s ∷ around)) (sym h.3) there in
      ap Some (one_number d spots places (u ∷ around) j k here h)

module _ (d : Design) (spots : List Spot) (below : Below) (places : AreStanding d spots) (are_below : AreBelow spots below) where
  located_in : (path : List PathStep) (k : ℕ) (m : Name) → IsPathOf spots k path → HaveNoDots path
      → located below 0 (dotted_parts (dotted path m)) ≡ located below k (dotted_parts m)
  located_in [] k m h free = ap (λ i. located below i (dotted_parts m)) (sym h)
  located_in (u ∷ around) k m h free =
      let name : Name = h.0.instance in
      let called : u.of_name ≡ name = ap (λ (s : PathStep). s.of_name) h.3 in
      let plain : NoneIsDot name = subst NoneIsDot called (none_is_dot u.of_name free.0) in
      let written : step_text u ≡ name = ap step_text h.3 ∙ append-nil name in
      let more = first_part m in
      ap (λ v. located below 0 (dotted_parts (dotted around (v ++ 46 ∷ m)))) written
      ∙ (located_in around h.0.parent (name ++ 46 ∷ m) h.4 free.1
      ∙ (ap (located below h.0.parent) (part_before name m plain ∙ ap (λ ps. name ∷ ps) more.2)
      ∙ (ap (option_and_then (λ j. located below j (more.0 ∷ more.1))) (child_number d spots below places are_below k u around h)
      ∙ ap (located below k) (sym more.2))))

pub dotted_are_located : DottedNamesAreLocated
dotted_are_located d spots below places are_below k path own h free plain =
    located_in d spots below places are_below path k own h free ∙ ap (located below k) (one_part own (none_is_dot own plain))
