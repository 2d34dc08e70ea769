-- A list that is the top and what stands below each of its first so many places has each module of the design once, so far.
use Rattle.std.proofs.Common.{◌≡◌, ℕ, zero, suc, ◌+◌, ◌<◌, ◌≤◌, Bool, true, false, cond, List, [], ◌∷◌, ◌++◌, length, take, ◌⊎◌, inl, inr, refl, sym, ap, ◌∙◌, subst, Option, Some, None, option_map, option_and_then, arith}
use Rattle.std.specs.Prelude.{◌≢◌, slice_get, is_some, IsTrue, ℤ}
use Rattle.wb_values.specs.Value.{Name}
use Rattle.verilog_trees.specs.Syntax.{Item, instances, Module, Source}
use Rattle.verilog_meaning.specs.Hierarchy.{PathStep, instance_step, Placed, module_named, Instance, instance_named, instance_reached}
use Rattle.verilog_meaning.specs.Settled.{Design, IsPlacedIn}
use Rattle.verilog_designs.specs.Known.{known_constants, known_overrides, known_scope, known_instance, known_below, known_at}
use Rattle.verilog_designs.specs.Names.{has_duplicate}
use Rattle.verilog_designs.specs.Accepted.{StandsIn, below as stands_below, HasDuplicateName, AreInstances, HasBadHierarchy}
use Rattle.verilog_unique.proofs.Options.{from_map, from_chain, not_true}
use Rattle.verilog_unique.proofs.Descent.{IsAmong, among_contains, contains_among, without, length_without, kept}
use Rattle.verilog_unique.proofs.Paths.{stands_at, placed_in}
use Rattle.v_places.specs.Below.{Spot, top_spot, all_instances, spot_below, spots_below, all_below}
use Rattle.v_places.specs.Places.{IsPathOf, placed_by, IsPlaceAt, Standing, IsConnected, ArePlaces}
use Rattle.v_places.specs.Walk.{AreBefore, IsWalked}
use Rattle.v_places.proofs.AtPaths.{module_at, placed_there, known_there, module_placed, as_deep}
use Rattle.v_places.proofs.Spots.{get_among, among_get, get_within, within_get, same_some, take_get, named_there, there_named, item_of, is_below, has_below, parent_of, IsBelow, IsBelowSome, below_some, some_below, AreUnlike, all_unlike, unlike_same}

before_at : (b : ℕ) (xs : List Spot) (k : ℕ) (x : Spot) → AreBefore b xs → slice_get xs k ≡ Some x → x.parent < k + b
before_at b [] k x h e = cc
before_at b (y ∷ xs) zero x h e = let f : x.parent < b = subst (λ (z : Spot). z.parent < b) (same_some y x e) h.0 in omega (arith, f)
before_at b (y ∷ xs) (suc k) x h e = let f = before_at (suc b) xs k x h.1 e in omega (arith, f)

module _ (d : Design) (top : Module) (is_top : module_named d.source d.top ≡ Some top) (unlike : ¬ HasDuplicateName d) (n : ℕ) (spots : List Spot) (walked : IsWalked d.source top n spots) where
  fresh : (m : Module) → StandsIn d m → has_duplicate m ≡ false
  fresh m h = not_true (has_duplicate m) (λ t. unlike (HasDuplicateName.names m h t))

  at_first : (x : Spot) → slice_get spots 0 ≡ Some x → top_spot top ≡ x
  at_first x e = same_some (top_spot top) x (sym (ap (λ xs. slice_get xs 0) walked.is) ∙ e)

  at_later : (k : ℕ) (x : Spot) → slice_get spots (suc k) ≡ Some x → slice_get walked.rest k ≡ Some x
  at_later k x e = sym (ap (λ xs. slice_get xs (suc k)) walked.is) ∙ e

  later_at : (k : ℕ) (x : Spot) → slice_get walked.rest k ≡ Some x → slice_get spots (suc k) ≡ Some x
  later_at k x e = ap (λ xs. slice_get xs (suc k)) walked.is ∙ e

  before : (k : ℕ) (x : Spot) → slice_get spots (suc k) ≡ Some x → x.parent < suc k
  before k x e = let f = before_at 1 walked.rest k x walked.ordered (at_later k x e) in omega (arith, f)

  -- what stands at a number, and its module below it
  record Found (k : ℕ) (x : Spot) : Type 0 where
    path : List PathStep
    stands : IsPathOf spots k path
    known : known_at d.source d.top path ≡ Some (placed_by path x)
    below_top : StandsIn d x.of_module

  top_found : (x : Spot) → top_spot top ≡ x → Found 0 x
  top_found x e =
      record {
        path = [];
        stands = refl;
        known = ap (option_map (λ m. record { path = []; of_module = m; constants = known_constants m (λ n. None) })) is_top ∙ ap (λ (y : Spot). Some (placed_by [] y)) e;
        below_top = subst (λ (y : Spot). StandsIn d y.of_module) e (StandsIn.at_top top is_top);
      }

  below_found : (k i : ℕ) (y x : Spot) → Found i y → slice_get spots k ≡ Some x → x.parent < k → x.parent ≡ i → IsBelow d.source i y x → Found k x
  below_found k i y x f e l p b =
      let named : instance_named y.of_module.items b.instance.0 ≡ Some b.instance.1 = named_there y.of_module b.instance (fresh y.of_module f.below_top) b.stands in
      let name : b.instance.0 ≡ x.instance = ap (λ (z : Spot). z.instance) b.is_spot in
      let reached : known_at d.source d.top (instance_step b.instance.0 ∷ f.path) ≡ Some (placed_by (instance_step b.instance.0 ∷ f.path) (spot_below i y b.instance b.inner))
      = ap (option_and_then (known_below d.source (instance_step b.instance.0))) f.known
      ∙ (ap (option_and_then (known_instance d.source (instance_step b.instance.0 ∷ f.path) (known_scope (placed_by f.path y)))) named
      ∙ ap (option_map (λ m. record { path = instance_step b.instance.0 ∷ f.path; of_module = m; constants = known_constants m (known_overrides (known_scope (placed_by f.path y)) b.instance.1.parameters m) })) b.is_named) in
      let item = item_of y.of_module.items b.instance b.stands in
      record {
        path = instance_step x.instance ∷ f.path;
        stands = (x, e, l, refl, subst (λ j. IsPathOf spots j f.path) (sym p) f.stands);
        known = subst (λ u. known_at d.source d.top (instance_step u ∷ f.path) ≡ Some (placed_by (instance_step u ∷ f.path) x)) name
            (reached ∙ ap (λ (z : Spot). Some (placed_by (instance_step b.instance.0 ∷ f.path) z)) b.is_spot);
        below_top = subst (λ (z : Spot). StandsIn d z.of_module) b.is_spot
            (stands_below y.of_module b.inner b.instance.1.of_module item.given item.each f.below_top (contains_among y.of_module.items (instances b.instance.1.of_module item.given item.each) item.stands) b.is_named);
      }

  found_by : (fuel k : ℕ) (x : Spot) → k < fuel → slice_get spots k ≡ Some x → Found k x
  found_by zero k x l e = absurd (omega (arith, l))
  found_by (suc fuel) zero x l e = top_found x (at_first x e)
  found_by (suc fuel) (suc k) x l e =
      let some : IsBelowSome d.source 0 (take n spots) x = below_some d.source 0 (take n spots) x (subst (λ zs. IsAmong zs x) walked.whole (get_among walked.rest k x (at_later k x e))) in
      let number : some.number + 0 ≡ some.number = omega arith in
      let below : IsAmong (spots_below d.source some.number some.outer) x = subst (λ j. IsAmong (spots_below d.source j some.outer) x) number some.below in
      let parent : x.parent ≡ some.number = parent_of d.source some.number some.outer x below in
      let less : x.parent < suc k = before k x e in
      below_found (suc k) some.number some.outer x
      (found_by fuel some.number some.outer (omega (arith, l, less, parent)) (take_get n spots some.number some.outer some.is_outer))
      e less parent (is_below d.source some.number some.outer x below)

  found : (k : ℕ) (x : Spot) → slice_get spots k ≡ Some x → Found k x
  found k x e = found_by (suc k) k x (omega arith) e

  first_is : (m : Module) → module_named d.source d.top ≡ Some m → slice_get spots 0 ≡ Some (top_spot m)
  first_is m e = ap (λ xs. slice_get xs 0) walked.is ∙ ap (λ x. Some (top_spot x)) (same_some top m (sym is_top ∙ e))

  connected_below : (i : ℕ) (y x : Spot) → Found i y → slice_get spots i ≡ Some y → x.parent ≡ i → IsBelow d.source i y x → IsConnected spots x
  connected_below i y x f e p b =
      record {
        outer = y;
        is_outer = ap (slice_get spots) p ∙ e;
        instance = b.instance.1;
        is_instance = sym (ap (λ (z : Spot). instance_named y.of_module.items z.instance) b.is_spot) ∙ named_there y.of_module b.instance (fresh y.of_module f.below_top) b.stands;
        are_connections = sym (ap (λ (z : Spot). z.connections) b.is_spot);
      }

  connected : (k : ℕ) (x : Spot) → 0 < k → slice_get spots k ≡ Some x → IsConnected spots x
  connected zero x l e = absurd (omega (arith, l))
  connected (suc k) x l e =
      let some : IsBelowSome d.source 0 (take n spots) x = below_some d.source 0 (take n spots) x (subst (λ zs. IsAmong zs x) walked.whole (get_among walked.rest k x (at_later k x e))) in
      let number : some.number + 0 ≡ some.number = omega arith in
      let below : IsAmong (spots_below d.source some.number some.outer) x = subst (λ j. IsAmong (spots_below d.source j some.outer) x) number some.below in
      let outer : slice_get spots some.number ≡ Some some.outer = take_get n spots some.number some.outer some.is_outer in
      connected_below some.number some.outer x (found some.number some.outer outer) outer
      (parent_of d.source some.number some.outer x below) (is_below d.source some.number some.outer x below)

  -- ---- none stands there twice

  rest_unlike : (i j : ℕ) (x y : Spot) → slice_get walked.rest i ≡ Some x → slice_get walked.rest j ≡ Some y → x.parent ≡ y.parent → x.instance ≡ y.instance → i ≡ j
  rest_unlike i j x y e g p q =
      unlike_same walked.rest
      (subst AreUnlike (sym walked.whole) (all_unlike d.source 0 (take n spots) (λ z h.
      let at = among_get (take n spots) z h in
      fresh z.of_module (found at.0 z (take_get n spots at.0 z at.1)).below_top)))
      i j x y e g p q

  same_step : (x y : Spot) (u : PathStep) → u ≡ instance_step x.instance → u ≡ instance_step y.instance → x.instance ≡ y.instance
  same_step x y u e g = ap (λ (s : PathStep). s.of_name) (sym e ∙ g)

  pub once : (path : List PathStep) (i j : ℕ) → IsPathOf spots i path → IsPathOf spots j path → i ≡ j
  once [] i j h k = h ∙ sym k
  once (u ∷ around) i j h k = by_numbers i j h k (once around h.0.parent k.0.parent h.4 k.4)
    where
      by_numbers : (a b : ℕ) (f : IsPathOf spots a (u ∷ around)) (g : IsPathOf spots b (u ∷ around)) → f.0.parent ≡ g.0.parent → a ≡ b
      by_numbers zero b f g p = let l : f.0.parent < 0 = f.2 in absurd (omega (arith, l))
      by_numbers (suc a) zero f g p = let l : g.0.parent < 0 = g.2 in absurd (omega (arith, l))
      by_numbers (suc a) (suc b) f g p = ap suc (rest_unlike a b f.0 g.0 (at_later a f.0 f.1) (at_later b g.0 g.1) p (same_step f.0 g.0 u f.3 g.3))

  -- a number has one path, which is no longer than it
  pub one_path : (p q : List PathStep) (k : ℕ) → IsPathOf spots k p → IsPathOf spots k q → p ≡ q
  one_path [] [] k h g = refl
  one_path [] (v ∷ b) k h g = let l : g.0.parent < k = g.2 in absurd (omega (arith, h, l))
  one_path (u ∷ a) [] k h g = let l : h.0.parent < k = h.2 in absurd (omega (arith, g, l))
  one_path (u ∷ a) (v ∷ b) k h g =
      let same : h.0 ≡ g.0 = same_some h.0 g.0 (sym h.1 ∙ g.1) in
      let rest : a ≡ b = one_path a b h.0.parent h.4 (subst (λ (z : Spot). IsPathOf spots z.parent b) (sym same) g.4) in
      let first : u ≡ v = h.3 ∙ (ap (λ (z : Spot). instance_step z.instance) same ∙ sym g.3) in
      λ i. first i ∷ rest i

  pub short : (path : List PathStep) (k : ℕ) → IsPathOf spots k path → length path ≤ k
  short [] k h = omega arith
  short (u ∷ around) k h = let f = short around h.0.parent h.4 in let l : h.0.parent < k = h.2 in omega (arith, f, l)

  pub standing : (k : ℕ) → k < length spots → Standing d spots k
  standing k l =
      let at = within_get spots k l in
      let f = found k at.0 at.1 in
      record {
        path = f.path;
        place = placed_by f.path at.0;
        is_place = record { stands = f.stands; spot = at.0; is_spot = at.1; is_placed = refl };
        is_known = f.known;
      }

  -- ---- each module that stands in the design stands there, where all places have been visited

  module _ (complete : take n spots ≡ spots) where
    rest_whole : walked.rest ≡ all_below d.source 0 spots
    rest_whole = walked.whole ∙ ap (all_below d.source 0) complete

    top_there : (p : Placed) → known_at d.source d.top [] ≡ Some p → IsPlaceAt spots 0 [] p
    top_there p e =
        record {
          stands = refl;
          spot = top_spot top;
          is_spot = ap (λ xs. slice_get xs 0) walked.is;
          is_placed = sym (same_some (placed_by [] (top_spot top)) p
              (sym (ap (option_map (λ m. record { path = []; of_module = m; constants = known_constants m (λ n. None) })) is_top) ∙ e));
        }

    named_step : (items : List Item) (u : PathStep) (i : Instance) → instance_reached items u ≡ Some i → (u ≡ instance_step u.of_name) × (instance_named items u.of_name ≡ Some i)
    named_step items u i e = plain u.of_name u.index e
      where
        plain : (m : Name) (x : Option ℤ) → instance_reached items (record { of_name = m; index = x }) ≡ Some i
            → (record { of_name = m; index = x } ≡ instance_step m) × (instance_named items m ≡ Some i)
        plain m None h = (refl, h)
        plain m (Some k) h = cc

    below_there : (u : PathStep) (around : List PathStep) (p q : Placed) (k : ℕ) → IsPlaceAt spots k around q → known_below d.source u q ≡ Some p → (j : ℕ) × IsPlaceAt spots j (u ∷ around) p
    below_there u around p q k h e =
        let y : Spot = h.spot in
        let moved : known_below d.source u (placed_by around y) ≡ Some p = ap (known_below d.source u) (sym h.is_placed) ∙ e in
        let one = from_chain (known_instance d.source (u ∷ around) (known_scope (placed_by around y))) (instance_reached y.of_module.items u) p moved in
        let two = from_map (λ m. record { path = u ∷ around; of_module = m; constants = known_constants m (known_overrides (known_scope (placed_by around y)) one.0.parameters m) })
        (module_named d.source one.0.of_module) p one.2 in
        let step = named_step y.of_module.items u one.0 one.1 in
        let z : Spot = spot_below k y (u.of_name, one.0) two.0 in
        let stands : IsAmong (all_below d.source 0 spots) z
        = some_below d.source 0 spots z k y h.is_spot
        (subst (λ j. IsAmong (spots_below d.source j y) z) (number k)
        (has_below d.source k y (u.of_name, one.0) two.0 (all_instances y.of_module.items) (there_named y.of_module u.of_name one.0 step.1) two.1)) in
        let at = among_get walked.rest z (subst (λ zs. IsAmong zs z) (sym rest_whole) stands) in
        let here : slice_get spots (suc at.0) ≡ Some z = later_at at.0 z at.1 in (
          suc at.0,
          record {
            stands = (z, here, before at.0 z here, step.0, h.stands);
            spot = z;
            is_spot = here;
            is_placed = sym two.2;
          },
        )
      where
        number : (m : ℕ) → m ≡ m + 0
        number m = omega arith

    pub there : (path : List PathStep) (p : Placed) → known_at d.source d.top path ≡ Some p → (k : ℕ) × IsPlaceAt spots k path p
    there [] p e = (0, top_there p e)
    there (u ∷ around) p e =
        let one = from_chain (known_below d.source u) (known_at d.source d.top around) p e in
        let h = there around one.0 one.1 in
        below_there u around p one.0 h.0 h.1 one.2

    pub are_places : ArePlaces d spots
    are_places = record { each = standing; all = there; first = first_is; connected = connected; once = λ i j path p q h k. once path i j h.stands k.stands }
