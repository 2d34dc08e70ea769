-- More than so many places below the top are a bad hierarchy, and a list of all places with no more is none.
use Rattle.std.proofs.Common.{◌≡◌, ℕ, zero, suc, ◌+◌, ◌-◌, ◌<◌, ◌≤◌, Bool, true, false, cond, List, [], ◌∷◌, ◌++◌, length, take, ◌⊎◌, inl, inr, refl, sym, ap, ◌∙◌, subst, Option, Some, None, arith}
use Rattle.std.specs.Prelude.{◌≢◌, slice_get, Contains}
use Rattle.verilog_trees.specs.Syntax.{Module, Source}
use Rattle.verilog_meaning.specs.Hierarchy.{PathStep, Placed, module_named, placed_at}
use Rattle.verilog_meaning.specs.Settled.{Design, IsPlacedIn}
use Rattle.verilog_designs.specs.Known.{known_at}
use Rattle.verilog_designs.specs.Accepted.{HasDuplicateName, HasRecursion, AreInstances, HasBadHierarchy}
use Rattle.verilog_unique.proofs.Descent.{IsAmong, among_contains, contains_among, without, length_without, kept}
use Rattle.verilog_unique.proofs.Paths.{stands_at, placed_in}
use Rattle.v_places.specs.Below.{Spot, top_spot}
use Rattle.v_places.specs.Places.{IsPathOf, placed_by, IsPlaceAt, Standing}
use Rattle.v_places.proofs.AtPaths.{placed_there, known_there, module_placed, as_deep}
use Rattle.v_places.proofs.Spots.{get_among, among_get, get_within, within_get}
use Rattle.v_places.specs.Walk.{IsWalked}
use Rattle.v_places.proofs.Walked.{once, one_path, short, standing, there}

-- ---- lists without repetition

abbrev AreOnce : {A : Type 0} → List A → Type 0
AreOnce [] = Unit {0}
AreOnce (x ∷ xs) = (IsAmong xs x → ⊥) × AreOnce xs

once_by : {A : Type 0} (xs : List A) → ((i j : ℕ) (x : A) → slice_get xs i ≡ Some x → slice_get xs j ≡ Some x → i ≡ j) → AreOnce xs
once_by [] h = tt
once_by (x ∷ xs) h = (
  λ k. let at = among_get xs x k in let same : 0 ≡ suc at.0 = h 0 (suc at.0) x refl at.1 in absurd (omega (arith, same)),
  once_by xs (λ i j y e g. let same : suc i ≡ suc j = h (suc i) (suc j) y e g in omega (arith, same)),
)

no_longer : {A : Type 0} (xs ys : List A) → AreOnce xs → ((x : A) → IsAmong xs x → IsAmong ys x) → length xs ≤ length ys
no_longer [] ys h f = omega arith
no_longer (x ∷ xs) ys h f =
    let here : IsAmong ys x = f x (inl refl) in
    let fewer : suc (length (without ys x here)) ≡ length ys = length_without ys x here in
    let rest : length xs ≤ length (without ys x here)
    = no_longer xs (without ys x here) h.1 (λ z k. kept ys x here z (f z (inr k)) (λ e. h.0 (subst (IsAmong xs) (sym e) k))) in
    omega (arith, fewer, rest)

module _ (d : Design) (top : Module) (is_top : module_named d.source d.top ≡ Some top) (unlike : ¬ HasDuplicateName d) (n : ℕ) (spots : List Spot) (walked : IsWalked d.source top n spots) where
  -- the paths of so many places from this one on
  record Paths (count b : ℕ) : Type 0 where
    paths : List (List PathStep)
    counted : length paths ≡ count
    stand : (i : ℕ) (path : List PathStep) → slice_get paths i ≡ Some path → IsPathOf spots (i + b) path × ((p : Placed) × (known_at d.source d.top path ≡ Some p))

  joined : (count b : ℕ) → Standing d spots b → Paths count (suc b) → Paths (suc count) b
  joined count b s r =
      record {
        paths = s.path ∷ r.paths;
        counted = ap suc r.counted;
        stand = at;
      }
    where
      at : (i : ℕ) (path : List PathStep) → slice_get (s.path ∷ r.paths) i ≡ Some path → IsPathOf spots (i + b) path × ((p : Placed) × (known_at d.source d.top path ≡ Some p))
      at zero path e =
          let same : s.path ≡ path = cc in
          let number : b ≡ 0 + b = omega arith in
          subst (λ q. IsPathOf spots (0 + b) q × ((p : Placed) × (known_at d.source d.top q ≡ Some p))) same
          (subst (λ k. IsPathOf spots k s.path) number s.is_place.stands, (s.place, s.is_known))
      at (suc i) path e =
          let f = r.stand i path e in
          let number : i + suc b ≡ suc i + b = omega arith in
          (subst (λ k. IsPathOf spots k path) number f.0, f.1)

  build : (count b : ℕ) → count + b ≤ length spots → Paths count b
  build zero b l = record { paths = []; counted = refl; stand = λ i path e. cc }
  build (suc count) b l = joined count b (standing d top is_top unlike n spots walked b (omega (arith, l))) (build count (suc b) (omega (arith, l)))

  -- those of all below the top
  below_top : (m : ℕ) → suc m ≡ length spots → Paths m 1
  below_top m e = build m 1 (omega (arith, e))

  not_top : (i : ℕ) (path : List PathStep) → IsPathOf spots (i + 1) path → path ≢ []
  not_top i path h e = let f : i + 1 ≡ 0 = subst (IsPathOf spots (i + 1)) e h in absurd (omega (arith, f))

  pub crowded : (limit m : ℕ) → suc m ≡ length spots → limit < m → (paths : List (List PathStep)) × AreInstances d paths × (limit < length paths)
  crowded limit m e l =
      let b : Paths m 1 = below_top m e in
      let count : length b.paths ≡ m = b.counted in (
        b.paths,
        record {
          placed = λ path c.
              let at = among_get b.paths path (among_contains b.paths path c) in
              let f = b.stand at.0 path at.1 in
              let p = placed_there d.source d.top path f.1.0 f.1.1 in
              (p.0, placed_in d path p.0 p.1, stands_at d path p.0 p.1, not_top at.0 path f.0);
          distinct = λ i j path g h.
              let same : i + 1 ≡ j + 1 = once d top is_top unlike n spots walked path (i + 1) (j + 1) (b.stand i path g).0 (b.stand j path h).0 in
              omega (arith, same);
        },
        omega (arith, l, count),
      )

  -- ---- where all places have been visited

  module _ (complete : take n spots ≡ spots) where
    known_place : (path : List PathStep) (p : Placed) → known_at d.source d.top path ≡ Some p → (k : ℕ) × (k < length spots) × IsPathOf spots k path
    known_place path p e =
        let f = there d top is_top unlike n spots walked complete path p e in
        (f.0, get_within spots f.0 f.1.spot f.1.is_spot, f.1.stands)

    no_recursion : HasRecursion d → ⊥
    no_recursion h =
        let deep = as_deep d h (length spots) in
        let long : length spots ≤ length deep.0 = deep.1 in
        let known = known_there d.source d.top deep.0 deep.2.0 deep.2.1 in
        let f = known_place deep.0 known.0 known.1 in
        let within : f.0 < length spots = f.1 in
        let less : length deep.0 ≤ f.0 = short d top is_top unlike n spots walked deep.0 f.0 f.2 in
        absurd (omega (arith, long, within, less))

    not_crowded : (m : ℕ) → suc m ≡ length spots → (paths : List (List PathStep)) → AreInstances d paths → length paths ≤ m
    not_crowded m e paths a =
        let b : Paths m 1 = below_top m e in
        let count : length b.paths ≡ m = b.counted in
        let most : length paths ≤ length b.paths = no_longer paths b.paths (once_by paths a.distinct) (λ path h. listed e b path (a.placed path (contains_among paths path h))) in
        omega (arith, count, most)
      where
        at : (k : ℕ) (b : Paths m 1) (path : List PathStep) → suc m ≡ length spots → path ≢ [] → k < length spots → IsPathOf spots k path → IsAmong b.paths path
        at zero b path g some l h = absurd (some (first path h))
          where
            first : (q : List PathStep) → IsPathOf spots 0 q → q ≡ []
            first [] i = refl
            first (u ∷ q) i = let less : i.0.parent < 0 = i.2 in absurd (omega (arith, less))
        at (suc k) b path g some l h =
            let count : length b.paths ≡ m = b.counted in
            let less : k < length b.paths = omega (arith, count, g, l) in
            let number : k + 1 ≡ suc k = omega arith in
            let there_at = within_paths b.paths k less in
            let f = b.stand k there_at.0 there_at.1 in
            let same : there_at.0 ≡ path = one_path d top is_top unlike n spots walked there_at.0 path (suc k) (subst (λ j. IsPathOf spots j there_at.0) number f.0) h in
            subst (IsAmong b.paths) same (get_among b.paths k there_at.0 there_at.1)
          where
            within_paths : (xs : List (List PathStep)) (j : ℕ) → j < length xs → (x : List PathStep) × (slice_get xs j ≡ Some x)
            within_paths xs j i = within_get xs j i

        listed : suc m ≡ length spots → (b : Paths m 1) (path : List PathStep) → (p : Placed) × IsPlacedIn d p × (p.path ≡ path) × (path ≢ []) → IsAmong b.paths path
        listed g b path p =
            let known = known_there d.source d.top path p.0.of_module (module_placed d.source d.top path p.0 (subst (λ q. placed_at d.source d.top q ≡ Some p.0) p.2 p.1)) in
            let f = known_place path known.0 known.1 in
            at f.0 b path g p.3 f.1 f.2

    pub not_bad : (m : ℕ) → suc m ≡ length spots → m ≤ 65536 → ¬ HasBadHierarchy d
    not_bad m e l (HasBadHierarchy.recursive h) = no_recursion h
    not_bad m e l (HasBadHierarchy.crowded paths a more) = let most : length paths ≤ m = not_crowded m e paths a in absurd (omega (arith, most, more, l))
