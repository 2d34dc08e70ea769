-- As many tables as places, and the list of the top.
use Rattle.std.proofs.Common.{◌≡◌, ◌∙◌, ◌+◌, ℕ, refl, ap, sym, subst, arith, List, [], ◌∷◌, ◌++◌, map, length, Some, None, Bor, option_map}
use Rattle.std.specs.Prelude.{slice_get}
use Rattle.std.specs.BTreeMap.{BTreeMap}
use Rattle.std.proofs.lemmas.List.{length-map}
use Rattle.std.proofs.lemmas.Option.{get_or_from_slice_get}
use Rattle.wb_values.specs.Value.{Name}
use Rattle.verilog_meaning.specs.Hierarchy.{PathStep, Placed}
use Rattle.verilog_meaning.specs.Settled.{Design, at_path}
use Rattle.verilog_registers.specs.Order.{members_in}
use Rattle.flat_designs.specs.Flat.{Naming}
use Rattle.v_places.specs.declared.place.Place.{Place}
use Rattle.v_places.specs.Below.{Spot, nowhere}
use Rattle.v_places.specs.Views.{spot_of, spots_of}
use Rattle.v_flat.specs.Paths.{paths_of}
use Rattle.v_flat.specs.Entries.{SpotNames, names_at_paths, names_of}
use Rattle.v_flat.specs.Whole.{IsPlacing}
use Rattle.v_flat.proofs.Places.{paths_length}
use Rattle.v_flat.proofs.Connected.{get_map}
use Rattle.v_ordered.specs.Order.{AreNamesInOrder}
use Rattle.v_ordered.specs.Lines.{called_under, line, AreBelow}
use Rattle.v_ordered.specs.Tables.{text_under, number_at, members_at, AreLines}
use Rattle.v_ordered.proofs.Ordering.{HaveNames, lines_are_in_order}

names_length : (called : Naming) (qs : List (List PathStep)) (xs : List Spot) → length qs ≡ length xs → length (names_at_paths called qs xs) ≡ length xs
names_length called [] [] l = refl
names_length called [] (x ∷ xs) l = absurd (omega (arith, l))
names_length called (q ∷ qs) [] l = absurd (omega (arith, l))
names_length called (q ∷ qs) (x ∷ xs) l = let r = names_length called qs xs (omega (arith, l)) in omega (arith, r)

-- the names of so many places
pub as_many : (called : Naming) (ns : List SpotNames) (ps : List Place) → ns ≡ names_of called (spots_of ps) → length ns ≡ length ps
as_many called ns ps e =
    let many : length (paths_of (spots_of ps)) ≡ 0 + length (spots_of ps) = paths_length [] (spots_of ps) in
    ap length e ∙ names_length called (paths_of (spots_of ps)) (spots_of ps) (omega (arith, many)) ∙ length-map ps spot_of

-- The list of the top has the names in order.
pub in_order : (ps : List Place) (ts : List (BTreeMap (Bor (List ℕ)) (Bor (List ℕ)))) (bs : List (BTreeMap (Bor (List ℕ)) ℕ)) (ns : List SpotNames)
    (lists : ℕ → List Name) (out : List Name) → map text_under ts ≡ map called_under ns → ((k : ℕ) → AreBelow (spots_of ps) k (number_at bs k))
    → AreLines (spots_of ps) ts bs lists → out ≡ lists 0
    → (d : Design) (called : Naming) (top : Placed) → IsPlacing d (spots_of ps) → ns ≡ names_of called (spots_of ps)
    → ((path : List PathStep) (n : Name) → called path [] ++ n ≡ called path n) → at_path d [] ≡ Some top
    → AreNamesInOrder d called top (members_in top.of_module) out
in_order ps ts bs ns lists out e below lines is d called top placing names fronts at =
    subst (AreNamesInOrder d called top (members_in top.of_module)) (sym is) (lines_are_in_order d called (spots_of ps) lists top placing by_names fronts at)
  where
    by_names : HaveNames (spots_of ps) (names_of called (spots_of ps)) lists
    by_names k x p spot known = (
      number_at bs k,
      below k,
      lines k
          ∙ ap (λ f. line f (number_at bs k) lists (members_at (spots_of ps) k)) (get_or_from_slice_get (map text_under ts) k (called_under p) (λ n. None) called_so)
          ∙ ap (λ (z : Spot). line (called_under p) (number_at bs k) lists (members_in z.of_module)) (get_or_from_slice_get (spots_of ps) k x nowhere spot),
    )
      where
        called_so : slice_get (map text_under ts) k ≡ Some (called_under p)
        called_so =
            ap (λ fs. slice_get fs k) (e ∙ ap (map called_under) names) ∙ get_map called_under (names_of called (spots_of ps)) k
            ∙ ap (option_map called_under) known
