-- The rows of a list of places by their numbers, and the new names in each.
use Rattle.std.proofs.Common.{◌≡◌, ◌<◌, ◌∙◌, ◌+◌, Bool, ℕ, zero, suc, List, [], ◌∷◌, map, length, get_or, refl, ap, sym, Some, arith}
use Rattle.std.specs.Prelude.{slice_get}
use Rattle.std.proofs.lemmas.List.{get_or-map, length-map}
use Rattle.verilog_trees.specs.Syntax.{Source}
use Rattle.v_renamed.specs.declared.names.Names.{Names}
use Rattle.v_renamed.specs.NewNames.{new_name}
use Rattle.flat_designs.specs.Flat.{Naming}
use Rattle.v_places.specs.Below.{Spot}
use Rattle.verilog_meaning.specs.Hierarchy.{PathStep}
use Rattle.v_flat.specs.Paths.{IsRowOf, AreRowsOf, paths_of}
use Rattle.v_flat.specs.Entries.{SpotNames, names_at_paths, names_of, naming_of}
use Rattle.v_flat.specs.Numbered.{numbered_from}
use Rattle.v_flat.proofs.Places.{paths_length}
use Rattle.v_flat.specs.Items.{naming_at}
use Rattle.v_flat.specs.Views.{namings}

pub row_at : {A : Type 0} (source : Source) (n : ℕ) (view : A → Spot) (xs : List A) (k : ℕ) (d : A) → k < length xs → AreRowsOf source n (map view xs)
    → IsRowOf source n (view (get_or xs k d))
row_at source n view [] k d l h = absurd (omega (arith, l))
row_at source n view (x ∷ xs) zero d l h = h.0
row_at source n view (x ∷ xs) (suc k) d l h = row_at source n view xs k d (omega (arith, l)) h.1

-- the names of a table are those with its number
pub naming_here : (ts : List Names) (k : ℕ) (t d : Names) → k < length ts → t ≡ get_or ts k d → new_name t ≡ naming_at (namings ts) k
naming_here ts k t d l e = ap new_name e ∙ sym (get_or-map new_name ts k d (λ n. n) l)

-- the rows of all places, from those of each
pub all_rows : (source : Source) (n : ℕ) (xs : List Spot) → ((k : ℕ) (x : Spot) → slice_get xs k ≡ Some x → IsRowOf source n x) → AreRowsOf source n xs
all_rows source n [] h = tt
all_rows source n (x ∷ xs) h = (h 0 x refl, all_rows source n xs (λ k y e. h (suc k) y e))

-- ---- as many of each

pub names_length : (called : Naming) (qs : List (List PathStep)) (xs : List Spot) → length qs ≡ length xs → length (names_at_paths called qs xs) ≡ length xs
names_length called [] [] l = refl
names_length called [] (x ∷ xs) l = absurd (omega (arith, l))
names_length called (q ∷ qs) [] l = absurd (omega (arith, l))
names_length called (q ∷ qs) (x ∷ xs) l = let r = names_length called qs xs (omega (arith, l)) in omega (arith, r)

-- as many names as places
pub named_all : (called : Naming) (xs : List Spot) → length (names_of called xs) ≡ length xs
named_all called xs =
    let many : length (paths_of xs) ≡ 0 + length xs = paths_length [] xs in
    names_length called (paths_of xs) xs (omega (arith, many))

pub numbered_length : (b : Bool) (k : ℕ) (xs : List Spot) → length (numbered_from b k xs) ≡ length xs
numbered_length b k [] = refl
numbered_length b k (x ∷ xs) = let r = numbered_length b (k + 1) xs in omega (arith, r)

pub as_many : (ts : List Names) (ns : List SpotNames) → namings ts ≡ map naming_of ns → length ts ≡ length ns
as_many ts ns e = sym (length-map ts new_name) ∙ ap length e ∙ length-map ns naming_of
