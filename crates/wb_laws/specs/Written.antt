-- Sorts of the terms of a model file as they are written, and of the terms that they stand for.
use Rattle.std.specs.Prelude.{◌≡◌, ◌↔◌, ℕ, true, false, slice_get, Some}
use Rattle.std.specs.List.{list_all}
use Rattle.wb_values.specs.Value.{Sort}
use Rattle.model_meaning.specs.Term.{Term, sort_of}
use Rattle.model_files.specs.Written.{WrittenModel}
use Rattle.model_files.specs.Scope.{PlacedTerm, term_of, written_sort, all_terms}
use Rattle.model_files.specs.Rules.{has_unknown_name, has_fitting_constants}

-- p is term number k of the file
abbrev pub IsTermOf : WrittenModel → ℕ → PlacedTerm → Type 0
IsTermOf m k p = slice_get (all_terms m) k ≡ Some p

-- the term that a term of a file stands for, with definitions put in
abbrev pub meant : PlacedTerm → Term
meant p = term_of p.names p.written

-- In a file whose terms use visible names alone, a written term has the sort of the term that it stands for, wherever this has one.
abbrev pub TermsSortIsTheWritten : Type 0
TermsSortIsTheWritten =
    (m : WrittenModel) (k : ℕ) (p : PlacedTerm) (s : Sort) → has_unknown_name m ≡ false → IsTermOf m k p
    → sort_of (meant p) ≡ Some s → written_sort p.names p.written ≡ Some s

-- Where moreover every constant of the file fits its width, the one has a sort exactly where the other has it, and the same. (A
-- constant that does not fit has the sort of its stated width as it is written, and as a term it has none.)
abbrev pub SortsAreTheSame : Type 0
SortsAreTheSame =
    (m : WrittenModel) (k : ℕ) (p : PlacedTerm) (s : Sort) → has_unknown_name m ≡ false → list_all (λ q. has_fitting_constants q.written) (all_terms m) ≡ true
    → IsTermOf m k p → (written_sort p.names p.written ≡ Some s) ↔ (sort_of (meant p) ≡ Some s)
