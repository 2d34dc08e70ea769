-- Lists of terms with all that they stand on, and copies of these alone.
use Rattle.std.specs.Prelude.{◌≡◌, ℕ, ◌<◌, ◌≤◌, ⊤, Bool, true, false, List, [], ◌∷◌, length, slice_get, slice_index_or, slice_set, Some}
use Rattle.wb_terms.specs.declared.nodes.TermId.{TermId}
use Rattle.wb_terms.specs.declared.nodes.Node.{Node}
use Rattle.wb_terms.specs.Graph.{Graph, operands_of}
use Rattle.term_copies.specs.Copies.{id_at, IsCopy}

-- The term stands among the first so many of the list.
abbrev pub IsListed : List TermId → (count k : ℕ) → Type 0
IsListed ids n k = (j : ℕ) × (j < n) × (id_at ids j ≡ k)

abbrev pub AllListed : List TermId → (count : ℕ) → List ℕ → Type 0
AllListed ids n [] = ⊤
AllListed ids n (k ∷ ks) = IsListed ids n k × AllListed ids n ks

-- A term of the store, whose operands stand before it in the list.
pub record IsAfterItsOperands (g : Graph) (ids : List TermId) (place : ℕ) : Type 0 where
  pub below : id_at ids place < length g.nodes
  pub operands : (n : Node) → slice_get g.nodes (id_at ids place) ≡ Some n → AllListed ids place (operands_of n)

-- Each term of the list is one of the store, and its operands stand before it.
abbrev pub IsClosed : Graph → List TermId → Type 0
IsClosed g ids = (j : ℕ) → j < length ids → IsAfterItsOperands g ids j

-- Each of these is listed.
abbrev pub AreListed : (ids roots : List TermId) → Type 0
AreListed ids [] = ⊤
AreListed ids (r ∷ rs) = IsListed ids (length ids) r.0 × AreListed ids rs

abbrev pub AreBelow : ℕ → List TermId → Type 0
AreBelow n [] = ⊤
AreBelow n (r ∷ rs) = (r.0 < n) × AreBelow n rs

-- For each of the first so many terms of the list there is a copy, in the place of the term in its store.
pub record AreCopied (g source : Graph) (leaves wanted : List TermId) (count : ℕ) (copies : List TermId) : Type 0 where
  pub room : length copies ≡ length source.nodes
  pub copy : (j : ℕ) → j < count → IsCopy g source leaves (id_at copies (id_at wanted j)) (id_at wanted j)

-- marks on the terms of a store
abbrev pub mark_at : List Bool → ℕ → Bool
mark_at ms k = slice_index_or ms k false

abbrev pub with_marks : List ℕ → List Bool → List Bool
with_marks [] ms = ms
with_marks (k ∷ ks) ms = with_marks ks (slice_set ms k true)

abbrev pub AllMarked : List Bool → List TermId → Type 0
AllMarked ms [] = ⊤
AllMarked ms (r ∷ rs) = (mark_at ms r.0 ≡ true) × AllMarked ms rs

-- marked terms before a place
abbrev pub AllMarkedBelow : List Bool → ℕ → List ℕ → Type 0
AllMarkedBelow ms n [] = ⊤
AllMarkedBelow ms n (k ∷ ks) = (k < n) × (mark_at ms k ≡ true) × AllMarkedBelow ms n ks

-- the operands of each marked term from a place on are marked
abbrev pub AreMarkedFrom : Graph → List Bool → ℕ → Type 0
AreMarkedFrom g ms from = (m : ℕ) → m < length g.nodes → from ≤ m → mark_at ms m ≡ true → (n : Node) → slice_get g.nodes m ≡ Some n → AllMarkedBelow ms m (operands_of n)
