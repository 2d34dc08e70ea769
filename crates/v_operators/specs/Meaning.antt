-- Terms of a store: their sorts, and what they are worth under an environment.
use Rattle.std.specs.Prelude.{◌≡◌, ℕ, ◌<◌, ◌^◌, Bool, cond, List, ◌++◌, length, Some}
use Rattle.wb_values.specs.Value.{Sort, truth, word, truth_value, number, Valuation}
use Rattle.model_meaning.specs.Term.{Term, val, sort_of}
use Rattle.wb_terms.specs.Graph.{Graph, tree, trees_of}
use Rattle.wb_terms.specs.declared.nodes.Node.{Node}

-- The second store has the names and the terms of the first, node by node, and perhaps further terms after them.
pub record Grows (g h : Graph) : Type 0 where
  pub names : h.names ≡ g.names
  pub added : List Node
  pub nodes : h.nodes ≡ g.nodes ++ added
  pub further : List Term
  pub trees : trees_of h ≡ trees_of g ++ further

-- The store has a term with this id, of this sort.
pub record IsOfSort (g : Graph) (id : ℕ) (s : Sort) : Type 0 where
  pub below : id < length g.nodes
  pub sort : sort_of (tree g id) ≡ Some s

-- Under the environment the term is worth this number of w bits, and this truth value.
pub record HasNumber (g : Graph) (id w : ℕ) (p : Valuation) (x : ℕ) : Type 0 where
  pub value : val (tree g id) p ≡ number x
  pub fits : x < 2 ^ w

pub record HasTruth (g : Graph) (id : ℕ) (p : Valuation) (b : Bool) : Type 0 where
  pub value : val (tree g id) p ≡ truth_value b

-- The term of the second store is a word of w bits. Its number is made of that of a term of the first, of u bits.
pub record Makes (g h : Graph) (x u id w : ℕ) (f : ℕ → ℕ) : Type 0 where
  pub of_sort : IsOfSort h id (word w)
  pub value : (p : Valuation) (a : ℕ) → HasNumber g x u p a → HasNumber h id w p (f a)

-- The same of two terms, of u and v bits.
pub record Joins (g h : Graph) (x u y v id w : ℕ) (f : ℕ → ℕ → ℕ) : Type 0 where
  pub of_sort : IsOfSort h id (word w)
  pub value : (p : Valuation) (a b : ℕ) → HasNumber g x u p a → HasNumber g y v p b → HasNumber h id w p (f a b)

-- The term of the second store is a truth value, which is made of numbers of terms of the first.
pub record Tests (g h : Graph) (x u id : ℕ) (f : ℕ → Bool) : Type 0 where
  pub of_sort : IsOfSort h id truth
  pub value : (p : Valuation) (a : ℕ) → HasNumber g x u p a → HasTruth h id p (f a)

pub record Compares (g h : Graph) (x y u id : ℕ) (f : ℕ → ℕ → Bool) : Type 0 where
  pub of_sort : IsOfSort h id truth
  pub value : (p : Valuation) (a b : ℕ) → HasNumber g x u p a → HasNumber g y u p b → HasTruth h id p (f a b)

-- The term of the second store is a word of w bits. Its number is made of the truth value of a term of the first.
pub record Counts (g h : Graph) (c id w : ℕ) (f : Bool → ℕ) : Type 0 where
  pub of_sort : IsOfSort h id (word w)
  pub value : (p : Valuation) (b : Bool) → HasTruth g c p b → HasNumber h id w p (f b)

-- The term of the second store is a truth value, which is made of two of the first.
pub record Connects (g h : Graph) (x y id : ℕ) (f : Bool → Bool → Bool) : Type 0 where
  pub of_sort : IsOfSort h id truth
  pub value : (p : Valuation) (a b : Bool) → HasTruth g x p a → HasTruth g y p b → HasTruth h id p (f a b)

-- The term of the second store is one of two words of the first, by a truth value.
pub record Chooses (g h : Graph) (c x y w id : ℕ) : Type 0 where
  pub of_sort : IsOfSort h id (word w)
  pub value : (p : Valuation) (t : Bool) (a b : ℕ) → HasTruth g c p t → HasNumber g x w p a → HasNumber g y w p b → HasNumber h id w p (cond t a b)
