-- How the tables at the start are filled, name after name.
use Rattle.std.specs.Prelude.{◌≡◌, ◌&&◌, ◌<◌, ◌^◌, ℕ, suc, Bool, false, cond, List, [], ◌∷◌, length, slice_index, bit_and, Some}
use Rattle.wb_values.specs.Value.{Name, same_name, Sort, word, memory, number, words, Valuation}
use Rattle.model_meaning.specs.Term.{val}
use Rattle.verilog_meaning.specs.Expression.{Object, Scope, object_width, is_memory}
use Rattle.verilog_meaning.specs.Register.{is_set}
use Rattle.wb_terms.specs.Graph.{Graph, tree}
use Rattle.v_operators.specs.Meaning.{Grows, IsOfSort, HasNumber}
use Rattle.v_lower.specs.Lowered.{Images, IsSortOf}
use Rattle.v_registers.specs.Registers.{Counted}
use Rattle.v_elab.specs.Kept.{named_at, IsMasked}

-- where the term of a name comes from: the name at a place of the store with masks, the name itself, or nothing (then it is 0)
pub data Origin : Type 0 where
  kept : (place : ℕ) → (masks : List ℕ) → Origin
  given : (place : ℕ) → Origin
  unset : Origin

-- The term is that of the name at a place of the store.
pub record IsNamed (o : Object) (g : Graph) (place id : ℕ) : Type 0 where
  pub sort : Sort
  pub of_object : IsSortOf o sort
  pub is_sort : (named_at g place).1 ≡ sort
  pub of_sort : IsOfSort g id sort
  pub same : (p : Valuation) → val (tree g id) p ≡ p (named_at g place).0

-- The term is 0.
pub record IsUnset (o : Object) (g : Graph) (id : ℕ) : Type 0 where
  pub plain : is_memory o ≡ false
  pub of_sort : IsOfSort g id (word (object_width o))
  pub zero : (p : Valuation) → val (tree g id) p ≡ number 0

abbrev pub IsPut : Object → Graph → Origin → ℕ → Type 0
IsPut o g (kept place masks) id = IsMasked o masks g place id
IsPut o g (given place) id = IsNamed o g place id
IsPut o g unset id = IsUnset o g id

-- a name, and where its terms in the two tables come from
pub record Row : Type 0 where
  pub of_name : Name
  pub origin : Origin
  pub next_origin : Origin

-- The name was given terms in both tables.
pub record IsEntered (s : Scope) (r : Row) (a n : Images) (g : Graph) (b k : Images) (h : Graph) : Type 0 where
  pub grows : Grows g h
  pub id : ℕ
  pub next_id : ℕ
  pub table : (x : Name) → b x ≡ cond (same_name r.of_name x) (Some id) (a x)
  pub next : (x : Name) → k x ≡ cond (same_name r.of_name x) (Some next_id) (n x)
  pub is_put : IsPut (s r.of_name) h r.origin id
  pub next_is_put : IsPut (s r.of_name) h r.next_origin next_id

-- one name after the other
abbrev pub AreEntered : Scope → List Row → (a n : Images) → Graph → (b k : Images) → Graph → Type 0
AreEntered s [] a n g b k h = (a ≡ b) × (n ≡ k) × (g ≡ h)
AreEntered s (r ∷ rs) a n g b k h = (c : Images) × (l : Images) × (i : Graph) × IsEntered s r a n g c l i × AreEntered s rs c l i b k h

-- registers from a place of the store on
abbrev pub register_rows : ℕ → List Counted → List Row
register_rows p [] = []
register_rows p (c ∷ cs) = record { of_name = c.of_name; origin = kept p c.masks; next_origin = kept p c.masks } ∷ register_rows (suc p) cs

-- inputs
abbrev pub input_rows : ℕ → List Name → List Row
input_rows p [] = []
input_rows p (n ∷ ns) = record { of_name = n; origin = given p; next_origin = unset } ∷ input_rows (suc p) ns

-- what nothing is given to from outside
abbrev pub other_rows : List Name → List Row
other_rows [] = []
other_rows (n ∷ ns) = record { of_name = n; origin = unset; next_origin = unset } ∷ other_rows ns

-- ---- words with masks

-- The term is a number of w bits with these bits.
pub record HasBits (g : Graph) (id w : ℕ) (p : Valuation) (bits : ℕ → Bool) : Type 0 where
  pub number : ℕ
  pub has : HasNumber g id w p number
  pub bits_are : (b : ℕ) → is_set number b ≡ bits b

-- The term is what a name stands for, a number of w bits, cut to a mask.
pub record IsWordKept (g : Graph) (n : Name) (w mask id : ℕ) : Type 0 where
  pub of_sort : IsOfSort g id (word w)
  pub value : (p : Valuation) (x : ℕ) → p n ≡ number x → x < 2 ^ w → HasBits g id w p (λ b. is_set x b && is_set mask b)

-- The term's words are those of a memory, the first k of them cut to their masks.
pub record AreCut (g : Graph) (id w : ℕ) (p : Valuation) (masks xs : List ℕ) (k : ℕ) : Type 0 where
  pub now : List ℕ
  pub is_worth : val (tree g id) p ≡ words now
  pub long : length now ≡ length xs
  pub narrow : (j : ℕ) → slice_index now j < 2 ^ w
  pub cut : (j b : ℕ) → j < k → is_set (slice_index now j) b ≡ (is_set (slice_index xs j) b && is_set (slice_index masks j) b)
  pub rest : (j : ℕ) → (j < k → ⊥) → slice_index now j ≡ slice_index xs j

pub record IsCut (g : Graph) (n : Name) (a w : ℕ) (masks : List ℕ) (k id : ℕ) : Type 0 where
  pub of_sort : IsOfSort g id (memory a w)
  pub value : (p : Valuation) (xs : List ℕ) → p n ≡ words xs → length xs ≡ 2 ^ a → ((j : ℕ) → slice_index xs j < 2 ^ w) → AreCut g id w p masks xs k

-- The term's words are these, the one at an address cut to a mask.
pub record IsOneCut (g : Graph) (id w : ℕ) (p : Valuation) (xs : List ℕ) (address mask : ℕ) : Type 0 where
  pub now : List ℕ
  pub is_worth : val (tree g id) p ≡ words now
  pub long : length now ≡ length xs
  pub narrow : (j : ℕ) → slice_index now j < 2 ^ w
  pub cut : (b : ℕ) → is_set (slice_index now address) b ≡ (is_set (slice_index xs address) b && is_set mask b)
  pub rest : (j : ℕ) → (j ≡ address → ⊥) → slice_index now j ≡ slice_index xs j

-- The term of the second store is what a mask keeps of a word of a memory of the first.
pub record IsWordPart (g h : Graph) (m w address mask id : ℕ) : Type 0 where
  pub of_sort : IsOfSort h id (word w)
  pub value : (p : Valuation) (xs : List ℕ) → val (tree g m) p ≡ words xs → slice_index xs address < 2 ^ w → HasNumber h id w p (bit_and (slice_index xs address) mask)

-- The term of the second store is the memory m of the first with one word cut to a mask, where another memory has the same word there.
pub record IsWordCut (g h : Graph) (whole m a w address mask id : ℕ) : Type 0 where
  pub of_sort : IsOfSort h id (memory a w)
  pub value : (p : Valuation) (ys xs : List ℕ) → val (tree g whole) p ≡ words ys → slice_index ys address ≡ slice_index xs address → val (tree g m) p ≡ words xs
      → length xs ≡ 2 ^ a → ((j : ℕ) → slice_index xs j < 2 ^ w) → IsOneCut h id w p xs address mask
