-- What stands in the new store for a term of the old one.
use Rattle.std.specs.Prelude.{◌≡◌, ℕ, ◌+◌, ◌<◌, ◌≤◌, ◌^◌, ⊤, List, [], ◌∷◌, length, Option, Some, None, slice_get, slice_index, slice_index_or, IsSome}
use Rattle.wb_values.specs.Value.{Sort, truth, word, memory, Entries, Value, number, as_words, Valuation}
use Rattle.model_meaning.specs.Term.{Term, sort_of, val}
use Rattle.wb_terms.specs.declared.nodes.TermId.{TermId}
use Rattle.wb_terms.specs.declared.nodes.Node.{Node}
use Rattle.wb_terms.specs.declared.nodes.Node.TheVariants.{Name, Truth, Const, Not, And, Or, Xor, Neg, Add, Sub, Mul, Shl, Lshr, Ashr, Eq, Ult, Ule, Slt, Sle, Concat, Extract, Zext, Sext, Ite, Load, Store}
use Rattle.wb_terms.specs.Graph.{Graph, tree, operands_of}
use Rattle.wb_terms.proofs.ValueSorts.{NamesFit}
use Rattle.ob_mem.specs.declared.words.MemoryWord.{MemoryWord}
use Rattle.ob_mem.specs.Words.{entry_at, word_count, word_width}
use Rattle.ob_mem.specs.Spread.{IsSpread}
use Rattle.ob_mem.specs.Rows.{IsPlain}

-- The term of the new store is of the sort, no memory stands in it, and its value is a meaning wherever the memories are spread.
pub record Means (es : Entries Sort) (rs : List MemoryWord) (h : Graph) (id : ℕ) (s : Sort) (m : Valuation → Value) : Type 0 where
  pub plain : IsPlain h id s
  pub value : (v w : Valuation) → IsSpread es h.names rs v w → val (tree h id) w ≡ m v

-- Of a truth value or a word there is one term with the same value; of a memory there are terms for its words, from a first one on.
abbrev pub IsImageOf : Entries Sort → List MemoryWord → Graph → (id : ℕ) → Option Sort → (Valuation → Value) → Type 0
IsImageOf es rs h id (Some (memory a d)) m = (k : ℕ) → k < 2 ^ a → Means es rs h (id + k) (word d) (λ v. number (slice_index (as_words (m v)) k))
IsImageOf es rs h id (Some s) m = Means es rs h id s m
IsImageOf es rs h id None m = ⊥

pub record IsImage (es : Entries Sort) (rs : List MemoryWord) (h : Graph) (id : ℕ) (t : Term) : Type 0 where
  pub fits : (v w : Valuation) → IsSpread es h.names rs v w → NamesFit v t
  pub image : IsImageOf es rs h id (sort_of t) (val t)

-- the id that is there, or another one
abbrev pub id_or : Option TermId → TermId → TermId
id_or (Some id) d = id
id_or None d = d

-- A term of the old store has its image.
abbrev pub HasImage : Entries Sort → List MemoryWord → Graph → Graph → (ℕ → Option TermId) → ℕ → Type 0
HasImage es rs g h images k = IsSome (images k) × ((d : TermId) → IsImage es rs h (id_or (images k) d).0 (tree g k))

-- each of the operands has its image
abbrev pub Operands : Entries Sort → List MemoryWord → Graph → Graph → (ℕ → Option TermId) → List ℕ → Type 0
Operands es rs g h is [] = ⊤
Operands es rs g h is (k ∷ ks) = HasImage es rs g h is k × Operands es rs g h is ks

-- there is an image for each of the terms
abbrev pub AreThere : (ℕ → Option TermId) → List ℕ → Type 0
AreThere is [] = ⊤
AreThere is (k ∷ ks) = IsSome (is k) × AreThere is ks

-- each operand of a term of the old store has its image
abbrev pub HaveImages : Graph → List MemoryWord → Graph → (ℕ → Option TermId) → ℕ → Type 0
HaveImages g rs h is id = (n : Node) → slice_get g.nodes id ≡ Some n → Operands g.names rs g h is (operands_of n)

-- The name at a place of the new table is that of the word at an address of a memory.
pub record HasWord (es new : Entries Sort) (rs : List MemoryWord) (j k place : ℕ) : Type 0 where
  pub below : place < length new
  pub sort : (entry_at new place).1 ≡ word (word_width (entry_at es j).1)
  pub value : (v w : Valuation) → IsSpread es new rs v w → w (entry_at new place).0 ≡ number (slice_index (as_words (v (entry_at es j).0)) k)

-- Each memory has names for its words, from the place in `firsts` on.
pub record HasFirsts (es new : Entries Sort) (rs : List MemoryWord) (firsts : List ℕ) : Type 0 where
  pub same : (k : ℕ) → k < length es → entry_at new k ≡ entry_at es k
  pub more : length es ≤ length new
  pub room : length firsts ≡ length es
  pub words : (j k : ℕ) → j < length es → k < word_count (entry_at es j).1 → HasWord es new rs j k (slice_index_or firsts j 0 + k)

abbrev pub IsNoMemory : Option Sort → Type 0
IsNoMemory (Some (memory a d)) = ⊥
IsNoMemory _ = ⊤

-- the id in the new store of an operand
abbrev pub image_of : (ℕ → Option TermId) → TermId → TermId
image_of images x = id_or (images x.0) x

-- the node over the images of its operands
abbrev pub renamed : (ℕ → Option TermId) → Node → Node
renamed is (Name n) = Name n
renamed is (Truth b) = Truth b
renamed is (Const w x) = Const w x
renamed is (Not x) = Not (image_of is x)
renamed is (And x y) = And (image_of is x) (image_of is y)
renamed is (Or x y) = Or (image_of is x) (image_of is y)
renamed is (Xor x y) = Xor (image_of is x) (image_of is y)
renamed is (Neg x) = Neg (image_of is x)
renamed is (Add x y) = Add (image_of is x) (image_of is y)
renamed is (Sub x y) = Sub (image_of is x) (image_of is y)
renamed is (Mul x y) = Mul (image_of is x) (image_of is y)
renamed is (Shl x y) = Shl (image_of is x) (image_of is y)
renamed is (Lshr x y) = Lshr (image_of is x) (image_of is y)
renamed is (Ashr x y) = Ashr (image_of is x) (image_of is y)
renamed is (Eq x y) = Eq (image_of is x) (image_of is y)
renamed is (Ult x y) = Ult (image_of is x) (image_of is y)
renamed is (Ule x y) = Ule (image_of is x) (image_of is y)
renamed is (Slt x y) = Slt (image_of is x) (image_of is y)
renamed is (Sle x y) = Sle (image_of is x) (image_of is y)
renamed is (Concat x y) = Concat (image_of is x) (image_of is y)
renamed is (Extract h l x) = Extract h l (image_of is x)
renamed is (Zext n x) = Zext n (image_of is x)
renamed is (Sext n x) = Sext n (image_of is x)
renamed is (Ite c x y) = Ite (image_of is c) (image_of is x) (image_of is y)
renamed is (Load m i) = Load (image_of is m) (image_of is i)
renamed is (Store m i x) = Store (image_of is m) (image_of is i) (image_of is x)

-- the memory and the address of a load
abbrev pub load_parts : Node → Option (TermId × TermId)
load_parts (Load m i) = Some (m, i)
load_parts _ = None

-- the number of a constant word
abbrev pub const_part : Node → Option ℕ
const_part (Const w x) = Some x
const_part _ = None
