-- What is known of the parts of memories by their names: which nodes they are, and that the words over which a word stands have names.
use Rattle.std.proofs.Common.{◌≡◌, ℕ, zero, suc, ◌+◌, ◌<◌, Bool, true, false, cond, not, ◌&&◌, ◌⊎◌, inl, inr, List, [], ◌∷◌, ◌++◌, length, drop, Some, slice_get, refl, sym, ◌∙◌, ap, subst, arith}
use Rattle.std.specs.Prelude.{slice_index_or}
use Rattle.std.specs.String.{string_bytes}
use Rattle.std.proofs.lemmas.Bool.{cases_lt, false≢true, and_parts}
use Rattle.std.proofs.lemmas.Option.{same_Some, none-some, slice_get_within}
use Rattle.wb_values.specs.Value.{Name}
use Rattle.wb_terms.specs.declared.nodes.NameId.{NameId}
use Rattle.wb_terms.specs.declared.nodes.TermId.{TermId}
use Rattle.wb_terms.specs.declared.nodes.Node.{Node}
use Rattle.wb_terms.specs.declared.nodes.Node.TheVariants.{Name as Named, Load}
use Rattle.wb_terms.specs.Graph.{Graph, AllBelow, operands_of}
use Rattle.emitted_modules.specs.Nodes.{node_at, memories_of, is_part, word_name}
use Rattle.emitted_modules.specs.Kept.{IsOrdered}
use Rattle.emitted_names.specs.declared.words.PartName.{PartName}
use Rattle.emitted_names.specs.Parts.{is_name, is_other_part, parts_of, named_by, parts_named, IsAmongParts, words_at, AreWordNames}
use Rattle.emitted_names.proofs.PartMarks.{Among, memory_below, its_own_part, part_of_part}
use Rattle.emitted_names.proofs.PartLists.{named_here}
use Rattle.emitted_trees.specs.Words.{HasWord, HaveWords, HasLoadedWord}

-- ---- what stands among the parts

among_left : (k : ℕ) (xs ys : List ℕ) → Among k xs → Among k (xs ++ ys)
among_left k [] ys h = absurd h
among_left k (x ∷ xs) ys (inl e) = inl e
among_left k (x ∷ xs) ys (inr h) = inr (among_left k xs ys h)

among_right : (k : ℕ) (xs ys : List ℕ) → Among k ys → Among k (xs ++ ys)
among_right k [] ys h = h
among_right k (x ∷ xs) ys h = inr (among_right k xs ys h)

among_either : (k : ℕ) (xs ys : List ℕ) → Among k (xs ++ ys) → Among k xs ⊎ Among k ys
among_either k [] ys h = inr h
among_either k (x ∷ xs) ys (inl e) = inl (inl e)
among_either k (x ∷ xs) ys (inr h) = by_cases (among_either k xs ys h)
  where
    by_cases : Among k xs ⊎ Among k ys → Among k (x ∷ xs) ⊎ Among k ys
    by_cases (inl a) = inl (inr a)
    by_cases (inr a) = inr a

among_one : (k : ℕ) (b : Bool) → b ≡ true → Among k (cond b (k ∷ []) [])
among_one k b e = subst (λ c. Among k (cond c (k ∷ []) [])) (sym e) (inl refl)

pub among_parts : (g : Graph) (m n k : ℕ) → k < n → is_other_part g m k ≡ true → Among k (parts_of g m n)
among_parts g m zero k l e = absurd (omega (arith, l))
among_parts g m (suc n) k l e = elim (cases_lt k n) [
  | inl low ↦ among_left k (parts_of g m n) (cond (is_other_part g m n) (n ∷ []) []) (among_parts g m n k low e)
  | inr high ↦
      let here : k ≡ n = omega (arith, l, high) in
      among_right k (parts_of g m n) (cond (is_other_part g m n) (n ∷ []) [])
      (subst (λ i. Among k (cond (is_other_part g m i) (i ∷ []) [])) here (among_one k (is_other_part g m k) e))
]

among_cond : (k i : ℕ) (b : Bool) → Among k (cond b (i ∷ []) []) → (i ≡ k) × (b ≡ true)
among_cond k i true (inl e) = (e, refl)
among_cond k i true (inr h) = absurd h
among_cond k i false h = absurd h

pub part_there : (g : Graph) (m n k : ℕ) → Among k (parts_of g m n) → (k < n) × (is_other_part g m k ≡ true)
part_there g m zero k h = absurd h
part_there g m (suc n) k h = by_cases (among_either k (parts_of g m n) (cond (is_other_part g m n) (n ∷ []) []) h) (part_there g m n k)
  where
    by_cases : Among k (parts_of g m n) ⊎ Among k (cond (is_other_part g m n) (n ∷ []) []) → (Among k (parts_of g m n) → (k < n) × (is_other_part g m k ≡ true))
        → (k < suc n) × (is_other_part g m k ≡ true)
    by_cases (inl a) more = let z = more a in (omega (arith, z.0), z.1)
    by_cases (inr a) more =
        let z = among_cond k n (is_other_part g m n) a in
        (omega (arith, z.0), subst (λ i. is_other_part g m i ≡ true) z.0 z.1)

-- ---- parts and their names

among_named : (name : ℕ → Name) (ps : List PartName) (ks : List ℕ) (k : ℕ) → parts_named ps ≡ named_by name ks → Among k ks → IsAmongParts k ps
among_named name ps [] k e h = absurd h
among_named name [] (x ∷ ks) k e h = cc
among_named name (p ∷ ps) (x ∷ ks) k e (inl q) =
    record { at = 0; within = omega arith; is = λ d. ap (λ (xs : List (ℕ × Name)). (slice_index_or xs 0 (0, [])).0) e ∙ q }
among_named name (p ∷ ps) (x ∷ ks) k e (inr h) =
    let r = among_named name ps ks k (ap (drop 1) e) h in
    record { at = suc r.at; within = omega (arith, r.within); is = r.is }

id_among : (name : ℕ → Name) (ps : List PartName) (ks : List ℕ) (i : ℕ) (p : PartName) → parts_named ps ≡ named_by name ks → slice_get ps i ≡ Some p → Among p.id.0 ks
id_among name [] ks i p e at = absurd (none-some p at)
id_among name (x ∷ ps) [] i p e at = cc
id_among name (x ∷ ps) (k ∷ ks) zero p e at =
    inl (sym (ap (λ (xs : List (ℕ × Name)). (slice_index_or xs 0 (0, [])).0) e) ∙ ap (λ (y : PartName). y.id.0) (same_Some x p at))
id_among name (x ∷ ps) (k ∷ ks) (suc i) p e at = inr (id_among name ps ks i p (ap (drop 1) e) at)

-- a part at a place of a list
pub record IsPartIn (g : Graph) (m n : ℕ) (name : ℕ → Name) (p : PartName) : Type 0 where
  pub among : Among p.id.0 (parts_of g m n)
  pub below : p.id.0 < n
  pub part : is_part g (suc m) m p.id.0 ≡ true
  pub called : string_bytes p.name ≡ name p.id.0

pub part_in : (g : Graph) (m n : ℕ) (name : ℕ → Name) (ps : List PartName) (i : ℕ) (p : PartName) → parts_named ps ≡ named_by name (parts_of g m n)
    → slice_get ps i ≡ Some p → IsPartIn g m n name p
part_in g m n name ps i p e at =
    let a = id_among name ps (parts_of g m n) i p e at in
    let z = part_there g m n p.id.0 a in
    record {
      among = a;
      below = z.0;
      part = (and_parts (not (is_name (node_at g p.id.0))) (is_part g (suc m) m p.id.0) z.1).1;
      called = named_here name ps (parts_of g m n) i p p.id.0 at (slice_get_within ps i p at) refl e;
    }

-- the ids of parts, place by place
pub id_at_place : (name : ℕ → Name) (ps : List PartName) (ks : List ℕ) (i : ℕ) (p : PartName) → parts_named ps ≡ named_by name ks → slice_get ps i ≡ Some p
    → slice_get ks i ≡ Some p.id.0
id_at_place name [] ks i p e at = absurd (none-some p at)
id_at_place name (x ∷ ps) [] i p e at = cc
id_at_place name (x ∷ ps) (k ∷ ks) zero p e at =
    ap Some (sym (ap (λ (xs : List (ℕ × Name)). (slice_index_or xs 0 (0, [])).0) e) ∙ ap (λ (y : PartName). y.id.0) (same_Some x p at))
id_at_place name (x ∷ ps) (k ∷ ks) (suc i) p e at = id_at_place name ps ks i p (ap (drop 1) e) at

pub as_many : (name : ℕ → Name) (ps : List PartName) (ks : List ℕ) → parts_named ps ≡ named_by name ks → length ps ≡ length ks
as_many name [] [] e = refl
as_many name [] (k ∷ ks) e = cc
as_many name (p ∷ ps) [] e = cc
as_many name (p ∷ ps) (k ∷ ks) e = ap suc (as_many name ps ks (ap (drop 1) e))

-- ---- words over words

no_name : (n : Node) → ((x : NameId) → n ≡ Named x → ⊥) → is_name n ≡ false
no_name (Named x) f = absurd (f x refl)
no_name _ f = refl

both_true : (n p : Bool) → n ≡ false → p ≡ true → (not n && p) ≡ true
both_true false true e h = refl
both_true false false e h = h
both_true true p e h = absurd (false≢true (sym e))

have_each : (g : Graph) (ps : List PartName) (ks : List ℕ) → ((k : ℕ) → Among k ks → HasWord g ps k) → HaveWords g ps ks
have_each g ps [] f = tt
have_each g ps (k ∷ ks) f = (f k (inl refl), have_each g ps ks (λ j h. f j (inr h)))

module _ (g : Graph) (ordered : IsOrdered g) (l : ℕ) (m i : TermId) (ps : List PartName) (low : l < length g.nodes) (is : node_at g l ≡ Load m i)
    (named : AreWordNames g l ps) where
  pub by_parts : parts_named ps ≡ named_by (word_name l) (parts_of g m.0 l)
  by_parts = named ∙ ap (λ n. named_by (word_name l) (words_at g l n)) is

  memory_low : m.0 < l
  memory_low = (subst (λ n. AllBelow l (operands_of n)) is (ordered l low)).0

  has_word : (k : ℕ) → k < l → is_part g (suc m.0) m.0 k ≡ true → HasWord g ps k
  has_word k less part = λ f.
      among_named (word_name l) ps (parts_of g m.0 l) k by_parts
      (among_parts g m.0 l k less (both_true (is_name (node_at g k)) (is_part g (suc m.0) m.0 k) (no_name (node_at g k) f) part))

  pub words_there : (k : ℕ) → k < l → is_part g (suc m.0) m.0 k ≡ true → HaveWords g ps (memories_of (node_at g k))
  words_there k less part =
      have_each g ps (memories_of (node_at g k)) (λ j h.
      let before : j < k = memory_below k (node_at g k) j (ordered k (omega (arith, less, low))) h in
      let q = memory_low in
      has_word j (omega (arith, before, less)) (part_of_part g ordered (suc m.0) m.0 k j (omega arith) (omega (arith, q, low)) part h))

  pub own_word : HasWord g ps m.0
  own_word = has_word m.0 memory_low (its_own_part g (suc m.0) m.0 (omega arith))

pub loaded_there : (g : Graph) (l : ℕ) (ps : List PartName) → IsOrdered g → l < length g.nodes → AreWordNames g l ps → HasLoadedWord g ps (node_at g l)
loaded_there g l ps ordered low named = by_node (node_at g l) refl
  where
    by_node : (n : Node) → node_at g l ≡ n → HasLoadedWord g ps n
    by_node (Load m i) e = own_word g ordered l m i ps low e named
    by_node _ e = tt
