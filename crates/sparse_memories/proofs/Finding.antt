-- The words other than 0 of a list in two parts, and of zeros.
use Rattle.std.proofs.Common.{◌≡◌, ◌∙◌, ℕ, zero, suc, ◌+◌, ◌^◌, Bool, true, false, cond, List, [], ◌∷◌, ◌++◌, length, refl, sym, ap, append_assoc, arith}
use Rattle.std.specs.Prelude.{replicate, ◌==◌}
use Rattle.std.proofs.lemmas.List.{append-nil}
use Rattle.sparse_memories.specs.declared.pool.Branch.{Branch}
use Rattle.sparse_memories.specs.declared.listing.SetWord.{SetWord}
use Rattle.sparse_memories.specs.Nodes.{Nodes, branch_at, words_at, zeros, set_words_from}
use Rattle.sparse_memories.proofs.Trees.{length-words}
use Rattle.sparse_memories.proofs.Storing.{words_by_halves}

one_more : (t : Bool) (x : SetWord) (l m r : List SetWord) → l ≡ m ++ r → cond t l (x ∷ l) ≡ cond t m (x ∷ m) ++ r
one_more true x l m r h = h
one_more false x l m r h = ap (λ (z : List SetWord). x ∷ z) h

next_address : (a n : ℕ) → suc a + n ≡ a + suc n
next_address a n = omega arith

set_words-append : (a : ℕ) (xs ys : List ℕ) → set_words_from a (xs ++ ys) ≡ set_words_from a xs ++ set_words_from (a + length xs) ys
set_words-append a [] ys =
    let e : a ≡ a + 0 = omega arith in
    ap (λ (n : ℕ). set_words_from n ys) e
set_words-append a (x ∷ xs) ys =
    one_more (x == 0) (record { address = a; word = x }) (set_words_from (suc a) (xs ++ ys)) (set_words_from (suc a) xs) (set_words_from (a + suc (length xs)) ys)
    (set_words-append (suc a) xs ys ∙ ap (λ (n : ℕ). set_words_from (suc a) xs ++ set_words_from n ys) (next_address a (length xs)))

none_set : (a n : ℕ) → set_words_from a (replicate n 0) ≡ []
none_set a zero = refl
none_set a (suc n) = none_set (suc a) n

-- Zeros add nothing.
pub listed_zeros : (p : Nodes) (l k z a : ℕ) (old : List SetWord) → k ≡ z → words_at p l z ≡ zeros l → old ≡ old ++ set_words_from a (words_at p l k)
listed_zeros p l k z a old e w =
    sym (append-nil old)
    ∙ ap (λ (x : List SetWord). old ++ x)
    (sym (ap (λ (x : List ℕ). set_words_from a x) (ap (λ (x : ℕ). words_at p l x) e ∙ w) ∙ none_set a (2 ^ l)))

-- The words other than 0 of the tree at a link, behind a list.
pub listed_halves : (p : Nodes) (h : Branch) (l b k a half c : ℕ) (old mid new : List SetWord) → h ≡ branch_at p k → l ≡ suc b → half ≡ 2 ^ b → c ≡ a + half
    → mid ≡ old ++ set_words_from a (words_at p b h.lower) → new ≡ mid ++ set_words_from c (words_at p b h.upper) → new ≡ old ++ set_words_from a (words_at p l k)
listed_halves p h l b k a half c old mid new i e f g m n =
    n
    ∙ ap (λ (z : List SetWord). z ++ set_words_from c (words_at p b h.upper)) m
    ∙ append_assoc old (set_words_from a (words_at p b h.lower)) (set_words_from c (words_at p b h.upper))
    ∙ ap (λ (z : List SetWord). old ++ z)
    (ap (λ (q : ℕ). set_words_from a (words_at p b h.lower) ++ set_words_from q (words_at p b h.upper)) at
    ∙ sym (set_words-append a (words_at p b h.lower) (words_at p b h.upper))
    ∙ ap (λ (z : List ℕ). set_words_from a z) (sym (words_by_halves p h l b k i e)))
  where
    at : c ≡ a + length (words_at p b h.lower)
    at = omega (arith, f, g, length-words p b h.lower)
