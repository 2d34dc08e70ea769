-- Two trees have the same words where their halves have.
use Rattle.std.proofs.Common.{◌≡◌, ◌∙◌, ℕ, suc, ◌^◌, List, ◌++◌, length, take, drop, sym, ap}
use Rattle.std.proofs.lemmas.List.{take_at, drop_at}
use Rattle.sparse_memories.specs.declared.pool.Branch.{Branch}
use Rattle.sparse_memories.specs.Nodes.{Nodes, branch_at, words_at}
use Rattle.sparse_memories.proofs.Trees.{both, length-words}
use Rattle.sparse_memories.proofs.Storing.{words_by_halves}

first_parts : (a b x y : List ℕ) (n : ℕ) → length a ≡ n → length b ≡ n → a ++ x ≡ b ++ y → a ≡ b
first_parts a b x y n e f h = sym (take_at a x n e) ∙ ap (λ (z : List ℕ). take n z) h ∙ take_at b y n f

second_parts : (a b x y : List ℕ) (n : ℕ) → length a ≡ n → length b ≡ n → a ++ x ≡ b ++ y → x ≡ y
second_parts a b x y n e f h = sym (drop_at a x n e) ∙ ap (λ (z : List ℕ). drop n z) h ∙ drop_at b y n f

pub same_from_halves : (p q : Nodes) (g h : Branch) (l b j k : ℕ) → g ≡ branch_at p j → h ≡ branch_at q k → l ≡ suc b
    → words_at p b g.lower ≡ words_at q b h.lower → words_at p b g.upper ≡ words_at q b h.upper → words_at p l j ≡ words_at q l k
same_from_halves p q g h l b j k i m e x y =
    words_by_halves p g l b j i e
    ∙ both (words_at p b g.lower) (words_at q b h.lower) (words_at p b g.upper) (words_at q b h.upper) x y
    ∙ sym (words_by_halves q h l b k m e)

whole : (p q : Nodes) (g h : Branch) (l b j k : ℕ) → g ≡ branch_at p j → h ≡ branch_at q k → l ≡ suc b
    → words_at p l j ≡ words_at q l k → words_at p b g.lower ++ words_at p b g.upper ≡ words_at q b h.lower ++ words_at q b h.upper
whole p q g h l b j k i m e s = sym (words_by_halves p g l b j i e) ∙ s ∙ words_by_halves q h l b k m e

pub same_lower_halves : (p q : Nodes) (g h : Branch) (l b j k : ℕ) → g ≡ branch_at p j → h ≡ branch_at q k → l ≡ suc b
    → words_at p l j ≡ words_at q l k → words_at p b g.lower ≡ words_at q b h.lower
same_lower_halves p q g h l b j k i m e s =
    first_parts (words_at p b g.lower) (words_at q b h.lower) (words_at p b g.upper) (words_at q b h.upper) (2 ^ b) (length-words p b g.lower) (length-words q b h.lower)
    (whole p q g h l b j k i m e s)

pub same_upper_halves : (p q : Nodes) (g h : Branch) (l b j k : ℕ) → g ≡ branch_at p j → h ≡ branch_at q k → l ≡ suc b
    → words_at p l j ≡ words_at q l k → words_at p b g.upper ≡ words_at q b h.upper
same_upper_halves p q g h l b j k i m e s =
    second_parts (words_at p b g.lower) (words_at q b h.lower) (words_at p b g.upper) (words_at q b h.upper) (2 ^ b) (length-words p b g.lower) (length-words q b h.lower)
    (whole p q g h l b j k i m e s)
