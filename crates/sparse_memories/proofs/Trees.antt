-- Laws of trees: zeros, the length of their words, and what one more node leaves.
use Rattle.std.proofs.Common.{◌≡◌, ◌∙◌, ℕ, zero, suc, ◌+◌, ◌-◌, ◌^◌, ◌<◌, ◌≤◌, List, [], ◌∷◌, ◌++◌, length, get_or, take, drop, refl, sym, ap, subst, lit<, arith}
use Rattle.std.specs.Prelude.{replicate}
use Rattle.std.proofs.Math.Nat.{pow-suc}
use Rattle.std.proofs.lemmas.List.{length-append, replicate-append-replicate, get_or_append_left, get_or_push, length_push, take-replicate, drop-replicate}
use Rattle.sparse_memories.specs.declared.pool.Branch.{Branch}
use Rattle.sparse_memories.specs.Nodes.{Nodes, Content, branch_at, words_at, IsTree, zeros, HasZeros, KeepsTrees}

pub double : (d : ℕ) → 2 ^ d + 2 ^ d ≡ 2 ^ suc d
double d = omega (arith, pow-suc 2 d)

pub doubled : (l b : ℕ) → l ≡ suc b → 2 ^ l ≡ 2 ^ b + 2 ^ b
doubled l b e = ap (λ (n : ℕ). 2 ^ n) e ∙ sym (double b)

pub two_halves : (d : ℕ) → zeros d ++ zeros d ≡ zeros (suc d)
two_halves d = replicate-append-replicate (2 ^ d) (2 ^ d) 0 ∙ ap (λ (n : ℕ). replicate n 0) (double d)

pub both : (a b x y : List ℕ) → a ≡ b → x ≡ y → a ++ x ≡ b ++ y
both a b x y e f = ap (λ (z : List ℕ). z ++ x) e ∙ ap (λ (z : List ℕ). b ++ z) f

-- Link 0 leads to zeros.
pub zero_tree : (p : Nodes) → HasZeros p → (d : ℕ) → IsTree p d 0
zero_tree p h zero = h.leaf
zero_tree p h (suc d) =
    (h.branch, subst (λ (k : ℕ). IsTree p d k) (sym h.lower) (zero_tree p h d), subst (λ (k : ℕ). IsTree p d k) (sym h.upper) (zero_tree p h d))

pub zero_words : (p : Nodes) → HasZeros p → (d : ℕ) → words_at p d 0 ≡ zeros d
zero_words p h zero = ap (λ (w : ℕ). w ∷ []) h.word
zero_words p h (suc d) =
    both (words_at p d (branch_at p 0).lower) (zeros d) (words_at p d (branch_at p 0).upper) (zeros d)
    (ap (λ (k : ℕ). words_at p d k) h.lower ∙ zero_words p h d) (ap (λ (k : ℕ). words_at p d k) h.upper ∙ zero_words p h d)
    ∙ two_halves d

-- In a pool of one branch and one leaf there are no other links.
only_link : (p : Nodes) → length p.branches ≡ 1 → length p.leaves ≡ 1 → (d k : ℕ) → IsTree p d k → k ≡ 0
only_link p b l zero k t = omega (arith, t, l)
only_link p b l (suc d) k t = omega (arith, t.0, b)

pub only_zeros : (p : Nodes) → HasZeros p → length p.branches ≡ 1 → length p.leaves ≡ 1 → (d k : ℕ) → IsTree p d k → words_at p d k ≡ zeros d
only_zeros p h b l d k t = ap (λ (x : ℕ). words_at p d x) (only_link p b l d k t) ∙ zero_words p h d

pub length-words : (p : Nodes) (d k : ℕ) → length (words_at p d k) ≡ 2 ^ d
length-words p zero k = refl
length-words p (suc d) k =
    length-append (words_at p d (branch_at p k).lower) (words_at p d (branch_at p k).upper)
    ∙ omega (arith, length-words p d (branch_at p k).lower, length-words p d (branch_at p k).upper, double d)

-- The halves of zeros.
pub front_zeros : (ws fs : List ℕ) (l b half : ℕ) → l ≡ suc b → half ≡ 2 ^ b → fs ≡ take half ws → ws ≡ zeros l → fs ≡ zeros b
front_zeros ws fs l b half e h f z =
    f
    ∙ ap (λ (x : List ℕ). take half x) z
    ∙ take-replicate half (2 ^ l) 0 (omega (arith, h, doubled l b e))
    ∙ ap (λ (n : ℕ). replicate n 0) h

pub back_zeros : (ws fs : List ℕ) (l b half : ℕ) → l ≡ suc b → half ≡ 2 ^ b → fs ≡ drop half ws → ws ≡ zeros l → fs ≡ zeros b
back_zeros ws fs l b half e h f z =
    let rest : 2 ^ l - half ≡ 2 ^ b = omega (arith, h, doubled l b e) in
    f
    ∙ ap (λ (x : List ℕ). drop half x) z
    ∙ drop-replicate half (2 ^ l) 0
    ∙ ap (λ (n : ℕ). replicate n 0) rest

-- A branch over two zeros is the one of zeros.
pub put_zeros : (s n : Content) (z x y r : ℕ) → z ≡ 0 → HasZeros s.nodes → x ≡ 0 → y ≡ 0
    → ((branch_at s.nodes z).lower ≡ x → (branch_at s.nodes z).upper ≡ y → (r ≡ z) × (n ≡ s)) → (r ≡ 0) × (n ≡ s)
put_zeros s n z x y r e h f g put =
    let t = put (ap (λ (k : ℕ). (branch_at s.nodes k).lower) e ∙ h.lower ∙ sym f) (ap (λ (k : ℕ). (branch_at s.nodes k).upper) e ∙ h.upper ∙ sym g) in
    (t.0 ∙ e, t.1)

-- A tree of some depth, by its halves.
pub halves : (p : Nodes) (l b k : ℕ) → l ≡ suc b → IsTree p l k → (k < length p.branches) × IsTree p b (branch_at p k).lower × IsTree p b (branch_at p k).upper
halves p l b k e t = subst (λ (x : ℕ). IsTree p x k) e t

pub half_words : (p : Nodes) (l b k : ℕ) → l ≡ suc b → words_at p l k ≡ words_at p b (branch_at p k).lower ++ words_at p b (branch_at p k).upper
half_words p l b k e = ap (λ (x : ℕ). words_at p x k) e

-- What each earlier node of a larger pool is.
record Extends (p q : Nodes) : Type 0 where
  more_branches : length p.branches ≤ length q.branches
  more_leaves : length p.leaves ≤ length q.leaves
  branches : (k : ℕ) → k < length p.branches → branch_at q k ≡ branch_at p k
  leaves : (k : ℕ) → k < length p.leaves → get_or q.leaves k 0 ≡ get_or p.leaves k 0

extended : (p q : Nodes) → Extends p q → (d k : ℕ) → IsTree p d k → IsTree q d k × (words_at q d k ≡ words_at p d k)
extended p q e zero k t = (omega (arith, t, e.more_leaves), ap (λ (w : ℕ). w ∷ []) (e.leaves k t))
extended p q e (suc d) k t =
    let b = e.branches k t.0 in
    let lower = extended p q e d (branch_at p k).lower t.1 in
    let upper = extended p q e d (branch_at p k).upper t.2 in (
      (
        omega (arith, t.0, e.more_branches),
        subst (λ (x : Branch). IsTree q d x.lower) (sym b) lower.0,
        subst (λ (x : Branch). IsTree q d x.upper) (sym b) upper.0,
      ),
      ap (λ (x : Branch). words_at q d x.lower ++ words_at q d x.upper) b
          ∙ both (words_at q d (branch_at p k).lower) (words_at p d (branch_at p k).lower) (words_at q d (branch_at p k).upper) (words_at p d (branch_at p k).upper) lower.1 upper.1,
    )

abbrev pub nodes : List Branch → List ℕ → Nodes
nodes bs ls = record { branches = bs; leaves = ls }

abbrev no_branch : Branch
no_branch = record { lower = 0; upper = 0 }

pub keeps_leaf : (bs : List Branch) (ls : List ℕ) (w : ℕ) (p : Nodes) → nodes bs ls ≡ p → KeepsTrees p (nodes bs (ls ++ w ∷ []))
keeps_leaf bs ls w p e = subst (λ (x : Nodes). KeepsTrees x (nodes bs (ls ++ w ∷ []))) e (extended (nodes bs ls) (nodes bs (ls ++ w ∷ [])) grown)
  where
    grown : Extends (nodes bs ls) (nodes bs (ls ++ w ∷ []))
    grown = record {
      more_branches = omega arith;
      more_leaves = omega (arith, length_push ls w);
      branches = λ k i. refl;
      leaves = λ k i. get_or_append_left ls (w ∷ []) 0 k i;
    }

pub keeps_branch : (bs : List Branch) (ls : List ℕ) (b : Branch) (p : Nodes) → nodes bs ls ≡ p → KeepsTrees p (nodes (bs ++ b ∷ []) ls)
keeps_branch bs ls b p e = subst (λ (x : Nodes). KeepsTrees x (nodes (bs ++ b ∷ []) ls)) e (extended (nodes bs ls) (nodes (bs ++ b ∷ []) ls) grown)
  where
    grown : Extends (nodes bs ls) (nodes (bs ++ b ∷ []) ls)
    grown = record {
      more_branches = omega (arith, length_push bs b);
      more_leaves = omega arith;
      branches = λ k i. get_or_append_left bs (b ∷ []) no_branch k i;
      leaves = λ k i. refl;
    }

pub new_branch : (bs cs : List Branch) (ls : List ℕ) (b : Branch) (p : Nodes) (k d : ℕ) → cs ≡ bs ++ b ∷ [] → nodes bs ls ≡ p → k ≡ length bs → IsTree p d b.lower → IsTree p d b.upper
    → IsTree (nodes cs ls) (suc d) k × (words_at (nodes cs ls) (suc d) k ≡ words_at p d b.lower ++ words_at p d b.upper)
new_branch bs cs ls b p k d f e i l u =
    subst (λ (x : List Branch). IsTree (nodes x ls) (suc d) k × (words_at (nodes x ls) (suc d) k ≡ words_at p d b.lower ++ words_at p d b.upper)) (sym f) made
  where
    at : branch_at (nodes (bs ++ b ∷ []) ls) k ≡ b
    at = get_or_push bs b no_branch k (sym i)

    lower : IsTree (nodes (bs ++ b ∷ []) ls) d b.lower × (words_at (nodes (bs ++ b ∷ []) ls) d b.lower ≡ words_at p d b.lower)
    lower = keeps_branch bs ls b p e d b.lower l

    upper : IsTree (nodes (bs ++ b ∷ []) ls) d b.upper × (words_at (nodes (bs ++ b ∷ []) ls) d b.upper ≡ words_at p d b.upper)
    upper = keeps_branch bs ls b p e d b.upper u

    made : IsTree (nodes (bs ++ b ∷ []) ls) (suc d) k × (words_at (nodes (bs ++ b ∷ []) ls) (suc d) k ≡ words_at p d b.lower ++ words_at p d b.upper)
    made = (
      (
        omega (arith, length_push bs b, i),
        subst (λ (x : Branch). IsTree (nodes (bs ++ b ∷ []) ls) d x.lower) (sym at) lower.0,
        subst (λ (x : Branch). IsTree (nodes (bs ++ b ∷ []) ls) d x.upper) (sym at) upper.0,
      ),
      ap (λ (x : Branch). words_at (nodes (bs ++ b ∷ []) ls) d x.lower ++ words_at (nodes (bs ++ b ∷ []) ls) d x.upper) at
          ∙ both (words_at (nodes (bs ++ b ∷ []) ls) d b.lower) (words_at p d b.lower) (words_at (nodes (bs ++ b ∷ []) ls) d b.upper) (words_at p d b.upper) lower.1 upper.1,
    )

-- Each tree of a new pool is zeros.
pub new_zeros : (bs : List Branch) (ls : List ℕ) → bs ≡ no_branch ∷ [] → ls ≡ 0 ∷ [] → (d k : ℕ) → IsTree (nodes bs ls) d k → words_at (nodes bs ls) d k ≡ zeros d
new_zeros bs ls e f =
    subst (λ (x : List Branch). (d k : ℕ) → IsTree (nodes x ls) d k → words_at (nodes x ls) d k ≡ zeros d) (sym e)
    (subst (λ (y : List ℕ). (d k : ℕ) → IsTree (nodes (no_branch ∷ []) y) d k → words_at (nodes (no_branch ∷ []) y) d k ≡ zeros d) (sym f)
    (only_zeros (nodes (no_branch ∷ []) (0 ∷ [])) (record { branch = lit< tt; leaf = lit< tt; lower = refl; upper = refl; word = refl }) refl refl))

-- What stands first in a pool, alone.
pub first_stays : (bs : List Branch) (ls : List ℕ) → HasZeros (nodes bs ls) → HasZeros (nodes (take 1 bs) (take 1 ls))
first_stays [] ls h = absurd (no_first h.branch)
  where
    no_first : 0 < 0 → ⊥
    no_first l = omega (arith, l)
first_stays (b ∷ bs) [] h = absurd (no_first h.leaf)
  where
    no_first : 0 < 0 → ⊥
    no_first l = omega (arith, l)
first_stays (b ∷ bs) (w ∷ ls) h = record { branch = lit< tt; leaf = lit< tt; lower = h.lower; upper = h.upper; word = h.word }

length-first : {A : Type 0} (xs : List A) → 0 < length xs → length (take 1 xs) ≡ 1
length-first [] l = absurd (no_first l)
  where
    no_first : 0 < 0 → ⊥
    no_first l = omega (arith, l)
length-first (x ∷ xs) l = refl

pub first_alone : (bs cs : List Branch) (ls ms : List ℕ) → HasZeros (nodes bs ls) → cs ≡ take 1 bs → ms ≡ take 1 ls
    → (d k : ℕ) → IsTree (nodes cs ms) d k → words_at (nodes cs ms) d k ≡ zeros d
first_alone bs cs ls ms h e f =
    subst (λ (x : List Branch). (d k : ℕ) → IsTree (nodes x ms) d k → words_at (nodes x ms) d k ≡ zeros d) (sym e)
    (subst (λ (y : List ℕ). (d k : ℕ) → IsTree (nodes (take 1 bs) y) d k → words_at (nodes (take 1 bs) y) d k ≡ zeros d) (sym f)
    (only_zeros (nodes (take 1 bs) (take 1 ls)) (first_stays bs ls h) (length-first bs h.branch) (length-first ls h.leaf)))
