-- Words read, replaced and put together by halves.
use Rattle.std.proofs.Common.{◌≡◌, ◌∙◌, ℕ, suc, ◌-◌, ◌^◌, ◌<◌, ◌≤◌, List, ◌++◌, length, get_or, set, sym, ap, subst, append_assoc, arith}
use Rattle.std.proofs.lemmas.List.{get_or_append_left, get_or-append_right, set-append_left, set-append_right}
use Rattle.sparse_memories.specs.declared.pool.Branch.{Branch}
use Rattle.sparse_memories.specs.Nodes.{Nodes, Content, branch_at, words_at, IsTree, KeepsTrees}
use Rattle.sparse_memories.proofs.Trees.{both, halves, half_words, length-words}

-- The halves h of the tree at a link.
pub halves_of : (p : Nodes) (h : Branch) (l b k : ℕ) → h ≡ branch_at p k → l ≡ suc b → IsTree p l k → (k < length p.branches) × IsTree p b h.lower × IsTree p b h.upper
halves_of p h l b k i e t =
    subst (λ (x : Branch). (k < length p.branches) × IsTree p b x.lower × IsTree p b x.upper) (sym i) (halves p l b k e t)

pub words_by_halves : (p : Nodes) (h : Branch) (l b k : ℕ) → h ≡ branch_at p k → l ≡ suc b → words_at p l k ≡ words_at p b h.lower ++ words_at p b h.upper
words_by_halves p h l b k i e = half_words p l b k e ∙ ap (λ (x : Branch). words_at p b x.lower ++ words_at p b x.upper) (sym i)

pub read_lower : (p : Nodes) (h : Branch) (l b k a : ℕ) → h ≡ branch_at p k → l ≡ suc b → a < 2 ^ b → get_or (words_at p l k) a 0 ≡ get_or (words_at p b h.lower) a 0
read_lower p h l b k a i e n =
    ap (λ (x : List ℕ). get_or x a 0) (words_by_halves p h l b k i e)
    ∙ get_or_append_left (words_at p b h.lower) (words_at p b h.upper) 0 a (omega (arith, n, length-words p b h.lower))

pub read_upper : (p : Nodes) (h : Branch) (l b k a : ℕ) → h ≡ branch_at p k → l ≡ suc b → 2 ^ b ≤ a → get_or (words_at p l k) a 0 ≡ get_or (words_at p b h.upper) (a - 2 ^ b) 0
read_upper p h l b k a i e n =
    ap (λ (x : List ℕ). get_or x a 0) (words_by_halves p h l b k i e)
    ∙ get_or-append_right (words_at p b h.lower) (words_at p b h.upper) (2 ^ b) a 0 (length-words p b h.lower) n

set_lower : (p : Nodes) (h : Branch) (l b k a w : ℕ) → h ≡ branch_at p k → l ≡ suc b → a < 2 ^ b → set (words_at p l k) a w ≡ set (words_at p b h.lower) a w ++ words_at p b h.upper
set_lower p h l b k a w i e n =
    ap (λ (x : List ℕ). set x a w) (words_by_halves p h l b k i e)
    ∙ set-append_left (words_at p b h.lower) (words_at p b h.upper) a w (omega (arith, n, length-words p b h.lower))

set_upper : (p : Nodes) (h : Branch) (l b k a w : ℕ) → h ≡ branch_at p k → l ≡ suc b → 2 ^ b ≤ a → set (words_at p l k) a w ≡ words_at p b h.lower ++ set (words_at p b h.upper) (a - 2 ^ b) w
set_upper p h l b k a w i e n =
    ap (λ (x : List ℕ). set x a w) (words_by_halves p h l b k i e)
    ∙ set-append_right (words_at p b h.lower) (words_at p b h.upper) (2 ^ b) a w (length-words p b h.lower) n

-- What a call that puts a branch over two links says of its words.
abbrev pub PutsWords : Nodes → Nodes → ℕ → ℕ → ℕ → Type 0
PutsWords m n x y r = (d : ℕ) → IsTree m d x → IsTree m d y → words_at n (suc d) r ≡ words_at m d x ++ words_at m d y

-- The lower half x is new in m, the upper one is that of o.
pub lower_words : (o m n : Nodes) (h : Branch) (l b k x r a w : ℕ) → h ≡ branch_at o k → l ≡ suc b → a < 2 ^ b → IsTree o l k → KeepsTrees o m → IsTree m b x
    → words_at m b x ≡ set (words_at o b h.lower) a w → PutsWords m n x h.upper r → words_at n l r ≡ set (words_at o l k) a w
lower_words o m n h l b k x r a w i e below t kept new words put =
    let u = halves_of o h l b k i e t in
    let same = kept b h.upper u.2 in
    ap (λ (y : ℕ). words_at n y r) e
    ∙ put b new same.0
    ∙ both (words_at m b x) (set (words_at o b h.lower) a w) (words_at m b h.upper) (words_at o b h.upper) words same.1
    ∙ sym (set_lower o h l b k a w i e below)

-- The upper half x is new in m, the lower one is that of o.
pub upper_words : (o m n : Nodes) (h : Branch) (l b k x r a w : ℕ) → h ≡ branch_at o k → l ≡ suc b → 2 ^ b ≤ a → IsTree o l k → KeepsTrees o m → IsTree m b x
    → words_at m b x ≡ set (words_at o b h.upper) (a - 2 ^ b) w → PutsWords m n h.lower x r → words_at n l r ≡ set (words_at o l k) a w
upper_words o m n h l b k x r a w i e above t kept new words put =
    let u = halves_of o h l b k i e t in
    let same = kept b h.lower u.1 in
    ap (λ (y : ℕ). words_at n y r) e
    ∙ put b same.0 new
    ∙ both (words_at m b h.lower) (words_at o b h.lower) (words_at m b x) (set (words_at o b h.upper) (a - 2 ^ b) w) same.1 words
    ∙ sym (set_upper o h l b k a w i e above)

-- Where the word is there already, all stays.
pub same_lower : (o m n : Content) (h : Branch) (l b k x r a w : ℕ) → h ≡ branch_at o.nodes k → l ≡ suc b → a < 2 ^ b
    → (get_or (words_at o.nodes b h.lower) a 0 ≡ w → (x ≡ h.lower) × (m ≡ o))
    → ((branch_at m.nodes k).lower ≡ x → (branch_at m.nodes k).upper ≡ h.upper → (r ≡ k) × (n ≡ m))
    → get_or (words_at o.nodes l k) a 0 ≡ w → (r ≡ k) × (n ≡ o)
same_lower o m n h l b k x r a w i e below rest put q =
    let s = rest (sym (read_lower o.nodes h l b k a i e below) ∙ q) in
    let t = put (ap (λ (y : Content). (branch_at y.nodes k).lower) s.1 ∙ ap (λ (y : Branch). y.lower) (sym i) ∙ sym s.0)
    (ap (λ (y : Content). (branch_at y.nodes k).upper) s.1 ∙ ap (λ (y : Branch). y.upper) (sym i)) in
    (t.0, t.1 ∙ s.1)

pub same_upper : (o m n : Content) (h : Branch) (l b k x r a w : ℕ) → h ≡ branch_at o.nodes k → l ≡ suc b → 2 ^ b ≤ a
    → (get_or (words_at o.nodes b h.upper) (a - 2 ^ b) 0 ≡ w → (x ≡ h.upper) × (m ≡ o))
    → ((branch_at m.nodes k).lower ≡ h.lower → (branch_at m.nodes k).upper ≡ x → (r ≡ k) × (n ≡ m))
    → get_or (words_at o.nodes l k) a 0 ≡ w → (r ≡ k) × (n ≡ o)
same_upper o m n h l b k x r a w i e above rest put q =
    let s = rest (sym (read_upper o.nodes h l b k a i e above) ∙ q) in
    let t = put (ap (λ (y : Content). (branch_at y.nodes k).lower) s.1 ∙ ap (λ (y : Branch). y.lower) (sym i))
    (ap (λ (y : Content). (branch_at y.nodes k).upper) s.1 ∙ ap (λ (y : Branch). y.upper) (sym i) ∙ sym s.0) in
    (t.0, t.1 ∙ s.1)

-- The words of both halves behind a list.
pub added_halves : (p : Nodes) (h : Branch) (l b k : ℕ) (old mid new : List ℕ) → h ≡ branch_at p k → l ≡ suc b
    → mid ≡ old ++ words_at p b h.lower → new ≡ mid ++ words_at p b h.upper → new ≡ old ++ words_at p l k
added_halves p h l b k old mid new i e m n =
    n
    ∙ ap (λ (z : List ℕ). z ++ words_at p b h.upper) m
    ∙ append_assoc old (words_at p b h.lower) (words_at p b h.upper)
    ∙ ap (λ (z : List ℕ). old ++ z) (sym (words_by_halves p h l b k i e))
