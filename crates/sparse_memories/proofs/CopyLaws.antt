-- A table of copies at its start, over a pool that has grown, and with one more copy.
use Rattle.std.proofs.Common.{◌≡◌, ◌∙◌, ℕ, zero, suc, ◌<◌, List, length, set, refl, sym, ap, subst, inl, inr, ◌⊎◌, arith}
use Rattle.std.specs.Prelude.{replicate}
use Rattle.std.proofs.lemmas.Bool.{cases_eq}
use Rattle.std.proofs.lemmas.List.{length-replicate, length-set, get_or-set_same, get_or-set_other}
use Rattle.sparse_memories.specs.declared.pool.Branch.{Branch}
use Rattle.sparse_memories.specs.declared.copies.Copied.{Copied}
use Rattle.sparse_memories.specs.Nodes.{Nodes, branch_at, words_at, IsTree, KeepsTrees}
use Rattle.sparse_memories.specs.Copying.{AreCopies, copy_at}
use Rattle.sparse_memories.proofs.Trees.{both}
use Rattle.sparse_memories.proofs.Storing.{words_by_halves, PutsWords}

abbrev none : Copied
none = record { depth = 0; link = 0 }

none_at : (n k : ℕ) → copy_at (replicate n none) k ≡ none
none_at zero k = refl
none_at (suc n) zero = refl
none_at (suc n) (suc k) = none_at n k

pub no_copies : (cs : List Copied) (n : ℕ) (p q : Nodes) → cs ≡ replicate n none → n ≡ length p.branches → AreCopies cs p q
no_copies cs n p q e f =
    (ap (λ (x : List Copied). length x) e ∙ length-replicate n none ∙ f, λ k d h t. absurd (wrong k d h))
  where
    wrong : (k d : ℕ) → (copy_at cs k).depth ≡ suc d → ⊥
    wrong k d h =
        let z : (copy_at cs k).depth ≡ 0 = ap (λ (x : List Copied). (copy_at x k).depth) e ∙ ap (λ (x : Copied). x.depth) (none_at n k) in
        omega (arith, h, z)

pub copies_kept : (cs : List Copied) (p q r : Nodes) → AreCopies cs p q → KeepsTrees q r → AreCopies cs p r
copies_kept cs p q r c kept = (
  c.0,
  λ k d h t.
      let x = c.1 k d h t in
      let y = kept (suc d) (copy_at cs k).link x.0 in
      (y.0, y.1 ∙ x.1),
)

-- The tree of depth l at link j has its copy at link r.
pub copy_noted : (cs : List Copied) (p q : Nodes) (j l r : ℕ) → j < length p.branches → AreCopies cs p q → IsTree q l r → words_at q l r ≡ words_at p l j
    → AreCopies (set cs j (record { depth = l; link = r })) p q
copy_noted cs p q j l r below c t w =
    (length-set cs j (record { depth = l; link = r }) ∙ c.0, λ k d h u. each k d h u (cases_eq k j))
  where
    within : j < length cs
    within = omega (arith, below, c.0)

    each : (k d : ℕ) → (copy_at (set cs j (record { depth = l; link = r })) k).depth ≡ suc d → IsTree p (suc d) k → (k ≡ j) ⊎ (k ≡ j → ⊥)
        → IsTree q (suc d) (copy_at (set cs j (record { depth = l; link = r })) k).link
        × (words_at q (suc d) (copy_at (set cs j (record { depth = l; link = r })) k).link ≡ words_at p (suc d) k)
    each k d h u (inl e) =
        let at : copy_at (set cs j (record { depth = l; link = r })) k ≡ record { depth = l; link = r } =
        ap (λ (x : ℕ). copy_at (set cs j (record { depth = l; link = r })) x) e ∙ get_or-set_same cs j (record { depth = l; link = r }) none within in
        let depth : l ≡ suc d = sym (ap (λ (x : Copied). x.depth) at) ∙ h in
        subst (λ (x : Copied). IsTree q (suc d) x.link × (words_at q (suc d) x.link ≡ words_at p (suc d) k)) (sym at)
        (subst (λ (x : ℕ). IsTree q x r × (words_at q x r ≡ words_at p x k)) depth (t, w ∙ ap (λ (x : ℕ). words_at p l x) (sym e)))
    each k d h u (inr n) =
        let at : copy_at (set cs j (record { depth = l; link = r })) k ≡ copy_at cs k = get_or-set_other cs j k (record { depth = l; link = r }) none n in
        subst (λ (x : Copied). IsTree q (suc d) x.link × (words_at q (suc d) x.link ≡ words_at p (suc d) k)) (sym at)
        (c.1 k d (sym (ap (λ (x : Copied). x.depth) at) ∙ h) u)

pub copy_found : (cs : List Copied) (p q : Nodes) (c : Copied) (k l b : ℕ) → c ≡ copy_at cs k → c.depth ≡ l → l ≡ suc b → AreCopies cs p q → IsTree p l k
    → IsTree q l c.link × (words_at q l c.link ≡ words_at p l k)
copy_found cs p q c k l b i h e a t =
    let x = a.1 k b (sym (ap (λ (z : Copied). z.depth) i) ∙ h ∙ e) (subst (λ (y : ℕ). IsTree p y k) e t) in
    subst (λ (y : ℕ). IsTree q y c.link × (words_at q y c.link ≡ words_at p y k)) (sym e)
    (subst (λ (z : Copied). IsTree q (suc b) z.link × (words_at q (suc b) z.link ≡ words_at p (suc b) k)) (sym i) x)

-- A branch over the copies of both halves.
pub copied_words : (p o m s n : Nodes) (h : Branch) (l b k x y r : ℕ) → h ≡ branch_at p k → l ≡ suc b → IsTree o b x → words_at o b x ≡ words_at p b h.lower → KeepsTrees o m
    → IsTree m b y → words_at m b y ≡ words_at p b h.upper → s ≡ m → PutsWords s n x y r → words_at n l r ≡ words_at p l k
copied_words p o m s n h l b k x y r i e t lower kept u upper f put =
    let same = kept b x t in
    let there = subst (λ (z : Nodes). PutsWords z n x y r) f put in
    ap (λ (z : ℕ). words_at n z r) e
    ∙ there b same.0 u
    ∙ both (words_at m b x) (words_at p b h.lower) (words_at m b y) (words_at p b h.upper) (same.1 ∙ lower) upper
    ∙ sym (words_by_halves p h l b k i e)

pub copied_tree : (o m s n : Nodes) (l b x y r : ℕ) → l ≡ suc b → IsTree o b x → KeepsTrees o m → IsTree m b y → s ≡ m
    → ((d : ℕ) → IsTree s d x → IsTree s d y → IsTree n (suc d) r) → IsTree n l r
copied_tree o m s n l b x y r e t kept u f put =
    let there = subst (λ (z : Nodes). (d : ℕ) → IsTree z d x → IsTree z d y → IsTree n (suc d) r) f put in
    subst (λ (z : ℕ). IsTree n z r) (sym e) (there b (kept b x t).0 u)
