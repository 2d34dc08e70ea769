-- Lemmas on terms that are to be evaluated: which are, that what is kept of them stays so, and that ever less is left to be done.
use Rattle.std.proofs.Common.{◌≡◌, ◌∙◌, ℕ, zero, suc, ◌+◌, ◌-◌, ◌<◌, ◌≤◌, Bool, true, false, cond, List, [], ◌∷◌, ◌++◌, length, get_or, set, take, Some, None, inl, inr, refl, sym, ap, subst, arith}
use Rattle.std.specs.Prelude.{◌==◌}
use Rattle.std.proofs.Math.ListN.{length-set}
use Rattle.std.proofs.lemmas.Bool.{cases_eq}
use Rattle.std.proofs.lemmas.Bool.Decides.{nat_tests}
use Rattle.std.proofs.lemmas.List.{get_or-set_same, get_or-set_other, take_more, take_all}
use Rattle.sparse_memories.specs.declared.pool.Memory.{Memory}
use Rattle.sparse_memories.specs.Nodes.{Content}
use Rattle.sparse_memories.specs.Memories.{Keeps}
use Rattle.wb_values.specs.Value as meaning
use Rattle.model_meaning.specs.Term.{sort_of}
use Rattle.wb_bits.specs.declared.Word.{Word}
use Rattle.wb_terms.specs.declared.nodes.TermId.{TermId}
use Rattle.wb_terms.specs.Graph.{Graph, tree, AllBelow}
use Rattle.wb_terms.specs.Held.{IsHeldBy}
use Rattle.term_evaluation.specs.Links.{value_at, link_at, IsLinkTo, IsWordHeld, IsLinkHeld, AreWordsHeld, AreLinksHeld}
use Rattle.term_evaluation.specs.Pending.{stamp_at, AreNotAfter, IsOpen, AreStamped, first_open_of, ArePending, IsFor, open_weight, last_bound, work_left, AreKept}
use Rattle.term_evaluation.proofs.LinkLemmas.{link_kept}

-- tests of numbers
is_same : (a b : ℕ) → a ≡ b → a == b ≡ true
is_same a b h = grind (arith, nat_tests)

is_other : (a b : ℕ) → (a ≡ b → ⊥) → a == b ≡ false
is_other a b h = grind (arith, nat_tests)

same_from : (a b : ℕ) → a == b ≡ true → a ≡ b
same_from a b h = grind (arith, nat_tests)

other_from : (a b : ℕ) → a == b ≡ false → a ≡ b → ⊥
other_from a b h e = grind (arith, nat_tests)

-- the first operand that is open
some_same : (x y : TermId) → Some x ≡ Some y → x ≡ y
some_same x y e = cc

none_some : (A : Type 0) (x : TermId) → Some x ≡ None → A
none_some A x e = cc

pub first_open : (ss : List ℕ) (t : ℕ) (ks : List ℕ) (n : ℕ) (o : TermId) → first_open_of ss t ks ≡ Some o → AllBelow n ks → (o.0 < n) × IsOpen ss t o.0
first_open ss t [] n o e b = none_some _ o (sym e)
first_open ss t (k ∷ ks) n o e b = by_test (stamp_at ss k == t) refl e (λ r. first_open ss t ks n o r b.1)
  where
    by_test : (c : Bool) → (stamp_at ss k == t) ≡ c → cond c (first_open_of ss t ks) (Some (record { 0 = k })) ≡ Some o → (first_open_of ss t ks ≡ Some o → (o.0 < n) × IsOpen ss t o.0) → (o.0 < n) × IsOpen ss t o.0
    by_test true q f r = r f
    by_test false q f r = subst (λ (x : TermId). (x.0 < n) × IsOpen ss t x.0) (some_same (record { 0 = k }) o f) (b.0, other_from (stamp_at ss k) t q)

pub none_open : (ss : List ℕ) (t : ℕ) (ks : List ℕ) → first_open_of ss t ks ≡ None → AreStamped ss t ks
none_open ss t [] e = tt
none_open ss t (k ∷ ks) e = by_test (stamp_at ss k == t) refl e (λ r. none_open ss t ks r)
  where
    by_test : (c : Bool) → (stamp_at ss k == t) ≡ c → cond c (first_open_of ss t ks) (Some (record { 0 = k })) ≡ None → (first_open_of ss t ks ≡ None → AreStamped ss t ks) → (stamp_at ss k ≡ t) × AreStamped ss t ks
    by_test true q f r = (same_from (stamp_at ss k) t q, r f)
    by_test false q f r = none_some _ (record { 0 = k }) f

pub below_more : (n m : ℕ) (ks : List ℕ) → n ≤ m → AllBelow n ks → AllBelow m ks
below_more n m [] h b = tt
below_more n m (k ∷ ks) h b = let l = b.0 in (omega (arith, l, h), below_more n m ks h b.1)

-- what is kept of operands that were evaluated
pub words_held : (g : Graph) (xs : List meaning.Value) (p : Content) (ws : List Word) (ls : List Memory) (ss : List ℕ) (t n : ℕ) (ks : List ℕ) → n ≤ length g.nodes → AreKept g xs p ws ls ss t → AllBelow n ks → AreStamped ss t ks → AreWordsHeld g xs ws ks
words_held g xs p ws ls ss t n [] h k b s = tt
words_held g xs p ws ls ss t n (i ∷ is) h k b s =
    let l = b.0 in
    ((k.3 i (omega (arith, l, h)) s.0).0, words_held g xs p ws ls ss t n is h k b.1 s.1)

pub links_held : (g : Graph) (xs : List meaning.Value) (p : Content) (ws : List Word) (ls : List Memory) (ss : List ℕ) (t n : ℕ) (ks : List ℕ) → n ≤ length g.nodes → AreKept g xs p ws ls ss t → AllBelow n ks → AreStamped ss t ks → AreLinksHeld g xs p ls ks
links_held g xs p ws ls ss t n [] h k b s = tt
links_held g xs p ws ls ss t n (i ∷ is) h k b s =
    let l = b.0 in
    ((k.3 i (omega (arith, l, h)) s.0).1, links_held g xs p ws ls ss t n is h k b.1 s.1)

-- A pool that keeps another one's memories keeps what is kept of terms.
pub kept_over : (g : Graph) (xs : List meaning.Value) (p q : Content) (ws : List Word) (ls : List Memory) (ss : List ℕ) (t : ℕ) → Keeps p q → AreKept g xs p ws ls ss t → AreKept g xs q ws ls ss t
kept_over g xs p q ws ls ss t f k =
    (k.0, k.1, k.2, λ i b e. let h = k.3 i b e in (h.0, link_kept p q (sort_of (tree g i)) (value_at g xs i) (link_at ls i) f h.1))

-- The same at values that are equal.
pub kept_at : (g : Graph) (xs ys : List meaning.Value) (p : Content) (ws : List Word) (ls : List Memory) (ss : List ℕ) (t : ℕ) → xs ≡ ys → AreKept g xs p ws ls ss t → AreKept g ys p ws ls ss t
kept_at g xs ys p ws ls ss t e h = subst (λ (zs : List meaning.Value). AreKept g zs p ws ls ss t) e h

-- one term more is evaluated
pub kept_more : (g : Graph) (xs : List meaning.Value) (p q : Content) (ws : List Word) (ls : List Memory) (ss : List ℕ) (t k : ℕ) (w : Word) (m : Memory) → Keeps p q → k < length g.nodes
    → IsHeldBy (sort_of (tree g k)) (value_at g xs k) w.width w.value → IsLinkTo q (sort_of (tree g k)) (value_at g xs k) m → AreKept g xs p ws ls ss t → AreKept g xs q (set ws k w) (set ls k m) (set ss k t) t
kept_more g xs p q ws ls ss t k w m f b hw hl old =
    let lw = old.0 in
    let ll = old.1 in
    let ls_ = old.2 in (
      omega (arith, lw, length-set ws k w),
      omega (arith, ll, length-set ls k m),
      omega (arith, ls_, length-set ss k t),
      λ i c e. elim (cases_eq k i) [
        | inl s ↦ subst (λ (j : ℕ). IsWordHeld g xs (set ws k w) j × IsLinkHeld g xs q (set ls k m) j) s (
          λ d. subst (λ (x : Word). IsHeldBy (sort_of (tree g k)) (value_at g xs k) x.width x.value) (sym (get_or-set_same ws k w d (omega (arith, b, lw)))) hw,
          subst (λ (x : Memory). IsLinkTo q (sort_of (tree g k)) (value_at g xs k) x) (sym (get_or-set_same ls k m (record { 0 = 0 }) (omega (arith, b, ll)))) hl,
        )
        | inr n ↦
            let before = old.3 i c (sym (get_or-set_other ss k i t 0 (λ s. n (sym s))) ∙ e) in (
              λ d. subst (λ (x : Word). IsHeldBy (sort_of (tree g i)) (value_at g xs i) x.width x.value) (sym (get_or-set_other ws k i w d (λ s. n (sym s)))) (before.0 d),
              subst (λ (x : Memory). IsLinkTo q (sort_of (tree g i)) (value_at g xs i) x) (sym (get_or-set_other ls k i m (record { 0 = 0 }) (λ s. n (sym s))))
                  (link_kept p q (sort_of (tree g i)) (value_at g xs i) (link_at ls i) f before.1),
            )
      ],
    )

-- no stamp is later than the time
pub past_set : (ss : List ℕ) (t k : ℕ) → k < length ss → AreNotAfter t ss → AreNotAfter t (set ss k t)
past_set ss t k b h i = elim (cases_eq k i) [
  | inl s ↦ let e : get_or (set ss k t) i 0 ≡ t = ap (λ (j : ℕ). get_or (set ss k t) j 0) (sym s) ∙ get_or-set_same ss k t 0 b in omega (arith, e)
  | inr n ↦ let e : get_or (set ss k t) i 0 ≡ get_or ss i 0 = get_or-set_other ss k i t 0 (λ s. n (sym s)) in let l : get_or ss i 0 ≤ t = h i in omega (arith, e, l)
]

-- the last pending term
pub split_last : (xs : List TermId) (top : TermId) → 0 < length xs → top ≡ get_or xs (length xs - 1) top → xs ≡ take (length xs - 1) xs ++ top ∷ []
split_last xs top b e =
    let n = length xs - 1 in
    let m : n + 1 ≡ length xs = omega (arith, b) in
    sym (take_all (n + 1) xs (omega (arith, m))) ∙ take_more xs n top (omega (arith, b)) ∙ ap (λ (x : TermId). take n xs ++ x ∷ []) (sym e)

pub top_below : (ss : List ℕ) (t n : ℕ) (xs : List TermId) (top : TermId) → ArePending ss t n (xs ++ top ∷ []) → (top.0 < n) × IsOpen ss t top.0
top_below ss t n [] top p = (p.0, p.1)
top_below ss t n (x ∷ xs) top p =
    let l = p.0 in
    let h = top_below ss t x.0 xs top p.2 in
    let k = h.0 in
    (omega (arith, l, k), h.1)

pub pending_more : (ss : List ℕ) (t n : ℕ) (xs : List TermId) (top o : TermId) → ArePending ss t n (xs ++ top ∷ []) → o.0 < top.0 → IsOpen ss t o.0 → ArePending ss t n ((xs ++ top ∷ []) ++ o ∷ [])
pending_more ss t n [] top o p l h = (p.0, p.1, (l, h, tt))
pending_more ss t n (x ∷ xs) top o p l h = (p.0, p.1, pending_more ss t x.0 xs top o p.2 l h)

pub pending_less : (ss : List ℕ) (t n : ℕ) (xs : List TermId) (top : TermId) → ArePending ss t n (xs ++ top ∷ []) → ArePending (set ss top.0 t) t n xs
pending_less ss t n [] top p = tt
pending_less ss t n (x ∷ xs) top p =
    let k = (top_below ss t x.0 xs top p.2).0 in
    let other : x.0 ≡ top.0 → ⊥ = λ e. absurd (omega (arith, e, k)) in
    (p.0, λ e. p.1 (sym (get_or-set_other ss top.0 x.0 t 0 other) ∙ e), pending_less ss t x.0 xs top p.2)

pub for_more : (ss : List ℕ) (t k : ℕ) (xs : List TermId) (top o : TermId) → IsFor ss t k (xs ++ top ∷ []) → IsFor ss t k ((xs ++ top ∷ []) ++ o ∷ [])
for_more ss t k [] top o h = h
for_more ss t k (x ∷ xs) top o h = h

pub for_less : (ss : List ℕ) (t k : ℕ) (xs : List TermId) (top : TermId) → top.0 < length ss → IsFor ss t k (xs ++ top ∷ []) → IsFor (set ss top.0 t) t k xs
for_less ss t k [] top b h = subst (λ (i : ℕ). stamp_at (set ss top.0 t) i ≡ t) h (get_or-set_same ss top.0 t 0 b)
for_less ss t k (x ∷ xs) top b h = h

-- what is left to be done
last_added : (xs : List TermId) (x : TermId) → last_bound (xs ++ x ∷ []) ≡ suc x.0
last_added [] x = refl
last_added (y ∷ []) x = refl
last_added (y ∷ z ∷ xs) x = last_added (z ∷ xs) x

last_at_most : (ss : List ℕ) (t n : ℕ) (xs : List TermId) → ArePending ss t n xs → last_bound xs ≤ n
last_at_most ss t n [] p = omega arith
last_at_most ss t n (x ∷ []) p = let l = p.0 in omega (arith, l)
last_at_most ss t n (x ∷ y ∷ xs) p =
    let l = p.0 in
    let h = last_at_most ss t x.0 (y ∷ xs) p.2 in
    omega (arith, l, h)

weight_past : (ss : List ℕ) (t m n k : ℕ) → n ≤ k → open_weight (set ss k t) t m n ≡ open_weight ss t m n
weight_past ss t m zero k h = refl
weight_past ss t m (suc n) k h =
    let other : n ≡ k → ⊥ = λ e. absurd (omega (arith, e, h)) in
    let one : cond (stamp_at (set ss k t) n == t) 0 m ≡ cond (stamp_at ss n == t) 0 m = ap (λ (i : ℕ). cond (i == t) 0 m) (get_or-set_other ss k n t 0 other) in
    let rest = weight_past ss t m n k (omega (arith, h)) in
    omega (arith, one, rest)

weight_less : (ss : List ℕ) (t m n k : ℕ) → k < n → k < length ss → IsOpen ss t k → open_weight (set ss k t) t m n + m ≡ open_weight ss t m n
weight_less ss t m zero k h b o = absurd (omega (arith, h))
weight_less ss t m (suc n) k h b o = elim (cases_eq k n) [
  | inl e ↦
      let now : cond (stamp_at (set ss k t) k == t) 0 m ≡ 0 = ap (λ (c : Bool). cond c 0 m) (is_same (stamp_at (set ss k t) k) t (get_or-set_same ss k t 0 b)) in
      let before : cond (stamp_at ss k == t) 0 m ≡ m = ap (λ (c : Bool). cond c 0 m) (is_other (stamp_at ss k) t o) in
      let rest = weight_past ss t m k k (omega arith) in
      subst (λ (i : ℕ). open_weight (set ss k t) t m (suc i) + m ≡ open_weight ss t m (suc i)) e (omega (arith, now, before, rest))
  | inr ne ↦
      let one : cond (stamp_at (set ss k t) n == t) 0 m ≡ cond (stamp_at ss n == t) 0 m = ap (λ (i : ℕ). cond (i == t) 0 m) (get_or-set_other ss k n t 0 (λ s. ne (sym s))) in
      let rest = weight_less ss t m n k (omega (arith, h, ne)) b o in
      omega (arith, one, rest)
]

pub less_by_push : (ss : List ℕ) (t n : ℕ) (xs : List TermId) (top o : TermId) → o.0 < top.0 → work_left ss t n ((xs ++ top ∷ []) ++ o ∷ []) < work_left ss t n (xs ++ top ∷ [])
less_by_push ss t n xs top o l =
    let after = last_added (xs ++ top ∷ []) o in
    let before = last_added xs top in
    omega (arith, after, before, l)

pub less_by_pop : (ss : List ℕ) (t n : ℕ) (xs : List TermId) (top : TermId) → n ≤ length ss → ArePending ss t n (xs ++ top ∷ []) → work_left (set ss top.0 t) t n xs < work_left ss t n (xs ++ top ∷ [])
less_by_pop ss t n xs top b p =
    let h = top_below ss t n xs top p in
    let l = h.0 in
    let weight = weight_less ss t (suc n) n top.0 l (omega (arith, l, b)) h.1 in
    let after = last_at_most (set ss top.0 t) t n xs (pending_less ss t n xs top p) in
    omega (arith, weight, after)

-- a term more is pending
pub record IsAfter (ss us : List ℕ) (t n : ℕ) (xs ys : List TermId) : Type 0 where
  pub pending : ArePending us t n ys
  pub first : (k : ℕ) → IsFor ss t k xs → IsFor us t k ys
  pub less : work_left us t n ys < work_left ss t n xs

pub after_push : (ss : List ℕ) (t n : ℕ) (xs ys before : List TermId) (top o : TermId) → xs ≡ before ++ top ∷ [] → ys ≡ xs ++ o ∷ [] → ArePending ss t n xs → (o.0 < top.0) × IsOpen ss t o.0 → IsAfter ss ss t n xs ys
after_push ss t n xs ys before top o e f p h =
    let g : ys ≡ (before ++ top ∷ []) ++ o ∷ [] = f ∙ ap (λ (zs : List TermId). zs ++ o ∷ []) e in
    let q = subst (λ (zs : List TermId). ArePending ss t n zs) e p in
    record {
      pending = subst (λ (zs : List TermId). ArePending ss t n zs) (sym g) (pending_more ss t n before top o q h.0 h.1);
      first = λ k w. subst (λ (zs : List TermId). IsFor ss t k zs) (sym g) (for_more ss t k before top o (subst (λ (zs : List TermId). IsFor ss t k zs) e w));
      less =
          subst (λ (zs : List TermId). work_left ss t n zs < work_left ss t n xs) (sym g)
          (subst (λ (zs : List TermId). work_left ss t n ((before ++ top ∷ []) ++ o ∷ []) < work_left ss t n zs) (sym e) (less_by_push ss t n before top o h.0));
    }

-- the last one was evaluated
pub after_pop : (ss us : List ℕ) (t n : ℕ) (xs ys before : List TermId) (top : TermId) → xs ≡ before ++ top ∷ [] → ys ≡ before → us ≡ set ss top.0 t → n ≤ length ss → ArePending ss t n xs → IsAfter ss us t n xs ys
after_pop ss us t n xs ys before top e f u b p =
    let q = subst (λ (zs : List TermId). ArePending ss t n zs) e p in
    let l = (top_below ss t n before top q).0 in
    subst (λ (vs : List ℕ). IsAfter ss vs t n xs ys) (sym u)
    (subst (λ (zs : List TermId). IsAfter ss (set ss top.0 t) t n xs zs) (sym f) (record {
      pending = pending_less ss t n before top q;
      first = λ k w. for_less ss t k before top (omega (arith, l, b)) (subst (λ (zs : List TermId). IsFor ss t k zs) e w);
      less = subst (λ (zs : List TermId). work_left (set ss top.0 t) t n before < work_left ss t n zs) (sym e) (less_by_pop ss t n before top b q);
    }))
