-- A walk over the parts of a target, the last first.
use Rattle.std.proofs.Common.{◌≡◌, ◌∙◌, ℕ, zero, suc, ◌+◌, ◌-◌, ◌<◌, ◌≤◌, refl, ap, sym, subst, Bool, true, false, List, [], ◌∷◌, ◌++◌, length, drop, get_or, arith, drop-cons, ltb-true}
use Rattle.std.specs.Prelude.{◌&&◌, ◌||◌, ◌↔◌, IsTrue}
use Rattle.std.specs.declared.vec.Vec.{Vec}
use Rattle.std.specs.declared.alloc.Global.{Global}
use Rattle.std.specs.Borrow.{Bor}
use Rattle.verilog_trees.specs.Syntax as pure
use Rattle.verilog_trees.specs.Syntax.{Targets, no_targets, target, joined}
use Rattle.verilog_meaning.specs.Expression.{Scope}
use Rattle.verilog_meaning.specs.Statement.{target_width, targets_width}
use Rattle.verilog_meaning.specs.Register.{is_set, is_bit_of, may_reach, may_reach_one}
use Rattle.verilog_designs.specs.Reads.{BitSet}
use Rattle.verilog_designs.specs.Dependence.{Bit, is_in}
use Rattle.v_syntax.specs.declared.tree.Target.{Target, Place, Joined}
use Rattle.v_syntax.specs.declared.tree.Selects.{Selects}
use Rattle.v_syntax.specs.Tree.{target_of, selects_of}
use Rattle.v_statement.specs.Statements.{target_list}
use Rattle.v_statement.proofs.Targets.{target_of-Joined}
use Rattle.v_flow.specs.Spans.{existing}
use Rattle.v_flow.specs.Narrow.{HasNarrowParts, HaveNarrowParts}
use Rattle.v_paths.specs.Premises.{HasNoMemory}
use Rattle.v_depend.specs.Resting.{IsThere, RestsAt, RestsAfterAssignment}
use Rattle.v_depend.specs.Left.{IsLeft, set_in, Assigns}
use Rattle.v_depend.specs.Tables.{changed, all_changed}
use Rattle.v_depend.specs.declared.change.Change.{Change}
use Rattle.v_depend.proofs.Lefts.{left-two, left-same, left-after}
use Rattle.v_depend.proofs.Targets.{HasBits, HaveBits}
use Rattle.v_depend.proofs.Changes.{pushed}

-- ---- the part before others

pub drop-before : {A : Type 0} (xs : List A) (i : ℕ) (r : A) → 0 < i → i ≤ length xs → r ≡ get_or xs (i - 1) r → drop (i - 1) xs ≡ r ∷ drop i xs
drop-before xs i r h g is =
    let e : suc (i - 1) ≡ i = omega (arith, h) in
    let l : i - 1 < length xs = omega (arith, h, g) in
    drop-cons xs (i - 1) r l ∙ ap (λ a. a ∷ drop (suc (i - 1)) xs) (sym is) ∙ ap (λ k. r ∷ drop k xs) e

-- ---- premises

either : (c a b : Bool) → (c && (a || b)) ≡ false → ((c && a) ≡ false) × ((c && b) ≡ false)
either true true b h = (h, absurd (let f : true ≡ false = h in cc))
either true false b h = (refl, h)
either false a b h = (refl, refl)

pub free-parts : (s : Scope) (t : pure.Target) (ts : Targets) → HasNoMemory s (existing s (may_reach s (joined (target t ts))))
    → HasNoMemory s (existing s (may_reach s t)) × HasNoMemory s (existing s (may_reach s (joined ts)))
free-parts s t ts h = (
  (λ n k b m. (either (is_bit_of (s n) k b) (may_reach s t n k b) (may_reach_one s ts n k b) (h n k b m)).0),
  (λ n k b m. (either (is_bit_of (s n) k b) (may_reach s t n k b) (may_reach_one s ts n k b) (h n k b m)).1),
)

-- what holds of parts holds of the later ones
later : (P : List Target → Type 0) → ((x : Target) (xs : List Target) → P (x ∷ xs) → P xs) → (k : ℕ) (xs : List Target) → P xs → P (drop k xs)
later P f zero xs h = h
later P f (suc k) [] h = h
later P f (suc k) (x ∷ xs) h = later P f k xs (f x xs h)

pub later-narrow : (s : Scope) (k : ℕ) (xs : List Target) → HaveNarrowParts s (target_list xs) → HaveNarrowParts s (target_list (drop k xs))
later-narrow s k xs h = later (λ ys. HaveNarrowParts s (target_list ys)) (λ x ys g. g.1) k xs h

pub later-free : (s : Scope) (k : ℕ) (xs : List Target) → HasNoMemory s (existing s (may_reach s (joined (target_list xs))))
    → HasNoMemory s (existing s (may_reach s (joined (target_list (drop k xs)))))
later-free s k xs h =
    later (λ ys. HasNoMemory s (existing s (may_reach s (joined (target_list ys))))) (λ x ys g. (free-parts s (target_of x) (target_list ys) g).1) k xs h

pub part-narrow : (s : Scope) (xs : List Target) (i : ℕ) (r : Target) → drop (i - 1) xs ≡ r ∷ drop i xs → HaveNarrowParts s (target_list xs) → HasNarrowParts s (target_of r)
part-narrow s xs i r e h = (subst (λ ys. HaveNarrowParts s (target_list ys)) e (later-narrow s (i - 1) xs h)).0

pub part-free : (s : Scope) (xs : List Target) (i : ℕ) (r : Target) → drop (i - 1) xs ≡ r ∷ drop i xs → HasNoMemory s (existing s (may_reach s (joined (target_list xs))))
    → HasNoMemory s (existing s (may_reach s (target_of r)))
part-free s xs i r e h =
    (free-parts s (target_of r) (target_list (drop i xs))
    (subst (λ ys. HasNoMemory s (existing s (may_reach s (joined (target_list ys))))) e (later-free s (i - 1) xs h))).0

-- ---- a turn

module _ (w : BitSet) (s : Scope) (xs : List Target) (i : ℕ) (r : Target) (e : drop (i - 1) xs ≡ r ∷ drop i xs) (v a b : ℕ)
    (rest : (j : ℕ) → is_set a j ≡ is_set v (j + targets_width s (target_list (drop i xs)))) where
  pub rest-turn : ((j : ℕ) → is_set b j ≡ is_set a (j + target_width s (target_of r))) → (j : ℕ) → is_set b j ≡ is_set v (j + targets_width s (target_list (drop (i - 1) xs)))
  rest-turn h j =
      let m : j + target_width s (target_of r) + targets_width s (target_list (drop i xs)) ≡ j + (target_width s (target_of r) + targets_width s (target_list (drop i xs))) = omega arith in
      h j ∙ rest (j + target_width s (target_of r)) ∙ ap (is_set v) m ∙ sym (ap (λ ys. is_set v (j + targets_width s (target_list ys))) e)

  moved : (u : Bit) (before : Type 0) (P : Type 0) → P ↔ IsLeft w s (set_in v) before (joined (target_list (drop i xs))) u → IsThere s u
      → IsLeft w s (set_in a) P (target_of r) u ↔ IsLeft w s (set_in v) before (joined (target_list (drop (i - 1) xs))) u
  moved u before P h there =
      let ts = target_list (drop i xs) in
      let t = target_of r in
      let f = left-same w s (set_in a) (λ j. set_in v (j + targets_width s ts)) P (IsLeft w s (set_in v) before (joined ts) u) t u
      (λ j l. ((λ k. sym (rest j) ∙ k), (λ k. rest j ∙ k))) h in
      let g = left-two w s (set_in v) before t ts u there in
      subst (λ ys. IsLeft w s (set_in a) P t u ↔ IsLeft w s (set_in v) before (joined (target_list ys)) u) (sym e) ((λ k. g.1 (f.0 k)), (λ k. f.1 (g.0 k)))

  pub changes-turn : (p : BitSet) (old now new : List Change) → Assigns w s (joined (target_list (drop i xs))) v (all_changed old p) (all_changed now p)
      → Assigns w s (target_of r) a (all_changed now p) (all_changed new p)
      → Assigns w s (joined (target_list (drop (i - 1) xs))) v (all_changed old p) (all_changed new p)
  changes-turn p old now new h g u there =
      let m = moved u (IsTrue (is_in (all_changed old p) u)) (IsTrue (is_in (all_changed now p) u)) (h u there) there in
      let k = g u there in
      ((λ x. m.0 (k.0 x)), (λ x. k.1 (m.1 x)))

pub walk-ended : (w : BitSet) (s : Scope) (xs : List Target) (i v : ℕ) (p q : BitSet) → i ≡ 0 → Assigns w s (joined (target_list (drop i xs))) v p q
    → Assigns w s (joined (target_list xs)) v p q
walk-ended w s xs i v p q e h = subst (λ k. Assigns w s (joined (target_list (drop k xs))) v p q) e h

-- ---- forms

module _ (w : BitSet) (s : Scope) (t : Target) where
  pub of-Place : (n : Bor (List ℕ)) (x : Selects) → t ≡ Place n x → target_of t ≡ pure.place n.now (selects_of x)
  of-Place n x i = ap target_of i

  of-Joined : (v : Vec Target Global) → t ≡ Joined v → (ts : List Target) → ts ≡ v.items → target_of t ≡ joined (target_list ts)
  of-Joined v i ts j = ap target_of i ∙ target_of-Joined v ∙ sym (ap (λ ys. joined (target_list ys)) j)

  pub free-Joined : (v : Vec Target Global) → t ≡ Joined v → (ts : List Target) → ts ≡ v.items → HasNoMemory s (existing s (may_reach s (target_of t)))
      → HasNoMemory s (existing s (may_reach s (joined (target_list ts))))
  free-Joined v i ts j h = subst (λ z. HasNoMemory s (existing s (may_reach s z))) (of-Joined v i ts j) h

  pub rest-Joined : (v : Vec Target Global) → t ≡ Joined v → (ts : List Target) → ts ≡ v.items → (a b : ℕ)
      → ((j : ℕ) → is_set b j ≡ is_set a (j + targets_width s (target_list ts))) → (j : ℕ) → is_set b j ≡ is_set a (j + target_width s (target_of t))
  rest-Joined v i ts j a b h k = h k ∙ sym (ap (λ z. is_set a (k + target_width s z)) (of-Joined v i ts j))

  pub changes-Joined : (v : Vec Target Global) → t ≡ Joined v → (ts : List Target) → ts ≡ v.items → (a : ℕ) (p q : BitSet)
      → Assigns w s (joined (target_list ts)) a p q → Assigns w s (target_of t) a p q
  changes-Joined v i ts j a p q h = subst (λ z. Assigns w s z a p q) (sym (of-Joined v i ts j)) h

pub changes-Place : (w : BitSet) (s : Scope) (t : pure.Target) (v : ℕ) (xs ys : List Change) (x : Change) (p : BitSet)
    → ((q : BitSet) → Assigns w s t v q (changed x q)) → ys ≡ xs ++ x ∷ [] → Assigns w s t v (all_changed xs p) (all_changed ys p)
changes-Place w s t v xs ys x p h e =
    subst (λ (q : BitSet). Assigns w s t v (all_changed xs p) q) (sym (ap (λ zs. all_changed zs p) e ∙ pushed xs x p)) (h (all_changed xs p))

-- narrow parts have bits
mutual
  pub have-bits : (s : Scope) (t : pure.Target) → HasNarrowParts s t → HasBits s t
  have-bits s (pure.place n x) h = h.0.0
  have-bits s (joined ts) h = all-have-bits s ts h

  all-have-bits : (s : Scope) (ts : Targets) → HaveNarrowParts s ts → HaveBits s ts
  all-have-bits s no_targets h = tt
  all-have-bits s (target t ts) h = (have-bits s t h.0, all-have-bits s ts h.1)

-- ---- the whole assignment

pub assignment-rests : (w new : BitSet) (s : Scope) (t : pure.Target) (e : pure.Expression) (v : ℕ) (xs ys zs : List Change) → HasNarrowParts s t → target_width s t ≤ 128
    → ((j : ℕ) → j < 128 → IsTrue (is_set v j) ↔ RestsAt w s e j) → xs ≡ [] → ((p : BitSet) → Assigns w s t v (all_changed xs p) (all_changed ys p))
    → zs ≡ ys → new ≡ all_changed zs w → (u : Bit) → IsThere s u → IsTrue (is_in new u) ↔ RestsAfterAssignment w s t e u
assignment-rests w new s t e v xs ys zs narrow width value none made same is u there =
    let begun = subst (λ cs. IsTrue (is_in (all_changed ys w) u) ↔ IsLeft w s (set_in v) (IsTrue (is_in (all_changed cs w) u)) t u) none (made w u there) in
    let f = left-same w s (set_in v) (RestsAt w s e) (IsTrue (is_in w u)) (IsTrue (is_in w u)) t u
    (λ j l. value j (let b = ltb-true j (target_width s t) l in omega (arith, b, width))) ((λ k. k), (λ k. k)) in
    let g = left-after w s t e u (have-bits s t narrow) there in
    subst (λ (q : BitSet). IsTrue (is_in q u) ↔ RestsAfterAssignment w s t e u) (sym (is ∙ ap (λ cs. all_changed cs w) same))
    ((λ k. g.0 (f.0 (begun.0 k))), (λ k. begun.1 (f.1 (g.1 k))))
