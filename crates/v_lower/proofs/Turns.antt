-- One turn of the loops over chains.
use Rattle.std.proofs.Common.{◌≡◌, ◌∙◌, ◌≤◌, ◌<◌, ℕ, zero, suc, ◌+◌, ◌-◌, refl, sym, ap, subst, Bool, true, false, ◌||◌, List, [], ◌∷◌, ◌++◌, length, get_or, take, drop, arith}
use Rattle.std.proofs.Math.Seq.{drop-cons}
use Rattle.std.proofs.lemmas.List.{take_more, take_all, drop_all, take-append-drop}
use Rattle.std.proofs.lemmas.Bool.{false≢true}
use Rattle.verilog_trees.specs.Syntax as pure
use Rattle.verilog_trees.specs.Syntax.{no_expressions, expression, conditional}
use Rattle.verilog_meaning.specs.Expression.{Scope, width_of, widths_of}
use Rattle.wb_terms.specs.Graph.{Graph}
use Rattle.v_syntax.specs.declared.tree.PrefixOperator.{PrefixOperator}
use Rattle.v_syntax.specs.declared.tree.BinaryLink.{BinaryLink}
use Rattle.v_syntax.specs.declared.tree.TestLink.{TestLink}
use Rattle.v_syntax.specs.declared.tree.Choice.{Choice}
use Rattle.v_syntax.specs.declared.tree.Expression.{Expression}
use Rattle.v_syntax.specs.Tree.{tree_of, prefixed, all_prefixed, combined, tested, expressions_of}
use Rattle.v_syntax.specs.Chain.{linked, test_linked, chosen}
use Rattle.v_value.specs.Links.{is_reduction, has_reduction}
use Rattle.v_value.specs.Evaluation.{width_at, AreLinksWithin, IsLinkWithin, AreChoicesWithin}
use Rattle.v_lower.specs.Lowered.{Images, HasImages, IsLowered, IsLoweredAlone, AreLowered, after}
use Rattle.v_lower.specs.Walking.{IsSound, has_term, AreLinksSound, AreTestsSound, AreChoicesSound, ArePartsSound, begins_with_reduction, IsBit}
use Rattle.v_lower.proofs.Decisions.{first_part}

-- what is left of a list after a place, and from one before it
pub drop_item : {A : Type 0} (xs : List A) (i : ℕ) (x d : A) → i < length xs → x ≡ get_or xs i d → drop i xs ≡ x ∷ drop (i + 1) xs
drop_item xs i x d h k = let e : suc i ≡ i + 1 = omega arith in drop-cons xs i d h ∙ (ap (λ y. y ∷ drop (suc i) xs) (sym k) ∙ ap (λ n. x ∷ drop n xs) e)

pub drop_before : {A : Type 0} (xs : List A) (i : ℕ) (d : A) → 0 < i → i ≤ length xs → drop (i - 1) xs ≡ get_or xs (i - 1) d ∷ drop i xs
drop_before xs i d some most =
    let h : i - 1 < length xs = omega (arith, some, most) in
    let e : suc (i - 1) ≡ i = omega (arith, some) in
    drop-cons xs (i - 1) d h ∙ ap (λ n. get_or xs (i - 1) d ∷ drop n xs) e

-- ---- operators before an operand

or-left : (a b : Bool) → a || b ≡ false → a ≡ false
or-left false b e = refl
or-left true b e = absurd (false≢true (sym e))

or-right : (a b : Bool) → a || b ≡ false → b ≡ false
or-right false b e = e
or-right true b e = absurd (false≢true (sym e))

kept-from : (os : List PrefixOperator) (i : ℕ) → has_reduction os ≡ false → has_reduction (drop i os) ≡ false
kept-from [] zero h = h
kept-from [] (suc i) h = h
kept-from (o ∷ os) zero h = h
kept-from (o ∷ os) (suc i) h = kept-from os i (or-right (is_reduction o) (has_reduction os) h)

first-kept : (o : PrefixOperator) (xs : List PrefixOperator) → has_reduction (o ∷ xs) ≡ false → is_reduction o ≡ false
first-kept o xs e = or-left (is_reduction o) (has_reduction xs) e

-- where none of them makes one bit, none at a place does
pub kept_at : (os : List PrefixOperator) (i : ℕ) (d : PrefixOperator) → has_reduction os ≡ false → i < length os → is_reduction (get_or os i d) ≡ false
kept_at os i d h l = first-kept (get_or os i d) (drop (suc i) os) (subst (λ xs. has_reduction xs ≡ false) (drop-cons os i d l) (kept-from os i h))

-- after all of them
pub kept_none : (s : Scope) (im : Images) (g : Graph) (w : ℕ) (t : Bool) (os : List PrefixOperator) (n : ℕ) → length os ≤ n → (x : pure.Expression) (id : ℕ) → IsLowered s im g x w t id → IsLowered s im g (all_prefixed (drop n os) x) w t id
kept_none s im g w t os n h x id l = subst (λ xs. IsLowered s im g (all_prefixed xs x) w t id) (sym (drop_all n os h)) l

pub run_none : (s : Scope) (im : Images) (g : Graph) (os : List PrefixOperator) (n : ℕ) → length os ≤ n → (x : pure.Expression) (w id : ℕ) → IsLoweredAlone s im g x w id → IsLoweredAlone s im g (all_prefixed (drop n os) x) w id
run_none s im g os n h x w id l = subst (λ xs. IsLoweredAlone s im g (all_prefixed xs x) w id) (sym (drop_all n os h)) l

pub begins_none : {P : Type 0} (os : List PrefixOperator) (n : ℕ) → length os ≤ n → begins_with_reduction (drop n os) ≡ true → P
begins_none os n h e = absurd (false≢true (sym (ap begins_with_reduction (drop_all n os h)) ∙ e))

pub prefixed_more : (os : List PrefixOperator) (i : ℕ) (d : PrefixOperator) (x : pure.Expression) → 0 < i → i ≤ length os → all_prefixed (drop (i - 1) os) x ≡ prefixed (get_or os (i - 1) d) (all_prefixed (drop i os) x)
prefixed_more os i d x some most = ap (λ xs. all_prefixed xs x) (drop_before os i d some most)

pub begins_so : (os : List PrefixOperator) (i : ℕ) (d : PrefixOperator) → 0 < i → i ≤ length os → begins_with_reduction (drop (i - 1) os) ≡ is_reduction (get_or os (i - 1) d)
begins_so os i d some most = ap begins_with_reduction (drop_before os i d some most)

pub begins_at : (os : List PrefixOperator) (i : ℕ) (d : PrefixOperator) → i < length os → is_reduction (get_or os i d) ≡ true → begins_with_reduction (drop i os) ≡ true
begins_at os i d l e = ap begins_with_reduction (drop-cons os i d l) ∙ e

one-more : (b r q : Bool) → b || r ≡ false → (r ≡ false → q ≡ false) → b || q ≡ false
one-more false r q h f = f h
one-more true r q h f = absurd (false≢true (sym h))

kept-joined : (xs : List PrefixOperator) (o : PrefixOperator) → has_reduction xs ≡ false → is_reduction o ≡ false → has_reduction (xs ++ o ∷ []) ≡ false
kept-joined [] o h e = ap (λ b. b || false) e
kept-joined (p ∷ xs) o h e = one-more (is_reduction p) (has_reduction xs) (has_reduction (xs ++ o ∷ [])) h (λ k. kept-joined xs o k e)

pub kept_more : (os : List PrefixOperator) (i : ℕ) (d : PrefixOperator) → i < length os → has_reduction (take i os) ≡ false → is_reduction (get_or os i d) ≡ false → has_reduction (take (i + 1) os) ≡ false
kept_more os i d l h e = ap has_reduction (take_more os i d l) ∙ kept-joined (take i os) (get_or os i d) h e

pub all_kept : (os : List PrefixOperator) (n : ℕ) → length os ≤ n → has_reduction (take n os) ≡ false → has_reduction os ≡ false
all_kept os n l h = subst (λ xs. has_reduction xs ≡ false) (take_all n os l) h

prefixed-joined : (xs ys : List PrefixOperator) (x : pure.Expression) → all_prefixed (xs ++ ys) x ≡ all_prefixed xs (all_prefixed ys x)
prefixed-joined [] ys x = refl
prefixed-joined (o ∷ xs) ys x = ap (prefixed o) (prefixed-joined xs ys x)

pub split_at : (os : List PrefixOperator) (n : ℕ) (x : pure.Expression) → all_prefixed os x ≡ all_prefixed (take n os) (all_prefixed (drop n os) x)
split_at os n x = ap (λ xs. all_prefixed xs x) (sym (take-append-drop n os)) ∙ prefixed-joined (take n os) (drop n os) x

-- ---- chains of operators

module _ (s : Scope) (im : Images) (w : ℕ) (t : Bool) where
  -- the whole is what is left of the chain after an operand that has its term
  abbrev pub IsGoing : Graph → pure.Expression → List BinaryLink → ℕ → Type 0
  IsGoing g whole ls id = (y : pure.Expression) × (whole ≡ linked ls y) × IsLowered s im g y w t id

  pub going_on : (g h : Graph) (whole : pure.Expression) (ls : List BinaryLink) (i : ℕ) (l : BinaryLink) (a id : ℕ) → drop i ls ≡ l ∷ drop (i + 1) ls → IsGoing g whole (drop i ls) a
      → ((y : pure.Expression) → IsLowered s im g y w t a → IsLowered s im h (combined l.operator y (tree_of l.operand)) w t id) → IsGoing h whole (drop (i + 1) ls) id
  going_on g h whole ls i l a id e k f = (combined l.operator k.0 (tree_of l.operand), k.1 ∙ ap (λ xs. linked xs k.0) e, f k.0 k.2)

  pub gone : (g : Graph) (whole : pure.Expression) (ls : List BinaryLink) (n id : ℕ) → length ls ≤ n → IsGoing g whole (drop n ls) id → IsLowered s im g whole w t id
  gone g whole ls n id l k = subst (λ z. IsLowered s im g z w t id) (sym (k.1 ∙ ap (λ xs. linked xs k.0) (drop_all n ls l))) k.2

  pub link-sound : (ls : List BinaryLink) (i : ℕ) (l : BinaryLink) → drop i ls ≡ l ∷ drop (i + 1) ls → AreLinksSound s (drop i ls) → (has_term l.operator ≡ true) × IsSound s (tree_of l.operand) × AreLinksSound s (drop (i + 1) ls)
  link-sound ls i l e h = subst (AreLinksSound s) e h

  pub link-within : (ls : List BinaryLink) (i : ℕ) (l : BinaryLink) → drop i ls ≡ l ∷ drop (i + 1) ls → AreLinksWithin s w (drop i ls) → IsLinkWithin s w l × AreLinksWithin s w (drop (i + 1) ls)
  link-within ls i l e h = subst (AreLinksWithin s w) e h

  -- ---- choices, from the last

  pub chosen_more : (g h : Graph) (x : pure.Expression) (cs : List Choice) (i : ℕ) (c : Choice) (a id : ℕ) → drop (i - 1) cs ≡ c ∷ drop i cs → IsLowered s im g (chosen (drop i cs) x) w t a
      → ((y : pure.Expression) → IsLowered s im g y w t a → IsLowered s im h (conditional (tree_of c.condition) (tree_of c.value) y) w t id) → IsLowered s im h (chosen (drop (i - 1) cs) x) w t id
  chosen_more g h x cs i c a id e l f = subst (λ xs. IsLowered s im h (chosen xs x) w t id) (sym e) (f (chosen (drop i cs) x) l)

  pub chosen_none : (g : Graph) (x : pure.Expression) (cs : List Choice) (n id : ℕ) → length cs ≤ n → IsLowered s im g x w t id → IsLowered s im g (chosen (drop n cs) x) w t id
  chosen_none g x cs n id l k = subst (λ xs. IsLowered s im g (chosen xs x) w t id) (sym (drop_all n cs l)) k

  choices-from : (cs : List Choice) (i : ℕ) → AreChoicesSound s cs → AreChoicesSound s (drop i cs)
  choices-from [] zero h = h
  choices-from [] (suc i) h = h
  choices-from (c ∷ cs) zero h = h
  choices-from (c ∷ cs) (suc i) h = choices-from cs i h.2

  pub choice-sound : (cs : List Choice) (i : ℕ) (c : Choice) → drop (i - 1) cs ≡ c ∷ drop i cs → AreChoicesSound s cs → IsSound s (tree_of c.condition) × IsSound s (tree_of c.value)
  choice-sound cs i c e h = let k = subst (AreChoicesSound s) e (choices-from cs (i - 1) h) in (k.0, k.1)

  within-from : (cs : List Choice) (i : ℕ) → AreChoicesWithin s w cs → AreChoicesWithin s w (drop i cs)
  within-from [] zero h = h
  within-from [] (suc i) h = h
  within-from (c ∷ cs) zero h = h
  within-from (c ∷ cs) (suc i) h = within-from cs i h.1

  pub choice-within : (cs : List Choice) (i : ℕ) (c : Choice) → drop (i - 1) cs ≡ c ∷ drop i cs → AreChoicesWithin s w cs → width_at s (tree_of c.value) ≤ w
  choice-within cs i c e h = (subst (AreChoicesWithin s w) e (within-from cs (i - 1) h)).0

-- ---- tests

module _ (s : Scope) (im : Images) where
  abbrev pub IsTesting : Graph → pure.Expression → List TestLink → ℕ → Type 0
  IsTesting g whole ls id = (y : pure.Expression) × (whole ≡ test_linked ls y) × IsBit s im g y id

  pub testing_on : (g h : Graph) (whole : pure.Expression) (ls : List TestLink) (i : ℕ) (l : TestLink) (a id : ℕ) → drop i ls ≡ l ∷ drop (i + 1) ls → IsTesting g whole (drop i ls) a
      → ((y : pure.Expression) → IsBit s im g y a → IsBit s im h (tested l.operator y (tree_of l.operand)) id) → IsTesting h whole (drop (i + 1) ls) id
  testing_on g h whole ls i l a id e k f = (tested l.operator k.0 (tree_of l.operand), k.1 ∙ ap (λ xs. test_linked xs k.0) e, f k.0 k.2)

  pub tested_all : (g : Graph) (whole : pure.Expression) (ls : List TestLink) (n id : ℕ) → length ls ≤ n → IsTesting g whole (drop n ls) id → IsBit s im g whole id
  tested_all g whole ls n id l k = subst (λ z. IsBit s im g z id) (sym (k.1 ∙ ap (λ xs. test_linked xs k.0) (drop_all n ls l))) k.2

  tests-from : (ls : List TestLink) (i : ℕ) → AreTestsSound s ls → AreTestsSound s (drop i ls)
  tests-from [] zero h = h
  tests-from [] (suc i) h = h
  tests-from (l ∷ ls) zero h = h
  tests-from (l ∷ ls) (suc i) h = tests-from ls i h.1

  pub test-sound : (ls : List TestLink) (i : ℕ) (l : TestLink) → drop i ls ≡ l ∷ drop (i + 1) ls → AreTestsSound s ls → IsSound s (tree_of l.operand)
  test-sound ls i l e h = (subst (AreTestsSound s) e (tests-from ls i h)).0

  -- ---- parts

  parts-from : (es : List Expression) (i : ℕ) → ArePartsSound s es → ArePartsSound s (drop i es)
  parts-from [] zero h = h
  parts-from [] (suc i) h = h
  parts-from (e ∷ es) zero h = h
  parts-from (e ∷ es) (suc i) h = parts-from es i h.1

  pub part-sound : (es : List Expression) (i : ℕ) (e : Expression) → drop i es ≡ e ∷ drop (i + 1) es → ArePartsSound s es → IsSound s (tree_of e)
  part-sound es i e d h = (subst (ArePartsSound s) d (parts-from es i h)).0

  expressions-after : (es : List Expression) (e : Expression) → expressions_of (es ++ e ∷ []) ≡ after (expressions_of es) (tree_of e)
  expressions-after [] e = refl
  expressions-after (x ∷ es) e = ap (expression (tree_of x)) (expressions-after es e)

  pub parts_begin : (g : Graph) (es : List Expression) (e : Expression) (w id : ℕ) → es ≡ e ∷ drop 1 es → IsLoweredAlone s im g (tree_of e) w id → AreLowered s im g (expressions_of (take 1 es)) w id
  parts_begin g es e w id d l =
      let one : take 1 es ≡ e ∷ [] = ap (take 1) d ∙ (ap (λ xs. e ∷ xs) (none (drop 1 es))) in
      subst (λ xs. AreLowered s im g (expressions_of xs) w id) (sym one) (first_part s im g (tree_of e) w id l) where
        none : (xs : List Expression) → take 0 xs ≡ []
        none [] = refl
        none (x ∷ xs) = refl

  pub parts_more : (h : Graph) (es : List Expression) (i : ℕ) (e : Expression) (w id : ℕ) → i < length es → e ≡ get_or es i e → AreLowered s im h (after (expressions_of (take i es)) (tree_of e)) w id
      → AreLowered s im h (expressions_of (take (i + 1) es)) w id
  parts_more h es i e w id l k m =
      let split : take (i + 1) es ≡ take i es ++ e ∷ [] = take_more es i e l ∙ ap (λ x. take i es ++ x ∷ []) (sym k) in
      subst (λ xs. AreLowered s im h xs w id) (sym (ap expressions_of split ∙ expressions-after (take i es) e)) m

  pub parts_all : (g : Graph) (es : List Expression) (n w id : ℕ) → length es ≤ n → AreLowered s im g (expressions_of (take n es)) w id → AreLowered s im g (expressions_of es) w id
  parts_all g es n w id l m = subst (λ xs. AreLowered s im g (expressions_of xs) w id) (take_all n es l) m

  widths-joined : (xs ys : List Expression) → widths_of s (expressions_of (xs ++ ys)) ≡ widths_of s (expressions_of xs) + widths_of s (expressions_of ys)
  widths-joined [] ys = omega arith
  widths-joined (x ∷ xs) ys = (ap (λ k. width_of s (tree_of x) + k) (widths-joined xs ys)) ∙ omega arith

  -- the parts so far and one more have no more bits than all
  widths-split : (es : List Expression) (i : ℕ) (e : Expression) → drop i es ≡ e ∷ drop (i + 1) es → widths_of s (expressions_of (take i es)) + width_of s (tree_of e) ≤ widths_of s (expressions_of es)
  widths-split es i e d =
      let whole : widths_of s (expressions_of es) ≡ widths_of s (expressions_of (take i es)) + widths_of s (expressions_of (drop i es)) = ap (λ xs. widths_of s (expressions_of xs)) (sym (take-append-drop i es)) ∙ widths-joined (take i es) (drop i es) in
      let rest : widths_of s (expressions_of (drop i es)) ≡ width_of s (tree_of e) + widths_of s (expressions_of (drop (i + 1) es)) = ap (λ xs. widths_of s (expressions_of xs)) d in
      omega (arith, whole, rest)

  pub parts_fit : (g h : Graph) (es : List Expression) (i : ℕ) (e : Expression) (u w a b : ℕ) → drop i es ≡ e ∷ drop (i + 1) es → widths_of s (expressions_of es) ≤ 128
      → AreLowered s im g (expressions_of (take i es)) u a → IsLoweredAlone s im h (tree_of e) w b → u + w ≤ 128
  parts_fit g h es i e u w a b d most m l = let q = widths-split es i e d in omega (arith, q, most, m.width, l.width)
