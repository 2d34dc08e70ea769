-- Terms of what expressions give: made of their numbers, and kept where a store grows.
use Rattle.std.proofs.Common.{◌≡◌, ◌∙◌, ℕ, Bool, true, false, not, ◌&&◌, is_some, refl, ap, sym, subst, ◌≤◌, ◌<◌, ◌+◌, arith, List, [], ◌∷◌, ◌++◌, map, take, drop, length, get_or, Option, Some, None}
use Rattle.std.specs.Prelude.{IsSome, IsTrue}
use Rattle.std.proofs.lemmas.Bool.{false≢true}
use Rattle.std.proofs.lemmas.List.{drop_more, take_more, map-append}
use Rattle.wb_values.specs.Value.{Name, Sort, truth, word, memory, Value, truth_value, number, words, as_words}
use Rattle.model_meaning.specs.Term.{Term, val}
use Rattle.verilog_trees.specs.Syntax.{Expression}
use Rattle.verilog_meaning.specs.Expression.{Scope, Object, is_memory, is_nonzero, sign_of, width_of, value_of}
use Rattle.verilog_meaning.specs.Settled.{IsValueOf}
use Rattle.verilog_settled.proofs.Values.{not_both}
use Rattle.refinement.specs.Map.{mapped_memory}
use Rattle.wb_terms.specs.declared.nodes.TermId.{TermId}
use Rattle.wb_terms.specs.Graph.{Graph}
use Rattle.v_syntax.specs.declared.tree.Expression.{Expression as Code}
use Rattle.v_syntax.specs.Tree.{tree_of}
use Rattle.v_value.specs.Narrow.{HasNarrowObjects}
use Rattle.v_value.proofs.Narrows.{narrow_width}
use Rattle.v_operators.specs.Meaning.{Grows, IsOfSort, Tests}
use Rattle.v_operators.proofs.Growing.{IsOfSort-kept, tree_kept}
use Rattle.v_lower.specs.Lowered.{Images, IsSortOf, HasImages, IsLoweredAlone, has_number}
use Rattle.v_lower.specs.Answer.{IsAsked}
use Rattle.v_lower.proofs.Answered.{sound_by}
use Rattle.v_lower.proofs.Soundness.{sound-narrow}
use Rattle.v_lower.proofs.Lowering.{stands_before}
use Rattle.path_terms.specs.Mapped.{IsFit, AreFit, IsMemoryName, IsTermFor, AreConditions, named_term}
use Rattle.path_terms.proofs.Values.{same_sorts}

module _ (s : Scope) (im : Images) where
  pub condition_made : (g h : Graph) (e : Expression) (u x id : ℕ) → Grows g h → HasImages s im g → IsLoweredAlone s im g e u x → Tests g h x u id is_nonzero
      → IsTermFor s im h truth e id
  condition_made g h e u x id grows known l t =
      record {
        of_sort = t.of_sort;
        value = λ p v st.
            (t.value p (value_of s v e u (sign_of s e)) (l.lowered.value p v (stands_before s im g h p v grows known st))).value
            ∙ ap (λ w. truth_value (is_nonzero (value_of s v e w (sign_of s e)))) l.width;
      }

  pub number_made : (g : Graph) (e : Expression) (u id : ℕ) → IsLoweredAlone s im g e u id → IsTermFor s im g (word (width_of s e)) e id
  number_made g e u id l =
      record {
        of_sort = subst (λ w. IsOfSort g id (word w)) l.width l.lowered.of_sort;
        value = λ p v st. (l.lowered.value p v st).value ∙ ap (λ w. number (value_of s v e w (sign_of s e))) l.width;
      }

  pub term_kept : (g h : Graph) (t : Sort) (e : Expression) (id : ℕ) → Grows g h → HasImages s im g → IsTermFor s im g t e id → IsTermFor s im h t e id
  term_kept g h t e id grows known l =
      record {
        of_sort = IsOfSort-kept id t grows l.of_sort;
        value = λ p v st. ap (λ (x : Term). val x p) (tree_kept id grows l.of_sort.below) ∙ l.value p v (stands_before s im g h p v grows known st);
      }

  pub conditions_kept : (g h : Graph) (es : List Expression) (ids : List ℕ) → Grows g h → HasImages s im g → AreConditions s im g es ids → AreConditions s im h es ids
  conditions_kept g h [] [] grows known l = tt
  conditions_kept g h [] (id ∷ ids) grows known l = absurd l
  conditions_kept g h (e ∷ es) [] grows known l = absurd l
  conditions_kept g h (e ∷ es) (id ∷ ids) grows known l = (term_kept g h truth e id grows known l.0, conditions_kept g h es ids grows known l.1)

  pub one_more : (g : Graph) (es : List Expression) (ids : List ℕ) (e : Expression) (id : ℕ) → AreConditions s im g es ids → IsTermFor s im g truth e id
      → AreConditions s im g (es ++ e ∷ []) (ids ++ id ∷ [])
  one_more g [] [] e id l k = (k, tt)
  one_more g [] (i ∷ ids) e id l k = absurd l
  one_more g (x ∷ es) [] e id l k = absurd l
  one_more g (x ∷ es) (i ∷ ids) e id l k = (l.0, one_more g es ids e id l.1 k)

  -- ---- memories

  unnumbered : (o : Object) (a d : ℕ) → IsSortOf o (memory a d) → has_number o ≡ false
  unnumbered o a d h = by o.constant (is_memory o) h.0
    where
      by : (c : Option ℕ) (b : Bool) → IsTrue b → (is_some c && not b) ≡ false
      by None true t = refl
      by (Some k) true t = refl
      by c false t = absurd (false≢true t)

  words_of : (o : Object) (a d : ℕ) (x : Value) → IsSortOf o (memory a d) → IsValueOf o x → x ≡ words (as_words x)
  words_of o a d (number x) h k = absurd (not_both (is_memory o) k.0 h.0)
  words_of o a d (words xs) h k = refl
  words_of o a d (truth_value b) h k = absurd k

  -- a memory that is named whole has its name's term
  pub memory_known : (g : Graph) (a d : ℕ) (e : Expression) → HasImages s im g → IsMemoryName s a d e → IsSome (named_term im e)
  memory_known g a d e known m =
      subst (λ x. IsSome (named_term im x)) (sym m.is_name) (known.some m.called m.known (unnumbered (s m.called) a d m.of_sort))

  pub memory_made : (g : Graph) (a d : ℕ) (e : Expression) (id : ℕ) → HasImages s im g → IsMemoryName s a d e → Some id ≡ named_term im e
      → IsTermFor s im g (memory a d) e id
  memory_made g a d e id known m given =
      let n : Name = m.called in
      let has : im n ≡ Some id = ap (named_term im) (sym m.is_name) ∙ sym given in
      let image = known.image n id has in
      let one : image.sort ≡ memory a d = same_sorts (s n) image.sort (memory a d) image.of_name m.of_sort in
      record {
        of_sort = subst (IsOfSort g id) one image.of_sort;
        value = λ p v st. st.same n id has ∙ words_of (s n) a d (v n) m.of_sort (st.fits n id has) ∙ ap (λ x. words (mapped_memory v x)) (sym m.is_name);
      }

-- ---- what is asked of an expression that is lowered by itself

pub asked_by : (s : Scope) (im : Images) (g : Graph) (e : Expression) (w : ℕ) → HasNarrowObjects s → IsFit s e → HasImages s im g → w ≡ width_of s e
    → IsAsked s im g e w
asked_by s im g e w objects fit known is =
    record {
      of_text = fit.of_text;
      known = known;
      wider = λ h. subst (λ v. width_of s e ≤ v) (sym is) (omega arith);
      at_most_128 = subst (λ v. v ≤ 128) (sym is) (narrow_width s e (sound-narrow s e objects (sound_by s e fit.of_text fit.unbroken))).1;
    }

-- ---- one condition after the other

pub none_made : (s : Scope) (im : Images) (g : Graph) (ids : List TermId) → ids ≡ [] → AreConditions s im g [] (map (λ id. id.0) ids)
none_made s im g ids h = subst (λ (xs : List TermId). AreConditions s im g [] (map (λ id. id.0) xs)) (sym h) tt

pub fit_first : (s : Scope) (xs : List Code) (i : ℕ) (d : Code) → i < length xs → AreFit s (map tree_of (drop i xs)) → IsFit s (tree_of (get_or xs i d))
fit_first s xs i d l h = (subst (λ (ys : List Code). AreFit s (map tree_of ys)) (drop_more xs i d l) h).0

pub fit_rest : (s : Scope) (xs : List Code) (i : ℕ) (d : Code) → i < length xs → AreFit s (map tree_of (drop i xs)) → AreFit s (map tree_of (drop (i + 1) xs))
fit_rest s xs i d l h = (subst (λ (ys : List Code). AreFit s (map tree_of ys)) (drop_more xs i d l) h).1

pub one_turn : (s : Scope) (im : Images) (g h : Graph) (xs : List Code) (i : ℕ) (d : Code) → i < length xs → (ids new : List TermId) (id : TermId) → Grows g h
    → HasImages s im g → AreConditions s im g (map tree_of (take i xs)) (map (λ (k : TermId). k.0) ids) → IsTermFor s im h truth (tree_of (get_or xs i d)) id.0
    → new ≡ ids ++ id ∷ [] → AreConditions s im h (map tree_of (take (i + 1) xs)) (map (λ (k : TermId). k.0) new)
one_turn s im g h xs i d l ids new id grows known made term is =
    subst (λ (ys : List Code). AreConditions s im h (map tree_of ys) (map (λ (k : TermId). k.0) new)) (sym (take_more xs i d l))
    (subst (λ (ks : List TermId). AreConditions s im h (map tree_of (take i xs ++ get_or xs i d ∷ [])) (map (λ (k : TermId). k.0) ks)) (sym is)
    (subst (λ es. AreConditions s im h es (map (λ (k : TermId). k.0) (ids ++ id ∷ []))) (sym (map-append tree_of (take i xs) (get_or xs i d ∷ [])))
    (subst (AreConditions s im h (map tree_of (take i xs) ++ tree_of (get_or xs i d) ∷ [])) (sym (map-append (λ (k : TermId). k.0) ids (id ∷ [])))
    (one_more s im h (map tree_of (take i xs)) (map (λ (k : TermId). k.0) ids) (tree_of (get_or xs i d)) id.0
    (conditions_kept s im g h (map tree_of (take i xs)) (map (λ (k : TermId). k.0) ids) grows known made) term))))

pub none_of : {x : Option ℕ} → None ≡ x → IsSome x → ⊥
none_of {x} e h = gone x e h
  where
    gone : (y : Option ℕ) → None ≡ y → IsSome y → ⊥
    gone None f k = false≢true k
    gone (Some z) f k = cc
