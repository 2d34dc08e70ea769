-- One lemma for each way in which a term with several operands is put: what each call says, in its order, gives what the whole says.
use Rattle.std.proofs.Common.{◌≡◌, ℕ, List, Bor, Option, None, sym, ap, ◌∙◌, subst, arith}
use Rattle.std.specs.Prelude.{Result, Ok, Err}
use Rattle.std.specs.BTreeMap.{BTreeMap}
use Rattle.wb_values.specs.Value.{Name}
use Rattle.model_meaning.specs.Term.{Term, sort_of}
use Rattle.model_files.specs.Written.{WrittenTerm, name}
use Rattle.wb_terms.specs.declared.nodes.TermId.{TermId}
use Rattle.wb_terms.specs.declared.store.PutStop.{PutStop}
use Rattle.wb_terms.specs.Graph.{Graph, tree}
use Rattle.ila_build.specs.Standing.{IsIn, AreIn, found, seen, seen_by, term_by, IsGrown, IsPut}
use Rattle.ila_build.proofs.Growing.{onward, more_put, lost_put, seen_by-grown}

pub is_in : (g : Graph) (t : BTreeMap (Bor (List ℕ)) TermId) (f : Option TermId) (n : Name) (o : Option TermId) → AreIn g t f → o ≡ found t f n → IsIn g o
unfolding AreIn
is_in g t f n o h e = subst (IsIn g) (sym e) (h n)

pub name-done : (g h : Graph) (t : BTreeMap (Bor (List ℕ)) TermId) (f : Option TermId) (n : Name) (w : WrittenTerm) (o : Option TermId) (r : Result TermId PutStop)
    → w ≡ name n → o ≡ found t f n → IsPut g h r (seen g o) → IsPut g h r (term_by (seen_by g t f) w)
unfolding seen_by
name-done g h t f n w o r e k p = subst (λ x. IsPut g h r (term_by (seen_by g t f) x)) (sym e) (subst (λ x. IsPut g h r (seen g x)) k p)

-- a later operand, by what the names stood for at the start
pub later : (g h : Graph) (t : BTreeMap (Bor (List ℕ)) TermId) (f : Option TermId) (x y : WrittenTerm) → AreIn g t f → IsGrown g h → x ≡ y → term_by (seen_by h t f) x ≡ term_by (seen_by g t f) y
later g h t f x y i b e = ap (λ s. term_by s x) (seen_by-grown g h t f b i) ∙ ap (term_by (seen_by g t f)) e

pub lost_later : (g h k : Graph) (s : PutStop) (t v u : Term) → IsGrown g h → t ≡ v → (sort_of v ≡ None → sort_of u ≡ None) → IsPut h k (Err s) t → IsPut g k (Err s) u
lost_later g h k s t v u b e n p = lost_put g h k s v u b n (subst (IsPut h k (Err s)) e p)

two : (F : Term → Term → Term) {x y u w : Term} → x ≡ u → y ≡ w → F x y ≡ F u w
two F {x} {y} {u} {w} p q = ap (λ t. F t y) p ∙ ap (F u) q

-- the first two operands are there
pub two-done : (g0 g1 g2 g3 : Graph) (F : Term → Term → Term) (x y : TermId) (u a b : Term) (r : Result TermId PutStop)
    → u ≡ F a b → IsPut g0 g1 (Ok x) a → IsPut g1 g2 (Ok y) b
    → IsPut g2 g3 r (F (tree g2 x.0) (tree g2 y.0)) → IsPut g0 g3 r u
two-done g0 g1 g2 g3 F x y u a b r e p q s =
    more_put g0 g2 g3 r (onward p.0 q.0) (two F (q.0.trees x.0 p.1 ∙ p.2) q.2 ∙ sym e) s

pub three-done : (g0 g1 g2 g3 g4 : Graph) (F : Term → Term → Term → Term) (x y z : TermId) (u a b d : Term) (r : Result TermId PutStop)
    → u ≡ F a b d → IsPut g0 g1 (Ok x) a → IsPut g1 g2 (Ok y) b → IsPut g2 g3 (Ok z) d
    → IsPut g3 g4 r (F (tree g3 x.0) (tree g3 y.0) (tree g3 z.0)) → IsPut g0 g4 r u
three-done g0 g1 g2 g3 g4 F x y z u a b d r e p q s o =
    let first : tree g3 x.0 ≡ a = s.0.trees x.0 (omega (arith, p.1, q.0.longer)) ∙ (q.0.trees x.0 p.1 ∙ p.2) in
    let second : tree g3 y.0 ≡ b = s.0.trees y.0 q.1 ∙ q.2 in
    more_put g0 g3 g4 r (onward p.0 (onward q.0 s.0)) (ap (λ t. F t (tree g3 y.0) (tree g3 z.0)) first ∙ two (F a) second s.2 ∙ sym e) o
