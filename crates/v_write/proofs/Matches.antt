-- Terms that say whether values match.
use Rattle.std.proofs.Common.{◌≡◌, ◌∙◌, ◌*◌, ◌+◌, ◌/◌, ◌%◌, ◌^◌, ◌<◌, ◌==◌, ℕ, Bool, true, false, ◌||◌, bit_or, Option, Some, None, refl, ap, sym, subst, eq-eqb, eqb-true}
use Rattle.std.proofs.Math.Nat.{mod-eq_of_lt, div-eq_of_lt}
use Rattle.std.proofs.lemmas.Bool.{false≢true}
use Rattle.std.proofs.lemmas.Nat.{or_mod, or_shr, shr_split, mod_below}
use Rattle.std.proofs.Math.Pow.{pow_pos}
use lib.Bits.{or_zero_r}
use Rattle.wb_values.specs.Value.{truth, word, Valuation}
use Rattle.wb_values.specs.Number.{word_or}
use Rattle.model_meaning.specs.Term.{Term, val, constant_truth}
use Rattle.verilog_trees.specs.Syntax.{Expression, Expressions, no_expressions, expression, CaseKind, exact_case, wild_case}
use Rattle.verilog_meaning.specs.Expression.{Scope, value_of}
use Rattle.verilog_meaning.specs.Statement.{wild_bits, matches, any_matches}
use Rattle.wb_terms.specs.Graph.{Graph, tree}
use Rattle.wb_terms.specs.declared.nodes.TermId.{TermId}
use Rattle.v_operators.specs.Meaning.{Grows, IsOfSort, HasNumber, HasTruth, Joins, Compares, Connects}
use Rattle.v_operators.proofs.Growing.{Grows-refl, Grows-trans, number_kept, truth_kept}
use Rattle.v_lower.specs.Lowered.{Images, HasImages, IsLowered}
use Rattle.v_lower.proofs.Lowering.{images_kept, stands_before}
use Rattle.v_write.specs.Guard.{IsGuard}
use Rattle.v_write.specs.Matching.{IsTestOf, HasAny, IsTesting}

-- ---- equal but for some bits

same_tests : (a b c d : ℕ) → (a ≡ b → c ≡ d) → (c ≡ d → a ≡ b) → (a == b) ≡ (c == d)
same_tests a b c d f g = by (a == b) (c == d) refl refl where
  by : (p q : Bool) → (a == b) ≡ p → (c == d) ≡ q → p ≡ q
  by true true h k = refl
  by false false h k = refl
  by true false h k = absurd (false≢true (sym k ∙ eq-eqb c d (f (eqb-true a b h))))
  by false true h k = absurd (false≢true (sym h ∙ eq-eqb a b (g (eqb-true c d k))))

-- the bits of a number below 2^w, and above, where others are set
cut_or : (w a wild : ℕ) → a < 2 ^ w → bit_or a wild % 2 ^ w ≡ bit_or a (wild % 2 ^ w)
cut_or w a wild h = or_mod a wild w ∙ ap (λ z. bit_or z (wild % 2 ^ w)) (mod-eq_of_lt {n = a} {m = 2 ^ w} h)

above_or : (w a wild : ℕ) → a < 2 ^ w → bit_or a wild / 2 ^ w ≡ bit_or 0 (wild / 2 ^ w)
above_or w a wild h = or_shr a wild w ∙ ap (λ z. bit_or z (wild / 2 ^ w)) (div-eq_of_lt h)

whole_or : (w a b wild : ℕ) → a < 2 ^ w → b < 2 ^ w → bit_or a (wild % 2 ^ w) ≡ bit_or b (wild % 2 ^ w) → bit_or a wild ≡ bit_or b wild
whole_or w a b wild h k e =
    let above : bit_or a wild / 2 ^ w ≡ bit_or b wild / 2 ^ w = above_or w a wild h ∙ sym (above_or w b wild k) in
    let below : bit_or a wild % 2 ^ w ≡ bit_or b wild % 2 ^ w = cut_or w a wild h ∙ (e ∙ sym (cut_or w b wild k)) in
    sym (shr_split (bit_or a wild) w) ∙ ((λ i. above i * 2 ^ w + below i) ∙ shr_split (bit_or b wild) w)

-- Bits past the width of two numbers do not matter.
equal_but_for : (w wild a b : ℕ) → a < 2 ^ w → b < 2 ^ w → (bit_or a (wild % 2 ^ w) == bit_or b (wild % 2 ^ w)) ≡ (bit_or a wild == bit_or b wild)
equal_but_for w wild a b h k =
    same_tests (bit_or a (wild % 2 ^ w)) (bit_or b (wild % 2 ^ w)) (bit_or a wild) (bit_or b wild) (whole_or w a b wild h k)
    (λ e. sym (cut_or w a wild h) ∙ (ap (λ z. z % 2 ^ w) e ∙ cut_or w b wild k))

no_others : (a b : ℕ) → (a == b) ≡ (bit_or a 0 == bit_or b 0)
no_others a b = λ i. sym (or_zero_r a) i == sym (or_zero_r b) i

pub cut_fits : (wild w within : ℕ) → within ≡ wild % 2 ^ w → within < 2 ^ w
cut_fits wild w within h = subst (λ z. z < 2 ^ w) (sym h) (mod_below wild (2 ^ w) (pow_pos w))

-- no bit of theirs
pub plain_made : (g h : Graph) (x y id w wild within : ℕ) → within ≡ wild % 2 ^ w → within ≡ 0 → Compares g h x y w id (λ a b. a == b) → Compares g h x y w id (λ a b. bit_or a wild == bit_or b wild)
plain_made g h x y id w wild within cut none m =
    record {
      of_sort = m.of_sort;
      value = λ p a b i j.
          subst (λ z. HasTruth h id p z) (no_others a b ∙ (ap (λ k. bit_or a k == bit_or b k) (sym none ∙ cut) ∙ equal_but_for w wild a b i.fits j.fits)) (m.value p a b i j);
    }

-- such bits are set in both
pub but_for_made : (g c d f h : Graph) (x y bits first second id w wild within : ℕ) → within ≡ wild % 2 ^ w → IsOfSort g x (word w) → IsOfSort g y (word w) → Grows g c → IsOfSort c bits (word w) → ((p : Valuation) → HasNumber c bits w p within)
    → Grows c d → Joins c d x w bits w first w word_or → Grows d f → Joins d f y w bits w second w word_or → Compares f h first second w id (λ a b. a == b) → Compares g h x y w id (λ a b. bit_or a wild == bit_or b wild)
but_for_made g c d f h x y bits first second id w wild within cut is_x is_y gc is_bits worth cd one df two m =
    record {
      of_sort = m.of_sort;
      value = λ p a b i j.
          let left : HasNumber d first w p (bit_or a within) = one.value p a within (number_kept x w p a gc is_x.below i) (worth p) in
          let right : HasNumber f second w p (bit_or b within) =
          two.value p b within (number_kept y w p b (Grows-trans gc cd) is_y.below j) (number_kept bits w p within cd is_bits.below (worth p)) in
          subst (λ z. HasTruth h id p z) (ap (λ k. bit_or a k == bit_or b k) cut ∙ equal_but_for w wild a b i.fits j.fits)
          (m.value p (bit_or a within) (bit_or b within) (number_kept first w p (bit_or a within) df one.of_sort.below left) right);
    }

-- ---- one value

-- a comparison with what is lowered
pub test_made : (s : Scope) (im : Images) (g f h : Graph) (x y id w wild : ℕ) (k : CaseKind) (e : Expression) (t : Bool) (c : ℕ → ℕ → Bool) → ((a b : ℕ) → c a b ≡ matches k wild a b)
    → HasImages s im g → IsOfSort g x (word w) → Grows g f → IsLowered s im f e w t y → Grows f h → Compares f h x y w id c → IsTestOf s im g h x w id (λ v a. matches k wild a (value_of s v e w t))
test_made s im g f h x y id w wild k e t c same known is_x gf l fh m =
    record {
      of_sort = m.of_sort;
      value = λ p v a st is_a.
          subst (λ z. HasTruth h id p z) (same a (value_of s v e w t))
          (m.value p a (value_of s v e w t) (number_kept x w p a gf is_x.below is_a) (l.value p v (stands_before s im f h p v fh (images_kept s im g f gf known) st)));
    }

-- where no bit matches any bit
pub equal_matches : (k : CaseKind) (wild : ℕ) → wild ≡ 0 → (a b : ℕ) → (a == b) ≡ matches k wild a b
equal_matches exact_case wild h a b = refl
equal_matches wild_case wild h a b = no_others a b ∙ ap (λ z. bit_or a z == bit_or b z) (sym h)

-- ---- some tests

pub any_kept : (g h : Graph) → Grows g h → (p : Valuation) (c : Option TermId) (b : Bool) → IsGuard g c → HasAny g p c b → HasAny h p c b
any_kept g h grows p None b k e = e
any_kept g h grows p (Some c) b k e = truth_kept c.0 p b grows k.below e

pub first_test : (g : Graph) (tests : Option TermId) (x : ℕ) → tests ≡ None → (p : Valuation) (b c : Bool) → HasAny g p tests b → HasTruth g x p c → HasTruth g x p (b || c)
first_test g tests x is p b c k t = subst (λ z. HasTruth g x p (z || c)) (sym (subst (λ z. HasAny g p z b) is k)) t

pub further_test : (g h : Graph) (tests : Option TermId) (o : TermId) (x id : ℕ) → tests ≡ Some o → Connects g h o.0 x id (λ a b. a || b) → (p : Valuation) (b c : Bool) → HasAny g p tests b → HasTruth g x p c → HasTruth h id p (b || c)
further_test g h tests o x id is j p b c k t = j.value p b c (subst (λ z. HasAny g p z b) is k) t

pub no_test : (g h : Graph) (tests : Option TermId) (id : ℕ) → tests ≡ None → tree h id ≡ constant_truth false → (p : Valuation) (b : Bool) → HasAny g p tests b → HasTruth h id p b
no_test g h tests id is e p b k = subst (λ z. HasTruth h id p z) (sym (subst (λ z. HasAny g p z b) is k)) (record { value = ap (λ (t : Term). val t p) e })

pub some_test : (g : Graph) (tests : Option TermId) (o : TermId) → tests ≡ Some o → (p : Valuation) (b : Bool) → HasAny g p tests b → HasTruth g o.0 p b
some_test g tests o is p b k = subst (λ z. HasAny g p z b) is k

-- ---- all values of an item

or_later : (b c r : Bool) → ((b || c) || r) ≡ (b || (c || r))
or_later true c r = refl
or_later false c r = refl

or_nothing : (b : Bool) → (b || false) ≡ b
or_nothing true = refl
or_nothing false = refl

module _ (s : Scope) (im : Images) (g : Graph) (x w : ℕ) (k : CaseKind) (t : Bool) (all : Expressions) (known : HasImages s im g) (is_x : IsOfSort g x (word w)) where
  pub testing_begun : IsTesting s im g g x w k t all None all
  testing_begun = record { grows = Grows-refl g; there = tt; value = λ p v a st is_a. (false, refl, refl) }

  pub testing_more : (h i l : Graph) (tests : Option TermId) (said : ℕ) (id : TermId) (e : Expression) (es : Expressions) → IsTesting s im g h x w k t all tests (expression e es) → Grows h i
      → IsTestOf s im h i x w said (λ v a. matches k (wild_bits e) a (value_of s v e w t)) → Grows i l → IsOfSort l id.0 truth
      → ((p : Valuation) (b c : Bool) → HasAny i p tests b → HasTruth i said p c → HasTruth l id.0 p (b || c)) → IsTesting s im g l x w k t all (Some id) es
  testing_more h i l tests said id e es so hi one il sort joined =
      record {
        grows = Grows-trans so.grows (Grows-trans hi il);
        there = sort;
        value = λ p v a st is_a.
            let known_h = images_kept s im g h so.grows known in
            let st_i = stands_before s im i l p v il (images_kept s im h i hi known_h) st in
            let f = so.value p v a (stands_before s im h i p v hi known_h st_i) is_a in
            let c : Bool = matches k (wild_bits e) a (value_of s v e w t) in (
              f.0 || c,
              joined p f.0 c (any_kept h i hi p tests f.0 so.there f.1) (one.value p v a st_i (number_kept x w p a so.grows is_x.below is_a)),
              or_later f.0 c (any_matches s v k w t a es) ∙ f.2,
            );
      }

  pub testing_ended : (h m : Graph) (tests : Option TermId) (id : ℕ) (rest : Expressions) → rest ≡ no_expressions → IsTesting s im g h x w k t all tests rest → Grows h m → IsOfSort m id truth
      → ((p : Valuation) (b : Bool) → HasAny h p tests b → HasTruth m id p b) → IsTestOf s im g m x w id (λ v a. any_matches s v k w t a all)
  testing_ended h m tests id rest none so hm sort said =
      record {
        of_sort = sort;
        value = λ p v a st is_a.
            let f = so.value p v a (stands_before s im h m p v hm (images_kept s im g h so.grows known) st) is_a in
            let same : f.0 ≡ any_matches s v k w t a all = sym (or_nothing f.0) ∙ (ap (λ es. f.0 || any_matches s v k w t a es) (sym none) ∙ f.2) in
            subst (λ z. HasTruth m id p z) same (said p f.0 f.1);
      }
