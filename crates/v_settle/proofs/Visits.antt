-- One driver, as the code comes to it: it is evaluated, or passed.
use Rattle.std.proofs.Common.{◌≡◌, ◌∙◌, ◌/◌, ◌%◌, ◌^◌, ◌<◌, ℕ, refl, ap, sym, subst, Bool, true, false, not, inl, inr, List}
use Rattle.std.specs.Prelude.{IsTrue, ◌↔◌, ◌&&◌}
use Rattle.std.proofs.Math.Nat.{mod-eq_of_lt, div-one}
use Rattle.std.proofs.lemmas.Bool.{false≢true, true≢false, false_from_ne_true, and_parts, and_from}
use Rattle.wb_values.specs.Value.{Name, Valuation}
use Rattle.model_meaning.specs.Term.{Term, val}
use Rattle.verilog_trees.specs.Syntax.{Expression, Target, Statement, blocking}
use Rattle.verilog_meaning.specs.Expression.{Scope, no_values, assigned_value}
use Rattle.verilog_meaning.specs.Statement.{Place, places, target_width, written, run, with_updates}
use Rattle.verilog_meaning.specs.Register.{may_assign}
use Rattle.verilog_settled.specs.Locality.{HasNoConstantMemory, has_constant_selects}
use Rattle.verilog_designs.specs.Reads.{BitSet, but_not_in}
use Rattle.verilog_designs.specs.Dependence.{Bit, is_in}
use Rattle.wb_terms.specs.Graph.{Graph}
use Rattle.v_operators.specs.Meaning.{Grows}
use Rattle.v_operators.proofs.Growing.{tree_kept}
use Rattle.v_lower.specs.Lowered.{Images, HasImages, StandsFor}
use Rattle.v_lower.proofs.Lowering.{images_kept}
use Rattle.v_write.specs.Blocks.{IsStatementLowered}
use Rattle.v_write.specs.Running.{IsAssigned}
use Rattle.v_write.specs.Written.{AreOfNames}
use Rattle.v_flow.specs.declared.span.Span.{Span}
use Rattle.v_flow.specs.Spans.{bits_in}
use Rattle.v_masks.specs.Masks.{spread}
use Rattle.v_depend.specs.Resting.{IsThere, OneIsUnsettled}
use Rattle.v_loops.specs.Turns.{AreSettled}
use Rattle.v_settle.specs.Drivers.{AreBitsWritten, IsLinkLowered, IsDriverLowered}
use Rattle.v_settle.specs.Turns.{State, state_of, IsOpen, IsVisited}
use Rattle.v_settle.proofs.Given.{in-first}
use Rattle.v_settle.proofs.Placed.{fixed_places}

-- an environment that stands under images stands under them in a store that has grown
stands_after : (s : Scope) (im : Images) (g h : Graph) (p v : Valuation) → Grows g h → HasImages s im g → StandsFor s im g p v → StandsFor s im h p v
stands_after s im g h p v a k st =
    record { fits = st.fits; same = λ n id i. ap (λ (t : Term). val t p) (tree_kept id a (k.image n id i).of_sort.below) ∙ st.same n id i }

-- ---- a continuous assignment

pub link-lowered : (s : Scope) (a : Images) (g k : Graph) (t : Target) (e : Expression) (id w : ℕ) (b : Images) (h : Graph) → HasNoConstantMemory s
    → IsTrue (has_constant_selects s t) → HasImages s a g → Grows g k → w ≡ target_width s t → IsAssigned s a k e w id
    → AreBitsWritten s a k (places s no_values t) (target_width s t) id w 0 b h → IsLinkLowered s a g t e b h
link-lowered s a g k t e id w b h parameters constant known grows width value done =
    record { known = done.known; names = done.names; stands = stands }
  where
    stands : (p v : Valuation) → StandsFor s a g p v → StandsFor s b h p (run s (blocking t e) v).valuation
    stands p v st =
        let now = stands_after s a g k p v grows known st in
        let x = assigned_value s v w e in
        let is_x = value.value p v now in
        let fits : x < 2 ^ target_width s t = subst (λ (z : ℕ). x < 2 ^ z) width is_x.fits in
        let all : x / 2 ^ 0 % 2 ^ target_width s t ≡ x = ap (λ z. z % 2 ^ target_width s t) (div-one x) ∙ mod-eq_of_lt {n = x} {m = 2 ^ target_width s t} fits in
        subst (λ (z : ℕ). StandsFor s b h p (written s v (places s v t) (assigned_value s v z e))) width
        (subst (λ (qs : List Place). StandsFor s b h p (written s v qs x)) (sym (fixed_places s v parameters t constant))
        (subst (λ (z : ℕ). StandsFor s b h p (written s v (places s no_values t) z)) all (done.stands p v x now is_x)))

-- ---- spans that the code sees

pub has-for : (xs ys : List Span) (q : BitSet) (more : Bool) → xs ≡ ys → (more ≡ false → (n : Name) (k b : ℕ) → bits_in xs n k b ≡ true → q n k b ≡ true)
    → more ≡ false → (n : Name) (k b : ℕ) → bits_in ys n k b ≡ true → q n k b ≡ true
has-for xs ys q more e f = subst (λ (zs : List Span). more ≡ false → (n : Name) (k b : ℕ) → bits_in zs n k b ≡ true → q n k b ≡ true) e f

-- ---- either kind of driver

pub link-driver : (s : Scope) (a n : Images) (g : Graph) (t : Target) (e : Expression) (b : Images) (h : Graph) → HasImages s n g → Grows g h
    → IsLinkLowered s a g t e b h → IsDriverLowered s a n g (blocking t e) b n h
link-driver s a n g t e b h known grows l =
    record {
      known = l.known;
      known_spare = images_kept s n g h grows known;
      names = l.names;
      stands = λ p v u st sp. (l.stands p v st, u, stands_after s n g h p u grows known sp);
    }

pub block-driver : (s : Scope) (a n : Images) (g : Graph) (x : Statement) (b m : Images) (h : Graph) → IsStatementLowered s a n g x b m h → IsDriverLowered s a n g x b m h
block-driver s a n g x b m h l =
    record {
      known = l.known;
      known_spare = l.known_next;
      names = l.names;
      stands = λ p v u st sp. (l.stands p v u st sp, with_updates s u (run s x v).updates, l.stands_next p v u st sp);
    }

-- ---- a driver that is come to

not-so : (b : Bool) → (b ≡ true → ⊥) → not b ≡ true
not-so true f = absurd (f refl)
not-so false f = refl

so-not : (b : Bool) → not b ≡ true → b ≡ false
so-not true e = absurd (false≢true e)
so-not false e = refl

module _ (s : Scope) (x : Statement) (a : State) (opens : IsOpen s a) (settled : BitSet) (f : AreSettled a.unsettled s x settled) where
  -- it settles nothing
  pub passed : (some : Bool) → IsTrue some ↔ OneIsUnsettled a.unsettled settled → some ≡ false → IsVisited s x a (state_of a.images a.spare a.graph a.unsettled)
  passed some met none =
      record {
        opens = record { known = opens.known; known_spare = opens.known_spare; plain = opens.plain };
        names = λ n. refl;
        rests = λ u there m h. f.rests u there h m (false_from_ne_true (is_in settled u) (λ k. true≢false (sym (met.1 (u, k, h)) ∙ none)));
        left = λ u there h r. h;
        others = λ u there m. ((λ h. h), (λ h. h));
        worth = inr (record { stands = λ p w st. record { names = st.names; others = st.others; spares = st.spares }; lasts = λ u there m h. h });
      }

  -- or it is evaluated
  module _ (q : BitSet) (is_q : q ≡ but_not_in a.unsettled (spread settled)) where
    fewer : (n : Name) (k b : ℕ) → q n k b ≡ true → (a.unsettled n k b ≡ true) × (settled n 0 b ≡ false)
    fewer n k b h =
        let both = and_parts (a.unsettled n k b) (not (settled n 0 b)) (subst (λ (z : BitSet). z n k b ≡ true) is_q h) in
        (both.0, so-not (settled n 0 b) both.1)

    still : (n : Name) (k b : ℕ) → a.unsettled n k b ≡ true → (settled n 0 b ≡ true → ⊥) → q n k b ≡ true
    still n k b h g =
        subst (λ (z : BitSet). z n k b ≡ true) (sym is_q) (and_from (a.unsettled n k b) (not (settled n 0 b)) h (not-so (settled n 0 b) g))

    first-word : (u : Bit) → IsThere s u → IsTrue (is_in a.unsettled u) → u.word ≡ 0
    first-word u there h = in-first s a.unsettled u opens.plain there u.word u.place h

    pub evaluated : (b m : Images) (h : Graph) → IsDriverLowered s a.images a.spare a.graph x b m h → IsVisited s x a (state_of b m h q)
    evaluated b m h l =
        record {
          opens = record {
            known = l.known;
            known_spare = l.known_spare;
            plain = λ n k c is. false_from_ne_true (q n k c) (λ g. true≢false (sym (fewer n k c g).0 ∙ opens.plain n k c is));
          };
          names = l.names;
          rests = λ u there may g.
              let r = fewer u.of_name u.word u.place g in
              f.rests u there r.0 may (subst (λ k. settled u.of_name k u.place ≡ false) (sym (first-word u there r.0)) r.1);
          left = λ u there was r.
              still u.of_name u.word u.place was (λ g. (f.settled u (subst (λ k. settled u.of_name k u.place ≡ true) (sym (first-word u there was)) g)).rests r);
          others = λ u there may. (
            (λ g. (fewer u.of_name u.word u.place g).0),
            (λ was. still u.of_name u.word u.place was
                (λ g. true≢false (sym (f.settled u (subst (λ k. settled u.of_name k u.place ≡ true) (sym (first-word u there was)) g)).assigned ∙ may))),
          );
          worth = inl (λ p w st. let r = l.stands p w st.others st.names st.spares in record { names = r.0; others = r.1; spares = r.2 });
        }
