-- The truths of literals by their codes, as entries come and go.
use Rattle.std.proofs.Common.{◌≡◌, ◌≢◌, ℕ, ◌+◌, ◌*◌, ◌<◌, ◌≤◌, Bool, true, false, not, cond, List, ◌∷◌, length, get_or, set, ⊎_elim, Option, Some, None, Bor, refl, sym, ap, ◌∙◌, subst, arith}
use Rattle.std.specs.Prelude.{MatchOption}
use Rattle.std.specs.List.{slice_get, HoldsAt}
use Rattle.std.proofs.lemmas.Bool.{cases_eq}
use Rattle.std.proofs.lemmas.Option.{get_or_from_slice_get, slice_get-get_or}
use Rattle.std.proofs.lemmas.List.{get_or-set_same, get_or-set_other, length-set}
use Rattle.sat_base.specs.declared.literals.Lit.{Lit}
use Rattle.sat_solve.specs.declared.trail.Entry.{Entry}
use Rattle.sat_solve.specs.declared.trail.Truth.{Truth}
use Rattle.sat_solve.specs.declared.trail.Truth.TheVariants.{True, False, Open}
use Rattle.sat_base.specs.Codes.{code_of, literal_of}
use Rattle.sat_solve.specs.Trail.{sign_at}
use Rattle.sat_solve.specs.Truth.{IsTruth, AreTruths, truth_by, with_pair}
use Rattle.sat_solve.proofs.Signs.{same_lit, sign_here, sign_other}
use Rattle.sat_base.proofs.CodeLemmas.{code_of_literal}

-- the truth of a literal is a matter of its variable's sign
pub IsTruth-by : (trail after : List Entry) (x : Lit) (t : Truth) → sign_at after x.var ≡ sign_at trail x.var → IsTruth trail x t → IsTruth after x t
IsTruth-by trail after x True same h = same ∙ h
IsTruth-by trail after x False same h = same ∙ h
IsTruth-by trail after x Open same h = same ∙ h

pub pair_even : (truths : List Truth) (v : ℕ) (one two : Truth) → 2 * v + 1 < length truths → get_or (with_pair truths v one two) (2 * v) Open ≡ one
pair_even truths v one two l =
    get_or-set_other (set truths (2 * v) one) (2 * v + 1) (2 * v) two Open (λ h. absurd (omega (arith, h)))
    ∙ get_or-set_same truths (2 * v) one Open (omega (arith, l))

pub pair_odd : (truths : List Truth) (v : ℕ) (one two : Truth) → 2 * v + 1 < length truths → get_or (with_pair truths v one two) (2 * v + 1) Open ≡ two
pair_odd truths v one two l = get_or-set_same (set truths (2 * v) one) (2 * v + 1) two Open (omega (arith, l, length-set truths (2 * v) one))

pub pair_other : (truths : List Truth) (v : ℕ) (one two : Truth) (c : ℕ) → c ≢ 2 * v → c ≢ 2 * v + 1 → get_or (with_pair truths v one two) c Open ≡ get_or truths c Open
pair_other truths v one two c a b = get_or-set_other (set truths (2 * v) one) (2 * v + 1) c two Open b ∙ get_or-set_other truths (2 * v) c one Open a

pub pair_length : (truths : List Truth) (v : ℕ) (one two : Truth) → length (with_pair truths v one two) ≡ length truths
pair_length truths v one two = length-set (set truths (2 * v) one) (2 * v + 1) two ∙ length-set truths (2 * v) one

-- a literal of another variable has another code
pub code_apart : (x : Lit) (v : ℕ) → (x.var ≡ v → ⊥) → (code_of x ≢ 2 * v) × (code_of x ≢ 2 * v + 1)
code_apart x v h = apart x.var x.negative h
  where
    apart : (w : ℕ) (b : Bool) → (w ≡ v → ⊥) → (2 * w + cond b 1 0 ≢ 2 * v) × (2 * w + cond b 1 0 ≢ 2 * v + 1)
    apart w true differs = (λ e. differs (omega (arith, e)), λ e. differs (omega (arith, e)))
    apart w false differs = (λ e. differs (omega (arith, e)), λ e. differs (omega (arith, e)))

-- what the two codes of a variable get is right, and the other variables keep their signs
pub AreTruths-paired : (trail after : List Entry) (vars v : ℕ) (truths : List Truth) (one two : Truth)
    → AreTruths trail vars truths → v < vars
    → ((w : ℕ) → (w ≡ v → ⊥) → sign_at after w ≡ sign_at trail w)
    → IsTruth after (record { var = v; negative = false }) one → IsTruth after (record { var = v; negative = true }) two
    → AreTruths after vars (with_pair truths v one two)
AreTruths-paired trail after vars v truths one two h l others is_one is_two =
    let within : 2 * v + 1 < length truths = omega (arith, l, h.sized) in
    record {
      sized = pair_length truths v one two ∙ h.sized;
      right = λ x. ⊎_elim
          (λ (same : x.var ≡ v).
          subst (λ (y : Lit). IsTruth after y (get_or (with_pair truths v one two) (code_of y) Open))
          (sym (same_lit x (record { var = v; negative = x.negative }) same refl)) (own within x.negative))
          (λ other.
          let apart = code_apart x v other in
          IsTruth-by trail after x (get_or (with_pair truths v one two) (code_of x) Open) (others x.var other)
          (subst (λ t. IsTruth trail x t) (sym (pair_other truths v one two (code_of x) apart.0 apart.1)) (h.right x)))
          (cases_eq x.var v);
    }
  where
    own : 2 * v + 1 < length truths → (b : Bool) → IsTruth after (record { var = v; negative = b }) (get_or (with_pair truths v one two) (2 * v + cond b 1 0) Open)
    own within true = subst (λ t. IsTruth after (record { var = v; negative = true }) t) (sym (pair_odd truths v one two within)) is_two
    own within false =
        let z : 2 * v + cond false 1 0 ≡ 2 * v = omega arith in
        subst (λ t. IsTruth after (record { var = v; negative = false }) t) (sym (ap (λ c. get_or (with_pair truths v one two) c Open) z ∙ pair_even truths v one two within)) is_one

pub AreTruths-pushed : (e : Entry) (older : List Entry) (vars : ℕ) (truths : List Truth) (one two : Truth) → AreTruths older vars truths → e.lit.var < vars → one ≡ truth_by (not e.lit.negative) → two ≡ truth_by e.lit.negative → AreTruths (e ∷ older) vars (with_pair truths e.lit.var one two)
AreTruths-pushed e older vars truths one two h l is_one is_two =
    AreTruths-paired older (e ∷ older) vars e.lit.var truths one two h l
    (λ w other. sign_other e older w (λ same. other (sym same)))
    (subst (λ t. IsTruth (e ∷ older) (record { var = e.lit.var; negative = false }) t) (sym is_one) (at_positive e.lit.negative (sign_here e older e.lit.var refl)))
    (subst (λ t. IsTruth (e ∷ older) (record { var = e.lit.var; negative = true }) t) (sym is_two) (at_negative e.lit.negative (sign_here e older e.lit.var refl)))
  where
    at_positive : (b : Bool) → sign_at (e ∷ older) e.lit.var ≡ Some b → IsTruth (e ∷ older) (record { var = e.lit.var; negative = false }) (truth_by (not b))
    at_positive true is = is
    at_positive false is = is

    at_negative : (b : Bool) → sign_at (e ∷ older) e.lit.var ≡ Some b → IsTruth (e ∷ older) (record { var = e.lit.var; negative = true }) (truth_by b)
    at_negative true is = is
    at_negative false is = is

pub AreTruths-popped : (e : Entry) (older : List Entry) (vars : ℕ) (truths : List Truth) → sign_at older e.lit.var ≡ None → AreTruths (e ∷ older) vars truths → e.lit.var < vars → AreTruths older vars (with_pair truths e.lit.var Open Open)
AreTruths-popped e older vars truths fresh h l =
    AreTruths-paired (e ∷ older) older vars e.lit.var truths Open Open h l
    (λ w other. sym (sign_other e older w (λ same. other (sym same))))
    fresh fresh

pub truth_at : (trail : List Entry) (vars : ℕ) (truths : List Truth) (code : ℕ) (t : Truth) → AreTruths trail vars truths → slice_get truths code ≡ Some t → IsTruth trail (literal_of code) t
truth_at trail vars truths code t h at =
    subst (λ u. IsTruth trail (literal_of code) u)
    (ap (λ c. get_or truths c Open) (code_of_literal code) ∙ get_or_from_slice_get truths code t Open at)
    (h.right (literal_of code))

-- what `get` gives of the truths is that of the literal of this code
pub truth_got : (trail : List Entry) (vars : ℕ) (truths xs : List Truth) (code : ℕ) (o : Option (Bor Truth)) (x : Bor Truth) → xs ≡ truths → o ≡ Some x
    → MatchOption o (length xs ≤ code) (λ y. (code < length xs) × HoldsAt (λ z. y.now ≡ z) xs code) → AreTruths trail vars truths → IsTruth trail (literal_of code) x.now
truth_got trail vars truths xs code o x same is m h =
    let found : (code < length xs) × HoldsAt (λ z. x.now ≡ z) xs code = subst (λ (p : Option (Bor Truth)). MatchOption p (length xs ≤ code) (λ y. (code < length xs) × HoldsAt (λ z. y.now ≡ z) xs code)) is m in
    let e : slice_get xs code ≡ Some x.now = slice_get-get_or xs code x.now found.0 ∙ ap Some (sym (found.1 x.now)) in
    truth_at trail vars truths code x.now h (ap (λ zs. slice_get zs code) (sym same) ∙ e)
