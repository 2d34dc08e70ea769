-- Lemmas on runs of a model, step by step.
use Rattle.std.proofs.Common.{◌≡◌, ℕ, suc, ◌+◌, Bool, true, List, [], ◌∷◌, ◌++◌, Some, refl, sym, ap, ◌∙◌, subst, append_assoc, Vec, Global, ◌<◌, length, get_or, drop}
use Rattle.std.specs.Prelude.{decimal}
use Rattle.std.specs.List.{list_all}
use Rattle.std.proofs.lemmas.List.{drop_more}
use Rattle.wb_values.specs.Value.{Value, Valuation}
use Rattle.model_meaning.specs.Model.{Model}
use Rattle.scripts.specs.Script.{settables_of, inputs_of}
use Rattle.model_meaning.specs.Outcome.{Outcome, IsOutcome, trouble, state_after}
use Rattle.scripts.specs.Simulation.{AreOutcomes, spaced, outcome_text, outcome_lines}
use Rattle.ila_child.specs.State.{IsStateOf, state_valuation}
use Rattle.ila_child.specs.Step.{outcome_view, IsWell}
use Rattle.ila_child.specs.declared.stepping.Stepped.{Stepped}
use Rattle.ila_child.specs.declared.stepping.Stepped.TheVariants.{Next, NotValid, NoInstruction, Several, ChildStuck, ChildTooLong}
use Rattle.ila_child.specs.declared.runs.Moved.{Moved}
use Rattle.ila_child.specs.declared.runs.Moved.TheVariants.{Next as NextPlace, NotValid as NotValidNow, NoInstruction as NoneNow, Several as SeveralNow, ChildStuck as StuckNow, ChildTooLong as TooLongNow}
use Rattle.ila_child.specs.Runs.{Stays, stepped_of}
use Rattle.ila_sim.specs.declared.set.Set.{Set}
use Rattle.ila_sim.specs.Lines.{sets_view}
use Rattle.ila_sim.specs.Outcomes.{values_after, IsToldFrom, inputs_from}
use Rattle.ila_sim.specs.Texts.{outcome_line}
use Rattle.ila_sim.proofs.Apart.{left_part, right_part}

after_meant : (m : Model) (q : List Value) (a : Stepped) → state_valuation m (values_after q a) ≡ state_after (state_valuation m q) (outcome_view m a)
after_meant m q (Next j r) = refl
after_meant m q NotValid = refl
after_meant m q NoInstruction = refl
after_meant m q (Several j k) = refl
after_meant m q (ChildStuck d s) = refl
after_meant m q (ChildTooLong d) = refl

-- the state after a step, by what stays
pub after_moved : (a : Moved) (q r : List Value) → Stays a q r → r ≡ values_after q (stepped_of a r)
after_moved (NextPlace j) q r h = refl
after_moved NotValidNow q r h = h
after_moved NoneNow q r h = h
after_moved (SeveralNow j k) q r h = h
after_moved (StuckNow d s) q r h = h
after_moved (TooLongNow d) q r h = h

pub after_well : (m : Model) (q r : List Value) (a : Stepped) → IsStateOf m q → IsWell m a → r ≡ values_after q a → IsStateOf m r
after_well m q r a h g e = subst (IsStateOf m) (sym e) (shown a g) where
  shown : (b : Stepped) → IsWell m b → IsStateOf m (values_after q b)
  shown (Next j s) w = w
  shown NotValid w = h
  shown NoInstruction w = h
  shown (Several j k) w = h
  shown (ChildStuck d s) w = h
  shown (ChildTooLong d) w = h

-- One step more: what is so of all outcomes that go on from a state is so of those that go on behind a step.
goes_on : (m : Model) (P : List Outcome → Type 0) (q r : List Value) (a : Stepped) (line : Vec Set Global) (lines : List (Vec Set Global))
    → ((os : List Outcome) → AreOutcomes m (state_valuation m q) (inputs_from m (line ∷ lines)) os → P os)
    → IsOutcome m (state_valuation m q) (inputs_of m (sets_view (settables_of m).inputs line.items)) (outcome_view m a) → r ≡ values_after q a
    → (os : List Outcome) → AreOutcomes m (state_valuation m r) (inputs_from m lines) os → P (outcome_view m a ∷ os)
goes_on m P q r a line lines f o e os h =
    let there = subst (λ v. AreOutcomes m v (inputs_from m lines) os) (ap (state_valuation m) e ∙ after_meant m q a) h in
    f (outcome_view m a ∷ os) (o, there)

pub one_more : (m : Model) (v : Valuation) (ws : List Valuation) (q r : List Value) (a : Stepped) (rest lines : List (Vec Set Global)) (line : Vec Set Global) (done more : List Outcome)
    → rest ≡ line ∷ lines
    → ((os : List Outcome) → AreOutcomes m (state_valuation m q) (inputs_from m rest) os → AreOutcomes m v ws (done ++ os))
    → IsOutcome m (state_valuation m q) (inputs_of m (sets_view (settables_of m).inputs line.items)) (outcome_view m a) → r ≡ values_after q a → more ≡ done ++ outcome_view m a ∷ []
    → (os : List Outcome) → AreOutcomes m (state_valuation m r) (inputs_from m lines) os → AreOutcomes m v ws (more ++ os)
one_more m v ws q r a rest lines line done more c f o e g os h =
    let from = subst (λ ls. (os : List Outcome) → AreOutcomes m (state_valuation m q) (inputs_from m ls) os → AreOutcomes m v ws (done ++ os)) c f in
    let all = goes_on m (λ os. AreOutcomes m v ws (done ++ os)) q r a line lines from o e os h in
    subst (AreOutcomes m v ws) (sym (ap (λ xs. xs ++ os) g ∙ append_assoc done (outcome_view m a ∷ []) os)) all

line_more : (m : Model) (n : ℕ) (o : Outcome) (os : List Outcome) (out : List ℕ) → (out ++ outcome_line m n o) ++ outcome_lines m (suc n) os ≡ out ++ outcome_lines m n (o ∷ os)
line_more m n o os out =
    append_assoc out (outcome_line m n o) (outcome_lines m (suc n) os)
    ∙ ap (λ t. out ++ t) (
    append_assoc (decimal n) (spaced (outcome_text m o) ++ 10 ∷ []) (outcome_lines m (suc n) os)
    ∙ ap (λ t. decimal n ++ t) (append_assoc (spaced (outcome_text m o)) (10 ∷ []) (outcome_lines m (suc n) os)))

pub line_told : (m : Model) (n : ℕ) (o : Outcome) (os : List Outcome) (out more : List ℕ) → more ≡ out ++ outcome_line m n o → more ++ outcome_lines m (suc n) os ≡ out ++ outcome_lines m n (o ∷ os)
line_told m n o os out more e = ap (λ t. t ++ outcome_lines m (suc n) os) e ∙ line_more m n o os out

pub one_told : (m : Model) (v : Valuation) (ws : List Valuation) (q r : List Value) (a : Stepped) (rest lines : List (Vec Set Global)) (line : Vec Set Global) (n : ℕ) (out more : List ℕ)
    → rest ≡ line ∷ lines
    → ((os : List Outcome) → AreOutcomes m (state_valuation m q) (inputs_from m rest) os → IsToldFrom m v ws (out ++ outcome_lines m n os))
    → IsOutcome m (state_valuation m q) (inputs_of m (sets_view (settables_of m).inputs line.items)) (outcome_view m a) → r ≡ values_after q a → more ≡ out ++ outcome_line m n (outcome_view m a)
    → (os : List Outcome) → AreOutcomes m (state_valuation m r) (inputs_from m lines) os → IsToldFrom m v ws (more ++ outcome_lines m (suc n) os)
one_told m v ws q r a rest lines line n out more c f o e g os h =
    let from = subst (λ ls. (os : List Outcome) → AreOutcomes m (state_valuation m q) (inputs_from m ls) os → IsToldFrom m v ws (out ++ outcome_lines m n os)) c f in
    let all = goes_on m (λ os. IsToldFrom m v ws (out ++ outcome_lines m n os)) q r a line lines from o e os h in
    subst (IsToldFrom m v ws) (sym (line_told m n (outcome_view m a) os out more g)) all

-- ---- the lines that are left

pub lines_next : (lines : List (Vec Set Global)) (k : ℕ) (line : Vec Set Global) → k < length lines → line ≡ get_or lines k line → drop k lines ≡ line ∷ drop (k + 1) lines
lines_next lines k line h e = drop_more lines k line h ∙ ap (λ (l : Vec Set Global). l ∷ drop (k + 1) lines) (sym e)

pub rest_right : (P : Vec Set Global → Bool) (rest lines : List (Vec Set Global)) (line : Vec Set Global) → rest ≡ line ∷ lines → list_all P rest ≡ true → list_all P lines ≡ true
rest_right P rest lines line c h = right_part (P line) (list_all P lines) (subst (λ ls. list_all P ls ≡ true) c h)

pub first_right : (P : Vec Set Global → Bool) (rest lines : List (Vec Set Global)) (line : Vec Set Global) → rest ≡ line ∷ lines → list_all P rest ≡ true → P line ≡ true
first_right P rest lines line c h = left_part (P line) (list_all P lines) (subst (λ ls. list_all P ls ≡ true) c h)

-- nothing is left
pub ended : (m : Model) (v : Valuation) (rest : List (Vec Set Global)) (P : List Outcome → Type 0) → rest ≡ [] → ((os : List Outcome) → AreOutcomes m v (inputs_from m rest) os → P os) → P []
ended m v rest P e f = subst (λ ls. (os : List Outcome) → AreOutcomes m v (inputs_from m ls) os → P os) e f [] tt

-- the start
pub start_told : (m : Model) (v w : Valuation) (ls ks : List (Vec Set Global)) (text : List ℕ) → v ≡ w → ls ≡ ks → text ≡ []
    → (os : List Outcome) → AreOutcomes m v (inputs_from m ls) os → IsToldFrom m w (inputs_from m ks) (text ++ outcome_lines m 1 os)
start_told m v w ls ks text e f g os h =
    (os, subst (λ u. AreOutcomes m u (inputs_from m ks) os) e (subst (λ l. AreOutcomes m v (inputs_from m l) os) f h), ap (λ t. t ++ outcome_lines m 1 os) g)
