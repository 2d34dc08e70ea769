-- Lemmas on the text of states and on texts put together.
use Rattle.std.proofs.Common.{◌≡◌, ℕ, zero, suc, ◌+◌, ◌<◌, true, List, [], ◌∷◌, ◌++◌, length, get_or, drop, Some, option_map, slice_get, refl, sym, ap, ◌∙◌, subst, arith, append_assoc, add-one, ◌≤◌}
use Rattle.std.proofs.lemmas.List.{drop_all, drop_more}
use Rattle.std.specs.Prelude.{Bool, false, cond, ◌==◌, Vec}
use Rattle.std.specs.Global.{Global}
use Rattle.sparse_memories.specs.declared.listing.SetWord.{SetWord}
use Rattle.sparse_memories.specs.Nodes.{set_words_from}
use Rattle.wb_values.specs.Value.{Name, Value, truth_value, number, words, Valuation}
use Rattle.model_meaning.specs.Model.{StateDeclaration, Model, states_of}
use Rattle.scripts.specs.Script.{settables_of}
use Rattle.scripts.specs.Simulation.{words_text, state_text, states_text}
use Rattle.term_evaluation.specs.declared.slots.Shown.TheVariants.{Truth as TruthShown, Number as NumberShown, Words as WordsShown}
use Rattle.term_evaluation.specs.Slots.{IsShownAs}
use Rattle.ila_child.specs.State.{sorts_of_states, state_valuation}
use Rattle.ila_sim.specs.Names.{are_apart}
use Rattle.ila_sim.specs.Outcomes.{settables_by, values_text}
use Rattle.ila_sim.specs.Places.{called_at}
use Rattle.ila_sim.specs.Texts.{number_text, address_text, set_words_text}
use Rattle.ila_sim.proofs.Declared.{named_as, states_by}
use Rattle.ila_sim.proofs.Made.{meant_at}

pub next_value : (ss : List StateDeclaration) (xs : List Value) (k : ℕ) (n : Name) → option_map (λ (s : StateDeclaration). s.state_name) (slice_get ss k) ≡ Some n
    → values_text (drop k ss) (drop k xs) ≡ state_text n (get_or xs k (number 0)) ++ values_text (drop (suc k) ss) (drop (suc k) xs)
next_value [] xs k n e = absurd (cc)
next_value (s ∷ ss) [] zero n e =
    let same : s.state_name ≡ n = cc in
    ap (λ m. state_text m (number 0) ++ values_text ss []) same
next_value (s ∷ ss) (x ∷ xs) zero n e =
    let same : s.state_name ≡ n = cc in
    ap (λ m. state_text m x ++ values_text ss xs) same
next_value (s ∷ ss) [] (suc k) n e = ap (values_text (drop k ss)) (nothing k) ∙ (next_value ss [] k n e ∙ ap (λ ys. state_text n (number 0) ++ values_text (drop (suc k) ss) ys) (sym (nothing (suc k)))) where
  nothing : (j : ℕ) → ◌≡◌ {A = List Value} [] (drop j [])
  nothing zero = refl
  nothing (suc j) = refl
next_value (s ∷ ss) (x ∷ xs) (suc k) n e = next_value ss xs k n e

pub value_told : (ss : List StateDeclaration) (xs : List Value) (k : ℕ) (n : Name) (out more : List ℕ) → option_map (λ (s : StateDeclaration). s.state_name) (slice_get ss k) ≡ Some n
    → more ≡ out ++ state_text n (get_or xs k (number 0)) → more ++ values_text (drop (k + 1) ss) (drop (k + 1) xs) ≡ out ++ values_text (drop k ss) (drop k xs)
value_told ss xs k n out more e f =
    ap (λ j. more ++ values_text (drop j ss) (drop j xs)) (add-one k)
    ∙ (ap (λ t. t ++ values_text (drop (suc k) ss) (drop (suc k) xs)) f
    ∙ (append_assoc out (state_text n (get_or xs k (number 0))) (values_text (drop (suc k) ss) (drop (suc k) xs))
    ∙ sym (ap (λ t. out ++ t) (next_value ss xs k n e))))

pub values_done : (ss : List StateDeclaration) (xs : List Value) (k : ℕ) → length ss ≤ k → values_text (drop k ss) (drop k xs) ≡ []
values_done ss xs k h = ap (λ ts. values_text ts (drop k xs)) (drop_all k ss h)

told_by : (ss : List StateDeclaration) (xs : List Value) (v : Valuation)
    → ((k : ℕ) → k < length (settables_by (sorts_of_states ss)) → v (called_at (settables_by (sorts_of_states ss)) k) ≡ get_or xs k (number 0)) → states_text ss v ≡ values_text ss xs
told_by [] xs v h = refl
told_by (s ∷ ss) [] v h =
    ap (λ x. state_text s.state_name x ++ states_text ss v) (ap v (sym (named_as s.state_name s.sort)) ∙ h 0 (omega arith))
    ∙ ap (λ t. state_text s.state_name (number 0) ++ t) (told_by ss [] v (λ k l. h (suc k) (omega arith)))
told_by (s ∷ ss) (x ∷ xs) v h =
    ap (λ y. state_text s.state_name y ++ states_text ss v) (ap v (sym (named_as s.state_name s.sort)) ∙ h 0 (omega arith))
    ∙ ap (λ t. state_text s.state_name x ++ t) (told_by ss xs v (λ k l. h (suc k) (omega arith)))

-- the text of a state is that of its values
pub states_told : (m : Model) (xs : List Value) → are_apart (settables_of m).states ≡ true → states_text (states_of m.top) (state_valuation m xs) ≡ values_text (states_of m.top) xs
states_told m xs a =
    let ns = sorts_of_states (states_of m.top) in
    let apart = subst (λ ss. are_apart ss ≡ true) (states_by (states_of m.top)) a in
    told_by (states_of m.top) xs (state_valuation m xs) (λ k h. meant_at ns xs k apart h)

-- ---- what is shown of values

shown_or_not : (t : Bool) (n : Name) (a w : ℕ) (rest : List SetWord) (told : List ℕ) → set_words_text n rest ≡ told
    → set_words_text n (cond t rest (record { address = a; word = w } ∷ rest)) ≡ cond t [] (address_text n a w) ++ told
shown_or_not true n a w rest told e = e
shown_or_not false n a w rest told e = ap (λ (t : List ℕ). address_text n a w ++ t) e

-- The words other than 0 of a memory are told as all its words are.
pub words_shown : (n : Name) (a : ℕ) (ws : List ℕ) → set_words_text n (set_words_from a ws) ≡ words_text n a ws
words_shown n a [] = refl
words_shown n a (w ∷ ws) = shown_or_not (w == 0) n a w (set_words_from (suc a) ws) (words_text n (suc a) ws) (words_shown n (suc a) ws)

-- one word more is told
pub words_turn : (n : Name) (ws : List SetWord) (k : ℕ) (d : SetWord) (out more : List ℕ) → k < length ws → more ≡ out ++ address_text n (get_or ws k d).address (get_or ws k d).word
    → more ++ set_words_text n (drop (k + 1) ws) ≡ out ++ set_words_text n (drop k ws)
words_turn n ws k d out more h e =
    let w = get_or ws k d in
    ap (λ (t : List ℕ). t ++ set_words_text n (drop (k + 1) ws)) e
    ∙ append_assoc out (address_text n w.address w.word) (set_words_text n (drop (k + 1) ws))
    ∙ sym (ap (λ (vs : List SetWord). out ++ set_words_text n vs) (drop_more ws k d h))

pub truth_told : (n : Name) (v : Value) (b : Bool) → IsShownAs v (TruthShown b) → number_text n (cond b 1 0) ≡ state_text n v
truth_told n (truth_value c) b h = ap (λ (t : Bool). number_text n (cond t 1 0)) h
truth_told n (number m) b h = absurd h
truth_told n (words ws) b h = absurd h

pub number_told : (n : Name) (v : Value) (x : ℕ) → IsShownAs v (NumberShown x) → number_text n x ≡ state_text n v
number_told n (truth_value c) x h = absurd h
number_told n (number m) x h = ap (number_text n) h
number_told n (words ws) x h = absurd h

pub words_told : (n : Name) (v : Value) (found : Vec SetWord Global) → IsShownAs v (WordsShown found) → set_words_text n found.items ≡ state_text n v
words_told n (truth_value c) found h = absurd h
words_told n (number m) found h = absurd h
words_told n (words ws) found h = ap (set_words_text n) h ∙ words_shown n 0 ws

-- ---- texts put together

pub two_parts : (a b c t x : List ℕ) → b ≡ a ++ t → c ≡ b ++ x → c ≡ a ++ (t ++ x)
two_parts a b c t x f g = g ∙ (ap (λ l. l ++ x) f ∙ append_assoc a t x)

pub four_parts : (a b c d e t x y z : List ℕ) → b ≡ a ++ t → c ≡ b ++ x → d ≡ c ++ y → e ≡ d ++ z → e ≡ a ++ (t ++ (x ++ (y ++ z)))
four_parts a b c d e t x y z f g h i =
    two_parts a b e t (x ++ (y ++ z)) f (two_parts b c e x (y ++ z) g (two_parts c d e y z h i))
