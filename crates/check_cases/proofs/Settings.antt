-- Files stand for at most one setting: each of its parts is read in one way.
use Rattle.std.proofs.Common.{◌≡◌, ◌∙◌, ℕ, List, ◌∷◌, Ok, refl, sym, subst}
use Rattle.wb_values.specs.Value.{Name, Entries}
use Rattle.model_meaning.specs.Model.{Model}
use Rattle.model_files.specs.Meaning as models
use Rattle.model_files.specs.Meaning.{ModelReading}
use Rattle.map_files.specs.Written.{Text, InstructionEntry, WrittenMap}
use Rattle.map_files.specs.Meaning as maps
use Rattle.map_files.specs.Meaning.{MapReading}
use Rattle.map_rules.specs.Expressions.{ReadsAs}
use Rattle.map_rules.specs.Accepted.{AreRead, IsStateRead, AreStatesRead, AreInputsRead, AreInstructionsRead, StandsForMap}
use Rattle.verilog_text.specs.Token.{Token}
use Rattle.verilog_text.specs.Text.{Refusal, tokens_in}
use Rattle.verilog_text.specs.Grammar.{IsSource, IsTreeOf}
use Rattle.verilog_trees.specs.Syntax.{Expression, Source}
use Rattle.refinement.specs.Map.{Map, InstructionMap}
use Rattle.std.specs.Prelude.{Result}
use Rattle.check_cases.specs.Laws.{FilesAreOneSetting}
use Rattle.check_cases.proofs.Told.{OneSource}

abbrev pub OneExpression : Type 0
OneExpression = (t : Text) (e f : Expression) → ReadsAs t e → ReadsAs t f → e ≡ f

same_model : {m n : Model} → models.stands_for m ≡ models.stands_for n → m ≡ n
same_model e = cc

same_written : {v w : WrittenMap} → maps.says v ≡ maps.says w → v ≡ w
same_written e = cc

same_list : {ts us : List Token} (r : Result (List Token) Refusal) → r ≡ Ok ts → r ≡ Ok us → ts ≡ us
same_list r e f = cc

-- ---- maps

lists_read : OneExpression → (ts : List Text) (es fs : List Expression) → AreRead ts es → AreRead ts fs → es ≡ fs
lists_read one _ _ _ AreRead.none AreRead.none = refl
lists_read one _ _ _ (AreRead.read t e ts es r rs) (AreRead.read _ f _ fs q qs) =
    let head : e ≡ f = one t e f r q in
    let tail : es ≡ fs = lists_read one ts es fs rs qs in
    λ i. head i ∷ tail i

one_state : OneExpression → (m : Model) (n : Name) (t : Text) (e f : Expression) → IsStateRead m n t e → IsStateRead m n t f → e ≡ f
one_state one m n t _ _ (IsStateRead.a_value e _ r) (IsStateRead.a_value f _ q) = one t e f r q
one_state one m n t _ _ (IsStateRead.a_value e value r) (IsStateRead.a_memory memory) = cc
one_state one m n t _ _ (IsStateRead.a_memory memory) (IsStateRead.a_value f value q) = cc
one_state one m n t _ _ (IsStateRead.a_memory a) (IsStateRead.a_memory b) = refl

states_read : OneExpression → (m : Model) (ts : Entries Text) (es fs : Entries Expression) → AreStatesRead m ts es → AreStatesRead m ts fs → es ≡ fs
states_read one m _ _ _ AreStatesRead.none AreStatesRead.none = refl
states_read one m _ _ _ (AreStatesRead.state n t e ts es r rs) (AreStatesRead.state _ _ f _ fs q qs) =
    let head : e ≡ f = one_state one m n t e f r q in
    let tail : es ≡ fs = states_read one m ts es fs rs qs in
    λ i. (n, head i) ∷ tail i

inputs_read : OneExpression → (ts : Entries Text) (es fs : Entries Expression) → AreInputsRead ts es → AreInputsRead ts fs → es ≡ fs
inputs_read one _ _ _ AreInputsRead.none AreInputsRead.none = refl
inputs_read one _ _ _ (AreInputsRead.an_input n t e ts es r rs) (AreInputsRead.an_input _ _ f _ fs q qs) =
    let head : e ≡ f = one t e f r q in
    let tail : es ≡ fs = inputs_read one ts es fs rs qs in
    λ i. (n, head i) ∷ tail i

instructions_read : OneExpression → (ts : List InstructionEntry) (es fs : List InstructionMap) → AreInstructionsRead ts es → AreInstructionsRead ts fs → es ≡ fs
instructions_read one _ _ _ AreInstructionsRead.none AreInstructionsRead.none = refl
instructions_read one _ _ _ (AreInstructionsRead.instruction n t b e ts es r rs) (AreInstructionsRead.instruction _ _ _ f _ fs q qs) =
    let head : e ≡ f = one t e f r q in
    let tail : es ≡ fs = instructions_read one ts es fs rs qs in
    λ i. record { called = n; commit = head i; bound = b } ∷ tail i

one_map : OneExpression → (m : Model) (w : WrittenMap) (p q : Map) → StandsForMap m w p → StandsForMap m w q → p ≡ q
one_map one m w p q h g =
    let top = h.top ∙ sym g.top in
    let clock = h.clock ∙ sym g.clock in
    let signal = h.reset_signal ∙ sym g.reset_signal in
    let active = h.reset_active ∙ sym g.reset_active in
    let cycles = h.reset_cycles ∙ sym g.reset_cycles in
    let assume = lists_read one w.assume p.assume q.assume h.assume g.assume in
    let invariants = lists_read one w.invariants p.invariants q.invariants h.invariants g.invariants in
    let start = one w.start p.start q.start h.start g.start in
    let states = states_read one m w.states p.states q.states h.states g.states in
    let inputs = inputs_read one w.inputs p.inputs q.inputs h.inputs g.inputs in
    let instructions = instructions_read one w.instructions p.instructions q.instructions h.instructions g.instructions in
    λ i. record {
      top = top i;
      clock = clock i;
      reset_signal = signal i;
      reset_active = active i;
      reset_cycles = cycles i;
      assume = assume i;
      invariants = invariants i;
      start = start i;
      states = states i;
      inputs = inputs i;
      instructions = instructions i;
    }

moved : {m n : Model} {v w : WrittenMap} (p : Map) → m ≡ n → v ≡ w → StandsForMap m v p → StandsForMap n w p
moved {m = m} {n = n} {v = v} {w = w} p e f h = subst (λ x. StandsForMap n x p) f (subst (λ x. StandsForMap x v p) e h)

-- ---- files

one_tree : OneSource → (ds : List (List ℕ)) (ms ns : Source) → IsTreeOf ds ms → IsTreeOf ds ns → ms ≡ ns
one_tree one ds ms ns h g =
    let same : g.tokens ≡ h.tokens = same_list (tokens_in ds) g.are_tokens h.are_tokens in
    one ms ns h.tokens h.is_source (subst (λ ts. IsSource ns ts) same g.is_source)

pub one_setting : OneSource → OneExpression → FilesAreOneSetting
one_setting source expression m p ds s t h g =
    let model : s.model ≡ t.model = same_model (sym h.is_model ∙ g.is_model) in
    let tree : s.source ≡ t.source = one_tree source ds s.source t.source h.is_tree g.is_tree in
    let written : g.is_map.written ≡ h.is_map.written = same_written (sym g.is_map.says ∙ h.is_map.says) in
    let stands : StandsForMap s.model h.is_map.written t.map = moved t.map (sym model) written g.is_map.stands_for in
    let map : s.map ≡ t.map = one_map expression s.model h.is_map.written s.map t.map h.is_map.stands_for stands in
    λ i. record { model = model i; source = tree i; map = map i }
