-- The flags of a map's expressions, by the tokens of a written map that stands for it.
use Rattle.std.proofs.Common.{◌≡◌, ◌∙◌, ℕ, suc, ◌+◌, ◌<◌, refl, sym, ap, Bool, true, false, cond, List, [], ◌∷◌, ◌++◌, length, get_or, take, replicate, Option, Some, None}
use Rattle.std.proofs.lemmas.List.{take_more, append_assoc}
use Rattle.std.specs.Prelude.{is_some, not}
use Rattle.wb_values.specs.Value.{Name, Entries}
use Rattle.model_meaning.specs.Model.{Model}
use Rattle.verilog_trees.specs.Syntax as tree
use Rattle.refinement.specs.Map.{Map, InstructionMap}
use Rattle.map_files.specs.Written.{Text, WrittenMap, InstructionEntry}
use Rattle.map_rules.specs.Case.{is_memory_named}
use Rattle.map_rules.specs.Accepted.{AreRead, AreStatesRead, AreInputsRead, AreInstructionsRead, StandsForMap}
use Rattle.map_trees.specs.declared.tokens.TextTokens.{TextTokens}
use Rattle.map_trees.specs.declared.tokens.StateTokens.{StateTokens}
use Rattle.map_trees.specs.declared.tokens.MapTokens.{MapTokens}
use Rattle.map_trees.specs.Tokens.{IsTokens, IsStateTokens, IsInputEntry, IsInstructionEntry, AreStateTokens, AreMapTokens}
use Rattle.map_judged.specs.Whole.{state_values}
use Rattle.map_uses.specs.Whole.{asked_flags, flag_each}
use Rattle.map_reading.specs.Flags.{value_flags}
use Rattle.map_reading.proofs.Lists.{as_many}

-- ---- lists that are as long

read_many : (ts : List Text) (es : List tree.Expression) → AreRead ts es → length ts ≡ length es
read_many _ _ AreRead.none = refl
read_many _ _ (AreRead.read t e ts es r h) = ap suc (read_many ts es h)

inputs_many : (ts : Entries Text) (es : Entries tree.Expression) → AreInputsRead ts es → length ts ≡ length es
inputs_many _ _ AreInputsRead.none = refl
inputs_many _ _ (AreInputsRead.an_input n t e ts es r h) = ap suc (inputs_many ts es h)

commits_many : (ts : List InstructionEntry) (es : List InstructionMap) → AreInstructionsRead ts es → length ts ≡ length es
commits_many _ _ AreInstructionsRead.none = refl
commits_many _ _ (AreInstructionsRead.instruction n t b e ts es r h) = ap suc (commits_many ts es h)

same_flags : {A : Type 0} (b : Bool) (n : ℕ) (xs : List A) → n ≡ length xs → replicate n b ≡ flag_each b xs
same_flags b n [] e = ap (λ k. replicate k b) e
same_flags b n (x ∷ xs) e = ap (λ k. replicate k b) e ∙ ap (λ z. b ∷ z) (same_flags b (length xs) xs refl)

-- ---- states

has_tokens : (b : Bool) (o : Option TextTokens) (t : Text) → IsStateTokens b o t → is_some o ≡ not b
has_tokens true None t h = refl
has_tokens true (Some x) t h = absurd h
has_tokens false None t h = absurd h
has_tokens false (Some x) t h = refl

module _ (m : Model) where
  abbrev Flagged : List StateTokens → Entries tree.Expression → Type 0
  Flagged xs es = value_flags xs ≡ flag_each true (state_values m es)

  one_flagged : (b : Bool) (x : StateTokens) (xs : List StateTokens) (n : Name) (e : tree.Expression) (es : Entries tree.Expression) → is_memory_named m n ≡ b
      → is_some x.tokens ≡ not b → Flagged xs es → Flagged (x ∷ xs) ((n, e) ∷ es)
  one_flagged true x xs n e es is has rest = rw (is, has) rest
  one_flagged false x xs n e es is has rest = rw (is, has) (ap (λ z. true ∷ z) rest)

  pub states_flagged : (xs : List StateTokens) (ts : Entries Text) (es : Entries tree.Expression) → AreStateTokens (is_memory_named m) xs ts → AreStatesRead m ts es
      → Flagged xs es
  states_flagged [] _ _ h AreStatesRead.none = refl
  states_flagged (x ∷ xs) _ _ h AreStatesRead.none = absurd h
  states_flagged [] _ _ h (AreStatesRead.state n t e ts es r g) = absurd h
  states_flagged (x ∷ xs) _ _ h (AreStatesRead.state n t e ts es r g) =
      one_flagged (is_memory_named m n) x xs n e es refl (has_tokens (is_memory_named m n) x.tokens t h.0.1) (states_flagged xs ts es h.1 g)

-- ---- all

pub all_flags : (m : Model) (w : WrittenMap) (x : MapTokens) (p : Map) → AreMapTokens m w x → StandsForMap m w p → (f0 f1 f2 f3 f4 f5 f6 : List Bool) → f0 ≡ []
    → f1 ≡ f0 ++ replicate (length x.assume.items) false → f2 ≡ f1 ++ replicate (length x.invariants.items) true → f3 ≡ f2 ++ false ∷ []
    → f4 ≡ f3 ++ value_flags x.states.items → f5 ≡ f4 ++ replicate (length x.inputs.items) false → f6 ≡ f5 ++ replicate (length x.instructions.items) false
    → f6 ≡ asked_flags m p
all_flags m w x p t h f0 f1 f2 f3 f4 f5 f6 e0 e1 e2 e3 e4 e5 e6 = left ∙ (grouped ∙ same) where
  a : List Bool
  a = replicate (length x.assume.items) false

  b : List Bool
  b = replicate (length x.invariants.items) true

  v : List Bool
  v = value_flags x.states.items

  i : List Bool
  i = replicate (length x.inputs.items) false

  j : List Bool
  j = replicate (length x.instructions.items) false

  left : f6 ≡ ((((a ++ b) ++ false ∷ []) ++ v) ++ i) ++ j
  left =
      let g1 : f1 ≡ a = e1 ∙ ap (λ z. z ++ a) e0 in
      let g2 : f2 ≡ a ++ b = e2 ∙ ap (λ z. z ++ b) g1 in
      let g3 : f3 ≡ (a ++ b) ++ false ∷ [] = e3 ∙ ap (λ z. z ++ false ∷ []) g2 in
      let g4 : f4 ≡ ((a ++ b) ++ false ∷ []) ++ v = e4 ∙ ap (λ z. z ++ v) g3 in
      let g5 : f5 ≡ (((a ++ b) ++ false ∷ []) ++ v) ++ i = e5 ∙ ap (λ z. z ++ i) g4 in
      e6 ∙ ap (λ z. z ++ j) g5

  grouped : ((((a ++ b) ++ false ∷ []) ++ v) ++ i) ++ j ≡ a ++ (b ++ false ∷ (v ++ (i ++ j)))
  grouped =
      append_assoc (((a ++ b) ++ false ∷ []) ++ v) i j
      ∙ (append_assoc ((a ++ b) ++ false ∷ []) v (i ++ j)
      ∙ (append_assoc (a ++ b) (false ∷ []) (v ++ (i ++ j)) ∙ append_assoc a b (false ∷ (v ++ (i ++ j)))))

  same : a ++ (b ++ false ∷ (v ++ (i ++ j))) ≡ asked_flags m p
  same k =
      same_flags false (length x.assume.items) p.assume (as_many IsTokens x.assume.items w.assume t.assume ∙ read_many w.assume p.assume h.assume) k
      ++ (same_flags true (length x.invariants.items) p.invariants (as_many IsTokens x.invariants.items w.invariants t.invariants ∙ read_many w.invariants p.invariants h.invariants) k
      ++ false ∷ (states_flagged m x.states.items w.states p.states t.states h.states k
      ++ (same_flags false (length x.inputs.items) p.inputs (as_many IsInputEntry x.inputs.items w.inputs t.inputs ∙ inputs_many w.inputs p.inputs h.inputs) k
      ++ same_flags false (length x.instructions.items) p.instructions (as_many IsInstructionEntry x.instructions.items w.instructions t.instructions ∙ commits_many w.instructions p.instructions h.instructions) k)))

-- ---- loops

values_joined : (ys zs : List StateTokens) → value_flags (ys ++ zs) ≡ value_flags ys ++ value_flags zs
values_joined [] zs = refl
values_joined (y ∷ ys) zs = by y.tokens (values_joined ys zs) where
  by : (o : Option TextTokens) → value_flags (ys ++ zs) ≡ value_flags ys ++ value_flags zs
      → cond (is_some o) (true ∷ value_flags (ys ++ zs)) (value_flags (ys ++ zs)) ≡ cond (is_some o) (true ∷ value_flags ys) (value_flags ys) ++ value_flags zs
  by None e = e
  by (Some t) e = ap (λ z. true ∷ z) e

pub more_values : (xs : List StateTokens) (i : ℕ) (x d : StateTokens) → i < length xs → x ≡ get_or xs i d
    → value_flags (take (i + 1) xs) ≡ value_flags (take i xs) ++ value_flags (x ∷ [])
more_values xs i x d lt is =
    ap value_flags (take_more xs i d lt)
    ∙ (values_joined (take i xs) (get_or xs i d ∷ []) ∙ ap (λ z. value_flags (take i xs) ++ value_flags (z ∷ [])) (sym is))
