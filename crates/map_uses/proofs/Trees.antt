-- The texts of a written map, each with its tree among the expressions of the map that it stands for.
use Rattle.std.proofs.Common.{◌≡◌, Bool, true, false, cond, inl, inr, refl, sym, subst, ◌∙◌, List, [], ◌∷◌, ◌++◌, map}
use Rattle.std.proofs.lemmas.Bool.{true≢false}
use Rattle.wb_values.specs.Value.{Entries}
use Rattle.model_meaning.specs.Model.{Model}
use Rattle.verilog_trees.specs.Syntax.{Expression, name, whole}
use Rattle.refinement.specs.Map.{Map, InstructionMap}
use Rattle.verilog_unique.proofs.Descent.{IsAmong}
use Rattle.map_files.specs.Written.{Text, InstructionEntry}
use Rattle.map_rules.specs.Case.{MapCase, state_sort, is_memory_named, value_texts, expression_texts}
use Rattle.map_rules.specs.Expressions.{ReadsAs}
use Rattle.map_rules.specs.Accepted.{AreRead, IsStateRead, AreStatesRead, AreInputsRead, AreInstructionsRead, StandsForMap}
use Rattle.map_judged.specs.Asked.{Asked}
use Rattle.map_judged.specs.Whole.{condition, valued, state_values, input_values, asked_in}

abbrev pub AreTrees : List Text → List Asked → Type 0
AreTrees [] [] = Unit {0}
AreTrees [] (x ∷ xs) = ⊥
AreTrees (t ∷ ts) [] = ⊥
AreTrees (t ∷ ts) (x ∷ xs) = ReadsAs t x.tree × AreTrees ts xs

joined : (ts us : List Text) (xs ys : List Asked) → AreTrees ts xs → AreTrees us ys → AreTrees (ts ++ us) (xs ++ ys)
joined [] us [] ys h g = g
joined [] us (x ∷ xs) ys h g = absurd h
joined (t ∷ ts) us [] ys h g = absurd h
joined (t ∷ ts) us (x ∷ xs) ys h g = (h.0, joined ts us xs ys h.1 g)

pub tree_for : (ts : List Text) (xs : List Asked) (t : Text) → AreTrees ts xs → IsAmong ts t → (x : Asked) × IsAmong xs x × ReadsAs t x.tree
tree_for [] xs t h a = absurd a
tree_for (u ∷ ts) [] t h a = absurd h
tree_for (u ∷ ts) (x ∷ xs) t h (inl e) = (x, inl refl, subst (λ v. ReadsAs v x.tree) e h.0)
tree_for (u ∷ ts) (x ∷ xs) t h (inr a) = let r = tree_for ts xs t h.1 a in (r.0, inr r.1, r.2)

pub text_for : (ts : List Text) (xs : List Asked) (x : Asked) → AreTrees ts xs → IsAmong xs x → (t : Text) × IsAmong ts t × ReadsAs t x.tree
text_for ts [] x h a = absurd a
text_for [] (y ∷ xs) x h a = absurd h
text_for (t ∷ ts) (y ∷ xs) x h (inl e) = (t, inl refl, subst (λ (z : Asked). ReadsAs t z.tree) e h.0)
text_for (t ∷ ts) (y ∷ xs) x h (inr a) = let r = text_for ts xs x h.1 a in (r.0, inr r.1, r.2)

pub conditions : (ts : List Text) (es : List Expression) → AreRead ts es → AreTrees ts (map condition es)
conditions _ _ AreRead.none = tt
conditions _ _ (AreRead.read t e ts es r h) = (r, conditions ts es h)

pub state_trees : (m : Model) (ts : Entries Text) (es : Entries Expression) → AreStatesRead m ts es → AreTrees (value_texts m ts) (state_values m es)
state_trees m _ _ AreStatesRead.none = tt
state_trees m _ _ (AreStatesRead.state n t e ts es h rest) = by e h (state_trees m ts es rest) where
  chosen : (b : Bool) (e : Expression) → is_memory_named m n ≡ b → (b ≡ false → ReadsAs t e) → AreTrees (value_texts m ts) (state_values m es)
      → AreTrees (cond b (value_texts m ts) (t ∷ value_texts m ts)) (cond b (state_values m es) (valued (state_sort m n) e ∷ state_values m es))
  chosen true e g r k = k
  chosen false e g r k = (r refl, k)

  by : (e : Expression) → IsStateRead m n t e → AreTrees (value_texts m ts) (state_values m es) → AreTrees (value_texts m ((n, t) ∷ ts)) (state_values m ((n, e) ∷ es))
  by _ (IsStateRead.a_value e g r) k = chosen (is_memory_named m n) e refl (λ _. r) k
  by _ (IsStateRead.a_memory g) k = chosen (is_memory_named m n) (name t whole) refl (λ f. absurd (true≢false (sym g ∙ f))) k

input_trees : (m : Model) (ts : Entries Text) (es : Entries Expression) → AreInputsRead ts es → AreTrees (map (λ e. e.1) ts) (input_values m es)
input_trees m _ _ AreInputsRead.none = tt
input_trees m _ _ (AreInputsRead.an_input n t e ts es r h) = (r, input_trees m ts es h)

commit_trees : (is : List InstructionEntry) (js : List InstructionMap) → AreInstructionsRead is js
    → AreTrees (map (λ i. i.commit) is) (map (λ (i : InstructionMap). condition i.commit) js)
commit_trees _ _ AreInstructionsRead.none = tt
commit_trees _ _ (AreInstructionsRead.instruction n t b e is js r h) = (r, commit_trees is js h)

pub all_trees : (c : MapCase) (p : Map) → StandsForMap c.model c.written p → AreTrees (expression_texts c) (asked_in c.model p)
all_trees c p h =
    joined c.written.assume _ (map condition p.assume) _ (conditions c.written.assume p.assume h.assume)
    (joined c.written.invariants _ (map condition p.invariants) _ (conditions c.written.invariants p.invariants h.invariants) (
      h.start,
      joined (value_texts c.model c.written.states) _ (state_values c.model p.states) _ (state_trees c.model c.written.states p.states h.states)
          (joined (map (λ e. e.1) c.written.inputs) _ (input_values c.model p.inputs) _ (input_trees c.model c.written.inputs p.inputs h.inputs)
          (commit_trees c.written.instructions p.instructions h.instructions)),
    ))
