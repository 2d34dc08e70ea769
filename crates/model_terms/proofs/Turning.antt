-- Turns of a program in terms: what an instruction before others, a turn after others, and the end of a run say.
use Rattle.std.proofs.Common.{◌≡◌, ℕ, zero, suc, ◌+◌, ◌-◌, ◌<◌, ◌≤◌, Bool, true, false, cond, ◌&&◌, List, [], ◌∷◌, ◌++◌, map, length, get_or, drop, Option, Some, None, refl, sym, ap, ◌∙◌, subst, arith}
use Rattle.std.specs.Prelude.{not}
use Rattle.std.proofs.lemmas.Bool.{and_parts, and_from, false≢true}
use Rattle.std.proofs.lemmas.List.{drop_more}
use Rattle.wb_values.specs.Value as meaning
use Rattle.wb_values.specs.Value.{Entries, Sort, Valuation}
use Rattle.model_meaning.specs.Model as pure
use Rattle.model_meaning.specs.Model.{holds, updated, entered, left_behind}
use Rattle.model_results.specs.Results.{Result, ended_at, failed_at, followed, iterated, none_decodes, only_where, out_of, child_result, stepped, one_result}
use Rattle.wb_terms.specs.declared.nodes.TermId.{TermId}
use Rattle.wb_terms.specs.Graph.{Graph, tree}
use Rattle.term_copies.specs.Copies.{IsExtended, AreLeaves, IsCopy, id_at}
use Rattle.term_copies.proofs.Extending.{extended_trans}
use Rattle.term_copies.proofs.Copying.{leaves_kept, copy_kept}
use Rattle.ila_model.specs.declared.parts.Instruction.{Instruction}
use Rattle.ila_model.specs.declared.parts.Update.{Update}
use Rattle.ila_model.specs.declared.parts.Parts.{Parts}
use Rattle.ila_model.specs.Scope.{nesting}
use Rattle.ila_model.specs.Sorted.{is_condition, are_updates}
use Rattle.ila_model.specs.Meaning.{update_of, instruction_of, instructions_of}
use Rattle.ila_model.proofs.Declarations.{AreSorted}
use Rattle.ila_child.specs.Running.{point_at, HasDepth, program_in}
use Rattle.model_terms.specs.Symbolic.{worths, sees, is_true, IsCondition, IsTest, IsReached}
use Rattle.model_terms.specs.Copied.{HasCopies, terms_of_instruction, terms_of_instructions, with_copies}
use Rattle.model_terms.specs.Programs.{pure_instructions, IsTaken, Led, IsAdded, IsTurned}
use Rattle.model_terms.proofs.Choosing.{value_kept, true_kept, test_kept, worths_kept}
use Rattle.model_terms.proofs.Pointing.{update_terms, updated_sees, condition_sees, has_copies_kept}

pub worths_leaves : {g h : Graph} (names : Entries Sort) (ids : List TermId) (v : Valuation) → IsExtended g h → AreLeaves g names ids → worths h ids v ≡ worths g ids v
worths_leaves names ids v e a = worths_kept ids v e (λ k l. a.below k (omega (arith, l, a.count)))

pub reached_kept : {g h : Graph} (p : Parts) (at : Option ℕ) (ended : ℕ) (point : List TermId) (r : Valuation → Result) → IsExtended g h → IsReached g p at ended point r → IsReached h p at ended point r
reached_kept {g} {h} p at ended point r e a = record {
  test = test_kept ended e a.test;
  leaves = leaves_kept p.terms.names point e a.leaves;
  is_ended = λ v. true_kept ended v e a.test.below ∙ a.is_ended v;
  at_point = λ v t. ap (point_at p at) (worths_leaves p.terms.names point v e a.leaves) ∙ a.at_point v t;
}

pub reached_same : (g : Graph) (p : Parts) (at : Option ℕ) (ended : ℕ) (point : List TermId) (r s : Valuation → Result) → ((v : Valuation) → r v ≡ s v) → IsReached g p at ended point r → IsReached g p at ended point s
reached_same g p at ended point r s e a = record {
  test = a.test;
  leaves = a.leaves;
  is_ended = λ v. a.is_ended v ∙ ap (λ (x : Result). x.ended) (e v);
  at_point = λ v t. a.at_point v (ap (λ (x : Result). x.ended) (e v) ∙ t) ∙ ap (λ (x : Result). x.point) (e v);
}

-- choices between results
chosen_ended : (b : Bool) (x y : Bool) (X Y : Result) → x ≡ X.ended → y ≡ Y.ended → cond b x y ≡ (cond b X Y).ended
chosen_ended true x y X Y e f = e
chosen_ended false x y X Y e f = f

chosen_point : (p : Parts) (at : Option ℕ) (b : Bool) (xs ys : List meaning.Value) (X Y : Result) → (X.ended ≡ true → point_at p at xs ≡ X.point) → (Y.ended ≡ true → point_at p at ys ≡ Y.point) → (cond b X Y).ended ≡ true → point_at p at (cond b xs ys) ≡ (cond b X Y).point
chosen_point p at true xs ys X Y f g t = f t
chosen_point p at false xs ys X Y f g t = g t

-- an instruction before others
pub taken_more : {g0 g1 g2 h : Graph} (p : Parts) (s : AreSorted p) (at : Option ℕ) (d : ℕ) (i : Instruction) (rest : List Instruction) (point copies : List TermId) (one others both : Led)
    → HasDepth p.children.items d at → d ≤ nesting → is_condition p at i.decode.0 ≡ true → are_updates p at 0 i.updates.items ≡ true
    → AreLeaves g0 p.terms.names point → HasCopies g0 p.terms point copies (terms_of_instruction i)
    → IsExtended g0 g1 → IsExtended g1 g2
    → IsTaken g1 p at d rest others.none others.ended others.point (λ v. sees g0 p at point v)
    → IsReached g2 p at one.ended one.point (λ v. child_result (program_in p d i.child) (sees g1 p at (with_copies copies i.updates.items point) v))
    → IsAdded g2 h p.terms.names (id_at copies i.decode.0) one others both
    → IsTaken h p at d (i ∷ rest) both.none both.ended both.point (λ v. sees g0 p at point v)
taken_more {g0} {g1} {g2} {h} p s at d i rest point copies one others both deep low cond_is updates_are leaves has e1 e2 taken reached added =
    let names = p.terms.names in
    let e02 = extended_trans e1 e2 in
    let inner = program_in p d in
    let x : Valuation → Valuation = λ v. sees g0 p at point v in
    let here : (v : Valuation) → sees g1 p at (with_copies copies i.updates.items point) v ≡ updated (map (update_of p.terms) i.updates.items) (x v) = λ v.
    updated_sees p s at d i.updates.items g1 point copies v deep low updates_are (leaves_kept names point e1 leaves) (has_copies_kept p.terms point copies (update_terms i.updates.items) e1 leaves has.1)
    ∙ ap (λ (ys : List meaning.Value). updated (map (update_of p.terms) i.updates.items) (point_at p at ys)) (worths_leaves names point v e1 leaves) in
    let R : Valuation → Result = λ v. child_result (inner i.child) (updated (map (update_of p.terms) i.updates.items) (x v)) in
    let O : Valuation → Result = λ v. one_result (pure_instructions p d rest) (x v) in
    let r = reached_same g2 p at one.ended one.point _ R (λ v. ap (child_result (inner i.child)) (here v)) reached in
    let o = reached_kept p at others.ended others.point O e2 taken.reached in
    let D : Valuation → Bool = λ v. holds (tree p.terms i.decode.0) (x v) in
    let N : Valuation → Bool = λ v. none_decodes (pure_instructions p d rest) (x v) in
    let decides : (v : Valuation) → is_true g2 (id_at copies i.decode.0) v ≡ D v = λ v.
    true_kept (id_at copies i.decode.0) v e02 has.0.below ∙ condition_sees p s at d g0 point (id_at copies i.decode.0) i.decode.0 v deep low cond_is leaves has.0 in
    let nothing : (v : Valuation) → is_true g2 others.none v ≡ N v = λ v. true_kept others.none v e2 taken.none_test.below ∙ taken.is_none v in
    record {
      none_test = added.none_test;
      is_none = λ v. added.none_value v ∙ ap (λ b. cond b false (is_true g2 others.none v)) (decides v) ∙ ap (λ b. cond (D v) false b) (nothing v);
      reached = record {
        test = added.ended_test;
        leaves = added.leaves;
        is_ended = λ v.
            added.ended_value v ∙ ap (λ b. cond b (is_true g2 others.none v && is_true g2 one.ended v) (is_true g2 others.ended v)) (decides v)
            ∙ chosen_ended (D v) (is_true g2 others.none v && is_true g2 one.ended v) (is_true g2 others.ended v) (only_where (N v) (R v)) (O v)
            (ap (λ b. b && is_true g2 one.ended v) (nothing v) ∙ ap (λ b. N v && b) (r.is_ended v)) (o.is_ended v);
        at_point = λ v t.
            ap (point_at p at) (added.point_value v ∙ ap (λ b. cond b (worths g2 one.point v) (worths g2 others.point v)) (decides v))
            ∙ chosen_point p at (D v) (worths g2 one.point v) (worths g2 others.point v) (only_where (N v) (R v)) (O v)
            (λ q. r.at_point v (and_parts (N v) (R v).ended q).1) (o.at_point v) t;
      };
    }

pub taken_none : {g h : Graph} (p : Parts) (at : Option ℕ) (d : ℕ) (point ids : List TermId) (none ended : ℕ) (x : Valuation → Valuation)
    → IsExtended g h → AreLeaves g p.terms.names point → ids ≡ point → IsTest h none → IsTest h ended → ((v : Valuation) → is_true h none v ≡ true) → ((v : Valuation) → is_true h ended v ≡ false)
    → IsTaken h p at d [] none ended ids x
taken_none {g} {h} p at d point ids none ended x e leaves same n t nv tv = record {
  none_test = n;
  is_none = nv;
  reached = record {
    test = t;
    leaves = subst (λ (r : List TermId). AreLeaves h p.terms.names r) (sym same) (leaves_kept p.terms.names point e leaves);
    is_ended = tv;
    at_point = λ v q. absurd (false≢true q);
  };
}

-- the step of a machine at the point of what was taken
stepped_ended : (b t : Bool) (O : Result) (p : Valuation) → t ≡ O.ended → cond b t true ≡ (cond b O (ended_at p)).ended
stepped_ended true t O p e = e
stepped_ended false t O p e = refl

stepped_point : (p : Parts) (at : Option ℕ) (b : Bool) (xs ys : List meaning.Value) (O : Result) (x : Valuation) → (O.ended ≡ true → point_at p at xs ≡ O.point) → point_at p at ys ≡ x → (cond b O (ended_at x)).ended ≡ true → point_at p at (cond b xs ys) ≡ (cond b O (ended_at x)).point
stepped_point p at true xs ys O x f g t = f t
stepped_point p at false xs ys O x f g t = g

both_of : (a b : Bool) (A B : Bool) → a ≡ A → (A ≡ true → b ≡ B) → (a && b) ≡ (A && B)
both_of a b true B e f = ap (λ z. z && b) e ∙ f refl
both_of a b false B e f = ap (λ z. z && b) e

abbrev pub step_at : Parts → (depth : ℕ) → (valid : ℕ) → List Instruction → Valuation → Result
step_at p d k is x = cond (holds (tree p.terms k) x) (one_result (pure_instructions p d is) x) (ended_at x)

-- a turn after others
pub turned : {g0 g1 g2 h : Graph} (p : Parts) (s : AreSorted p) (at : Option ℕ) (d k n : ℕ) (is : List Instruction) (copy : ℕ) (taken before after : Led) (start : Valuation → Valuation)
    → HasDepth p.children.items d at → d ≤ nesting → is_condition p at k ≡ true
    → IsExtended g0 g1 → IsExtended g1 g2
    → IsReached g0 p at before.ended before.point (λ v. iterated (step_at p d k is) n (start v))
    → IsCopy g1 p.terms before.point copy k
    → IsReached g2 p at taken.ended taken.point (λ v. one_result (pure_instructions p d is) (sees g1 p at before.point v))
    → IsTurned g2 h p.terms.names copy taken before after
    → IsReached h p at after.ended after.point (λ v. iterated (step_at p d k is) (n + 1) (start v))
turned {g0} {g1} {g2} {h} p s at d k n is copy taken before after start deep low cond_is e1 e2 reached copied took turn =
    let names = p.terms.names in
    let f = step_at p d k is in
    let e02 = extended_trans e1 e2 in
    let leaves1 = leaves_kept names before.point e1 reached.leaves in
    let x : Valuation → Valuation = λ v. sees g1 p at before.point v in
    let V : Valuation → Bool = λ v. holds (tree p.terms k) (x v) in
    let O : Valuation → Result = λ v. one_result (pure_instructions p d is) (x v) in
    let r : Valuation → Result = λ v. iterated f n (start v) in
    let valid : (v : Valuation) → is_true g2 copy v ≡ V v = λ v. true_kept copy v e2 copied.below ∙ condition_sees p s at d g1 before.point copy k v deep low cond_is leaves1 copied in
    let same : (v : Valuation) → (r v).ended ≡ true → x v ≡ (r v).point = λ v t. ap (point_at p at) (worths_leaves names before.point v e1 reached.leaves) ∙ reached.at_point v t in
    let step_ended : (v : Valuation) → cond (is_true g2 copy v) (is_true g2 taken.ended v) true ≡ (f (x v)).ended = λ v.
    ap (λ b. cond b (is_true g2 taken.ended v) true) (valid v) ∙ stepped_ended (V v) (is_true g2 taken.ended v) (O v) (x v) (took.is_ended v) in
    let step_point : (v : Valuation) → (f (x v)).ended ≡ true → sees h p at after.point v ≡ (f (x v)).point = λ v t.
    ap (point_at p at) (turn.point_value v ∙ ap (λ b. cond b (worths g2 taken.point v) (worths g2 before.point v)) (valid v))
    ∙ stepped_point p at (V v) (worths g2 taken.point v) (worths g2 before.point v) (O v) (x v) (took.at_point v) (ap (point_at p at) (worths_leaves names before.point v e2 leaves1)) t in
    let z : suc n ≡ n + 1 = omega arith in
    subst (λ m. IsReached h p at after.ended after.point (λ v. iterated f m (start v))) z (record {
      test = turn.ended_test;
      leaves = turn.leaves;
      is_ended = λ v.
          turn.ended_value v
          ∙ both_of (is_true g2 before.ended v) (cond (is_true g2 copy v) (is_true g2 taken.ended v) true) (r v).ended (f (r v).point).ended
          (true_kept before.ended v e02 reached.test.below ∙ reached.is_ended v)
          (λ t. step_ended v ∙ ap (λ y. (f y).ended) (same v t));
      at_point = λ v t.
          (let both = and_parts (r v).ended (f (r v).point).ended t in
          let e = same v both.0 in
          step_point v (ap (λ y. (f y).ended) e ∙ both.1) ∙ ap (λ y. (f y).point) e);
    })
