-- The terms of a model's instructions and conditions, and what they say of a step.
use Rattle.std.proofs.Common.{◌≡◌, ◌≢◌, ℕ, zero, suc, ◌+◌, ◌-◌, ◌<◌, ◌≤◌, ◌↔◌, Bool, true, false, cond, ◌&&◌, List, [], ◌∷◌, ◌++◌, map, length, get_or, take, drop, Option, Some, None, is_some, slice_get, refl, sym, ap, ◌∙◌, subst, arith}
use Rattle.std.proofs.lemmas.Bool.{and_parts, and_from, false≢true}
use Rattle.std.proofs.lemmas.List.{get_or-take, length-take}
use Rattle.wb_values.specs.Value as meaning
use Rattle.wb_values.specs.Value.{Name, Sort, truth, truth_value, number, as_truth, Entries, Valuation}
use Rattle.model_meaning.specs.Term.{sort_of, val}
use Rattle.model_meaning.specs.Model as pure
use Rattle.model_meaning.specs.Model.{Model, StateDeclaration, instruction_list, instructions_in, decode_of, valid_of, states_of, state_named, holds, updated, point_of}
use Rattle.model_meaning.specs.Instruction.{Does, own_states, IsStarted, IsOnlyDecoded}
use Rattle.model_results.specs.Results.{Result, child_result, result_of, result_at}
use Rattle.model_results.proofs.Does.{model_does}
use Rattle.wb_terms.specs.declared.nodes.TermId.{TermId}
use Rattle.wb_terms.specs.Graph.{Graph, tree}
use Rattle.term_copies.specs.Copies.{IsExtended, AreLeaves, IsCopy, id_at, declared_at}
use Rattle.term_copies.proofs.Extending.{extended_trans}
use Rattle.term_copies.proofs.Copying.{leaves_kept}
use Rattle.ila_model.specs.declared.parts.ChildId.{ChildId}
use Rattle.ila_model.specs.declared.parts.Instruction.{Instruction}
use Rattle.ila_model.specs.declared.parts.Parts.{Parts}
use Rattle.ila_model.specs.Scope.{nesting}
use Rattle.ila_model.specs.Sorted.{is_condition, are_updates, name_at}
use Rattle.ila_model.specs.Meaning.{update_of, instruction_of, instructions_of, program_of, declared_states, model_from}
use Rattle.ila_model.proofs.Declarations.{AreSorted, length-declared_states}
use Rattle.ila_child.specs.State.{sorts_of_states, state_valuation, input_valuation}
use Rattle.ila_child.specs.Start.{started}
use Rattle.ila_child.specs.Updating.{value_at}
use Rattle.ila_child.specs.Running.{point_at, program_in}
use Rattle.ila_child.proofs.Programs.{low_enough}
use Rattle.ila_child.proofs.Places.{declared-by, states_by, stated_only, named_in}
use Rattle.ila_child.proofs.Starts.{states_table, top_value}
use Rattle.model_terms.specs.declared.putting.InstructionTerms.{InstructionTerms}
use Rattle.model_terms.specs.declared.putting.ModelTerms.{ModelTerms}
use Rattle.model_terms.specs.Symbolic.{worths, sees, is_true, IsCondition, IsTest, IsReached}
use Rattle.model_terms.specs.Copied.{HasCopies, terms_of_instruction, with_copies}
use Rattle.model_terms.specs.Puts.{IsPut, ArePut, AreDecodes, none_of, exactly_one}
use Rattle.model_terms.specs.Terms.{state_under, inputs_under, AreInstructionTerms, AreTermsOf}
use Rattle.model_terms.proofs.Choosing.{true_kept, test_kept, test_condition, worths-at, length-worths}
use Rattle.model_terms.proofs.Pointing.{updated_sees, condition_sees}
use Rattle.model_terms.proofs.Turning.{worths_leaves, reached_kept, reached_same}

-- ---- single instructions

pub top_level : (p : Parts) (o : Option ChildId) → program_in p 0 o ≡ program_of p.terms p.children.items nesting o
top_level p o = let z : nesting - 0 ≡ nesting = omega arith in ap (λ l. program_of p.terms p.children.items l o) z

pub put_reached : {g h : Graph} (p : Parts) (s : AreSorted p) (i : Instruction) (point copies after ids : List TermId) (ended : ℕ)
    → are_updates p None 0 i.updates.items ≡ true → AreLeaves g p.terms.names point → HasCopies g p.terms point copies (terms_of_instruction i) → after ≡ with_copies copies i.updates.items point
    → IsReached h p None ended ids (λ v. child_result (program_in p 0 i.child) (sees g p None after v))
    → IsReached h p None ended ids (λ v. result_of (started p i) (sees g p None point v))
put_reached {g} {h} p s i point copies after ids ended ups leaves has made reached =
    let us = i.updates.items in
    let low : 0 ≤ 3 = omega arith in
    reached_same h p None ended ids (λ v. child_result (program_in p 0 i.child) (sees g p None after v)) (λ v. result_of (started p i) (sees g p None point v))
    (λ v. ap (λ c. child_result c (sees g p None after v)) (top_level p i.child)
    ∙ ap (child_result (program_of p.terms p.children.items nesting i.child)) (ap (λ (xs : List TermId). sees g p None xs v) made ∙ updated_sees p s None 0 us g point copies v tt (low_enough 0 low) ups leaves has.1))
    reached

pub decode_holds : {g h : Graph} (p : Parts) (s : AreSorted p) (point : List TermId) (copy k : ℕ) (v : Valuation) → IsExtended g h → is_condition p None k ≡ true → AreLeaves g p.terms.names point → IsCopy g p.terms point copy k → is_true h copy v ≡ holds (tree p.terms k) (sees g p None point v)
decode_holds {g} {h} p s point copy k v e cond_is leaves c =
    let low : 0 ≤ 3 = omega arith in
    true_kept copy v e c.below ∙ condition_sees p s None 0 g point copy k v tt (low_enough 0 low) cond_is leaves c

put_kept : {g h m : Graph} (p : Parts) (point : List TermId) (i : Instruction) (t : InstructionTerms) → IsExtended h m → IsPut g h p point i t → IsPut g m p point i t
put_kept {g} {h} {m} p point i t e a = record {
  decode_test = test_kept t.decode.0 e a.decode_test;
  decode_value = λ v. true_kept t.decode.0 v e a.decode_test.below ∙ a.decode_value v;
  ids = a.ids;
  first = a.first;
  reached = reached_kept p None t.ends.0 a.ids (λ v. result_of (started p i) (sees g p None point v)) e a.reached;
}

pub put_before : {g b h : Graph} (p : Parts) (point : List TermId) (i : Instruction) (t : InstructionTerms) → IsExtended g b → AreLeaves g p.terms.names point → IsPut b h p point i t → IsPut g h p point i t
put_before {g} {b} {h} p point i t e leaves a =
    let same : (v : Valuation) → sees b p None point v ≡ sees g p None point v = λ v. ap (point_at p None) (worths_leaves p.terms.names point v e leaves) in
    record {
      decode_test = a.decode_test;
      decode_value = λ v. a.decode_value v ∙ ap (holds (tree p.terms i.decode.0)) (same v);
      ids = a.ids;
      first = a.first;
      reached = reached_same h p None t.ends.0 a.ids (λ v. result_of (started p i) (sees b p None point v)) (λ v. result_of (started p i) (sees g p None point v)) (λ v. ap (result_of (started p i)) (same v)) a.reached;
    }

pub are_put_kept : (g h m : Graph) (p : Parts) (point : List TermId) (is : List Instruction) (ts : List InstructionTerms) → IsExtended h m → ArePut g h p point is ts → ArePut g m p point is ts
are_put_kept g h m p point [] [] e a = tt
are_put_kept g h m p point [] (t ∷ ts) e a = absurd a
are_put_kept g h m p point (i ∷ is) [] e a = absurd a
are_put_kept g h m p point (i ∷ is) (t ∷ ts) e a = (put_kept p point i t e a.0, are_put_kept g h m p point is ts e a.1)

put_more : {g h : Graph} (p : Parts) (point : List TermId) (is : List Instruction) (n : ℕ) (d : Instruction) (ts : List InstructionTerms) (t : InstructionTerms) → n < length is → ArePut g h p point (take n is) ts → IsPut g h p point (get_or is n d) t → ArePut g h p point (take (suc n) is) (ts ++ t ∷ [])
put_more p point [] n d ts t l a b = absurd (omega (arith, l))
put_more p point (i ∷ is) zero d [] t l a b = (b, tt)
put_more p point (i ∷ is) zero d (x ∷ ts) t l a b = absurd a
put_more p point (i ∷ is) (suc n) d [] t l a b = absurd a
put_more p point (i ∷ is) (suc n) d (x ∷ ts) t l a b = (a.0, put_more p point is n d ts t (omega (arith, l)) a.1 b)

pub are_put_more : {g h m : Graph} (p : Parts) (point : List TermId) (is : List Instruction) (n : ℕ) (i : Instruction) (ts : List InstructionTerms) (t : InstructionTerms) → n < length is → i ≡ get_or is n i → IsExtended h m → ArePut g h p point (take n is) ts → IsPut g m p point i t → ArePut g m p point (take (n + 1) is) (ts ++ t ∷ [])
are_put_more {g} {h} {m} p point is n i ts t l here e a b =
    let z : suc n ≡ n + 1 = omega arith in
    subst (λ k. ArePut g m p point (take k is) (ts ++ t ∷ [])) z
    (put_more p point is n i ts t l (are_put_kept g h m p point (take n is) ts e a) (subst (λ x. IsPut g m p point x t) here b))

pub are_put_same : (g h : Graph) (p : Parts) (point ids : List TermId) (is : List Instruction) (ts : List InstructionTerms) → point ≡ ids → ArePut g h p point is ts → ArePut g h p ids is ts
are_put_same g h p point ids is ts e a = subst (λ (r : List TermId). ArePut g h p r is ts) e a

take_whole : (is : List Instruction) (n : ℕ) → length is ≤ n → take n is ≡ is
take_whole [] zero l = refl
take_whole [] (suc n) l = refl
take_whole (i ∷ is) zero l = absurd (omega (arith, l))
take_whole (i ∷ is) (suc n) l = ap (λ (r : List Instruction). i ∷ r) (take_whole is n (omega (arith, l)))

pub are_put_end : (g h : Graph) (p : Parts) (point : List TermId) (is : List Instruction) (n : ℕ) (ts : List InstructionTerms) → length is ≤ n → ArePut g h p point (take n is) ts → ArePut g h p point is ts
are_put_end g h p point is n ts l a = subst (λ js. ArePut g h p point js ts) (take_whole is n l) a

pub are_decodes : (g h : Graph) (p : Parts) (point : List TermId) (is : List Instruction) (ts : List InstructionTerms) → ArePut g h p point is ts → AreDecodes h ts
are_decodes g h p point [] [] a = tt
are_decodes g h p point [] (t ∷ ts) a = absurd a
are_decodes g h p point (i ∷ is) [] a = absurd a
are_decodes g h p point (i ∷ is) (t ∷ ts) a = (a.0.decode_test, are_decodes g h p point is ts a.1)

-- ---- exactly one decodes

pub decodes_at : (g : Graph) (ts : List InstructionTerms) (k : ℕ) (d : InstructionTerms) → AreDecodes g ts → k < length ts → IsTest g (get_or ts k d).decode.0
decodes_at g [] k d a l = absurd (omega (arith, l))
decodes_at g (t ∷ ts) zero d a l = a.0
decodes_at g (t ∷ ts) (suc k) d a l = decodes_at g ts k d a.1 (omega (arith, l))

abbrev pub bools : Graph → List InstructionTerms → Valuation → List Bool
bools g ts v = map (λ (t : InstructionTerms). is_true g t.decode.0 v) ts

-- the last instructions: whether none of them decodes, and whether exactly one does
pub record IsCounted (g h : Graph) (ts : List InstructionTerms) (none one : ℕ) : Type 0 where
  pub extended : IsExtended g h
  pub none_test : IsTest h none
  pub one_test : IsTest h one
  pub none_value : (v : Valuation) → is_true h none v ≡ none_of (bools g ts v)
  pub one_value : (v : Valuation) → is_true h one v ≡ exactly_one (bools g ts v)

terms_left : (ts : List InstructionTerms) (n : ℕ) → length ts ≤ n → drop n ts ≡ []
terms_left [] zero l = refl
terms_left [] (suc n) l = refl
terms_left (t ∷ ts) zero l = absurd (omega (arith, l))
terms_left (t ∷ ts) (suc n) l = terms_left ts n (omega (arith, l))

terms_more : (ts : List InstructionTerms) (k : ℕ) (d : InstructionTerms) → k < length ts → drop k ts ≡ get_or ts k d ∷ drop (suc k) ts
terms_more [] k d l = absurd (omega (arith, l))
terms_more (t ∷ ts) zero d l = refl
terms_more (t ∷ ts) (suc k) d l = terms_more ts k d (omega (arith, l))

pub counted_start : {g a h : Graph} (ts : List InstructionTerms) (none one : ℕ) → IsExtended g a → IsExtended a h → IsTest a none → IsTest h one → ((v : Valuation) → is_true a none v ≡ true) → ((v : Valuation) → is_true h one v ≡ false) → IsCounted g h (drop (length ts - 0) ts) none one
counted_start {g} {a} {h} ts none one e f n o nv ov =
    subst (λ xs. IsCounted g h xs none one) (sym (terms_left ts (length ts - 0) (omega arith)))
    (record { extended = extended_trans e f; none_test = test_kept none f n; one_test = o; none_value = λ v. true_kept none v f n.below ∙ nv v; one_value = ov })

pub counted_turn : {g h m r : Graph} (ts : List InstructionTerms) (k done : ℕ) (t : InstructionTerms) (none one none2 one2 : ℕ) → k ≡ length ts - 1 - done → done < length ts → t ≡ get_or ts k t → AreDecodes g ts
    → IsCounted g h (drop (length ts - done) ts) none one
    → IsExtended h m → IsTest m one2 → ((v : Valuation) → is_true m one2 v ≡ cond (is_true h t.decode.0 v) (is_true h none v) (is_true h one v))
    → IsExtended m r → IsTest r none2 → ((v : Valuation) → is_true r none2 v ≡ cond (is_true m t.decode.0 v) false (is_true m none v))
    → IsCounted g r (drop (length ts - (done + 1)) ts) none2 one2
counted_turn {g} {h} {m} {r} ts k done t none one none2 one2 z l here tests a e o ov f n nv =
    let within : k < length ts = omega (arith, z, l) in
    let up : suc k ≡ length ts - done = omega (arith, z, l) in
    let down : k ≡ length ts - (done + 1) = omega (arith, z, l) in
    let rest = drop (length ts - done) ts in
    let split : t ∷ rest ≡ drop k ts = sym (terms_more ts k t within ∙ ap (λ (x : InstructionTerms). x ∷ drop (suc k) ts) (sym here) ∙ ap (λ j. t ∷ drop j ts) up) in
    let test = subst (λ (x : InstructionTerms). IsTest g x.decode.0) (sym here) (decodes_at g ts k t tests within) in
    let first : (v : Valuation) → is_true h t.decode.0 v ≡ is_true g t.decode.0 v = λ v. true_kept t.decode.0 v a.extended test.below in
    let again : (v : Valuation) → is_true m t.decode.0 v ≡ is_true g t.decode.0 v = λ v. true_kept t.decode.0 v (extended_trans a.extended e) test.below in
    subst (λ j. IsCounted g r (drop j ts) none2 one2) down (subst (λ xs. IsCounted g r xs none2 one2) split (record {
      extended = extended_trans a.extended (extended_trans e f);
      none_test = n;
      one_test = test_kept one2 f o;
      none_value = λ v. nv v ∙ ap (λ b. cond b false (is_true m none v)) (again v) ∙ ap (λ b. cond (is_true g t.decode.0 v) false b) (true_kept none v e a.none_test.below ∙ a.none_value v);
      one_value = λ v.
          true_kept one2 v f o.below ∙ ov v ∙ ap (λ b. cond b (is_true h none v) (is_true h one v)) (first v)
          ∙ ap (λ b. cond (is_true g t.decode.0 v) b (is_true h one v)) (a.none_value v) ∙ ap (λ b. cond (is_true g t.decode.0 v) (none_of (bools g rest v)) b) (a.one_value v);
    }))

pub counted_end : {g h : Graph} (ts : List InstructionTerms) (done none one : ℕ) → length ts ≤ done → IsCounted g h (drop (length ts - done) ts) none one → IsCounted g h ts none one
counted_end {g} {h} ts done none one l a =
    let z : length ts - done ≡ 0 = omega (arith, l) in
    subst (λ k. IsCounted g h (drop k ts) none one) z a

-- exactly one of the model's instructions decodes
abbrev pub decodes_of : List pure.Instruction → Valuation → List Bool
decodes_of is x = map (λ (i : pure.Instruction). holds (decode_of i) x) is

pub record IsAlone (is : List pure.Instruction) (x : Valuation) (j : ℕ) : Type 0 where
  pub i : pure.Instruction
  pub is_j : slice_get is j ≡ Some i
  pub decoded : holds (decode_of i) x ≡ true
  pub no_other : (k : ℕ) (other : pure.Instruction) → slice_get is k ≡ Some other → k ≢ j → holds (decode_of other) x ≡ true → ⊥

none_head : (i : pure.Instruction) (is : List pure.Instruction) (x : Valuation) (b : Bool) → b ≡ holds (decode_of i) x → none_of (decodes_of (i ∷ is) x) ≡ true → (holds (decode_of i) x ≡ false) × (none_of (decodes_of is x) ≡ true)
none_head i is x true e h = absurd (false≢true (ap (λ c. cond c false (none_of (decodes_of is x))) e ∙ h))
none_head i is x false e h = (sym e, ap (λ c. cond c false (none_of (decodes_of is x))) e ∙ h)

none_to : (is : List pure.Instruction) (x : Valuation) → none_of (decodes_of is x) ≡ true → (k : ℕ) (o : pure.Instruction) → slice_get is k ≡ Some o → holds (decode_of o) x ≡ true → ⊥
none_to [] x h k o s t = absurd (cc)
none_to (i ∷ is) x h zero o s t =
    let same : i ≡ o = cc in
    let r = none_head i is x (holds (decode_of i) x) refl h in
    false≢true (sym r.0 ∙ ap (λ (j : pure.Instruction). holds (decode_of j) x) same ∙ t)
none_to (i ∷ is) x h (suc k) o s t = none_to is x (none_head i is x (holds (decode_of i) x) refl h).1 k o s t

none_more : (i : pure.Instruction) (is : List pure.Instruction) (x : Valuation) (b : Bool) → b ≡ holds (decode_of i) x → (holds (decode_of i) x ≡ true → ⊥) → none_of (decodes_of is x) ≡ true → none_of (decodes_of (i ∷ is) x) ≡ true
none_more i is x true e f h = absurd (f (sym e))
none_more i is x false e f h = ap (λ c. cond c false (none_of (decodes_of is x))) (sym e) ∙ h

none_from : (is : List pure.Instruction) (x : Valuation) → ((k : ℕ) (o : pure.Instruction) → slice_get is k ≡ Some o → holds (decode_of o) x ≡ true → ⊥) → none_of (decodes_of is x) ≡ true
none_from [] x f = refl
none_from (i ∷ is) x f = none_more i is x (holds (decode_of i) x) refl (f 0 i refl) (none_from is x (λ k o s t. f (suc k) o s t))

no_other_first : (i : pure.Instruction) (is : List pure.Instruction) (x : Valuation) → none_of (decodes_of is x) ≡ true → (k : ℕ) (o : pure.Instruction) → slice_get (i ∷ is) k ≡ Some o → k ≢ 0 → holds (decode_of o) x ≡ true → ⊥
no_other_first i is x none zero o s ne t = ne refl
no_other_first i is x none (suc k) o s ne t = none_to is x none k o s t

no_other_later : (i : pure.Instruction) (is : List pure.Instruction) (x : Valuation) → false ≡ holds (decode_of i) x → (j : ℕ) → IsAlone is x j → (k : ℕ) (o : pure.Instruction) → slice_get (i ∷ is) k ≡ Some o → k ≢ suc j → holds (decode_of o) x ≡ true → ⊥
no_other_later i is x e j a zero o s ne t = let same : i ≡ o = cc in false≢true (e ∙ ap (λ (y : pure.Instruction). holds (decode_of y) x) same ∙ t)
no_other_later i is x e j a (suc k) o s ne t = a.no_other k o s (λ z. ne (ap suc z)) t

one_head : (i : pure.Instruction) (is : List pure.Instruction) (x : Valuation) (b : Bool) → b ≡ holds (decode_of i) x → exactly_one (decodes_of (i ∷ is) x) ≡ true → (exactly_one (decodes_of is x) ≡ true → (j : ℕ) × IsAlone is x j) → (j : ℕ) × IsAlone (i ∷ is) x j
one_head i is x true e h f =
    let none = ap (λ c. cond c (none_of (decodes_of is x)) (exactly_one (decodes_of is x))) e ∙ h in
    (0, record { i = i; is_j = refl; decoded = sym e; no_other = no_other_first i is x none })
one_head i is x false e h f =
    let r = f (ap (λ c. cond c (none_of (decodes_of is x)) (exactly_one (decodes_of is x))) e ∙ h) in
    (suc r.0, record { i = r.1.i; is_j = r.1.is_j; decoded = r.1.decoded; no_other = no_other_later i is x e r.0 r.1 })

pub one_to : (is : List pure.Instruction) (x : Valuation) → exactly_one (decodes_of is x) ≡ true → (j : ℕ) × IsAlone is x j
one_to [] x h = absurd (false≢true h)
one_to (i ∷ is) x h = one_head i is x (holds (decode_of i) x) refl h (λ y. one_to is x y)

one_more : (i : pure.Instruction) (is : List pure.Instruction) (x : Valuation) (b : Bool) → b ≡ holds (decode_of i) x → (holds (decode_of i) x ≡ true → ⊥) → exactly_one (decodes_of is x) ≡ true → exactly_one (decodes_of (i ∷ is) x) ≡ true
one_more i is x true e f h = absurd (f (sym e))
one_more i is x false e f h = ap (λ c. cond c (none_of (decodes_of is x)) (exactly_one (decodes_of is x))) (sym e) ∙ h

pub one_from : (is : List pure.Instruction) (x : Valuation) (j : ℕ) → IsAlone is x j → exactly_one (decodes_of is x) ≡ true
one_from [] x j a = let s = a.is_j in absurd (cc)
one_from (i ∷ is) x zero a =
    let s = a.is_j in
    let same : i ≡ a.i = cc in
    ap (λ c. cond c (none_of (decodes_of is x)) (exactly_one (decodes_of is x))) (ap (λ (y : pure.Instruction). holds (decode_of y) x) same ∙ a.decoded)
    ∙ none_from is x (λ k o t h. a.no_other (suc k) o t (λ z. absurd (omega (arith, z))) h)
one_from (i ∷ is) x (suc j) a =
    one_more i is x (holds (decode_of i) x) refl (λ t. a.no_other 0 i refl (λ z. absurd (omega (arith, z))) t)
    (one_from is x j (record { i = a.i; is_j = a.is_j; decoded = a.decoded; no_other = λ k o s ne t. a.no_other (suc k) o s (λ z. ne (let y : k ≡ j = omega (arith, z) in y)) t }))

-- ---- the code's instructions and the model's

same_decodes : (p : Parts) (inner : Option ChildId → pure.Child) (is : List Instruction) (x : Valuation) → map (λ (i : Instruction). holds (tree p.terms i.decode.0) x) is ≡ decodes_of (instruction_list (instructions_of p.terms inner is)) x
same_decodes p inner [] x = refl
same_decodes p inner (i ∷ is) x = ap (λ bs. holds (tree p.terms i.decode.0) x ∷ bs) (same_decodes p inner is x)

put_bools : (g h : Graph) (p : Parts) (point : List TermId) (is : List Instruction) (ts : List InstructionTerms) (v : Valuation) → ArePut g h p point is ts → bools h ts v ≡ map (λ (i : Instruction). holds (tree p.terms i.decode.0) (sees g p None point v)) is
put_bools g h p point [] [] v a = refl
put_bools g h p point [] (t ∷ ts) v a = absurd a
put_bools g h p point (i ∷ is) [] v a = absurd a
put_bools g h p point (i ∷ is) (t ∷ ts) v a =
    ap (λ b. b ∷ bools h ts v) (a.0.decode_value v) ∙ ap (λ bs. holds (tree p.terms i.decode.0) (sees g p None point v) ∷ bs) (put_bools g h p point is ts v a.1)

put_count : (g h : Graph) (p : Parts) (inner : Option ChildId → pure.Child) (point : List TermId) (is : List Instruction) (ts : List InstructionTerms) → ArePut g h p point is ts → length ts ≡ length (instruction_list (instructions_of p.terms inner is))
put_count g h p inner point [] [] a = refl
put_count g h p inner point [] (t ∷ ts) a = absurd a
put_count g h p inner point (i ∷ is) [] a = absurd a
put_count g h p inner point (i ∷ is) (t ∷ ts) a = ap suc (put_count g h p inner point is ts a.1)

record IsFound (g h : Graph) (p : Parts) (inner : Option ChildId → pure.Child) (point : List TermId) (i : pure.Instruction) (t : InstructionTerms) : Type 0 where
  code : Instruction
  same : i ≡ instruction_of p.terms inner code
  put : IsPut g h p point code t

found : {g h : Graph} (p : Parts) (inner : Option ChildId → pure.Child) (point : List TermId) (is : List Instruction) (ts : List InstructionTerms) (j : ℕ) (i : pure.Instruction) (t : InstructionTerms) → ArePut g h p point is ts → slice_get (instruction_list (instructions_of p.terms inner is)) j ≡ Some i → slice_get ts j ≡ Some t → IsFound g h p inner point i t
found p inner point [] [] j i t a s u = absurd (cc)
found p inner point [] (x ∷ ts) j i t a s u = absurd a
found p inner point (y ∷ is) [] j i t a s u = absurd a
found {g} {h} p inner point (y ∷ is) (x ∷ ts) zero i t a s u =
    let same : i ≡ instruction_of p.terms inner y = cc in
    let this : x ≡ t = cc in
    record { code = y; same = same; put = subst (λ z. IsPut g h p point y z) this a.0 }
found p inner point (y ∷ is) (x ∷ ts) (suc j) i t a s u = found p inner point is ts j i t a.1 s u

bools_kept : (g h m : Graph) (p : Parts) (point : List TermId) (is : List Instruction) (ts : List InstructionTerms) (v : Valuation) → IsExtended h m → ArePut g h p point is ts → bools h ts v ≡ bools m ts v
bools_kept g h m p point [] [] v e a = refl
bools_kept g h m p point [] (t ∷ ts) v e a = absurd a
bools_kept g h m p point (i ∷ is) [] v e a = absurd a
bools_kept g h m p point (i ∷ is) (t ∷ ts) v e a =
    ap (λ b. b ∷ bools h ts v) (sym (true_kept t.decode.0 v e a.0.decode_test.below)) ∙ ap (λ bs. is_true m t.decode.0 v ∷ bs) (bools_kept g h m p point is ts v e a.1)

-- whether a step starts, as the code reads its lists
pub started_read : (g h m : Graph) (p : Parts) (point : List TermId) (is : List Instruction) (ts read : List InstructionTerms) (start valid : ℕ) (v : Valuation) → IsExtended h m → read ≡ ts → valid < length h.nodes → ArePut g h p point is ts → is_true m start v ≡ (exactly_one (bools h read v) && is_true h valid v) → is_true m start v ≡ (exactly_one (bools m ts v) && is_true m valid v)
started_read g h m p point is ts read start valid v e r l a s =
    s ∙ ap (λ (xs : List InstructionTerms). exactly_one (bools h xs v) && is_true h valid v) r
    ∙ ap (λ bs. exactly_one bs && is_true h valid v) (bools_kept g h m p point is ts v e a) ∙ ap (λ b. exactly_one (bools m ts v) && b) (sym (true_kept valid v e l))

-- ---- the terms of an instruction

first_terms : (g : Graph) (p : Parts) (s : AreSorted p) (ids results : List TermId) → AreLeaves g p.terms.names ids → results ≡ take (length p.initial_values.items) ids → AreLeaves g (sorts_of_states (declared_states p.terms.names p.initial_values.items)) results
first_terms g p s ids results a e =
    let ns = p.terms.names in
    let n = length p.initial_values.items in
    let within = s.declared.states_within in
    let names_n : length (take n ns) ≡ n = omega (arith, length-take n ns, within) in
    let ids_n : length (take n ids) ≡ n = omega (arith, length-take n ids, within, a.count) in
    let at : (j : ℕ) → j < n → id_at (take n ids) j ≡ id_at ids j = λ j h. ap (λ (x : TermId). x.0) (get_or-take n ids j (record { 0 = 0 }) h) in
    let there : (j : ℕ) → j < n → (declared_at (take n ns) j).1 ≡ (declared_at ns j).1 = λ j h. ap (λ (x : List ℕ × Sort). x.1) (get_or-take n ns j ([], truth) h) in
    let all : AreLeaves g (take n ns) (take n ids) = record {
      count = ids_n ∙ sym names_n;
      below = λ j h. let z : j < n = omega (arith, h, names_n) in subst (λ k. k < length g.nodes) (sym (at j z)) (a.below j (omega (arith, z, within)));
      sort = λ j h. let z : j < n = omega (arith, h, names_n) in ap (λ k. sort_of (tree g k)) (at j z) ∙ a.sort j (omega (arith, z, within)) ∙ sym (ap (λ (x : Sort). Some x) (there j z));
    } in
    subst (λ (r : Entries Sort). AreLeaves g r results) (sym (states_table ns p.initial_values.items)) (subst (λ (r : List TermId). AreLeaves g (take n ns) r) (sym e) all)

-- a state of a point is worth what its term is
own_value : (p : Parts) (s : AreSorted p) (name : Name) (xs : List meaning.Value) (k : ℕ) → length xs ≡ length p.terms.names → k < length p.initial_values.items → own_states (model_from name p) (point_at p None xs) (name_at p.terms.names k) ≡ value_at xs k
own_value p s name xs k l lo =
    let ns = p.terms.names in
    let is = p.initial_values.items in
    let x = name_at ns k in
    let within = s.declared.states_within in
    let b : k < length ns = omega (arith, lo, within) in
    let by : is_some (state_named (declared_states ns is) x) ≡ is_some (state_named (states_by stated_only ns is) x) = ap (λ ss. is_some (state_named ss x)) (declared-by ns is) in
    let there : is_some (state_named (states_by stated_only ns is) x) ≡ true = ap (λ (o : Option StateDeclaration). is_some o) (named_in stated_only ns 0 is k None s.distinct (omega arith) (omega (arith, lo)) b) in
    ap (λ r. cond r (point_at p None xs x) (number 0)) (by ∙ there)
    ∙ top_value p s xs k l (omega (arith, lo))

as_true : (g : Graph) (id : ℕ) (v : Valuation) → val (tree g id) v ≡ truth_value true → is_true g id v ≡ true
as_true g id v e = ap as_truth e

pub instruction_terms : {g h : Graph} (p : Parts) (s : AreSorted p) (name : Name) (states inputs point : List TermId) (i : Instruction) (t : InstructionTerms)
    → ((v : Valuation) → sees g p None point v ≡ point_of (model_from name p) (state_under (model_from name p) h states v) (inputs_under (model_from name p) h inputs v))
    → IsPut g h p point i t → AreInstructionTerms (model_from name p) h states inputs (started p i) t
instruction_terms {g} {h} p s name states inputs point i t X a =
    let m = model_from name p in
    let n = length p.initial_values.items in
    let ns = p.terms.names in
    let I = started p i in
    let q : Valuation → Valuation = λ v. state_under m h states v in
    let w : Valuation → Valuation = λ v. inputs_under m h inputs v in
    let ended : (v : Valuation) → is_true h t.ends.0 v ≡ (result_at m I (q v) (w v)).ended = λ v. a.reached.is_ended v ∙ ap (λ x. (result_of I x).ended) (X v) in
    let does : (v r : Valuation) → Does m I (q v) (w v) r → ((result_at m I (q v) (w v)).ended ≡ true) × (r ≡ own_states m (result_at m I (q v) (w v)).point) = λ v r d. (model_does m I (q v) (w v) r).0 d in
    record {
      decode = test_condition h t.decode.0 a.decode_test;
      ends = test_condition h t.ends.0 a.reached.test;
      results = first_terms h p s a.ids t.results.items a.reached.leaves a.first;
      decode_value = λ v. a.decode_test.value v ∙ ap truth_value (a.decode_value v ∙ ap (holds (tree p.terms i.decode.0)) (X v));
      ends_value = λ v. (
        λ e. (let yes = sym (ended v) ∙ as_true h t.ends.0 v e in
            let r = own_states m (result_at m I (q v) (w v)).point in
            (r, (model_does m I (q v) (w v) r).1 (yes, refl))),
        λ d. a.reached.test.value v ∙ ap truth_value (ended v ∙ (does v d.0 d.1).0),
      );
      result_values = λ v r d k l. (
          let both = does v r d in
          let lo : k < n = omega (arith, l, length-declared_states ns p.initial_values.items s.declared.states_within) in
          let at = a.reached.at_point v (ap (λ x. (result_of I x).ended) (X v) ∙ both.0) in
          let point_is : (result_at m I (q v) (w v)).point ≡ point_at p None (worths h a.ids v) = sym (at ∙ ap (λ x. (result_of I x).point) (X v)) in
          let id_is : id_at t.results.items k ≡ id_at a.ids k = ap (λ (xs : List TermId). id_at xs k) a.first ∙ ap (λ (x : TermId). x.0) (get_or-take n a.ids k (record { 0 = 0 }) lo) in
          let name_is : (declared_at (sorts_of_states (states_of m.top)) k).0 ≡ name_at ns k = ap (λ (x : Entries Sort). (declared_at x k).0) (states_table ns p.initial_values.items) ∙ ap (λ (x : List ℕ × Sort). x.0) (get_or-take n ns k ([], truth) lo) in
          let counted : k < length a.ids = omega (arith, lo, a.reached.leaves.count, s.declared.states_within) in
          ap (λ id. val (tree h id) v) id_is ∙ sym (worths-at h a.ids v k counted)
          ∙ sym (own_value p s name (worths h a.ids v) k (length-worths h a.ids v ∙ a.reached.leaves.count) lo)
          ∙ sym (ap (λ (x : Valuation). own_states m x (name_at ns k)) point_is)
          ∙ sym (ap (λ (f : Valuation). f (name_at ns k)) both.1)
          ∙ sym (ap r name_is));
    }

-- ---- the terms of the model

pub model_terms : (g h : Graph) (p : Parts) (s : AreSorted p) (name : Name) (states inputs point : List TermId) (t : ModelTerms)
    → ((v : Valuation) → sees g p None point v ≡ point_of (model_from name p) (state_under (model_from name p) h states v) (inputs_under (model_from name p) h inputs v))
    → IsTest h t.valid.0 → ((v : Valuation) → is_true h t.valid.0 v ≡ holds (tree p.terms p.valid.0) (sees g p None point v))
    → IsTest h t.started.0 → ((v : Valuation) → is_true h t.started.0 v ≡ (exactly_one (bools h t.instructions.items v) && is_true h t.valid.0 v))
    → ArePut g h p point p.instructions.items t.instructions.items
    → AreTermsOf (model_from name p) h states inputs t
model_terms g h p s name states inputs point t X vt vv st sv put =
    let m = model_from name p in
    let inner = program_of p.terms p.children.items nesting in
    let L = instructions_in m.top in
    let q : Valuation → Valuation = λ v. state_under m h states v in
    let w : Valuation → Valuation = λ v. inputs_under m h inputs v in
    let x : Valuation → Valuation = λ v. point_of m (q v) (w v) in
    let valid : (v : Valuation) → is_true h t.valid.0 v ≡ holds (valid_of m.top) (x v) = λ v. vv v ∙ ap (holds (tree p.terms p.valid.0)) (X v) in
    let one : (v : Valuation) → exactly_one (bools h t.instructions.items v) ≡ exactly_one (decodes_of L (x v)) = λ v.
    ap exactly_one (put_bools g h p point p.instructions.items t.instructions.items v put ∙ same_decodes p inner p.instructions.items (sees g p None point v) ∙ ap (decodes_of L) (X v)) in
    record {
      valid = test_condition h t.valid.0 vt;
      started = test_condition h t.started.0 st;
      valid_value = λ v. vt.value v ∙ ap truth_value (valid v);
      started_value = λ v. (
        λ e. (let both = and_parts (exactly_one (bools h t.instructions.items v)) (is_true h t.valid.0 v) (sym (sv v) ∙ as_true h t.started.0 v e) in
            let r = one_to L (x v) (sym (one v) ∙ both.0) in
            (r.0, record { valid = sym (valid v) ∙ both.1; alone = record { i = r.1.i; is_j = r.1.is_j; decoded = r.1.decoded; no_other = r.1.no_other } })),
        λ d. (let a = d.1.alone in
            let both = and_from (exactly_one (bools h t.instructions.items v)) (is_true h t.valid.0 v)
            (one v ∙ one_from L (x v) d.0 (record { i = a.i; is_j = a.is_j; decoded = a.decoded; no_other = a.no_other })) (valid v ∙ d.1.valid) in
            st.value v ∙ ap truth_value (sv v ∙ both)),
      );
      count = put_count g h p inner point p.instructions.items t.instructions.items put;
      instruction = λ j i r s1 s2. (
          let f = found p inner point p.instructions.items t.instructions.items j i r put s1 s2 in
          subst (λ (y : pure.Instruction). AreInstructionTerms m h states inputs y r) (sym f.same) (instruction_terms p s name states inputs point f.code r X f.put));
    }
