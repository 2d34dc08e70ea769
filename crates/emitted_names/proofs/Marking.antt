-- Marks at the terms of a list that has with each term all that it stands on.
use Rattle.std.proofs.Common.{◌≡◌, ℕ, zero, suc, ◌+◌, ◌<◌, ◌≤◌, Bool, true, false, List, [], ◌∷◌, ◌++◌, length, drop, set, replicate, Some, slice_get, IsTrue, inl, inr, refl, sym, ◌∙◌, ap, subst, arith}
use Rattle.std.proofs.lemmas.Bool.{cases_eq, cases_lt, false≢true, and_parts, eqb-true}
use Rattle.std.proofs.lemmas.Option.{slice_get-get_or}
use Rattle.std.proofs.lemmas.List.{get_or-set_same, get_or-set_other}
use Rattle.wb_terms.specs.declared.nodes.TermId.{TermId}
use Rattle.wb_terms.specs.declared.nodes.Node.{Node}
use Rattle.wb_terms.specs.declared.nodes.Node.TheVariants.{Truth}
use Rattle.wb_values.specs.Value.{Sort}
use Rattle.wb_terms.specs.Graph.{Graph, AllBelow, operands_of, names_of}
use Rattle.ila_model.specs.declared.parts.Update.{Update}
use Rattle.ila_model.specs.declared.parts.Instruction.{Instruction}
use Rattle.ila_model.specs.declared.parts.Child.{Child}
use Rattle.ila_model.specs.declared.parts.Parts.{Parts}
use Rattle.ila_model.specs.Scope.{tops}
use Rattle.ila_model.specs.Sorted.{is_well_sorted, are_distinct, are_declarations, are_states, are_inputs, are_placed, sort_at}
use Rattle.model_meaning.specs.Term.{is_sort}
use Rattle.emitted_modules.specs.Nodes.{node_at}
use Rattle.emitted_modules.specs.Kept.{AreKept, updated_terms, AreRead, IsKept}
use Rattle.term_copies.specs.Copies.{id_at}
use Rattle.wanted_terms.specs.Wanted.{AllListed, IsClosed, AreListed, mark_at}
use Rattle.wanted_terms.proofs.Marks.{marks_kept}
use Rattle.emitted_names.specs.Ids.{kept_by}
use Rattle.emitted_names.specs.Keeping.{updated_by, roots_among, roots_of, AreMarks}

pub clear : (n k : ℕ) → mark_at (replicate n false) k ≡ false
clear zero zero = refl
clear zero (suc k) = refl
clear (suc n) zero = refl
clear (suc n) (suc k) = clear n k

-- the marks at the first so many terms, one for each term of the store
pub record AreMarksTo (n : ℕ) (ids : List TermId) (count : ℕ) (marks : List Bool) : Type 0 where
  pub room : length marks ≡ n
  pub at_terms : AreMarks ids count marks

pub unmarked : (n : ℕ) (ids : List TermId) (marks : List Bool) → length marks ≡ n → marks ≡ replicate n false → AreMarksTo n ids 0 marks
unmarked n ids marks r e = record {
  room = r;
  at_terms = subst (AreMarks ids 0) (sym e) (record {
    marked = λ k h. absurd (omega (arith, h.1));
    listed = λ k h. absurd (false≢true (sym (clear n k) ∙ h));
  });
}

set_kept : (ms : List Bool) (k j : ℕ) → k < length ms → mark_at ms j ≡ true → mark_at (set ms k true) j ≡ true
set_kept ms k j b h = marks_kept (length ms) (k ∷ []) ms j (b, tt) (omega arith) h

pub one_marked : (n : ℕ) (ids : List TermId) (place : ℕ) (id : TermId) (ms ns : List Bool) → id_at ids place ≡ id.0 → id.0 < n → place < length ids
    → length ns ≡ n → ns ≡ set ms id.0 true → AreMarksTo n ids place ms → AreMarksTo n ids (place + 1) ns
one_marked n ids place id ms ns here low l r e a =
    let within : id.0 < length ms = omega (arith, low, a.room) in
    record {
      room = r;
      at_terms = subst (AreMarks ids (place + 1)) (sym e) (record {
        marked = λ k h. elim (cases_lt h.0 place) [
          | inl before ↦ set_kept ms id.0 k within (a.at_terms.marked k (h.0, before, h.2))
          | inr behind ↦
              let same : place ≡ h.0 = omega (arith, behind, h.1) in
              let is : id.0 ≡ k = sym here ∙ ap (id_at ids) same ∙ h.2 in
              subst (λ j. mark_at (set ms id.0 true) j ≡ true) is (get_or-set_same ms id.0 true false within)
        ];
        listed = λ k h. elim (cases_eq id.0 k) [
          | inl is ↦ (place, omega arith, here ∙ is)
          | inr other ↦
              let old = a.at_terms.listed k (sym (get_or-set_other ms id.0 k true false (λ z. other (sym z))) ∙ h) in
              (old.0, omega (arith, old.1), old.2)
        ];
      });
    }

-- ---- what such marks keep

module _ (ids : List TermId) (ms : List Bool) (a : AreMarks ids (length ids) ms) where
  all_kept : (n : ℕ) (ks : List ℕ) → n ≤ length ids → AllListed ids n ks → AreKept (kept_by ms) ks
  all_kept n [] l h = tt
  all_kept n (k ∷ ks) l h = (a.marked k (h.0.0, omega (arith, h.0.1, l), h.0.2), all_kept n ks l h.1)

  updated_kept : (us : List Update) (rest : List TermId) → AreListed ids (updated_by us ++ rest) → AreKept (kept_by ms) (updated_terms us) × AreListed ids rest
  updated_kept [] rest h = (tt, h)
  updated_kept (u ∷ us) rest h = let more = updated_kept us rest h.1 in ((a.marked u.term.0 h.0, more.0), more.1)

  are_read : (is : List Instruction) → AreListed ids (roots_among is) → AreRead (kept_by ms) is
  are_read [] h = tt
  are_read (i ∷ is) h = let more = updated_kept i.updates.items (roots_among is) h.1 in (a.marked i.decode.0 h.0, more.0, are_read is more.1)

  operands_kept : (g : Graph) → IsClosed g ids → (k : ℕ) → k < length g.nodes → IsTrue (kept_by ms k) → AreKept (kept_by ms) (operands_of (node_at g k))
  operands_kept g closed k low h =
      let at = a.listed k h in
      all_kept at.0 (operands_of (node_at g k)) (omega (arith, at.1))
      ((closed at.0 at.1).operands (node_at g k) (subst (λ j. slice_get g.nodes j ≡ Some (node_at g k)) (sym at.2) (slice_get-get_or g.nodes k (Truth false) low)))

  pub kept : (p : Parts) (roots : List TermId) → roots ≡ roots_of p → IsClosed p.terms ids → AreListed ids roots
      → ((k : ℕ) → k < length p.terms.nodes → AllBelow (length p.terms.names) (names_of (node_at p.terms k))) → length p.terms.names ≡ tops p
      → IsKept p (kept_by ms)
  kept p roots e closed listed named same =
      let own : AreListed ids (roots_of p) = subst (AreListed ids) e listed in
      record {
        valid = a.marked p.valid.0 own.0;
        instructions = are_read p.instructions.items own.1;
        operands = operands_kept p.terms closed;
        names = λ k low h. subst (λ n. AllBelow n (names_of (node_at p.terms k))) same (named k low);
      }

-- A table of names has those of the top alone where there are no child programs.
pub no_privates : (p : Parts) → IsTrue (is_well_sorted p) → p.children.items ≡ [] → length p.terms.names ≡ tops p
no_privates p h none =
    let a = and_parts (are_distinct p.terms.names) _ h in
    let b = and_parts (are_declarations p) _ a.1 in
    let c = and_parts (are_states false p.terms.names p.initial_values.items) _ b.0 in
    let d = and_parts (are_inputs p.inputs (drop (length p.initial_values.items) p.terms.names)) _ c.1 in
    sym (eqb-true (tops p) (length p.terms.names) (subst (λ (cs : List Child). are_placed (tops p) (length p.terms.names) cs ≡ true) none d.1))

-- ---- what a pass over the store tells of it

pub record AreToldTo (g : Graph) (place : ℕ) : Type 0 where
  pub before : (k : ℕ) → k < place → AllBelow k (operands_of (node_at g k))
  pub named : (k : ℕ) → k < place → AllBelow (length g.names) (names_of (node_at g k))

pub none_told : (g : Graph) → AreToldTo g 0
none_told g = record { before = λ k h. absurd (omega (arith, h)); named = λ k h. absurd (omega (arith, h)) }

pub one_told : (g : Graph) (place : ℕ) (n : Node) → n ≡ node_at g place → AllBelow place (operands_of n) → AllBelow (length g.names) (names_of n) → AreToldTo g place
    → AreToldTo g (place + 1)
one_told g place n e before named a = record {
  before = λ k h. elim (cases_lt k place) [
    | inl low ↦ a.before k low
    | inr high ↦
        let same : place ≡ k = omega (arith, h, high) in
        subst (λ j. AllBelow j (operands_of (node_at g j))) same (subst (λ m. AllBelow place (operands_of m)) e before)
  ];
  named = λ k h. elim (cases_lt k place) [
    | inl low ↦ a.named k low
    | inr high ↦
        let same : place ≡ k = omega (arith, h, high) in
        subst (λ j. AllBelow (length g.names) (names_of (node_at g j))) same (subst (λ m. AllBelow (length g.names) (names_of m)) e named)
  ];
}

abbrev pub AreInRangeTo : Graph → ℕ → Type 0
AreInRangeTo g place = (k : ℕ) → k < place → IsTrue (is_sort (sort_at g.names k))

pub one_in_range : (g : Graph) (place : ℕ) (t : Sort) → t ≡ sort_at g.names place → IsTrue (is_sort t) → AreInRangeTo g place → AreInRangeTo g (place + 1)
one_in_range g place t e r a = λ k h. elim (cases_lt k place) [
  | inl low ↦ a k low
  | inr high ↦
      let same : place ≡ k = omega (arith, h, high) in
      subst (λ j. IsTrue (is_sort (sort_at g.names j))) same (subst (λ s. IsTrue (is_sort s)) e r)
]
