-- A whole map breaks the rule on inputs exactly where one of the marked expressions uses an input.
use Rattle.std.proofs.Common.{◌≡◌, ℕ, true, false, ◌⊎◌, inl, inr, refl, subst, List, ◌∷◌, ◌++◌, map, Option, Some, None}
use Rattle.std.specs.Prelude.{is_some, IsTrue}
use Rattle.std.proofs.lemmas.Bool.{false≢true}
use Rattle.verilog_trees.specs.Syntax.{Expression}
use Rattle.refinement.specs.Map.{Map, InstructionMap}
use Rattle.verilog_unique.proofs.Descent.{IsAmong, among_left, among_right, among_either, contains_among, among_contains}
use Rattle.v_places.proofs.Spots.{get_among}
use Rattle.map_files.specs.Written.{Text}
use Rattle.map_rules.specs.Case.{MapCase, case_design, input_sort, value_texts, expression_texts}
use Rattle.map_rules.specs.Expressions.{ReadsAs}
use Rattle.map_rules.specs.Inputs.{UsesInput, HasMapInput}
use Rattle.map_rules.specs.Accepted.{StandsForMap}
use Rattle.map_judged.specs.Asked.{Asked}
use Rattle.map_judged.specs.Whole.{condition, valued, state_values, input_values, asked_in}
use Rattle.map_uses.specs.Users.{IsFirstUser}
use Rattle.map_uses.specs.Whole.{flag_each, asked_flags, FirstUsersBreakTheRule, ReadExpressionsAreOfTexts}
use Rattle.map_uses.proofs.Marked.{MarkedIn, marked_at, at_marked, among, on_left, on_right, on_either, long_each, all_each, long_mapped, all_mapped, none_mapped}
use Rattle.map_uses.proofs.Trees.{AreTrees, tree_for, text_for, conditions, state_trees, all_trees}

-- a text is read as one expression at most
abbrev TextsAreReadOnce : Type 0
TextsAreReadOnce = (t : Text) (e f : Expression) → ReadsAs t e → ReadsAs t f → e ≡ f

abbrev commit_of : InstructionMap → Asked
commit_of i = condition i.commit

module _ (c : MapCase) (p : Map) (stands : StandsForMap c.model c.written p) where
  abbrev texts : List Text
  texts = value_texts c.model c.written.states ++ c.written.invariants

  abbrev states : List Asked
  states = state_values c.model p.states

  abbrev inputs : List Asked
  inputs = input_values c.model p.inputs

  abbrev commits : List Asked
  commits = map commit_of p.instructions

  abbrev IsText : Asked → Type 0
  IsText x = (t : Text) × IsAmong texts t × ReadsAs t x.tree

  invariant_trees : AreTrees c.written.invariants (map condition p.invariants)
  invariant_trees = conditions c.written.invariants p.invariants stands.invariants

  value_trees : AreTrees (value_texts c.model c.written.states) states
  value_trees = state_trees c.model c.written.states p.states stands.states

  -- what is marked is the tree of such a text
  of_text : (x : Asked) → MarkedIn (asked_in c.model p) (asked_flags c.model p) x → IsText x
  of_text x h = first (on_either (map condition p.assume) _ (flag_each false p.assume) _ x (long_mapped condition false p.assume) h) where
    of_invariant : IsAmong (map condition p.invariants) x → IsText x
    of_invariant a =
        let r = text_for c.written.invariants (map condition p.invariants) x invariant_trees a in
        (r.0, among_right (value_texts c.model c.written.states) c.written.invariants r.0 r.1, r.2)

    of_state : IsAmong states x → IsText x
    of_state a =
        let r = text_for (value_texts c.model c.written.states) states x value_trees a in
        (r.0, among_left (value_texts c.model c.written.states) c.written.invariants r.0 r.1, r.2)

    fifth : MarkedIn inputs (flag_each false p.inputs) x ⊎ MarkedIn commits (flag_each false p.instructions) x → IsText x
    fifth (inl k) = absurd (none_mapped (λ e. valued (input_sort c.model e.0) e.1) p.inputs x k)
    fifth (inr k) = absurd (none_mapped commit_of p.instructions x k)

    fourth : MarkedIn states (flag_each true states) x ⊎ MarkedIn (inputs ++ commits) (flag_each false p.inputs ++ flag_each false p.instructions) x → IsText x
    fourth (inl k) = of_state (among states (flag_each true states) x k)
    fourth (inr k) = fifth (on_either inputs commits (flag_each false p.inputs) _ x (long_mapped (λ e. valued (input_sort c.model e.0) e.1) false p.inputs) k)

    third : MarkedIn (condition p.start ∷ (states ++ (inputs ++ commits))) (false ∷ (flag_each true states ++ (flag_each false p.inputs ++ flag_each false p.instructions))) x
        → IsText x
    third (inl k) = absurd (false≢true k.1)
    third (inr k) = fourth (on_either states (inputs ++ commits) (flag_each true states) _ x (long_each true states) k)

    second : MarkedIn (map condition p.invariants) (flag_each true p.invariants) x
        ⊎ MarkedIn (condition p.start ∷ (states ++ (inputs ++ commits))) (false ∷ (flag_each true states ++ (flag_each false p.inputs ++ flag_each false p.instructions))) x
        → IsText x
    second (inl k) = of_invariant (among (map condition p.invariants) (flag_each true p.invariants) x k)
    second (inr k) = third k

    first : MarkedIn (map condition p.assume) (flag_each false p.assume) x
        ⊎ MarkedIn (map condition p.invariants ++ condition p.start ∷ (states ++ (inputs ++ commits))) (flag_each true p.invariants ++ false ∷ (flag_each true states ++ (flag_each false p.inputs ++ flag_each false p.instructions))) x
        → IsText x
    first (inl k) = absurd (none_mapped condition p.assume x k)
    first (inr k) = second (on_either (map condition p.invariants) _ (flag_each true p.invariants) _ x (long_mapped condition true p.invariants) k)

  -- and the tree of each such text is marked
  marked : (t : Text) → IsAmong texts t → (x : Asked) × MarkedIn (asked_in c.model p) (asked_flags c.model p) x × ReadsAs t x.tree
  marked t h = by (among_either (value_texts c.model c.written.states) c.written.invariants t h) where
    after : (x : Asked)
        → MarkedIn (map condition p.invariants ++ condition p.start ∷ (states ++ (inputs ++ commits))) (flag_each true p.invariants ++ false ∷ (flag_each true states ++ (flag_each false p.inputs ++ flag_each false p.instructions))) x
        → MarkedIn (asked_in c.model p) (asked_flags c.model p) x
    after x k = on_right (map condition p.assume) _ (flag_each false p.assume) _ x (long_mapped condition false p.assume) k

    by : IsAmong (value_texts c.model c.written.states) t ⊎ IsAmong c.written.invariants t
        → (x : Asked) × MarkedIn (asked_in c.model p) (asked_flags c.model p) x × ReadsAs t x.tree
    by (inl a) =
        let r = tree_for (value_texts c.model c.written.states) states t value_trees a in (
          r.0,
          after r.0 (on_right (map condition p.invariants) _ (flag_each true p.invariants) _ r.0 (long_mapped condition true p.invariants)
              (inr (on_left states (inputs ++ commits) (flag_each true states) _ r.0 (all_each states r.0 r.1)))),
          r.2,
        )
    by (inr a) =
        let r = tree_for c.written.invariants (map condition p.invariants) t invariant_trees a in (
          r.0,
          after r.0 (on_left (map condition p.invariants) _ (flag_each true p.invariants) _ r.0 (all_mapped condition p.invariants r.0 r.1)),
          r.2,
        )

pub users_told : TextsAreReadOnce → FirstUsersBreakTheRule
users_told once c p o stands told = (there o told, back o told) where
  there : (o : Option ℕ) → IsFirstUser (case_design c) (asked_in c.model p) (asked_flags c.model p) o → HasMapInput c → IsTrue (is_some o)
  there (Some i) h m = refl
  there None h m =
      let f = marked c p stands m.text (among_contains (texts c p stands) m.text m.stands) in
      let at = marked_at (asked_in c.model p) (asked_flags c.model p) f.0 f.1 in
      let same : m.tree ≡ f.0.tree = once m.text m.tree f.0.tree m.is_read f.2 in
      absurd (h at.0 f.0 at.1 at.2 (subst (UsesInput (case_design c)) same m.uses_input))

  back : (o : Option ℕ) → IsFirstUser (case_design c) (asked_in c.model p) (asked_flags c.model p) o → IsTrue (is_some o) → HasMapInput c
  back None h t = absurd (false≢true t)
  back (Some i) h t =
      let x : Asked = h.0.0 in
      let r = of_text c p stands x (at_marked (asked_in c.model p) (asked_flags c.model p) i x h.0.1 h.0.2) in
      record { text = r.0; tree = x.tree; stands = contains_among (texts c p stands) r.0 r.1; is_read = r.2; uses_input = h.0.3 }

pub all_of_texts : ReadExpressionsAreOfTexts
all_of_texts c p shapely stands k x s e =
    let r = text_for (expression_texts c) (asked_in c.model p) x (all_trees c p stands) (get_among (asked_in c.model p) k x e) in
    shapely r.0 x.tree s r.2
