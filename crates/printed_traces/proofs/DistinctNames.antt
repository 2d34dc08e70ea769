-- No two obligations have one name, so a name leads to one obligation.
use Rattle.std.proofs.Common.{◌≡◌, ◌∙◌, Bool, true, false, ◌||◌, List, [], ◌∷◌, map, inl, inr, refl, sym, ap}
use Rattle.std.proofs.lemmas.Bool.{false≢true}
use Rattle.std.specs.Prelude.{Contains}
use Rattle.wb_values.specs.Value.{Name, same_name}
use Rattle.model_meaning.specs.Among.{is_name_in, has_twice}
use Rattle.refinement.specs.Obligation.{Obligation}
use Rattle.verilog_unique.proofs.Options.{is_same, first_false, second_false}
use Rattle.verilog_unique.proofs.Descent.{IsAmong, among_contains}
use Rattle.obligation_lists.proofs.NameParts.{names_differ}
use Rattle.printed_traces.specs.Names.{ObligationsHaveDistinctNames}
use Rattle.printed_traces.proofs.FileModels.{of_file}

pub distinct_names : ObligationsHaveDistinctNames
distinct_names bytes m p of few small = names_differ m p (of_file bytes m of) few small

abbrev names : List Obligation → List Name
names os = map (λ o. o.called) os

is_there : (os : List Obligation) (o : Obligation) (n : Name) → IsAmong os o → n ≡ o.called → is_name_in n (names os) ≡ true
is_there [] o n c e = absurd c
is_there (q ∷ os) o n (inl f) e =
    ap (λ (x : Obligation). same_name n x.called || is_name_in n (names os)) f ∙ ap (λ x. same_name n x || is_name_in n (names os)) (sym e)
    ∙ ap (λ b. b || is_name_in n (names os)) (is_same n)
is_there (q ∷ os) o n (inr c) e = by (same_name n q.called) (is_there os o n c e)
  where
    by : (b : Bool) → is_name_in n (names os) ≡ true → (b || is_name_in n (names os)) ≡ true
    by true k = refl
    by false k = k

one_of : (os : List Obligation) (o q : Obligation) → has_twice (names os) ≡ false → IsAmong os o → IsAmong os q → o.called ≡ q.called → o ≡ q
one_of [] o q h c d e = absurd c
one_of (x ∷ os) o q h (inl f) (inl g) e = sym f ∙ g
one_of (x ∷ os) o q h (inl f) (inr d) e =
    absurd (false≢true (sym (first_false (is_name_in x.called (names os)) (has_twice (names os)) h) ∙ is_there os q x.called d (ap (λ (y : Obligation). y.called) f ∙ e)))
one_of (x ∷ os) o q h (inr c) (inl g) e =
    absurd (false≢true (sym (first_false (is_name_in x.called (names os)) (has_twice (names os)) h) ∙ is_there os o x.called c (ap (λ (y : Obligation). y.called) g ∙ sym e)))
one_of (x ∷ os) o q h (inr c) (inr d) e = one_of os o q (second_false (is_name_in x.called (names os)) (has_twice (names os)) h) c d e

pub one_named : (os : List Obligation) (o q : Obligation) → has_twice (names os) ≡ false → Contains os o → Contains os q → o.called ≡ q.called → o ≡ q
one_named os o q h c d e = one_of os o q h (among_contains os o c) (among_contains os q d) e
