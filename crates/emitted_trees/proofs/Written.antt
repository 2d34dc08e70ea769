-- Statements for updates and for resets.
use Rattle.std.proofs.Common.{◌≡◌, ℕ, zero, suc, ◌+◌, ◌-◌, ◌<◌, ◌≤◌, Bool, true, false, cond, List, [], ◌∷◌, ◌++◌, map, length, drop, Option, Some, option_map, slice_get, refl, sym, ◌∙◌, ap, subst, arith}
use Rattle.std.proofs.lemmas.Bool.{false≢true}
use Rattle.std.proofs.lemmas.List.{append_assoc, append-nil, map-append, at_drop_all}
use Rattle.std.proofs.lemmas.Option.{same_Some, none-some}
use Rattle.wb_values.specs.Value.{Name, Sort, truth, word, memory, Value, Entries}
use Rattle.model_meaning.specs.Term.{is_memory_sort}
use Rattle.model_meaning.specs.Model.{StateDeclaration}
use Rattle.verilog_trees.specs.Syntax.{Expression, Statement, if_then}
use Rattle.wb_terms.specs.Graph.{Graph}
use Rattle.ila_model.specs.declared.parts.Update.{Update}
use Rattle.emitted_modules.specs.Rtl.{writes, takes, first_value, first_take, first_takes, kept_word, kept_words}
use Rattle.emitted_modules.specs.Module.{update_for, is_of_memory, updates_for}
use Rattle.emitted_trees.specs.Items.{take_statements}
use Rattle.emitted_names.proofs.Turns.{ap2, ap3, onward_by, ended_by, found, same_at}

-- ---- updates

module _ (g : Graph) (d : Expression) where
  pub takes_split : (u : Update) (us : List Update) → take_statements d (updates_for g (u ∷ us)) ≡ take_statements d (updates_for g (u ∷ [])) ++ take_statements d (updates_for g us)
  takes_split u us = by_test (is_of_memory g u)
    where
      by_test : (b : Bool)
          → take_statements d (cond b (updates_for g us) (update_for g u ∷ updates_for g us))
          ≡ take_statements d (cond b [] (update_for g u ∷ [])) ++ take_statements d (updates_for g us)
      by_test true = refl
      by_test false = refl

  pub no_take : (u : Update) (front : List Statement) → is_of_memory g u ≡ true → front ≡ front ++ take_statements d (updates_for g (u ∷ []))
  no_take u front e = sym (append-nil front) ∙ ap (λ b. front ++ take_statements d (cond b [] (update_for g u ∷ []))) (sym e)

  pub one_take : (u : Update) (front all : List Statement) (x : Statement) → is_of_memory g u ≡ false → all ≡ front ++ x ∷ [] → x ≡ if_then d (takes (update_for g u))
      → all ≡ front ++ take_statements d (updates_for g (u ∷ []))
  one_take u front all x e made is =
      made ∙ ap (λ y. front ++ y ∷ []) is ∙ ap (λ b. front ++ take_statements d (cond b [] (update_for g u ∷ []))) (sym e)

-- ---- resets

pub no_first : (n : Name) (t : Sort) (i : Option Value) → is_memory_sort t ≡ true → first_take n t i ≡ []
no_first n truth i e = absurd (false≢true e)
no_first n (word w) i e = absurd (false≢true e)
no_first n (memory a d) i e = refl

pub one_first : (n : Name) (t : Sort) (i : Option Value) → is_memory_sort t ≡ false → first_take n t i ≡ (n, first_value n t i) ∷ []
one_first n truth i e = refl
one_first n (word w) i e = refl
one_first n (memory a d) i e = absurd (false≢true (sym e))

pub no_kept : (n : Name) (t : Sort) → is_memory_sort t ≡ false → kept_word n t ≡ []
no_kept n truth e = refl
no_kept n (word w) e = refl
no_kept n (memory a d) e = absurd (false≢true (sym e))

-- of a memory, in whatever words the statement is told
pub one_kept : (n : Name) (t : Sort) (x : Statement) → is_memory_sort t ≡ true → ((a b : ℕ) → x ∷ [] ≡ map writes (kept_word n (memory a b)))
    → x ∷ [] ≡ map writes (kept_word n t)
one_kept n truth x e f = absurd (false≢true e)
one_kept n (word w) x e f = absurd (false≢true e)
one_kept n (memory a d) x e f = f a d

abbrev pub first_statements : List StateDeclaration → List Statement
first_statements ss = map takes (first_takes ss)

abbrev pub kept_statements : List StateDeclaration → List Statement
kept_statements ss = map writes (kept_words ss)

pub first_more : (ss : List StateDeclaration) (i : ℕ) (n : Name) (t : Sort) (o : Option Value) (all done new : List Statement)
    → option_map (λ s. s.state_name) (slice_get ss i) ≡ Some n → option_map (λ s. s.sort) (slice_get ss i) ≡ Some t
    → option_map (λ s. s.init) (slice_get ss i) ≡ Some o
    → done ++ first_statements (drop i ss) ≡ all → new ≡ done ++ map takes (first_take n t o) → new ++ first_statements (drop (i + 1) ss) ≡ all
first_more ss i n t o all done new called sorted stated before made =
    let s = found (λ (x : StateDeclaration). x.state_name) ss i n called in
    let sort = same_at (λ (x : StateDeclaration). x.sort) ss i s.0 t s.1 sorted in
    let init = same_at (λ (x : StateDeclaration). x.init) ss i s.0 o s.1 stated in
    onward_by first_statements (λ (d : StateDeclaration). map takes (first_take d.state_name d.sort d.init))
    (λ d ds. map-append takes (first_take d.state_name d.sort d.init) (first_takes ds)) ss i s.0 all done new s.1 before
    (made ∙ ap (λ us. done ++ map takes us) (sym (ap3 first_take s.2 sort init)))

pub first_all : (ss : List StateDeclaration) (i : ℕ) (done : List Statement) → length ss ≤ i → done ++ first_statements (drop i ss) ≡ first_statements ss
    → done ≡ first_statements ss
first_all ss i done l e = ended_by first_statements refl ss i (first_statements ss) done l e

pub kept_more : (ss : List StateDeclaration) (i : ℕ) (n : Name) (t : Sort) (all done new : List Statement)
    → option_map (λ s. s.state_name) (slice_get ss i) ≡ Some n → option_map (λ s. s.sort) (slice_get ss i) ≡ Some t
    → done ++ kept_statements (drop i ss) ≡ all → new ≡ done ++ map writes (kept_word n t) → new ++ kept_statements (drop (i + 1) ss) ≡ all
kept_more ss i n t all done new called sorted before made =
    let s = found (λ (x : StateDeclaration). x.state_name) ss i n called in
    let sort = same_at (λ (x : StateDeclaration). x.sort) ss i s.0 t s.1 sorted in
    onward_by kept_statements (λ (d : StateDeclaration). map writes (kept_word d.state_name d.sort))
    (λ d ds. map-append writes (kept_word d.state_name d.sort) (kept_words ds)) ss i s.0 all done new s.1 before
    (made ∙ ap (λ us. done ++ map writes us) (sym (ap2 kept_word s.2 sort)))

pub kept_all : (ss : List StateDeclaration) (i : ℕ) (all done : List Statement) → length ss ≤ i → done ++ kept_statements (drop i ss) ≡ all → done ≡ all
kept_all ss i all done l e = ended_by kept_statements refl ss i all done l e
