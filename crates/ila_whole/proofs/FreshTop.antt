-- The names of a file without duplicates are new to a table without names, and stay so as those before them are declared.
use Rattle.std.proofs.Common.{◌≡◌, ℕ, Bool, true, false, ◌||◌, List, [], ◌∷◌, ◌++◌, map, Bor, None, refl, sym, ap, ◌∙◌, subst, append_assoc}
use Rattle.std.specs.BTreeMap.{BTreeMap}
use Rattle.std.proofs.lemmas.Bool.{false≢true}
use Rattle.wb_values.specs.Value.{Name}
use Rattle.model_files.specs.Written.{WrittenModel, states_in}
use Rattle.model_meaning.specs.Among.{is_name_in, has_twice}
use Rattle.model_files.specs.Names.{all_data_names}
use Rattle.wb_terms.specs.declared.nodes.TermId.{TermId}
use Rattle.ila_build.specs.Standing.{IsFresh, under_name}
use Rattle.ila_build.specs.Knowing.{defined_names}
use Rattle.ila_build.specs.Declaring.{state_entry, input_entry}
use Rattle.ila_build.specs.Building.{definitions_in, own_instructions}
use Rattle.ila_build.specs.Refusing.{IsBesides, entry_names, names_below}
use Rattle.ila_build.proofs.Sorting.{or_parts}
use Rattle.ila_build.proofs.Fresh.{among-append, fresh_front, fresh_rest, fresh_moved, fresh_behind, apart}
use Rattle.ila_whole.proofs.Sound.{file_names}

fresh_of : (t : BTreeMap (Bor (List ℕ)) TermId) (ns : List Name) → ((q : Name) → under_name t q ≡ None) → has_twice ns ≡ false → IsFresh t ns
fresh_of t [] e h = tt
fresh_of t (n ∷ ns) e h =
    let parts = or_parts (is_name_in n ns) (has_twice ns) h in
    (e n, parts.0, fresh_of t ns e parts.1)

or_true : (a b : Bool) → a ≡ true → (a || b) ≡ true
or_true true b h = refl
or_true false b h = absurd (false≢true h)

or_second : (a b : Bool) → b ≡ true → (a || b) ≡ true
or_second true b h = refl
or_second false b h = h

-- the front of what stands behind is apart from what stands before
apart_front : (t : BTreeMap (Bor (List ℕ)) TermId) (is ss rest : List Name) (q : Name) → IsFresh t (is ++ (ss ++ rest)) → is_name_in q is ≡ true → is_name_in q ss ≡ false
apart_front t is ss rest q f h = by_test (is_name_in q ss) refl where
  by_test : (b : Bool) → is_name_in q ss ≡ b → b ≡ false
  by_test false e = refl
  by_test true e = absurd (false≢true (sym (apart t is (ss ++ rest) q f (among-append q ss rest ∙ or_true (is_name_in q ss) (is_name_in q rest) e)) ∙ h))

pub file_fresh : (t : BTreeMap (Bor (List ℕ)) TermId) (m : WrittenModel) → ((q : Name) → under_name t q ≡ None) → has_twice (all_data_names m) ≡ false
    → IsFresh t (entry_names (map input_entry m.inputs) ++ (entry_names (map state_entry (states_in m.top)) ++ (defined_names (definitions_in m.top) ++ names_below (own_instructions m.top))))
file_fresh t m e h =
    let ss = entry_names (map state_entry (states_in m.top)) in
    subst (IsFresh t) (file_names m ∙ ap (λ ns. entry_names (map input_entry m.inputs) ++ ns) (append_assoc ss (defined_names (definitions_in m.top)) (names_below (own_instructions m.top)))) (fresh_of t (all_data_names m) e h)

pub states_fresh : (t : BTreeMap (Bor (List ℕ)) TermId) (is ss rest : List Name) → IsFresh t (is ++ (ss ++ rest)) → IsFresh t ss
states_fresh t is ss rest f = fresh_front t ss rest (fresh_rest t is (ss ++ rest) f)

pub inputs_fresh : (t u : BTreeMap (Bor (List ℕ)) TermId) (is ss rest : List Name) → IsFresh t (is ++ (ss ++ rest)) → IsBesides t u ss → IsFresh u is
unfolding IsBesides
inputs_fresh t u is ss rest f b = fresh_moved t u is (fresh_front t is (ss ++ rest) f) (λ q h. b q (apart_front t is ss rest q f h))

pub rest_fresh : (t u v : BTreeMap (Bor (List ℕ)) TermId) (is ss rest : List Name) → IsFresh t (is ++ (ss ++ rest)) → IsBesides t u ss → IsBesides u v is → IsFresh v rest
unfolding IsBesides
rest_fresh t u v is ss rest f b c =
    fresh_moved u v rest (fresh_behind t u ss rest (fresh_rest t is (ss ++ rest) f) b)
    (λ q h. c q (apart t is (ss ++ rest) q f (among-append q ss rest ∙ or_second (is_name_in q ss) (is_name_in q rest) h)))
