-- What holds of the parts of a design holds of them under other names.
use Rattle.std.proofs.Common.{◌≡◌, ◌∙◌, ◌<◌, ℕ, zero, suc, refl, ap, subst, true, nat_lt, take, drop, length, List, [], ◌∷◌, Option, Some, None, arith}
use Rattle.std.proofs.lemmas.Bool.{and_parts, and_from}
use Rattle.std.proofs.lemmas.Bool.Decides.{nat_tests}
use Rattle.wb_values.specs.Value.{Name, Sort, Entries}
use Rattle.model_meaning.specs.Term.{sort_of}
use Rattle.wb_terms.specs.Graph.{Graph, HasDistinctNames, tree}
use Rattle.wb_terms.specs.Renamed.{renamed}
use Rattle.verilog_meaning.specs.Hierarchy.{dotted}
use Rattle.verilog_meaning.specs.Settled.{Design, names_of}
use Rattle.flat_designs.specs.Flat.{Naming, IsNaming}
use Rattle.v_lower.specs.Lowered.{Images}
use Rattle.v_design.specs.declared.place.PlaceTerms.{PlaceTerms}
use Rattle.v_design.specs.Registers.{CountedBits}
use Rattle.v_design.specs.Parts.{has_sort, is_term_of, are_terms_of, is_within, is_word, are_words, are_bits_of, are_bits_for}
use Rattle.v_design.specs.Table.{terms_at}
use Rattle.v_elab.specs.Settled.{AreSettledBy}
use Rattle.v_elab.specs.Told.{AreToldBy, AreCalledNets}
use Rattle.v_elab.proofs.FlatTold.{take_renamed, drop_renamed, told_length, nets_called, distinct_told}

is_below : (a b : ℕ) → nat_lt a b ≡ true → a < b
is_below a b h = grind (arith, nat_tests)

-- ---- lengths

pub renamed_length : (ns : List Name) (es : Entries Sort) → length ns ≡ length es → length (renamed ns es) ≡ length es
renamed_length [] es h = h
renamed_length (n ∷ ns) [] h = cc
renamed_length (n ∷ ns) (e ∷ es) h = ap suc (renamed_length ns es (one h))
  where
    one : suc (length ns) ≡ suc (length es) → length ns ≡ length es
    one q = cc

pub names_length : (es : Entries Sort) → length (names_of es) ≡ length es
names_length [] = refl
names_length (e ∷ es) = ap suc (names_length es)

-- ---- sorts alone

bits_there : (ns : List Name) (es : Entries Sort) (cs : List CountedBits) → length ns ≡ length es → are_bits_for es cs ≡ true → are_bits_for (renamed ns es) cs ≡ true
bits_there [] [] cs h k = k
bits_there [] (e ∷ es) cs h k = cc
bits_there (n ∷ ns) [] cs h k = cc
bits_there (n ∷ ns) (e ∷ es) [] h k = k
bits_there (n ∷ ns) (e ∷ es) (c ∷ cs) h k =
    let p = and_parts (are_bits_of e.1 c) (are_bits_for es cs) k in
    and_from (are_bits_of e.1 c) (are_bits_for (renamed ns es) cs) p.0 (bits_there ns es cs (one h) p.1)
  where
    one : suc (length ns) ≡ suc (length es) → length ns ≡ length es
    one q = cc

words_there : (ns : List Name) (es : Entries Sort) → length ns ≡ length es → are_words es ≡ true → are_words (renamed ns es) ≡ true
words_there [] es h k = refl
words_there (n ∷ ns) [] h k = cc
words_there (n ∷ ns) (e ∷ es) h k =
    let p = and_parts (is_word e.1) (are_words es) k in
    and_from (is_word e.1) (are_words (renamed ns es)) p.0 (words_there ns es (one h) p.1)
  where
    one : suc (length ns) ≡ suc (length es) → length ns ≡ length es
    one q = cc

length_taken : (k : ℕ) (ns : List Name) (es : Entries Sort) → length ns ≡ length es → length (take k ns) ≡ length (take k es)
length_taken zero ns es h = refl
length_taken (suc k) [] [] h = refl
length_taken (suc k) [] (e ∷ es) h = cc
length_taken (suc k) (n ∷ ns) [] h = cc
length_taken (suc k) (n ∷ ns) (e ∷ es) h = ap suc (length_taken k ns es (one h))
  where
    one : suc (length ns) ≡ suc (length es) → length ns ≡ length es
    one q = cc

length_dropped : (k : ℕ) (ns : List Name) (es : Entries Sort) → length ns ≡ length es → length (drop k ns) ≡ length (drop k es)
length_dropped zero ns es h = h
length_dropped (suc k) [] [] h = refl
length_dropped (suc k) [] (e ∷ es) h = cc
length_dropped (suc k) (n ∷ ns) [] h = cc
length_dropped (suc k) (n ∷ ns) (e ∷ es) h = length_dropped k ns es (one h)
  where
    one : suc (length ns) ≡ suc (length es) → length ns ≡ length es
    one q = cc

pub bits_kept : (ns : List Name) (es hs : Entries Sort) (k : ℕ) (cs : List CountedBits) → length ns ≡ length es → hs ≡ renamed ns es → are_bits_for (take k es) cs ≡ true
    → are_bits_for (take k hs) cs ≡ true
bits_kept ns es hs k cs h e b =
    ap (λ xs. are_bits_for (take k xs) cs) e ∙ ap (λ xs. are_bits_for xs cs) (take_renamed k ns es h) ∙ bits_there (take k ns) (take k es) cs (length_taken k ns es h) b

pub words_kept : (ns : List Name) (es hs : Entries Sort) (k : ℕ) → length ns ≡ length es → hs ≡ renamed ns es → are_words (drop k es) ≡ true → are_words (drop k hs) ≡ true
words_kept ns es hs k h e b =
    ap (λ xs. are_words (drop k xs)) e ∙ ap are_words (drop_renamed k ns es h) ∙ words_there (drop k ns) (drop k es) (length_dropped k ns es h) b

-- ---- terms

module _ (g h : Graph) (nodes : h.nodes ≡ g.nodes) (sorts : (k : ℕ) → k < length h.nodes → sort_of (tree h k) ≡ sort_of (tree g k)) where
  term_there : (t : Sort) (id : ℕ) → is_term_of g t id ≡ true → is_term_of h t id ≡ true
  term_there t id k =
      let p = and_parts (nat_lt id (length g.nodes)) (has_sort t (sort_of (tree g id))) k in
      let low : nat_lt id (length h.nodes) ≡ true = ap (λ ns. nat_lt id (length ns)) nodes ∙ p.0 in
      and_from (nat_lt id (length h.nodes)) (has_sort t (sort_of (tree h id))) low (ap (has_sort t) (sorts id (is_below id (length h.nodes) low)) ∙ p.1)

  terms_there : (ns : List Name) (es : Entries Sort) (ids : List ℕ) → length ns ≡ length es → are_terms_of g es ids ≡ true → are_terms_of h (renamed ns es) ids ≡ true
  terms_there [] [] [] l k = refl
  terms_there [] [] (id ∷ ids) l k = k
  terms_there [] (e ∷ es) ids l k = cc
  terms_there (n ∷ ns) [] ids l k = cc
  terms_there (n ∷ ns) (e ∷ es) [] l k = k
  terms_there (n ∷ ns) (e ∷ es) (id ∷ ids) l k =
      let p = and_parts (is_term_of g e.1 id) (are_terms_of g es ids) k in
      and_from (is_term_of h e.1 id) (are_terms_of h (renamed ns es) ids) (term_there e.1 id p.0) (terms_there ns es ids (one l) p.1)
    where
      one : suc (length ns) ≡ suc (length es) → length ns ≡ length es
      one q = cc

  pub terms_kept : (ns : List Name) (es hs : Entries Sort) (k : ℕ) (ids : List ℕ) → length ns ≡ length es → hs ≡ renamed ns es → are_terms_of g (take k es) ids ≡ true
      → are_terms_of h (take k hs) ids ≡ true
  terms_kept ns es hs k ids l e b =
      ap (λ xs. are_terms_of h (take k xs) ids) e ∙ ap (λ xs. are_terms_of h xs ids) (take_renamed k ns es l)
      ∙ terms_there (take k ns) (take k es) ids (length_taken k ns es l) b

  within_there : (o : Option ℕ) → is_within g o ≡ true → is_within h o ≡ true
  within_there None k = refl
  within_there (Some id) k = ap (λ ns. nat_lt id (length ns)) nodes ∙ k

  -- what settles by places settles within the store
  pub settled_within : (d : Design) (called : Naming) (terms : Images) (places : List PlaceTerms) → AreSettledBy d called terms places
      → ((n : Name) → is_within g (terms n) ≡ true) → (n : Name) → is_within h (terms_at places n) ≡ true
  settled_within d called terms places settled low n = by (terms_at places n) refl
    where
      by : (o : Option ℕ) → terms_at places n ≡ o → is_within h o ≡ true
      by None e = refl
      by (Some id) e =
          let t = settled.no_others n id e in
          within_there (Some id) (subst (λ (o : Option ℕ). is_within g o ≡ true) t.is_term (low (called t.place.path t.of_name)))

-- ---- names

pub as_many : (d : Design) (called : Naming) (es : Entries Sort) (ns : List Name) → AreToldBy d called (names_of es) ns → length ns ≡ length es
as_many d called es ns h = told_length d called (names_of es) ns h ∙ names_length es

pub retold_distinct : (d : Design) (called : Naming) → IsNaming d called → IsNaming d dotted → (es : Entries Sort) (ns : List Name) → AreToldBy d called (names_of es) ns
    → AreCalledNets d called es → HasDistinctNames es → HasDistinctNames (renamed ns es)
retold_distinct d called naming dots es ns told nets distinct = distinct_told d called naming dots ns es told (nets_called d called es nets) distinct
