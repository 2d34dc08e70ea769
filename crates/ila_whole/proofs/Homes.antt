-- The places and the scopes of the names of a model's table.
use Rattle.std.proofs.Common.{◌≡◌, ℕ, suc, ◌+◌, ◌<◌, ◌≤◌, true, List, [], ◌∷◌, ◌++◌, length, replicate, refl, sym, ap, ◌∙◌, subst, arith, append_assoc, length-append}
use Rattle.std.specs.Prelude.{◌==◌, ⊤, slice_index_or}
use Rattle.std.proofs.lemmas.Bool.{and_parts, eqb-true}
use Rattle.std.proofs.lemmas.List.{length-replicate}
use Rattle.std.proofs.Math.Seq.{get_or-append_seam}
use Rattle.wb_values.specs.Value.{Name, Sort, truth, Entries}
use Rattle.wb_terms.specs.Graph.{HasDistinctNames}
use Rattle.ila_model.specs.declared.parts.Child.{Child}
use Rattle.ila_model.specs.declared.parts.Parts.{Parts}
use Rattle.ila_model.specs.declared.scopes.Scope.{Scope}
use Rattle.ila_model.specs.declared.scopes.Scope.TheVariants.{Anywhere, Within}
use Rattle.ila_model.specs.Scope.{private_scopes, name_scopes, home, tops}
use Rattle.ila_model.specs.Sorted.{are_placed, name_at}
use Rattle.ila_model.proofs.Declarations.{are_distinct-from}
use Rattle.ila_model.proofs.Names.{are_name_scopes}
use Rattle.ila_build.proofs.Chosen.{places_same}

-- the tables of a model: distinct names, and private states in their places
pub record IsTabled (p : Parts) : Type 0 where
  pub distinct : HasDistinctNames p.terms.names
  pub placed : are_placed (tops p) (length p.terms.names) p.children.items ≡ true

home_at : (p : Parts) (k : ℕ) → IsTabled p → k < length p.terms.names → home p (name_at p.terms.names k) ≡ slice_index_or (name_scopes (tops p) p.children.items) k Anywhere
home_at p k t h = sym (are_name_scopes p (name_scopes (tops p) p.children.items) (are_distinct-from p.terms.names t.distinct) t.placed refl k h).1

-- Each of these names has this scope, and stands between these places alone.
abbrev pub AreHomed : Parts → Scope → (low high : ℕ) → Entries Sort → Type 0
AreHomed p s low high [] = ⊤
AreHomed p s low high (e ∷ es) = (home p e.0 ≡ s) × ((k : ℕ) → k < length p.terms.names → name_at p.terms.names k ≡ e.0 → (low ≤ k) × (k < high)) × AreHomed p s low high es

pub are_homed : (p : Parts) (s : Scope) (low high : ℕ) (before es behind : Entries Sort) (sb sa : List Scope)
    → IsTabled p → p.terms.names ≡ before ++ (es ++ behind) → name_scopes (tops p) p.children.items ≡ sb ++ (replicate (length es) s ++ sa) → length before ≡ length sb
    → low ≤ length before → length before + length es ≤ high → AreHomed p s low high es
are_homed p s low high before [] behind sb sa t e f l b c = tt
are_homed p s low high before (x ∷ es) behind sb sa t e f l b c =
    let ns = p.terms.names in
    let k = length before in
    let all : length ns ≡ k + suc (length (es ++ behind)) = ap length e ∙ length-append before (x ∷ (es ++ behind)) in
    let within : k < length ns = omega (arith, all) in
    let entry : slice_index_or ns k ([], truth) ≡ x = ap (λ xs. slice_index_or xs k ([], truth)) e ∙ get_or-append_seam before x (es ++ behind) ([], truth) in
    let scope : slice_index_or (name_scopes (tops p) p.children.items) k Anywhere ≡ s =
    ap (λ xs. slice_index_or xs k Anywhere) f ∙ (ap (λ j. slice_index_or (sb ++ (s ∷ (replicate (length es) s ++ sa))) j Anywhere) l ∙ get_or-append_seam sb s (replicate (length es) s ++ sa) Anywhere) in
    let name : name_at ns k ≡ x.0 = ap (λ (y : Name × Sort). y.0) entry in
    let own : home p x.0 ≡ s = ap (home p) (sym name) ∙ (home_at p k t within ∙ scope) in (
      own,
      (λ j h n. let same : j ≡ k = places_same ns j k t.distinct h within (n ∙ sym name) in (omega (arith, same, b), omega (arith, same, c))),
      are_homed p s low high (before ++ x ∷ []) es behind (sb ++ s ∷ []) sa t (e ∙ sym (append_assoc before (x ∷ []) (es ++ behind))) (f ∙ sym (append_assoc sb (s ∷ []) (replicate (length es) s ++ sa)))
          (omega (arith, l, length-append before (x ∷ []), length-append sb (s ∷ []))) (omega (arith, b, length-append before (x ∷ []))) (omega (arith, c, length-append before (x ∷ []))),
    )

-- ---- the names of the top

pub top_homed : (p : Parts) (es behind : Entries Sort) → IsTabled p → p.terms.names ≡ es ++ behind → length es ≡ tops p → AreHomed p Anywhere 0 (tops p) es
top_homed p es behind t e l =
    are_homed p Anywhere 0 (tops p) [] es behind [] (private_scopes 0 p.children.items) t e (ap (λ n. replicate n any ++ private_scopes 0 p.children.items) (sym l)) refl (omega arith) (omega (arith, l)) where
      any : Scope
      any = Anywhere

pub homed_front : (p : Parts) (s : Scope) (low high : ℕ) (es fs : Entries Sort) → AreHomed p s low high (es ++ fs) → AreHomed p s low high es
homed_front p s low high [] fs h = tt
homed_front p s low high (e ∷ es) fs h = (h.0, h.1, homed_front p s low high es fs h.2)

pub homed_rest : (p : Parts) (s : Scope) (low high : ℕ) (es fs : Entries Sort) → AreHomed p s low high (es ++ fs) → AreHomed p s low high fs
homed_rest p s low high [] fs h = h
homed_rest p s low high (e ∷ es) fs h = homed_rest p s low high es fs h.2

-- ---- those of a child

private_append : (i : ℕ) (xs ys : List Child) → private_scopes i (xs ++ ys) ≡ private_scopes i xs ++ private_scopes (i + length xs) ys
private_append i [] ys = ap (λ j. private_scopes j ys) (omega arith)
private_append i (x ∷ xs) ys =
    let own : Scope = Within i in
    let next : suc i + length xs ≡ i + suc (length xs) = omega arith in
    ap (λ r. replicate (length x.initial_values.items) own ++ r) (private_append (suc i) xs ys ∙ ap (λ j. private_scopes (suc i) xs ++ private_scopes j ys) next)
    ∙ sym (append_assoc (replicate (length x.initial_values.items) own) (private_scopes (suc i) xs) (private_scopes (i + suc (length xs)) ys))

first_of_child : (i from total : ℕ) (xs : List Child) (c : Child) (ys : List Child) → are_placed from total (xs ++ c ∷ ys) ≡ true → from + length (private_scopes i xs) ≡ c.first.0
first_of_child i from total [] c ys h =
    let e : c.first.0 ≡ from = eqb-true c.first.0 from (and_parts (c.first.0 == from) _ h).0 in
    omega (arith, e)
first_of_child i from total (x ∷ xs) c ys h =
    let n = length x.initial_values.items in
    let own : Scope = Within i in
    let rest = first_of_child (suc i) (from + n) total xs c ys (and_parts (x.first.0 == from) _ h).1 in
    omega (arith, rest, length-append (replicate n own) (private_scopes (suc i) xs), length-replicate n own)

pub child_homed : (p : Parts) (es : Entries Sort) (before behind : Entries Sort) (xs : List Child) (c : Child) (ys : List Child)
    → IsTabled p → p.children.items ≡ xs ++ c ∷ ys → p.terms.names ≡ before ++ (es ++ behind) → length before ≡ c.first.0 → length c.initial_values.items ≡ length es
    → AreHomed p (Within (length xs)) (tops p) (length p.terms.names) es
child_homed p es before behind xs c ys t e f l n =
    let own : Scope = Within (length xs) in
    let any : Scope = Anywhere in
    let zero_more : 0 + length xs ≡ length xs = omega arith in
    let front = replicate (tops p) any ++ private_scopes 0 xs in
    let first : tops p + length (private_scopes 0 xs) ≡ c.first.0 = first_of_child 0 (tops p) (length p.terms.names) xs c ys (subst (λ cs. are_placed (tops p) (length p.terms.names) cs ≡ true) e t.placed) in
    let size : length front ≡ tops p + length (private_scopes 0 xs) = omega (arith, length-append (replicate (tops p) any) (private_scopes 0 xs), length-replicate (tops p) any) in
    let cut : name_scopes (tops p) p.children.items ≡ front ++ (replicate (length es) own ++ private_scopes (suc (length xs)) ys) =
    ap (λ cs. replicate (tops p) any ++ private_scopes 0 cs) e
    ∙ (ap (λ r. replicate (tops p) any ++ r) (private_append 0 xs (c ∷ ys) ∙ ap (λ j. private_scopes 0 xs ++ private_scopes j (c ∷ ys)) zero_more)
    ∙ (sym (append_assoc (replicate (tops p) any) (private_scopes 0 xs) (replicate (length c.initial_values.items) own ++ private_scopes (suc (length xs)) ys))
    ∙ ap (λ k. front ++ (replicate k own ++ private_scopes (suc (length xs)) ys)) n)) in
    let total : length p.terms.names ≡ length before + (length es + length behind) = ap length f ∙ (length-append before (es ++ behind) ∙ ap (λ k. length before + k) (length-append es behind)) in
    are_homed p own (tops p) (length p.terms.names) before es behind front (private_scopes (suc (length xs)) ys) t f cut (omega (arith, l, size, first)) (omega (arith, l, first)) (omega (arith, total))
