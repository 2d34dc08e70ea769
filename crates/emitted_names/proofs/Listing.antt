-- The terms that have wires.
use Rattle.std.proofs.Common.{◌≡◌, ℕ, zero, suc, ◌+◌, ◌<◌, ◌≤◌, Bool, true, false, cond, ◌&&◌, List, [], ◌∷◌, ◌++◌, length, drop, IsTrue, Some, slice_get, refl, sym, ◌∙◌, ap, subst, arith}
use Rattle.std.proofs.lemmas.List.{append_assoc, append-nil, drop_more, at_drop_all}
use Rattle.std.proofs.lemmas.Bool.{and_parts}
use Rattle.std.proofs.lemmas.Option.{same_Some, none-some}
use Rattle.wb_terms.specs.declared.nodes.TermId.{TermId}
use Rattle.wb_terms.specs.declared.nodes.Node.TheVariants.{Truth}
use Rattle.wb_terms.specs.Graph.{Graph}
use Rattle.emitted_modules.specs.Nodes.{node_at, has_wire}
use Rattle.wanted_terms.specs.Wanted.{AreBelow}
use Rattle.emitted_names.specs.Ids.{ids_of, AreAllKept, ids_from}
use Rattle.emitted_names.proofs.Turns.{pushed_view}
use Rattle.emitted_names.proofs.Bounds.{both_below}

-- the list so far
pub record AreListedTo (keep : ℕ → Bool) (g : Graph) (place : ℕ) (ids : List TermId) : Type 0 where
  pub rest : ids_of ids ++ ids_from g keep place (drop place g.nodes) ≡ ids_from g keep 0 g.nodes
  pub below : AreBelow (length g.nodes) ids
  pub kept : AreAllKept keep ids

kept_pushed : (keep : ℕ → Bool) (ids : List TermId) (id : TermId) → AreAllKept keep ids → IsTrue (keep id.0) → AreAllKept keep (ids ++ id ∷ [])
kept_pushed keep [] id h is = (is, tt)
kept_pushed keep (d ∷ ids) id h is = (h.0, kept_pushed keep ids id h.1 is)

pub listed_none : (keep : ℕ → Bool) (g : Graph) (ids : List TermId) → ids ≡ [] → AreListedTo keep g 0 ids
listed_none keep g ids e = subst (AreListedTo keep g 0) (sym e) (record { rest = refl; below = tt; kept = tt })

-- those from a place on, by whether the node there has a wire
from_here : (keep : ℕ → Bool) (g : Graph) (place : ℕ) (b : Bool) → place < length g.nodes → (keep place && has_wire g place (node_at g place)) ≡ b
    → ids_from g keep place (drop place g.nodes)
    ≡ cond b (place ∷ ids_from g keep (place + 1) (drop (place + 1) g.nodes)) (ids_from g keep (place + 1) (drop (place + 1) g.nodes))
from_here keep g place b l e =
    let next : suc place ≡ place + 1 = omega arith in
    ap (ids_from g keep place) (drop_more g.nodes place (Truth false) l)
    ∙ (ap (λ t. cond t (place ∷ ids_from g keep (suc place) (drop (place + 1) g.nodes)) (ids_from g keep (suc place) (drop (place + 1) g.nodes))) e
    ∙ ap (λ k. cond b (place ∷ ids_from g keep k (drop (place + 1) g.nodes)) (ids_from g keep k (drop (place + 1) g.nodes))) next)

pub listed_one : (keep : ℕ → Bool) (g : Graph) (place : ℕ) (ids more : List TermId) (id : TermId) → place < length g.nodes → id.0 ≡ place
    → (keep place && has_wire g place (node_at g place)) ≡ true → more ≡ ids ++ id ∷ [] → AreListedTo keep g place ids → AreListedTo keep g (place + 1) more
listed_one keep g place ids more id l z e pushed a =
    let rest = ids_from g keep (place + 1) (drop (place + 1) g.nodes) in
    record {
      rest =
          ap (λ xs. xs ++ rest) (pushed_view (λ (d : TermId). d.0) ids more id pushed)
          ∙ append_assoc (ids_of ids) (id.0 ∷ []) rest
          ∙ ap (λ k. ids_of ids ++ k ∷ rest) z
          ∙ ap (λ xs. ids_of ids ++ xs) (sym (from_here keep g place true l e))
          ∙ a.rest;
      below = subst (AreBelow (length g.nodes)) (sym pushed) (both_below (length g.nodes) ids (id ∷ []) a.below (omega (arith, l, z), tt));
      kept = subst (AreAllKept keep) (sym pushed)
          (kept_pushed keep ids id a.kept (subst (λ k. IsTrue (keep k)) (sym z) (and_parts (keep place) (has_wire g place (node_at g place)) e).0));
    }

pub listed_pass : (keep : ℕ → Bool) (g : Graph) (place : ℕ) (ids more : List TermId) → place < length g.nodes
    → (keep place && has_wire g place (node_at g place)) ≡ false → more ≡ ids → AreListedTo keep g place ids → AreListedTo keep g (place + 1) more
listed_pass keep g place ids more l e same a =
    subst (AreListedTo keep g (place + 1)) (sym same)
    (record { rest = ap (λ xs. ids_of ids ++ xs) (sym (from_here keep g place false l e)) ∙ a.rest; below = a.below; kept = a.kept })

pub listed_all : (keep : ℕ → Bool) (g : Graph) (place : ℕ) (ids : List TermId) → length g.nodes ≤ place → AreListedTo keep g place ids
    → ids_of ids ≡ ids_from g keep 0 g.nodes
listed_all keep g place ids l a =
    sym (append-nil (ids_of ids)) ∙ sym (at_drop_all (λ ns. ids_of ids ++ ids_from g keep place ns) g.nodes place l) ∙ a.rest

pub id_kept : (keep : ℕ → Bool) (ids : List TermId) (k : ℕ) (d : TermId) → AreAllKept keep ids → slice_get ids k ≡ Some d → keep d.0 ≡ true
id_kept keep [] k d h e = absurd (none-some d e)
id_kept keep (x ∷ ids) zero d h e = subst (λ (y : TermId). keep y.0 ≡ true) (same_Some x d e) h.0
id_kept keep (x ∷ ids) (suc k) d h e = id_kept keep ids k d h.1 e
