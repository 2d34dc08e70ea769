-- A table with one name more.
use Rattle.std.proofs.Common.{◌≡◌, ℕ, Bool, true, false, cond, List, Option, Some, None, Bor, refl, ap, ◌∙◌}
use Rattle.std.specs.Prelude.{option_map}
use Rattle.std.specs.Ordering.{nat_cmp}
use Rattle.std.specs.Cmp.Lexicographic.{slice_cmp}
use Rattle.std.specs.BTreeMap as tree
use Rattle.std.specs.BTreeMap.{BTreeMap, get_by}
use Rattle.std.proofs.lemmas.Map.Text.{btree_map_updates_str}
use Rattle.wb_values.specs.Value.{Name, same_name}
use Rattle.wb_terms.specs.declared.nodes.TermId.{TermId}

mapped : (b : Bool) (id : TermId) (o : Option TermId) → option_map (λ k. k.0) (cond b (Some id) o) ≡ cond b (Some id.0) (option_map (λ k. k.0) o)
mapped true id o = refl
mapped false id o = refl

pub id_added : (old new : BTreeMap (Bor (List ℕ)) TermId) (k : Bor (List ℕ)) (m : Name) (id : TermId) → k.now ≡ m
    → tree.Updates (λ x y. slice_cmp nat_cmp x.now y.now) old new k (Some id) → (n : Name)
    → option_map (λ (i : TermId). i.0) (get_by (λ (key : Bor (List ℕ)). slice_cmp nat_cmp n key.now) new)
    ≡ cond (same_name m n) (Some id.0) (option_map (λ (i : TermId). i.0) (get_by (λ (key : Bor (List ℕ)). slice_cmp nat_cmp n key.now) old))
id_added old new k m id e u n =
    ap (option_map (λ (i : TermId). i.0)) (btree_map_updates_str k.now old new (Some id) u n)
    ∙ mapped (same_name k.now n) id (get_by (λ (key : Bor (List ℕ)). slice_cmp nat_cmp n key.now) old)
    ∙ ap (λ q. cond (same_name q n) (Some id.0) (option_map (λ (i : TermId). i.0) (get_by (λ (key : Bor (List ℕ)). slice_cmp nat_cmp n key.now) old))) e
