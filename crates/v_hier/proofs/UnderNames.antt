-- Tables and sets with one name more.
use Rattle.std.proofs.Common.{◌≡◌, ℕ, ◌+◌, ◌<◌, Bool, true, false, cond, ◌||◌, List, ◌∷◌, length, drop, get_or, Bor, Option, Some, sym, refl, ap, ◌∙◌, subst, add-one}
use Rattle.std.specs.Ordering.{nat_cmp}
use Rattle.std.specs.Cmp.Lexicographic.{slice_cmp}
use Rattle.std.specs.BTreeMap as tree
use Rattle.std.specs.BTreeMap.{BTreeMap}
use Rattle.std.specs.BTreeSet as sorted
use Rattle.std.specs.BTreeSet.{BTreeSet}
use Rattle.std.proofs.Math.Seq.{drop-cons}
use Rattle.std.proofs.lemmas.Slice.Eq.{bytes_eq-Decides}
use Rattle.std.proofs.lemmas.Map.Text.{is_eq-slice_cmp, btree_map_updates_str}
use Rattle.wb_values.specs.Value.{Name, same_name}
use Rattle.verilog_designs.specs.Names.{is_among}
use Rattle.v_hier.specs.declared.entry.Entry.{Entry}
use Rattle.v_hier.specs.declared.entry.Tag.{Tag}
use Rattle.v_hier.specs.declared.duplicate.Standing.{Standing}
use Rattle.v_hier.specs.Tables.{under_name, has_name}
use Rattle.v_hier.specs.Standings.{or_free, standing_at}
use Rattle.v_hier.specs.Entries.{entries_of, entry_of_code, entry_names, next}

pub entries_drop : (es : List Entry) (i : ℕ) (d : Entry) → i < length es → entries_of (drop i es) ≡ entry_of_code (get_or es i d) ∷ entries_of (drop (i + 1) es)
entries_drop es i d h = rw (add-one, drop-cons es i d h) refl

pub has_more : (s n : BTreeSet (Bor (List ℕ))) (k : Bor (List ℕ)) (b : Bool) → sorted.Updates (λ x y. slice_cmp nat_cmp x.now y.now) s n k b → (q : Name)
    → has_name n q ≡ cond (same_name k.now q) b (has_name s q)
has_more s n k b u q =
    let at_q : Bor (List ℕ) = record { ref_ptr = (0, 0); now = q } in
    u.0 at_q ∙ ap (λ t. cond t b (has_name s q)) (is_eq-slice_cmp k.now q)

or_moved : (e h r : Bool) → (cond e true h || r) ≡ (h || (e || r))
or_moved true true r = refl
or_moved true false r = refl
or_moved false h r = refl

-- a turn that puts a name into the set
pub set_turn : (es : List Entry) (i : ℕ) (d : Entry) (s n : BTreeSet (Bor (List ℕ))) (t : Bool) (q : Name) → i < length es
    → sorted.Updates (λ x y. slice_cmp nat_cmp x.now y.now) s n (get_or es i d).name true
    → (has_name s q || is_among (entry_names (entries_of (drop i es))) q) ≡ t → (has_name n q || is_among (entry_names (entries_of (drop (i + 1) es))) q) ≡ t
set_turn es i d s n t q h u e =
    ap (λ b. b || is_among (entry_names (entries_of (drop (i + 1) es))) q) (has_more s n (get_or es i d).name true u q)
    ∙ (or_moved (same_name (get_or es i d).name.now q) (has_name s q) (is_among (entry_names (entries_of (drop (i + 1) es))) q)
    ∙ (ap (λ ns. has_name s q || is_among (entry_names ns) q) (sym (entries_drop es i d h)) ∙ e))

free_or : (b : Bool) (x : Standing) (o : Option Standing) → or_free (cond b (Some x) o) ≡ cond b x (or_free o)
free_or true x o = refl
free_or false x o = refl

-- a name's standing is put into the table
pub stands_so : (old new : BTreeMap (Bor (List ℕ)) Standing) (k : Bor (List ℕ)) (tag : Tag) (x : Standing) → x ≡ next tag (standing_at old k.now)
    → tree.Updates (λ a b. slice_cmp nat_cmp a.now b.now) old new k (Some x) → (q : Name)
    → standing_at new q ≡ cond (same_name k.now q) (next tag (standing_at old q)) (standing_at old q)
stands_so old new k tag x e u q =
    ap or_free (btree_map_updates_str k.now old new (Some x) u q)
    ∙ (free_or (same_name k.now q) x (under_name old q)
    ∙ (elim (same_name k.now q) as (λ b. same_name k.now q ≡ b → cond b x (standing_at old q) ≡ cond b (next tag (standing_at old q)) (standing_at old q)) [
      | true ↦ λ h. subst (λ n. x ≡ next tag (standing_at old n)) ((bytes_eq-Decides k.now q).0 h) e
      | false ↦ λ h. refl
    ]) refl)
