-- A dotted name leads to a memory of a shape exactly where it is the path of one.
use Rattle.std.proofs.Common.{◌≡◌, ◌∙◌, ℕ, refl, sym, ap, subst, inl, inr, List, [], ◌∷◌, Option, Some, None}
use Rattle.std.specs.Prelude.{◌↔◌, slice_get, is_some, option_map, IsTrue}
use Rattle.std.proofs.lemmas.Bool.{false≢true}
use Rattle.wb_values.specs.Value.{Name, entry_of}
use Rattle.wb_values.specs.Choice.{first_of}
use Rattle.verilog_trees.specs.Syntax.{Item}
use Rattle.verilog_meaning.specs.Expression.{Object, Scope, object_or_undeclared, scope_of}
use Rattle.verilog_meaning.specs.Register.{clocked_blocks}
use Rattle.verilog_meaning.specs.Hierarchy.{PathStep, Placed, Declaration, placed_scope, declarations, declaration_of, declared_object, dotted}
use Rattle.verilog_meaning.specs.Settled.{Design, IsPlacedIn, IsDeclared}
use Rattle.verilog_unique.proofs.Descent.{IsAmong, among_contains}
use Rattle.verilog_unique.proofs.Parameters.{HasNumber, placed_constants}
use Rattle.verilog_exists.proofs.Dots.{ArePlainSteps}
use Rattle.verilog_exists.proofs.Directions.{something_declared}
use Rattle.verilog_exists.proofs.Spots.{plain_declared, plain_path}
use Rattle.refinement.specs.Map.{dotted_parts}
use Rattle.map_files.specs.Written.{Text}
use Rattle.map_rules.specs.Mapped.{IsMemoryPath}
use Rattle.v_places.specs.Below.{Spot}
use Rattle.v_places.specs.Places.{placed_by, IsPlaceAt}
use Rattle.v_registers.specs.Registers.{HasCounted}
use Rattle.map_paths.specs.Located.{Below, located, scope_there}
use Rattle.map_paths.specs.Laws.{HasNoDot, HaveNoDots}
use Rattle.map_paths.proofs.Leads.{names_are_dotted, dotted_are_located}
use Rattle.map_memories.specs.Memories.{has_shape, IsMemoryIn, IsMemoryThere, IsMemoryWhere}
use Rattle.map_memories.specs.Mismatch.{HasInstances}
use Rattle.map_memories.proofs.Shapes.{AreIndexes, shape_told, told_shape}

-- ---- a memory is declared

-- what has addresses is no parameter
memory_is_declared : (d : Design) (p : Placed) → IsPlacedIn d p → (n : Name) (a : ℕ × ℕ) → (placed_scope p n).addresses ≡ Some a → IsDeclared p n
memory_is_declared d p at n a e =
    found (entry_of p.constants n) (declaration_of (declarations p.of_module) n) ((placed_constants d p.path p at).numbers n) refl e
  where
    found : (x : Option Object) (y : Option Declaration) → ((o : Object) → x ≡ Some o → HasNumber o) → declaration_of (declarations p.of_module) n ≡ y
        → (object_or_undeclared (first_of x (option_map (declared_object (scope_of p.constants)) y))).addresses ≡ Some a → IsDeclared p n
    found None None f k h = cc
    found None (Some y) f k h = something_declared (declarations p.of_module) n (ap is_some k)
    found (Some o) y f k h = absurd (false≢true (sym (f o refl).1 ∙ ap is_some h))

no_dot : (n : Name) → (IsAmong n 46 → ⊥) → HasNoDot n
no_dot n plain c = plain (among_contains n 46 c)

no_dots : (path : List PathStep) → ArePlainSteps path → HaveNoDots path
no_dots [] h = tt
no_dots (u ∷ around) h = (no_dot u.of_name h.1, no_dots around h.2)

indexed : (a : ℕ) (x : Option (ℕ × ℕ)) → AreIndexes a x → (y : ℕ × ℕ) × (x ≡ Some y)
indexed a x (inl e) = (_, e)
indexed a x (inr e) = (_, e)

-- ---- in one scope

-- a memory of the shape with a bit that counts
abbrev IsMemoryOf : List Item → Name → (a w : ℕ) → Scope → Type 0
IsMemoryOf items n a w s = IsTrue (has_shape a w (s n)) × HasCounted s (clocked_blocks items) n

module _ (d : Design) (spots : List Spot) (below : Below) (known : HasInstances d spots below) (t : Text) (a w : ℕ) where
  leads : (k : ℕ) (own : Name) (x : Spot) → located below 0 (dotted_parts t) ≡ Some (k, own) → slice_get spots k ≡ Some x → IsMemoryIn x own a w → IsMemoryPath d t a w
  leads k own x e is h =
      let to = names_are_dotted spots below known.are_below t own k e in
      let p : Placed = placed_by to.0 x in
      let place : IsPlaceAt spots k to.0 p = record { stands = to.1; spot = x; is_spot = is; is_placed = refl } in
      let same : scope_there x ≡ placed_scope p = known.standing.scope k to.0 x place in
      let there : IsMemoryOf x.of_module.items own a w (placed_scope p) = subst (IsMemoryOf x.of_module.items own a w) same h in
      let shape = shape_told a w (placed_scope p own) there.0 in
      record {
        within = p;
        memory_name = own;
        is_placed = known.standing.stands k to.0 p place;
        is_path = to.2;
        indexes = shape.0;
        word_width = shape.1;
        index = there.1.word;
        place = there.1.bit;
        is_assigned = there.1.counts;
      }

  back : IsMemoryPath d t a w → IsMemoryWhere spots (located below 0 (dotted_parts t)) a w
  back h =
      let p : Placed = h.within in
      let f = known.standing.number p h.is_placed in
      let x : Spot = f.1.spot in
      let own : Name = h.memory_name in
      let same_place : p ≡ placed_by p.path x = f.1.is_placed in
      let place : IsPlaceAt spots f.0 p.path (placed_by p.path x) = subst (IsPlaceAt spots f.0 p.path) same_place f.1 in
      let same : scope_there x ≡ placed_scope (placed_by p.path x) = known.standing.scope f.0 p.path x place in
      let i = indexed a (placed_scope p own).addresses h.indexes in
      let plain : HasNoDot own = no_dot own (plain_declared d known.no_dots p own h.is_placed (memory_is_declared d p h.is_placed own i.0 i.1)) in
      let path : HaveNoDots p.path = no_dots p.path (plain_path d known.no_dots p.path p h.is_placed) in
      let led : located below 0 (dotted_parts (dotted p.path own)) ≡ Some (f.0, own)
      = dotted_are_located d spots below known.standing known.are_below f.0 p.path own f.1.stands path plain in
      let here : IsMemoryOf p.of_module.items own a w (placed_scope p)
      = (told_shape a w (placed_scope p own) h.indexes h.word_width, record { word = h.index; bit = h.place; counts = h.is_assigned }) in
      let there : IsMemoryOf x.of_module.items own a w (placed_scope (placed_by p.path x))
      = subst (λ (q : Placed). IsMemoryOf q.of_module.items own a w (placed_scope q)) same_place here in
      let is_in : IsMemoryIn x own a w = subst (IsMemoryOf x.of_module.items own a w) (sym same) there in
      subst (λ o. IsMemoryWhere spots o a w) (sym (ap (λ n. located below 0 (dotted_parts n)) h.is_path ∙ led))
      (subst (λ o. IsMemoryThere o own a w) (sym f.1.is_spot) is_in)

  pub paths_of_memories : IsMemoryWhere spots (located below 0 (dotted_parts t)) a w ↔ IsMemoryPath d t a w
  paths_of_memories = (λ h. at (located below 0 (dotted_parts t)) refl h, back)
    where
      there : (k : ℕ) (own : Name) → located below 0 (dotted_parts t) ≡ Some (k, own) → (o : Option Spot) → slice_get spots k ≡ o → IsMemoryThere o own a w
          → IsMemoryPath d t a w
      there k own e None is h = absurd h
      there k own e (Some x) is h = leads k own x e is h

      at : (o : Option (ℕ × Name)) → located below 0 (dotted_parts t) ≡ o → IsMemoryWhere spots o a w → IsMemoryPath d t a w
      at None e h = absurd h
      at (Some p) e h = there p.0 p.1 e (slice_get spots p.0) refl h
