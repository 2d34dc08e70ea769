-- What the answer means for a design that is one module.
use Rattle.std.proofs.Common.{◌≡◌, ◌∙◌, ℕ, refl, ap, sym, subst, arith, Bool, true, false, not, cond, List, [], ◌∷◌, Contains, Option, Some, None, is_some, is_none, option_map}
use Rattle.std.specs.Prelude.{◌||◌, ◌&&◌, ◌↔◌}
use Rattle.std.specs.List.{list_any}
use Rattle.std.proofs.lemmas.Bool.{true≢false, false≢true, or_left, or_right, and_parts, and_from}
use Rattle.std.proofs.lemmas.Slice.Eq.{bytes_eq-Decides}
use Rattle.wb_values.specs.Value.{Name, same_name, entry_of}
use Rattle.verilog_trees.specs.Syntax.{name, whole, Range, Direction, input, output, Module}
use Rattle.verilog_meaning.specs.Expression.{Scope, scope_of, object_or_undeclared, is_memory}
use Rattle.verilog_meaning.specs.Register.{clocked_blocks, combinational_blocks, is_bit_of, one_may_assign}
use Rattle.verilog_meaning.specs.Hierarchy.{Declaration, declarations, declaration_of, ranged_object, declared_object, instance_step, Placed, placed_scope}
use Rattle.verilog_meaning.specs.Settled.{Design, at_path, IsPlacedIn, is_declared_among, IsDeclared, Connection, assignments, port_connections, port_directions, IsDriven}
use Rattle.verilog_designs.specs.Reads.{reads}
use Rattle.verilog_designs.specs.Drivers.{is_declared_input, IsRead, IsDrivenAs, HasDriver, HasUndriven}
use Rattle.verilog_designs.specs.Ports.{is_input}
use Rattle.verilog_designs.specs.Clocks.{IsClockNet}
use Rattle.v_hier.specs.Instances.{module_has_parts, has_parts}
use Rattle.v_scopes.specs.declared.table.ModuleScope.{ModuleScope}
use Rattle.v_scopes.specs.Rows.{Row, row, rows_of, row_named, row_and_later}
use Rattle.v_scopes.specs.Scopes.{declared_in}
use Rattle.v_scopes.specs.Ports.{alone}
use Rattle.v_scopes.proofs.Parts.{none_some, nothing_below}
use Rattle.v_drivers.specs.Sets.{drivers}
use Rattle.v_assigned.specs.Names.{is_input_row, HasNamesOf}
use Rattle.v_assigned.proofs.OneModule.{one-of, any-there, object-constant, input-so, row-so, placed-top, unconnected}
use Rattle.v_undriven.specs.Names.{is_output, is_output_row, is_output_name}
use Rattle.v_undriven.specs.Reads.{all_items_read, output_reads, outputs_read, module_reads}
use Rattle.v_undriven.specs.Undriven.{OneHas, HasAnyAs, HasUndrivenBit}
use Rattle.v_undriven.proofs.Within.{module-within}
use Rattle.v_undriven.proofs.Listing.{either, by_link, by_block, read-lists, DrivenBy, driven-by, by-driven}
use Rattle.v_undriven.proofs.Declaring.{direction_at, directions-agree, declared-so}

-- ---- truth values and names

not-so : (t : Bool) → (t ≡ true → ⊥) → t ≡ false
not-so true h = absurd (h refl)
not-so false h = refl

turned : (t : Bool) → not t ≡ true → t ≡ false
turned false h = refl
turned true h = absurd (false≢true h)

same-names : (m n : Name) → same_name m n ≡ true → m ≡ n
same-names m n h = (bytes_eq-Decides m n).0 h

itself : (n : Name) → same_name n n ≡ true
itself n = (bytes_eq-Decides n n).1 refl

-- ---- rows and declarations

declared-input : (o : Option Declaration) → is_declared_input o ≡ is_input (direction_at o)
declared-input None = refl
declared-input (Some d) = refl

ranged-declared : (s : Scope) (signed : Bool) (r : Option Range) → (ranged_object s signed r).is_declared ≡ true
ranged-declared s signed None = refl
ranged-declared s signed (Some r) = refl

object-declared : (s : Scope) (o : Option Declaration) → (object_or_undeclared (option_map (declared_object s) o)).is_declared ≡ is_some o
object-declared s None = refl
object-declared s (Some d) = ranged-declared s d.signed d.range

output-row : (s : Scope) (o : Option Declaration) → is_output_row (option_map (row s) o) ≡ is_output (direction_at o)
output-row s None = refl
output-row s (Some d) = refl

input-is : (o : Option Direction) → is_input o ≡ true → o ≡ Some input
input-is None h = absurd (false≢true h)
input-is (Some input) h = refl
input-is (Some output) h = absurd (false≢true h)

output-is : (o : Option Direction) → is_output o ≡ true → o ≡ Some output
output-is None h = absurd (false≢true h)
output-is (Some input) h = absurd (false≢true h)
output-is (Some output) h = refl

-- ---- outputs that are read

module _ (s : Scope) (names : ModuleScope) (n : Name) (k b : ℕ) where
  whole-read : (m : Name) → reads s (name m whole) n k b ≡ true → (same_name m n ≡ true) × (is_bit_of (s n) k b ≡ true)
  whole-read m h = either (same_name m n && (is_none (s m).constant && (is_bit_of (s m) k b && true))) false h
      (λ e. let p = and_parts (same_name m n) (is_none (s m).constant && (is_bit_of (s m) k b && true)) e in
      let q = and_parts (is_none (s m).constant) (is_bit_of (s m) k b && true) p.1 in
      let r = and_parts (is_bit_of (s m) k b) true q.1 in
      (p.0, subst (λ (z : Name). is_bit_of (s z) k b ≡ true) (same-names m n p.0) r.0))
      (λ e. absurd (false≢true e))

  read-whole : is_some (s n).constant ≡ false → is_bit_of (s n) k b ≡ true → reads s (name n whole) n k b ≡ true
  read-whole c h =
      or_left (same_name n n && (is_none (s n).constant && (is_bit_of (s n) k b && true))) false
      (and_from (same_name n n) (is_none (s n).constant && (is_bit_of (s n) k b && true)) (itself n)
      (and_from (is_none (s n).constant) (is_bit_of (s n) k b && true) (none (s n).constant c) (and_from (is_bit_of (s n) k b) true h refl)))
    where
      none : (o : Option ℕ) → is_some o ≡ false → is_none o ≡ true
      none None e = refl
      none (Some x) e = absurd (true≢false e)

  one-output : (m : Name) → output_reads s names m n k b ≡ true → (is_output_name names n ≡ true) × (is_bit_of (s n) k b ≡ true)
  one-output m h = at (is_output_name names m) refl h
    where
      at : (t : Bool) → is_output_name names m ≡ t → cond t (reads s (name m whole)) (λ x y z. false) n k b ≡ true → (is_output_name names n ≡ true) × (is_bit_of (s n) k b ≡ true)
      at true e g =
          let r = whole-read m g in (subst (λ (z : Name). is_output_name names z ≡ true) (same-names m n r.0) e, r.1)
      at false e g = absurd (false≢true g)

  outputs-are : (rs : List Row) → outputs_read s names rs n k b ≡ true → (is_output_name names n ≡ true) × (is_bit_of (s n) k b ≡ true)
  outputs-are [] h = absurd (false≢true h)
  outputs-are (r ∷ rs) h =
      either (output_reads s names r.of_name n k b) (outputs_read s names rs n k b) h (λ e. one-output r.of_name e) (λ e. outputs-are rs e)

  here : is_output_name names n ≡ true → reads s (name n whole) n k b ≡ true → output_reads s names n n k b ≡ true
  here e h = at (is_output_name names n) e
    where
      at : (t : Bool) → t ≡ true → cond t (reads s (name n whole)) (λ x y z. false) n k b ≡ true
      at true i = h
      at false i = absurd (false≢true i)

  are-outputs : (rs : List Row) → is_some (row_named rs n) ≡ true → is_output_name names n ≡ true → reads s (name n whole) n k b ≡ true → outputs_read s names rs n k b ≡ true
  are-outputs [] i e h = absurd (false≢true i)
  are-outputs (r ∷ rs) i e h = at (same_name r.of_name n) refl i (λ j. are-outputs rs j e h)
    where
      at : (t : Bool) → same_name r.of_name n ≡ t → is_some (cond t (Some (row_and_later r (row_named rs n))) (row_named rs n)) ≡ true
          → (is_some (row_named rs n) ≡ true → outputs_read s names rs n k b ≡ true) → (output_reads s names r.of_name n k b || outputs_read s names rs n k b) ≡ true
      at true g j f =
          or_left (output_reads s names r.of_name n k b) (outputs_read s names rs n k b)
          (subst (λ (z : Name). output_reads s names z n k b ≡ true) (sym (same-names r.of_name n g)) (here e h))
      at false g j f = or_right (output_reads s names r.of_name n k b) (outputs_read s names rs n k b) (f j)

-- ---- a driver of a bit, or of some bit of a memory

as-driver : (d : Design) (p : Placed) (ps : List (Name → ℕ → ℕ → Bool)) (n : Name) (k b : ℕ) (m : Bool)
    → ((l c : ℕ) → OneHas ps n l c → (is_bit_of (placed_scope p n) l c ≡ true) × IsDriven d p n l c) → HasAnyAs m ps n k b → IsDrivenAs m d p n k b
as-driver d p ps n k b false f h = (f k b h).1
as-driver d p ps n k b true f h = let r = f h.0 h.1 h.2 in (h.0, h.1, r.0, r.1)

as-one : (d : Design) (p : Placed) (ps : List (Name → ℕ → ℕ → Bool)) (n : Name) (k b : ℕ) (m : Bool) → is_bit_of (placed_scope p n) k b ≡ true
    → ((l c : ℕ) → is_bit_of (placed_scope p n) l c ≡ true → IsDriven d p n l c → OneHas ps n l c) → IsDrivenAs m d p n k b → HasAnyAs m ps n k b
as-one d p ps n k b false bit f h = f k b bit h
as-one d p ps n k b true bit f h = (h.0, h.1, f h.0 h.1 h.2 h.3)

driven-anyway : (d : Design) (p : Placed) (n : Name) (k b : ℕ) (m : Bool) → is_bit_of (placed_scope p n) k b ≡ true → IsDriven d p n k b → IsDrivenAs m d p n k b
driven-anyway d p n k b false bit h = h
driven-anyway d p n k b true bit h = (k, b, bit, h)

-- ---- the law

module _ (d : Design) (m : Module) (names : ModuleScope) (clear : has_parts d.source ≡ false) (own : module_has_parts m ≡ false)
    (top : at_path d [] ≡ Some (alone m)) (known : HasNamesOf names m) where
  abbrev s : Scope
  s = placed_scope (alone m)

  abbrev found : Name → Option Declaration
  found n = declaration_of (declarations m) n

  no-connection : (A : Type 0) (c : Connection) → Contains (port_connections m.items) c → A
  no-connection A c h = at (subst (λ (xs : List Connection). Contains xs c) (unconnected d m names clear own top known) h)
    where
      at : Contains [] c → A
      at (i, l, e) = absurd (omega (arith, l))

  -- what stands in the design is the top
  to-top : (A : Placed → Type 0) (q : Placed) → IsPlacedIn d q → A q → A (alone m)
  to-top A q at h = subst A (placed-top d m names clear own top known q q.path at) h

  input-there : (n : Name) → is_input_row (declared_in names n) ≡ is_input (entry_of (port_directions m) n)
  input-there n =
      ap is_input_row (row-so (alone m) names known n) ∙ input-so (scope_of known.0) (found n) ∙ declared-input (found n)
      ∙ ap is_input (directions-agree n m)

  declared-there : (n : Name) → (s n).is_declared ≡ is_declared_among (declarations m) n
  declared-there n = object-declared (scope_of []) (found n) ∙ declared-so n (declarations m)

  abbrev no_input_row : Name → Bool
  no_input_row n = not (is_input_row (declared_in names n))

  output-so : (n : Name) → is_output_name names n ≡ is_output (entry_of (port_directions m) n)
  output-so n =
      ap is_output_row (row-so (alone m) names known n) ∙ output-row (scope_of known.0) (found n) ∙ ap is_output (directions-agree n m)

  output-there : (n : Name) → is_output_name names n ≡ true → is_some (declared_in names n) ≡ true
  output-there n h = at (declared_in names n) h
    where
      at : (o : Option Row) → is_output_row o ≡ true → is_some o ≡ true
      at None g = absurd (false≢true g)
      at (Some r) g = refl

  -- ---- what is read

  read-there : (n : Name) (k b : ℕ) → IsRead d (alone m) n k b → module_reads s names m.items n k b ≡ true
  read-there n k b (IsRead.by_assignment a c h) =
      or_left (all_items_read s m.items n k b) (outputs_read s names (rows_of names.declared.items) n k b)
      (read-lists s n k b m.items
      ∙ or_left (list_any (by_link s n k b) (assignments m.items)) (list_any (by_block s n k b) (clocked_blocks m.items) || list_any (by_block s n k b) (combinational_blocks m.items))
      (any-there (by_link s n k b) (assignments m.items) a c h))
  read-there n k b (IsRead.by_clocked x c h) =
      or_left (all_items_read s m.items n k b) (outputs_read s names (rows_of names.declared.items) n k b)
      (read-lists s n k b m.items
      ∙ or_right (list_any (by_link s n k b) (assignments m.items)) (list_any (by_block s n k b) (clocked_blocks m.items) || list_any (by_block s n k b) (combinational_blocks m.items))
      (or_left (list_any (by_block s n k b) (clocked_blocks m.items)) (list_any (by_block s n k b) (combinational_blocks m.items))
      (any-there (by_block s n k b) (clocked_blocks m.items) x c h)))
  read-there n k b (IsRead.by_combinational x c h) =
      or_left (all_items_read s m.items n k b) (outputs_read s names (rows_of names.declared.items) n k b)
      (read-lists s n k b m.items
      ∙ or_right (list_any (by_link s n k b) (assignments m.items)) (list_any (by_block s n k b) (clocked_blocks m.items) || list_any (by_block s n k b) (combinational_blocks m.items))
      (or_right (list_any (by_block s n k b) (clocked_blocks m.items)) (list_any (by_block s n k b) (combinational_blocks m.items))
      (any-there (by_block s n k b) (combinational_blocks m.items) x c h)))
  read-there n k b (IsRead.by_input c below i stands to h) = no-connection (module_reads s names m.items n k b ≡ true) c stands
  read-there n k b (IsRead.by_output around c at stands to bit) =
      no-connection (module_reads s names m.items n k b ≡ true) c (to-top (λ (q : Placed). Contains (port_connections q.of_module.items) c) around at stands)
  read-there n k b (IsRead.as_output_of_top path has bit) =
      let is = output-so n ∙ ap is_output has in
      or_right (all_items_read s m.items n k b) (outputs_read s names (rows_of names.declared.items) n k b)
      (are-outputs s names n k b (rows_of names.declared.items) (output-there n is) is (read-whole s names n k b (object-constant (found n)) bit))

  there-read : (n : Name) (k b : ℕ) → module_reads s names m.items n k b ≡ true → IsRead d (alone m) n k b
  there-read n k b h =
      either (all_items_read s m.items n k b) (outputs_read s names (rows_of names.declared.items) n k b) h
      (λ e. either (list_any (by_link s n k b) (assignments m.items)) (list_any (by_block s n k b) (clocked_blocks m.items) || list_any (by_block s n k b) (combinational_blocks m.items))
      (sym (read-lists s n k b m.items) ∙ e)
      (λ i. let o = one-of (by_link s n k b) (assignments m.items) i in IsRead.by_assignment o.element o.stands o.so)
      (λ i. either (list_any (by_block s n k b) (clocked_blocks m.items)) (list_any (by_block s n k b) (combinational_blocks m.items)) i
      (λ j. let o = one-of (by_block s n k b) (clocked_blocks m.items) j in IsRead.by_clocked o.element o.stands o.so)
      (λ j. let o = one-of (by_block s n k b) (combinational_blocks m.items) j in IsRead.by_combinational o.element o.stands o.so)))
      (λ e. let o = outputs-are s names n k b (rows_of names.declared.items) e in
      IsRead.as_output_of_top refl (output-is (entry_of (port_directions m) n) (sym (output-so n) ∙ o.0)) o.1)

  -- ---- what drives

  driven-there : (n : Name) (l c : ℕ) → OneHas (drivers s m.items) n l c → (is_bit_of (s n) l c ≡ true) × IsDriven d (alone m) n l c
  driven-there n l c h = let r = driven-by s n l c m.items h in (r.0, of-kind r.0 r.1)
    where
      of-kind : is_bit_of (s n) l c ≡ true → DrivenBy s n l c m.items → IsDriven d (alone m) n l c
      of-kind bit (DrivenBy.by_links i) = IsDriven.by_assignment i
      of-kind bit (DrivenBy.by_clock i) = IsDriven.by_clock (and_from (is_bit_of (s n) l c) (one_may_assign s (clocked_blocks m.items) n l c) bit i)
      of-kind bit (DrivenBy.by_others i) = IsDriven.by_block i

  there-driven : (n : Name) → no_input_row n ≡ true → (l c : ℕ) → is_bit_of (s n) l c ≡ true → IsDriven d (alone m) n l c → OneHas (drivers s m.items) n l c
  there-driven n needs l c bit (IsDriven.by_clock h) =
      by-driven s n l c m.items bit (DrivenBy.by_clock (and_parts (is_bit_of (s n) l c) (one_may_assign s (clocked_blocks m.items) n l c) h).1)
  there-driven n needs l c bit (IsDriven.by_block h) = by-driven s n l c m.items bit (DrivenBy.by_others h)
  there-driven n needs l c bit (IsDriven.by_assignment h) = by-driven s n l c m.items bit (DrivenBy.by_links h)
  there-driven n needs l c bit (IsDriven.by_top_input path has other) =
      absurd (false≢true (sym (turned (is_input_row (declared_in names n)) needs) ∙ input-there n ∙ ap is_input has))
  there-driven n needs l c bit (IsDriven.by_input around x at stands to) =
      no-connection (OneHas (drivers s m.items) n l c) x (to-top (λ (q : Placed). Contains (port_connections q.of_module.items) x) around at stands)
  there-driven n needs l c bit (IsDriven.by_output x below i t stands to is h) = no-connection (OneHas (drivers s m.items) n l c) x stands

  -- ---- both ways

  record AtTop (n : Name) (k b : ℕ) (q : Placed) : Type 0 where
    pub declared : IsDeclared q n
    pub is_read : IsRead d q n k b
    pub no_clock : IsClockNet d q n → ⊥
    pub undriven : HasDriver d q n k b → ⊥

  there : HasUndriven d → HasUndrivenBit s names d.clock m.items
  there h =
      let n = h.name in
      let k = h.word in
      let b = h.bit in
      let a = to-top (AtTop n k b) h.place h.is_placed (record { declared = h.is_declared; is_read = h.is_read; no_clock = h.no_clock; undriven = h.undriven }) in
      let read = read-there n k b a.is_read in
      let bit = module-within s names m.items n k b read in
      let other : d.clock ≡ n → ⊥ = λ e. a.no_clock (subst (λ (z : Name). IsClockNet d (alone m) z) e (IsClockNet.at_top (alone m) top refl)) in
      let apart = not-so (same_name d.clock n) (λ e. other (same-names d.clock n e)) in
      let no_input = not-so (is_input (entry_of (port_directions m) n))
      (λ e. a.undriven (driven-anyway d (alone m) n k b (is_memory (s n)) bit
      (IsDriven.by_top_input refl (input-is (entry_of (port_directions m) n) e) (λ i. other (sym i))))) in
      record {
        name = n;
        word = k;
        bit = b;
        needs = and_from (s n).is_declared (not (same_name d.clock n) && no_input_row n) (declared-there n ∙ a.declared)
            (and_from (not (same_name d.clock n)) (no_input_row n) (ap not apart) (ap not (input-there n ∙ no_input)));
        is_read = read;
        undriven = λ i. a.undriven (as-driver d (alone m) (drivers s m.items) n k b (is_memory (s n)) (driven-there n) i);
      }

  no-clock-net : (n : Name) (q : Placed) → IsClockNet d q n → d.clock ≡ n
  no-clock-net n q (IsClockNet.at_top p at path) = refl
  no-clock-net n q (IsClockNet.at_input around below c i j net stands to is) =
      absurd (none_some below (sym (nothing_below d.source d.top clear (instance_step c.of_instance) around.path) ∙ to.is_below))

  back : HasUndrivenBit s names d.clock m.items → HasUndriven d
  back h =
      let p = and_parts (s h.name).is_declared (not (same_name d.clock h.name) && no_input_row h.name) h.needs in
      let q = and_parts (not (same_name d.clock h.name)) (no_input_row h.name) p.1 in
      let bit = module-within s names m.items h.name h.word h.bit h.is_read in
      record {
        place = alone m;
        name = h.name;
        word = h.word;
        bit = h.bit;
        is_placed = top;
        is_declared = sym (declared-there h.name) ∙ p.0;
        is_read = there-read h.name h.word h.bit h.is_read;
        no_clock = λ i. true≢false (sym (subst (λ (z : Name). same_name d.clock z ≡ true) (no-clock-net h.name (alone m) i) (itself d.clock)) ∙ turned (same_name d.clock h.name) q.0);
        undriven = λ i. h.undriven (as-one d (alone m) (drivers s m.items) h.name h.word h.bit (is_memory (s h.name)) bit (there-driven h.name q.1) i);
      }

  pub as-the-rule : HasUndriven d ↔ HasUndrivenBit s names d.clock m.items
  as-the-rule = (there, back)
