-- The terms of names stand for what names mean in a settled cycle.
use Rattle.std.proofs.Common.{◌≡◌, ◌∙◌, ℕ, ◌<◌, true, false, refl, ap, sym, subst, ◌⊎◌, inl, inr, [], length, Option, Some, None, arith, get_or-take}
use Rattle.std.specs.Prelude.{IsTrue, IsSome, Contains, slice_index_or}
use Rattle.std.proofs.lemmas.Bool.{cases_Bool, and_parts}
use Rattle.std.proofs.lemmas.List.{length-take, get_or_default}
use Rattle.std.proofs.lemmas.List.Elements.{Contains-get_or}
use Rattle.wb_values.specs.Value.{Name, Sort, truth, Valuation}
use Rattle.model_meaning.specs.Term.{Term, val}
use Rattle.verilog_meaning.specs.Expression.{Scope, is_memory, object_width}
use Rattle.verilog_meaning.specs.Hierarchy.{Placed, placed_scope, dotted}
use Rattle.verilog_meaning.specs.Settled.{Design, IsPlacedIn, IsDeclared, inside, IsValueOf}
use Rattle.verilog_designs.specs.Accepted.{IsAccepted}
use Rattle.verilog_registers.specs.Registers.{IsRegister}
use Rattle.verilog_unique.proofs.Descent.{IsAmong, among_contains}
use Rattle.verilog_exists.specs.Exists.{IsOfText}
use Rattle.map_rules.specs.Expressions.{design_scope}
use Rattle.wb_terms.specs.Graph.{Graph, tree}
use Rattle.v_operators.specs.Meaning.{Grows, IsOfSort}
use Rattle.v_operators.proofs.Growing.{tree_kept, below_kept}
use Rattle.v_lower.specs.Lowered.{Images, IsImage, HasImages, StandsFor, has_sort, has_number}
use Rattle.v_design.specs.Parts.{Parts, registers_of}
use Rattle.v_design.specs.Design.{IsDesignOf, IsNet}
use Rattle.path_terms.specs.Cycles.{HasItsTerms, IsCycle, IsScopeOf, environment}
use Rattle.path_terms.specs.Places.{register_at}
use Rattle.path_terms.specs.Origins.{IsWithout, IsTermOfName, AreTermsOfNames}
use Rattle.path_terms.specs.Laws.{TermsStandForNames}
use Rattle.path_terms.proofs.Named.{Leads, led, meaning, is_net}
use Rattle.path_terms.proofs.Values.{sort_there, at_register}
use Rattle.path_terms.proofs.Cycles.{memories_are_registers, fit, SomeCycle, some_cycle}
use Rattle.path_terms.proofs.Grown.{is_below}

module _ (d : Design) (e : Parts) (s : Scope) (a : Images) (g : Graph) (x : IsDesignOf d e) (own : HasItsTerms e) (accepted : IsAccepted d) (text : IsOfText d)
    (scope : IsScopeOf d s) (grows : Grows e.graph g) (table : AreTermsOfNames s e g a) where
  -- ---- registers by their places

  -- the name at a place is that of a register
  pub record Registered (n : Name) (k : ℕ) : Type 0 where
    pub place : Placed
    pub own_name : Name
    pub is_register : IsRegister d place own_name
    pub is_written : n ≡ dotted place.path own_name
    pub sort : Sort
    pub of_object : Rattle.v_design.specs.Design.IsSortOf (placed_scope place own_name) sort
    pub among : IsAmong (registers_of e) (n, sort)
    pub at : slice_index_or g.names k ([], truth) ≡ (n, sort)

  registered : (n : Name) (k : ℕ) → k < e.register_count → register_at e k ≡ n → Registered n k
  registered n k l h =
      let t : Sort = (slice_index_or (registers_of e) k ([], truth)).1 in
      let same : slice_index_or (registers_of e) k ([], truth) ≡ (n, t) = ap (λ m. (m, t)) h in
      let counted = own.counted in
      let short : k < length (registers_of e) = subst (λ z. k < z) (sym (length-take e.register_count e.graph.names)) (omega (arith, l, counted)) in
      let there : Contains (registers_of e) (n, t) = subst (Contains (registers_of e)) same (Contains-get_or (registers_of e) k ([], truth) short) in
      let r = x.registers_are n t there in
      record {
        place = r.0;
        own_name = r.1;
        is_register = r.3;
        is_written = r.2;
        sort = t;
        of_object = r.4;
        among = among_contains (registers_of e) (n, t) there;
        at = ap (λ ns. slice_index_or ns k ([], truth)) grows.names ∙ sym (get_or-take e.register_count e.graph.names k ([], truth) l) ∙ same;
      }

  -- ---- terms of names

  -- what a name that has a term means
  record Meant (n : Name) : Type 0 where
    place : Placed
    own_name : Name
    is_placed : IsPlacedIn d place
    is_declared : IsDeclared place own_name
    is_written : n ≡ dotted place.path own_name
    means : s n ≡ placed_scope place own_name

  abbrev meant_so : (n : Name) (p : Placed) (m : Name) → (s n).is_declared ≡ true → IsPlacedIn d p → IsDeclared p m → n ≡ dotted p.path m → Meant n
  meant_so n p m known at declared same =
      record {
        place = p;
        own_name = m;
        is_placed = at;
        is_declared = declared;
        is_written = same;
        means = scope.agrees n known ∙ ap (design_scope d) same ∙ meaning d p m text.no_dots at declared;
      }

  image : (n : Name) (id : ℕ) → IsTermOfName s e g n id → IsImage s g n id
  image n id (IsTermOfName.of_net known plain settled) =
      let r = x.terms_are n id settled in
      let m = meant_so n r.0 r.1 known r.3.is_placed r.3.is_declared r.2 in
      let l = is_below e n id own settled in
      record {
        sort = r.4.sort;
        of_name = subst (λ o. Rattle.v_lower.specs.Lowered.IsSortOf o r.4.sort) (sym m.means) (sort_there (placed_scope r.0 r.1) r.4.sort r.4.of_object);
        of_sort = record { below = below_kept id grows l; sort = ap Rattle.model_meaning.specs.Term.sort_of (tree_kept id grows l) ∙ r.4.of_sort };
      }
  image n id (IsTermOfName.of_memory k known memory low named of_sort leaf) =
      let r = registered n k low named in
      let m = meant_so n r.place r.own_name known r.is_register.is_placed r.is_register.is_declared r.is_written in
      record {
        sort = r.sort;
        of_name = subst (λ o. Rattle.v_lower.specs.Lowered.IsSortOf o r.sort) (sym m.means) (sort_there (placed_scope r.place r.own_name) r.sort r.of_object);
        of_sort = subst (IsOfSort g id) (ap (λ (y : Name × Sort). y.1) r.at) of_sort;
      }

  -- a name that is to have a term has one
  declared_if : (n : Name) → has_sort (s n) ≡ true → (s n).is_declared ≡ true
  declared_if n h = (and_parts (s n).is_declared _ h).0

  led_to : (n : Name) → (s n).is_declared ≡ true → has_number (s n) ≡ false → Meant n
  led_to n known free =
      let same : s n ≡ design_scope d n = scope.agrees n known in
      let l : Leads d n = led d n (ap (λ (o : Rattle.verilog_meaning.specs.Expression.Object). o.is_declared) (sym same) ∙ known) in
      let means : s n ≡ placed_scope l.place l.own = same ∙ l.means in
      record {
        place = l.place;
        own_name = l.own;
        is_placed = l.is_placed;
        is_declared = is_net d l.place l.own l.is_placed (ap (λ (o : Rattle.verilog_meaning.specs.Expression.Object). o.is_declared) (sym means) ∙ known) (ap has_number (sym means) ∙ free);
        is_written = l.is_written;
        means = means;
      }

  lacks : (n : Name) → Meant n → IsWithout s e n → ⊥
  lacks n m without = by (cases_Bool (is_memory (s n)))
    where
      by : (is_memory (s n) ≡ true) ⊎ (is_memory (s n) ≡ false) → ⊥
      by (inl memory) =
          let is : IsRegister d m.place m.own_name = record { is_placed = m.is_placed; is_declared = m.is_declared; keeps = inr (ap is_memory (sym m.means) ∙ memory) } in
          let r = x.all_registers m.place m.own_name is in
          let c = r.1 in
          let short = subst (λ z. c.0 < z) (length-take e.register_count e.graph.names) c.1 in
          without.memory memory c.0 (omega (arith, short))
          (ap (λ (y : Name × Sort). y.0) (get_or_default (registers_of e) c.0 ([], truth) (dotted m.place.path m.own_name, r.0) c.1 ∙ c.2) ∙ sym m.is_written)
      by (inr plain) =
          let c : SomeCycle d = some_cycle d accepted text in
          let net : IsNet d m.place m.own_name = record { is_placed = m.is_placed; is_declared = m.is_declared; no_memory = ap is_memory (sym m.means) ∙ plain } in
          let r = x.settles c.registers c.inputs c.v m.place m.own_name (fit d e c.registers x c.is_cycle.are_registers) c.is_cycle.are_inputs c.is_cycle.is_settled net in
          let no : None ≡ Some r.id = sym (without.net plain) ∙ ap e.settled m.is_written ∙ r.is_term in
          absurd cc

  known : HasImages s a g
  known =
      record {
        some = λ n h free. by n h free (a n) refl;
        image = λ n id k. image n id (table.each n id k);
      }
    where
      by : (n : Name) → IsTrue (has_sort (s n)) → has_number (s n) ≡ false → (o : Option ℕ) → a n ≡ o → IsSome (a n)
      by n h free (Some id) k = subst IsSome (sym k) refl
      by n h free None k = absurd (lacks n (led_to n (declared_if n h) free) (table.all n (declared_if n h) k))

  -- ---- in a cycle

  module _ (registers inputs v : Valuation) (c : IsCycle d registers inputs v) where
    of_name : (n : Name) → Meant n → IsValueOf (s n) (v n)
    of_name n m =
        subst (λ k. IsValueOf (s n) (v k)) (sym m.is_written)
        (subst (λ o. IsValueOf o (inside v m.place m.own_name)) (sym m.means) ((c.is_settled.modules m.place m.is_placed).fits m.own_name m.is_declared))

    some_same : {A : Type 0} {y z : A} → Some y ≡ Some z → y ≡ z
    some_same h = cc

    fits : (n : Name) (id : ℕ) → IsTermOfName s e g n id → IsValueOf (s n) (v n)
    fits n id (IsTermOfName.of_net declared plain settled) =
        let r = x.terms_are n id settled in of_name n (meant_so n r.0 r.1 declared r.3.is_placed r.3.is_declared r.2)
    fits n id (IsTermOfName.of_memory k declared memory low named of_sort leaf) =
        let r = registered n k low named in of_name n (meant_so n r.place r.own_name declared r.is_register.is_placed r.is_register.is_declared r.is_written)

    worth : (n : Name) (id : ℕ) → IsTermOfName s e g n id → val (tree g id) (environment e registers inputs) ≡ v n
    worth n id (IsTermOfName.of_net declared plain settled) =
        let r = x.terms_are n id settled in
        let q = x.settles registers inputs v r.0 r.1 (fit d e registers x c.are_registers) c.are_inputs c.is_settled r.3 in
        let same : q.id ≡ id = some_same (sym q.is_term ∙ ap e.settled (sym r.2) ∙ settled) in
        ap (λ (t : Term). val t (environment e registers inputs)) (tree_kept id grows (is_below e n id own settled))
        ∙ ap (λ i. val (tree e.graph i) (environment e registers inputs)) (sym same)
        ∙ q.is_worth ∙ ap v (sym r.2)
    worth n id (IsTermOfName.of_memory k declared memory low named of_sort leaf) =
        let r = registered n k low named in
        let m = meant_so n r.place r.own_name declared r.is_register.is_placed r.is_register.is_declared r.is_written in
        ap (λ (t : Term). val t (environment e registers inputs)) leaf
        ∙ ap (λ (y : Name × Sort). environment e registers inputs y.0) r.at
        ∙ at_register e registers inputs n r.sort r.among
        ∙ ap registers r.is_written
        ∙ sym (memories_are_registers d registers inputs v r.place r.own_name accepted text c r.is_register.is_placed r.is_register.is_declared
        (ap is_memory (sym m.means) ∙ memory))
        ∙ ap v (sym r.is_written)

    stands : StandsFor s a g (environment e registers inputs) v
    stands = record { fits = λ n id k. fits n id (table.each n id k); same = λ n id k. worth n id (table.each n id k) }

pub terms_stand : TermsStandForNames
terms_stand d e s a g x own accepted text scope grows table =
    record {
      known = known d e s a g x own accepted text scope grows table;
      stands = stands d e s a g x own accepted text scope grows table;
    }
