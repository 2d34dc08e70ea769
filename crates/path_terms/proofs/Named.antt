-- What a dotted name means in a design: a name of a module that stands there.
use Rattle.std.proofs.Common.{◌≡◌, ◌∙◌, Bool, true, false, refl, ap, sym, subst, not, ◌&&◌, List, [], ◌∷◌, ◌++◌, Option, Some, None, is_some}
use Rattle.std.specs.Prelude.{IsTrue, option_map, Contains}
use Rattle.std.proofs.lemmas.Bool.{false≢true}
use Rattle.std.proofs.lemmas.List.{append-nil}
use Rattle.std.proofs.lemmas.List.Elements.{Contains-get_or}
use Rattle.wb_values.specs.Value.{Name, entry_of}
use Rattle.wb_values.specs.Choice.{first_of}
use Rattle.verilog_meaning.specs.Expression.{Object, scope_of, object_or_undeclared, is_memory}
use Rattle.verilog_meaning.specs.Hierarchy.{Declaration, declarations, declaration_of, declared_object, PathStep, instance_step, Placed, placed_scope, step_text, dotted}
use Rattle.verilog_meaning.specs.Settled.{Design, at_path, IsPlacedIn, IsDeclared}
use Rattle.verilog_unique.proofs.Descent.{among_contains}
use Rattle.verilog_unique.proofs.Paths.{stands_at, placed_in}
use Rattle.verilog_unique.proofs.Parameters.{HasNumber, placed_constants}
use Rattle.verilog_exists.specs.Exists.{NamesHaveNoDots}
use Rattle.verilog_exists.proofs.Dots.{Plain, ArePlainSteps}
use Rattle.verilog_exists.proofs.Directions.{something_declared}
use Rattle.verilog_exists.proofs.Spots.{plain_declared, plain_path}
use Rattle.refinement.specs.Map.{dotted_parts, object_in, object_at}
use Rattle.map_rules.specs.Expressions.{design_scope}
use Rattle.v_lower.specs.Lowered.{has_number}
use Rattle.path_terms.proofs.Dotted.{joined, joined_again, first_part, one_part, part_before, NoneIsDot}

-- ---- where a name leads

-- the name is that of a net, variable or parameter of a module
pub record Leads (d : Design) (n : Name) : Type 0 where
  pub place : Placed
  pub own : Name
  pub is_placed : IsPlacedIn d place
  pub means : design_scope d n ≡ placed_scope place own
  pub is_written : n ≡ dotted place.path own

leads : (d : Design) (parts : List Name) (path : List PathStep) → (object_at d path parts).is_declared ≡ true
    → (p : Placed) × (m : Name) × IsPlacedIn d p × (object_at d path parts ≡ placed_scope p m) × (dotted path (joined parts) ≡ dotted p.path m)
leads d [] path h = absurd (false≢true h)
leads d (n ∷ []) path h = by (at_path d path) refl h
  where
    by : (o : Option Placed) → at_path d path ≡ o → (object_in o n).is_declared ≡ true
        → (p : Placed) × (m : Name) × IsPlacedIn d p × (object_in o n ≡ placed_scope p m) × (dotted path n ≡ dotted p.path m)
    by None e k = absurd (false≢true k)
    by (Some p) e k = (p, n, placed_in d path p e, refl, ap (λ q. dotted q n) (sym (stands_at d path p e)))
leads d (u ∷ n ∷ parts) path h =
    let r = leads d (n ∷ parts) (instance_step u ∷ path) h in
    (r.0, r.1, r.2, r.3, ap (λ v. dotted path (v ++ 46 ∷ joined (n ∷ parts))) (sym (append-nil u)) ∙ r.4)

-- what a declared name leads to
pub led : (d : Design) (n : Name) → (design_scope d n).is_declared ≡ true → Leads d n
led d n h =
    let r = leads d (dotted_parts n) [] h in
    record { place = r.0; own = r.1; is_placed = r.2; means = r.3; is_written = sym (joined_again n) ∙ r.4 }

-- ---- what the dotted name of a declared name means

none_is_dot : (n : Name) → Plain n → NoneIsDot n
none_is_dot n h i l e = h (among_contains n 46 (subst (λ c. Contains n c) e (Contains-get_or n i 0 l)))

whole_step : (u : PathStep) → u.index ≡ None → instance_step u.of_name ≡ u
whole_step u e = ap (λ i. record { of_name = u.of_name; index = i }) (sym e)

step_plain : (u : PathStep) → u.index ≡ None → step_text u ≡ u.of_name
step_plain u e = ap step_text (sym (whole_step u e)) ∙ append-nil u.of_name

meant : (d : Design) (path : List PathStep) (m : Name) → ArePlainSteps path → object_at d [] (dotted_parts (dotted path m)) ≡ object_at d path (dotted_parts m)
meant d [] m h = refl
meant d (u ∷ around) m h =
    let more = first_part m in
    ap (λ t. object_at d [] (dotted_parts (dotted around (t ++ 46 ∷ m)))) (step_plain u h.0)
    ∙ (meant d around (u.of_name ++ 46 ∷ m) h.2
    ∙ (ap (object_at d around) (part_before u.of_name m (none_is_dot u.of_name h.1) ∙ ap (λ ps. u.of_name ∷ ps) more.2)
    ∙ (ap (λ s. object_at d (s ∷ around) (more.0 ∷ more.1)) (whole_step u h.0) ∙ ap (object_at d (u ∷ around)) (sym more.2))))

pub meaning : (d : Design) (p : Placed) (m : Name) → NamesHaveNoDots d.source → IsPlacedIn d p → IsDeclared p m
    → design_scope d (dotted p.path m) ≡ placed_scope p m
meaning d p m dotless at declared =
    meant d p.path m (plain_path d dotless p.path p at)
    ∙ (ap (object_at d p.path) (one_part m (none_is_dot m (plain_declared d dotless p m at declared))) ∙ ap (λ o. object_in o m) at)

-- ---- what is no parameter is a net or variable

abbrev object_of : (p : Placed) → Option Object → Option Declaration → Object
object_of p x y = object_or_undeclared (first_of x (option_map (declared_object (scope_of p.constants)) y))

numbered : (o : Object) → HasNumber o → has_number o ≡ true
numbered o h = by (is_some o.constant) (is_memory o) h.0 h.1
  where
    by : (a b : Bool) → a ≡ true → b ≡ false → (a && not b) ≡ true
    by true false e f = refl
    by true true e f = absurd (false≢true (sym f))
    by false b e f = absurd (false≢true e)

pub is_net : (d : Design) (p : Placed) (m : Name) → IsPlacedIn d p → (placed_scope p m).is_declared ≡ true → has_number (placed_scope p m) ≡ false
    → IsDeclared p m
is_net d p m at declared free =
    by (entry_of p.constants m) (declaration_of (declarations p.of_module) m) ((placed_constants d p.path p at).numbers m)
    (something_declared (declarations p.of_module) m) declared free
  where
    by : (x : Option Object) (y : Option Declaration) → ((o : Object) → x ≡ Some o → HasNumber o) → (IsTrue (is_some y) → IsDeclared p m)
        → (object_of p x y).is_declared ≡ true → has_number (object_of p x y) ≡ false → IsDeclared p m
    by None None f g h k = absurd (false≢true h)
    by None (Some y) f g h k = g refl
    by (Some o) y f g h k = absurd (false≢true (sym k ∙ numbered o (f o refl)))
