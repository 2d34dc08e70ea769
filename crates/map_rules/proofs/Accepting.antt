-- What a map stands for is judged as it is read, and is refused by no rule.
use Rattle.std.proofs.Common.{◌≡◌, ℕ, List, [], sym, ◌∙◌, subst}
use Rattle.wb_values.specs.Value.{Name}
use Rattle.model_meaning.specs.Model.{Model}
use Rattle.verilog_trees.specs.Syntax.{Source}
use Rattle.refinement.specs.Map.{Map, map_scope, object_at, dotted_parts}
use Rattle.map_files.specs.Written.{WrittenMap}
use Rattle.map_files.specs.Meaning.{MapRule, MapReading, says, refused_by, map_reading}
use Rattle.map_rules.specs.Case.{case_design}
use Rattle.map_rules.specs.Expressions.{design_scope}
use Rattle.map_rules.specs.Accepted.{BreaksMapRule, StandsForMap, IsFileRefusedBy, as_a_file, as_a_map, MapOf, case_of}

pub same_scope : (m : Model) (s : Source) (w : WrittenMap) (p : Map) → StandsForMap m w p → (n : Name)
    → map_scope (record { model = m; source = s; map = p }) n ≡ design_scope (case_design (case_of w m s)) n
same_scope m s w p h n = λ i. object_at (record { source = s; top = h.top i; clock = h.clock i }) [] (dotted_parts n)

one_reading : (x : MapReading) (v w : WrittenMap) → x ≡ says v → x ≡ says w → v ≡ w
one_reading x v w h g =
    let same : says v ≡ says w = sym h ∙ g in
    cc

no_refusal : (x : MapReading) (w : WrittenMap) (rule : MapRule) → x ≡ says w → x ≡ refused_by rule → ⊥
no_refusal x w rule h g = cc

pub not_refused : (bytes : List ℕ) (m : Model) (s : Source) (p : Map) (rule : MapRule) → MapOf bytes m s p → ¬ IsFileRefusedBy bytes m s rule
not_refused bytes m s p rule a (as_a_file h) = no_refusal (map_reading bytes) a.written rule a.says h
not_refused bytes m s p rule a (as_a_map w g r) =
    a.is_accepted rule (subst (λ v. BreaksMapRule (case_of v m s) rule) (sym (one_reading (map_reading bytes) a.written w a.says g)) r.breaks)
