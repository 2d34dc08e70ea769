-- The scope of the names in a map is one of an accepted design: it knows these names, and nothing else.
use Rattle.std.proofs.Common.{◌≡◌, ◌∙◌, refl, sym, ap, subst, Bool, true, false, true≢false, cond, List, [], ◌∷◌, inl, inr, Some}
use Rattle.wb_values.specs.Value.{Name, same_name, entry_of}
use Rattle.verilog_meaning.specs.Expression.{scope_of, object_or_undeclared}
use Rattle.verilog_meaning.specs.Settled.{Design}
use Rattle.verilog_unique.proofs.Options.{same_is}
use Rattle.verilog_unique.proofs.Descent.{IsAmong, contains_among}
use Rattle.flat_rules.specs.Sound.{ModulesAreKnown, ObjectsAreInBounds}
use Rattle.v_value.specs.declared.scope.Scope.{Scope}
use Rattle.v_value.specs.Scope.{objects_of, scope_at}
use Rattle.v_value.specs.Narrow.{HasNarrowObjects}
use Rattle.v_places.specs.Below.{Spot}
use Rattle.map_paths.specs.Located.{Below, AreBelow}
use Rattle.map_scope.specs.Named.{object_named, objects_named}
use Rattle.map_scope.specs.Laws.{ScopesAgreeWithDesigns, ScopesAreNarrow}
use Rattle.map_judged.specs.Known.{StandsAt}
use Rattle.map_judged.proofs.Standing.{standing, narrow_there}
use Rattle.path_terms.specs.Cycles.{IsScopeOf}
use Rattle.ready_maps.specs.Names.{Knows}

-- what the scope declares is one of the names
declared_among : (spots : List Spot) (below : Below) (names : List Name) (n : Name) → (scope_of (objects_named spots below names) n).is_declared ≡ true → IsAmong names n
declared_among spots below [] n h = absurd (true≢false (sym h))
declared_among spots below (m ∷ names) n h = one (same_name m n) refl (declared_among spots below names n) h
  where
    one : (b : Bool) → same_name m n ≡ b → ((scope_of (objects_named spots below names) n).is_declared ≡ true → IsAmong names n)
        → (object_or_undeclared (cond b (Some (object_named spots below m)) (entry_of (objects_named spots below names) n))).is_declared ≡ true → IsAmong (m ∷ names) n
    one true same later g = inl (same_is m n same)
    one false same later g = inr (later g)

pub scope_told : ModulesAreKnown → ObjectsAreInBounds → ScopesAgreeWithDesigns → ScopesAreNarrow → (spots : List Spot) (below : Below) → AreBelow spots below
    → (names : List Name) (s : Scope) → objects_of s.declarations.items ≡ objects_named spots below names → (d : Design) → StandsAt d spots
    → IsScopeOf d (scope_at s) × Knows (scope_at s) d names
scope_told known bounds agree narrow spots below is_below names s same d h = (
  record {
    narrow = subst HasNarrowObjects (ap scope_of (sym same)) (narrow spots below (narrow_there d spots h known bounds) names);
    agrees = λ n declared. knows n (contains_among names n (declared_among spots below names n (ap (λ z. (scope_of z n).is_declared) (sym same) ∙ declared)));
  },
  knows,
)
  where
    knows : Knows (scope_at s) d names
    knows n among = ap (λ z. scope_of z n) same ∙ agree d spots below (standing d spots h known) is_below names n among
