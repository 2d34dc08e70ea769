-- The macros behind a definition.
use Rattle.std.proofs.Common.{◌≡◌, ℕ, Bool, true, false, cond, List, Bor, Option, Some, None, refl, ap, ◌∙◌}
use Rattle.std.specs.Prelude.{option_map}
use Rattle.std.specs.Ordering.{nat_cmp}
use Rattle.std.specs.Cmp.Lexicographic.{slice_cmp}
use Rattle.std.specs.BTreeMap as tree
use Rattle.std.specs.BTreeMap.{BTreeMap, get_by}
use Rattle.std.proofs.lemmas.Map.Text.{btree_map_updates_str}
use Rattle.wb_values.specs.Value.{Name, same_name}
use Rattle.v_lex.specs.declared.state.Span.{Span}
use Rattle.v_lex.specs.Reading.{text_in, text_under}
use Rattle.v_lex.specs.Placed.{flat, span_under}

text_by : (t : Bool) (v : Option Span) (o : Option (Option Span)) → text_in (cond t (Some v) o) ≡ cond t (option_map (λ s. s.text.now) v) (text_in o)
text_by true None o = refl
text_by true (Some s) o = refl
text_by false v o = refl

pub macro_set : (old new : BTreeMap (Bor (List ℕ)) (Option Span)) (k : Bor (List ℕ)) (v : Option Span)
    → tree.Updates (λ x y. slice_cmp nat_cmp x.now y.now) old new k (Some v) → (q : Name)
    → text_under new q ≡ cond (same_name k.now q) (option_map (λ s. s.text.now) v) (text_under old q)
macro_set old new k v u q =
    ap text_in (btree_map_updates_str k.now old new (Some v) u q) ∙ text_by (same_name k.now q) v (get_by (λ x. slice_cmp nat_cmp q x.now) old)

span_by : (t : Bool) (v : Option Span) (o : Option (Option Span)) → flat (cond t (Some v) o) ≡ cond t v (flat o)
span_by true v o = refl
span_by false v o = refl

pub span_set : (old new : BTreeMap (Bor (List ℕ)) (Option Span)) (k : Bor (List ℕ)) (v : Option Span)
    → tree.Updates (λ x y. slice_cmp nat_cmp x.now y.now) old new k (Some v) → (q : Name)
    → span_under new q ≡ cond (same_name k.now q) v (span_under old q)
span_set old new k v u q =
    ap flat (btree_map_updates_str k.now old new (Some v) u q) ∙ span_by (same_name k.now q) v (get_by (λ x. slice_cmp nat_cmp q x.now) old)
