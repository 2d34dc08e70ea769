-- Machines: a fetch that was put is known besides the other names, and one part after another makes the machine.
use Rattle.std.proofs.Common.{◌≡◌, ℕ, ◌<◌, true, List, [], length, Bor, Option, Some, None, ◌∙◌, subst, arith}
use Rattle.std.specs.Prelude.{Ok, codes}
use Rattle.std.specs.BTreeMap.{BTreeMap}
use Rattle.wb_values.specs.Value.{same_name, Entries}
use Rattle.model_files.specs.Written.{WrittenTerm, WrittenInstructions, WrittenMachine}
use Rattle.model_files.specs.Scope.{defined, placed, of_fetch, of_condition, with_definitions, with_fetch, placed_definitions, placed_fetch}
use Rattle.wb_terms.specs.declared.nodes.TermId.{TermId}
use Rattle.wb_terms.specs.Graph.{Graph}
use Rattle.ila_model.specs.declared.parts.Instruction.{Instruction}
use Rattle.ila_model.specs.declared.parts.ChildId.{ChildId}
use Rattle.ila_build.specs.Standing.{under_name, IsIn, AreIn, StandsFor, seen_by, term_by, IsGrown, IsPut}
use Rattle.ila_build.specs.Knowing.{Knows, are_right, AreDefined}
use Rattle.ila_build.specs.Building.{AreOwnRight, AreInstructions, AreInstructionsPut, definitions_in, fetch_in, valid_in, own_instructions, names_in, IsFetched, IsMachinePut}
use Rattle.ila_build.proofs.Growing.{onward, wider}
use Rattle.ila_build.proofs.Definitions.{right_put, IsTermOf, stands_grown, knows_grown, more_names, is_in_more, first_right}
use Rattle.ila_build.proofs.Chosen.{stand_moved}

pub no_fetch : (g : Graph) (t : BTreeMap (Bor (List ℕ)) TermId) → IsFetched g t g None None
unfolding IsFetched
no_fetch g t names k r = k

pub fetch_put : (g h : Graph) (t : BTreeMap (Bor (List ℕ)) TermId) (e : WrittenTerm) (id : TermId) → IsPut g h (Ok id) (term_by (seen_by g t None) e) → IsFetched g t h (Some e) (Some id)
unfolding IsFetched Knows
fetch_put g h t e id put names k r n v q =
    let it : IsTermOf h id names e = right_put g h t None names e of_fetch (Ok id) k (first_right (placed names e of_fetch) [] r).0 put in
    more_names names (codes "fetch") (defined names e) n v (StandsFor h v) (Some id) (under_name t n) (same_name (codes "fetch") n) q
    (λ x. subst (λ z. StandsFor h z (Some id)) x (it.within, it.tree, it.sort)) (λ x. stands_grown g h v (under_name t n) (wider put.0) (k n v x))

pub fetch_in_store : (g h : Graph) (t : BTreeMap (Bor (List ℕ)) TermId) (id : TermId) → IsGrown g h → id.0 < length h.nodes → AreIn g t None → AreIn h t (Some id)
unfolding AreIn
fetch_in_store g h t id b w i n = is_in_more h (same_name (codes "fetch") n) (Some id) (under_name t n) w (kept_in (under_name t n) (i n)) where
  kept_in : (o : Option TermId) → IsIn g o → IsIn h o
  kept_in None j = tt
  kept_in (Some x) j = omega (arith, j, b.longer)

pub machine_put : (g g1 g2 g3 h : Graph) (t u : BTreeMap (Bor (List ℕ)) TermId) (links : List (Option ChildId)) (m : WrittenMachine) (ds : Entries WrittenTerm) (fw : Option WrittenTerm) (v : WrittenTerm) (is : WrittenInstructions) (f : Option TermId) (valid : TermId) (xs : List Instruction)
    → ds ≡ definitions_in m → fw ≡ fetch_in m → v ≡ valid_in m → is ≡ own_instructions m
    → IsGrown g g1 → AreDefined g t g1 u (Ok tt) ds → IsGrown g1 g2 → IsFetched g1 u g2 fw f
    → IsPut g2 g3 (Ok valid) (term_by (seen_by g2 u f) v) → IsGrown g3 h → AreInstructionsPut g3 u f h links is xs → IsMachinePut g t h u links m valid xs
unfolding AreDefined IsFetched AreInstructionsPut IsMachinePut
machine_put g g1 g2 g3 h t u links m ds fw v is f valid xs ed ef ev ei b1 def b2 fetched put b4 all names ks ss k s r =
    let inner = with_definitions names (definitions_in m) in
    let k1 : Knows g1 u None inner = subst (λ x. are_right (placed_definitions names x) ≡ true → Knows g1 u None (with_definitions names x)) ed (def names k) r.definitions in
    let k2 : Knows g2 u f (names_in names m) = subst (λ x. are_right (placed_fetch inner x) ≡ true → Knows g2 u f (with_fetch inner x)) ef (fetched inner k1) r.fetch in
    let it : IsTermOf g3 valid (names_in names m) (valid_in m) = right_put g2 g3 u f (names_in names m) (valid_in m) of_condition (Ok valid) k2 r.valid (subst (λ x. IsPut g2 g3 (Ok valid) (term_by (seen_by g2 u f) x)) ev put) in
    let b3 : IsGrown g g3 = onward b1 (onward b2 put.0) in
    let list = subst (λ x. AreOwnRight (names_in names m) ss x → AreInstructions h (names_in names m) ss links 0 x xs) ei (all (names_in names m) ks ss (knows_grown g2 g3 u f (names_in names m) (wider put.0) k2) (stand_moved g g3 0 ks ss b3.names s)) r.instructions in (
      knows_grown g1 h u None inner (wider (onward b2 (onward put.0 b4))) k1,
      record { within = omega (arith, it.within, b4.longer); valid_tree = b4.trees valid.0 it.within ∙ it.tree; instructions = list },
    )
