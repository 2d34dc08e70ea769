-- Items of a module, one by one.
use Rattle.std.proofs.Common.{◌≡◌, ◌∙◌, refl, ap, sym, Bool, true, false, cond, List, [], ◌∷◌, ◌++◌, append-nil}
use Rattle.std.specs.Prelude.{◌||◌}
use Rattle.std.specs.List.{list_any}
use Rattle.wb_values.specs.Value.{Name}
use Rattle.verilog_trees.specs.Syntax as pure
use Rattle.verilog_meaning.specs.Expression.{Scope}
use Rattle.verilog_meaning.specs.Register.{clocked_blocks, combinational_blocks}
use Rattle.verilog_meaning.specs.Settled.{assignments}
use Rattle.verilog_designs.specs.Drivers.{assigned_names}
use Rattle.v_scopes.specs.declared.table.ModuleScope.{ModuleScope}
use Rattle.v_drivers.proofs.Driving.{links-of-items, clocked-of-items, combinational-of-items}
use Rattle.v_assigned.specs.Names.{is_wrong}
use Rattle.v_assigned.specs.Assigned.{one_link_assigns, one_block_assigns, names_are_bad}
use Rattle.v_assigned.proofs.Parts.{or_false, links-append, blocks-append}

-- one of six, by pairs
by-pairs : (a b c d e f : Bool) → ((a || b) || ((c || d) || (e || f))) ≡ ((a || (c || e)) || (b || (d || f)))
by-pairs true b c d e f = refl
by-pairs false b true d e f = at b
  where
    at : (b : Bool) → (b || true) ≡ true
    at true = refl
    at false = refl
by-pairs false b false d true f = at b d
  where
    at : (b d : Bool) → (b || (d || true)) ≡ true
    at true d = refl
    at false true = refl
    at false false = refl
by-pairs false b false d false f = refl

pub one-item : (names : ModuleScope) (s : Scope) (i : pure.Item) (items : List pure.Item) → names_are_bad names s (i ∷ items) ≡ (names_are_bad names s (i ∷ []) || names_are_bad names s items)
one-item names s i items =
    let p : Name → Bool = is_wrong names s false in
    let q : Name → Bool = is_wrong names s true in
    ap (λ xs. one_link_assigns p xs || (one_block_assigns q (clocked_blocks (i ∷ items)) || one_block_assigns q (combinational_blocks (i ∷ items)))) (links-of-items i items)
    ∙ ap (λ xs. one_link_assigns p (assignments (i ∷ []) ++ assignments items) || (one_block_assigns q xs || one_block_assigns q (combinational_blocks (i ∷ items)))) (clocked-of-items i items)
    ∙ ap (λ xs. one_link_assigns p (assignments (i ∷ []) ++ assignments items) || (one_block_assigns q (clocked_blocks (i ∷ []) ++ clocked_blocks items) || one_block_assigns q xs)) (combinational-of-items i items)
    ∙ ap (λ b. b || (one_block_assigns q (clocked_blocks (i ∷ []) ++ clocked_blocks items) || one_block_assigns q (combinational_blocks (i ∷ []) ++ combinational_blocks items))) (links-append p (assignments (i ∷ [])) (assignments items))
    ∙ ap (λ b. (one_link_assigns p (assignments (i ∷ [])) || one_link_assigns p (assignments items)) || (b || one_block_assigns q (combinational_blocks (i ∷ []) ++ combinational_blocks items))) (blocks-append q (clocked_blocks (i ∷ [])) (clocked_blocks items))
    ∙ ap (λ b. (one_link_assigns p (assignments (i ∷ [])) || one_link_assigns p (assignments items)) || ((one_block_assigns q (clocked_blocks (i ∷ [])) || one_block_assigns q (clocked_blocks items)) || b)) (blocks-append q (combinational_blocks (i ∷ [])) (combinational_blocks items))
    ∙ by-pairs (one_link_assigns p (assignments (i ∷ []))) (one_link_assigns p (assignments items)) (one_block_assigns q (clocked_blocks (i ∷ [])))
    (one_block_assigns q (clocked_blocks items)) (one_block_assigns q (combinational_blocks (i ∷ []))) (one_block_assigns q (combinational_blocks items))

-- an item with continuous assignments alone
pub links-alone : (p : Name → Bool) (xs : List (pure.Target × pure.Expression)) → one_link_assigns p xs ≡ (one_link_assigns p (xs ++ []) || false)
links-alone p xs = ap (one_link_assigns p) (sym (append-nil xs)) ∙ or_false (one_link_assigns p (xs ++ []))

-- a block
pub block-alone : (q : Name → Bool) (t : Bool) (x : pure.Statement)
    → list_any q (assigned_names x) ≡ (one_block_assigns q (cond t (x ∷ []) []) || one_block_assigns q (cond t [] (x ∷ [])))
block-alone q true x = or_false (list_any q (assigned_names x)) ∙ or_false (list_any q (assigned_names x) || false)
block-alone q false x = or_false (list_any q (assigned_names x))
