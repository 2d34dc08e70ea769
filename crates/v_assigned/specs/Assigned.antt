-- Whether one of the names that are assigned is wrong.
use Rattle.std.specs.Prelude.{Bool, true, false, ◌||◌, List, [], ◌∷◌, ◌++◌}
use Rattle.std.specs.List.{list_any}
use Rattle.wb_values.specs.Value.{Name}
use Rattle.verilog_trees.specs.Syntax.{Expression, Target, Statement, Item}
use Rattle.verilog_meaning.specs.Expression.{Scope}
use Rattle.verilog_meaning.specs.Register.{clocked_blocks, combinational_blocks}
use Rattle.verilog_meaning.specs.Settled.{assignments}
use Rattle.verilog_designs.specs.Drivers.{target_names, assigned_names}
use Rattle.v_syntax.specs.declared.tree.Arm.{Arm}
use Rattle.v_syntax.specs.Tree.{statement_of}
use Rattle.v_scopes.specs.declared.table.ModuleScope.{ModuleScope}
use Rattle.v_assigned.specs.Names.{is_wrong}

-- the names that the arms of an if assign
abbrev pub arms_names : List Arm → List Name
arms_names [] = []
arms_names (a ∷ arms) = assigned_names (statement_of a.statement) ++ arms_names arms

-- in continuous assignments
abbrev pub one_link_assigns : (Name → Bool) → List (Target × Expression) → Bool
one_link_assigns p [] = false
one_link_assigns p (a ∷ links) = list_any p (target_names a.0) || one_link_assigns p links

-- in blocks
abbrev pub one_block_assigns : (Name → Bool) → List Statement → Bool
one_block_assigns p [] = false
one_block_assigns p (x ∷ xs) = list_any p (assigned_names x) || one_block_assigns p xs

-- A name is assigned where it may not be: by a continuous assignment, a clocked block or another block.
abbrev pub names_are_bad : ModuleScope → Scope → List Item → Bool
names_are_bad names s items =
    one_link_assigns (is_wrong names s false) (assignments items)
    || (one_block_assigns (is_wrong names s true) (clocked_blocks items) || one_block_assigns (is_wrong names s true) (combinational_blocks items))
