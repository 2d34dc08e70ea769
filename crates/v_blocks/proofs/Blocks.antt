-- Blocks with assignments of the wrong kind, among the items and among the blocks.
use Rattle.std.proofs.Common.{◌≡◌, refl, ap, ◌∙◌, Bool, true, false, cond, List, [], ◌∷◌}
use Rattle.std.specs.Prelude.{not, ◌&&◌, ◌||◌}
use Rattle.std.specs.List.{list_any}
use Rattle.verilog_trees.specs.Syntax.{Statement, Item, port, parameter, wires, variables, assign, always, instances}
use Rattle.verilog_meaning.specs.Register.{is_clocked, clocked_blocks, combinational_blocks}
use Rattle.verilog_designs.specs.Paths.{has_blocking, has_nonblocking}
use Rattle.v_blocks.specs.Blocks.{is_blocking_in_clocked, is_nonblocking_in_combinational}

-- one block more, where it is of the kind
with_block : (has : Statement → Bool) (b : Bool) (x : Statement) (xs : List Statement) (rest : Bool) → list_any has xs ≡ rest → list_any has (cond b (x ∷ xs) xs) ≡ ((b && has x) || rest)
with_block has true x xs rest e = ap (λ r. has x || r) e
with_block has false x xs rest e = e

without_block : (has : Statement → Bool) (b : Bool) (x : Statement) (xs : List Statement) (rest : Bool) → list_any has xs ≡ rest → list_any has (cond b xs (x ∷ xs)) ≡ ((not b && has x) || rest)
without_block has true x xs rest e = e
without_block has false x xs rest e = ap (λ r. has x || r) e

pub clocked : (items : List Item) → list_any has_blocking (clocked_blocks items) ≡ list_any is_blocking_in_clocked items
clocked [] = refl
clocked (port d ∷ items) = clocked items
clocked (parameter d ∷ items) = clocked items
clocked (wires signed r ws ∷ items) = clocked items
clocked (variables signed r vs ∷ items) = clocked items
clocked (assign ts ∷ items) = clocked items
clocked (always es x ∷ items) = with_block has_blocking (is_clocked es) x (clocked_blocks items) (list_any is_blocking_in_clocked items) (clocked items)
clocked (instances m given is ∷ items) = clocked items

pub combinational : (items : List Item) → list_any has_nonblocking (combinational_blocks items) ≡ list_any is_nonblocking_in_combinational items
combinational [] = refl
combinational (port d ∷ items) = combinational items
combinational (parameter d ∷ items) = combinational items
combinational (wires signed r ws ∷ items) = combinational items
combinational (variables signed r vs ∷ items) = combinational items
combinational (assign ts ∷ items) = combinational items
combinational (always es x ∷ items) = without_block has_nonblocking (is_clocked es) x (combinational_blocks items) (list_any is_nonblocking_in_combinational items) (combinational items)
combinational (instances m given is ∷ items) = combinational items
