-- Assignments and blocks of items under other names.
use Rattle.std.proofs.Common.{◌≡◌, Bool, true, false, cond, List, [], ◌∷◌, ◌++◌, map, refl, sym, ap, ◌∙◌}
use Rattle.std.specs.Prelude.{◌||◌}
use Rattle.std.proofs.lemmas.List.{append_assoc, map-append}
use Rattle.wb_values.specs.Value.{Name}
use Rattle.verilog_trees.specs.Syntax.{Statement, Event, Events, any_change, on_events, Item, port, parameter, wires, variables, assign, always, instances}
use Rattle.verilog_meaning.specs.Register.{is_edge, has_edge, is_clocked, clocked_blocks, combinational_blocks}
use Rattle.verilog_meaning.specs.Settled.{wire_assignments, assignments}
use Rattle.verilog_renamed.specs.Renamed.{renamed_assignment, renamed_assignments, renamed_statement, renamed_blocks}
use Rattle.v_flat.specs.Items.{renamed_event, renamed_events, own_items}

-- ---- items after others

pub assigned_append : (xs ys : List Item) → assignments (xs ++ ys) ≡ assignments xs ++ assignments ys
assigned_append [] ys = refl
assigned_append (port d ∷ xs) ys = assigned_append xs ys
assigned_append (parameter d ∷ xs) ys = assigned_append xs ys
assigned_append (wires s r ws ∷ xs) ys =
    ap (λ ts. wire_assignments ws ++ ts) (assigned_append xs ys) ∙ sym (append_assoc (wire_assignments ws) (assignments xs) (assignments ys))
assigned_append (variables s r vs ∷ xs) ys = assigned_append xs ys
assigned_append (assign ts ∷ xs) ys = ap (λ us. ts ++ us) (assigned_append xs ys) ∙ sym (append_assoc ts (assignments xs) (assignments ys))
assigned_append (always es x ∷ xs) ys = assigned_append xs ys
assigned_append (instances m g is ∷ xs) ys = assigned_append xs ys

-- a block before others, or not
before_all : (b : Bool) (x : Statement) (xs ys zs : List Statement) → zs ≡ xs ++ ys → cond b (x ∷ zs) zs ≡ cond b (x ∷ xs) xs ++ ys
before_all true x xs ys zs e = ap (λ us. x ∷ us) e
before_all false x xs ys zs e = e

after_all : (b : Bool) (x : Statement) (xs ys zs : List Statement) → zs ≡ xs ++ ys → cond b zs (x ∷ zs) ≡ cond b xs (x ∷ xs) ++ ys
after_all true x xs ys zs e = e
after_all false x xs ys zs e = ap (λ us. x ∷ us) e

pub clocked_append : (xs ys : List Item) → clocked_blocks (xs ++ ys) ≡ clocked_blocks xs ++ clocked_blocks ys
clocked_append [] ys = refl
clocked_append (port d ∷ xs) ys = clocked_append xs ys
clocked_append (parameter d ∷ xs) ys = clocked_append xs ys
clocked_append (wires s r ws ∷ xs) ys = clocked_append xs ys
clocked_append (variables s r vs ∷ xs) ys = clocked_append xs ys
clocked_append (assign ts ∷ xs) ys = clocked_append xs ys
clocked_append (always es x ∷ xs) ys = before_all (is_clocked es) x (clocked_blocks xs) (clocked_blocks ys) (clocked_blocks (xs ++ ys)) (clocked_append xs ys)
clocked_append (instances m g is ∷ xs) ys = clocked_append xs ys

pub combinational_append : (xs ys : List Item) → combinational_blocks (xs ++ ys) ≡ combinational_blocks xs ++ combinational_blocks ys
combinational_append [] ys = refl
combinational_append (port d ∷ xs) ys = combinational_append xs ys
combinational_append (parameter d ∷ xs) ys = combinational_append xs ys
combinational_append (wires s r ws ∷ xs) ys = combinational_append xs ys
combinational_append (variables s r vs ∷ xs) ys = combinational_append xs ys
combinational_append (assign ts ∷ xs) ys = combinational_append xs ys
combinational_append (always es x ∷ xs) ys =
    after_all (is_clocked es) x (combinational_blocks xs) (combinational_blocks ys) (combinational_blocks (xs ++ ys)) (combinational_append xs ys)
combinational_append (instances m g is ∷ xs) ys = combinational_append xs ys

-- ---- the items of a module under other names

module _ (f : Name → Name) where
  same_edges : (es : List Event) → has_edge (map (renamed_event f) es) ≡ has_edge es
  same_edges [] = refl
  same_edges (e ∷ es) = ap (λ b. is_edge e.edge || b) (same_edges es)

  same_kind : (es : Events) → is_clocked (renamed_events f es) ≡ is_clocked es
  same_kind any_change = refl
  same_kind (on_events es) = same_edges es

  pub own_assigned : (items : List Item) → assignments (own_items f items) ≡ renamed_assignments f (assignments items)
  own_assigned [] = refl
  own_assigned (port d ∷ items) = own_assigned items
  own_assigned (parameter d ∷ items) = own_assigned items
  own_assigned (wires s r ws ∷ items) =
      ap (λ ts. renamed_assignments f (wire_assignments ws) ++ ts) (own_assigned items)
      ∙ sym (map-append (renamed_assignment f) (wire_assignments ws) (assignments items))
  own_assigned (variables s r vs ∷ items) = own_assigned items
  own_assigned (assign ts ∷ items) =
      ap (λ us. renamed_assignments f ts ++ us) (own_assigned items) ∙ sym (map-append (renamed_assignment f) ts (assignments items))
  own_assigned (always es x ∷ items) = own_assigned items
  own_assigned (instances m g is ∷ items) = own_assigned items

  clocked_one : (b c : Bool) (x : Statement) (xs ys : List Statement) → c ≡ b → ys ≡ renamed_blocks f xs
      → cond c (renamed_statement f x ∷ ys) ys ≡ renamed_blocks f (cond b (x ∷ xs) xs)
  clocked_one true c x xs ys e h = ap (λ d. cond d (renamed_statement f x ∷ ys) ys) e ∙ ap (λ zs. renamed_statement f x ∷ zs) h
  clocked_one false c x xs ys e h = ap (λ d. cond d (renamed_statement f x ∷ ys) ys) e ∙ h

  combinational_one : (b c : Bool) (x : Statement) (xs ys : List Statement) → c ≡ b → ys ≡ renamed_blocks f xs
      → cond c ys (renamed_statement f x ∷ ys) ≡ renamed_blocks f (cond b xs (x ∷ xs))
  combinational_one true c x xs ys e h = ap (λ d. cond d ys (renamed_statement f x ∷ ys)) e ∙ h
  combinational_one false c x xs ys e h = ap (λ d. cond d ys (renamed_statement f x ∷ ys)) e ∙ ap (λ zs. renamed_statement f x ∷ zs) h

  pub own_clocked : (items : List Item) → clocked_blocks (own_items f items) ≡ renamed_blocks f (clocked_blocks items)
  own_clocked [] = refl
  own_clocked (port d ∷ items) = own_clocked items
  own_clocked (parameter d ∷ items) = own_clocked items
  own_clocked (wires s r ws ∷ items) = own_clocked items
  own_clocked (variables s r vs ∷ items) = own_clocked items
  own_clocked (assign ts ∷ items) = own_clocked items
  own_clocked (always es x ∷ items) =
      clocked_one (is_clocked es) (is_clocked (renamed_events f es)) x (clocked_blocks items) (clocked_blocks (own_items f items)) (same_kind es) (own_clocked items)
  own_clocked (instances m g is ∷ items) = own_clocked items

  pub own_combinational : (items : List Item) → combinational_blocks (own_items f items) ≡ renamed_blocks f (combinational_blocks items)
  own_combinational [] = refl
  own_combinational (port d ∷ items) = own_combinational items
  own_combinational (parameter d ∷ items) = own_combinational items
  own_combinational (wires s r ws ∷ items) = own_combinational items
  own_combinational (variables s r vs ∷ items) = own_combinational items
  own_combinational (assign ts ∷ items) = own_combinational items
  own_combinational (always es x ∷ items) =
      combinational_one (is_clocked es) (is_clocked (renamed_events f es)) x (combinational_blocks items) (combinational_blocks (own_items f items)) (same_kind es)
      (own_combinational items)
  own_combinational (instances m g is ∷ items) = own_combinational items
