-- Modules of registers and wires nest no deeper than their expressions and their conditions.
use Rattle.std.proofs.Common.{◌≡◌, ℕ, suc, ◌+◌, ◌-◌, ◌≤◌, ◌^◌, max, Bool, true, false, List, [], ◌∷◌, ◌++◌, map, length, codes, Option, Some, None, refl, arith}
use Rattle.wb_values.specs.Value.{Name, Sort, truth, word as bits, memory, Value, Entries}
use Rattle.model_meaning.specs.Model.{StateDeclaration, InputDeclaration}
use Rattle.verilog_text.specs.Token.{left_parenthesis, right_parenthesis, right_bracket, comma, semicolon, colon, at, equals, less_equals, Token, word, mark}
use Rattle.verilog_text.specs.Text.{Opening, in_parentheses, in_brackets, in_block, in_if, stays, without_statements, step_of_word, open_behind, is_too_deep}
use Rattle.verilog_text.specs.Grammar.{direction_word}
use Rattle.verilog_meaning.specs.Settled.{whole_of, whole_name}
use Rattle.term_expressions.specs.Expressions.{plain}
use Rattle.verilog_trees.specs.Syntax as tree
use Rattle.verilog_trees.specs.Syntax.{Expression, Selects, whole, one, Statement, nonblocking, if_then, place, Direction, input, output, PortDeclaration, Item}
use Rattle.emitted_designs.specs.Names.{clock_name, reset_name, go_name, start_name, commit_name}
use Rattle.emitted_modules.specs.Rtl.{Wire, Stored, Guarded, Rtl, range_of_sort, addresses_of_sort, port_of, input_port, port_list, register_item, wire_item, in_order, takes, first_value, first_take, first_takes, writes, kept_word, kept_words, under, guarded_statements, all_guarded, clocked_statement, at_clock, module_items, module_of}
use Rattle.v_print.specs.Spelled.{bare, bare_selects}
use Rattle.v_print.specs.Bodies.{bare_statement, bare_statements, parts_before, row_before, range_before, port_before, item_before, source_before}
use Rattle.v_print.specs.Depth.{depth_of, depth_of_selects}
use Rattle.v_print.specs.Printable.{IsPrintable, IsPrintableName, ArePrintableSelects, IsPrintableRange, IsPrintablePort, IsPrintableItem, IsPrintableStatement, ArePrintableStatements, IsPrintableModule, Each, EachOfSome}
use Rattle.emitted_texts.proofs.Pieces.{each_joined}
use Rattle.v_print.proofs.Open.{IsShallow, shallow_by, mark_stays, word_stays, other_stays, parenthesis_opens, parenthesis_closes, bracket_opens, bracket_closes, bounds_stay, bare_fits, selects_fit}

-- ---- tokens

-- ; ends each if on top
ends : (zs xs : List Opening) (q : List Token) → without_statements zs ≡ xs → length xs ≤ 200 → IsShallow xs q → IsShallow zs (mark semicolon ∷ q)
unfolding open_behind
ends zs xs q e l s = shallow_by (mark semicolon) zs xs q e l s

opens_if : (zs : List Opening) (q : List Token) → suc (length zs) ≤ 200 → IsShallow (in_if ∷ zs) q → IsShallow zs (word (codes "if") ∷ q)
unfolding open_behind step_of_word
opens_if zs q l s = shallow_by (word (codes "if")) zs (in_if ∷ zs) q refl l s

opens_block : (zs : List Opening) (q : List Token) → suc (length zs) ≤ 200 → IsShallow (in_block ∷ zs) q → IsShallow zs (word (codes "begin") ∷ q)
unfolding open_behind step_of_word
opens_block zs q l s = shallow_by (word (codes "begin")) zs (in_block ∷ zs) q refl l s

closes_block : (zs : List Opening) (q : List Token) → length zs ≤ 200 → IsShallow zs q → IsShallow (in_block ∷ zs) (word (codes "end") ∷ q)
unfolding open_behind step_of_word
closes_block zs q l s = shallow_by (word (codes "end")) (in_block ∷ zs) zs q refl l s

else_stays : (zs : List Opening) (q : List Token) → length zs ≤ 200 → IsShallow zs q → IsShallow zs (word (codes "else") ∷ q)
unfolding open_behind step_of_word
else_stays zs q l s = shallow_by (word (codes "else")) zs zs q refl l s

-- ---- sums

below : (n d : ℕ) → n + d ≤ 200 → n ≤ 200
below n d h = omega (arith, h)

opened : (n d : ℕ) → n + suc d ≤ 200 → suc n ≤ 200
opened n d h = omega (arith, h)

inside : (n d : ℕ) → n + suc d ≤ 200 → suc n + d ≤ 200
inside n d h = omega (arith, h)

first_of : (n a b : ℕ) → n + max a b ≤ 200 → n + a ≤ 200
first_of n a b h = omega (arith, h)

second_of : (n a b : ℕ) → n + max a b ≤ 200 → n + b ≤ 200
second_of n a b h = omega (arith, h)

from_none : (d : ℕ) → d ≤ 200 → 0 + d ≤ 200
from_none d h = omega (arith, h)

room_for : (d : ℕ) → d ≤ 8 → d ≤ 200
room_for d h = omega (arith, h)

-- ---- statements

-- (e)
tested : (e : Expression) → IsPrintable e → (zs : List Opening) (q : List Token) → length zs + suc (depth_of e) ≤ 200 → IsShallow zs q
    → IsShallow zs (mark left_parenthesis ∷ bare e (mark right_parenthesis ∷ q))
tested e p zs q l s =
    parenthesis_opens zs (bare e (mark right_parenthesis ∷ q)) (opened (length zs) (depth_of e) l)
    (bare_fits e p (in_parentheses ∷ zs) (mark right_parenthesis ∷ q) (inside (length zs) (depth_of e) l)
    (parenthesis_closes zs q (below (length zs) (suc (depth_of e)) l) s))

-- Behind the statement the ifs on top are closed, where there was room for so many more.
abbrev pub Ends : ℕ → Statement → Type 0
Ends d x = (c : Bool) (zs xs : List Opening) (r : List Token) → without_statements zs ≡ xs → length xs ≤ 200 → length zs + d ≤ 200 → IsShallow xs r → IsShallow zs (bare_statement c x r)

pub ends_within : (d e : ℕ) (x : Statement) → d ≤ e → Ends d x → Ends e x
ends_within d e x h f c zs xs r o l m s = f c zs xs r o l (less (length zs) m) s
  where
    less : (n : ℕ) → n + e ≤ 200 → n + d ≤ 200
    less n k = omega (arith, h, k)

-- n <= e and n[i] <= e
pub assignment_ends : (n : Name) (q : Selects) (e : Expression) → IsPrintableName n → ArePrintableSelects q → IsPrintable e
    → Ends (max (depth_of_selects q) (depth_of e)) (nonblocking (place n q) e)
assignment_ends n q e pn pq pe c zs xs r o l m s =
    let room = below (length zs) (max (depth_of_selects q) (depth_of e)) m in
    let value = bare e (mark semicolon ∷ r) in
    word_stays n zs (bare_selects q (mark less_equals ∷ value)) pn.is_free room
    (selects_fit q pq zs (mark less_equals ∷ value) (first_of (length zs) (depth_of_selects q) (depth_of e) m)
    (mark_stays less_equals zs value refl room
    (bare_fits e pe zs (mark semicolon ∷ r) (second_of (length zs) (depth_of_selects q) (depth_of e) m) (ends zs xs r o l s))))

-- a condition that nests no deeper than 8
abbrev pub IsFlatCondition : Option Expression → Type 0
IsFlatCondition None = Unit {0}
IsFlatCondition (Some e) = depth_of e ≤ 8

-- if (e) x
pub if_ends : (e : Expression) (x : Statement) (d : ℕ) → IsPrintable e → Ends d x → Ends (suc (max (suc (depth_of e)) d)) (if_then e x)
if_ends e x d p h c zs xs r o l m s =
    let room = inside (length zs) (max (suc (depth_of e)) d) m in
    opens_if zs (mark left_parenthesis ∷ bare e (mark right_parenthesis ∷ bare_statement c x r)) (opened (length zs) (max (suc (depth_of e)) d) m)
    (tested e p (in_if ∷ zs) (bare_statement c x r) (first_of (suc (length zs)) (suc (depth_of e)) d room)
    (h c (in_if ∷ zs) xs r o l (second_of (suc (length zs)) (suc (depth_of e)) d room) s))

-- A statement may be under no condition, or under one.
pub under_ends : (d m : ℕ) (o : Option Expression) (x : Statement) → IsPrintableStatement (under o x) → IsFlatCondition o → d + 12 ≤ m → Ends d x → Ends m (under o x)
under_ends d m None x p f l h = ends_within d m x (omega (arith, l)) h
under_ends d m (Some e) x p f l h =
    ends_within (suc (max (suc (depth_of e)) d)) m (if_then e x) (more (depth_of e) f) (if_ends e x d p.0 h)
  where
    more : (a : ℕ) → a ≤ 8 → suc (max (suc a) d) ≤ m
    more a g = omega (arith, g, l)

-- begin .. end
pub all_end : (d : ℕ) (ss : List Statement) → Each (Ends d) ss → (c : Bool) (ys : List Opening) (r : List Token) → suc (length ys) + d ≤ 200
    → IsShallow (in_block ∷ ys) r → IsShallow (in_block ∷ ys) (bare_statements c (in_order ss) r)
all_end d [] h c ys r l s = s
all_end d (x ∷ ss) h c ys r l s =
    h.0 c (in_block ∷ ys) (in_block ∷ ys) (bare_statements c (in_order ss) r) refl (below (suc (length ys)) d l) l (all_end d ss h.1 c ys r l s)

pub block_shallow : (d : ℕ) (ss : List Statement) → Each (Ends d) ss → (c : Bool) (ys : List Opening) (r : List Token) → suc (length ys) + d ≤ 200
    → IsShallow ys r → IsShallow ys (word (codes "begin") ∷ bare_statements c (in_order ss) (word (codes "end") ∷ r))
block_shallow d ss h c ys r l s =
    opens_block ys (bare_statements c (in_order ss) (word (codes "end") ∷ r)) (below (suc (length ys)) d l)
    (all_end d ss h c ys (word (codes "end") ∷ r) l (closes_block ys r (less (length ys) d l) s))
  where
    less : (n k : ℕ) → suc n + k ≤ 200 → n ≤ 200
    less n k g = omega (arith, g)

-- if (e) begin .. end else if (f) begin .. end
pub choice_shallow : (d : ℕ) (e f : Expression) (ss ts : List Statement) → IsPrintable e → IsPrintable f → depth_of e ≡ 0 → depth_of f ≡ 0 → Each (Ends d) ss → Each (Ends d) ts
    → (c : Bool) (r : List Token) → d ≤ 190 → IsShallow (in_if ∷ in_if ∷ []) r
    → IsShallow [] (bare_statement c (tree.if_else e (tree.block None (in_order ss)) (if_then f (tree.block None (in_order ts)))) r)
choice_shallow d e f ss ts pe pf ze zf hs ht c r l s =
    let other = word (codes "begin") ∷ bare_statements c (in_order ts) (word (codes "end") ∷ r) in
    let last = word (codes "if") ∷ mark left_parenthesis ∷ bare f (mark right_parenthesis ∷ other) in
    let first = word (codes "begin") ∷ bare_statements c (in_order ss) (word (codes "end") ∷ word (codes "else") ∷ last) in
    opens_if [] (mark left_parenthesis ∷ bare e (mark right_parenthesis ∷ first)) (omega arith)
    (tested e pe (in_if ∷ []) first (few (depth_of e) 1 ze (omega arith))
    (block_shallow d ss hs c (in_if ∷ []) (word (codes "else") ∷ last) (omega (arith, l))
    (else_stays (in_if ∷ []) last (omega arith)
    (opens_if (in_if ∷ []) (mark left_parenthesis ∷ bare f (mark right_parenthesis ∷ other)) (omega arith)
    (tested f pf (in_if ∷ in_if ∷ []) other (few (depth_of f) 2 zf (omega arith))
    (block_shallow d ts ht c (in_if ∷ in_if ∷ []) r (omega (arith, l)) s))))))
  where
    few : (a n : ℕ) → a ≡ 0 → n ≤ 2 → n + suc a ≤ 200
    few a n e h = omega (arith, e, h)

-- ---- declarations

-- [l:r]
range_shallow : (l r : Expression) → IsPrintable l → IsPrintable r → depth_of l ≡ 0 → depth_of r ≡ 0 → (zs : List Opening) (q : List Token) → length zs ≤ 100 → IsShallow zs q
    → IsShallow zs (range_before (Some (record { left = l; right = r })) q)
range_shallow l r pl pr zl zr zs q n s =
    bracket_opens zs (bare l (mark colon ∷ bare r (mark right_bracket ∷ q))) (omega (arith, n))
    (bare_fits l pl (in_brackets ∷ zs) (mark colon ∷ bare r (mark right_bracket ∷ q)) (few (length zs) (depth_of l) n zl)
    (bounds_stay zs (bare r (mark right_bracket ∷ q)) (omega (arith, n))
    (bare_fits r pr (in_brackets ∷ zs) (mark right_bracket ∷ q) (few (length zs) (depth_of r) n zr) (bracket_closes zs q (omega (arith, n)) s))))
  where
    few : (k a : ℕ) → k ≤ 100 → a ≡ 0 → suc k + a ≤ 200
    few k a h e = omega (arith, h, e)

sort_shallow : (t : Sort) → IsPrintableRange (range_of_sort t) → (zs : List Opening) (q : List Token) → length zs ≤ 100 → IsShallow zs q → IsShallow zs (range_before (range_of_sort t) q)
sort_shallow truth p zs q n s = s
sort_shallow (bits w) p zs q n s = range_shallow (plain (w - 1)) (plain 0) p.0 p.1 refl refl zs q n s
sort_shallow (memory a d) p zs q n s = range_shallow (plain (d - 1)) (plain 0) p.0 p.1 refl refl zs q n s

addresses_shallow : (t : Sort) → IsPrintableRange (addresses_of_sort t) → (q : List Token) → IsShallow [] q → IsShallow [] (range_before (addresses_of_sort t) q)
addresses_shallow truth p q s = s
addresses_shallow (bits w) p q s = s
addresses_shallow (memory a d) p q s = range_shallow (plain 0) (plain (2 ^ a - 1)) p.0 p.1 refl refl [] q (omega arith) s

-- a word that opens and closes nothing
calm_word : (n : Name) (zs : List Opening) (q : List Token) → step_of_word n ≡ stays → length zs ≤ 200 → IsShallow zs q → IsShallow zs (word n ∷ q)
calm_word n zs q e l s = other_stays (word n) zs q e l s

wire_stays : step_of_word (codes "wire") ≡ stays
unfolding step_of_word
wire_stays = refl

reg_stays : step_of_word (codes "reg") ≡ stays
unfolding step_of_word
reg_stays = refl

assign_stays : step_of_word (codes "assign") ≡ stays
unfolding step_of_word
assign_stays = refl

always_stays : step_of_word (codes "always") ≡ stays
unfolding step_of_word
always_stays = refl

posedge_stays : step_of_word (codes "posedge") ≡ stays
unfolding step_of_word
posedge_stays = refl

module_stays : step_of_word (codes "module") ≡ stays
unfolding step_of_word
module_stays = refl

end_stays : step_of_word (codes "endmodule") ≡ stays
unfolding step_of_word
end_stays = refl

direction_stays : (d : Direction) → step_of_word (direction_word d) ≡ stays
unfolding step_of_word
direction_stays tree.input = refl
direction_stays tree.output = refl

-- ---- items

-- with nothing open before it and behind it
abbrev pub IsShallowItem : Item → Type 0
IsShallowItem i = (c : Bool) (q : List Token) → IsShallow [] q → IsShallow [] (item_before c i q)

pub register_shallow : (d : StateDeclaration) → IsPrintableItem (register_item d) → IsShallowItem (register_item d)
register_shallow d p c q s =
    let named = range_before (addresses_of_sort d.sort) (mark semicolon ∷ q) in
    calm_word (codes "reg") [] (range_before (range_of_sort d.sort) (word d.state_name ∷ named)) reg_stays (omega arith)
    (sort_shallow d.sort p.0 [] (word d.state_name ∷ named) (omega arith)
    (word_stays d.state_name [] named p.1.0.0.is_free (omega arith)
    (addresses_shallow d.sort p.1.0.1 (mark semicolon ∷ q) (ends [] [] q refl (omega arith) s))))

pub wire_shallow : (w : Wire) → IsPrintableItem (wire_item w) → depth_of w.expression ≤ 200 → IsShallowItem (wire_item w)
wire_shallow w p l c q s =
    let value = bare w.expression (mark semicolon ∷ q) in
    calm_word (codes "wire") [] (range_before (range_of_sort w.sort) (word w.wire_name ∷ mark equals ∷ value)) wire_stays (omega arith)
    (sort_shallow w.sort p.0 [] (word w.wire_name ∷ mark equals ∷ value) (omega arith)
    (word_stays w.wire_name [] (mark equals ∷ value) p.1.0.0.is_free (omega arith)
    (mark_stays equals [] value refl (omega arith)
    (bare_fits w.expression p.1.0.1 [] (mark semicolon ∷ q) (from_none (depth_of w.expression) l) (ends [] [] q refl (omega arith) s)))))

pub assignment_shallow : (n : Name) (e : Expression) → IsPrintableName n → IsPrintable e → depth_of e ≤ 200 → IsShallowItem (tree.assign ((whole_of n, e) ∷ []))
assignment_shallow n e pn pe l c q s =
    let value = bare e (mark semicolon ∷ q) in
    calm_word (codes "assign") [] (word n ∷ mark equals ∷ value) assign_stays (omega arith)
    (word_stays n [] (mark equals ∷ value) pn.is_free (omega arith)
    (mark_stays equals [] value refl (omega arith)
    (bare_fits e pe [] (mark semicolon ∷ q) (from_none (depth_of e) l) (ends [] [] q refl (omega arith) s))))

pub rows_shallow : (c : Bool) (is js : List Item) (r : List Token) → Each IsShallowItem is → IsShallow [] (row_before (item_before c) js r) → IsShallow [] (row_before (item_before c) (is ++ js) r)
rows_shallow c [] js r h s = s
rows_shallow c (i ∷ is) js r h s = h.0 c (row_before (item_before c) (is ++ js) r) (rows_shallow c is js r h.1 s)

-- ---- ports

-- within the brackets of a list of ports
abbrev pub IsShallowPort : PortDeclaration → Type 0
IsShallowPort p = (q : List Token) → IsShallow (in_parentheses ∷ []) q → IsShallow (in_parentheses ∷ []) (port_before p q)

pub ports_shallow : (b : Bool) (ps : List PortDeclaration) (r : List Token) → Each IsShallowPort ps → IsShallow (in_parentheses ∷ []) r → IsShallow (in_parentheses ∷ []) (parts_before port_before b ps r)
ports_shallow b [] r h s = s
ports_shallow true (p ∷ ps) r h s =
    mark_stays comma (in_parentheses ∷ []) (port_before p (parts_before port_before true ps r)) refl (omega arith)
    (h.0 (parts_before port_before true ps r) (ports_shallow true ps r h.1 s))
ports_shallow false (p ∷ ps) r h s = h.0 (parts_before port_before true ps r) (ports_shallow true ps r h.1 s)

pub port_shallow : (d : Direction) (n : Name) (t : Sort) → IsPrintablePort (port_of d n t) → IsShallowPort (port_of d n t)
port_shallow d n t p q s =
    calm_word (direction_word d) (in_parentheses ∷ []) (range_before (range_of_sort t) (word n ∷ q)) (direction_stays d) (omega arith)
    (sort_shallow t p.0 (in_parentheses ∷ []) (word n ∷ q) (omega arith) (word_stays n (in_parentheses ∷ []) q p.1.0.is_free (omega arith) s))

-- ---- the module

each_front : {A : Type 0} (P : A → Type 0) (xs ys : List A) → Each P (xs ++ ys) → Each P xs × Each P ys
each_front P [] ys h = (tt, h)
each_front P (x ∷ xs) ys h = let more = each_front P xs ys h.1 in ((h.0, more.0), more.1)

registers_shallow : (ds : List StateDeclaration) → Each IsPrintableItem (map register_item ds) → Each IsShallowItem (map register_item ds)
registers_shallow [] p = tt
registers_shallow (d ∷ ds) p = (register_shallow d p.0, registers_shallow ds p.1)

wires_shallow : (ws : List Wire) → Each IsPrintableItem (map wire_item ws) → Each (λ w. depth_of w.expression ≤ 200) ws → Each IsShallowItem (map wire_item ws)
wires_shallow [] p h = tt
wires_shallow (w ∷ ws) p h = (wire_shallow w p.0 h.0, wires_shallow ws p.1 h.1)

inputs_shallow : (is : List InputDeclaration) (ps : List PortDeclaration) → Each IsPrintablePort (map input_port is ++ ps) → Each IsShallowPort ps → Each IsShallowPort (map input_port is ++ ps)
inputs_shallow [] ps p h = h
inputs_shallow (i ∷ is) ps p h = (port_shallow input i.input_name i.sort p.0, inputs_shallow is ps p.1 h)

port_list_shallow : (is : List InputDeclaration) → EachOfSome IsPrintablePort (port_list is) → Each IsShallowPort (port_list is)
port_list_shallow is p =
    let outputs = port_of output start_name truth ∷ port_of output commit_name truth ∷ [] in
    let last = (each_front IsPrintablePort (map input_port is) outputs p.1.1.1).1 in (
      port_shallow input clock_name truth p.0,
      (
        port_shallow input reset_name truth p.1.0,
        (
          port_shallow input go_name truth p.1.1.0,
          inputs_shallow is outputs p.1.1.1 (port_shallow output start_name truth last.0, (port_shallow output commit_name truth last.1.0, tt)),
        ),
      ),
    )

-- ---- statements of the module

-- parts that nest no deeper than 8
abbrev pub IsFlat : Expression → Type 0
IsFlat e = depth_of e ≤ 8

pub record IsFlatStore (w : Stored) : Type 0 where
  pub condition : IsFlatCondition w.condition
  pub address : IsFlat w.address
  pub value : IsFlat w.value

take_ends : (u : Name × Expression) → IsPrintableStatement (takes u) → IsFlat u.1 → Ends 12 (takes u)
take_ends u p f = ends_within (max 0 (depth_of u.1)) 12 (takes u) (less (depth_of u.1) f) (assignment_ends u.0 whole u.1 p.0.0 tt p.1)
  where
    less : (a : ℕ) → a ≤ 8 → max 0 a ≤ 12
    less a g = omega (arith, g)

stored_ends : (n : Name) (i v : Expression) → IsPrintableStatement (nonblocking (place n (one (tree.index i))) v) → IsFlat i → IsFlat v
    → Ends 12 (nonblocking (place n (one (tree.index i))) v)
stored_ends n i v p f g =
    ends_within (max (suc (depth_of i)) (depth_of v)) 12 (nonblocking (place n (one (tree.index i))) v) (less (depth_of i) (depth_of v) f g)
    (assignment_ends n (one (tree.index i)) v p.0.0 p.0.1 p.1)
  where
    less : (a b : ℕ) → a ≤ 8 → b ≤ 8 → max (suc a) b ≤ 12
    less a b h k = omega (arith, h, k)

condition_inside : (o : Option Expression) (x : Statement) → IsPrintableStatement (under o x) → IsPrintableStatement x
condition_inside None x p = p
condition_inside (Some e) x p = p.1

store_ends : (w : Stored) → IsPrintableStatement (writes w) → IsFlatStore w → Ends 24 (writes w)
store_ends w p f =
    let stored = nonblocking (place w.memory_name (one (tree.index w.address))) w.value in
    under_ends 12 24 w.condition stored p f.condition (omega arith)
    (stored_ends w.memory_name w.address w.value (condition_inside w.condition stored p) f.address f.value)

takes_end : (us : Entries Expression) → Each IsPrintableStatement (map takes us) → Each (λ u. IsFlat u.1) us → Each (Ends 24) (map takes us)
takes_end [] p f = tt
takes_end (u ∷ us) p f = (ends_within 12 24 (takes u) (omega arith) (take_ends u p.0 f.0), takes_end us p.1 f.1)

stores_end : (ws : List Stored) → Each IsPrintableStatement (map writes ws) → Each IsFlatStore ws → Each (Ends 24) (map writes ws)
stores_end [] p f = tt
stores_end (w ∷ ws) p f = (store_ends w p.0 f.0, stores_end ws p.1 f.1)

guarded_end : (d : Expression) (us : Entries Expression) → IsFlat d → Each IsPrintableStatement (map (λ u. if_then d (takes u)) us) → Each (λ u. IsFlat u.1) us
    → Each (Ends 24) (map (λ u. if_then d (takes u)) us)
guarded_end d [] g p f = tt
guarded_end d (u ∷ us) g p f = (
  ends_within (suc (max (suc (depth_of d)) 12)) 24 (if_then d (takes u)) (less (depth_of d) g) (if_ends d (takes u) 12 p.0.0 (take_ends u p.0.1 f.0)),
  guarded_end d us g p.1 f.1,
)
  where
    less : (a : ℕ) → a ≤ 8 → suc (max (suc a) 12) ≤ 24
    less a h = omega (arith, h)

pub record IsFlatGuarded (g : Guarded) : Type 0 where
  pub guard : IsFlat g.guard
  pub updates : Each (λ u. IsFlat u.1) g.updates
  pub stores : Each IsFlatStore g.stores

all_guarded_end : (gs : List Guarded) → Each IsPrintableStatement (all_guarded gs) → Each IsFlatGuarded gs → Each (Ends 24) (all_guarded gs)
all_guarded_end [] p f = tt
all_guarded_end (g ∷ gs) p f =
    let updates = map (λ u. if_then g.guard (takes u)) g.updates in
    let more = each_front IsPrintableStatement (guarded_statements g) (all_guarded gs) p in
    let own = each_front IsPrintableStatement updates (map writes g.stores) more.0 in
    each_joined (Ends 24) (guarded_statements g) (all_guarded gs)
    (each_joined (Ends 24) updates (map writes g.stores) (guarded_end g.guard g.updates f.0.guard own.0 f.0.updates) (stores_end g.stores own.1 f.0.stores))
    (all_guarded_end gs more.1 f.1)

-- ---- in reset

flat_8 : 0 ≤ 8
flat_8 = omega arith

word_8 : 1 ≤ 8
word_8 = omega arith

first_flat : (n : Name) (t : Sort) (i : Option Value) → IsFlat (first_value n t i)
first_flat n t None = flat_8
first_flat n t (Some x) = flat_8

take_flat : (n : Name) (t : Sort) (i : Option Value) → Each (λ u. IsFlat u.1) (first_take n t i)
take_flat n truth i = (first_flat n truth i, tt)
take_flat n (bits w) i = (first_flat n (bits w) i, tt)
take_flat n (memory a d) i = tt

first_takes_flat : (ds : List StateDeclaration) → Each (λ u. IsFlat u.1) (first_takes ds)
first_takes_flat [] = tt
first_takes_flat (d ∷ ds) =
    each_joined (λ u. IsFlat u.1) (first_take d.state_name d.sort d.init) (first_takes ds) (take_flat d.state_name d.sort d.init) (first_takes_flat ds)

kept_flat : (n : Name) (t : Sort) → Each IsFlatStore (kept_word n t)
kept_flat n truth = tt
kept_flat n (bits w) = tt
kept_flat n (memory a d) = (record { condition = tt; address = flat_8; value = word_8 }, tt)

kept_words_flat : (ds : List StateDeclaration) → Each IsFlatStore (kept_words ds)
kept_words_flat [] = tt
kept_words_flat (d ∷ ds) = each_joined IsFlatStore (kept_word d.state_name d.sort) (kept_words ds) (kept_flat d.state_name d.sort) (kept_words_flat ds)

in_block_each : (ss : List Statement) → ArePrintableStatements (in_order ss) → Each IsPrintableStatement ss
in_block_each [] p = tt
in_block_each (x ∷ xs) p = (p.0, in_block_each xs p.1)

resets_end : (ds : List StateDeclaration) → ArePrintableStatements (in_order (map takes (first_takes ds) ++ map writes (kept_words ds)))
    → Each (Ends 24) (map takes (first_takes ds) ++ map writes (kept_words ds))
resets_end ds p =
    let parts = each_front IsPrintableStatement (map takes (first_takes ds)) (map writes (kept_words ds)) (in_block_each (map takes (first_takes ds) ++ map writes (kept_words ds)) p) in
    each_joined (Ends 24) (map takes (first_takes ds)) (map writes (kept_words ds)) (takes_end (first_takes ds) parts.0 (first_takes_flat ds))
    (stores_end (kept_words ds) parts.1 (kept_words_flat ds))

-- always @(posedge wb_clk) if (wb_rst) begin .. end else if (wb_start) begin .. end, at the end of a module
always_shallow : (d : ℕ) (r : Rtl) → d ≤ 190 → IsPrintableItem (tree.always at_clock (clocked_statement r))
    → Each (Ends d) (map takes (first_takes r.registers) ++ map writes (kept_words r.registers)) → Each (Ends d) (all_guarded r.guarded) → (c : Bool)
    → IsShallow [] (item_before c (tree.always at_clock (clocked_statement r)) (word (codes "endmodule") ∷ []))
unfolding is_too_deep
always_shallow d r l p hs ht c =
    let rest = word (codes "endmodule") ∷ [] in
    let block = bare_statement c (clocked_statement r) rest in
    calm_word (codes "always") [] (mark at ∷ mark left_parenthesis ∷ word (codes "posedge") ∷ word clock_name ∷ mark right_parenthesis ∷ block) always_stays (omega arith)
    (mark_stays at [] (mark left_parenthesis ∷ word (codes "posedge") ∷ word clock_name ∷ mark right_parenthesis ∷ block) refl (omega arith)
    (parenthesis_opens [] (word (codes "posedge") ∷ word clock_name ∷ mark right_parenthesis ∷ block) (omega arith)
    (calm_word (codes "posedge") (in_parentheses ∷ []) (word clock_name ∷ mark right_parenthesis ∷ block) posedge_stays (omega arith)
    (word_stays clock_name (in_parentheses ∷ []) (mark right_parenthesis ∷ block) p.0.0.is_free (omega arith)
    (parenthesis_closes [] block (omega arith)
    (choice_shallow d (whole_name reset_name) (whole_name start_name) (map takes (first_takes r.registers) ++ map writes (kept_words r.registers)) (all_guarded r.guarded)
    p.1.0 p.1.2.0 refl refl hs ht c rest l (calm_word (codes "endmodule") (in_if ∷ in_if ∷ []) [] end_stays (omega arith) refl)))))))

-- What of such a module is flat.
pub record IsFlatRtl (r : Rtl) : Type 0 where
  pub wires_flat : Each (λ w. IsFlat w.expression) r.wires
  pub ready_flat : IsFlat r.ready
  pub guarded_flat : Each IsFlatGuarded r.guarded

wires_within : (ws : List Wire) → Each (λ w. IsFlat w.expression) ws → Each (λ w. depth_of w.expression ≤ 200) ws
wires_within [] h = tt
wires_within (w ∷ ws) h = (room_for (depth_of w.expression) h.0, wires_within ws h.1)

pub module_shallow : (r : Rtl) → IsPrintableModule (module_of r) → IsFlatRtl r → (c : Bool) → IsShallow [] (source_before c (module_of r ∷ []) [])
module_shallow r p h c =
    let start = tree.assign ((whole_of start_name, r.ready) ∷ []) in
    let commit = tree.assign ((whole_of commit_name, whole_name start_name) ∷ []) in
    let last = tree.always at_clock (clocked_statement r) in
    let items = each_front IsPrintableItem (map register_item r.registers) (map wire_item r.wires ++ start ∷ commit ∷ last ∷ []) p.3 in
    let more = each_front IsPrintableItem (map wire_item r.wires) (start ∷ commit ∷ last ∷ []) items.1 in
    let block = more.1.1.1.0 in
    let body = row_before (item_before c) (module_items r) (word (codes "endmodule") ∷ []) in
    let ports = parts_before port_before false (port_list r.inputs) (mark right_parenthesis ∷ mark semicolon ∷ body) in
    calm_word (codes "module") [] (word r.called ∷ mark left_parenthesis ∷ ports) module_stays (omega arith)
    (word_stays r.called [] (mark left_parenthesis ∷ ports) p.0.is_free (omega arith)
    (parenthesis_opens [] ports (omega arith)
    (ports_shallow false (port_list r.inputs) (mark right_parenthesis ∷ mark semicolon ∷ body) (port_list_shallow r.inputs p.2)
    (parenthesis_closes [] (mark semicolon ∷ body) (omega arith)
    (ends [] [] body refl (omega arith)
    (rows_shallow c (map register_item r.registers) (map wire_item r.wires ++ start ∷ commit ∷ last ∷ []) (word (codes "endmodule") ∷ [])
    (registers_shallow r.registers items.0)
    (rows_shallow c (map wire_item r.wires) (start ∷ commit ∷ last ∷ []) (word (codes "endmodule") ∷ []) (wires_shallow r.wires more.0 (wires_within r.wires h.wires_flat))
    (assignment_shallow start_name r.ready more.1.0.0.0.0 more.1.0.0.1 (room_for (depth_of r.ready) h.ready_flat) c (item_before c commit (item_before c last (word (codes "endmodule") ∷ [])))
    (assignment_shallow commit_name (whole_name start_name) more.1.1.0.0.0.0 more.1.1.0.0.1 (omega arith) c (item_before c last (word (codes "endmodule") ∷ []))
    (always_shallow 24 r (omega arith) more.1.1.1.0 (resets_end r.registers block.1.1.1)
    (all_guarded_end r.guarded (in_block_each (all_guarded r.guarded) block.1.2.1.1) h.guarded_flat) c))))))))))
