-- Declarations, instances and events: what is read is spelled so.
use Rattle.std.proofs.Common.{◌≡◌, suc, ◌<◌, ◌≤◌, Bool, List, [], ◌∷◌, length, Option, Some, refl, sym, ap, ◌∙◌, subst, arith}
use Rattle.std.specs.Prelude.{codes}
use Rattle.wb_values.specs.Value.{Name}
use Rattle.verilog_text.specs.Token.{left_parenthesis, right_parenthesis, left_bracket, right_bracket, comma, colon, dot, hash, equals, star, Token, word, mark}
use Rattle.verilog_trees.specs.Syntax.{Expression, EdgeKind, Event, Range, Direction, ParameterDeclaration, Connections}
use Rattle.verilog_text.specs.Grammar.{AreParted, IsPerhaps, IsName, a_name, IsWhole, IsRange, bounds, IsPerhapsRange, IsAssignment, direction_word, IsNetKind, no_kind, a_wire, a_variable, IsPort, a_port, IsSetting, set_to, parameter_word, IsParameter, a_parameter, IsWire, net, IsVariable, variable, IsEntry, empty_entry, an_entry, IsNamedEntry, under_name, AreConnections, named_entries, entries, IsInstance, an_instance, AreOverrides, no_overrides, overrides, edge_words, IsEvent, an_event, AreEvents, last_event, or_event, comma_event, IsControl, by_star, by_star_in_parentheses, by_events}
use Rattle.v_expr.specs.Reading.{after_mark}
use Rattle.v_expr.specs.Whole.{whole_at}
use Rattle.v_expr.proofs.Repeat.{some_is, Chain}
use Rattle.v_expr.proofs.Places.{mark_spelled}
use Rattle.v_expr.proofs.Spelled.{bound, either_way, lands}
use Rattle.v_expr.proofs.Whole.{whole_spelled, whole_shrinks}
use Rattle.v_body.specs.Words.{name_at}
use Rattle.v_body.specs.Targets.{assignment_at}
use Rattle.v_body.proofs.Words.{word_spelled}
use Rattle.v_body.proofs.Spelled.{assignment_spelled}
use Rattle.v_body.proofs.Longer.{assignment_shrinks}
use Rattle.v_parse.specs.Lists.{at_name, before_name, next_part, past}
use Rattle.v_parse.specs.Reading.{range_at, perhaps_range_at, direction_at, net_kind_at, names_at, declared_port_at, port_at, setting_at, settings_at, parameter_word_at, declared_parameter_at, perhaps_value_at, wire_at, wires_at, variable_at, variables_at, some_entry_at, entry_at, named_entry_at, entries_at, named_entries_at, by_order_at, by_name_at, connections_at, instance_at, instances_at, overrides_at, edge_at, event_at, next_event, event_list_at, events_at, star_at, in_parentheses_at, control_at, assignments_at}
use Rattle.v_parse.proofs.Words.{word_length, mark_length}
use Rattle.v_parse.proofs.Lists.{Spelling, Reads, Takes, Keeps, is_read, either, before, from_mark, from_word, name_read, flag_read, perhaps_read, parted_read, past_is, parts_of}

pub whole_read : Reads whole_at IsWhole
whole_read ts y h = (whole_spelled ts y h, let shorter : length y.1 < length ts = whole_shrinks ts y.0 y.1 h in omega (arith, shorter))

-- ---- what goes on with a list

pub comma_passed : (ts more : List Token) → after_mark comma ts ≡ Some more → ts ≡ mark comma ∷ more
comma_passed ts more e = mark_spelled comma e

pub comma_advances : (ts more : List Token) → after_mark comma ts ≡ Some more → length more < length ts
comma_advances ts more e = omega (arith, mark_length comma ts e)

pub before_name_passed : (ts more : List Token) → before_name ts ≡ Some more → ts ≡ mark comma ∷ more
unfolding before_name at_name
before_name_passed ts more e =
    let w = bound e in
    either (name_at w.0) w.2 (λ n is same. subst (λ us. ts ≡ mark comma ∷ us) (some_is w.0 more same) (mark_spelled comma w.1)) (λ is same. absurd cc)

pub before_name_advances : (ts more : List Token) → before_name ts ≡ Some more → length more < length ts
before_name_advances ts more e = omega (arith, ap (λ (us : List Token). length us) (before_name_passed ts more e))

-- ---- declarations

pub range_read : Reads range_at IsRange
unfolding range_at
range_read ts y h =
    let l = bound h in
    let c = bound l.2 in
    let r = bound c.2 in
    let b = bound r.2 in
    let left = whole_read ts l.0 l.1 in
    let right = whole_read c.0 r.0 r.1 in
    is_read IsRange ts b.2 (bounds l.0.0 r.0.0 ts c.0 b.0 (before IsWhole colon c.1 left.0) (before IsWhole right_bracket b.1 right.0))
    (omega (arith, left.1, right.1, mark_length colon l.0.1 c.1, mark_length right_bracket r.0.1 b.1))

pub perhaps_range_read : Reads perhaps_range_at IsPerhapsRange
unfolding perhaps_range_at
perhaps_range_read = perhaps_read left_bracket IsRange range_at range_read

-- a direction is spelled by its word
abbrev pub IsDirection : Spelling Direction
IsDirection d text rest = text ≡ word (direction_word d) ∷ rest

pub direction_read : Takes direction_at IsDirection
unfolding direction_at
direction_read ts y h =
    either_way h
    (λ w. lands (λ d us. IsDirection d ts us × (length us < length ts)) w.2 (word_spelled (codes "input") w.1, omega (arith, word_length (codes "input") ts w.1)))
    (λ w.
    let r = bound w.1 in
    lands (λ d us. IsDirection d ts us × (length us < length ts)) r.2 (word_spelled (codes "output") r.1, omega (arith, word_length (codes "output") ts r.1)))

pub net_kind_read : Reads net_kind_at IsNetKind
unfolding net_kind_at
net_kind_read ts y h =
    either_way h
    (λ w. is_read IsNetKind ts w.2 (from_word IsNetKind (codes "wire") w.1 (a_wire w.0)) (omega (arith, word_length (codes "wire") ts w.1)))
    (λ not_wire. either_way not_wire.1
    (λ w. is_read IsNetKind ts w.2 (from_word IsNetKind (codes "reg") w.1 (a_variable w.0)) (omega (arith, word_length (codes "reg") ts w.1)))
    (λ w. is_read IsNetKind ts w.1 (no_kind ts) (omega arith)))

pub names_read : Reads names_at (AreParted IsName)
unfolding names_at
names_read = parted_read IsName before_name name_at name_read before_name_passed

pub declared_port_read : (d : Direction) → Reads (declared_port_at d) (λ p us. IsPort p (word (direction_word d) ∷ us))
unfolding declared_port_at
declared_port_read d ts y h =
    let k = bound h in
    let s = bound k.2 in
    let r = bound s.2 in
    let n = bound r.2 in
    let kind = net_kind_read ts k.0 k.1 in
    let sign = flag_read (codes "signed") k.0.1 s.0 s.1 in
    let range = perhaps_range_read s.0.1 r.0 r.1 in
    let names = names_read r.0.1 n.0 n.1 in
    is_read (λ p us. IsPort p (word (direction_word d) ∷ us)) ts n.2
    (a_port d k.0.0 s.0.0 r.0.0 n.0.0 ts k.0.1 s.0.1 r.0.1 n.0.1 kind.0 sign.0 range.0 names.0) (omega (arith, kind.1, sign.1, range.1, names.1))

pub port_read : Takes port_at IsPort
unfolding port_at
port_read ts y h =
    let d = bound h in
    let is = direction_read ts d.0 d.1 in
    let p = declared_port_read d.0.0 d.0.1 y d.2 in
    (subst (λ us. IsPort y.0 us y.1) (sym is.0) p.0, omega (arith, is.1, p.1))

pub port_keeps : Keeps port_at
port_keeps ts x rest e = let shorter : length rest < length ts = (port_read ts (x, rest) e).1 in omega (arith, shorter)

pub setting_read : Reads setting_at IsSetting
unfolding setting_at
setting_read ts y h =
    let n = bound h in
    let v = bound n.2 in
    let e = bound v.2 in
    let name = name_read ts n.0 n.1 in
    let value = whole_read v.0 e.0 e.1 in
    is_read IsSetting ts e.2 (setting_of n.0.0 e.0.0 ts n.0.1 v.0 e.0.1 name.0 (mark_spelled equals v.1) value.0) (omega (arith, name.1, value.1, mark_length equals n.0.1 v.1))
  where
    setting_of : (n : Name) (e : Expression) (ts more value rest : List Token) → IsName n ts more → more ≡ mark equals ∷ value → IsWhole e value rest → IsSetting (n, e) ts rest
    setting_of _ e _ _ value rest (a_name n more named) same d = subst (λ us. IsSetting (n, e) (word n ∷ us) rest) (sym same) (set_to n e value rest named d)

pub settings_read : Reads settings_at (AreParted IsSetting)
unfolding settings_at
settings_read = parted_read IsSetting before_name setting_at setting_read before_name_passed

abbrev pub IsParameterWord : Spelling Bool
IsParameterWord l text rest = text ≡ word (parameter_word l) ∷ rest

pub parameter_word_read : Takes parameter_word_at IsParameterWord
unfolding parameter_word_at
parameter_word_read ts y h =
    either_way h
    (λ w. lands (λ l us. IsParameterWord l ts us × (length us < length ts)) w.2 (word_spelled (codes "localparam") w.1, omega (arith, word_length (codes "localparam") ts w.1)))
    (λ w.
    let r = bound w.1 in
    lands (λ l us. IsParameterWord l ts us × (length us < length ts)) r.2 (word_spelled (codes "parameter") r.1, omega (arith, word_length (codes "parameter") ts r.1)))

-- what was declared is local as its word says
abbrev pub IsParameterBehind : (is_local : Bool) → Spelling ParameterDeclaration
IsParameterBehind l p us rest = IsParameter p (word (parameter_word l) ∷ us) rest × (p.is_local ≡ l)

pub declared_parameter_read : (l : Bool) → Reads (declared_parameter_at l) (IsParameterBehind l)
unfolding declared_parameter_at
declared_parameter_read l ts y h =
    let s = bound h in
    let r = bound s.2 in
    let v = bound r.2 in
    let sign = flag_read (codes "signed") ts s.0 s.1 in
    let range = perhaps_range_read s.0.1 r.0 r.1 in
    let values = settings_read r.0.1 v.0 v.1 in
    is_read (IsParameterBehind l) ts v.2
    (a_parameter l s.0.0 r.0.0 v.0.0 ts s.0.1 r.0.1 v.0.1 sign.0 range.0 values.0, refl) (omega (arith, sign.1, range.1, values.1))

pub wire_read : Reads wire_at IsWire
unfolding wire_at perhaps_value_at
wire_read ts y h =
    let n = bound h in
    let e = bound n.2 in
    let name = name_read ts n.0 n.1 in
    let value = perhaps_read equals IsWhole whole_at whole_read n.0.1 e.0 e.1 in
    is_read IsWire ts e.2 (wire_of n.0.0 e.0.0 ts n.0.1 e.0.1 name.0 value.0) (omega (arith, name.1, value.1))
  where
    wire_of : (n : Name) (e : Option Expression) (ts more rest : List Token) → IsName n ts more → IsPerhaps (mark equals) IsWhole e more rest → IsWire (n, e) ts rest
    wire_of _ e _ _ rest (a_name n more named) d = net n e more rest named d

pub wires_read : Reads wires_at (AreParted IsWire)
unfolding wires_at
wires_read = parted_read IsWire (after_mark comma) wire_at wire_read comma_passed

pub variable_read : Reads variable_at IsVariable
unfolding variable_at
variable_read ts y h =
    let n = bound h in
    let r = bound n.2 in
    let name = name_read ts n.0 n.1 in
    let range = perhaps_range_read n.0.1 r.0 r.1 in
    is_read IsVariable ts r.2 (variable_of n.0.0 r.0.0 ts n.0.1 r.0.1 name.0 range.0) (omega (arith, name.1, range.1))
  where
    variable_of : (n : Name) (r : Option Range) (ts more rest : List Token) → IsName n ts more → IsPerhapsRange r more rest → IsVariable (n, r) ts rest
    variable_of _ r _ _ rest (a_name n more named) d = variable n r more rest named d

pub variables_read : Reads variables_at (AreParted IsVariable)
unfolding variables_at
variables_read = parted_read IsVariable (after_mark comma) variable_at variable_read comma_passed

pub assignment_read : Reads (assignment_at equals) (IsAssignment equals)
assignment_read ts y h =
    (assignment_spelled equals ts y h, let shorter : length y.1 < length ts = assignment_shrinks equals ts y.0 y.1 h in omega (arith, shorter))

pub assignments_read : Reads assignments_at (AreParted (IsAssignment equals))
unfolding assignments_at
assignments_read = parted_read (IsAssignment equals) (after_mark comma) (assignment_at equals) assignment_read comma_passed

-- ---- instances

pub entry_read : Reads entry_at IsEntry
unfolding entry_at some_entry_at
entry_read ts y h =
    either (after_mark comma ts) h
    (λ more is same. is_read IsEntry ts same (empty_entry ts) (omega arith))
    (λ no_comma other. either (after_mark right_parenthesis ts) other
    (λ more is same. is_read IsEntry ts same (empty_entry ts) (omega arith))
    (λ is read.
    let e = bound read in
    let value = whole_read ts e.0 e.1 in
    is_read IsEntry ts e.2 (an_entry e.0.0 ts e.0.1 value.0) value.1))

pub entries_read : Reads entries_at (AreParted IsEntry)
unfolding entries_at
entries_read = parted_read IsEntry (after_mark comma) entry_at entry_read comma_passed

pub named_entry_read : Reads named_entry_at IsNamedEntry
unfolding named_entry_at
named_entry_read ts y h =
    let d = bound h in
    let n = bound d.2 in
    let i = bound n.2 in
    let e = bound i.2 in
    let r = bound e.2 in
    let name = name_read d.0 n.0 n.1 in
    let entry = entry_read i.0 e.0 e.1 in
    is_read IsNamedEntry ts r.2
    (from_mark IsNamedEntry dot d.1 (named_of n.0.0 e.0.0 d.0 n.0.1 i.0 r.0 name.0 (mark_spelled left_parenthesis i.1) (before IsEntry right_parenthesis r.1 entry.0)))
    (omega (arith, name.1, entry.1, mark_length dot ts d.1, mark_length left_parenthesis n.0.1 i.1, mark_length right_parenthesis e.0.1 r.1))
  where
    named_of : (n : Name) (e : Option Expression) (ts more inside rest : List Token) → IsName n ts more → more ≡ mark left_parenthesis ∷ inside → IsEntry e inside (mark right_parenthesis ∷ rest)
        → IsNamedEntry (n, e) (mark dot ∷ ts) rest
    named_of _ e _ _ inside rest (a_name n more named) same d = subst (λ us. IsNamedEntry (n, e) (mark dot ∷ word n ∷ us) rest) (sym same) (under_name n e inside rest named d)

pub named_entries_read : Reads named_entries_at (AreParted IsNamedEntry)
unfolding named_entries_at
named_entries_read = parted_read IsNamedEntry (after_mark comma) named_entry_at named_entry_read comma_passed

pub connections_read : Reads connections_at AreConnections
unfolding connections_at by_name_at by_order_at
connections_read ts y h =
    either (after_mark dot ts) h
    (λ more is read.
    let e = bound read in
    let r = bound e.2 in
    let all = named_entries_read ts e.0 e.1 in
    is_read AreConnections ts r.2 (named_entries e.0.0 ts r.0 (before (AreParted IsNamedEntry) right_parenthesis r.1 all.0)) (omega (arith, all.1, mark_length right_parenthesis e.0.1 r.1)))
    (λ is read.
    let e = bound read in
    let r = bound e.2 in
    let all = entries_read ts e.0 e.1 in
    is_read AreConnections ts r.2 (entries e.0.0 ts r.0 (before (AreParted IsEntry) right_parenthesis r.1 all.0)) (omega (arith, all.1, mark_length right_parenthesis e.0.1 r.1)))

pub instance_read : Reads instance_at IsInstance
unfolding instance_at
instance_read ts y h =
    let n = bound h in
    let i = bound n.2 in
    let c = bound i.2 in
    let name = name_read ts n.0 n.1 in
    let all = connections_read i.0 c.0 c.1 in
    is_read IsInstance ts c.2 (instance_of n.0.0 c.0.0 ts n.0.1 i.0 c.0.1 name.0 (mark_spelled left_parenthesis i.1) all.0) (omega (arith, name.1, all.1, mark_length left_parenthesis n.0.1 i.1))
  where
    instance_of : (n : Name) (c : Connections) (ts more inside rest : List Token) → IsName n ts more → more ≡ mark left_parenthesis ∷ inside → AreConnections c inside rest → IsInstance (n, c) ts rest
    instance_of _ c _ _ inside rest (a_name n more named) same d = subst (λ us. IsInstance (n, c) (word n ∷ us) rest) (sym same) (an_instance n c inside rest named d)

pub instances_read : Reads instances_at (AreParted IsInstance)
unfolding instances_at
instances_read = parted_read IsInstance (after_mark comma) instance_at instance_read comma_passed

pub overrides_read : Reads overrides_at AreOverrides
unfolding overrides_at
overrides_read ts y h =
    either_way h
    (λ w.
    let i = bound w.2 in
    let all = connections_read i.0 y i.2 in (
      from_mark AreOverrides hash w.1 (from_mark (λ c us. AreOverrides c (mark hash ∷ us)) left_parenthesis i.1 (overrides y.0 i.0 y.1 all.0)),
      omega (arith, all.1, mark_length hash ts w.1, mark_length left_parenthesis w.0 i.1),
    ))
    (λ w. is_read AreOverrides ts w.1 (no_overrides ts) (omega arith))

-- ---- events

-- an edge is spelled by its word, if it has one
abbrev pub IsEdge : Spelling EdgeKind
IsEdge k text rest = text ≡ edge_words k rest

pub edge_read : Reads edge_at IsEdge
unfolding edge_at
edge_read ts y h =
    either_way h
    (λ w. is_read IsEdge ts w.2 (word_spelled (codes "posedge") w.1) (omega (arith, word_length (codes "posedge") ts w.1)))
    (λ not_posedge. either_way not_posedge.1
    (λ w. is_read IsEdge ts w.2 (word_spelled (codes "negedge") w.1) (omega (arith, word_length (codes "negedge") ts w.1)))
    (λ w. is_read IsEdge ts w.1 refl (omega arith)))

pub event_read : Reads event_at IsEvent
unfolding event_at
event_read ts y h =
    let k = bound h in
    let n = bound k.2 in
    let edge = edge_read ts k.0 k.1 in
    let name = name_read k.0.1 n.0 n.1 in
    is_read IsEvent ts n.2 (event_of k.0.0 n.0.0 ts k.0.1 n.0.1 edge.0 name.0) (omega (arith, edge.1, name.1))
  where
    event_of : (k : EdgeKind) (n : Name) (ts more rest : List Token) → ts ≡ edge_words k more → IsName n more rest → IsEvent (record { edge = k; signal = n }) ts rest
    event_of k _ ts _ _ same (a_name n rest named) = subst (λ us. IsEvent (record { edge = k; signal = n }) us rest) (sym same) (an_event k n rest named)

pub next_event_advances : (ts more : List Token) → next_event ts ≡ Some more → length more < length ts
unfolding next_event
next_event_advances ts more h =
    either_way h
    (λ w.
    let same : w.0 ≡ more = some_is w.0 more w.2 in
    let taken : length ts ≡ suc (length more) = word_length (codes "or") ts w.1 ∙ ap (λ (us : List Token). suc (length us)) same in
    omega (arith, taken))
    (λ w. omega (arith, mark_length comma ts w.1))

-- an event before others
next_event_read : (e : Event) (es : List Event) (text ts more rest : List Token) → IsEvent e text ts → next_event ts ≡ Some more → AreEvents es more rest → AreEvents (e ∷ es) text rest
unfolding next_event
next_event_read e es text ts more rest d h ds =
    either_way h
    (λ w.
    let same : ts ≡ word (codes "or") ∷ more = word_spelled (codes "or") w.1 ∙ ap (λ (us : List Token). word (codes "or") ∷ us) (some_is w.0 more w.2) in
    or_event e es text more rest (subst (IsEvent e text) same d) ds)
    (λ w. comma_event e es text more rest (subst (IsEvent e text) (mark_spelled comma w.1) d) ds)

events_by : (es : List Event) (e : Event) (text ts end rest : List Token) → IsEvent e text ts → Chain (past next_event) (next_part next_event event_at) es ts end
    → end ≡ mark right_parenthesis ∷ rest → AreEvents (e ∷ es) text rest × (length end ≤ length ts)
unfolding next_part
events_by [] e text ts end rest d c closes =
    let same = past_is next_event ts end c in
    (last_event e text rest (subst (IsEvent e text) (same.1 ∙ closes) d), omega (arith, ap (λ (us : List Token). length us) same.1))
events_by (f ∷ es) e text ts end rest d c closes =
    let w = bound c.2 in
    let part = event_read w.0 (f, c.0) w.2 in
    let others = events_by es f w.0 c.0 end rest part.0 c.3 closes in
    let shorter : length w.0 < length ts = next_event_advances ts w.0 w.1 in
    (next_event_read e (f ∷ es) text ts w.0 rest d w.1 others.0, omega (arith, others.1, part.1, shorter))

pub events_read : Reads events_at (λ es us. IsControl es (mark left_parenthesis ∷ us))
unfolding events_at event_list_at
events_read ts y h =
    let e = bound h in
    let r = bound e.2 in
    let p = parts_of next_event event_at ts e.0 e.1 in
    let first = event_read ts (p.first, p.more) p.first_read in
    let all = events_by p.others p.first ts p.more e.0.1 r.0 first.0 p.others_read (mark_spelled right_parenthesis r.1) in
    is_read (λ es us. IsControl es (mark left_parenthesis ∷ us)) ts r.2
    (by_events e.0.0 ts r.0 (subst (λ es. AreEvents es ts r.0) p.are all.0)) (omega (arith, first.1, all.1, mark_length right_parenthesis e.0.1 r.1))

in_parentheses_read : Reads in_parentheses_at (λ es us. IsControl es (mark left_parenthesis ∷ us))
unfolding in_parentheses_at star_at
in_parentheses_read ts y h =
    either_way h
    (λ w.
    let r = bound w.2 in
    is_read (λ es us. IsControl es (mark left_parenthesis ∷ us)) ts r.2
    (from_mark (λ es us. IsControl es (mark left_parenthesis ∷ us)) star w.1 (from_mark (λ es us. IsControl es (mark left_parenthesis ∷ mark star ∷ us)) right_parenthesis r.1 (by_star_in_parentheses r.0)))
    (omega (arith, mark_length star ts w.1, mark_length right_parenthesis w.0 r.1)))
    (λ w. events_read ts y w.1)

pub control_read : Reads control_at IsControl
unfolding control_at
control_read ts y h =
    either_way h
    (λ w. is_read IsControl ts w.2 (from_mark IsControl star w.1 (by_star w.0)) (omega (arith, mark_length star ts w.1)))
    (λ w.
    let i = bound w.1 in
    let all = in_parentheses_read i.0 y i.2 in
    (from_mark IsControl left_parenthesis i.1 all.0, omega (arith, all.1, mark_length left_parenthesis ts i.1)))
