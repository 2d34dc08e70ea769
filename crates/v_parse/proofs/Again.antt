-- Declarations, instances and events: what is spelled so, in front of what does not go on with it, is read.
use Rattle.std.proofs.Common.{◌≡◌, Bool, true, false, List, ◌∷◌, Option, Some, None, refl}
use Rattle.std.specs.Prelude.{codes}
use Rattle.wb_values.specs.Value.{Name}
use Rattle.verilog_text.specs.Token.{left_parenthesis, right_parenthesis, left_bracket, right_bracket, comma, semicolon, colon, dot, hash, equals, star, Token, word, mark}
use Rattle.verilog_trees.specs.Syntax as tree
use Rattle.verilog_trees.specs.Syntax.{Expression, Target, EdgeKind, posedge, negedge, any_edge, Event, Events, Range, Direction, NetKind, PortDeclaration, Connections}
use Rattle.verilog_text.specs.Spelling.{IsIdentifier}
use Rattle.verilog_text.specs.Grammar.{AreParted, last_part, and_parts, IsFlag, IsName, a_name, IsWhole, IsRange, bounds, IsPerhapsRange, IsAssignment, direction_word, IsNetKind, no_kind, a_wire, a_variable, IsPort, a_port, IsSetting, set_to, parameter_word, IsWire, net, IsVariable, variable, IsEntry, empty_entry, an_entry, IsNamedEntry, under_name, AreConnections, named_entries, entries, IsInstance, an_instance, AreOverrides, no_overrides, overrides, edge_words, IsEvent, an_event, AreEvents, last_event, or_event, comma_event, IsControl, by_star, by_star_in_parentheses, by_events}
use Rattle.v_expr.specs.Reading.{after_mark}
use Rattle.v_expr.specs.Ending.{Ends}
use Rattle.v_expr.specs.Whole.{whole_at}
use Rattle.v_expr.proofs.Places.{mark_again, other_mark}
use Rattle.v_expr.proofs.Whole.{whole_again}
use Rattle.v_body.specs.Words.{after_word, name_at}
use Rattle.v_body.specs.Targets.{assignment_at}
use Rattle.v_body.proofs.Words.{word_again, name_again, no_word_at_mark}
use Rattle.v_body.proofs.TargetsAgain.{assignment_again}
use Rattle.v_parse.specs.Lists.{ReaderOf, flag_at, before_name, parted_at}
use Rattle.v_parse.specs.Reading.{range_at, perhaps_range_at, direction_at, net_kind_at, names_at, declared_port_at, port_at, setting_at, settings_at, parameter_word_at, declared_parameter_at, perhaps_value_at, wire_at, wires_at, variable_at, variables_at, some_entry_at, entry_at, named_entry_at, entries_at, named_entries_at, by_order_at, by_name_at, connections_at, instance_at, instances_at, overrides_at, edge_at, event_at, next_event, event_list_at, events_at, star_at, in_parentheses_at, control_at, assignments_at}
use Rattle.v_parse.proofs.Words.{other_word}
use Rattle.v_parse.proofs.Lists.{Spelling, Keeps, keeps, flag_again, perhaps_again, AreRead, last_read, one_read, parts_again, parted_again, first_part, name_read}
use Rattle.v_parse.proofs.Spelled.{comma_advances, before_name_advances, next_event_advances, setting_read, wire_read, variable_read, assignment_read, entry_read, named_entry_read, instance_read, event_read}
use Rattle.v_parse.proofs.Begins.{wire_reserved, reg_reserved, signed_reserved, posedge_reserved, negedge_reserved, BeginsWithName, name_begins, setting_begins, begins_no_word, begins_no_mark, before_name_again, flag_no_word, perhaps_no_word, expression_no_mark, events_no_mark}

-- ---- lists with commas

pub commas_again : {A : Type 0} (Is : Spelling A) (one : ReaderOf A) (Fits : List Token → Type 0) → Keeps one
    → ((x : A) (text rest : List Token) → Is x text rest → Fits rest → one text ≡ Some (x, rest))
    → ((x : A) (text rest : List Token) → Is x text rest → Fits (mark comma ∷ text))
    → (xs : List A) (text rest : List Token) → AreParted Is xs text rest → Fits rest → after_mark comma rest ≡ None → parted_at (after_mark comma) one text ≡ Some (xs, rest)
commas_again Is one Fits keeping again fits xs text rest d fit ends =
    parts_again (after_mark comma) one comma_advances keeping xs text rest
    (parted_again Is (after_mark comma) one Fits again (λ x us vs p. (fits x us vs p, mark_again comma us)) xs text rest d fit ends)

-- lists of what begins with a name, in which a comma goes on only in front of a name
names_part : {A : Type 0} (Is : Spelling A) (one : ReaderOf A) (Fits : List Token → Type 0) → Keeps one
    → ((x : A) (text rest : List Token) → Is x text rest → Fits rest → one text ≡ Some (x, rest))
    → ((text : List Token) → Fits (mark comma ∷ text)) → ((x : A) (text rest : List Token) → Is x text rest → BeginsWithName text)
    → (xs : List A) (text rest : List Token) → AreParted Is xs text rest → Fits rest → before_name rest ≡ None → parted_at before_name one text ≡ Some (xs, rest)
names_part Is one Fits keeping again fits begins xs text rest d fit ends =
    parts_again before_name one before_name_advances keeping xs text rest
    (parted_again Is before_name one Fits again (λ x us vs p. (fits us, before_name_again us (begins x us vs p))) xs text rest d fit ends)

-- ---- declarations

range_again : (r : Range) (text rest : List Token) → IsRange r text rest → range_at text ≡ Some (r, rest)
unfolding range_at
range_again _ _ _ (bounds l r text more rest dl dr) =
    rw (whole_again l text (mark colon ∷ more) dl (tt, refl, λ _. refl), mark_again colon more, whole_again r more (mark right_bracket ∷ rest) dr (tt, refl, λ _. refl), mark_again right_bracket rest) refl

pub perhaps_range_again : (r : Option Range) (text rest : List Token) → IsPerhapsRange r text rest → after_mark left_bracket rest ≡ None → perhaps_range_at text ≡ Some (r, rest)
unfolding perhaps_range_at
perhaps_range_again r text rest d ends = perhaps_again left_bracket IsRange range_at (λ _. Unit {0}) (λ x t u p _. range_again x t u p) r text rest d ends tt

pub direction_again : (d : Direction) (rest : List Token) → direction_at (word (direction_word d) ∷ rest) ≡ Some (d, rest)
unfolding direction_at after_word
direction_again tree.input rest = refl
direction_again tree.output rest = refl

net_kind_again : (k : Option NetKind) (text rest : List Token) → IsNetKind k text rest → after_word (codes "wire") rest ≡ None → after_word (codes "reg") rest ≡ None → net_kind_at text ≡ Some (k, rest)
unfolding net_kind_at after_word
net_kind_again _ _ _ (no_kind rest) no_wire no_reg = rw (no_wire, no_reg) refl
net_kind_again _ _ _ (a_wire rest) no_wire no_reg = refl
net_kind_again _ _ _ (a_variable rest) no_wire no_reg = refl

pub names_again : (ns : List Name) (text rest : List Token) → AreParted IsName ns text rest → before_name rest ≡ None → names_at text ≡ Some (ns, rest)
unfolding names_at
names_again ns text rest d ends = names_part IsName name_at (λ _. Unit {0}) (keeps IsName name_read) one (λ _. tt) name_begins ns text rest d tt ends
  where
    one : (n : Name) (text rest : List Token) → IsName n text rest → Unit {0} → name_at text ≡ Some (n, rest)
    one _ _ _ (a_name n rest named) _ = name_again n rest named

-- signed, in front of a range or a name
pub signed_again : (s : Bool) (r : Option Range) (sign range names : List Token) → IsFlag (codes "signed") s sign range → IsPerhapsRange r range names → BeginsWithName names
    → flag_at (codes "signed") sign ≡ Some (s, range)
signed_again s r sign range names d dr begins =
    flag_again (codes "signed") s sign range d (perhaps_no_word left_bracket IsRange (codes "signed") r range names dr (begins_no_word (codes "signed") signed_reserved names begins))

-- a range, in front of a name
pub range_before_name : (r : Option Range) (range names : List Token) → IsPerhapsRange r range names → BeginsWithName names → perhaps_range_at range ≡ Some (r, names)
range_before_name r range names d begins = perhaps_range_again r range names d (begins_no_mark left_bracket names begins)

pub declared_port_again : (d : Direction) (k : Option NetKind) (s : Bool) (r : Option Range) (ns : List Name) (kind sign range names rest : List Token)
    → IsNetKind k kind sign → IsFlag (codes "signed") s sign range → IsPerhapsRange r range names → AreParted IsName ns names rest → before_name rest ≡ None
    → declared_port_at d kind ≡ Some (record { direction = d; kind = k; signed = s; range = r; names = ns }, rest)
unfolding declared_port_at
declared_port_again d k s r ns kind sign range names rest dk ds dr dn ends =
    let begins = first_part IsName BeginsWithName name_begins ns names rest dn in
    let no_wire = flag_no_word (codes "signed") (codes "wire") refl s sign range ds (perhaps_no_word left_bracket IsRange (codes "wire") r range names dr (begins_no_word (codes "wire") wire_reserved names begins)) in
    let no_reg = flag_no_word (codes "signed") (codes "reg") refl s sign range ds (perhaps_no_word left_bracket IsRange (codes "reg") r range names dr (begins_no_word (codes "reg") reg_reserved names begins)) in
    rw (net_kind_again k kind sign dk no_wire no_reg, signed_again s r sign range names ds dr begins, range_before_name r range names dr begins, names_again ns names rest dn ends) refl

pub port_again : (p : PortDeclaration) (text rest : List Token) → IsPort p text rest → before_name rest ≡ None → port_at text ≡ Some (p, rest)
unfolding port_at
port_again _ _ _ (a_port d k s r ns kind sign range names rest dk ds dr dn) ends =
    rw (direction_again d kind, declared_port_again d k s r ns kind sign range names rest dk ds dr dn ends) refl

setting_again : (x : Name × Expression) (text rest : List Token) → IsSetting x text rest → Ends 0 rest → setting_at text ≡ Some (x, rest)
unfolding setting_at
setting_again _ _ _ (set_to n e text rest named d) ends = rw (name_again n (mark equals ∷ text) named, mark_again equals text, whole_again e text rest d ends) refl

settings_again : (vs : List (Name × Expression)) (text rest : List Token) → AreParted IsSetting vs text rest → Ends 0 rest → before_name rest ≡ None → settings_at text ≡ Some (vs, rest)
unfolding settings_at
settings_again vs text rest d fits ends = names_part IsSetting setting_at (Ends 0) (keeps IsSetting setting_read) setting_again (λ _. (tt, refl, λ _. refl)) setting_begins vs text rest d fits ends

pub parameter_word_again : (l : Bool) (rest : List Token) → parameter_word_at (word (parameter_word l) ∷ rest) ≡ Some (l, rest)
unfolding parameter_word_at after_word
parameter_word_again true rest = refl
parameter_word_again false rest = refl

pub declared_parameter_again : (l s : Bool) (r : Option Range) (vs : List (Name × Expression)) (sign range values rest : List Token)
    → IsFlag (codes "signed") s sign range → IsPerhapsRange r range values → AreParted IsSetting vs values rest → Ends 0 rest → before_name rest ≡ None
    → declared_parameter_at l sign ≡ Some (record { is_local = l; signed = s; range = r; values = vs }, rest)
unfolding declared_parameter_at
declared_parameter_again l s r vs sign range values rest ds dr dv fits ends =
    let begins = first_part IsSetting BeginsWithName setting_begins vs values rest dv in
    rw (signed_again s r sign range values ds dr begins, range_before_name r range values dr begins, settings_again vs values rest dv fits ends) refl

-- what may follow a net
abbrev EndsWire : List Token → Type 0
EndsWire rest = (after_mark equals rest ≡ None) × Ends 0 rest

wire_again : (x : Name × Option Expression) (text rest : List Token) → IsWire x text rest → EndsWire rest → wire_at text ≡ Some (x, rest)
unfolding wire_at perhaps_value_at
wire_again _ _ _ (net n e text rest named d) ends =
    rw (name_again n text named, perhaps_again equals IsWhole whole_at (Ends 0) whole_again e text rest d ends.0 ends.1) refl

pub wires_again : (ws : List (Name × Option Expression)) (text rest : List Token) → AreParted IsWire ws text (mark semicolon ∷ rest) → wires_at text ≡ Some (ws, mark semicolon ∷ rest)
unfolding wires_at
wires_again ws text rest d =
    commas_again IsWire wire_at EndsWire (keeps IsWire wire_read) wire_again (λ x us vs p. (other_mark equals comma us refl, (tt, refl, λ _. refl))) ws text (mark semicolon ∷ rest) d
    (other_mark equals semicolon rest refl, (tt, refl, λ _. refl)) (other_mark comma semicolon rest refl)

variable_again : (x : Name × Option Range) (text rest : List Token) → IsVariable x text rest → after_mark left_bracket rest ≡ None → variable_at text ≡ Some (x, rest)
unfolding variable_at
variable_again _ _ _ (variable n r text rest named d) ends = rw (name_again n text named, perhaps_range_again r text rest d ends) refl

pub variables_again : (vs : List (Name × Option Range)) (text rest : List Token) → AreParted IsVariable vs text (mark semicolon ∷ rest) → variables_at text ≡ Some (vs, mark semicolon ∷ rest)
unfolding variables_at
variables_again vs text rest d =
    commas_again IsVariable variable_at (λ us. after_mark left_bracket us ≡ None) (keeps IsVariable variable_read) variable_again (λ x us ws p. other_mark left_bracket comma us refl) vs text (mark semicolon ∷ rest) d
    (other_mark left_bracket semicolon rest refl) (other_mark comma semicolon rest refl)

pub assignments_again : (xs : List (Target × Expression)) (text rest : List Token) → AreParted (IsAssignment equals) xs text (mark semicolon ∷ rest) → assignments_at text ≡ Some (xs, mark semicolon ∷ rest)
unfolding assignments_at
assignments_again xs text rest d =
    commas_again (IsAssignment equals) (assignment_at equals) (Ends 0) (keeps (IsAssignment equals) assignment_read) (assignment_again 0 equals (tt, refl, λ _. refl)) (λ x us vs p. (tt, refl, λ _. refl)) xs text (mark semicolon ∷ rest) d
    (tt, refl, λ _. refl) (other_mark comma semicolon rest refl)

-- ---- instances

-- what may follow an entry
data EndsEntry : List Token → Type 0 where
  by_comma : (rest : List Token) → EndsEntry (mark comma ∷ rest)
  by_parenthesis : (rest : List Token) → EndsEntry (mark right_parenthesis ∷ rest)

entry_ends : (rest : List Token) → EndsEntry rest → Ends 0 rest
entry_ends _ (by_comma rest) = (tt, refl, λ _. refl)
entry_ends _ (by_parenthesis rest) = (tt, refl, λ _. refl)

no_entry : (rest : List Token) → EndsEntry rest → entry_at rest ≡ Some (None, rest)
unfolding entry_at
no_entry _ (by_comma rest) = rw (mark_again comma rest) refl
no_entry _ (by_parenthesis rest) = rw (other_mark comma right_parenthesis rest refl, mark_again right_parenthesis rest) refl

entry_again : (e : Option Expression) (text rest : List Token) → IsEntry e text rest → EndsEntry rest → entry_at text ≡ Some (e, rest)
unfolding entry_at some_entry_at
entry_again _ _ _ (empty_entry rest) ends = no_entry rest ends
entry_again _ _ _ (an_entry e text rest d) ends =
    rw (expression_no_mark comma refl refl refl 0 e text rest d, expression_no_mark right_parenthesis refl refl refl 0 e text rest d, whole_again e text rest d (entry_ends rest ends)) refl

entries_again : (es : List (Option Expression)) (text rest : List Token) → AreParted IsEntry es text (mark right_parenthesis ∷ rest) → entries_at text ≡ Some (es, mark right_parenthesis ∷ rest)
unfolding entries_at
entries_again es text rest d =
    commas_again IsEntry entry_at EndsEntry (keeps IsEntry entry_read) entry_again (λ x us vs p. by_comma us) es text (mark right_parenthesis ∷ rest) d (by_parenthesis rest) (other_mark comma right_parenthesis rest refl)

end_no_dot : (rest : List Token) → EndsEntry rest → after_mark dot rest ≡ None
end_no_dot _ (by_comma rest) = other_mark dot comma rest refl
end_no_dot _ (by_parenthesis rest) = other_mark dot right_parenthesis rest refl

entry_no_dot : (e : Option Expression) (text rest : List Token) → IsEntry e text rest → EndsEntry rest → after_mark dot text ≡ None
entry_no_dot _ _ _ (empty_entry rest) ends = end_no_dot rest ends
entry_no_dot _ _ _ (an_entry e text rest d) ends = expression_no_mark dot refl refl refl 0 e text rest d

entries_no_dot : (es : List (Option Expression)) (text rest : List Token) → AreParted IsEntry es text rest → EndsEntry rest → after_mark dot text ≡ None
entries_no_dot _ _ _ (last_part e text rest d) ends = entry_no_dot e text rest d ends
entries_no_dot _ _ _ (and_parts e es text more rest d ds) ends = entry_no_dot e text (mark comma ∷ more) d (by_comma more)

named_entry_again : (x : Name × Option Expression) (text rest : List Token) → IsNamedEntry x text rest → Unit {0} → named_entry_at text ≡ Some (x, rest)
unfolding named_entry_at
named_entry_again _ _ _ (under_name n e text rest named d) _ =
    rw (mark_again dot (word n ∷ mark left_parenthesis ∷ text), name_again n (mark left_parenthesis ∷ text) named, mark_again left_parenthesis text, entry_again e text (mark right_parenthesis ∷ rest) d (by_parenthesis rest), mark_again right_parenthesis rest) refl

named_entries_again : (es : List (Name × Option Expression)) (text rest : List Token) → AreParted IsNamedEntry es text (mark right_parenthesis ∷ rest) → named_entries_at text ≡ Some (es, mark right_parenthesis ∷ rest)
unfolding named_entries_at
named_entries_again es text rest d =
    commas_again IsNamedEntry named_entry_at (λ _. Unit {0}) (keeps IsNamedEntry named_entry_read) named_entry_again (λ x us vs p. tt) es text (mark right_parenthesis ∷ rest) d tt (other_mark comma right_parenthesis rest refl)

abbrev BeginsWithDot : List Token → Type 0
BeginsWithDot text = (more : List Token) × (after_mark dot text ≡ Some more)

named_entry_dot : (x : Name × Option Expression) (text rest : List Token) → IsNamedEntry x text rest → BeginsWithDot text
named_entry_dot _ _ _ (under_name n e text rest named d) = (_, mark_again dot (word n ∷ mark left_parenthesis ∷ text))

connections_again : (c : Connections) (text rest : List Token) → AreConnections c text rest → connections_at text ≡ Some (c, rest)
unfolding connections_at by_name_at by_order_at
connections_again _ _ _ (named_entries es text rest d) =
    let front = first_part IsNamedEntry BeginsWithDot named_entry_dot es text (mark right_parenthesis ∷ rest) d in
    rw (front.1, named_entries_again es text rest d, mark_again right_parenthesis rest) refl
connections_again _ _ _ (entries es text rest d) =
    rw (entries_no_dot es text (mark right_parenthesis ∷ rest) d (by_parenthesis rest), entries_again es text rest d, mark_again right_parenthesis rest) refl

instance_again : (x : Name × Connections) (text rest : List Token) → IsInstance x text rest → Unit {0} → instance_at text ≡ Some (x, rest)
unfolding instance_at
instance_again _ _ _ (an_instance n c text rest named d) _ = rw (name_again n (mark left_parenthesis ∷ text) named, mark_again left_parenthesis text, connections_again c text rest d) refl

pub instances_again : (is : List (Name × Connections)) (text rest : List Token) → AreParted IsInstance is text (mark semicolon ∷ rest) → instances_at text ≡ Some (is, mark semicolon ∷ rest)
unfolding instances_at
instances_again is text rest d =
    commas_again IsInstance instance_at (λ _. Unit {0}) (keeps IsInstance instance_read) instance_again (λ x us vs p. tt) is text (mark semicolon ∷ rest) d tt (other_mark comma semicolon rest refl)

pub overrides_again : (c : Connections) (text rest : List Token) → AreOverrides c text rest → after_mark hash rest ≡ None → overrides_at text ≡ Some (c, rest)
unfolding overrides_at
overrides_again _ _ _ (no_overrides rest) ends = rw ends refl
overrides_again _ _ _ (overrides c text rest d) ends = rw (mark_again hash (mark left_parenthesis ∷ text), mark_again left_parenthesis text, connections_again c text rest d) refl

-- ---- events

no_edge : (n : Name) (rest : List Token) → IsIdentifier n → edge_at (word n ∷ rest) ≡ Some (tree.any_edge, word n ∷ rest)
unfolding edge_at
no_edge n rest named = rw (other_word (codes "posedge") n rest named posedge_reserved, other_word (codes "negedge") n rest named negedge_reserved) refl

edge_again : (k : EdgeKind) (n : Name) (rest : List Token) → IsIdentifier n → edge_at (edge_words k (word n ∷ rest)) ≡ Some (k, word n ∷ rest)
unfolding edge_at after_word
edge_again posedge n rest named = refl
edge_again negedge n rest named = refl
edge_again any_edge n rest named = no_edge n rest named

event_again : (e : Event) (text rest : List Token) → IsEvent e text rest → event_at text ≡ Some (e, rest)
unfolding event_at
event_again _ _ _ (an_event k n rest named) = rw (edge_again k n rest named, name_again n rest named) refl

next_over : (rest : List Token) → next_event (mark right_parenthesis ∷ rest) ≡ None
unfolding next_event
next_over rest = rw (no_word_at_mark (codes "or") right_parenthesis rest, other_mark comma right_parenthesis rest refl) refl

next_or : (more : List Token) → next_event (word (codes "or") ∷ more) ≡ Some more
unfolding next_event
next_or more = rw (word_again (codes "or") more) refl

next_comma : (more : List Token) → next_event (mark comma ∷ more) ≡ Some more
unfolding next_event
next_comma more = rw (no_word_at_mark (codes "or") comma more, mark_again comma more) refl

events_part : (es : List Event) (text rest : List Token) → AreEvents es text rest → AreRead next_event event_at es text (mark right_parenthesis ∷ rest)
events_part _ _ _ (last_event e text rest d) = last_read next_event event_at e text (mark right_parenthesis ∷ rest) (event_again e text (mark right_parenthesis ∷ rest) d) (next_over rest)
events_part _ _ _ (or_event e es text more rest d ds) =
    one_read next_event event_at e es text (word (codes "or") ∷ more) more (mark right_parenthesis ∷ rest) (event_again e text (word (codes "or") ∷ more) d) (next_or more) (events_part es more rest ds)
events_part _ _ _ (comma_event e es text more rest d ds) =
    one_read next_event event_at e es text (mark comma ∷ more) more (mark right_parenthesis ∷ rest) (event_again e text (mark comma ∷ more) d) (next_comma more) (events_part es more rest ds)

events_again : (es : List Event) (text rest : List Token) → AreEvents es text rest → events_at text ≡ Some (tree.on_events es, rest)
unfolding events_at event_list_at
events_again es text rest d =
    let all = parts_again next_event event_at next_event_advances (keeps IsEvent event_read) es text (mark right_parenthesis ∷ rest) (events_part es text rest d) in
    rw (all, mark_again right_parenthesis rest) refl

pub control_again : (es : Events) (text rest : List Token) → IsControl es text rest → control_at text ≡ Some (es, rest)
unfolding control_at in_parentheses_at star_at
control_again _ _ _ (by_star rest) = rw (mark_again star rest) refl
control_again _ _ _ (by_star_in_parentheses rest) =
    rw (other_mark star left_parenthesis (mark star ∷ mark right_parenthesis ∷ rest) refl, mark_again left_parenthesis (mark star ∷ mark right_parenthesis ∷ rest), mark_again star (mark right_parenthesis ∷ rest), mark_again right_parenthesis rest) refl
control_again _ _ _ (by_events es text rest d) =
    rw (other_mark star left_parenthesis text refl, mark_again left_parenthesis text, events_no_mark star es text rest d, events_again es text rest d) refl
