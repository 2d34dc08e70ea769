-- How what is spelled begins.
use Rattle.std.proofs.Common.{◌≡◌, ℕ, suc, Bool, true, false, List, ◌∷◌, Option, Some, None, refl, sym, ap, ◌∙◌}
use Rattle.std.specs.Prelude.{codes}
use Rattle.std.specs.Str.{bytes_eq}
use Rattle.std.proofs.lemmas.Bool.{eqb-true}
use Rattle.wb_values.specs.Value.{Name}
use Rattle.wb_values.specs.ReservedWords.{is_reserved}
use Rattle.verilog_text.specs.Token.{Mark, left_parenthesis, right_parenthesis, left_brace, comma, semicolon, question, hash, Token, word, system, mark}
use Rattle.verilog_trees.specs.Syntax.{Expression, Number, Event, Direction, input, output, EdgeKind, posedge, negedge, any_edge, Ports, Range, Connections}
use Rattle.verilog_text.specs.Spelling.{prefix_of, IsIdentifier, IsNumber, plain, unsized, of_size, IsExpression, tighter, chosen, joined, prefixed, a_number, a_name, bracketed, concatenated, replicated, made_signed, made_unsigned}
use Rattle.verilog_text.specs.Grammar as grammar
use Rattle.verilog_text.specs.Grammar.{IsPerhaps, left_out, given, IsFlag, absent, present, IsName, IsSetting, set_to, IsWire, net, IsVariable, variable, IsInstance, an_instance, IsEvent, an_event, AreEvents, last_event, or_event, comma_event, direction_word, ArePorts, none_listed, empty_list, names_listed, ports_declared, edge_words}
use Rattle.v_expr.specs.Ending.{place, is_same_mark}
use Rattle.v_expr.specs.Reading.{after_mark}
use Rattle.v_expr.proofs.Repeat.{some}
use Rattle.v_expr.proofs.Places.{same_place, mark_again, other_mark}
use Rattle.v_body.specs.Words.{after_word}
use Rattle.v_body.proofs.Words.{name_again, no_word_at_mark, no_mark_at_word}
use Rattle.v_parse.specs.Lists.{at_name, before_name}
use Rattle.v_parse.proofs.Words.{other_word, no_name}
use Rattle.v_parse.proofs.Lists.{Spelling}

-- ---- words of the grammar

pub wire_reserved : is_reserved (codes "wire") ≡ true
unfolding is_reserved
wire_reserved = refl

pub reg_reserved : is_reserved (codes "reg") ≡ true
unfolding is_reserved
reg_reserved = refl

pub signed_reserved : is_reserved (codes "signed") ≡ true
unfolding is_reserved
signed_reserved = refl

pub input_reserved : is_reserved (codes "input") ≡ true
unfolding is_reserved
input_reserved = refl

pub output_reserved : is_reserved (codes "output") ≡ true
unfolding is_reserved
output_reserved = refl

pub parameter_reserved : is_reserved (codes "parameter") ≡ true
unfolding is_reserved
parameter_reserved = refl

pub localparam_reserved : is_reserved (codes "localparam") ≡ true
unfolding is_reserved
localparam_reserved = refl

pub assign_reserved : is_reserved (codes "assign") ≡ true
unfolding is_reserved
assign_reserved = refl

pub always_reserved : is_reserved (codes "always") ≡ true
unfolding is_reserved
always_reserved = refl

pub posedge_reserved : is_reserved (codes "posedge") ≡ true
unfolding is_reserved
posedge_reserved = refl

pub negedge_reserved : is_reserved (codes "negedge") ≡ true
unfolding is_reserved
negedge_reserved = refl

pub endmodule_reserved : is_reserved (codes "endmodule") ≡ true
unfolding is_reserved
endmodule_reserved = refl

-- ---- names in front

-- An identifier stands in front.
pub data BeginsWithName : List Token → Type 0 where
  named_front : (n : Name) (rest : List Token) → IsIdentifier n → BeginsWithName (word n ∷ rest)

pub name_begins : (n : Name) (text rest : List Token) → IsName n text rest → BeginsWithName text
name_begins _ _ _ (grammar.a_name n rest named) = named_front n rest named

pub setting_begins : (x : Name × Expression) (text rest : List Token) → IsSetting x text rest → BeginsWithName text
setting_begins _ _ _ (set_to n e text rest named d) = named_front n _ named

pub wire_begins : (x : Name × Option Expression) (text rest : List Token) → IsWire x text rest → BeginsWithName text
wire_begins _ _ _ (net n e text rest named d) = named_front n text named

pub variable_begins : (x : Name × Option Range) (text rest : List Token) → IsVariable x text rest → BeginsWithName text
variable_begins _ _ _ (variable n r text rest named d) = named_front n text named

pub instance_begins : (x : Name × Connections) (text rest : List Token) → IsInstance x text rest → BeginsWithName text
instance_begins _ _ _ (an_instance n c text rest named d) = named_front n _ named

pub begins_no_word : (w : Name) → is_reserved w ≡ true → (text : List Token) → BeginsWithName text → after_word w text ≡ None
begins_no_word w reserved _ (named_front n rest named) = other_word w n rest named reserved

pub begins_no_mark : (m : Mark) (text : List Token) → BeginsWithName text → after_mark m text ≡ None
begins_no_mark m _ (named_front n rest named) = no_mark_at_word m n rest

-- a list goes on in front of a name
pub before_name_again : (text : List Token) → BeginsWithName text → before_name (mark comma ∷ text) ≡ Some text
unfolding before_name at_name
before_name_again _ (named_front n rest named) = rw (mark_again comma (word n ∷ rest), name_again n rest named) refl

-- it does not in front of a word of the grammar
pub before_word : (w : Name) (rest : List Token) → is_reserved w ≡ true → before_name (mark comma ∷ word w ∷ rest) ≡ None
unfolding before_name at_name
before_word w rest reserved = rw (mark_again comma (word w ∷ rest), no_name w rest reserved) refl

pub before_mark : (m : Mark) (rest : List Token) → is_same_mark m comma ≡ false → before_name (mark m ∷ rest) ≡ None
unfolding before_name
before_mark m rest other = rw (other_mark comma m rest other) refl

-- ---- what may be left out

pub flag_no_word : (w v : Name) → bytes_eq w v ≡ false → (b : Bool) (text rest : List Token) → IsFlag w b text rest → after_word v rest ≡ None → after_word v text ≡ None
unfolding after_word
flag_no_word w v other _ _ _ (absent rest) ends = ends
flag_no_word w v other _ _ _ (present rest) ends = rw other refl

pub perhaps_no_word : {A : Type 0} (m : Mark) (Is : Spelling A) (v : Name) (o : Option A) (text rest : List Token) → IsPerhaps (mark m) Is o text rest → after_word v rest ≡ None → after_word v text ≡ None
perhaps_no_word m Is v _ _ _ (left_out rest) ends = ends
perhaps_no_word m Is v _ _ _ (given x text rest d) ends = no_word_at_mark v m text

-- ---- expressions

prefix_differs : (f m : Mark) (g : Expression → Expression) → prefix_of f ≡ Some g → prefix_of m ≡ None → (b : Bool) → is_same_mark f m ≡ b → b ≡ false
prefix_differs f m g is not false e = refl
prefix_differs f m g is not true e =
    let same : f ≡ m = same_place f m (eqb-true (place f) (place m) e) in
    let clash : some g ≡ None = sym is ∙ ap prefix_of same ∙ not in
    absurd cc

number_no_mark : (m : Mark) (n : Number) (text rest : List Token) → IsNumber n text rest → after_mark m text ≡ None
unfolding after_mark
number_no_mark m _ _ _ (plain text rest) = refl
number_no_mark m _ _ _ (unsized text rest) = refl
number_no_mark m _ _ _ (of_size size text rest) = refl

system_no_mark : (m : Mark) (n : Name) (rest : List Token) → after_mark m (system n ∷ rest) ≡ None
unfolding after_mark
system_no_mark m n rest = refl

-- an expression begins with no mark but an operator in front, a parenthesis or a brace
pub expression_no_mark : (m : Mark) → prefix_of m ≡ None → is_same_mark left_parenthesis m ≡ false → is_same_mark left_brace m ≡ false
    → (k : ℕ) (e : Expression) (text rest : List Token) → IsExpression k e text rest → after_mark m text ≡ None
expression_no_mark m p q r _ _ _ _ (tighter k e text rest d) = expression_no_mark m p q r (suc k) e text rest d
expression_no_mark m p q r _ _ _ _ (chosen c x y text value other rest dc dx dy) = expression_no_mark m p q r 1 c text (mark question ∷ value) dc
expression_no_mark m p q r _ _ _ _ (joined f o a b text more rest known da db) = expression_no_mark m p q r o.level a text (mark f ∷ more) da
expression_no_mark m p q r _ _ _ _ (prefixed f g a text rest known d) = other_mark m f text (prefix_differs f m g known p (is_same_mark f m) refl)
expression_no_mark m p q r _ _ _ _ (a_number n text rest d) = number_no_mark m n text rest d
expression_no_mark m p q r _ _ _ _ (a_name n s text rest named d) = no_mark_at_word m n text
expression_no_mark m p q r _ _ _ _ (bracketed e text rest d) = other_mark m left_parenthesis text q
expression_no_mark m p q r _ _ _ _ (concatenated es text rest d) = other_mark m left_brace text r
expression_no_mark m p q r _ _ _ _ (replicated n es text parts rest dn d) = other_mark m left_brace text r
expression_no_mark m p q r _ _ _ _ (made_signed e text rest d) = system_no_mark m _ _
expression_no_mark m p q r _ _ _ _ (made_unsigned e text rest d) = system_no_mark m _ _

-- ---- events, directions, ports

edge_no_mark : (m : Mark) (k : EdgeKind) (n : Name) (rest : List Token) → after_mark m (edge_words k (word n ∷ rest)) ≡ None
edge_no_mark m posedge n rest = no_mark_at_word m (codes "posedge") (word n ∷ rest)
edge_no_mark m negedge n rest = no_mark_at_word m (codes "negedge") (word n ∷ rest)
edge_no_mark m any_edge n rest = no_mark_at_word m n rest

event_no_mark : (m : Mark) (e : Event) (text rest : List Token) → IsEvent e text rest → after_mark m text ≡ None
event_no_mark m _ _ _ (an_event k n rest named) = edge_no_mark m k n rest

pub events_no_mark : (m : Mark) (es : List Event) (text rest : List Token) → AreEvents es text rest → after_mark m text ≡ None
events_no_mark m _ _ _ (last_event e text rest d) = event_no_mark m e text (mark right_parenthesis ∷ rest) d
events_no_mark m _ _ _ (or_event e es text more rest d ds) = event_no_mark m e text (word (codes "or") ∷ more) d
events_no_mark m _ _ _ (comma_event e es text more rest d ds) = event_no_mark m e text (mark comma ∷ more) d

pub direction_reserved : (d : Direction) → is_reserved (direction_word d) ≡ true
direction_reserved input = input_reserved
direction_reserved output = output_reserved

-- in front of the semicolon behind ports, or in ports, no # stands
pub ports_no_hash : (p : Ports) (text body : List Token) → ArePorts p text (mark semicolon ∷ body) → after_mark hash text ≡ None
ports_no_hash p text body d = by p text (mark semicolon ∷ body) d (other_mark hash semicolon body refl)
  where
    by : (p : Ports) (text rest : List Token) → ArePorts p text rest → after_mark hash rest ≡ None → after_mark hash text ≡ None
    by _ _ _ (none_listed rest) ends = ends
    by _ _ _ (empty_list rest) ends = other_mark hash left_parenthesis _ refl
    by _ _ _ (names_listed ns text rest d) ends = other_mark hash left_parenthesis text refl
    by _ _ _ (ports_declared ps text rest d) ends = other_mark hash left_parenthesis text refl
