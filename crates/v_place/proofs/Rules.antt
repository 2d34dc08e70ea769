-- The rules of the table, one by one, and what may be left out.
use Rattle.std.proofs.Common.{◌≡◌, ℕ, zero, suc, ◌+◌, ◌≤◌, Bool, true, false, List, [], ◌∷◌, Option, Some, None, refl, sym, ap, ◌∙◌, subst, arith}
use Rattle.std.specs.Prelude.{codes}
use Rattle.verilog_text.specs.Token.{Mark, left_parenthesis, right_parenthesis, left_bracket, right_bracket, left_brace, right_brace, comma, semicolon, colon, dot, hash, at, equals, star, less_equals, Token, word, decimal, based, mark}
use Rattle.verilog_trees.specs.Syntax as tree
use Rattle.verilog_trees.specs.Syntax.{Expression, no_expressions, expression, no_targets, PortDeclaration, ParameterDeclaration, exact_case, wild_case, posedge, negedge, any_edge, Event}
use Rattle.verilog_text.specs.Spelling as spelled
use Rattle.verilog_text.specs.Spelling.{based_number, plain_number, decimal_value, tighter}
use Rattle.verilog_text.specs.Grammar as grammar
use Rattle.verilog_text.specs.Grammar.{IsName, IsSetting, IsWire, IsVariable, IsAssignment, IsEntry, IsNamedEntry, IsInstance, and_parts, last_part, IsWhole}
use Rattle.v_place.specs.Table.{Symbol, token, whole, operand, operand_rest, digits, selects, second_select, limit, braces_rest, more_parts, target, more_targets, statement, assignment_rest, else_part, block_name, statements, first_item, case_items, last_items, more_values, more_last_values, perhaps_colon, net_kind, sign, range, perhaps_value, more_names, more_settings, more_nets, more_variables, more_assignments, overrides, connections, entry, more_named, more_entries, more_instances, control, first_event, event, more_events, items, header_parameters, more_parameters, next_parameter, header_ports, first_port, more_listed, more_ports, next_port, modules, rules, leads, is_optional, Terminal, a_name, a_decimal, a_based, a_conversion, a_prefix, an_operator, the_word, the_mark}
use Rattle.v_place.proofs.Terminals.{IsToken, Before}
use Rattle.v_place.proofs.Meaning.{no_item, some_items, no_parameter, another_parameter, no_port, another_port, Means, At, Spells}
use Rattle.v_place.proofs.Sound.{at_one, with_operand, converted, more_comma, more_end, with_else, default_item, values_item, rest_of, value_more, value_last, header_parameter, header_port, setting_more, setting_last, name_more, name_last, item_more, IsSound, AreSound, IsLeadSound}

token_sound : (x : Terminal) → IsSound (token x) (x, [])
token_sound a_name = λ rest n free. (n, free, refl)
token_sound a_decimal = λ rest d. (d, refl)
token_sound a_based = λ rest d. (d, refl)
token_sound a_conversion = λ rest n c. (n, c, refl)
token_sound a_prefix = λ rest m f e. (m, f, e, refl)
token_sound an_operator = λ rest m o e. (m, o, e, refl)
token_sound (the_word w) = λ rest. refl
token_sound (the_mark m) = λ rest. refl

an_event : tree.EdgeKind → List ℕ → Event
an_event k n = record { edge = k; signal = n }

pub sound : (s : Symbol) → AreSound s (rules s)
unfolding rules an_event
sound (token x) = (token_sound x, tt)
sound whole = tt
sound operand = (
  λ rest t s n free. (tree.name n s.0, tighter 12 _ _ rest (spelled.a_name n s.0 t rest free s.1)),
  (
    λ rest t h d. (tree.number (h d).0, tighter 12 _ _ rest (spelled.a_number (h d).0 (decimal d ∷ t) rest (h d).1)),
    (
      λ rest d. (tree.number (based_number None d), tighter 12 _ _ rest (spelled.a_number (based_number None d) (based d ∷ rest) rest (spelled.unsized d rest))),
      (
        λ rest t x m f e. (f x.0, spelled.prefixed m f x.0 t rest e x.1),
        (
          λ rest t e. (e.0, tighter 12 e.0 _ rest (spelled.bracketed e.0 t rest e.1)),
          (
            λ rest t b u e. let x = b e.0 u e.1 in (x.0, tighter 12 x.0 _ rest x.1),
            (λ rest t e n c. converted n e.0 t rest _ refl c e.1, tt),
          ),
        ),
      ),
    ),
  ),
)
sound operand_rest = (
  λ rest t h u b m o e x before d. let f = with_operand m o b.0 x before u t e b.1 d in h f.0 before f.1,
  (λ rest t y u x c before d. (tree.conditional c x.0 y.0, spelled.chosen c x.0 y.0 before u t rest d x.1 y.1), tt),
)
sound digits = (λ rest x d. (based_number (Some (decimal_value d)) x, spelled.of_size d x rest), tt)
sound selects = (λ rest t h u l v e. let s = l e.0 v e.1 in h s.0 (mark left_bracket ∷ v) s.1, tt)
sound second_select = (λ rest t l u e s before d. let x = l e.0 u e.1 in (tree.two s x.0, spelled.two_selects s x.0 before (mark left_bracket ∷ u) rest d x.1), tt)
sound limit = (
  λ rest e before d. (tree.index e, spelled.by_index e before rest d),
  (
    λ rest t r e before d. (tree.part e r.0, spelled.by_part e r.0 before t rest d r.1),
    (
      λ rest t r e before d. (tree.part_up e r.0, spelled.by_part_up e r.0 before t rest d r.1),
      (λ rest t r e before d. (tree.part_down e r.0, spelled.by_part_down e r.0 before t rest d r.1), tt),
    ),
  ),
)
sound braces_rest = (
  λ rest t h u x e before d. let es = h x.0 u x.1 in (tree.replication e es.0, spelled.replicated e es.0 before u rest d es.1),
  (
    λ rest t h u x e before d. let es = h x.0 u x.1 in (tree.concatenation (expression e es.0), spelled.concatenated _ before rest (spelled.and_more e es.0 before u (mark right_brace ∷ rest) d es.1)),
    (λ rest e before d. (tree.concatenation (expression e no_expressions), spelled.concatenated _ before rest (spelled.last_one e before (mark right_brace ∷ rest) d)), tt),
  ),
)
sound more_parts = (
  λ rest t h u x e before d. let es = h x.0 u x.1 in (expression e es.0, spelled.and_more e es.0 before u (mark right_brace ∷ rest) d es.1),
  (λ rest e before d. (expression e no_expressions, spelled.last_one e before (mark right_brace ∷ rest) d), tt),
)
sound target = (
  λ rest t s n free. (tree.place n s.0, grammar.a_place n s.0 t rest free s.1),
  (λ rest t h u x. let ts = h x.0 u x.1 in (tree.joined ts.0, grammar.some_joined ts.0 u rest ts.1), tt),
)
sound more_targets = (
  λ rest t h u x y before d. let ts = h x.0 u x.1 in (tree.target y ts.0, grammar.and_targets y ts.0 before u (mark right_brace ∷ rest) d ts.1),
  (λ rest y before d. (tree.target y no_targets, grammar.last_target y before (mark right_brace ∷ rest) d), tt),
)
sound statement = (
  λ rest t h u s n free. h (tree.place n s.0) (word n ∷ u) (grammar.a_place n s.0 u t free s.1),
  (
    λ rest t h u m v x. let ts = m x.0 v x.1 in h (tree.joined ts.0) (mark left_brace ∷ v) (grammar.some_joined ts.0 v t ts.1),
    (
      λ rest. (tree.empty, grammar.nothing rest),
      (
        λ rest t h u s v e. h e.0 s.0 v u e.1 s.1,
        (
          λ rest t ss u n. (tree.block n.0 ss.0, grammar.in_block n.0 ss.0 u t rest n.1 ss.1),
          (
            λ rest t is u e. (tree.case exact_case e.0 is.0, grammar.selected exact_case e.0 is.0 u t rest e.1 is.1 is.2),
            (λ rest t is u e. (tree.case wild_case e.0 is.0, grammar.selected wild_case e.0 is.0 u t rest e.1 is.1 is.2), tt),
          ),
        ),
      ),
    ),
  ),
)
sound assignment_rest = (
  λ rest t e x before d. (tree.blocking x e.0, grammar.blocks x e.0 before rest (grammar.assigned x e.0 before t (mark semicolon ∷ rest) d e.1)),
  (λ rest t e x before d. (tree.nonblocking x e.0, grammar.waits x e.0 before rest (grammar.assigned x e.0 before t (mark semicolon ∷ rest) d e.1)), tt),
)
sound else_part = (λ rest t u c s before more dc ds. with_else c s u.0 before more t rest dc ds u.1, tt)
sound block_name = (λ rest n free. (Some n, grammar.named n rest free), tt)
sound statements = (λ rest. (tree.no_statements, grammar.no_statement (word (codes "end") ∷ rest)), tt)
sound first_item = (λ rest t is u s v c. default_item s.0 v u t rest c s.1 is, tt)
sound case_items = (λ rest t is u s v c. rest_of 1 _ rest (default_item s.0 v u t rest c s.1 is), (λ rest. no_item rest, tt))
sound last_items = (λ rest. no_item rest, tt)
sound more_values =
    (λ rest t h u x e before d. value_more 1 e u before rest d (h x.0 u x.1), (λ rest t is u s e before d. value_last 1 e s.0 u t before rest d s.1 is, tt))
sound more_last_values =
    (λ rest t h u x e before d. value_more 0 e u before rest d (h x.0 u x.1), (λ rest t is u s e before d. value_last 0 e s.0 u t before rest d s.1 is, tt))
sound perhaps_colon = (λ rest. grammar.with_colon rest, tt)
sound net_kind = (λ rest. (Some tree.wire, grammar.a_wire rest), (λ rest. (Some tree.reg, grammar.a_variable rest), tt))
sound sign = (λ rest. (true, grammar.present rest), tt)
sound range = (λ rest t r u l. (Some (record { left = l.0; right = r.0 }), grammar.given _ u rest (grammar.bounds l.0 r.0 u t rest l.1 r.1)), tt)
sound perhaps_value = (λ rest t e. (Some e.0, grammar.given e.0 t rest e.1), tt)
sound more_names = (λ rest t h n free. more_comma IsName semicolon t rest h n (word n ∷ t) (grammar.a_name n t free), (λ rest. more_end IsName semicolon rest, tt))
sound more_settings =
    (λ rest t h u e n free. more_comma IsSetting semicolon t rest h (n, e.0) _ (grammar.set_to n e.0 u t free e.1), (λ rest. more_end IsSetting semicolon rest, tt))
sound more_nets =
    (λ rest t h u e n free. more_comma IsWire semicolon t rest h (n, e.0) _ (grammar.net n e.0 u t free e.1), (λ rest. more_end IsWire semicolon rest, tt))
sound more_variables =
    (λ rest t h u r n free. more_comma IsVariable semicolon t rest h (n, r.0) _ (grammar.variable n r.0 u t free r.1), (λ rest. more_end IsVariable semicolon rest, tt))
sound more_assignments =
    (λ rest t h u e v x. more_comma (IsAssignment equals) semicolon t rest h (x.0, e.0) v (grammar.assigned x.0 e.0 v u t x.1 e.1), (λ rest. more_end (IsAssignment equals) semicolon rest, tt))
sound overrides = (λ rest t c. (c.0, grammar.overrides c.0 t rest c.1), tt)
sound connections = (
  λ rest t h u e n free. let es = h (n, e.0) _ (grammar.under_name n e.0 u t free e.1) in (tree.by_name es.0, grammar.named_entries es.0 _ rest es.1),
  (
    λ rest t h u e. let es = h e.0 u e.1 in (tree.by_order (None ∷ es.0), grammar.entries (None ∷ es.0) _ rest (and_parts None es.0 (mark comma ∷ u) u (mark right_parenthesis ∷ rest) (grammar.empty_entry (mark comma ∷ u)) es.1)),
    (λ rest. (tree.by_order (None ∷ []), grammar.entries (None ∷ []) _ rest (last_part None _ (mark right_parenthesis ∷ rest) (grammar.empty_entry (mark right_parenthesis ∷ rest)))), tt),
  ),
)
sound entry = tt
sound more_named = (λ rest t h u e n free. more_comma IsNamedEntry right_parenthesis t rest h (n, e.0) _ (grammar.under_name n e.0 u t free e.1), (λ rest. more_end IsNamedEntry right_parenthesis rest, tt))
sound more_entries = (λ rest t h u e. more_comma IsEntry right_parenthesis t rest h e.0 u e.1, (λ rest. more_end IsEntry right_parenthesis rest, tt))
sound more_instances = (λ rest t h u c n free. more_comma IsInstance semicolon t rest h (n, c.0) _ (grammar.an_instance n c.0 u t free c.1), (λ rest. more_end IsInstance semicolon rest, tt))
sound control = (λ rest. (tree.any_change, grammar.by_star rest), (λ rest t es. es, tt))
sound first_event = (
  λ rest. (tree.any_change, grammar.by_star_in_parentheses rest),
  (
    λ rest t h n free. let es = h (an_event any_edge n) (word n ∷ t) (grammar.an_event any_edge n t free) in (tree.on_events es.0, grammar.by_events es.0 _ rest es.1),
    (
      λ rest t h n free. let es = h (an_event posedge n) _ (grammar.an_event posedge n t free) in (tree.on_events es.0, grammar.by_events es.0 _ rest es.1),
      (λ rest t h n free. let es = h (an_event negedge n) _ (grammar.an_event negedge n t free) in (tree.on_events es.0, grammar.by_events es.0 _ rest es.1), tt),
    ),
  ),
)
sound event = (
  λ rest n free. (an_event any_edge n, grammar.an_event any_edge n rest free),
  (λ rest n free. (an_event posedge n, grammar.an_event posedge n rest free), (λ rest n free. (an_event negedge n, grammar.an_event negedge n rest free), tt)),
)
sound more_events = (
  λ rest t h u x e before d. let es = h x.0 u x.1 in (e ∷ es.0, grammar.or_event e es.0 before u rest d es.1),
  (λ rest t h u x e before d. let es = h x.0 u x.1 in (e ∷ es.0, grammar.comma_event e es.0 before u rest d es.1), (λ rest e before d. (e ∷ [], grammar.last_event e before rest d), tt)),
)
sound items = (
  λ rest t is u h v c n free w o m given. let es = h (n, c.0) _ (grammar.an_instance n c.0 v u free c.1) in
      item_more (tree.instances m o.0 es.0) _ t rest (grammar.some_instances m o.0 es.0 w _ t given o.1 es.1) is,
  (
    λ rest t is u h v e n free w r x s. let ws = h (n, e.0) _ (grammar.net n e.0 v u free e.1) in
        item_more (tree.wires s.0 r.0 ws.0) _ t rest (grammar.some_wires s.0 r.0 ws.0 x w _ t s.1 r.1 ws.1) is,
    (
      λ rest t is u h v a n free w r x s. let vs = h (n, a.0) _ (grammar.variable n a.0 v u free a.1) in
          item_more (tree.variables s.0 r.0 vs.0) _ t rest (grammar.some_variables s.0 r.0 vs.0 x w _ t s.1 r.1 vs.1) is,
      (
        λ rest t is u h v e w x. let xs = h (x.0, e.0) w (grammar.assigned x.0 e.0 w v u x.1 e.1) in
            item_more (tree.assign xs.0) _ t rest (grammar.some_assignments xs.0 w t xs.1) is,
        (
          λ rest t is u s v c. item_more (tree.always c.0 s.0) _ t rest (grammar.a_block c.0 s.0 v u t c.1 s.1) is,
          (
            λ rest t is u h n free w r x s y k. let ns = h n (word n ∷ u) (grammar.a_name n u free) in
                item_more (tree.port (record { direction = tree.input; kind = k.0; signed = s.0; range = r.0; names = ns.0 })) _ t rest
                (grammar.a_port_item _ _ t (grammar.a_port tree.input k.0 s.0 r.0 ns.0 y x w _ (mark semicolon ∷ t) k.1 s.1 r.1 ns.1)) is,
            (
              λ rest t is u h n free w r x s y k. let ns = h n (word n ∷ u) (grammar.a_name n u free) in
                  item_more (tree.port (record { direction = tree.output; kind = k.0; signed = s.0; range = r.0; names = ns.0 })) _ t rest
                  (grammar.a_port_item _ _ t (grammar.a_port tree.output k.0 s.0 r.0 ns.0 y x w _ (mark semicolon ∷ t) k.1 s.1 r.1 ns.1)) is,
              (
                λ rest t is u h v e n free w r x s. let vs = h (n, e.0) _ (grammar.set_to n e.0 v u free e.1) in
                    item_more (tree.parameter (record { is_local = false; signed = s.0; range = r.0; values = vs.0 })) _ t rest
                    (grammar.a_parameter_item _ _ t (grammar.a_parameter false s.0 r.0 vs.0 x w _ (mark semicolon ∷ t) s.1 r.1 vs.1)) is,
                (
                  λ rest t is u h v e n free w r x s. let vs = h (n, e.0) _ (grammar.set_to n e.0 v u free e.1) in
                      item_more (tree.parameter (record { is_local = true; signed = s.0; range = r.0; values = vs.0 })) _ t rest
                      (grammar.a_parameter_item _ _ t (grammar.a_parameter true s.0 r.0 vs.0 x w _ (mark semicolon ∷ t) s.1 r.1 vs.1)) is,
                  (λ rest. ([], grammar.no_more (word (codes "endmodule") ∷ rest)), tt),
                ),
              ),
            ),
          ),
        ),
      ),
    ),
  ),
)
sound header_parameters = (
  λ rest t h v e n free w r x s. let vs = h (n, e.0) _ (grammar.set_to n e.0 v t free e.1) in let ps = header_parameter s.0 r.0 x w _ rest s.1 r.1 vs in
      (ps.0, grammar.some_parameters ps.0 _ rest ps.1),
  tt,
)
sound more_parameters = (λ rest t h. h, (λ rest x before d. setting_last x before _ rest d (no_parameter rest), tt))
sound next_parameter = (
  λ rest t h u e n free x before d. setting_more x before _ rest d (h (n, e.0) _ (grammar.set_to n e.0 u t free e.1)),
  (
    λ rest t h v e n free w r y s x before d. let vs = h (n, e.0) _ (grammar.set_to n e.0 v t free e.1) in let ps = header_parameter s.0 r.0 y w _ rest s.1 r.1 vs in
        setting_last x before _ rest d (another_parameter ps.0 _ rest ps.1),
    tt,
  ),
)
sound header_ports = (λ rest t p. p, tt)
sound first_port = (
  λ rest. (tree.listed [], grammar.empty_list rest),
  (
    λ rest t h n free. let ns = h n (word n ∷ t) (grammar.a_name n t free) in (tree.listed ns.0, grammar.names_listed ns.0 _ rest ns.1),
    (
      λ rest t h n free w r x s y k. let ps = header_port tree.input k.0 s.0 r.0 y x w _ rest k.1 s.1 r.1 (h n (word n ∷ t) (grammar.a_name n t free)) in
          (tree.declared ps.0, grammar.ports_declared ps.0 _ rest ps.1),
      (
        λ rest t h n free w r x s y k. let ps = header_port tree.output k.0 s.0 r.0 y x w _ rest k.1 s.1 r.1 (h n (word n ∷ t) (grammar.a_name n t free)) in
            (tree.declared ps.0, grammar.ports_declared ps.0 _ rest ps.1),
        tt,
      ),
    ),
  ),
)
sound more_listed = (λ rest t h n free. more_comma IsName right_parenthesis t rest h n (word n ∷ t) (grammar.a_name n t free), (λ rest. more_end IsName right_parenthesis rest, tt))
sound more_ports = (λ rest t h. h, (λ rest x before d. name_last x before _ rest d (no_port rest), tt))
sound next_port = (
  λ rest t h n free x before d. name_more x before (word n ∷ t) rest d (h n (word n ∷ t) (grammar.a_name n t free)),
  (
    λ rest t h n free w r y s z k x before d. let ps = header_port tree.input k.0 s.0 r.0 z y w _ rest k.1 s.1 r.1 (h n (word n ∷ t) (grammar.a_name n t free)) in
        name_last x before _ rest d (another_port ps.0 _ rest ps.1),
    (
      λ rest t h n free w r y s z k x before d. let ps = header_port tree.output k.0 s.0 r.0 z y w _ rest k.1 s.1 r.1 (h n (word n ∷ t) (grammar.a_name n t free)) in
          name_last x before _ rest d (another_port ps.0 _ rest ps.1),
      tt,
    ),
  ),
)
sound modules =
    (λ rest t ms u is v p w ps n free. (_, grammar.one_more _ ms.0 _ t rest (grammar.a_module n ps.0 p.0 is.0 w v u t free ps.1 p.1 is.1) ms.1), tt)

pub lead_sound : (s : Symbol) → IsLeadSound s (leads s)
unfolding leads
lead_sound whole = λ rest t r u x. r x.0 u (at_one x.0 u t x.1)
lead_sound entry = λ rest t r u x. let e = r x.0 u (at_one x.0 u t x.1) in (Some e.0, grammar.an_entry e.0 u rest e.1)
lead_sound connections = λ rest t h u r v x. let e = r x.0 v (at_one x.0 v u x.1) in let es = h (Some e.0) v (grammar.an_entry e.0 v t e.1) in (tree.by_order es.0, grammar.entries es.0 v rest es.1)
lead_sound first_item = λ rest t h u r v x. let e = r x.0 v (at_one x.0 v u x.1) in values_item 1 v rest (h e.0 v e.1)
lead_sound case_items = λ rest t h u r v x. let e = r x.0 v (at_one x.0 v u x.1) in rest_of 1 v rest (values_item 1 v rest (h e.0 v e.1))
lead_sound last_items = λ rest t h u r v x. let e = r x.0 v (at_one x.0 v u x.1) in rest_of 0 v rest (values_item 0 v rest (h e.0 v e.1))
lead_sound statements = λ rest t ss u s. (tree.statement s.0 ss.0, grammar.and_statements s.0 ss.0 u t (word (codes "end") ∷ rest) s.1 ss.1)
lead_sound _ = tt

pub left_out : (s : Symbol) → is_optional s ≡ true → (rest : List Token) → At s rest rest
unfolding is_optional
left_out operand_rest e rest = λ x before d. (x, tighter 0 x before rest d)
left_out digits e rest = λ d. (plain_number d, spelled.plain d rest)
left_out selects e rest = (tree.whole, spelled.no_select rest)
left_out second_select e rest = λ s before d. (tree.one s, spelled.one_select s before rest d)
left_out else_part e rest = λ c s before more dc ds. (tree.if_then c s, grammar.tested c s before more rest dc ds)
left_out block_name e rest = (None, grammar.unnamed rest)
left_out perhaps_colon e rest = grammar.without_colon rest
left_out net_kind e rest = (None, grammar.no_kind rest)
left_out sign e rest = (false, grammar.absent rest)
left_out range e rest = (None, grammar.left_out rest)
left_out perhaps_value e rest = (None, grammar.left_out rest)
left_out overrides e rest = (tree.by_order [], grammar.no_overrides rest)
left_out entry e rest = (None, grammar.empty_entry rest)
left_out header_parameters e rest = ([], grammar.no_parameters rest)
left_out header_ports e rest = (tree.no_ports, grammar.none_listed rest)
left_out modules e rest = ([], grammar.no_more rest)
left_out _ e rest = absurd cc
