-- What ladders, cases and blocks assign on each path and read from outside, by the lists of their parts.
use Rattle.std.proofs.Common.{◌≡◌, ◌∙◌, refl, ap, sym, Bool, true, false, cond, List, [], ◌∷◌, Option, Some, None}
use Rattle.std.specs.Prelude.{◌&&◌, ◌||◌, not}
use Rattle.verilog_trees.specs.Syntax as pure
use Rattle.verilog_meaning.specs.Expression.{Scope}
use Rattle.verilog_meaning.specs.Register.{is_bit_of}
use Rattle.verilog_designs.specs.Reads.{BitSet, no_bits, or_in, and_in, but_not_in, reads, is_full, surely_assigns, one_surely_assigns, each_arm_assigns, all_read_after, arms_read_after, reads_outside}
use Rattle.v_syntax.specs.declared.tree.Arm.{Arm}
use Rattle.v_syntax.specs.declared.tree.CaseItem.{CaseItem, Values, Default}
use Rattle.v_syntax.specs.declared.tree.Statement.{Statement}
use Rattle.v_syntax.specs.Tree.{tree_of, statement_of, arm_before, or_empty}
use Rattle.v_statement.specs.Statements.{statement_list, arm_list}
use Rattle.v_statement.specs.Effects.{item_list}
use Rattle.v_flow.specs.Spans.{existing}
use Rattle.v_flow.proofs.Sets.{or-assoc, or-none}
use Rattle.v_flow.proofs.Constants.{and_true, and_false}
use Rattle.v_flow.proofs.Targets.{and_or}
use Rattle.v_flow.proofs.Behind.{reads-sequence}
use Rattle.v_paths.specs.Cases.{full_at}
use Rattle.v_paths.specs.Walks.{sure_at, outside_at, all_sure, all_outside, ladder_sure, ladder_outside, bodies_sure, bodies_outside, where_full}
use Rattle.v_paths.proofs.Surely.{never-full}
use Rattle.v_paths.proofs.Within.{all-outside-within}
use Rattle.v_paths.proofs.Plain.{existing-left-out}

-- ---- sets

pub nothing-done : (p : BitSet) → but_not_in p no_bits ≡ p
nothing-done p = λ i n k b. and_true (p n k b) i

or-swap : (a b : Bool) → a || b ≡ b || a
or-swap true true = refl
or-swap true false = refl
or-swap false true = refl
or-swap false false = refl

pub or-comm : (p q : BitSet) → or_in p q ≡ or_in q p
or-comm p q = λ i n k b. or-swap (p n k b) (q n k b) i

and-front : (a b c : Bool) → a && (b && c) ≡ b && (a && c)
and-front true b c = refl
and-front false true c = refl
and-front false false c = refl

and-swap : (p q r : BitSet) → and_in p (and_in q r) ≡ and_in q (and_in p r)
and-swap p q r = λ i n k b. and-front (p n k b) (q n k b) (r n k b) i

and-both : (c a b : Bool) → c && (a && b) ≡ (c && a) && (c && b)
and-both true a b = refl
and-both false a b = refl

and-existing : (s : Scope) (p q : BitSet) → existing s (and_in p q) ≡ and_in (existing s p) (existing s q)
and-existing s p q = λ i n k b. and-both (is_bit_of (s n) k b) (p n k b) (q n k b) i

pub none-existing : (s : Scope) → existing s no_bits ≡ no_bits
none-existing s = λ i n k b. and_false (is_bit_of (s n) k b) i

-- ---- arms of an if

outside-before : (s : Scope) (c : pure.Expression) (x : pure.Statement) (o : Option pure.Statement)
    → reads_outside s (arm_before c x o) ≡ or_in (reads s c) (or_in (reads_outside s x) (reads_outside s (or_empty o)))
outside-before s c x None =
    ap (λ (z : BitSet). or_in z (reads_outside s x)) (nothing-done (reads s c)) ∙ ap (or_in (reads s c)) (sym (or-none (reads_outside s x)))
outside-before s c x (Some y) = ap (λ (z : BitSet). or_in z (or_in (reads_outside s x) (reads_outside s y))) (nothing-done (reads s c))

pub outside-ladder : (s : Scope) (arms : List Arm) (y : Option pure.Statement)
    → reads_outside s (or_empty (arm_list arms y)) ≡ or_in (ladder_outside s arms) (reads_outside s (or_empty y))
unfolding outside_at
outside-ladder s [] y = refl
outside-ladder s (a ∷ arms) y =
    let p = reads s (tree_of a.condition) in
    let q = reads_outside s (statement_of a.statement) in
    let r = reads_outside s (or_empty y) in
    outside-before s (tree_of a.condition) (statement_of a.statement) (arm_list arms y)
    ∙ ap (λ (z : BitSet). or_in p (or_in q z)) (outside-ladder s arms y)
    ∙ ap (or_in p) (sym (or-assoc q (ladder_outside s arms) r))
    ∙ sym (or-assoc p (or_in q (ladder_outside s arms)) r)

sure-before : (s : Scope) (c : pure.Expression) (x : pure.Statement) (o : Option pure.Statement)
    → surely_assigns s (arm_before c x o) ≡ and_in (surely_assigns s x) (surely_assigns s (or_empty o))
sure-before s c x None = λ i n k b. sym (and_false (surely_assigns s x n k b)) i
sure-before s c x (Some y) = refl

ladder-moved : (s : Scope) (arms : List Arm) (q p : BitSet) → ladder_sure s arms (and_in q p) ≡ and_in q (ladder_sure s arms p)
ladder-moved s [] q p = refl
ladder-moved s (a ∷ arms) q p =
    let here = sure_at s (statement_of a.statement) in
    ap (ladder_sure s arms) (and-swap here q p) ∙ ladder-moved s arms q (and_in here p)

pub sure-ladder : (s : Scope) (arms : List Arm) (y : Option pure.Statement)
    → existing s (surely_assigns s (or_empty (arm_list arms y))) ≡ ladder_sure s arms (existing s (surely_assigns s (or_empty y)))
unfolding sure_at
sure-ladder s [] y = refl
sure-ladder s (a ∷ arms) y =
    let here = surely_assigns s (statement_of a.statement) in
    let later = surely_assigns s (or_empty (arm_list arms y)) in
    ap (existing s) (sure-before s (tree_of a.condition) (statement_of a.statement) (arm_list arms y))
    ∙ and-existing s here later ∙ ap (and_in (existing s here)) (sure-ladder s arms y)
    ∙ sym (ladder-moved s arms (existing s here) (existing s (surely_assigns s (or_empty y))))

-- ---- items of a case

pub outside-bodies : (s : Scope) (items : List CaseItem) → arms_read_after s no_bits (item_list items) ≡ bodies_outside s items
unfolding outside_at
outside-bodies s [] = refl
outside-bodies s (Values es x ∷ items) = ap (or_in (reads_outside s (statement_of x))) (outside-bodies s items)
outside-bodies s (Default x ∷ items) = ap (or_in (reads_outside s (statement_of x))) (outside-bodies s items)

and-all : (c a : Bool) → c && a ≡ c && (a && true)
and-all c a = ap (λ t. c && t) (sym (and_true a))

and-turn : (c a p r : Bool) → c && ((a && p) && r) ≡ c && (p && (a && r))
and-turn false a p r = refl
and-turn true true p r = refl
and-turn true false true r = refl
and-turn true false false r = refl

each-item : (s : Scope) (items : List CaseItem) (p here : BitSet)
    → bodies_sure s items false (existing s (and_in here p)) ≡ existing s (and_in (and_in here p) (each_arm_assigns s (item_list items)))
    → bodies_sure s items false (and_in (existing s here) (existing s p)) ≡ existing s (and_in p (and_in here (each_arm_assigns s (item_list items))))
each-item s items p here h =
    ap (bodies_sure s items false) (sym (and-existing s here p)) ∙ h
    ∙ (λ i n k b. and-turn (is_bit_of (s n) k b) (here n k b) (p n k b) (each_arm_assigns s (item_list items) n k b) i)

each-existing : (s : Scope) (items : List CaseItem) (p : BitSet) → bodies_sure s items false (existing s p) ≡ existing s (and_in p (each_arm_assigns s (item_list items)))
unfolding sure_at
each-existing s [] p = λ i n k b. and-all (is_bit_of (s n) k b) (p n k b) i
each-existing s (Values es x ∷ items) p =
    each-item s items p (surely_assigns s (statement_of x)) (each-existing s items (and_in (surely_assigns s (statement_of x)) p))
each-existing s (Default x ∷ items) p =
    each-item s items p (surely_assigns s (statement_of x)) (each-existing s items (and_in (surely_assigns s (statement_of x)) p))

by-full : (s : Scope) (kind : pure.CaseKind) (e : pure.Expression) (items : List CaseItem) (full : Bool) → is_full s kind e (item_list items) ≡ full
    → where_full full (bodies_sure s items true no_bits) ≡ existing s (cond full (each_arm_assigns s (item_list items)) no_bits)
unfolding sure_at
by-full s kind e [] true h = absurd (never-full s kind e h)
by-full s kind e [] false h = sym (none-existing s)
by-full s kind e (Values es x ∷ items) true h = each-existing s items (surely_assigns s (statement_of x))
by-full s kind e (Values es x ∷ items) false h = sym (none-existing s)
by-full s kind e (Default x ∷ items) true h = each-existing s items (surely_assigns s (statement_of x))
by-full s kind e (Default x ∷ items) false h = sym (none-existing s)

pub sure-case : (s : Scope) (kind : pure.CaseKind) (e : pure.Expression) (items : List CaseItem) (full : Bool) → full ≡ full_at s kind e (item_list items)
    → where_full full (bodies_sure s items true no_bits) ≡ existing s (surely_assigns s (pure.case kind e (item_list items)))
unfolding full_at
sure-case s kind e items full h =
    by-full s kind e items full (sym h) ∙ ap (λ f. existing s (cond f (each_arm_assigns s (item_list items)) no_bits)) h

-- ---- statements in turn

pub sure-all : (s : Scope) (xs : List Statement) → existing s (one_surely_assigns s (statement_list xs)) ≡ all_sure s xs
unfolding sure_at
sure-all s [] = none-existing s
sure-all s (x ∷ xs) =
    (λ i n k b. and_or (is_bit_of (s n) k b) (surely_assigns s (statement_of x) n k b) (one_surely_assigns s (statement_list xs) n k b) i)
    ∙ ap (or_in (existing s (surely_assigns s (statement_of x)))) (sure-all s xs)

pub outside-all : (s : Scope) (xs : List Statement) → all_read_after s no_bits (statement_list xs) ≡ all_outside s xs
unfolding outside_at sure_at
outside-all s [] = refl
outside-all s (x ∷ xs) =
    let here = reads_outside s (statement_of x) in
    let rest = all_read_after s no_bits (statement_list xs) in
    let done = surely_assigns s (statement_of x) in
    reads-sequence s (statement_of x) (statement_list xs)
    ∙ ap (or_in here) (sym (existing-left-out s rest done (all-outside-within s (statement_list xs))))
    ∙ ap (λ (z : BitSet). or_in here (but_not_in z (existing s done))) (outside-all s xs)

-- p is read by one part, and q by what follows, where the first part assigns a
then-left-out : (p q a d : Bool) → ((p || (q && not a)) && not d) ≡ ((p && not d) || (q && not (d || a)))
then-left-out true true true true = refl
then-left-out true true true false = refl
then-left-out true true false true = refl
then-left-out true true false false = refl
then-left-out true false a true = refl
then-left-out true false a false = refl
then-left-out false true true true = refl
then-left-out false true true false = refl
then-left-out false true false true = refl
then-left-out false true false false = refl
then-left-out false false a d = refl

-- a turn: t is what all read from outside, o what was read so far, d the table of what is assigned so far, a what this statement assigns
pub block-turn : (t o p here rest done more a d : BitSet) → but_not_in here d ≡ but_not_in here done
    → t ≡ or_in o (but_not_in (or_in here (but_not_in rest a)) done) → p ≡ or_in o (but_not_in here d) → more ≡ or_in done a → t ≡ or_in p (but_not_in rest more)
block-turn t o p here rest done more a d clip e f g =
    let cut : BitSet = but_not_in rest (or_in done a) in
    let split : but_not_in (or_in here (but_not_in rest a)) done ≡ or_in (but_not_in here done) cut =
    (λ i n k b. then-left-out (here n k b) (rest n k b) (a n k b) (done n k b) i) in
    e ∙ ap (or_in o) split ∙ ap (λ (z : BitSet). or_in o (or_in z cut)) (sym clip) ∙ sym (or-assoc o (but_not_in here d) cut)
    ∙ ap (λ (z : BitSet). or_in z cut) (sym f) ∙ ap (λ (z : BitSet). or_in p (but_not_in rest z)) (sym g)
