-- The laws for the names that stand in a tree, from those for all names: the old scope agrees with the new one, seen through the
-- function of names, on each name in the tree.
use Rattle.std.proofs.Common.{◌≡◌, ◌↔◌, refl, ap, ◌∙◌, subst}
use Rattle.wb_values.specs.Value.{Name}
use Rattle.verilog_meaning.specs.Statement.{written, run, with_updates}
use Rattle.verilog_meaning.specs.Register.{may_reach, may_assign, one_may_assign, counts, after_edge}
use Rattle.verilog_meaning.specs.Settled.{one_may_reach}
use Rattle.verilog_designs.specs.Reads.{BitSet, reads, target_reads, items_read, surely_reaches, surely_assigns, reads_after, reads_outside}
use Rattle.verilog_renamed.specs.Renamed.{renamed_expression, renamed_target, renamed_statement, renamed_case_items, renamed_assignments, renamed_blocks, renamed_places, renamed_updates}
use Rattle.verilog_renamed.specs.Laws.{MeansTheSame, PartsMeanTheSame, NamesTheSame, ChangesTheSame, DoesTheSame, IsConstantTheSame, AreRenamedBits, MayAssignTheSame, HoldsTheSame, ReadsTheSame, SurelyAssignsTheSame, IsGivenByTheSame, DependsOnTheSame}
use Rattle.verilog_renamed.specs.Agreement.{AgreeOnExpression, AgreeOnParts, AgreeOnSelect, AgreeOnSelects, AgreeOnTarget, AgreeOnStatement, AgreeOnAssignments, AgreeOnBlocks}
use Rattle.verilog_renamed.specs.KnownNames.{KnownExpressionsMeanTheSame, KnownConstantsAreTheSame, KnownReadBitsAreTheSame, KnownPartsMeanTheSame, EachKnownSelectMeansTheSame, KnownSelectsMeanTheSame, KnownTargetsNameTheSame, KnownWritesChangeTheSame, KnownUpdatesChangeTheSame, KnownRunsDoTheSame, KnownEdgesChangeTheSame, KnownTargetsHaveTheSameBits, KnownStatementsHaveTheSameBits, KnownCaseItemsReadTheSame, KnownCasesAreFullTheSame, KnownAssignmentsReachTheSame, KnownBlocksHaveTheSameBits, KnownTargetsHaveTheSame, KnownAssignmentsHoldTheSame, KnownRunsHoldTheSame, KnownBlocksHoldTheSame, KnownGivenBitsAreTheSame, KnownDependencesAreTheSame}
use Rattle.verilog_renamed.proofs.Paths.{through}
use Rattle.verilog_renamed.proofs.Meaning.{expressions_mean_the_same, parts_mean_the_same, targets_name_the_same, writes_change_the_same, updates_change_the_same, runs_do_the_same, edges_change_the_same, constants_are_the_same, assigned_bits_are_the_same, equations_hold_the_same, constant_targets_are_the_same, read_bits_are_the_same, surely_assigned_bits_are_the_same, given_bits_are_the_same, dependences_are_the_same}
use Rattle.verilog_renamed.proofs.ReadBits.{same_full}
use Rattle.verilog_renamed.proofs.AgreedStatements.{agreed_written, agreed_updates}
use Rattle.verilog_renamed.proofs.AgreedBits.{agreed_items_read, agreed_full}
use Rattle.verilog_renamed.proofs.AgreedMeaning.{expressions_are_agreed_on, parts_are_agreed_on, each_select_is_agreed_on, selects_are_agreed_on, targets_are_agreed_on, statements_are_agreed_on, assignments_are_agreed_on, blocks_are_agreed_on, given_bits_are_agreed_on}

-- one after the other
then : {A B C : Type 0} → A ↔ B → B ↔ C → A ↔ C
then h k = (λ a. k.0 (h.0 a), λ c. h.1 (k.1 c))

-- the same set of old bits
bits_of : (f : Name → Name) (p q new : BitSet) → p ≡ q → AreRenamedBits f p new → AreRenamedBits f q new
bits_of f p q new e h = subst (λ r. AreRenamedBits f r new) e h

-- ---- expressions

pub known_expressions : KnownExpressionsMeanTheSame
known_expressions f s t v w e a b =
    let h : MeansTheSame f (through f t) t v w e = expressions_mean_the_same f (through f t) t v w e (λ n. refl) b in
    let k : AgreeOnExpression s (through f t) e = expressions_are_agreed_on s (through f t) e a in
    record {
      sign = h.sign ∙ k.sign;
      width = h.width ∙ k.width;
      value = λ m g. h.value m g ∙ k.value v m g;
      self = h.self ∙ k.self v;
      integer = h.integer ∙ k.integer v;
      condition = h.condition ∙ k.condition v;
      assigned = λ m. h.assigned m ∙ k.assigned v m;
    }

pub known_constants : KnownConstantsAreTheSame
known_constants f s t e a =
    let h : IsConstantTheSame f (through f t) t = constants_are_the_same f (through f t) t (λ n. refl) in
    let k : AgreeOnExpression s (through f t) e = expressions_are_agreed_on s (through f t) e a in
    h.expression e ∙ k.constant

pub known_reads : KnownReadBitsAreTheSame
known_reads f s t e apart a =
    let h : ReadsTheSame f (through f t) t = read_bits_are_the_same f (through f t) t apart (λ n. refl) in
    let k : AgreeOnExpression s (through f t) e = expressions_are_agreed_on s (through f t) e a in
    bits_of f (reads (through f t) e) (reads s e) (reads t (renamed_expression f e)) k.reads (h.expressions e)

pub known_parts : KnownPartsMeanTheSame
known_parts f s t v w es a b =
    let h : PartsMeanTheSame f (through f t) t v w = parts_mean_the_same f (through f t) t v w (λ n. refl) b in
    let k : AgreeOnParts s (through f t) es = parts_are_agreed_on s (through f t) es a in
    record { widths = h.widths es ∙ k.widths; joined = h.joined es ∙ k.joined v }

pub known_select : EachKnownSelectMeansTheSame
known_select f s t v w x a b =
    let h : PartsMeanTheSame f (through f t) t v w = parts_mean_the_same f (through f t) t v w (λ n. refl) b in
    let k : AgreeOnSelect s (through f t) x = each_select_is_agreed_on s (through f t) x a in
    record { index = h.index x ∙ k.index v; bits = λ o. h.bits o x ∙ k.bits v o }

pub known_selects : KnownSelectsMeanTheSame
known_selects f s t v w x a b =
    let h : PartsMeanTheSame f (through f t) t v w = parts_mean_the_same f (through f t) t v w (λ n. refl) b in
    let c : IsConstantTheSame f (through f t) t = constants_are_the_same f (through f t) t (λ n. refl) in
    let k : AgreeOnSelects s (through f t) x = selects_are_agreed_on s (through f t) x a in
    record {
      width = λ o. h.selects_width o x ∙ k.width o;
      selected = λ o y. h.selected o y x ∙ k.selected v o y;
      constant = c.selects x ∙ k.constant;
      may_mean = λ o m n. c.may_mean o x m n ∙ k.may_mean o m n;
    }

-- ---- targets and statements

pub known_targets : KnownTargetsNameTheSame
known_targets f s t v w x a b =
    let h : NamesTheSame f (through f t) t v w x = targets_name_the_same f (through f t) t v w x (λ n. refl) b in
    let k : AgreeOnTarget s (through f t) x = targets_are_agreed_on s (through f t) x a in
    record { width = h.width ∙ k.width; places = h.places ∙ ap (renamed_places f) (k.places v) }

pub known_writes : KnownWritesChangeTheSame
known_writes f s t v w ps x apart a b =
    subst (λ u. ChangesTheSame f w u (written t w (renamed_places f ps) x)) (agreed_written s (through f t) v ps x a)
    (writes_change_the_same f (through f t) t v w ps x apart (λ n. refl) b)

pub known_updates : KnownUpdatesChangeTheSame
known_updates f s t v w us apart a b =
    subst (λ u. ChangesTheSame f w u (with_updates t w (renamed_updates f us))) (agreed_updates s (through f t) v us a)
    (updates_change_the_same f (through f t) t v w us apart (λ n. refl) b)

pub known_runs : KnownRunsDoTheSame
known_runs f s t v w x apart a b =
    let k : AgreeOnStatement s (through f t) x = statements_are_agreed_on s (through f t) x a in
    subst (λ u. DoesTheSame f w u (run t (renamed_statement f x) w)) (k.run v) (runs_do_the_same f (through f t) t v w x apart (λ n. refl) b)

pub known_edges : KnownEdgesChangeTheSame
known_edges f s t v w xs apart a b =
    let k : AgreeOnBlocks s (through f t) xs = blocks_are_agreed_on s (through f t) xs a in
    subst (λ u. ChangesTheSame f w u (after_edge t (renamed_blocks f xs) w)) (k.edge v)
    (edges_change_the_same f (through f t) t v w xs apart (λ n. refl) b)

-- ---- bits

pub known_target_bits : KnownTargetsHaveTheSameBits
known_target_bits f s t x apart a =
    let h : MayAssignTheSame f (through f t) t = assigned_bits_are_the_same f (through f t) t apart (λ n. refl) in
    let r : ReadsTheSame f (through f t) t = read_bits_are_the_same f (through f t) t apart (λ n. refl) in
    let z : SurelyAssignsTheSame f (through f t) t = surely_assigned_bits_are_the_same f (through f t) t apart (λ n. refl) in
    let k : AgreeOnTarget s (through f t) x = targets_are_agreed_on s (through f t) x a in
    record {
      constant = constant_targets_are_the_same f (through f t) t x (λ n. refl) ∙ k.constant;
      reached = bits_of f (may_reach (through f t) x) (may_reach s x) (may_reach t (renamed_target f x)) k.may_reach (h.targets x);
      surely_reached =
          bits_of f (surely_reaches (through f t) x) (surely_reaches s x) (surely_reaches t (renamed_target f x)) k.surely_reaches (z.targets x);
      read = bits_of f (target_reads (through f t) x) (target_reads s x) (target_reads t (renamed_target f x)) k.reads (r.targets x);
    }

pub known_statement_bits : KnownStatementsHaveTheSameBits
known_statement_bits f s t x apart a =
    let h : MayAssignTheSame f (through f t) t = assigned_bits_are_the_same f (through f t) t apart (λ n. refl) in
    let r : ReadsTheSame f (through f t) t = read_bits_are_the_same f (through f t) t apart (λ n. refl) in
    let z : SurelyAssignsTheSame f (through f t) t = surely_assigned_bits_are_the_same f (through f t) t apart (λ n. refl) in
    let k : AgreeOnStatement s (through f t) x = statements_are_agreed_on s (through f t) x a in
    record {
      assigned = bits_of f (may_assign (through f t) x) (may_assign s x) (may_assign t (renamed_statement f x)) k.may_assign (h.statements x);
      surely_assigned =
          bits_of f (surely_assigns (through f t) x) (surely_assigns s x) (surely_assigns t (renamed_statement f x)) k.surely_assigns (z.statements x);
      read = λ old new done.
          bits_of f (reads_after (through f t) old x) (reads_after s old x) (reads_after t new (renamed_statement f x)) (k.reads_after old)
          (r.statements x old new done);
      read_outside =
          bits_of f (reads_outside (through f t) x) (reads_outside s x) (reads_outside t (renamed_statement f x)) k.reads_outside (r.outside x);
    }

pub known_items : KnownCaseItemsReadTheSame
known_items f s t items apart a =
    let r : ReadsTheSame f (through f t) t = read_bits_are_the_same f (through f t) t apart (λ n. refl) in
    bits_of f (items_read (through f t) items) (items_read s items) (items_read t (renamed_case_items f items))
    (agreed_items_read s (through f t) items a) (r.items items)

pub known_full : KnownCasesAreFullTheSame
known_full f s t kind e items a b = same_full f t kind e items ∙ agreed_full s (through f t) kind e items a b

pub known_reached : KnownAssignmentsReachTheSame
known_reached f s t xs apart a =
    let h : MayAssignTheSame f (through f t) t = assigned_bits_are_the_same f (through f t) t apart (λ n. refl) in
    let k : AgreeOnAssignments s (through f t) xs = assignments_are_agreed_on s (through f t) xs a in
    bits_of f (one_may_reach (through f t) xs) (one_may_reach s xs) (one_may_reach t (renamed_assignments f xs)) k.may_reach (h.assignments xs)

pub known_block_bits : KnownBlocksHaveTheSameBits
known_block_bits f s t xs apart a =
    let h : MayAssignTheSame f (through f t) t = assigned_bits_are_the_same f (through f t) t apart (λ n. refl) in
    let k : AgreeOnBlocks s (through f t) xs = blocks_are_agreed_on s (through f t) xs a in
    record {
      assigned = bits_of f (one_may_assign (through f t) xs) (one_may_assign s xs) (one_may_assign t (renamed_blocks f xs)) k.may_assign (h.blocks xs);
      registers = bits_of f (counts (through f t) xs) (counts s xs) (counts t (renamed_blocks f xs)) k.registers (h.registers xs);
    }

-- ---- equations

pub known_has : KnownTargetsHaveTheSame
known_has f s t v w x y apart a b =
    let h : HoldsTheSame f (through f t) t v w = equations_hold_the_same f (through f t) t v w apart (λ n. refl) b in
    let k : AgreeOnTarget s (through f t) x = targets_are_agreed_on s (through f t) x a in
    then (h.targets x y) (k.has v y)

pub known_assigned : KnownAssignmentsHoldTheSame
known_assigned f s t v w xs apart a b =
    let h : HoldsTheSame f (through f t) t v w = equations_hold_the_same f (through f t) t v w apart (λ n. refl) b in
    let k : AgreeOnAssignments s (through f t) xs = assignments_are_agreed_on s (through f t) xs a in
    then (h.assignments xs) (k.has v)

pub known_has_run : KnownRunsHoldTheSame
known_has_run f s t v w x apart a b =
    let h : HoldsTheSame f (through f t) t v w = equations_hold_the_same f (through f t) t v w apart (λ n. refl) b in
    let k : AgreeOnStatement s (through f t) x = statements_are_agreed_on s (through f t) x a in
    then (h.runs x) (k.has_run v)

pub known_has_runs : KnownBlocksHoldTheSame
known_has_runs f s t v w xs apart a b =
    let h : HoldsTheSame f (through f t) t v w = equations_hold_the_same f (through f t) t v w apart (λ n. refl) b in
    let k : AgreeOnBlocks s (through f t) xs = blocks_are_agreed_on s (through f t) xs a in
    then (h.blocks xs) (k.has_run v)

-- ---- what rests on what

pub known_given : KnownGivenBitsAreTheSame
known_given f g around new_around inner new_inner x e apart inner_apart a b =
    let h : IsGivenByTheSame f g (through f new_around) new_around (through g new_inner) new_inner x e
    = given_bits_are_the_same f g (through f new_around) new_around (through g new_inner) new_inner x e apart inner_apart (λ n. refl) (λ n. refl) in
    record {
      same = λ u y. then (h.same u y) (given_bits_are_agreed_on around (through f new_around) inner (through g new_inner) x e u y a b);
      only = h.only;
    }

pub known_dependences : KnownDependencesAreTheSame
known_dependences f s t x apart a =
    let h : DependsOnTheSame f (through f t) t x = dependences_are_the_same f (through f t) t x apart (λ n. refl) in
    let k : AgreeOnStatement s (through f t) x = statements_are_agreed_on s (through f t) x a in
    record { same = λ u y. then (h.same u y) (k.rests_on u y); only = h.only; others = h.others }
