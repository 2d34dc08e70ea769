use Rattle.std.proofs.Common.{refl, [], ◌∷◌, ◌++◌}
use Rattle.ila_model.specs.Model.{model_of}
use Rattle.v_syntax.specs.Source.{source_of}
use Rattle.map_files.specs.Meaning.{BadExpression, WidthMismatch, MapUsesInput, MemoryMismatch}
use Rattle.map_file.specs.View.{map_view}
use Rattle.map_rules.specs.Case.{case_design}
use Rattle.map_rules.specs.Accepted.{case_of}
use Rattle.map_reading.specs.Judged.{IsMapJudged, name_rules, expression_rules, entry_rules}
use Rattle.map_reading.proofs.First.{stopped, handed_up, none_before, judged_stop, unread_stop, accepted}
use Rattle.map_reading.proofs.reading.read_map.Goals as goal

pub trees_passed-requires : goal.trees_passed-requires
trees_passed-requires c =
    record {
      tokens = c.requires.tokens;
      stands = c.in_ok-trees.ensures (model_of c.args.model.now) (map_view c.args.tokens.now.map.now) c.requires.tokens;
      places = c.requires.places;
    }

pub memories_passed-requires : goal.memories_passed-requires
memories_passed-requires c =
    (case_design (case_of (map_view c.args.tokens.now.map.now) (model_of c.args.model.now) (source_of c.args.tree.now)), c.requires.places)

pub returns-in_err-names_passed : goal.returns-in_err-names_passed
returns-in_err-names_passed c =
    let k = case_of (map_view c.args.tokens.now.map.now) (model_of c.args.model.now) (source_of c.args.tree.now) in
    let s = c.in_err-names_passed.field-0.0 in
    record {
      judged =
          handed_up (IsMapJudged k) c.from_residual.result s c.from_residual.ensures.1
          (judged_stop k s (stopped k ([]) name_rules (expression_rules ++ entry_rules) s refl (c.in_err-names_passed.ensures (source_of c.args.tree.now))));
    }

pub returns-in_err-trees : goal.returns-in_err-trees
returns-in_err-trees c =
    let k = case_of (map_view c.args.tokens.now.map.now) (model_of c.args.model.now) (source_of c.args.tree.now) in
    let s = c.in_err-trees.field-0.0 in
    record {
      judged =
          handed_up (IsMapJudged k) c.from_residual-in_err-trees.result s c.from_residual-in_err-trees.ensures.1
          (judged_stop k s
          (stopped k name_rules (BadExpression ∷ []) (WidthMismatch ∷ MapUsesInput ∷ MemoryMismatch ∷ entry_rules) s (c.in_ok-names_passed.ensures (source_of c.args.tree.now))
          (unread_stop k s (c.in_err-trees.ensures (model_of c.args.model.now) (map_view c.args.tokens.now.map.now) c.requires.tokens))));
    }

pub returns-in_err-trees_passed : goal.returns-in_err-trees_passed
returns-in_err-trees_passed c =
    let k = case_of (map_view c.args.tokens.now.map.now) (model_of c.args.model.now) (source_of c.args.tree.now) in
    let s = c.in_err-trees_passed.field-0.0 in
    record {
      judged =
          handed_up (IsMapJudged k) c.from_residual-in_err-trees_passed.result s c.from_residual-in_err-trees_passed.ensures.1
          (judged_stop k s
          (stopped k name_rules (BadExpression ∷ WidthMismatch ∷ MapUsesInput ∷ []) (MemoryMismatch ∷ entry_rules) s (c.in_ok-names_passed.ensures (source_of c.args.tree.now))
          c.in_err-trees_passed.ensures));
    }

pub returns-in_err-memories_passed : goal.returns-in_err-memories_passed
returns-in_err-memories_passed c =
    let k = case_of (map_view c.args.tokens.now.map.now) (model_of c.args.model.now) (source_of c.args.tree.now) in
    let s = c.in_err-memories_passed.field-0.0 in
    let names = c.in_ok-names_passed.ensures (source_of c.args.tree.now) in
    let trees = none_before k name_rules (BadExpression ∷ WidthMismatch ∷ MapUsesInput ∷ []) _ names c.in_ok-trees_passed.ensures in
    record {
      judged =
          handed_up (IsMapJudged k) c.from_residual-in_err-memories_passed.result s c.from_residual-in_err-memories_passed.ensures.1
          (judged_stop k s
          (stopped k (name_rules ++ (BadExpression ∷ WidthMismatch ∷ MapUsesInput ∷ [])) (MemoryMismatch ∷ []) entry_rules s trees
          (c.in_err-memories_passed.ensures (source_of c.args.tree.now) c.requires.places)));
    }

pub returns-in_err-entries_passed : goal.returns-in_err-entries_passed
returns-in_err-entries_passed c =
    let k = case_of (map_view c.args.tokens.now.map.now) (model_of c.args.model.now) (source_of c.args.tree.now) in
    let s = c.in_err-entries_passed.field-0.0 in
    let names = c.in_ok-names_passed.ensures (source_of c.args.tree.now) in
    let memories = c.in_ok-memories_passed.ensures (source_of c.args.tree.now) c.requires.places in
    let expressions = none_before k (BadExpression ∷ WidthMismatch ∷ MapUsesInput ∷ []) (MemoryMismatch ∷ []) _ c.in_ok-trees_passed.ensures memories in
    record {
      judged =
          handed_up (IsMapJudged k) c.from_residual-in_err-entries_passed.result s c.from_residual-in_err-entries_passed.ensures.1
          (judged_stop k s
          (stopped k (name_rules ++ expression_rules) entry_rules ([]) s (none_before k name_rules expression_rules _ names expressions)
          (c.in_err-entries_passed.ensures (source_of c.args.tree.now))));
    }

pub returns : goal.returns
returns c =
    let k = case_of (map_view c.args.tokens.now.map.now) (model_of c.args.model.now) (source_of c.args.tree.now) in
    let names = c.in_ok-names_passed.ensures (source_of c.args.tree.now) in
    let memories = c.in_ok-memories_passed.ensures (source_of c.args.tree.now) c.requires.places in
    let expressions = none_before k (BadExpression ∷ WidthMismatch ∷ MapUsesInput ∷ []) (MemoryMismatch ∷ []) _ c.in_ok-trees_passed.ensures memories in
    let front = none_before k name_rules expression_rules _ names expressions in
    record {
      judged = (
        accepted k (none_before k (name_rules ++ expression_rules) entry_rules _ front (c.in_ok-entries_passed.ensures (source_of c.args.tree.now))),
        c.in_ok-trees.ensures (model_of c.args.model.now) (map_view c.args.tokens.now.map.now) c.requires.tokens,
      );
    }
