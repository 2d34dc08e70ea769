-- A target or assignment that is spelled so, in front of what does not go on with it, is read.
use Rattle.std.proofs.Common.{◌≡◌, ℕ, zero, suc, ◌<◌, ◌≤◌, List, [], ◌∷◌, length, Some, refl, ap, ◌∙◌, arith}
use Rattle.wb_values.specs.Value.{Name}
use Rattle.verilog_text.specs.Token.{Mark, left_brace, right_brace, comma, Token, word, mark}
use Rattle.verilog_trees.specs.Syntax as tree
use Rattle.verilog_trees.specs.Syntax.{Expression, Selects, Target, Targets, no_targets, target}
use Rattle.verilog_text.specs.Spelling.{IsIdentifier, AreSelects}
use Rattle.verilog_text.specs.Grammar.{IsTarget, a_place, some_joined, AreTargets, last_target, and_targets, IsAssignment, assigned}
use Rattle.v_expr.specs.Ending.{EndsMark, Ends}
use Rattle.v_expr.specs.Repeat.{Read}
use Rattle.v_expr.specs.Reading.{after_mark}
use Rattle.v_expr.proofs.Places.{mark_again}
use Rattle.v_expr.proofs.Whole.{whole_again, whole_selects_again}
use Rattle.v_body.specs.Targets.{as_targets, place_at, joined_at, outer_target_at, target_in, target_at, assignment_at}
use Rattle.v_body.proofs.Words.{name_again, no_mark_at_word}
use Rattle.v_body.proofs.Lists.{Listed, listed_last, listed_more, listed_again}
use Rattle.v_body.proofs.Longer.{target_longer, target_in_shrinks}

place_again : (one : List Token → Read Token Target) (k : ℕ) (n : Name) (s : Selects) (text rest : List Token) → IsIdentifier n → AreSelects s text rest → Ends k rest
    → outer_target_at one (word n ∷ text) ≡ Some (tree.place n s, rest)
unfolding outer_target_at place_at
place_again one k n s text rest h d ends = rw (no_mark_at_word left_brace n text, name_again n text h, whole_selects_again k s text rest d ends) refl

-- targets by the readings of each
record AreRead (one : List Token → Read Token Target) (ts : Targets) (text rest : List Token) : Type 0 where
  list : List Target
  are : as_targets list ≡ ts
  readings : Listed right_brace one list text rest

joined_again : (d : ℕ) (ts : Targets) (text rest : List Token) → AreRead (target_in d) ts text rest → outer_target_at (target_in d) (mark left_brace ∷ text) ≡ Some (tree.joined ts, rest)
unfolding outer_target_at joined_at
joined_again d ts text rest p =
    let now : outer_target_at (target_in d) (mark left_brace ∷ text) ≡ Some (tree.joined (as_targets p.list), rest) =
    rw (mark_again left_brace text, listed_again right_brace (target_in d) (target_in_shrinks d) p.list text rest p.readings) refl in
    now ∙ ap (λ (us : Targets). Some (tree.joined us, rest)) p.are

mutual
  unfolding target_in

  pub target_in_again : (d k : ℕ) (t : Target) (text rest : List Token) → IsTarget t text rest → length text ≤ d → Ends k rest → target_in d text ≡ Some (t, rest)
  target_in_again zero k _ _ _ (a_place n s text rest free p) low ends = absurd (omega (arith, low))
  target_in_again zero k _ _ _ (some_joined ts text rest p) low ends = absurd (omega (arith, low))
  target_in_again (suc d) k _ _ _ (a_place n s text rest free p) low ends = place_again (target_in d) k n s text rest free p ends
  target_in_again (suc d) k _ _ _ (some_joined ts text rest p) low ends =
      joined_again d ts text rest (targets_again d ts text (mark right_brace ∷ rest) rest p (omega (arith, low)) (mark_again right_brace rest) (tt, refl, λ _. refl))

  targets_again : (d : ℕ) (ts : Targets) (text stop rest : List Token) → AreTargets ts text stop → length text ≤ d → after_mark right_brace stop ≡ Some rest → Ends 0 stop → AreRead (target_in d) ts text rest
  targets_again d _ _ _ rest (last_target t text stop p) low closes ends = record {
    list = t ∷ [];
    are = refl;
    readings = listed_last right_brace (target_in d) t text stop rest (target_in_again d 0 t text stop p low ends) closes;
  }
  targets_again d _ _ _ rest (and_targets t ts text more stop p ps) low closes ends =
      let shorter : length (mark comma ∷ more) < length text = target_longer t text (mark comma ∷ more) p in
      let others = targets_again d ts more stop rest ps (omega (arith, low, shorter)) closes ends in
      record {
        list = t ∷ others.list;
        are = ap (target t) others.are;
        readings = listed_more right_brace (target_in d) t others.list text more rest refl (target_in_again d 0 t text (mark comma ∷ more) p low (tt, refl, λ _. refl)) others.readings;
      }

pub target_again : (k : ℕ) (t : Target) (text rest : List Token) → IsTarget t text rest → Ends k rest → target_at text ≡ Some (t, rest)
unfolding target_at
target_again k t text rest d ends = target_in_again (length text) k t text rest d (omega arith) ends

-- the sign ends the target, and what follows the value
pub assignment_again : (k : ℕ) (sign : Mark) → EndsMark k sign → (x : Target × Expression) (text rest : List Token) → IsAssignment sign x text rest → Ends 0 rest → assignment_at sign text ≡ Some (x, rest)
unfolding assignment_at
assignment_again k sign ends _ _ _ (assigned t e text value rest dt de) finishes =
    rw (target_again k t text (mark sign ∷ value) dt ends, mark_again sign value, whole_again e value rest de finishes) refl
