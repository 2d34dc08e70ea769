-- Printed statements are no deeper than any tokens that spell them; and no more, where no colon stands behind default.
use Rattle.std.proofs.Common.{◌≡◌, ℕ, suc, ◌+◌, ◌≤◌, Bool, true, false, List, [], ◌∷◌, length, Option, Some, refl, ap, subst, arith}
use Rattle.std.specs.Prelude.{codes}
use Rattle.std.proofs.lemmas.Bool.{true≢false}
use Rattle.wb_values.specs.Value.{Name}
use Rattle.verilog_text.specs.Token.{left_parenthesis, right_parenthesis, semicolon, colon, equals, less_equals, Token, word, mark}
use Rattle.verilog_text.specs.Text.{Opening, in_parentheses, in_block, in_case, in_if, stays, step_of_word, step_of, behind_nearest, or_all, without_statements, without_choice, open_behind}
use Rattle.verilog_text.specs.Grammar.{case_word, IsBlockName, unnamed, named, IsPerhapsColon, with_colon, without_colon, IsStatement, nothing, blocks, waits, tested, decided, selected, in_block as block_spelled, AreStatements, no_statement, and_statements, IsItemBefore, for_values, for_others, AreItems, last_item, and_items}
use Rattle.verilog_trees.specs.Syntax as tree
use Rattle.verilog_trees.specs.Syntax.{Expression, Expressions, CaseKind, Statement, Statements, CaseItems, no_items}
use Rattle.verilog_text.specs.Spelling.{AreExpressions}
use Rattle.v_print.specs.Spelled.{bare, bare_parts}
use Rattle.v_print.specs.Bodies.{assignment_before, block_name_before, colon_if, bare_statement, bare_statements, bare_items}
use Rattle.v_print.specs.Printable.{IsPrintable, ArePrintable, IsPrintableStatement, ArePrintableStatements, ArePrintableItems}
use Rattle.v_print.proofs.Open.{IsShallow, shallow_by, name_stays, parts_fit}
use Rattle.v_print_source.proofs.Within.{behind_token, behind_stays}
use Rattle.v_print_source.proofs.WithinExpressions.{parts_inside}
use Rattle.v_print_source.proofs.Kept.{Keeps, nothing_kept, token_kept, pair_kept, whole_kept, assignment_kept}

-- ---- what may be open behind a statement: ifs over what was open

-- ; and : leave it as it is
pub record IsBase (base : List Opening) : Type 0 where
  pub statements : without_statements base ≡ base
  pub choice : without_choice base ≡ base

pub data IsOver (base : List Opening) : List Opening → Type 0 where
  at_base : IsOver base base
  with_if : (ys : List Opening) → IsOver base ys → IsOver base (in_if ∷ ys)

pub nothing_base : IsBase []
nothing_base = record { statements = refl; choice = refl }

block_base : (xs : List Opening) → IsBase (in_block ∷ xs)
block_base xs = record { statements = refl; choice = refl }

case_base : (xs : List Opening) → IsBase (in_case ∷ xs)
case_base xs = record { statements = refl; choice = refl }

over_ended : (base ys : List Opening) → IsBase base → IsOver base ys → without_statements ys ≡ base
over_ended base _ b at_base = b.statements
over_ended base _ b (with_if ys o) = over_ended base ys b o

over_parted : (base ys : List Opening) → IsBase base → IsOver base ys → without_choice ys ≡ ys
over_parted base _ b at_base = b.choice
over_parted base _ b (with_if ys o) = refl

nearest_block : (xs ys : List Opening) → IsOver (in_block ∷ xs) ys → behind_nearest in_block ys ≡ Some xs
nearest_block xs _ at_base = refl
nearest_block xs _ (with_if ys o) = nearest_block xs ys o

nearest_case : (xs ys : List Opening) → IsOver (in_case ∷ xs) ys → behind_nearest in_case ys ≡ Some xs
nearest_case xs _ at_base = refl
nearest_case xs _ (with_if ys o) = nearest_case xs ys o

-- Behind some tokens other ones may be open, over the same base; and so behind those that are printed in their place.
pub record Follows (c : Bool) (base xs : List Opening) (text rest : List Token) (f : List Token → List Token) : Type 0 where
  pub after : List Opening
  pub over : IsOver base after
  pub shallow : IsShallow after rest
  pub fits : (q : List Token) → IsShallow after q → IsShallow xs (f q)
  pub count : c ≡ false → (q : List Token) → length (f q) + length rest ≤ length text + length q

pub followed_as : (c : Bool) (base xs : List Opening) (text rest : List Token) (f g : List Token → List Token) → ((q : List Token) → f q ≡ g q) → Follows c base xs text rest f → Follows c base xs text rest g
followed_as c base xs text rest f g e = subst (Follows c base xs text rest) (λ i q. e q i)

pub nothing_follows : (c : Bool) (base xs : List Opening) (rest : List Token) → IsOver base xs → IsShallow xs rest → Follows c base xs rest rest (λ q. q)
nothing_follows c base xs rest o s = record { after = xs; over = o; shallow = s; fits = λ q h. h; count = λ e q. turned (length q) (length rest) }
  where
    turned : (q r : ℕ) → q + r ≤ r + q
    turned q r = omega arith

sums : (l r m s t q : ℕ) → l + m ≤ t + r → r + s ≤ m + q → l + s ≤ t + q
sums l r m s t q h g = omega (arith, h, g)

pub kept_then : (c : Bool) (base xs : List Opening) (text more rest : List Token) (f g : List Token → List Token) → Keeps xs text more f → Follows c base xs more rest g → Follows c base xs text rest (λ q. f (g q))
kept_then c base xs text more rest f g a b = record {
  after = b.after;
  over = b.over;
  shallow = b.shallow;
  fits = λ q h. a.fits (g q) (b.fits q h);
  count = λ e q. sums (length (f (g q))) (length (g q)) (length more) (length rest) (length text) (length q) (a.count (g q)) (b.count e q);
}

pub then_follows : (c : Bool) (base xs : List Opening) (text more rest : List Token) (f g : List Token → List Token) → Follows c base xs text more f
    → ((ys : List Opening) → IsOver base ys → IsShallow ys more → Follows c base ys more rest g) → Follows c base xs text rest (λ q. f (g q))
then_follows c base xs text more rest f g a next =
    let b = next a.after a.over a.shallow in
    record {
      after = b.after;
      over = b.over;
      shallow = b.shallow;
      fits = λ q h. a.fits (g q) (b.fits q h);
      count = λ e q. sums (length (f (g q))) (length (g q)) (length more) (length rest) (length text) (length q) (a.count e (g q)) (b.count e q);
    }

one_more : (a b n q : ℕ) → a + b ≤ n + q → suc a + b ≤ suc n + q
one_more a b n q h = omega (arith, h)

-- a token in front, behind which these are open
pub token_then : (c : Bool) (base : List Opening) (t : Token) (xs ys : List Opening) (text rest : List Token) (f : List Token → List Token) → open_behind (step_of t) xs ≡ ys → IsShallow xs (t ∷ text)
    → (IsShallow ys text → Follows c base ys text rest f) → Follows c base xs (t ∷ text) rest (λ q. t ∷ f q)
token_then c base t xs ys text rest f e s next =
    let a = behind_token t xs ys text e s in
    let b = next a.1 in
    record {
      after = b.after;
      over = b.over;
      shallow = b.shallow;
      fits = λ q h. shallow_by t xs ys (f q) e a.0 (b.fits q h);
      count = λ n q. one_more (length (f q)) (length rest) (length text) (length q) (b.count n q);
    }

-- a token that is all
pub token_follows : (c : Bool) (base : List Opening) (t : Token) (xs ys : List Opening) (rest : List Token) → open_behind (step_of t) xs ≡ ys → IsOver base ys → IsShallow xs (t ∷ rest) → Follows c base xs (t ∷ rest) rest (λ q. t ∷ q)
token_follows c base t xs ys rest e o s = token_then c base t xs ys rest rest (λ q. q) e s (λ h. nothing_follows c base ys rest o h)

-- the mark that ends a statement
pub ended_follows : (c : Bool) (base xs : List Opening) (rest : List Token) → IsBase base → IsOver base xs → IsShallow xs (mark semicolon ∷ rest) → Follows c base xs (mark semicolon ∷ rest) rest (λ q. mark semicolon ∷ q)
unfolding open_behind
ended_follows c base xs rest b o s = token_follows c base (mark semicolon) xs base rest (over_ended base xs b o) at_base s

-- between a word that opens and one that closes again
nested_follows : (c : Bool) (x : Opening) (o k : Token) (base xs : List Opening) (text rest : List Token) (f : List Token → List Token) → open_behind (step_of o) xs ≡ x ∷ xs
    → ((ys : List Opening) → IsOver (x ∷ xs) ys → open_behind (step_of k) ys ≡ xs) → IsOver base xs → IsShallow xs (o ∷ text) → (IsShallow (x ∷ xs) text → Follows c (x ∷ xs) (x ∷ xs) text (k ∷ rest) f)
    → Follows c base xs (o ∷ text) rest (λ q. o ∷ f (k ∷ q))
nested_follows c x o k base xs text rest f e closing over s inner =
    let a = behind_token o xs (x ∷ xs) text e s in
    let i = inner a.1 in
    let gone = closing i.after i.over in
    let b = behind_token k i.after xs rest gone i.shallow in
    record {
      after = xs;
      over = over;
      shallow = b.1;
      fits = λ q h. shallow_by o xs (x ∷ xs) (f (k ∷ q)) e a.0 (i.fits (k ∷ q) (shallow_by k i.after xs q gone b.0 h));
      count = λ n q. by (length (f (k ∷ q))) (length rest) (length text) (length q) (i.count n (k ∷ q));
    }
  where
    by : (a r t q : ℕ) → a + suc r ≤ t + suc q → suc a + r ≤ suc t + q
    by a r t q h = omega (arith, h)

-- ---- words

if_opens : (xs : List Opening) → open_behind (step_of (word (codes "if"))) xs ≡ in_if ∷ xs
unfolding step_of_word open_behind
if_opens xs = refl

else_stays : (xs : List Opening) → open_behind (step_of (word (codes "else"))) xs ≡ xs
unfolding step_of_word open_behind
else_stays xs = refl

default_stays : step_of (word (codes "default")) ≡ stays
unfolding step_of_word
default_stays = refl

begin_opens : (xs : List Opening) → open_behind (step_of (word (codes "begin"))) xs ≡ in_block ∷ xs
unfolding step_of_word open_behind
begin_opens xs = refl

end_closes : (xs ys : List Opening) → IsOver (in_block ∷ xs) ys → open_behind (step_of (word (codes "end"))) ys ≡ xs
unfolding step_of_word open_behind
end_closes xs ys o = ap (or_all ys) (nearest_block xs ys o)

case_opens : (k : CaseKind) (xs : List Opening) → open_behind (step_of (word (case_word k))) xs ≡ in_case ∷ xs
unfolding step_of_word open_behind
case_opens tree.exact_case xs = refl
case_opens tree.wild_case xs = refl

endcase_closes : (xs ys : List Opening) → IsOver (in_case ∷ xs) ys → open_behind (step_of (word (codes "endcase"))) ys ≡ xs
unfolding step_of_word open_behind
endcase_closes xs ys o = ap (or_all ys) (nearest_case xs ys o)

-- : where no choice is open
colon_parts : (base xs : List Opening) → IsBase base → IsOver base xs → open_behind (step_of (mark colon)) xs ≡ xs
unfolding open_behind
colon_parts base xs b o = over_parted base xs b o

-- ---- parts of statements

block_name_kept : (n : Option Name) (text rest : List Token) → IsBlockName n text rest → (xs : List Opening) → IsShallow (in_block ∷ xs) text → Keeps (in_block ∷ xs) text rest (block_name_before n)
block_name_kept _ _ _ (unnamed rest) xs s = nothing_kept (in_block ∷ xs) rest s
block_name_kept _ _ _ (named n rest free) xs s =
    let e = colon_parts (in_block ∷ xs) (in_block ∷ xs) (block_base xs) at_base in
    let a = behind_token (mark colon) (in_block ∷ xs) (in_block ∷ xs) (word n ∷ rest) e s in
    let i = token_kept (word n) (in_block ∷ xs) rest (name_stays n free) a.1 in
    record {
      shallow = i.shallow;
      fits = λ q h. shallow_by (mark colon) (in_block ∷ xs) (in_block ∷ xs) (word n ∷ q) e a.0 (i.fits q h);
      count = λ q. two (length q) (length rest);
    }
  where
    two : (q r : ℕ) → suc (suc q) + r ≤ suc (suc r) + q
    two q r = omega arith

-- ( expression )
condition_kept : (e : Expression) (text rest : List Token) → IsPrintable e → ((xs : List Opening) → IsShallow xs text → Keeps xs text (mark right_parenthesis ∷ rest) (bare e)) → (xs : List Opening) → IsShallow xs (mark left_parenthesis ∷ text)
    → Keeps xs (mark left_parenthesis ∷ text) rest (λ q. mark left_parenthesis ∷ bare e (mark right_parenthesis ∷ q))
condition_kept e text rest p d xs s = pair_kept in_parentheses (mark left_parenthesis) (mark right_parenthesis) xs text rest (bare e) refl refl s (λ h. d (in_parentheses ∷ xs) h)

values_kept : (es : Expressions) (text rest : List Token) → AreExpressions es text rest → ArePrintable es → (xs : List Opening) → IsShallow xs text → Keeps xs text rest (bare_parts false es)
values_kept es text rest d p xs s =
    let i = parts_inside es text rest d xs s in
    record { shallow = i.shallow; fits = λ q h. parts_fit false es p xs q i.room h; count = i.count }

-- a colon that may be left out, printed or not
colon_follows : (c : Bool) (base xs : List Opening) (text rest : List Token) → IsPerhapsColon text rest → IsBase base → IsOver base xs → length xs ≤ 200 → IsShallow xs text → Follows c base xs text rest (colon_if c)
colon_follows true base xs _ _ (with_colon rest) b o l s = token_follows true base (mark colon) xs xs rest (colon_parts base xs b o) o s
colon_follows true base xs _ _ (without_colon rest) b o l s = record {
  after = xs;
  over = o;
  shallow = s;
  fits = λ q h. shallow_by (mark colon) xs xs q (colon_parts base xs b o) l h;
  count = λ e. absurd (true≢false e);
}
colon_follows false base xs _ _ (with_colon rest) b o l s =
    let a = behind_token (mark colon) xs xs rest (colon_parts base xs b o) s in
    record { after = xs; over = o; shallow = a.1; fits = λ q h. h; count = λ e q. turned (length q) (length rest) }
  where
    turned : (q r : ℕ) → q + r ≤ suc r + q
    turned q r = omega arith
colon_follows false base xs _ _ (without_colon rest) b o l s = nothing_follows false base xs rest o s

-- ---- statements

-- what an item of a case puts in front of the others
record ItemFollows (c : Bool) (base xs : List Opening) (text rest : List Token) (others items : CaseItems) : Type 0 where
  front : List Token → List Token
  is : (q : List Token) → front (bare_items c others q) ≡ bare_items c items q
  follows : Follows c base xs text rest front

mutual
  pub statement_follows : (c : Bool) (base : List Opening) → IsBase base → (s : Statement) (text rest : List Token) → IsStatement s text rest → IsPrintableStatement s → (xs : List Opening) → IsOver base xs → IsShallow xs text
      → Follows c base xs text rest (bare_statement c s)
  statement_follows c base b _ _ _ (nothing rest) p xs o h = ended_follows c base xs rest b o h
  statement_follows c base b _ _ _ (blocks t e text rest d) p xs o h =
      let a = assignment_kept equals (t, e) text (mark semicolon ∷ rest) d refl p.0 p.1 xs h in
      kept_then c base xs text (mark semicolon ∷ rest) rest (assignment_before equals t e) (λ q. mark semicolon ∷ q) a (ended_follows c base xs rest b o a.shallow)
  statement_follows c base b _ _ _ (waits t e text rest d) p xs o h =
      let a = assignment_kept less_equals (t, e) text (mark semicolon ∷ rest) d refl p.0 p.1 xs h in
      kept_then c base xs text (mark semicolon ∷ rest) rest (assignment_before less_equals t e) (λ q. mark semicolon ∷ q) a (ended_follows c base xs rest b o a.shallow)
  statement_follows c base b _ _ _ (tested e s text more rest de ds) p xs o h =
      token_then c base (word (codes "if")) xs (in_if ∷ xs) (mark left_parenthesis ∷ text) rest (λ q. mark left_parenthesis ∷ bare e (mark right_parenthesis ∷ bare_statement c s q)) (if_opens xs) h (λ g.
      let a = condition_kept e text more p.0 (λ ys k. whole_kept e text (mark right_parenthesis ∷ more) de p.0 ys k) (in_if ∷ xs) g in
      kept_then c base (in_if ∷ xs) (mark left_parenthesis ∷ text) more rest (λ q. mark left_parenthesis ∷ bare e (mark right_parenthesis ∷ q)) (bare_statement c s) a
      (statement_follows c base b s more rest ds p.1 (in_if ∷ xs) (with_if xs o) a.shallow))
  statement_follows c base b _ _ _ (decided e s t text more other rest de ds nearest dt) p xs o h =
      token_then c base (word (codes "if")) xs (in_if ∷ xs) (mark left_parenthesis ∷ text) rest (λ q. mark left_parenthesis ∷ bare e (mark right_parenthesis ∷ bare_statement c s (word (codes "else") ∷ bare_statement c t q))) (if_opens xs) h (λ g.
      let a = condition_kept e text more p.0 (λ ys k. whole_kept e text (mark right_parenthesis ∷ more) de p.0 ys k) (in_if ∷ xs) g in
      kept_then c base (in_if ∷ xs) (mark left_parenthesis ∷ text) more rest (λ q. mark left_parenthesis ∷ bare e (mark right_parenthesis ∷ q)) (λ q. bare_statement c s (word (codes "else") ∷ bare_statement c t q)) a
      (then_follows c base (in_if ∷ xs) more (word (codes "else") ∷ other) rest (bare_statement c s) (λ q. word (codes "else") ∷ bare_statement c t q)
      (statement_follows c base b s more (word (codes "else") ∷ other) ds p.1 (in_if ∷ xs) (with_if xs o) a.shallow)
      (λ ys over k. token_then c base (word (codes "else")) ys ys other rest (bare_statement c t) (else_stays ys) k (λ l. statement_follows c base b t other rest dt p.2 ys over l))))
  statement_follows c base b _ _ _ (selected k e items text more rest de ds few) p xs o h =
      nested_follows c in_case (word (case_word k)) (word (codes "endcase")) base xs (mark left_parenthesis ∷ text) rest (λ q. mark left_parenthesis ∷ bare e (mark right_parenthesis ∷ bare_items c items q)) (case_opens k xs) (endcase_closes xs) o h (λ g.
      let a = condition_kept e text more p.0 (λ ys l. whole_kept e text (mark right_parenthesis ∷ more) de p.0 ys l) (in_case ∷ xs) g in
      kept_then c (in_case ∷ xs) (in_case ∷ xs) (mark left_parenthesis ∷ text) more (word (codes "endcase") ∷ rest) (λ q. mark left_parenthesis ∷ bare e (mark right_parenthesis ∷ q)) (bare_items c items) a
      (items_follow c (in_case ∷ xs) (case_base xs) items more (word (codes "endcase") ∷ rest) ds p.2 (in_case ∷ xs) at_base a.shallow))
  statement_follows c base b _ _ _ (block_spelled n ss text more rest dn ds) p xs o h =
      nested_follows c in_block (word (codes "begin")) (word (codes "end")) base xs text rest (λ q. block_name_before n (bare_statements c ss q)) (begin_opens xs) (end_closes xs) o h (λ g.
      let a = block_name_kept n text more dn xs g in
      kept_then c (in_block ∷ xs) (in_block ∷ xs) text more (word (codes "end") ∷ rest) (block_name_before n) (bare_statements c ss) a
      (statements_follow c (in_block ∷ xs) (block_base xs) ss more (word (codes "end") ∷ rest) ds p.1 (in_block ∷ xs) at_base a.shallow))

  statements_follow : (c : Bool) (base : List Opening) → IsBase base → (ss : Statements) (text rest : List Token) → AreStatements ss text rest → ArePrintableStatements ss → (xs : List Opening) → IsOver base xs → IsShallow xs text
      → Follows c base xs text rest (bare_statements c ss)
  statements_follow c base b _ _ _ (no_statement rest) p xs o h = nothing_follows c base xs rest o h
  statements_follow c base b _ _ _ (and_statements s ss text more rest d ds) p xs o h =
      then_follows c base xs text more rest (bare_statement c s) (bare_statements c ss) (statement_follows c base b s text more d p.0 xs o h)
      (λ ys over k. statements_follow c base b ss more rest ds p.1 ys over k)

  item_follows : (c : Bool) (base : List Opening) → IsBase base → (others items : CaseItems) (text rest : List Token) → IsItemBefore others items text rest → ArePrintableItems items → (xs : List Opening) → IsOver base xs → IsShallow xs text
      → ItemFollows c base xs text rest others items
  item_follows c base b _ _ _ _ (for_values es s items text more rest des ds) p xs o h =
      let a = values_kept es text (mark colon ∷ more) des p.1 xs h in
      record {
        front = λ q. bare_parts false es (mark colon ∷ bare_statement c s q);
        is = λ q. refl;
        follows =
            kept_then c base xs text (mark colon ∷ more) rest (bare_parts false es) (λ q. mark colon ∷ bare_statement c s q) a
            (token_then c base (mark colon) xs xs more rest (bare_statement c s) (colon_parts base xs b o) a.shallow (λ k. statement_follows c base b s more rest ds p.2 xs o k));
      }
  item_follows c base b _ _ _ _ (for_others s items text more rest dc ds) p xs o h =
      let l = behind_stays (word (codes "default")) xs text default_stays h in
      record {
        front = λ q. word (codes "default") ∷ colon_if c (bare_statement c s q);
        is = λ q. refl;
        follows =
            kept_then c base xs (word (codes "default") ∷ text) text rest (λ q. word (codes "default") ∷ q) (λ q. colon_if c (bare_statement c s q)) (token_kept (word (codes "default")) xs text default_stays h)
            (then_follows c base xs text more rest (colon_if c) (bare_statement c s) (colon_follows c base xs text more dc b o l.0 l.1) (λ ys over k. statement_follows c base b s more rest ds p.0 ys over k));
      }

  items_follow : (c : Bool) (base : List Opening) → IsBase base → (items : CaseItems) (text rest : List Token) → AreItems items text rest → ArePrintableItems items → (xs : List Opening) → IsOver base xs → IsShallow xs text
      → Follows c base xs text rest (bare_items c items)
  items_follow c base b _ _ _ (last_item items text rest d) p xs o h =
      let i = item_follows c base b no_items items text rest d p xs o h in
      followed_as c base xs text rest i.front (bare_items c items) i.is i.follows
  items_follow c base b _ _ _ (and_items items others text more rest d ds) p xs o h =
      let i = item_follows c base b others items text more d p xs o h in
      followed_as c base xs text rest (λ q. i.front (bare_items c others q)) (bare_items c items) i.is
      (then_follows c base xs text more rest i.front (bare_items c others) i.follows (λ ys over k. items_follow c base b others more rest ds (others_printable others items text more d p) ys over k))

  others_printable : (others items : CaseItems) (text rest : List Token) → IsItemBefore others items text rest → ArePrintableItems items → ArePrintableItems others
  others_printable _ _ _ _ (for_values es s items text more rest des ds) p = p.3
  others_printable _ _ _ _ (for_others s items text more rest dc ds) p = p.1
