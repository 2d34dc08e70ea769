-- Visit after visit: all marked bits come from the roots, and where none was marked none is left.
use Rattle.std.proofs.Common.{◌≡◌, ◌∙◌, ℕ, zero, suc, refl, sym, subst, Bool, true, false, List, [], ◌∷◌, drop, inl, inr}
use Rattle.std.specs.Prelude.{IsTrue, ◌||◌, Contains}
use Rattle.std.proofs.lemmas.Bool.{false≢true, true≢false}
use Rattle.verilog_trees.specs.Syntax.{Statement, Item}
use Rattle.verilog_meaning.specs.Expression.{Scope}
use Rattle.verilog_meaning.specs.Register.{combinational_blocks}
use Rattle.verilog_meaning.specs.Settled.{assignments}
use Rattle.verilog_unique.proofs.Descent.{IsAmong, among_contains, contains_among}
use Rattle.verilog_designs.specs.Reads.{BitSet}
use Rattle.verilog_designs.specs.Dependence.{Bit, is_in}
use Rattle.v_order.specs.declared.driver.Driver.{Driver}
use Rattle.v_order.specs.Drivers.{as_statements, drivers}
use Rattle.v_order.specs.Lists.{statement_in, statements_in}
use Rattle.v_paths.specs.Premises.{HasNoMemory}
use Rattle.v_loops.specs.OneModule.{DependsIn, DependsFarIn}
use Rattle.v_loops.specs.Turns.{RestsBy, RestsInTurn, AreOf}
use Rattle.v_loops.proofs.Steps.{RestsWhereItDepends, one-here, to-there, turn-depends}
use Rattle.v_loops.proofs.Listed.{kind-of}
use Rattle.v_reach.specs.Coming.{ComesFrom, itself, through}
use Rattle.v_reach.specs.Marking.{HasAll, AllCome, IsSpread, IsClosed, IsMore, IsGrown, IsVisited}

-- ---- where marked bits come from

step-comes : (s : Scope) (items : List Item) (roots : BitSet) (u y : Bit) → DependsIn s items u y → ComesFrom s items roots y → ComesFrom s items roots u
step-comes s items roots u y d (itself h) = through y (DependsFarIn.step u y d) h
step-comes s items roots u y d (through z f h) = through z (DependsFarIn.further u y z d f) h

rests-in-turn : (p : BitSet) (s : Scope) (items : List Item) (x : Statement) (u : Bit) → IsAmong (drivers items) x → RestsBy false p s x u → RestsInTurn false p s items u
rests-in-turn p s items x u h r =
    elim (kind-of items x h) as (λ _. RestsInTurn false p s items u) [
      | inl k ↦ inl (one-here false p s (as_statements (assignments items)) x u k r)
      | inr k ↦ inr (one-here false p s (combinational_blocks items) x u k r)
    ]

pub visited-spread : (law : RestsWhereItDepends) (s : Scope) (xs : List Statement) (x : Statement) → IsAmong xs x → (some : Bool) (before after : BitSet)
    → IsVisited some s x before after → IsSpread s xs before after
visited-spread law s xs x among some before after v = record { more = v.more; free = v.free; come = come }
  where
    come : (items : List Item) (roots : BitSet) → AreOf s items xs → HasNoMemory s before → AllCome s items roots before → AllCome s items roots after
    come items roots o none all u there h =
        elim (v.rests u there h) as (λ _. ComesFrom s items roots u) [
          | inl k ↦ all u there k
          | inr r ↦
              let d = turn-depends law s items before o.runnable.constant none u
              (rests-in-turn before s items x u (subst (λ (zs : List Statement). IsAmong zs x) (sym o.same) among) r) in
              step-comes s items roots u d.0 d.1 (all d.0 (to-there s items u d.0 d.1) d.2)
        ]

pub none-spread : (s : Scope) (xs : List Statement) (p : BitSet) → IsSpread s xs p p
none-spread s xs p = record { more = λ n k b h. h; free = λ h. h; come = λ items roots o none all. all }

pub spread-then : (s : Scope) (xs : List Statement) (before now after : BitSet) → IsSpread s xs before now → IsSpread s xs now after → IsSpread s xs before after
spread-then s xs before now after f g =
    record {
      more = λ n k b h. g.more n k b (f.more n k b h);
      free = λ h. g.free (f.free h);
      come = λ items roots o none all. g.come items roots o (f.free none) (f.come items roots o none all);
    }

-- ---- whether one was marked

-- of the drivers before: one was marked by them, or nothing is left of these where nothing is left of the rest
abbrev pub IsGrownSoFar : (some : Bool) → Scope → (whole rest : List Statement) → (before now : BitSet) → Type 0
IsGrownSoFar true s whole rest before now = IsMore s whole before now
IsGrownSoFar false s whole rest before now = (now ≡ before) × (IsClosed now s rest → IsClosed now s whole)

pub grown-begun : (s : Scope) (xs : List Statement) (p : BitSet) → IsGrownSoFar false s xs xs p p
grown-begun s xs p = (refl, λ h. h)

more-after : (s : Scope) (xs : List Statement) (before now after : BitSet) → HasAll now after → IsMore s xs before now → IsMore s xs before after
more-after s xs before now after f m =
    record {
      driver = m.driver;
      stands = m.stands;
      bit = m.bit;
      there = m.there;
      assigned = m.assigned;
      marked = f m.bit.of_name m.bit.word m.bit.place m.marked;
      was_not = m.was_not;
    }

closed-both : (p : BitSet) (s : Scope) (x : Statement) (rest : List Statement) → IsClosed p s (x ∷ []) → IsClosed p s rest → IsClosed p s (x ∷ rest)
closed-both p s x rest f g y u c r = at (among_contains (x ∷ rest) y c)
  where
    at : IsAmong (x ∷ rest) y → IsTrue (is_in p u)
    at (inl e) = f y u (contains_among (x ∷ []) y (inl e)) r
    at (inr h) = g y u (contains_among rest y h) r

among-whole : (whole : List Statement) (x y : Statement) → IsAmong whole x → IsAmong (x ∷ []) y → IsAmong whole y
among-whole whole x y h (inl e) = subst (λ (z : Statement). IsAmong whole z) e h
among-whole whole x y h (inr g) = absurd g

pub grown-turn : (some more : Bool) (s : Scope) (whole rest : List Statement) (x : Statement) → IsAmong whole x → (before now after : BitSet) → HasAll now after
    → IsGrownSoFar some s whole (x ∷ rest) before now → IsGrown more s (x ∷ []) now after → IsGrownSoFar (some || more) s whole rest before after
grown-turn true more s whole rest x among before now after f m g = more-after s whole before now after f m
grown-turn false true s whole rest x among before now after f m g =
    record {
      driver = g.driver;
      stands = contains_among whole g.driver (among-whole whole x g.driver among (among_contains (x ∷ []) g.driver g.stands));
      bit = g.bit;
      there = g.there;
      assigned = g.assigned;
      marked = g.marked;
      was_not = subst (λ (p : BitSet). is_in p g.bit ≡ false) m.0 g.was_not;
    }
grown-turn false false s whole rest x among before now after f m g =
    let closed : IsClosed now s (x ∷ []) = subst (λ (p : BitSet). IsClosed p s (x ∷ [])) g.0 g.1 in (
      g.0 ∙ m.0,
      λ c. subst (λ (p : BitSet). IsClosed p s whole) (sym g.0) (m.1 (closed-both now s x rest closed (subst (λ (p : BitSet). IsClosed p s rest) g.0 c))),
    )

closed-none : (p : BitSet) (s : Scope) → IsClosed p s []
closed-none p s x u c r = absurd (among_contains [] x c)

pub grown-end : (some : Bool) (s : Scope) (whole rest : List Statement) (before now : BitSet) → rest ≡ [] → IsGrownSoFar some s whole rest before now
    → IsGrown some s whole before now
grown-end true s whole rest before now e m = m
grown-end false s whole rest before now e m = (m.0, m.1 (subst (λ (ys : List Statement). IsClosed now s ys) (sym e) (closed-none now s)))

-- what an answer of a turn says
pub grown-more : (some : Bool) (s : Scope) (xs : List Statement) (before after : BitSet) → some ≡ true → IsGrown some s xs before after → IsMore s xs before after
grown-more true s xs before after e g = g
grown-more false s xs before after e g = absurd (false≢true e)

pub grown-closed : (some : Bool) (s : Scope) (xs : List Statement) (before after : BitSet) → some ≡ false → IsGrown some s xs before after → IsClosed after s xs
grown-closed true s xs before after e g = absurd (true≢false e)
grown-closed false s xs before after e g = g.1

-- an element at which a rest of the list begins
pub among-left : (ds : List Driver) (i : ℕ) (r : Driver) (rest : List Driver) → drop i ds ≡ r ∷ rest → IsAmong (statements_in ds) (statement_in r)
among-left ds zero r rest e = subst (λ (ys : List Driver). IsAmong (statements_in ys) (statement_in r)) (sym e) (inl refl)
among-left [] (suc i) r rest e = absurd (let f : [] ≡ r ∷ rest = e in cc)
among-left (d ∷ ds) (suc i) r rest e = inr (among-left ds i r rest e)
