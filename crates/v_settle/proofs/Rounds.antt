-- Turns over all drivers: a bit that is left unsettled depends on one that was unsettled before.
use Rattle.std.proofs.Common.{ℕ, suc, refl, sym, subst, List, [], ◌∷◌, ◌++◌, inl, inr}
use Rattle.std.specs.Prelude.{IsTrue}
use Rattle.verilog_trees.specs.Syntax.{Statement, Item}
use Rattle.verilog_meaning.specs.Expression.{Scope}
use Rattle.verilog_meaning.specs.Register.{may_assign}
use Rattle.verilog_unique.proofs.Descent.{IsAmong}
use Rattle.verilog_designs.specs.Dependence.{Bit, is_in, at_start, After}
use Rattle.v_value.specs.Narrow.{HasNarrowObjects}
use Rattle.v_depend.specs.Resting.{IsThere}
use Rattle.v_order.specs.Drivers.{drivers}
use Rattle.v_loops.specs.OneModule.{DependsIn}
use Rattle.v_settle.specs.OneModule.{IsEvaluable}
use Rattle.v_settle.specs.Turns.{State, IsOpen, IsVisited, AreVisited, IsUnderWay}
use Rattle.v_settle.proofs.Given.{after-there, stage-driven}
use Rattle.v_loops.proofs.Listed.{stage-assigned}
use Rattle.v_settle.proofs.Listed.{depends}
use Rattle.v_settle.proofs.Step.{RestsWhereItDepends, shrinks, step}

-- ---- drivers one after the other

pub are-open : (s : Scope) (xs : List Statement) (a b : State) → IsOpen s a → AreVisited s xs a b → IsOpen s b
are-open s [] a b o h = subst (IsOpen s) h o
are-open s (x ∷ xs) a b o h = are-open s xs h.0 b h.1.opens h.2

pub none-visited : (s : Scope) (a : State) → AreVisited s [] a a
none-visited s a = refl

pub one-visited : (s : Scope) (x : Statement) (a b : State) → IsVisited s x a b → AreVisited s (x ∷ []) a b
one-visited s x a b v = (b, v, refl)

pub visited-then : (s : Scope) (xs ys : List Statement) (a b c : State) → AreVisited s xs a b → AreVisited s ys b c → AreVisited s (xs ++ ys) a c
visited-then s [] ys a b c h g = subst (λ (z : State). AreVisited s ys z c) (sym h) g
visited-then s (x ∷ xs) ys a b c h g = (h.0, h.1, visited-then s xs ys h.0 b c h.2 g)

-- ---- a turn

module _ (s : Scope) (items : List Item) (objects : HasNarrowObjects s) (ready : IsEvaluable s items) (law : RestsWhereItDepends) (start : State) where
  -- on what a bit depends that some of these drivers left unsettled
  pub record IsLeft (xs : List Statement) (a b : State) (k : ℕ) : Type 0 where
    pub way : IsUnderWay s items start b k
    pub fewer : (u : Bit) → IsThere s u → IsTrue (is_in b.unsettled u) → IsTrue (is_in a.unsettled u)
    pub rests : (x : Statement) (u : Bit) → IsAmong xs x → IsThere s u → IsTrue (may_assign s x u.of_name u.word u.place) → IsTrue (is_in b.unsettled u)
        → (y : Bit) × IsThere s y × IsTrue (is_in a.unsettled y) × After s at_start x u y

  first-left : (x : Statement) (xs : List Statement) (a c b : State) (k : ℕ) → IsAmong (drivers items) x → IsUnderWay s items start a k → IsVisited s x a c
      → IsLeft xs c b k → IsLeft (x ∷ xs) a b k
  first-left x xs a c b k among way visited left =
      record { way = left.way; fewer = λ u there h. less u there (left.fewer u there h); rests = rests }
    where
      less : (u : Bit) → IsThere s u → IsTrue (is_in c.unsettled u) → IsTrue (is_in a.unsettled u)
      less = shrinks s items objects ready law start a c x among k way visited

      rests : (z : Statement) (u : Bit) → IsAmong (x ∷ xs) z → IsThere s u → IsTrue (may_assign s z u.of_name u.word u.place) → IsTrue (is_in b.unsettled u)
          → (y : Bit) × IsThere s y × IsTrue (is_in a.unsettled y) × After s at_start z u y
      rests z u (inl e) there n h =
          let mine = subst (λ (w : Statement). IsTrue (may_assign s w u.of_name u.word u.place)) (sym e) n in
          let o = (law a.unsettled s x u there).0 (visited.rests u there mine (left.fewer u there h)) in
          (o.0, after-there s x u o.0 there o.2, o.1, subst (λ (w : Statement). After s at_start w u o.0) e o.2)
      rests z u (inr m) there n h = let o = left.rests z u m there n h in (o.0, o.1, less o.0 o.1 o.2, o.3)

  left-by : (xs : List Statement) (a b : State) (k : ℕ) → ((x : Statement) → IsAmong xs x → IsAmong (drivers items) x) → IsUnderWay s items start a k
      → AreVisited s xs a b → IsLeft xs a b k
  left-by [] a b k among way h =
      record {
        way = subst (λ (z : State). IsUnderWay s items start z k) h way;
        fewer = λ u there m. subst (λ (z : State). IsTrue (is_in z.unsettled u)) (sym h) m;
        rests = λ x u n there q m. absurd n;
      }
  left-by (x ∷ xs) a b k among way h =
      let here : IsAmong (drivers items) x = among x (inl refl) in
      first-left x xs a h.0 b k here way h.1
      (left-by xs h.0 b k (λ y m. among y (inr m)) (step s items objects ready law start a h.0 x here k way h.1) h.2)

  pub visits-way : (xs : List Statement) (a b : State) (k : ℕ) → ((x : Statement) → IsAmong xs x → IsAmong (drivers items) x) → IsUnderWay s items start a k
      → AreVisited s xs a b → IsUnderWay s items start b k
  visits-way xs a b k among way h = (left-by xs a b k among way h).way

  -- after a turn: each unsettled bit depends on one that was unsettled
  pub record IsTurned (a b : State) (k : ℕ) : Type 0 where
    pub way : IsUnderWay s items start b (suc k)
    pub rests : (u : Bit) → IsThere s u → IsTrue (is_in b.unsettled u) → (y : Bit) × IsThere s y × IsTrue (is_in a.unsettled y) × DependsIn s items u y

  pub turned-once : (a b : State) (k : ℕ) → IsUnderWay s items start a k → AreVisited s (drivers items) a b → IsTurned a b k
  turned-once a b k way h =
      record {
        way = record {
          opens = left.way.opens;
          names = left.way.names;
          settled = left.way.settled;
          keeps = left.way.keeps;
          loops = left.way.loops;
          chains = λ u there m. let o = on u there m in (o.0, o.3, way.chains o.0 o.1 o.2);
        };
        rests = on;
      }
    where
      left : IsLeft (drivers items) a b k
      left = left-by (drivers items) a b k (λ x m. m) way h

      on : (u : Bit) → IsThere s u → IsTrue (is_in b.unsettled u) → (y : Bit) × IsThere s y × IsTrue (is_in a.unsettled y) × DependsIn s items u y
      on u there m =
          let d = stage-assigned s items u (stage-driven s items k u (left.way.chains u there m)) in
          let o = left.rests d.0 u d.1 there d.3 m in
          (o.0, o.1, o.2, depends s items ready.runnable d.0 u o.0 d.1 there d.3 o.3)
