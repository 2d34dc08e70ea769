-- On what a bit depends that has a driver: on what its driver takes, since it has no other.
use Rattle.std.proofs.Common.{◌≡◌, List, [], ◌∷◌, refl, sym, ap, ◌∙◌, subst, Some}
use Rattle.std.specs.Prelude.{IsTrue}
use Rattle.std.specs.List.{Contains}
use Rattle.verilog_trees.specs.Syntax.{Expression, Target, Statement, output}
use Rattle.verilog_meaning.specs.Expression.{Scope}
use Rattle.verilog_meaning.specs.Register.{combinational_blocks, may_reach, may_assign}
use Rattle.verilog_meaning.specs.Hierarchy.{instance_step, Placed, placed_scope}
use Rattle.verilog_meaning.specs.Settled.{Design, at_path, IsPlacedIn, assignments, whole_of, whole_name, port_connections}
use Rattle.verilog_designs.specs.Names.{names_in, names_in_statement}
use Rattle.verilog_designs.specs.Accepted.{HasUndeclared, undeclared}
use Rattle.verilog_designs.specs.Dependence.{Bit, IsBitIn, IsGivenBy, copied_to, computed, at_start, After, PlacedBit, bit_of, Depends}
use Rattle.verilog_settled.proofs.Assigned.{takes_reach}
use Rattle.verilog_unique.proofs.Descent.{contains_among, among_contains}
use Rattle.verilog_unique.specs.Agreement.{IsBitDeclared}
use Rattle.verilog_unique.proofs.Mentioned.{assignment_used, block_used, connection_used}
use Rattle.verilog_unique.proofs.Paths.{placed_in}
use Rattle.verilog_unique.proofs.Reading.{given_net, after_block}
use Rattle.verilog_exists.specs.Exists.{IsShapely}
use Rattle.verilog_exists.specs.Loops.{IsAcceptedButForLoops}
use Rattle.verilog_exists.proofs.Links.{Link, IsLink, of_assignment, of_output, of_input, assignment_link, output_link, input_link}
use Rattle.verilog_exists.proofs.Givers.{IsSound}
use Rattle.verilog_exists.proofs.Rounds.{nets_declared, port_bits}
use Rattle.verilog_exists.proofs.Drivers.{is_sound}
use Rattle.verilog_exists.proofs.Valued.{ranges_known}
use Rattle.verilog_order.specs.Grounded.{IsGrounded, grounded, IsBitThere, IsOneOf, AssignedBitsDependByIt, BlockBitsDependByIt, InputBitsDependByIt, OutputBitsDependByIt, IsDeclaredBit, DependenceStaysInside, AssignedBitsAreGrounded, BlockBitsAreGrounded, InputBitsAreGrounded, OutputBitsAreGrounded, IsUndriven, UndrivenBitsAreGrounded}

some_same : {A : Type 0} {x y : A} → Some x ≡ Some y → x ≡ y
some_same e = cc

-- what gives a bit its value has the target reach it
reaches : (around inner : Scope) (t : Target) (e : Expression) (u y : Bit) → IsGivenBy around t inner e u y
    → IsTrue (may_reach around t u.of_name u.word u.place)
reaches around inner t e u y (copied_to j plain below takes is) = takes_reach around t u j takes
reaches around inner t e u y (computed other reach read) = reach

-- ---- each way in which a bit of a module depends on another one

-- By a link of the module to which the bit belongs, or by a block of it.
data IsDependence (d : Design) (p : Placed) (u : Bit) (y : PlacedBit) : Type 0 where
  through_link : (l : Link) (z : Bit) → IsLink d p l → IsGivenBy (placed_scope p) l.target (placed_scope l.inner) l.expression u z → bit_of l.inner z ≡ y
      → IsDependence d p u y
  through_block : (x : Statement) (z : Bit) → Contains (combinational_blocks p.of_module.items) x → IsTrue (may_assign (placed_scope p) x u.of_name u.word u.place)
      → After (placed_scope p) at_start x u z → bit_of p z ≡ y → IsDependence d p u y

-- the same bit of the same module
record IsOne (p q : Placed) (u w : Bit) : Type 0 where
  place : q ≡ p
  bit : w ≡ u

one_of : (d : Design) (p q : Placed) (u w : Bit) → IsPlacedIn d p → IsPlacedIn d q → bit_of q w ≡ bit_of p u → IsOne p q u w
one_of d p q u w p_at q_at e =
    record {
      place = some_same (sym q_at ∙ ap (λ (x : PlacedBit). at_path d x.path) e ∙ p_at);
      bit = ap (λ (x : PlacedBit). x.bit) e;
    }

dependence : (d : Design) (p : Placed) (u : Bit) → IsPlacedIn d p → (q y : PlacedBit) → Depends d q y → q ≡ bit_of p u → IsDependence d p u y
dependence d p u p_at _ _ (Depends.by_assignment p2 a w y at stands is_bit given) e =
    moved (one_of d p p2 u w p_at at e)
    (through_link (assignment_link p2 a) y (of_assignment a (among_contains (assignments p2.of_module.items) a stands)) given refl)
  where
    moved : IsOne p p2 u w → IsDependence d p2 w (bit_of p2 y) → IsDependence d p u (bit_of p2 y)
    moved o h = subst (λ (q : Placed). IsDependence d q u (bit_of p2 y)) o.place (subst (λ (x : Bit). IsDependence d p2 x (bit_of p2 y)) o.bit h)
dependence d p u p_at _ _ (Depends.by_block p2 x w y at stands is_bit assigns after) e =
    moved (one_of d p p2 u w p_at at e) (through_block x y stands assigns after refl)
  where
    moved : IsOne p p2 u w → IsDependence d p2 w (bit_of p2 y) → IsDependence d p u (bit_of p2 y)
    moved o h = subst (λ (q : Placed). IsDependence d q u (bit_of p2 y)) o.place (subst (λ (x : Bit). IsDependence d p2 x (bit_of p2 y)) o.bit h)
dependence d p u p_at _ _ (Depends.by_input around below c n w y around_at stands to is_bit given) e =
    moved (one_of d p below u w p_at (placed_in d (instance_step c.of_instance ∷ around.path) below to.is_below) e)
    (through_link (input_link around c n) y (of_input around c n around_at (among_contains (port_connections around.of_module.items) c stands) to) given refl)
  where
    moved : IsOne p below u w → IsDependence d below w (bit_of around y) → IsDependence d p u (bit_of around y)
    moved o h = subst (λ (q : Placed). IsDependence d q u (bit_of around y)) o.place (subst (λ (x : Bit). IsDependence d below x (bit_of around y)) o.bit h)
dependence d p u p_at _ _ (Depends.by_output p2 below c n t w y at stands to is_target is_bit given) e =
    moved (one_of d p p2 u w p_at at e)
    (through_link (output_link below n t) y (of_output c below n t (among_contains (port_connections p2.of_module.items) c stands) to is_target) given refl)
  where
    moved : IsOne p p2 u w → IsDependence d p2 w (bit_of below y) → IsDependence d p u (bit_of below y)
    moved o h = subst (λ (q : Placed). IsDependence d q u (bit_of below y)) o.place (subst (λ (x : Bit). IsDependence d p2 x (bit_of below y)) o.bit h)

module _ (d : Design) (sound : IsSound d) (p : Placed) (u : Bit) (at : IsPlacedIn d p) (is_bit : IsBitIn p u) where
  by_link : (l : Link) → IsLink d p l → IsTrue (may_reach (placed_scope p) l.target u.of_name u.word u.place) → (y : PlacedBit) → Depends d (bit_of p u) y
      → IsOneOf l.inner (IsGivenBy (placed_scope p) l.target (placed_scope l.inner) l.expression u) y
  by_link l is reach y depends = from (dependence d p u at (bit_of p u) y depends refl)
    where
      by_it : (m : Link) (z : Bit) → m ≡ l → IsGivenBy (placed_scope p) m.target (placed_scope m.inner) m.expression u z → bit_of m.inner z ≡ y
          → IsOneOf l.inner (IsGivenBy (placed_scope p) l.target (placed_scope l.inner) l.expression u) y
      by_it m z e given i =
          record {
            bit = z;
            is_so = subst (λ (k : Link). IsGivenBy (placed_scope p) k.target (placed_scope k.inner) k.expression u z) e given;
            is_it = subst (λ (k : Link). bit_of k.inner z ≡ y) e i;
          }

      from : IsDependence d p u y → IsOneOf l.inner (IsGivenBy (placed_scope p) l.target (placed_scope l.inner) l.expression u) y
      from (through_link m z m_is given e) =
          by_it m z
          (sound.one_link p m l u.of_name u.word u.place at is_bit m_is is (reaches (placed_scope p) (placed_scope m.inner) m.target m.expression u z given) reach)
          given e
      from (through_block x z stands assigns after e) =
          absurd ((sound.link_alone p l u.of_name u.word u.place at is_bit is reach).2 x (among_contains (combinational_blocks p.of_module.items) x stands) assigns)

  by_block : (x : Statement) → Contains (combinational_blocks p.of_module.items) x → IsTrue (may_assign (placed_scope p) x u.of_name u.word u.place)
      → (y : PlacedBit) → Depends d (bit_of p u) y → IsOneOf p (After (placed_scope p) at_start x u) y
  by_block x stands assigns y depends = from (dependence d p u at (bit_of p u) y depends refl)
    where
      from : IsDependence d p u y → IsOneOf p (After (placed_scope p) at_start x u) y
      from (through_link m z m_is given e) =
          absurd ((sound.link_alone p m u.of_name u.word u.place at is_bit m_is
          (reaches (placed_scope p) (placed_scope m.inner) m.target m.expression u z given)).2 x (among_contains (combinational_blocks p.of_module.items) x stands) assigns)
      from (through_block w z there also after e) =
          record {
            bit = z;
            is_so = subst (λ (k : Statement). After (placed_scope p) at_start k u z)
                (sound.one_block p w x u.of_name u.word u.place at is_bit (among_contains (combinational_blocks p.of_module.items) w there)
                (among_contains (combinational_blocks p.of_module.items) x stands) also assigns)
                after;
            is_it = e;
          }

-- grounded where all that it depends on is
ground_from : (d : Design) (p q : Placed) (u : Bit) (IsSo : Bit → Type 0) → ((y : PlacedBit) → Depends d (bit_of p u) y → IsOneOf q IsSo y)
    → ((z : Bit) → IsSo z → IsGrounded d (bit_of q z)) → IsGrounded d (bit_of p u)
ground_from d p q u IsSo by ground =
    grounded (bit_of p u) (λ y depends. let o : IsOneOf q IsSo y = by y depends in subst (IsGrounded d) o.is_it (ground o.bit o.is_so))

-- what is sound though there may be loops
pub sound_of : (d : Design) → IsAcceptedButForLoops d → IsShapely d → IsSound d
sound_of d accepted shapely = is_sound d accepted (ranges_known d accepted shapely)

pub assigned_depends : AssignedBitsDependByIt
assigned_depends d p a u y accepted shapely there stands reach depends =
    by_link d (sound_of d accepted shapely) p u there.0 there.1 (assignment_link p a)
    (of_assignment a (among_contains (assignments p.of_module.items) a stands)) reach y depends

pub block_depends : BlockBitsDependByIt
block_depends d p x u y accepted shapely there stands assigns depends =
    by_block d (sound_of d accepted shapely) p u there.0 there.1 x stands assigns y depends

pub input_depends : InputBitsDependByIt
input_depends d p below c n u y accepted shapely at there stands to reach depends =
    by_link d (sound_of d accepted shapely) below u there.0 there.1 (input_link p c n)
    (of_input p c n at (among_contains (port_connections p.of_module.items) c stands) to) reach y depends

pub output_depends : OutputBitsDependByIt
output_depends d p below c n t u y accepted shapely there stands to is_target reach depends =
    by_link d (sound_of d accepted shapely) p u there.0 there.1 (output_link below n t)
    (of_output c below n t (among_contains (port_connections p.of_module.items) c stands) to is_target) reach y depends

pub assigned_grounded : AssignedBitsAreGrounded
assigned_grounded d p a u accepted shapely there stands reach ground =
    ground_from d p p u (IsGivenBy (placed_scope p) a.0 (placed_scope p) a.1 u)
    (λ y depends. assigned_depends d p a u y accepted shapely there stands reach depends) ground

pub block_grounded : BlockBitsAreGrounded
block_grounded d p x u accepted shapely there stands assigns ground =
    ground_from d p p u (After (placed_scope p) at_start x u) (λ y depends. block_depends d p x u y accepted shapely there stands assigns depends) ground

pub input_grounded : InputBitsAreGrounded
input_grounded d p below c n u accepted shapely at there stands to reach ground =
    ground_from d below p u (IsGivenBy (placed_scope below) (whole_of n) (placed_scope p) c.expression u)
    (λ y depends. input_depends d p below c n u y accepted shapely at there stands to reach depends) ground

pub output_grounded : OutputBitsAreGrounded
output_grounded d p below c n t u accepted shapely there stands to is_target reach ground =
    ground_from d p below u (IsGivenBy (placed_scope p) t (placed_scope below) (whole_name n) u)
    (λ y depends. output_depends d p below c n t u y accepted shapely there stands to is_target reach depends) ground

pub undriven_grounded : UndrivenBitsAreGrounded
undriven_grounded d p u at undriven = grounded (bit_of p u) (λ y depends. absurd (from y (dependence d p u at (bit_of p u) y depends refl)))
  where
    no_link : (l : Link) → IsLink d p l → ¬ IsTrue (may_reach (placed_scope p) l.target u.of_name u.word u.place)
    no_link _ (of_assignment a h) = undriven.by_assignment a (contains_among (assignments p.of_module.items) a h)
    no_link _ (of_output c below m t h to e) = undriven.by_output c below m t (contains_among (port_connections p.of_module.items) c h) to e
    no_link _ (of_input around c n around_at h to) = undriven.by_input around c n around_at (contains_among (port_connections around.of_module.items) c h) to

    from : (y : PlacedBit) → IsDependence d p u y → ⊥
    from y (through_link m z m_is given e) = no_link m m_is (reaches (placed_scope p) (placed_scope m.inner) m.target m.expression u z given)
    from y (through_block x z stands assigns after e) = undriven.by_block x stands assigns

-- ---- what a bit depends on is declared

pub stays_inside : DependenceStaysInside
stays_inside d p u y accepted at declared depends = from (dependence d p u at (bit_of p u) y depends refl)
  where
    known : ¬ HasUndeclared d
    known = accepted undeclared (λ f. cc)

    link_inside : (l : Link) (z : Bit) → IsLink d p l → IsGivenBy (placed_scope p) l.target (placed_scope l.inner) l.expression u z → IsDeclaredBit d (bit_of l.inner z)
    link_inside _ z (of_assignment a h) given =
        record {
          place = p;
          bit = z;
          is_placed = at;
          is_declared = nets_declared d known p (names_in a.1) at (assignment_used p.of_module.items a h) z (given_net (placed_scope p) (placed_scope p) a.0 a.1 u z given);
          is_it = refl;
        }
    link_inside _ z (of_output c below m t h to e) given =
        record {
          place = below;
          bit = z;
          is_placed = placed_in d (instance_step c.of_instance ∷ p.path) below to.is_below;
          is_declared = port_bits below m output to.is_port z (given_net (placed_scope p) (placed_scope below) t (whole_name m) u z given);
          is_it = refl;
        }
    link_inside _ z (of_input around c n around_at h to) given =
        record {
          place = around;
          bit = z;
          is_placed = around_at;
          is_declared = nets_declared d known around (names_in c.expression) around_at (connection_used around.of_module.items c h) z
              (given_net (placed_scope p) (placed_scope around) (whole_of n) c.expression u z given);
          is_it = refl;
        }

    from : IsDependence d p u y → IsDeclaredBit d y
    from (through_link m z m_is given e) = subst (IsDeclaredBit d) e (link_inside m z m_is given)
    from (through_block x z stands assigns after e) =
        subst (IsDeclaredBit d) e
        (record {
          place = p;
          bit = z;
          is_placed = at;
          is_declared = after_block (placed_scope p) (IsBitDeclared p) x u z
              (nets_declared d known p (names_in_statement x) at (block_used p.of_module.items x (among_contains (combinational_blocks p.of_module.items) x stands)))
              declared after;
          is_it = refl;
        })
