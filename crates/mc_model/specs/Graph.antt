-- Open graphs, and the graph of a pattern.
use Rattle.std.specs.Prelude.{◌≡◌, ◌⊎◌, ℕ, ◌<◌, ◌≤◌, ◌-◌, ◌*◌, ◌%◌, Bool, false, cond, not}
use Rattle.std.specs.Prelude.{◌&&◌}
use Rattle.std.specs.Prelude.{nat_eq, nat_lt, List, [], ◌∷◌, ◌++◌, length, map, flat_map, All}
use Rattle.std.specs.Prelude.{slice_get, unwrap_or, option_map, Option, Some, None, is_none, ⊤}
use Rattle.mc_model.specs.Names.{Name, AreNames}
use Rattle.mc_model.specs.Numbers.{numbers_from, numbers_where, is_member, ListsOnce, pairs_below}
use Rattle.mc_model.specs.Bits.{◌⊻◌, Bits, odd, same_pair}
use Rattle.mc_model.specs.Phase.{measured_angle}
use Rattle.mc_model.specs.Signals.{no_signal, one_signal}
use Rattle.mc_model.specs.Pattern.{Command, Prep, Ent, Meas, FixX, FixZ, Pattern}
use Rattle.mc_model.specs.Valid.{measured}
use Rattle.mc_model.specs.Translation.{preparations}
use Rattle.mc_model.specs.StandardForm.{is_edge, first_sum, second_sum}

-- the lower number is `one`
pub record Edge : Type 0 where
  pub one : ℕ
  pub other : ℕ

-- whether there is a fixed `X`, and a fixed `Z`: corrections that act whatever the outcomes
pub record Fixed : Type 0 where
  pub x : Bool
  pub z : Bool

abbrev pub not_fixed : Fixed
not_fixed = record { x = false; z = false }

-- the inputs are the first of the vertices; each vertex that is no output has a base angle, and
-- each output may have fixed corrections
pub record OpenGraph : Type 0 where
  pub names : List Name
  pub inputs : ℕ
  pub outputs : List ℕ
  pub edges : List Edge
  pub angles : List (Option ℕ)
  pub fixed : List Fixed

abbrev pub size : OpenGraph → ℕ
size g = length g.names

abbrev pub is_input : OpenGraph → Bits
is_input g v = nat_lt v g.inputs

abbrev pub is_output : OpenGraph → Bits
is_output g v = is_member g.outputs v

abbrev pub base_angle : OpenGraph → ℕ → Option ℕ
base_angle g v = unwrap_or (slice_get g.angles v) None

abbrev pub fixed_at : OpenGraph → ℕ → Fixed
fixed_at g v = unwrap_or (slice_get g.fixed v) not_fixed

-- the number of the edges between two vertices, modulo 2
unfoldable pub joins : List Edge → ℕ → ℕ → Bool
joins [] v w = false
joins (e ∷ es) v w = same_pair v w e.one e.other ⊻ joins es v w

-- the vertices with an odd number of neighbours in the set
abbrev pub odd_neighbourhood : OpenGraph → Bits → Bits
odd_neighbourhood g s = λ v. odd (size g) (λ w. s w && joins g.edges v w)

-- edges without loops or repeats, in rising order, the lower number first
abbrev pub IsBehind : Edge → Edge → Type 0
IsBehind e f = (e.one < f.one) ⊎ ((e.one ≡ f.one) × (e.other < f.other))

abbrev pub EdgesRise : ℕ → List Edge → Type 0
EdgesRise n [] = ⊤
EdgesRise n (e ∷ es) = (e.one < e.other) × (e.other < n) × All (IsBehind e) es × EdgesRise n es

pub record IsOpenGraph (g : OpenGraph) : Type 0 where
  pub names : AreNames g.names
  pub inputs : g.inputs ≤ size g
  pub edges : EdgesRise (size g) g.edges
  pub angles : length g.angles ≡ size g
  pub outputs : ListsOnce (size g) (λ v. is_none (base_angle g v)) g.outputs
  pub fixed : length g.fixed ≡ size g
  pub fixed_outputs : (v : ℕ) → v < size g → is_output g v ≡ false → fixed_at g v ≡ not_fixed

abbrev pub edge : ℕ → ℕ → Edge
edge v w = record { one = v; other = w }

-- the base angle at which a qubit is measured
unfoldable pub angle_in : List Command → ℕ → Option ℕ
angle_in [] k = None
angle_in (Prep q ∷ cs) k = angle_in cs k
angle_in (Ent q r ∷ cs) k = angle_in cs k
angle_in (Meas q a s t ∷ cs) k = cond (nat_eq k q) (Some a) (angle_in cs k)
angle_in (FixX q s ∷ cs) k = angle_in cs k
angle_in (FixZ q s ∷ cs) k = angle_in cs k

-- the constants of the sums of a qubit's signals: their values where every outcome is 0
abbrev pub constants_at : List Command → ℕ → Fixed
constants_at cs q = record { x = (first_sum cs q).constant; z = (second_sum cs q).constant }

-- the angle at which a qubit is measured where every outcome is 0
abbrev pub turned_angle : ℕ → List Command → ℕ → ℕ → ℕ
turned_angle half cs q a =
    measured_angle half a (constants_at cs q).x (constants_at cs q).z % (2 * half)

-- the qubits, and the pairs that are entangled an odd number of times; constants turn the angles
-- of the qubits that are measured, and are the fixed corrections of the others
unfoldable pub graph_of : ℕ → Pattern → OpenGraph
graph_of half p =
    let n = length p.names in
    record {
      names = p.names;
      inputs = p.inputs;
      outputs = p.outputs;
      edges = pairs_below edge (is_edge p.commands) n n;
      angles =
          map (λ q. option_map (turned_angle half p.commands q) (angle_in p.commands q))
          (numbers_from 0 n);
      fixed =
          map (λ q. cond (measured p.commands q) not_fixed (constants_at p.commands q))
          (numbers_from 0 n);
    }

abbrev pub entanglings : List Edge → List Command
entanglings es = map (λ e. Ent e.one e.other) es

-- the preparations of the vertices that are no inputs, and the edges
abbrev pub graph_state : OpenGraph → List Command
graph_state g = preparations g.inputs (size g - g.inputs) ++ entanglings g.edges

-- the measurement of a vertex, without signals
abbrev pub bare_measurement : OpenGraph → ℕ → Command
bare_measurement g v = Meas v (unwrap_or (base_angle g v) 0) no_signal no_signal

-- the first list where there is a fixed `X`, and then the second where there is a fixed `Z`
abbrev pub where_fixed : {A : Type 0} → Fixed → List A → List A → List A
where_fixed f xs zs = cond f.x xs [] ++ cond f.z zs []

-- the fixed corrections of a vertex as commands, and those of all by rising number
abbrev pub corrections_at : OpenGraph → ℕ → List Command
corrections_at g v = where_fixed (fixed_at g v) (FixX v one_signal ∷ []) (FixZ v one_signal ∷ [])

unfoldable pub fixed_corrections : OpenGraph → List Command
fixed_corrections g = flat_map (corrections_at g) (numbers_from 0 (size g))

-- the pattern that measures all vertices that are no outputs by rising number, with no corrections
-- but the fixed ones
unfoldable pub zero_pattern : OpenGraph → Pattern
zero_pattern g = record {
  names = g.names;
  inputs = g.inputs;
  outputs = g.outputs;
  commands =
      graph_state g
      ++ (map (bare_measurement g) (numbers_where (λ v. not (is_output g v)) (size g))
      ++ fixed_corrections g);
}
