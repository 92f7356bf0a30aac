-- Gates that are added one list after another, and the lists that are extracted.
use Rattle.std.proofs.Common.{◌≡◌, ℕ, zero, suc, ◌+◌, ◌<◌, ◌≤◌, Bool, true, false, cond, ◌&&◌, map}
use Rattle.std.proofs.Common.{take, drop, List, [], ◌∷◌, ◌++◌, length, refl, sym, ◌∙◌, ap, ap₂}
use Rattle.std.proofs.Common.{append_assoc, append-nil, arith}
use Rattle.std.specs.Prelude.{nat_eq, nat_lt, nat_le, filter, flat_map, unwrap_or, slice_set}
use Rattle.std.specs.Prelude.{slice_index_or}
use Rattle.std.specs.List.{AllByRecursion}
use Rattle.std.proofs.lemmas.Bool.{cases_lt, cases_eq, lt-ltb, le-ltb, le-leb, lt-leb}
use Rattle.std.proofs.lemmas.List.{map-append, get_or-set_same, get_or-set_other}
use Rattle.std.proofs.lemmas.List.Elements.{filter_more, filter-append}
use mathlib.Core.Path.{fun_ext, subst}
use mathlib.Core.Logic.{inl, inr}
use Rattle.mc_model.specs.Bits.{Bits, replaced}
use Rattle.mc_model.specs.Numbers.{numbers_from}
use Rattle.mc_model.specs.Phase.{negated}
use Rattle.mc_model.specs.Pattern.{Gate, J, CZ, Circuit}
use Rattle.mc_model.specs.Graph.{Edge, edge, OpenGraph, size, joins, base_angle, fixed_at}
use Rattle.mc_model.specs.Graph.{where_fixed, IsOpenGraph}
use Rattle.mc_model.specs.Flow.{IsCausalFlow, single}
use Rattle.mc_model.specs.Made.{is_first, is_current, wire_of, cz_gate, extracted_gates, gates_at}
use Rattle.mc_model.specs.Made.{fixed_gates}
use Rattle.mc_model.proofs.BitLemmas.{replaced_same, replaced_other}
use Rattle.mc_graph.specs.Neighbours.{neighbours, edges_up}
use Rattle.mc_make.proofs.MeasuringOrder.{IsWhere, where_all, all-weaker}
use Rattle.mc_extract.specs.Chains.{number_at}
use Rattle.mc_extract.specs.Written.{with_gates, bit_at, cz_by, row_gates, first_row, fixed_row}
use Rattle.mc_extract.specs.Written.{gates_of, IsPlan}
use Rattle.mc_extract.proofs.Chains.{corrects_causally}
use Rattle.mc_extract.proofs.Counts.{flat_more}
use Rattle.mc_extract.proofs.EdgeRows.{edges_by_rows}
use Rattle.mc_extract.proofs.EdgeSigns.{neighbours_now}
use Rattle.mc_extract.proofs.Ends.{first_gates}
use Rattle.mc_extract.proofs.FinderLemmas.{read_number, length_numbers}
use Rattle.mc_extract.proofs.GateSteps.{current_moves, neighbours_of_row}
use Rattle.mc_extract.proofs.Passing.{IsPassed, nothing_passed, passed_on, next_to_pass}
use Rattle.mc_extract.proofs.Passing.{IsNextToPass}
use Rattle.mc_extract.proofs.Rounds.{filter-filter}
use Rattle.mc_extract.proofs.Wires.{current_first}

-- ---- adding gates

pub with_none : (c : Circuit) → with_gates c [] ≡ c
with_none c = ap (λ (gs : List Gate). record c { gates = gs }) (append-nil c.gates)

pub with_more : (c : Circuit) (gs hs : List Gate) →
    with_gates (with_gates c gs) hs ≡ with_gates c (gs ++ hs)
with_more c gs hs =
    ap (λ (ks : List Gate). record c { gates = ks }) (append_assoc c.gates gs hs)

map-one : (f : ℕ → Gate) (b : Bool) (w : ℕ) →
    map f (cond b (w ∷ []) []) ≡ cond b (f w ∷ []) []
map-one f true w = refl
map-one f false w = refl

-- one more number of a list that passes a test, or does not
pub row_more : (c : Circuit) (f : ℕ → Gate) (p : Bits) (ws : List ℕ) (i : ℕ) (told : Bool)
    (gate : Gate) (now : Circuit) {later : Circuit} → i < length ws →
    now ≡ with_gates c (map f (filter p (take i ws))) → told ≡ p (slice_index_or ws i 0) →
    gate ≡ f (slice_index_or ws i 0) → later ≡ with_gates now (cond told (gate ∷ []) []) →
    later ≡ with_gates c (map f (filter p (take (i + 1) ws)))
row_more c f p ws i told gate now {later} l e t h k =
    let w : ℕ = slice_index_or ws i 0 in
    let before : List ℕ = filter p (take i ws) in
    k
    ∙ ap (λ (d : Circuit). with_gates d (cond told (gate ∷ []) [])) e
    ∙ with_more c (map f before) (cond told (gate ∷ []) [])
    ∙ ap (λ (gs : List Gate). with_gates c (map f before ++ gs))
    (ap₂ (λ (b : Bool) (g : Gate). cond b (g ∷ []) []) t h ∙ sym (map-one f (p w) w))
    ∙ ap (with_gates c)
    (sym (map-append f before (cond (p w) (w ∷ []) []))
    ∙ ap (map f) (sym (filter_more p ws i 0 l)))

-- one more vertex
pub vertex_more : (c : Circuit) (f : ℕ → List Gate) (v : ℕ) (now : Circuit) {later : Circuit} →
    now ≡ with_gates c (flat_map f (numbers_from 0 v)) → later ≡ with_gates now (f v) →
    later ≡ with_gates c (flat_map f (numbers_from 0 (v + 1)))
vertex_more c f v now {later} e k =
    k ∙ ap (λ (d : Circuit). with_gates d (f v)) e
    ∙ with_more c (flat_map f (numbers_from 0 v)) (f v)
    ∙ ap (with_gates c) (sym (flat_more f v))

-- ---- lists that agree

map-cond : (f : ℕ → Gate) (b : Bool) (xs ys : List ℕ) →
    map f (cond b xs ys) ≡ cond b (map f xs) (map f ys)
map-cond f true xs ys = refl
map-cond f false xs ys = refl

map_filter-same : (f h : ℕ → Gate) (p q : Bits) (ws : List ℕ) →
    AllByRecursion (λ w. (p w ≡ q w) × (f w ≡ h w)) ws → map f (filter p ws) ≡ map h (filter q ws)
map_filter-same f h p q [] same = refl
map_filter-same f h p q (w ∷ ws) same =
    let rest : map f (filter p ws) ≡ map h (filter q ws) =
    map_filter-same f h p q ws same.1 in
    map-cond f (p w) (w ∷ filter p ws) (filter p ws)
    ∙ ap₂ (λ (gs hs : List Gate). cond (p w) gs hs)
    (ap₂ (λ (g : Gate) (gs : List Gate). g ∷ gs) same.0.1 rest) rest
    ∙ ap (λ (b : Bool). cond b (h w ∷ map h (filter q ws)) (map h (filter q ws))) same.0.0
    ∙ sym (map-cond h (q w) (w ∷ filter q ws) (filter q ws))

pub flat_map-same : {A : Type 0} (f h : ℕ → List A) (q m : ℕ) →
    ((v : ℕ) → v < q + m → f v ≡ h v) →
    flat_map f (numbers_from q m) ≡ flat_map h (numbers_from q m)
flat_map-same f h q zero same = refl
flat_map-same f h q (suc m) same =
    ap₂ (λ (xs ys : List _). xs ++ ys) (same q (omega arith))
    (flat_map-same f h (suc q) m (λ v l. same v (omega arith)))

neighbours_all : (g : OpenGraph) (v : ℕ) → AllByRecursion (λ w. w < size g) (neighbours g v)
neighbours_all g v =
    all-weaker (IsWhere (joins g.edges v) 0 (size g)) (λ w. w < size g)
    (λ w h. let high = h.2 in omega arith) (neighbours g v) (where_all (joins g.edges v) 0 (size g))

-- ---- gates by wires, and by the definitions

module _ (g : OpenGraph) (next : ℕ → ℕ) (wires : List ℕ)
    (wires_are : wires ≡ map (wire_of g next) (numbers_from 0 (size g))) where
  wire : (v : ℕ) → v < size g → number_at wires v ≡ wire_of g next v
  wire v l =
      ap (λ (ws : List ℕ). number_at ws v) wires_are ∙ read_number (wire_of g next) (size g) v 0 l

  cz_same : (v w : ℕ) → v < size g → w < size g → cz_by wires v w ≡ cz_gate g next v w
  cz_same v w lv lw =
      ap₂ (λ (a b : ℕ). cond (nat_lt w v) (CZ b a) (CZ a b)) (wire v lv) (wire w lw)

  pub fixed_same : (half : ℕ) →
      flat_map (fixed_row half g wires) (numbers_from 0 (size g)) ≡ fixed_gates half g next
  unfolding fixed_gates
  fixed_same half =
      flat_map-same (fixed_row half g wires) (gates_at half g next) 0 (size g)
      (λ v l. ap (λ (w : ℕ).
      where_fixed (fixed_at g v) (J w 0 ∷ J w half ∷ []) (J w half ∷ J w 0 ∷ []))
      (wire v (omega arith)))

  -- the row of a vertex, where the current vertices are those of a test
  row_same : (current : List Bool) (p : Bits) → ((v : ℕ) → v < size g → bit_at current v ≡ p v) →
      (v : ℕ) → v < size g →
      row_gates g wires current 0 v ≡ map (cz_gate g next v) (filter p (neighbours g v))
  row_same current p same v l =
      map_filter-same (cz_by wires v) (cz_gate g next v) (λ w. nat_le 0 w && bit_at current w) p
      (neighbours g v)
      (all-weaker (λ w. w < size g)
      (λ w. ((nat_le 0 w && bit_at current w) ≡ p w) × (cz_by wires v w ≡ cz_gate g next v w))
      (λ w lw. (
        ap (λ (b : Bool). b && bit_at current w) (le-leb 0 w (omega arith)) ∙ same w lw,
        cz_same v w l lw,
      ))
      (neighbours g v) (neighbours_all g v))

  -- ---- edges between first vertices

  module _ (first : List Bool)
      (first_are : first ≡ map (is_first g next) (numbers_from 0 (size g))) where
    pub begins : (v : ℕ) → v < size g → bit_at first v ≡ is_first g next v
    begins v l =
        ap (λ (bs : List Bool). bit_at bs v) first_are
        ∙ read_number (is_first g next) (size g) v false l

    abbrev gate_at : Edge → Gate
    gate_at e = cz_gate g next e.one e.other

    abbrev both_first : Edge → Bool
    both_first e = is_first g next e.one && is_first g next e.other

    of_edges : (v : ℕ) (ws : List ℕ) →
        map gate_at (filter both_first (map (edge v) ws))
        ≡ map (cz_gate g next v) (filter (λ w. is_first g next v && is_first g next w) ws)
    of_edges v [] = refl
    of_edges v (w ∷ ws) = by (is_first g next v && is_first g next w) (of_edges v ws)
      where
        by : (b : Bool) →
            map gate_at (filter both_first (map (edge v) ws))
            ≡ map (cz_gate g next v) (filter (λ u. is_first g next v && is_first g next u) ws) →
            map gate_at (cond b (edge v w ∷ filter both_first (map (edge v) ws))
            (filter both_first (map (edge v) ws)))
            ≡ map (cz_gate g next v)
            (cond b (w ∷ filter (λ u. is_first g next v && is_first g next u) ws)
            (filter (λ u. is_first g next v && is_first g next u) ws))
        by true rest = ap (λ (gs : List Gate). cz_gate g next v w ∷ gs) rest
        by false rest = rest

    of_rows : (vs : List ℕ) →
        map gate_at (filter both_first (flat_map (edges_up g) vs))
        ≡ flat_map (λ v. map gate_at (filter both_first (edges_up g v))) vs
    of_rows [] = refl
    of_rows (v ∷ vs) =
        ap (map gate_at) (filter-append both_first (edges_up g v) (flat_map (edges_up g) vs))
        ∙ map-append gate_at (filter both_first (edges_up g v))
        (filter both_first (flat_map (edges_up g) vs))
        ∙ ap (λ (gs : List Gate). map gate_at (filter both_first (edges_up g v)) ++ gs)
        (of_rows vs)

    no_lower : (v w : ℕ) → nat_lt v w ≡ nat_le (v + 1) w
    no_lower v w = elim (cases_lt v w) [
      | inl l ↦ lt-ltb v w l ∙ sym (le-leb (v + 1) w (omega arith))
      | inr l ↦ le-ltb v w l ∙ sym (lt-leb (v + 1) w (omega arith))
    ]

    none_pass : (ws : List ℕ) → filter (λ w. false) ws ≡ []
    none_pass [] = refl
    none_pass (w ∷ ws) = none_pass ws

    no_and : (b : Bool) → b && false ≡ false
    no_and b = grind arith

    row_of_first : (v : ℕ) → v < size g → (b : Bool) → is_first g next v ≡ b →
        first_row g wires first v
        ≡ map (cz_gate g next v)
        (filter (λ w. nat_lt v w && (b && is_first g next w)) (neighbours g v))
    row_of_first v l true e =
        ap (λ (b : Bool). cond b (row_gates g wires first (v + 1) v) []) (begins v l ∙ e)
        ∙ map_filter-same (cz_by wires v) (cz_gate g next v)
        (λ w. nat_le (v + 1) w && bit_at first w) (λ w. nat_lt v w && is_first g next w)
        (neighbours g v)
        (all-weaker (λ w. w < size g)
        (λ w. ((nat_le (v + 1) w && bit_at first w) ≡ (nat_lt v w && is_first g next w))
        × (cz_by wires v w ≡ cz_gate g next v w))
        (λ w lw. (
          ap₂ (λ (a b : Bool). a && b) (sym (no_lower v w)) (begins w lw),
          cz_same v w l lw,
        ))
        (neighbours g v) (neighbours_all g v))
    row_of_first v l false e =
        ap (λ (b : Bool). cond b (row_gates g wires first (v + 1) v) []) (begins v l ∙ e)
        ∙ sym (ap (λ (p : Bits). map (cz_gate g next v) (filter p (neighbours g v)))
        (fun_ext λ w. no_and (nat_lt v w))
        ∙ ap (map (cz_gate g next v)) (none_pass (neighbours g v)))

    row_of_edges : (v : ℕ) → v < size g →
        first_row g wires first v ≡ map gate_at (filter both_first (edges_up g v))
    row_of_edges v l =
        row_of_first v l (is_first g next v) refl
        ∙ sym (of_edges v (filter (nat_lt v) (neighbours g v))
        ∙ ap (map (cz_gate g next v))
        (filter-filter (nat_lt v) (λ w. is_first g next v && is_first g next w) (neighbours g v)))

    pub first_same : IsOpenGraph g →
        flat_map (first_row g wires first) (numbers_from 0 (size g))
        ≡ first_gates g next g.edges
    first_same valid =
        flat_map-same (first_row g wires first)
        (λ v. map gate_at (filter both_first (edges_up g v))) 0 (size g)
        (λ v l. row_of_edges v (omega arith))
        ∙ sym (ap (λ (es : List Edge). map gate_at (filter both_first es)) (edges_by_rows g valid)
        ∙ of_rows (numbers_from 0 (size g)))

-- ---- the vertices in measuring order

bit_set : (bits : List Bool) (j : ℕ) (b : Bool) (k : ℕ) → j < length bits →
    bit_at (slice_set bits j b) k ≡ replaced (bit_at bits) j b k
bit_set bits j b k l = elim (cases_eq k j) [
  | inl e ↦
      ap (bit_at (slice_set bits j b)) e ∙ get_or-set_same bits j b false l
      ∙ sym (replaced_same (bit_at bits) j b)
      ∙ ap (replaced (bit_at bits) j b) (sym e)
  | inr ne ↦
      get_or-set_other bits j k b false ne ∙ sym (replaced_other (bit_at bits) j b k ne)
]

length-set : (bits : List Bool) (j : ℕ) (b : Bool) → length (slice_set bits j b) ≡ length bits
length-set [] j b = refl
length-set (x ∷ bits) zero b = refl
length-set (x ∷ bits) (suc j) b = ap suc (length-set bits j b)

-- the gates so far, and what is left to extract
pub record IsExtracting (half : ℕ) (g : OpenGraph) (next : ℕ → ℕ) (order rest : List ℕ)
    (current : List Bool) (begun now : Circuit) : Type 0 where
  pub layer : ℕ → ℕ
  pub flow : IsCausalFlow g next layer
  pub done : List ℕ
  pub passed : IsPassed g layer done rest
  pub long : length current ≡ size g
  pub currents : (v : ℕ) → v < size g → bit_at current v ≡ is_current g next done v
  pub gates : with_gates now (extracted_gates g next half done rest)
      ≡ with_gates begun (extracted_gates g next half [] order)

pub all_extracted : (half : ℕ) (g : OpenGraph) (next : ℕ → ℕ) (order : List ℕ)
    (current : List Bool) (begun now : Circuit) →
    IsExtracting half g next order [] current begun now →
    now ≡ with_gates begun (extracted_gates g next half [] order)
unfolding extracted_gates
all_extracted half g next order current begun now h = sym (with_none now) ∙ h.gates

module _ (half : ℕ) (g : OpenGraph) (next : ℕ → ℕ) (wires : List ℕ)
    (wires_are : wires ≡ map (wire_of g next) (numbers_from 0 (size g))) (order rest : List ℕ) (i : ℕ)
    (current later : List Bool) (begun now : Circuit)
    (h : IsExtracting half g next order (i ∷ rest) current begun now)
    (e : later ≡ slice_set (slice_set current i false) (next i) true) where
  passing : IsNextToPass g h.layer h.done i
  passing = next_to_pass g h.layer h.done i rest h.passed

  next_vertex : next i < size g
  next_vertex =
      (corrects_causally g next h.layer h.flow i passing.vertex passing.no_output).vertex

  long_later : length later ≡ size g
  long_later =
      ap length e ∙ length-set (slice_set current i false) (next i) true
      ∙ length-set current i false ∙ h.long

  within : next i < length (slice_set current i false)
  within =
      let l = next_vertex in
      let same = length-set current i false in
      let long = h.long in
      omega arith

  moved : (v : ℕ) → v < size g →
      replaced (bit_at (slice_set current i false)) (next i) true v
      ≡ replaced (replaced (is_current g next h.done) i false) (next i) true v
  moved v l =
      let m = passing.vertex in
      let long = h.long in
      let inside : i < length current = omega arith in
      ap (λ (t : Bool). cond (nat_eq v (next i)) true t)
      (bit_set current i false v inside
      ∙ ap (λ (t : Bool). cond (nat_eq v i) false t) (h.currents v l))

  now_current : (v : ℕ) → v < size g → bit_at later v ≡ is_current g next (i ∷ h.done) v
  now_current v l =
      ap (λ (bits : List Bool). bit_at bits v) e
      ∙ bit_set (slice_set current i false) (next i) true v within
      ∙ moved v l
      ∙ sym (ap (λ (p : Bits). p v) (current_moves g next h.layer h.flow h.done i passing))

  row_now : row_gates g wires later 0 (next i)
      ≡ map (cz_gate g next (next i)) (neighbours_now g next h.done i)
  row_now =
      row_same g next wires wires_are later (is_current g next (i ∷ h.done)) now_current (next i)
      next_vertex
      ∙ ap (map (cz_gate g next (next i))) (sym (neighbours_of_row g next h.done i))

  pub one_extracted : {after : Circuit} →
      after ≡ with_gates now (J (number_at wires i) (negated half (unwrap_or (base_angle g i) 0))
      ∷ row_gates g wires later 0 (next i)) →
      IsExtracting half g next order rest later begun after
  unfolding extracted_gates
  one_extracted {after} k =
      let angle : ℕ = negated half (unwrap_or (base_angle g i) 0) in
      let j : Gate = J (number_at wires i) angle in
      let left : List Gate = extracted_gates g next half (i ∷ h.done) rest in
      record {
        layer = h.layer;
        flow = h.flow;
        done = i ∷ h.done;
        passed = passed_on g h.layer h.done i rest h.passed;
        long = long_later;
        currents = now_current;
        gates =
            ap (λ (c : Circuit). with_gates c left) k
            ∙ with_more now (j ∷ row_gates g wires later 0 (next i)) left
            ∙ ap (λ (gs : List Gate). with_gates now (j ∷ (gs ++ left))) row_now
            ∙ ap (λ (w : ℕ). with_gates now (J w angle
            ∷ (map (cz_gate g next (next i)) (neighbours_now g next h.done i) ++ left)))
            (wire g next wires wires_are i passing.vertex)
            ∙ h.gates;
      }

-- ---- from a plan

pub long_wires : (g : OpenGraph) (next order wires : List ℕ) (first : List Bool) →
    IsPlan g next order wires first → length wires ≡ size g
long_wires g next order wires first plan =
    ap length plan.wires_are ∙ length_numbers (wire_of g (number_at next)) 0 (size g)

pub long_first : (g : OpenGraph) (next order wires : List ℕ) (first : List Bool) →
    IsPlan g next order wires first → length first ≡ size g
long_first g next order wires first plan =
    ap length plan.first_are ∙ length_numbers (is_first g (number_at next)) 0 (size g)

pub extracting_at_first : (half : ℕ) (g : OpenGraph) (next order wires : List ℕ)
    (first : List Bool) (begun : Circuit) → IsPlan g next order wires first →
    IsExtracting half g (number_at next) order order first begun begun
extracting_at_first half g next order wires first begun plan = record {
  layer = plan.layer;
  flow = plan.flow;
  done = [];
  passed = subst (IsPassed g plan.layer []) (sym plan.order_is)
      (nothing_passed g (λ i. single (number_at next i)) plan.layer plan.flow);
  long = long_first g next order wires first plan;
  currents = λ v l.
      begins g (number_at next) wires plan.wires_are first plan.first_are v l
      ∙ sym (current_first g (number_at next) v);
  gates = refl;
}

-- the vertex at a place is the next to pass
pub drop_one : {half : ℕ} {g : OpenGraph} {next : ℕ → ℕ} {current : List Bool}
    {begun now : Circuit} (order : List ℕ) (i : ℕ) → i < length order →
    IsExtracting half g next order (drop i order) current begun now →
    IsExtracting half g next order (slice_index_or order i 0 ∷ drop (i + 1) order) current begun now
drop_one {half} {g} {next} {current} {begun} {now} order i l h =
    subst (λ (rest : List ℕ). IsExtracting half g next order rest current begun now)
    (split order i l) h
  where
    split : (order : List ℕ) (i : ℕ) → i < length order →
        drop i order ≡ slice_index_or order i 0 ∷ drop (i + 1) order
    split [] i l = absurd (omega arith)
    split (v ∷ order) zero l = refl
    split (v ∷ order) (suc i) l =
        let more : suc (i + 1) ≡ suc i + 1 = omega arith in
        split order i (omega arith)
        ∙ ap (λ (n : ℕ). slice_index_or order i 0 ∷ drop n (v ∷ order)) more

pub drop_none : {half : ℕ} {g : OpenGraph} {next : ℕ → ℕ} {current : List Bool}
    {begun now : Circuit} (order : List ℕ) (i : ℕ) → length order ≤ i →
    IsExtracting half g next order (drop i order) current begun now →
    IsExtracting half g next order [] current begun now
drop_none {half} {g} {next} {current} {begun} {now} order i l h =
    subst (λ (rest : List ℕ). IsExtracting half g next order rest current begun now)
    (none order i l) h
  where
    none : (order : List ℕ) (i : ℕ) → length order ≤ i → drop i order ≡ []
    none [] zero l = refl
    none [] (suc i) l = refl
    none (v ∷ order) zero l = absurd (omega arith)
    none (v ∷ order) (suc i) l = none order i (omega arith)

-- it and its next are vertices
pub both_vertices : {half : ℕ} {g : OpenGraph} {next : ℕ → ℕ} {order rest : List ℕ} {i : ℕ}
    {current : List Bool} {begun now : Circuit} →
    IsExtracting half g next order (i ∷ rest) current begun now →
    (i < size g) × (next i < size g)
both_vertices {half} {g} {next} {order} {rest} {i} h =
    let at = next_to_pass g h.layer h.done i rest h.passed in (
      at.vertex,
      (corrects_causally g next h.layer h.flow i at.vertex at.no_output).vertex,
    )

pub gates_made : (half : ℕ) (g : OpenGraph) (next order wires : List ℕ) (first : List Bool)
    (begun : Circuit) {a b c : Circuit} → IsOpenGraph g → IsPlan g next order wires first →
    a ≡ with_gates begun (flat_map (first_row g wires first) (numbers_from 0 (size g))) →
    b ≡ with_gates a (extracted_gates g (number_at next) half [] order) →
    c ≡ with_gates b (flat_map (fixed_row half g wires) (numbers_from 0 (size g))) →
    c ≡ with_gates begun (gates_of half g (number_at next) order)
gates_made half g next order wires first begun {a} {b} {c} valid plan e f h =
    let firsts : List Gate = first_gates g (number_at next) g.edges in
    let measured : List Gate = extracted_gates g (number_at next) half [] order in
    let fixes : List Gate = fixed_gates half g (number_at next) in
    let one : a ≡ with_gates begun firsts =
    e ∙ ap (with_gates begun)
    (first_same g (number_at next) wires plan.wires_are first plan.first_are valid) in
    let two : b ≡ with_gates begun (firsts ++ measured) =
    f ∙ ap (λ (d : Circuit). with_gates d measured) one ∙ with_more begun firsts measured in
    h ∙ ap (with_gates b) (fixed_same g (number_at next) wires plan.wires_are half)
    ∙ ap (λ (d : Circuit). with_gates d fixes) two
    ∙ with_more begun (firsts ++ measured) fixes
    ∙ ap (with_gates begun) (append_assoc firsts measured fixes)
