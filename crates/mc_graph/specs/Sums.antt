-- Base angles and constants of the sums of a pattern's signals, command by command.
use Rattle.std.specs.Prelude.{◌≡◌, ℕ, ◌*◌, ◌%◌, ◌<◌, Bool, length, option_map, false, cond, List}
use Rattle.std.specs.Prelude.{slice_index_or, slice_set, Option, None, Some}
use Rattle.mc_model.specs.Bits.{◌⊻◌}
use Rattle.mc_model.specs.Phase.{measured_angle}
use Rattle.mc_model.specs.Pattern.{Command, Prep, Ent, Meas, FixX, FixZ}
use Rattle.mc_model.specs.Valid.{measured}
use Rattle.mc_model.specs.Graph.{not_fixed, angle_in, constants_at, turned_angle}
use Rattle.mc_graph.specs.Graphs.{plain_fixed}
use Rattle.mc_graph.specs.declared.label.Label.{Label}

abbrev pub no_label : {half : ℕ} → Label half
no_label = record { angle = None; fixed = record { x = false; z = false } }

abbrev pub label_at : {half : ℕ} → List (Label half) → ℕ → Label half
label_at labels q = slice_index_or labels q no_label

-- with more added to the constants of a qubit
abbrev pub with_constants : {half : ℕ} → List (Label half) → ℕ → Bool → Bool → List (Label half)
with_constants labels q x z =
    let label = label_at labels q in
    slice_set labels q (record {
      angle = label.angle;
      fixed = record { x = label.fixed.x ⊻ x; z = label.fixed.z ⊻ z };
    })

abbrev pub with_base : {half : ℕ} → List (Label half) → ℕ → ℕ → List (Label half)
with_base labels q angle =
    slice_set labels q (record { angle = Some angle; fixed = (label_at labels q).fixed })

-- a command's part in each: an entangling hands each constant of an `X` sum to the other's `Z` sum
abbrev pub taken_labels : {half : ℕ} → Command → List (Label half) → List (Label half)
taken_labels (Prep q) labels = labels
taken_labels (Ent q r) labels =
    with_constants (with_constants labels q false (label_at labels r).fixed.x) r false
    (label_at labels q).fixed.x
taken_labels (Meas q a s t) labels =
    with_constants (with_base labels q a) q s.constant t.constant
taken_labels (FixX q s) labels = with_constants labels q s.constant false
taken_labels (FixZ q s) labels = with_constants labels q false s.constant

-- the label of a vertex: constants turn the angle of a measured qubit
abbrev pub settle : {half : ℕ} → Option ℕ → Label half → Label half
settle None label = label
settle {half} (Some a) label = record {
  angle = Some (measured_angle half a label.fixed.x label.fixed.z % (2 * half));
  fixed = record { x = false; z = false };
}

abbrev pub settled : {half : ℕ} → Label half → Label half
settled label = settle label.angle label

-- the base angles and the constants of the sums of the signals of a list, where every outcome is 0
pub record AreSums {half : ℕ} (n : ℕ) (cs : List Command) (labels : List (Label half)) : Type 0
  where
    pub long : length labels ≡ n
    pub angle : (q : ℕ) → (label_at labels q).angle ≡ angle_in cs q
    pub x : (q : ℕ) → (label_at labels q).fixed.x ≡ (constants_at cs q).x
    pub z : (q : ℕ) → (label_at labels q).fixed.z ≡ (constants_at cs q).z

-- the labels of the vertices of the graph
pub record AreSettled {half : ℕ} (n : ℕ) (cs : List Command) (labels : List (Label half)) : Type 0
  where
    pub long : length labels ≡ n
    pub angle : (q : ℕ) → q < n →
        (label_at labels q).angle ≡ option_map (turned_angle half cs q) (angle_in cs q)
    pub fixed : (q : ℕ) → q < n →
        plain_fixed (label_at labels q).fixed ≡ cond (measured cs q) not_fixed (constants_at cs q)
