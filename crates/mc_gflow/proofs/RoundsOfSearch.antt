-- Rounds of the search.
use Rattle.std.specs.Prelude.{◌≡◌, ◌≢◌, ◌⊎◌, ℕ, ◌+◌, ◌*◌, ◌<◌}
use Rattle.std.specs.Prelude.{◌≤◌, Bool, true, false, ◌&&◌, cond}
use Rattle.std.specs.Prelude.{nat_eq, List, [], length, slice_index, refl}
use Rattle.std.proofs.Common.{arith, sym, ap, subst, ◌∙◌, inl, inr}
use Rattle.std.proofs.Math.Nat.{mul-le-mul_left}
use Rattle.std.proofs.lemmas.Bool.{eq-eqb, eqb-true}
use Rattle.std.proofs.lemmas.List.Sums.{count_by-le-length}
use Rattle.mc_model.specs.Bits.{Bits}
use Rattle.mc_model.specs.Graph.{OpenGraph, size, is_output, joins, odd_neighbourhood}
use Rattle.mc_model.specs.Flow.{single, IsFlow}
use Rattle.mc_model.specs.Choice.{IsChosenFlow, IsChosenRefuter}
use Rattle.mc_model.proofs.OddSums.{odd-none}
use Rattle.mc_model.proofs.Refutation.{refuted}
use Rattle.mc_elim.specs.Systems.{Refutes, IsLeast}
use Rattle.mc_elim.specs.Tables.{entry}
use Rattle.mc_elim.specs.Basis.{Inserted, count_of, columns_of}
use Rattle.mc_elim.proofs.BitSums.{and_left, clash, not_true, single_itself}
use Rattle.mc_gflow.specs.Layers.{IsCorrection, IsBefore, HoldsCandidates, HoldsLayers}
use Rattle.mc_gflow.specs.Layers.{IsEarliestTo, TakenUpTo, AreAlone, AreRefuted, HasSquare, untaken}
use Rattle.mc_gflow.specs.Layers.{left_over, CountsColumns, IsSearching, IsSearched}
use Rattle.mc_gflow.proofs.TakenOrNot.{stuck}
use Rattle.mc_gflow.proofs.ChosenAtEnd.{chosen_flow, chosen_refuter}
use Rattle.mc_gflow.proofs.CandidatesInserted.{no_more_columns}

split : (a b : ℕ) → a < b + 1 → (a < b) ⊎ (a ≡ b)
split a b l = grind arith

-- a round begins
pub round_begins : (g : OpenGraph) (layer : ℕ → ℕ) (none k : ℕ) (sets : ℕ → Bits)
    (order : ℕ → ℕ) (basis : Inserted) → k + 1 < none → HoldsLayers g layer none k sets →
    HoldsCandidates g layer (k + 1) 0 order basis → IsEarliestTo g layer k →
    TakenUpTo g layer none (k + 1) 0 sets order basis
round_begins g layer none k sets order basis low h c e = record {
  low = low;
  some = omega arith;
  layers = record {
    outputs = h.outputs;
    positive = h.positive;
    taken = λ u un. elim (h.taken u un) [ inl le ↦ inl (omega arith) | inr x ↦ inr x ];
    least = λ u un o le. elim (h.taken u un) [
      | inl less ↦ h.least u un o less
      | inr x ↦ absurd (omega arith)
    ];
  };
  candidates = c;
  earlier = λ u j un o lt s x. e u j un o (omega arith) s x;
  passed = λ u un l o s x. absurd (omega arith);
}

pub alone_below : (g : OpenGraph) (layer : ℕ → ℕ) (none k : ℕ) (sets : ℕ → Bits) → k + 1 < none →
    HoldsLayers g layer none k sets → AreAlone g layer k sets → AreAlone g layer (k + 1) sets
alone_below g layer none k sets low h alone v vn o le = elim (h.taken v vn) [
  | inl less ↦ alone v vn o less
  | inr x ↦ absurd (omega arith)
]

pub earliest_more : (g : OpenGraph) (layer : ℕ → ℕ) (none k : ℕ) (sets : ℕ → Bits)
    (order : ℕ → ℕ) (basis : Inserted) → TakenUpTo g layer none (k + 1) (size g) sets order basis →
    IsEarliestTo g layer (k + 1)
earliest_more g layer none k sets order basis h u j un o le s c = elim
    (split j (k + 1) (omega arith)) [
      | inl lt ↦ h.earlier u j un o lt s c
      | inr e ↦
          subst (λ (a : ℕ). layer u ≤ a) (sym e)
          (h.passed u un un o s (subst (λ (a : ℕ). IsCorrection g layer a u s) e c))
    ]

-- ---- one round

module _ (g : OpenGraph) (none k : ℕ) (layers layers' : List ℕ) (sets sets' : List (List Bool))
    (order order' : List ℕ) (columns columns' : List Bool) (basis basis' : Inserted)
    (old now now' : ℕ)
    (h : IsSearching g none k layers sets order columns basis old now)
    (counted : CountsColumns (size g) now now' basis basis')
    (taken : TakenUpTo g (slice_index layers') none (k + 1) (size g) (entry sets')
    (slice_index order')
    basis')
    (square : HasSquare (size g) sets')
    (alone : basis'.has_added ≡ false → AreAlone g (slice_index layers) (k + 1) (entry sets) →
    AreAlone g (slice_index layers') (k + 1) (entry sets')) where
  low : k + 1 < none
  low = let a = h.low in let b = h.bound in omega arith

  most : now' ≤ old + 2 * size g * count_of basis'
  most =
      let a = h.most in
      let b = counted.most in
      omega arith

  unadded : now' ≡ old → basis'.has_added ≡ false
  unadded e =
      let a = h.rise in
      let b = counted.rise in
      counted.added (omega arith) (h.unadded (omega arith))

  alone_now : now' ≡ old → AreAlone g (slice_index layers') (k + 1) (entry sets')
  alone_now e =
      let a = h.rise in
      let b = counted.rise in
      alone (unadded e)
      (alone_below g (slice_index layers) none k (entry sets) low h.held (h.alone (omega arith)))

  pub goes_on :
      (length layers' ≡ size g) × (length order' ≡ size g) × (length columns' ≡ size g) →
      untaken none layers' + 1 ≤ untaken none layers →
      IsSearching g none (k + 1) layers' sets' order' columns' basis' old now'
  goes_on lengths fewer =
      let a = h.rise in
      let b = counted.rise in
      let c = h.bound in
      record {
        lengths = lengths;
        square = square;
        low = h.low;
        bound = omega arith;
        held = taken.layers;
        candidates = taken.candidates;
        earliest =
            earliest_more g (slice_index layers') none k (entry sets') (slice_index order') basis'
            taken;
        rise = omega arith;
        most = most;
        unadded = unadded;
        alone = alone_now;
      }

  pub ends : layers' ≡ layers → sets' ≡ sets →
      IsSearched g none k layers' sets' order' basis' old now'
  ends e f =
      let a = h.rise in
      let b = counted.rise in
      record {
        square = square;
        stuck =
            stuck g (slice_index layers') none k (entry sets') (slice_index order') basis'
            (subst (λ (l : List ℕ). HoldsLayers g (slice_index l) none k (entry sets')) (sym e)
            (subst (λ (s : List (List Bool)). HoldsLayers g (slice_index layers) none k (entry s))
            (sym f) h.held))
            taken;
        rise = omega arith;
        most = most;
        alone = λ x.
            subst (λ (l : List ℕ). AreAlone g (slice_index l) k (entry sets')) (sym e)
            (subst (λ (s : List (List Bool)). AreAlone g (slice_index layers) k (entry s)) (sym f)
            (h.alone (omega arith)));
      }

-- ---- the beginning

-- nothing was taken but the outputs
pub searching_begins : (g : OpenGraph) (none : ℕ) (layers : List ℕ) (sets : List (List Bool))
    (order : List ℕ) (columns : List Bool) (basis : Inserted) (steps : ℕ) →
    size g + 1 < none →
    (length layers ≡ size g) × (length order ≡ size g) × (length columns ≡ size g) →
    HasSquare (size g) sets →
    ((v : ℕ) → v < size g → slice_index layers v ≡ cond (is_output g v) 0 none) →
    basis.rows ≡ size g → basis.room ≡ size g → basis.columns ≡ [] → basis.has_added ≡ false →
    IsSearching g none 0 layers sets order columns basis steps steps
searching_begins g none layers sets order columns basis steps low lengths square start rows room
    empty unadded = record {
      lengths = lengths;
      square = square;
      low = low;
      bound = let a = count_by-le-length (nat_eq none) layers in let b = lengths.0 in omega arith;
      held = record {
        outputs = λ v vn o. start v vn ∙ ap (λ (b : Bool). cond b 0 none) o;
        positive = λ u un o. let e = start u un ∙ ap (λ (b : Bool). cond b 0 none) o in omega arith;
        taken = λ u un. by (is_output g u) u refl un;
        least = λ u un o le.
            let e = start u un ∙ ap (λ (b : Bool). cond b 0 none) o in absurd (omega arith);
      };
      candidates = record {
        rows = rows;
        room = room;
        vertices = λ j jm. absurd (let e = no_columns in omega arith);
        no_input = λ j jm. absurd (let e = no_columns in omega arith);
        before = λ j jm. absurd (let e = no_columns in omega arith);
        rising = λ i j l jm. absurd (let e = no_columns in omega arith);
        complete = λ w wn free b. absurd (nowhere w b);
        columns = λ j v jm vn. absurd (let e = no_columns in omega arith);
      };
      earliest = λ u j un o le s c. absurd (uncorrected u j un o le s c);
      rise = omega arith;
      most = omega arith;
      unadded = λ _. unadded;
      alone = λ _ v vn o le.
          let e = start v vn ∙ ap (λ (b : Bool). cond b 0 none) o in absurd (omega arith);
    }
  where
    no_columns : count_of basis ≡ 0
    no_columns = ap (λ (cs : List (List Bool)). length cs) empty

    by : (b : Bool) (u : ℕ) → is_output g u ≡ b → u < size g →
        (slice_index layers u ≤ 0) ⊎ (slice_index layers u ≡ none)
    by true u o un =
        let e = start u un ∙ ap (λ (b : Bool). cond b 0 none) o in inl (omega arith)
    by false u o un = inr (start u un ∙ ap (λ (b : Bool). cond b 0 none) o)

    nowhere : (w : ℕ) → IsBefore (slice_index layers) 0 0 w → ⊥
    nowhere w (inl lt) = absurd (omega arith)
    nowhere w (inr e) = absurd (let a = e.1 in omega arith)

    -- no set has members below the layer 0
    uncorrected : (u j : ℕ) → u < size g → is_output g u ≡ false → j ≤ 0 → (s : Bits) →
        IsCorrection g (slice_index layers) j u s → ⊥
    uncorrected u j un o le s c =
        clash (odd_neighbourhood g s u) (c.alone u un o ∙ single_itself u)
        (odd-none (size g) (λ w. s w && joins g.edges u w) (λ w wn.
        and_left (s w) (joins g.edges u w) (not_true (s w) (λ e.
        let lt = c.before w e in absurd (omega arith)))))

-- ---- the end

pub steps_bound : (g : OpenGraph) (none k : ℕ) (layers : List ℕ) (sets : List (List Bool))
    (order : List ℕ) (basis : Inserted) (old now : ℕ) →
    IsSearched g none k layers sets order basis old now → now ≤ old + 2 * (size g * size g)
steps_bound g none k layers sets order basis old now h =
    let few = no_more_columns g (slice_index layers) (k + 1) 0 (slice_index order) basis
    h.stuck.candidates in
    let most = h.most in
    let product : size g * count_of basis ≤ size g * size g = mul-le-mul_left (size g) few in
    omega arith

pub flow_found : (g : OpenGraph) (none k : ℕ) (layers : List ℕ) (sets : List (List Bool))
    (order : List ℕ) (basis : Inserted) (old now : ℕ) →
    IsSearched g none k layers sets order basis old now →
    ((v : ℕ) → v < size g → slice_index layers v ≢ none) →
    IsChosenFlow g (entry sets) (slice_index layers)
    × (now ≡ old → (v : ℕ) → v < size g → is_output g v ≡ false →
    (w : ℕ) × ((x : ℕ) → entry sets v x ≡ single w x))
flow_found g none k layers sets order basis old now h all = (
  chosen_flow g (slice_index layers) none k (entry sets) (slice_index order) basis h.stuck taken,
  λ e v vn o. h.alone e v vn o (taken v vn),
)
  where
    taken : (v : ℕ) → v < size g → slice_index layers v ≤ k
    taken v vn = elim (h.stuck.layers.taken v vn) [ inl le ↦ le | inr e ↦ absurd (all v vn e) ]

pub refuter_found : (g : OpenGraph) (none k : ℕ) (layers : List ℕ) (sets sets' : List (List Bool))
    (order : List ℕ) (basis : Inserted) (old now : ℕ) →
    IsSearched g none k layers sets order basis old now →
    (some : (v : ℕ) × (v < size g) × (slice_index layers v ≡ none)) →
    AreRefuted g (slice_index layers) none (size g) (entry sets') basis →
    IsChosenRefuter g (left_over (slice_index layers) none) (entry sets')
    × ((others : ℕ → Bits) (given : ℕ → ℕ) → IsFlow g others given → ⊥)
refuter_found g none k layers sets sets' order basis old now h some f =
    let chosen = chosen_refuter g (slice_index layers) none k (entry sets) (slice_index order) basis
    h.stuck (some.0, some.1, eq-eqb (slice_index layers some.0) none some.2) (entry sets')
    (λ u un e.
    subst (λ (n : ℕ). IsLeast n (Refutes n (count_of basis) (columns_of basis) u) (entry sets' u))
    h.stuck.candidates.rows (f u un un (eqb-true (slice_index layers u) none e))) in (
      chosen,
      λ others given flow.
          refuted g (left_over (slice_index layers) none) (entry sets') chosen.refuter others given
          flow,
    )
