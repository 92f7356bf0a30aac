-- The search for a flow, layer by layer, comes to its end.
use Rattle.std.proofs.Common.{◌≡◌, ◌≢◌, ◌⊎◌, ℕ, zero, suc, ◌+◌, ◌<◌, ◌≤◌, Bool, false, cond}
use Rattle.std.proofs.Common.{List, [], length, map, replicate, refl, arith, subst, inl, inr}
use Rattle.std.proofs.Common.{length-set, sym, ap, ◌∙◌}
use Rattle.std.specs.Prelude.{nat_eq, slice_index, slice_set}
use Rattle.std.specs.List.{range_with_len}
use Rattle.std.proofs.lemmas.Bool.{eq-eqb, ne_eqb, cases_eq}
use Rattle.std.proofs.lemmas.List.{length-replicate, get_or-replicate}
use Rattle.std.proofs.lemmas.List.FromFn.{get_or-map-range_with_len, length-map-range_with_len}
use Rattle.mc_model.specs.Bits.{Bits}
use Rattle.mc_model.specs.Graph.{OpenGraph, size, is_output}
use Rattle.mc_elim.specs.Systems.{Solves, IsLeast}
use Rattle.mc_elim.specs.Tables.{entry}
use Rattle.mc_elim.specs.Basis.{Inserted, count_of, columns_of}
use Rattle.mc_gflow.specs.Layers.{HoldsCandidates, HoldsLayers, IsEarliestTo, IsStuck, TakenUpTo}
use Rattle.mc_gflow.specs.Layers.{HasSquare, untaken, vertices_of}
use Rattle.mc_gflow.proofs.RoundsOfSearch.{round_begins, earliest_more, searching_begins}
use Rattle.mc_gflow.proofs.TakenOrNot.{pass_taken, pass_unsolved, pass_found, takes_in}
use Rattle.mc_gflow.proofs.TakenOrNot.{fewer_untaken, stuck}
use Rattle.mc_chosen.proofs.Systems.{solution_or_none}
use Rattle.mc_chosen.proofs.Candidates.{all_inserted}

module _ (g : OpenGraph) where
  -- the layer of a vertex that was not taken
  abbrev pub none : ℕ
  none = size g + 2

  -- the layers up to `k` were found
  pub record Searched (k : ℕ) : Type 0 where
    pub layers : List ℕ
    pub sets : ℕ → Bits
    pub long : length layers ≡ size g
    pub bound : k + untaken none layers ≤ size g
    pub held : HoldsLayers g (slice_index layers) none k sets
    pub earliest : IsEarliestTo g (slice_index layers) k

  square : HasSquare (size g) (replicate (size g) (replicate (size g) false))
  square = record {
    count = length-replicate (size g) (replicate (size g) false);
    width = λ i lt.
        ap (λ (row : List Bool). length row)
        (get_or-replicate (size g) i (replicate (size g) false) [] lt)
        ∙ length-replicate (size g) false;
  }

  begun : Searched 0
  begun =
      let n = size g in
      let layers = map (λ (v : ℕ). cond (is_output g v) 0 none) (range_with_len 0 n) in
      let sets = replicate n (replicate n false) in
      let long : length layers ≡ n =
      length-map-range_with_len (λ (v : ℕ). cond (is_output g v) 0 none) 0 n in
      let begins = searching_begins g none layers sets (replicate n 0) (replicate n false)
      (record { rows = n; room = n; columns = []; has_added = false }) 0 (omega arith)
      (long, length-replicate n 0, length-replicate n false) square
      (λ v vn. get_or-map-range_with_len (λ (v : ℕ). cond (is_output g v) 0 none) 0 n v v 0 vn
      (omega arith))
      refl refl refl refl in
      record {
        layers = layers;
        sets = entry sets;
        long = long;
        bound = begins.bound;
        held = begins.held;
        earliest = begins.earliest;
      }

  -- ---- one round

  module _ (k : ℕ) (s : Searched k) (order : ℕ → ℕ) (basis : Inserted)
      (candidates : HoldsCandidates g (slice_index s.layers) (k + 1) 0 order basis) where
    -- the vertices below `x` were asked, and some were taken or nothing has changed
    record Asked (x : ℕ) : Type 0 where
      layers : List ℕ
      sets : ℕ → Bits
      long : length layers ≡ size g
      taken : TakenUpTo g (slice_index layers) none (k + 1) x sets order basis
      progress : ((layers ≡ s.layers) × (sets ≡ s.sets))
          ⊎ (untaken none layers + 1 ≤ untaken none s.layers)

    none_asked : Asked 0
    none_asked = record {
      layers = s.layers;
      sets = s.sets;
      long = s.long;
      taken =
          let bound = s.bound in
          round_begins g (slice_index s.layers) none k s.sets order basis (omega arith) s.held
          candidates s.earliest;
      progress = inl (refl, refl);
    }

    taken_next : (x : ℕ) → x < size g → (a : Asked x) → slice_index a.layers x ≡ none →
        (t : Bits) → IsLeast (count_of basis)
        (Solves basis.rows (count_of basis) (columns_of basis) x) t → Asked (x + 1)
    taken_next x xn a e t least =
        let within : x < length a.layers = let long = a.long in omega arith in
        let apart : k + 1 ≢ none = let low = a.taken.low in λ same. absurd (omega arith) in
        let fewer = fewer_untaken a.layers none (k + 1) x within e apart in
        let set = vertices_of (count_of basis) order t in
        let sets : ℕ → Bits = λ w v. cond (nat_eq w x) (set v) (a.sets w v) in
        record {
          layers = slice_set a.layers x (k + 1);
          sets = sets;
          long = length-set a.layers x (k + 1) ∙ a.long;
          taken = pass_found g (slice_index a.layers) none (k + 1) x a.sets order basis a.taken xn
              (slice_index (slice_set a.layers x (k + 1)))
              (takes_in a.layers none (k + 1) x within e) t least sets
              (λ w. rw (eq-eqb x x refl) refl)
              (λ w ne. rw (ne_eqb w x ne) refl);
          progress = elim a.progress [
            | inl same ↦ inr (let equal = ap (untaken none) same.0 in omega arith)
            | inr less ↦ inr (omega arith)
          ];
        }

    ask_next : (x : ℕ) → x < size g → Asked x → Asked (x + 1)
    ask_next x xn a = elim (cases_eq (slice_index a.layers x) none) [
      | inr ne ↦ record {
        layers = a.layers;
        sets = a.sets;
        long = a.long;
        taken = pass_taken g (slice_index a.layers) none (k + 1) x a.sets order basis a.taken ne;
        progress = a.progress;
      }
      | inl e ↦
          let rows = a.taken.candidates.rows in
          elim (solution_or_none basis.rows (count_of basis) (columns_of basis) x (omega arith)) [
            | inl some ↦ taken_next x xn a e some.0 some.1
            | inr unsolved ↦ record {
              layers = a.layers;
              sets = a.sets;
              long = a.long;
              taken = pass_unsolved g (slice_index a.layers) none (k + 1) x a.sets order basis
                  a.taken unsolved;
              progress = a.progress;
            }
          ]
    ]

    asked_to : (x : ℕ) → x ≤ size g → Asked x
    asked_to zero le = none_asked
    asked_to (suc x) le =
        let next : x + 1 ≡ suc x = omega arith in
        subst Asked next (ask_next x (omega arith) (asked_to x (omega arith)))

  -- no more can be taken
  pub record Ended : Type 0 where
    pub last : ℕ
    pub layers : List ℕ
    pub sets : ℕ → Bits
    pub long : length layers ≡ size g
    pub order : ℕ → ℕ
    pub basis : Inserted
    pub stuck : IsStuck g (slice_index layers) none last sets order basis

  abbrev Round : (k : ℕ) → Searched k → Type 0
  Round k s =
      Ended ⊎ ((t : Searched (k + 1)) × (untaken none t.layers + 1 ≤ untaken none s.layers))

  round : (k : ℕ) (s : Searched k) → Round k s
  round k s =
      let c = all_inserted g (slice_index s.layers) (k + 1) in
      let a = asked_to k s c.order c.basis c.holds (size g) (omega arith) in
      elim a.progress [
        | inl same ↦ inl (record {
          last = k;
          layers = a.layers;
          sets = a.sets;
          long = a.long;
          order = c.order;
          basis = c.basis;
          stuck = stuck g (slice_index a.layers) none k a.sets c.order c.basis
              (subst (λ (l : List ℕ). HoldsLayers g (slice_index l) none k a.sets) (sym same.0)
              (subst (λ (f : ℕ → Bits). HoldsLayers g (slice_index s.layers) none k f) (sym same.1)
              s.held))
              a.taken;
        })
        | inr less ↦ inr (
          record {
            layers = a.layers;
            sets = a.sets;
            long = a.long;
            bound = let bound = s.bound in omega arith;
            held = a.taken.layers;
            earliest = earliest_more g (slice_index a.layers) none k a.sets c.order c.basis a.taken;
          },
          less,
        )
      ]

  search : (fuel k : ℕ) (s : Searched k) → untaken none s.layers ≤ fuel → Ended
  search zero k s enough = elim (round k s) [
    | inl end ↦ end
    | inr more ↦ absurd (let less = more.1 in omega arith)
  ]
  search (suc fuel) k s enough = elim (round k s) [
    | inl end ↦ end
    | inr more ↦ let less = more.1 in search fuel (k + 1) more.0 (omega arith)
  ]

  pub ended : Ended
  ended = let bound = begun.bound in search (size g) 0 begun (omega arith)
