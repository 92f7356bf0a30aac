-- Where the search ends, there is the chosen flow or the chosen refuter.
use Rattle.std.proofs.Common.{◌≡◌, ◌⊎◌, ℕ, ◌<◌, ◌≤◌, Bool, true, false, refl, arith}
use Rattle.std.proofs.Common.{subst, inl, inr}
use Rattle.std.specs.Prelude.{slice_index, nat_eq, fold, max}
use Rattle.std.proofs.lemmas.Bool.{eqb-true}
use Rattle.mc_model.specs.Bits.{Bits}
use Rattle.mc_model.specs.Graph.{OpenGraph, size, is_output}
use Rattle.mc_model.specs.Choice.{IsChosenFlow}
use Rattle.mc_model.proofs.Refutation.{refuted}
use Rattle.mc_elim.specs.Systems.{Refutes, IsLeast}
use Rattle.mc_elim.specs.Basis.{count_of, columns_of}
use Rattle.mc_elim.proofs.BitSums.{clash, not_true}
use Rattle.mc_graph.specs.Flows.{FlowRows}
use Rattle.mc_gflow.specs.Layers.{left_over}
use Rattle.mc_gflow.proofs.ChosenAtEnd.{chosen_flow, chosen_refuter}
use Rattle.mc_gflow.proofs.ChosenRows.{chosen_rows, chosen_refuter_rows}
use Rattle.mc_gflow.proofs.TakenOrNot.{stuck_unsolved}
use Rattle.mc_chosen.specs.Laws.{HasChosenFlow, HasChosenRefuter}
use Rattle.mc_chosen.proofs.Systems.{first_or_none, least_refuter}
use Rattle.mc_chosen.proofs.Search.{Ended, none, ended}
use Rattle.mc_chosen.proofs.FlowLists.{all_listed, all_refuters}

module _ (g : OpenGraph) (end : Ended g) where
  abbrev layer : ℕ → ℕ
  layer = slice_index end.layers

  abbrev left : Bits
  left = left_over layer (none g)

  -- ---- all were taken

  module _ (all : (v : ℕ) → v < size g → left v ≡ false) where
    taken : (v : ℕ) → v < size g → layer v ≤ end.last
    taken v vn = elim (end.stuck.layers.taken v vn) [
      | inl le ↦ le
      | inr e ↦ absurd (clash (left v) (rw e (eq_self (none g))) (all v vn))
    ]
      where
        eq_self : (k : ℕ) → nat_eq k k ≡ true
        eq_self k = grind arith

    is_chosen : IsChosenFlow g end.sets layer
    is_chosen =
        chosen_flow g layer (none g) end.last end.sets end.order end.basis end.stuck taken

    inside : (v : ℕ) → v < size g → 1 ≤ layer v → (j : ℕ) → end.sets v j ≡ true → j < size g
    inside v vn some j e =
        let inner : is_output g v ≡ false = not_true (is_output g v) (λ o.
        let low = end.stuck.layers.outputs v vn o in absurd (omega arith)) in
        (is_chosen.least_sets v vn inner).has.within j e

    pub flow_exists : HasChosenFlow g
    flow_exists =
        let depth = fold max 0 end.layers in
        let a = all_listed (size g) layer end.sets inside depth in
        let f : FlowRows = record { depth = depth; rows = a.rows } in
        record {
          rows = f;
          chosen = chosen_rows g end.layers end.sets f end.long refl a.holds is_chosen;
          own = (a.own, a.rising);
        }

  -- ---- some were not

  -- the least set that refutes a vertex
  record IsRefuted (u : ℕ) : Type 0 where
    set : Bits
    least : u < size g → left u ≡ true → IsLeast (size g)
        (Refutes (size g) (count_of end.basis) (columns_of end.basis) u) set
    within : (j : ℕ) → set j ≡ true → j < size g

  refuted_at : (u : ℕ) → IsRefuted u
  refuted_at u = elim (sides u (size g)) [
    | inr ge ↦ record {
      set = λ j. false;
      least = λ un here. absurd (omega arith);
      within = λ j e. absurd (cc e);
    }
    | inl un ↦ by (left u) refl un
  ]
    where
      sides : (a b : ℕ) → (a < b) ⊎ (b ≤ a)
      sides a b = grind arith

      by : (b : Bool) → left u ≡ b → u < size g → IsRefuted u
      by false e un = record {
        set = λ j. false;
        least = λ un here. absurd (clash (left u) here e);
        within = λ j f. absurd (cc f);
      }
      by true e un =
          let rows = end.stuck.candidates.rows in
          let y = least_refuter end.basis.rows (count_of end.basis) (columns_of end.basis) u
          (omega arith)
          (λ s h. stuck_unsolved g layer (none g) end.last end.sets end.order end.basis end.stuck u
          un (eqb-true (layer u) (none g) e) (s, h)) in
          record {
            set = y.0;
            least = λ un here.
                subst (λ (n : ℕ). IsLeast n
                (Refutes n (count_of end.basis) (columns_of end.basis) u) y.0) rows y.1;
            within = λ j f. elim (sides j (size g)) [
              | inl lt ↦ lt
              | inr ge ↦ absurd (clash (y.0 j) f (y.2 j (omega arith)))
            ];
          }

  abbrev sets_of : ℕ → Bits
  sets_of u = (refuted_at u).set

  pub refuter_exists : (u : ℕ) × (u < size g) × (left u ≡ true) → HasChosenRefuter g
  refuter_exists some =
      let chosen = chosen_refuter g layer (none g) end.last end.sets end.order end.basis end.stuck
      some sets_of (λ u un here. (refuted_at u).least un here) in
      let a = all_refuters (size g) layer sets_of (none g)
      (λ v vn e j f. (refuted_at v).within j f) (size g) (omega arith) in
      record {
        rows = a.rows;
        chosen = chosen_refuter_rows g (none g) end.layers sets_of a.rows end.long (omega arith)
            a.holds chosen;
        none = λ others given flow.
            refuted g left sets_of chosen.refuter others given flow;
        own = (a.own, a.rising);
      }

pub one_exists : (g : OpenGraph) → HasChosenFlow g ⊎ HasChosenRefuter g
one_exists g =
    let end = ended g in
    elim (first_or_none (size g) (left_over (slice_index end.layers) (none g))) [
      | inl some ↦ inr (refuter_exists g end some)
      | inr all ↦ inl (flow_exists g end all)
    ]
