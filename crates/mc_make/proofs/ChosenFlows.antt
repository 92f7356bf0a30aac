-- Patterns of flows in standard form: signals of falling layers, and none but first signals where
-- the flow is the chosen one.
use Rattle.std.proofs.Common.{◌≡◌, ℕ, zero, suc, ◌+◌, ◌-◌, ◌<◌, ◌≤◌, Bool, true, false, ◌&&◌}
use Rattle.std.proofs.Common.{◌||◌}
use Rattle.std.proofs.Common.{not, List, [], ◌∷◌, ◌++◌, length, map, refl, sym, ◌∙◌, ap, ap₂, arith}
use Rattle.std.specs.Prelude.{⊤, nat_eq, nat_lt, flat_map, fold, max}
use Rattle.std.specs.List.{AllByRecursion, list_any}
use Rattle.std.proofs.lemmas.Bool.{eq-eqb, eqb-true, ne_eqb, lt-ltb, ltb-true, and_parts, or_cases}
use Rattle.std.proofs.lemmas.Bool.{not-true, cases_Bool, true≢false, false≢true}
use mathlib.Core.Path.{subst}
use mathlib.Core.Logic.{inl, inr}
use Rattle.mc_model.proofs.ChosenFlows.{chosen_is_flow}
use Rattle.mc_model.specs.Numbers.{numbers_from, numbers_where, is_member}
use Rattle.mc_model.specs.Bits.{Bits}
use Rattle.mc_model.specs.Signals.{Signal, no_signal, signal_of}
use Rattle.mc_model.specs.Pattern.{Command, Prep, Ent, Meas, FixX, FixZ, has_constant}
use Rattle.mc_model.specs.Valid.{AllDone}
use Rattle.mc_model.specs.Translation.{preparations}
use Rattle.mc_model.specs.StandardForm.{first_sum, second_sum, standard_form}
use Rattle.mc_model.specs.Shift.{HasNoSecondSignals}
use Rattle.mc_model.specs.Graph.{Edge, OpenGraph, size, is_output, odd_neighbourhood, IsOpenGraph}
use Rattle.mc_model.specs.Graph.{entanglings, graph_state, bare_measurement, fixed_corrections}
use Rattle.mc_model.specs.Flow.{IsFlow, depth_of}
use Rattle.mc_model.specs.Choice.{CorrectsAlone, IsChosenFlow}
use Rattle.mc_model.specs.Made.{measuring_order, corrected_measurement, flow_pattern}
use Rattle.mc_model.specs.Depth.{NamesOutcome, IsChainFrom, IsChain, IsDependenceDepth}
use Rattle.mc_make.proofs.MeasuringOrder.{IsToMeasure, IsOrder, IsWhere, where_all, all-append}
use Rattle.mc_make.proofs.MeasuringOrder.{all-weaker, measured_in_order, below_depth}
use Rattle.mc_graph.proofs.FixedCorrections.{fixed_all, fixed_output}
use Rattle.mc_make.proofs.FlowSignals.{all_at, IsOpening, GivesNoSecond, no_second_sum}
use Rattle.mc_make.proofs.FlowSignals.{GivesFirstIn, first_sum_in, Measures, MeasuresWith}
use Rattle.mc_make.proofs.FlowSignals.{standard_measures}

-- ---- the commands of a flow's pattern

preparations_open : (q n : ℕ) → AllByRecursion IsOpening (preparations q n)
unfolding preparations
preparations_open q zero = tt
preparations_open q (suc n) = (tt, preparations_open (suc q) n)

edges_open : (es : List Edge) → AllByRecursion IsOpening (entanglings es)
edges_open [] = tt
edges_open (e ∷ es) = (tt, edges_open es)

graph_state_opens : (g : OpenGraph) → AllByRecursion IsOpening (graph_state g)
graph_state_opens g =
    all-append IsOpening (preparations g.inputs (size g - g.inputs)) (entanglings g.edges)
    (preparations_open g.inputs (size g - g.inputs)) (edges_open g.edges)

all_mapped : {A : Type 0} {B : Type 0} (P : B → Type 0) (f : A → B) (xs : List A) →
    AllByRecursion (λ x. P (f x)) xs → AllByRecursion P (map f xs)
all_mapped P f [] all = tt
all_mapped P f (x ∷ xs) all = (all.0, all_mapped P f xs all.1)

-- what holds of each measurement and each correction holds of the list
flow_commands : (P : Command → Type 0) (g : OpenGraph) (sets : ℕ → Bits) (layer : ℕ → ℕ) →
    ((i : ℕ) → IsToMeasure g i → P (bare_measurement g i)) →
    ((i k : ℕ) → IsToMeasure g i → sets i k ≡ true → P (FixX k (signal_of i))) →
    ((i k : ℕ) → IsToMeasure g i → k < size g → odd_neighbourhood g (sets i) k ≡ true →
    (k ≡ i → ⊥) → P (FixZ k (signal_of i))) →
    (is : List ℕ) → IsOrder g layer is →
    AllByRecursion P (flat_map (λ i. corrected_measurement g (sets i) i) is)
unfolding corrected_measurement
flow_commands P g sets layer meas xs zs [] order = tt
flow_commands P g sets layer meas xs zs (i ∷ is) order =
    let n : ℕ = size g in
    let odds : Bits = λ k. odd_neighbourhood g (sets i) k && not (nat_eq k i) in
    let first : List Command = map (λ k. FixX k (signal_of i)) (numbers_where (sets i) n) in
    let second : List Command = map (λ k. FixZ k (signal_of i)) (numbers_where odds n) in
    all-append P (corrected_measurement g (sets i) i) _ (
      meas i order.0,
      all-append P first second
          (all_mapped P (λ k. FixX k (signal_of i)) (numbers_where (sets i) n)
          (all-weaker (IsWhere (sets i) 0 n) (λ k. P (FixX k (signal_of i)))
          (λ k w. xs i k order.0 w.0)
          (numbers_where (sets i) n) (where_all (sets i) 0 n)))
          (all_mapped P (λ k. FixZ k (signal_of i)) (numbers_where odds n)
          (all-weaker (IsWhere odds 0 n) (λ k. P (FixZ k (signal_of i)))
          (λ k w.
          let high = w.2 in
          let parts = and_parts (odd_neighbourhood g (sets i) k) (not (nat_eq k i)) w.0 in
          zs i k order.0 (omega arith) parts.0 (other k i parts.1))
          (numbers_where odds n) (where_all odds 0 n))),
    )
    (flow_commands P g sets layer meas xs zs is order.2)
  where
    other : (k i : ℕ) → not (nat_eq k i) ≡ true → k ≡ i → ⊥
    other k i e d = true≢false (sym (eq-eqb k i d) ∙ not-true (nat_eq k i) e)

-- the commands of the flow's pattern
abbrev flow_list : OpenGraph → (ℕ → Bits) → (ℕ → ℕ) → List Command
flow_list g sets layer =
    graph_state g
    ++ (flat_map (λ i. corrected_measurement g (sets i) i)
    (measuring_order g layer (depth_of g layer))
    ++ fixed_corrections g)

-- what holds moreover of preparations, entanglings and fixed corrections holds of all commands
flow_list_all : (P : Command → Type 0) (g : OpenGraph) (sets : ℕ → Bits) (layer : ℕ → ℕ) →
    ((c : Command) → IsOpening c → P c) →
    ((i : ℕ) → IsToMeasure g i → P (bare_measurement g i)) →
    ((i k : ℕ) → IsToMeasure g i → sets i k ≡ true → P (FixX k (signal_of i))) →
    ((i k : ℕ) → IsToMeasure g i → k < size g → odd_neighbourhood g (sets i) k ≡ true →
    (k ≡ i → ⊥) → P (FixZ k (signal_of i))) →
    AllByRecursion P (fixed_corrections g) → AllByRecursion P (flow_list g sets layer)
flow_list_all P g sets layer opening meas xs zs fixes =
    let order : List ℕ = measuring_order g layer (depth_of g layer) in
    let made : List Command = flat_map (λ i. corrected_measurement g (sets i) i) order in
    all-append P (graph_state g) (made ++ fixed_corrections g)
    (all-weaker IsOpening P opening (graph_state g) (graph_state_opens g))
    (all-append P made (fixed_corrections g)
    (flow_commands P g sets layer meas xs zs order
    (measured_in_order g layer (depth_of g layer)))
    fixes)

-- ---- corrections by Z

abbrev FixesOnlyOutputs : OpenGraph → Command → Type 0
FixesOnlyOutputs g (FixZ k s) = is_output g k ≡ true
FixesOnlyOutputs g c = ⊤

-- a vertex that is not alone in the odd neighbourhood is an output
odd_is_output : (g : OpenGraph) (layer : ℕ → ℕ) (i k : ℕ) (s : Bits) → CorrectsAlone g layer i s →
    k < size g → odd_neighbourhood g s k ≡ true → (k ≡ i → ⊥) → is_output g k ≡ true
odd_is_output g layer i k s at lk odd ne = elim (cases_Bool (is_output g k)) [
  | inl out ↦ out
  | inr inner ↦ absurd (true≢false (sym odd ∙ at.alone k lk inner ∙ ne_eqb k i ne))
]

pub z_only_on_outputs : (g : OpenGraph) (sets : ℕ → Bits) (layer : ℕ → ℕ) → IsOpenGraph g →
    IsChosenFlow g sets layer → (before behind : List Command) (k : ℕ) (s : Signal) →
    (flow_pattern g sets layer).commands ≡ before ++ (FixZ k s ∷ behind) → is_output g k ≡ true
unfolding flow_pattern
z_only_on_outputs g sets layer valid chosen before behind k s e =
    all_at (FixesOnlyOutputs g) before (FixZ k s) behind
    (subst (AllByRecursion (FixesOnlyOutputs g)) e
    (flow_list_all (FixesOnlyOutputs g) g sets layer opening (λ i m. tt) (λ i j m h. tt)
    (λ i j m l odd ne.
    odd_is_output g layer i j (sets i) (chosen.least_sets i m.vertex m.no_output).has l odd ne)
    (fixed_all g (FixesOnlyOutputs g) (λ v l f. tt)
    (λ v l f. fixed_output g valid (λ t. t.z) v l refl f))))
  where
    opening : (c : Command) → IsOpening c → FixesOnlyOutputs g c
    opening (Prep q) h = tt
    opening (Ent q r) h = tt
    opening (Meas q a t u) h = absurd h
    opening (FixX q t) h = absurd h
    opening (FixZ q t) h = absurd h

-- ---- the signals of the standard form

no_second_of : (g : OpenGraph) (sets : ℕ → Bits) (layer : ℕ → ℕ) → IsOpenGraph g →
    IsChosenFlow g sets layer → (q : ℕ) → is_output g q ≡ false →
    second_sum (flow_list g sets layer) q ≡ no_signal
no_second_of g sets layer valid chosen q inner =
    let order : List ℕ = measuring_order g layer (depth_of g layer) in
    let made : List Command = flat_map (λ i. corrected_measurement g (sets i) i) order in
    no_second_sum q (graph_state g) (made ++ fixed_corrections g) (graph_state_opens g)
    (all-append (GivesNoSecond q) made (fixed_corrections g)
    (flow_commands (GivesNoSecond q) g sets layer (λ i m. refl) (λ i k m h. tt)
    (λ i k m l odd ne e.
    let out =
    odd_is_output g layer i k (sets i) (chosen.least_sets i m.vertex m.no_output).has l odd ne in
    true≢false (sym out ∙ ap (is_output g) (sym e) ∙ inner))
    order (measured_in_order g layer (depth_of g layer)))
    (fixed_all g (GivesNoSecond q) (λ v l f. tt)
    (λ v l f e.
    true≢false (sym (fixed_output g valid (λ t. t.z) v l refl f) ∙ ap (is_output g) (sym e)
    ∙ inner))))

-- the members of the first signal of a vertex have greater layers
first_of : (g : OpenGraph) (sets : ℕ → Bits) (layer : ℕ → ℕ) → IsFlow g sets layer → (q : ℕ) →
    AllDone (λ i. nat_lt (layer q) (layer i)) (first_sum (flow_list g sets layer) q).members
first_of g sets layer flow q =
    first_sum_in m q (flow_list g sets layer)
    (flow_list_all (GivesFirstIn m q) g sets layer opening (λ i h e. tt)
    (λ i k h holds e.
    let low : layer k < layer i = (flow.corrects i h.vertex h.no_output).set_later k holds in
    let same : layer q ≡ layer k = ap layer e in
    (lt-ltb (layer q) (layer i) (omega arith), tt))
    (λ i k h l odd ne. tt)
    (fixed_all g (GivesFirstIn m q) (λ v l f e. tt) (λ v l f. tt)))
  where
    m : Bits
    m = λ i. nat_lt (layer q) (layer i)

    opening : (c : Command) → IsOpening c → GivesFirstIn m q c
    opening (Prep r) h = tt
    opening (Ent r u) h = tt
    opening (Meas r a t u) h = absurd h
    opening (FixX r t) h = absurd h
    opening (FixZ r t) h = absurd h

-- the measurements of the standard form: of vertices that are no outputs, with the sums as signals
made_measures : (g : OpenGraph) (sets : ℕ → Bits) (layer : ℕ → ℕ) →
    AllByRecursion (MeasuresWith (IsToMeasure g) (first_sum (flow_list g sets layer))
    (second_sum (flow_list g sets layer)))
    (standard_form (flow_pattern g sets layer)).commands
unfolding standard_form flow_pattern
made_measures g sets layer =
    standard_measures (IsToMeasure g) g.inputs (flow_list g sets layer)
    (flow_list_all (Measures (IsToMeasure g)) g sets layer opening (λ i m. m) (λ i k m h. tt)
    (λ i k m l odd ne. tt)
    (fixed_all g (Measures (IsToMeasure g)) (λ v l f. tt) (λ v l f. tt)))
  where
    opening : (c : Command) → IsOpening c → Measures (IsToMeasure g) c
    opening (Prep q) h = tt
    opening (Ent q r) h = tt
    opening (Meas q a t u) h = absurd h
    opening (FixX q t) h = tt
    opening (FixZ q t) h = tt

made_at : (g : OpenGraph) (sets : ℕ → Bits) (layer : ℕ → ℕ) (before : List Command) (q a : ℕ)
    (s t : Signal) (behind : List Command) →
    (standard_form (flow_pattern g sets layer)).commands ≡ before ++ (Meas q a s t ∷ behind) →
    IsToMeasure g q × (s ≡ first_sum (flow_list g sets layer) q)
    × (t ≡ second_sum (flow_list g sets layer) q)
made_at g sets layer before q a s t behind e =
    let P : Command → Type 0 =
    MeasuresWith (IsToMeasure g) (first_sum (flow_list g sets layer))
    (second_sum (flow_list g sets layer)) in
    all_at P before (Meas q a s t) behind
    (subst (AllByRecursion P) e (made_measures g sets layer))

pub chosen_has_no_second : (g : OpenGraph) (sets : ℕ → Bits) (layer : ℕ → ℕ) →
    IsOpenGraph g → IsChosenFlow g sets layer →
    HasNoSecondSignals (standard_form (flow_pattern g sets layer)).commands
chosen_has_no_second g sets layer valid chosen before q a s t behind e =
    let at = made_at g sets layer before q a s t behind e in
    at.2 ∙ no_second_of g sets layer valid chosen q at.0.no_output

-- ---- the dependence depth

member_done : (m : Bits) (qs : List ℕ) (p : ℕ) → AllDone m qs → is_member qs p ≡ true → m p ≡ true
member_done m [] p all e = absurd (false≢true e)
member_done m (q ∷ qs) p all e = elim (or_cases (nat_eq p q) (is_member qs p) e) [
  | inl h ↦ ap m (eqb-true p q h) ∙ all.0
  | inr h ↦ member_done m qs p all.1 h
]

-- a measurement that names the outcome of another is of a smaller layer
named_below : (g : OpenGraph) (sets : ℕ → Bits) (layer : ℕ → ℕ) → IsOpenGraph g →
    IsChosenFlow g sets layer → (p q : ℕ) →
    NamesOutcome (standard_form (flow_pattern g sets layer)).commands p q →
    (1 ≤ layer q) × (layer q < layer p)
named_below g sets layer valid chosen p q h =
    let flow = chosen_is_flow g sets layer chosen in
    let at = made_at g sets layer h.before q h.angle h.s h.t h.behind h.place in
    let none : h.t ≡ no_signal = at.2 ∙ no_second_of g sets layer valid chosen q at.0.no_output in
    let named : is_member h.s.members p ≡ true =
    elim (or_cases (is_member h.s.members p) (is_member h.t.members p) h.names) [
      | inl e ↦ e
      | inr e ↦
          absurd (false≢true (sym (ap (λ (t : Signal). is_member t.members p) none) ∙ e))
    ] in
    let members : AllDone (λ i. nat_lt (layer q) (layer i)) h.s.members =
    subst (λ (s : Signal). AllDone (λ i. nat_lt (layer q) (layer i)) s.members) (sym at.1)
    (first_of g sets layer flow q) in (
      flow.positive q at.0.vertex at.0.no_output,
      ltb-true (layer q) (layer p)
          (member_done (λ i. nat_lt (layer q) (layer i)) h.s.members p members named),
    )

chain_below : (g : OpenGraph) (sets : ℕ → Bits) (layer : ℕ → ℕ) → IsOpenGraph g →
    IsChosenFlow g sets layer → (p : ℕ) (qs : List ℕ) → 1 ≤ layer p →
    IsChainFrom (standard_form (flow_pattern g sets layer)).commands p qs → length qs < layer p
chain_below g sets layer valid chosen p [] low chain = omega arith
chain_below g sets layer valid chosen p (q ∷ qs) low chain =
    let below = named_below g sets layer valid chosen p q chain.0 in
    let one = below.0 in
    let two = below.1 in
    let rest = chain_below g sets layer valid chosen q qs one chain.1 in
    omega arith

chain_within : (g : OpenGraph) (sets : ℕ → Bits) (layer : ℕ → ℕ) → IsOpenGraph g →
    IsChosenFlow g sets layer → (qs : List ℕ) →
    IsChain (standard_form (flow_pattern g sets layer)).commands qs →
    length qs ≤ depth_of g layer
chain_within g sets layer valid chosen [] chain = omega arith
chain_within g sets layer valid chosen (q ∷ qs) chain =
    let h = chain.0 in
    let at = (made_at g sets layer h.before q h.angle h.s h.t h.behind h.place).0 in
    let flow = chosen_is_flow g sets layer chosen in
    let rest =
    chain_below g sets layer valid chosen q qs (flow.positive q at.vertex at.no_output) chain.1 in
    let most = below_depth g layer q at.vertex in
    omega arith

pub depth_within_layers : (g : OpenGraph) (sets : ℕ → Bits) (layer : ℕ → ℕ) → IsOpenGraph g →
    IsChosenFlow g sets layer → (d : ℕ) →
    IsDependenceDepth (standard_form (flow_pattern g sets layer)).commands d →
    d ≤ depth_of g layer
depth_within_layers g sets layer valid chosen d h =
    let reached = h.reached in
    let within = chain_within g sets layer valid chosen h.chain h.is_chain in
    omega arith

-- no flow is less deep

most_at_most : (layer : ℕ → ℕ) (m a q n : ℕ) → a ≤ m →
    ((v : ℕ) → q ≤ v → v < q + n → layer v ≤ m) →
    fold max a (map layer (numbers_from q n)) ≤ m
most_at_most layer m a q zero low h = low
most_at_most layer m a q (suc n) low h =
    let here = h q (omega arith) (omega arith) in
    most_at_most layer m (max a (layer q)) (suc q) n (omega arith)
    (λ v l k. h v (omega arith) (omega arith))

pub chosen_depth_least : (g : OpenGraph) (sets : ℕ → Bits) (layer : ℕ → ℕ) →
    IsChosenFlow g sets layer → (sets' : ℕ → Bits) (layer' : ℕ → ℕ) → IsFlow g sets' layer' →
    depth_of g layer ≤ depth_of g layer'
chosen_depth_least g sets layer chosen sets' layer' flow =
    most_at_most layer (depth_of g layer') 0 0 (size g) (omega arith)
    (λ v l k.
    let lt : v < size g = omega arith in
    let least = (chosen.least_layers v lt).least sets' layer' flow in
    let below = below_depth g layer' v lt in
    omega arith)

-- ---- constants

none_has : (cs : List Command) → AllByRecursion (λ c. has_constant c ≡ false) cs →
    list_any has_constant cs ≡ false
none_has [] all = refl
none_has (c ∷ cs) all = ap₂ (λ (a b : Bool). a || b) all.0 (none_has cs all.1)

pub flow_pattern_free : (g : OpenGraph) (sets : ℕ → Bits) (layer : ℕ → ℕ) →
    fixed_corrections g ≡ [] → list_any has_constant (flow_pattern g sets layer).commands ≡ false
unfolding flow_pattern
flow_pattern_free g sets layer none =
    none_has (flow_list g sets layer)
    (flow_list_all (λ c. has_constant c ≡ false) g sets layer opening (λ i m. refl)
    (λ i k m h. refl) (λ i k m l odd ne. refl)
    (subst (AllByRecursion (λ c. has_constant c ≡ false)) (sym none) tt))
  where
    opening : (c : Command) → IsOpening c → has_constant c ≡ false
    opening (Prep q) h = refl
    opening (Ent q r) h = refl
    opening (Meas q a t u) h = absurd h
    opening (FixX q t) h = absurd h
    opening (FixZ q t) h = absurd h
