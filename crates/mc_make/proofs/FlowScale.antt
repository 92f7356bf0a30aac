-- The pattern of a flow prepares and measures what the pattern without a flow does.
use Rattle.std.proofs.Common.{◌≡◌, ℕ, ◌&&◌, not, map, length, List, [], ◌∷◌, refl, arith}
use Rattle.std.specs.Prelude.{nat_eq, flat_map}
use Rattle.mc_model.specs.Bits.{Bits}
use Rattle.mc_model.specs.Numbers.{numbers_where}
use Rattle.mc_model.specs.Signals.{Signal, signal_of}
use Rattle.mc_model.specs.Pattern.{Command, FixX, FixZ}
use Rattle.mc_model.specs.Amplitude.{halvings, pattern_scale}
use Rattle.mc_model.specs.Graph.{OpenGraph, size, is_output, odd_neighbourhood, zero_pattern}
use Rattle.mc_model.specs.Flow.{IsFlow, depth_of}
use Rattle.mc_model.specs.Made.{measuring_order, corrected_measurement, flow_pattern}
use Rattle.mc_model.proofs.AnyOrder.{same_length}
use Rattle.mc_model.proofs.Scales.{halvings-append, halvings-between, zero_scale}
use Rattle.mc_make.proofs.OrderLists.{order_falls}

halvings-xs : (s : Signal) (qs : List ℕ) → halvings (map (λ q. FixX q s) qs) ≡ 0
unfolding halvings
halvings-xs s [] = refl
halvings-xs s (q ∷ qs) = halvings-xs s qs

halvings-zs : (s : Signal) (qs : List ℕ) → halvings (map (λ q. FixZ q s) qs) ≡ 0
unfolding halvings
halvings-zs s [] = refl
halvings-zs s (q ∷ qs) = halvings-zs s qs

halvings-corrected : (g : OpenGraph) (s : Bits) (i : ℕ) →
    halvings (corrected_measurement g s i) ≡ 1
unfolding halvings corrected_measurement
halvings-corrected g s i =
    let odds : Bits = λ k. odd_neighbourhood g s k && not (nat_eq k i) in
    let xs : List Command = map (λ k. FixX k (signal_of i)) (numbers_where s (size g)) in
    let zs : List Command = map (λ k. FixZ k (signal_of i)) (numbers_where odds (size g)) in
    let a = halvings-append xs zs in
    let b = halvings-xs (signal_of i) (numbers_where s (size g)) in
    let c = halvings-zs (signal_of i) (numbers_where odds (size g)) in
    omega arith

halvings-flow : (g : OpenGraph) (sets : ℕ → Bits) (is : List ℕ) →
    halvings (flat_map (λ i. corrected_measurement g (sets i) i) is) ≡ length is
unfolding halvings
halvings-flow g sets [] = refl
halvings-flow g sets (i ∷ is) =
    let rest : List Command = flat_map (λ j. corrected_measurement g (sets j) j) is in
    let a = halvings-append (corrected_measurement g (sets i) i) rest in
    let b = halvings-corrected g (sets i) i in
    let c = halvings-flow g sets is in
    omega arith

pub flow_scale : (g : OpenGraph) (sets : ℕ → Bits) (layer : ℕ → ℕ) → IsFlow g sets layer →
    pattern_scale (flow_pattern g sets layer) ≡ pattern_scale (zero_pattern g)
unfolding flow_pattern
flow_scale g sets layer flow =
    let order : List ℕ = measuring_order g layer (depth_of g layer) in
    let a = halvings-between g (flat_map (λ i. corrected_measurement g (sets i) i) order) in
    let b = halvings-flow g sets order in
    let once = (order_falls g sets layer flow).each_once in
    let c = same_length (size g) (λ v. not (is_output g v)) order once in
    let d = zero_scale g in
    omega arith
