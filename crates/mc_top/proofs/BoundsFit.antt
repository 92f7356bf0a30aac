-- The chosen bound of a graph of at most 64 vertices fits it, with numbers of few digits.
use Rattle.std.proofs.Common.{◌≡◌, ℕ, ◌<◌, ◌≤◌, Bool, true, false, Some, None, refl, arith}
use Rattle.std.specs.Prelude.{nat_lt, if◌then◌else◌}
use Rattle.std.proofs.lemmas.Bool.Decides.{nat_tests}
use Rattle.mc_lex.specs.declared.end.TextEnd.TheVariants as end
use Rattle.mc_model.specs.Graph.{OpenGraph, size}
use Rattle.mc_graph.specs.Flows.{FlowRows, IsChosenFlowOf, layer_in, sets_in}
use Rattle.mc_cert.specs.Bounds.{BoundRows}
use Rattle.mc_cert.specs.Laws.{ShortBoundsAreFew}
use Rattle.mc_cert_text.specs.Certs.{HasShortBound, HasShortNumbers, IsCertIn, least}
use Rattle.mc_least.specs.Chosen.{IsChosenBoundOf}
use Rattle.mc_top.specs.Least.{size_limit}
use Rattle.mc_top.proofs.LeastDepths.{depth_few, layers_few}

short_bound : (g : OpenGraph) (f : FlowRows) (b : BoundRows) → size g ≤ 64 →
    IsChosenFlowOf g f → IsChosenBoundOf g f b → HasShortBound b
short_bound g f b small chosen h =
    let layer = layer_in f.rows in
    let low : (v : ℕ) → v < size g → layer v ≤ size g =
    λ v l. layers_few g (sets_in f.rows) layer chosen.flow v l in
    let deep = depth_few g (sets_in f.rows) layer chosen.flow in
    let reached = chosen.whole.reached in
    let depth = h.depth in
    record {
      depth = omega arith;
      layers = λ k d lt.
          let is = h.layers k d lt in
          let most = low _ (h.vertices k d lt) in omega arith;
      rows = λ k d lt.
          let vertex = h.sets.vertices k d lt in
          let above = (h.holds.asked k d lt).above in
          let stated = h.stated _ vertex in
          let most = low _ vertex in omega arith;
    }

pub bound_fits : ShortBoundsAreFew → (g : OpenGraph) (f : FlowRows) (b : BoundRows) →
    size g ≤ 64 → IsChosenFlowOf g f → IsChosenBoundOf g f b →
    IsCertIn g (least b) × HasShortNumbers (least b)
bound_fits few g f b small chosen h =
    let short = short_bound g f b small chosen h in
    (few g b (omega arith) h.own h.vertices h.sets short.rows, short)

-- no limit is passed by at most 64 vertices
pub few_vertices : (g : OpenGraph) → size_limit g ≡ None → size g ≤ 64
few_vertices g e = by (nat_lt 64 (size g)) refl e
  where
    by : (b : Bool) → nat_lt 64 (size g) ≡ b →
        (if b then Some (end.Limit 8 (size g)) else None) ≡ None → size g ≤ 64
    by true t h = absurd (cc h)
    by false t h = grind (arith, nat_tests)
