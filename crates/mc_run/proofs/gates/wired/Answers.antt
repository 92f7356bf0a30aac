use Rattle.std.proofs.Common.{◌≡◌, ℕ, suc, ◌+◌, ◌^◌, List, ℤ, ◌∷◌, length, map, ap, ◌∙◌, subst}
use Rattle.std.proofs.Common.{arith}
use Rattle.std.proofs.lemmas.List.{length-map}
use Rattle.mc_model.specs.Bits.{Bits, bits_of}
use Rattle.mc_model.specs.Amplitude.{start}
use Rattle.mc_run.specs.Exact.{Exact, exact, phases}
use Rattle.mc_run.specs.Settings.{spelled, numbers_below}
use Rattle.mc_run.specs.Sources.{Holds}
use Rattle.mc_run.proofs.Turns.{obeys}
use Rattle.mc_run.proofs.InputVectors.{length-below, wire_holds}
use Rattle.mc_run.proofs.gates.wired.Goals as goal

pub grown-requires-clause-few : goal.grown-requires-clause-few
grown-requires-clause-few g c =
    omega (
      arith,
      ap length c.wires.invariant.live,
      length-below c.wires.q,
      c.wires-test.true,
      c.requires.few,
    )

pub wires-preserved : goal.wires-preserved
wires-preserved g c =
    let permitted = c.requires.permitted in
    let q : ℕ = c.wires.q in
    let b : Bits = bits_of (spelled c.args.inputs c.args.b) in
    let ring : Exact =
    exact g.R.Ring.nought g.R.Ring.unit g.R.Ring.sum_of g.R.Ring.negative_of
    g.R.PhaseRing.turned_by g.R.PhaseRing.HALF g.R.PhaseRing.height_of in
    let next : List (List ℤ) = map g.R.Ring.seen c.in_ok-state-2.state.entries.items in
    let more : suc q ≡ q + 1 = omega arith in
    let live : q ∷ c.wires.state.live.items ≡ numbers_below (suc q) =
    ap (λ t. q ∷ t) c.wires.invariant.live in
    let long : length next ≡ 2 ^ length (q ∷ numbers_below q) =
    length-map c.in_ok-state-2.state.entries.items g.R.Ring.seen ∙ c.in_ok-state-2.ensures.long
    ∙ ap (λ t. 2 ^ length t) live in
    record {
      live = c.in_ok-state-2.ensures.live ∙ live ∙ ap numbers_below more;
      holds =
          subst (λ n. Holds ring g.R.Ring.IsElement (numbers_below n) 0
          (start (phases ring) c.args.inputs b) next) more
          (wire_holds ring g.R.Ring.IsElement
          (obeys g.R.Ring.IsElement g.R.Ring.InRange g.R.Ring.nought g.R.Ring.unit g.R.Ring.sum_of
          g.R.Ring.product_of g.R.Ring.negative_of g.R.PhaseRing.HALF g.R.PhaseRing.turned_by
          g.R.PhaseRing.height_of (g.met.R.Ring.ring_laws permitted)
          (g.met.R.PhaseRing.turn_laws permitted) (g.met.R.PhaseRing.height_laws permitted))
          c.args.inputs q b (map g.R.Ring.seen c.wires.state.entries.items) next
          (omega (arith, c.wires.auto.q)) c.wires.invariant.holds long
          c.in_ok-state-2.ensures.stepped);
    }
