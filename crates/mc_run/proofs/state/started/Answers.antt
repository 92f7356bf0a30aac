use Rattle.std.proofs.Common.{◌≡◌, ℕ, suc, ◌+◌, ◌^◌, List, ℤ, ◌∷◌, length, map, sym, ap, ◌∙◌}
use Rattle.std.proofs.Common.{subst}
use Rattle.std.proofs.Common.{arith}
use Rattle.std.proofs.lemmas.List.{length-map}
use Rattle.mc_model.specs.Bits.{Bits, bits_of}
use Rattle.mc_model.specs.Amplitude.{start}
use Rattle.mc_run.specs.Exact.{Exact, exact, phases}
use Rattle.mc_run.specs.Settings.{digit, spelled, numbers_below}
use Rattle.mc_run.specs.Sources.{Holds}
use Rattle.mc_run.proofs.Turns.{obeys}
use Rattle.mc_run.proofs.InputVectors.{length-below, spelled_at, none_holds, more_holds}
use Rattle.mc_run.proofs.state.started.Goals as goal

pub inputs-init : goal.inputs-init
inputs-init g c =
    let permitted = c.requires.permitted in
    record {
      live = c.in_ok-state.ensures.live;
      holds =
          none_holds
          (exact g.R.Ring.nought g.R.Ring.unit g.R.Ring.sum_of g.R.Ring.negative_of
          g.R.PhaseRing.turned_by g.R.PhaseRing.HALF g.R.PhaseRing.height_of)
          g.R.Ring.IsElement
          (obeys g.R.Ring.IsElement g.R.Ring.InRange g.R.Ring.nought g.R.Ring.unit g.R.Ring.sum_of
          g.R.Ring.product_of g.R.Ring.negative_of g.R.PhaseRing.HALF g.R.PhaseRing.turned_by
          g.R.PhaseRing.height_of (g.met.R.Ring.ring_laws permitted)
          (g.met.R.PhaseRing.turn_laws permitted) (g.met.R.PhaseRing.height_laws permitted))
          (bits_of (spelled c.args.inputs c.args.b)) _ c.in_ok-state.ensures.one;
    }

pub grown-requires-clause-few : goal.grown-requires-clause-few
grown-requires-clause-few g c =
    omega (
      arith,
      ap length c.inputs.invariant.live,
      length-below c.inputs.q,
      c.inputs-test.true,
      c.requires.few,
    )

pub inputs-preserved : goal.inputs-preserved
inputs-preserved g c =
    let permitted = c.requires.permitted in
    let q : ℕ = c.inputs.q in
    let b : Bits = bits_of (spelled c.args.inputs c.args.b) in
    let ring : Exact =
    exact g.R.Ring.nought g.R.Ring.unit g.R.Ring.sum_of g.R.Ring.negative_of
    g.R.PhaseRing.turned_by g.R.PhaseRing.HALF g.R.PhaseRing.height_of in
    let next : List (List ℤ) = map g.R.Ring.seen c.in_ok-state-2.state.entries.items in
    let more : suc q ≡ q + 1 = omega arith in
    let live : q ∷ c.inputs.state.live.items ≡ numbers_below (suc q) =
    ap (λ t. q ∷ t) c.inputs.invariant.live in
    let long : length next ≡ 2 ^ length (q ∷ numbers_below q) =
    length-map c.in_ok-state-2.state.entries.items g.R.Ring.seen ∙ c.in_ok-state-2.ensures.long
    ∙ ap (λ t. 2 ^ length t) live in
    let bit : c.digit-bit.result ≡ b q =
    c.digit-bit.ensures ∙ ap (λ w. digit w c.args.b) c.two_to.ensures
    ∙ sym (spelled_at c.args.inputs q c.args.b c.inputs-test.true) in
    record {
      live = c.in_ok-state-2.ensures.live ∙ live ∙ ap numbers_below more;
      holds =
          subst (λ n. Holds ring g.R.Ring.IsElement (numbers_below n) 0
          (start (phases ring) n b) next) more
          (more_holds ring g.R.Ring.IsElement
          (obeys g.R.Ring.IsElement g.R.Ring.InRange g.R.Ring.nought g.R.Ring.unit g.R.Ring.sum_of
          g.R.Ring.product_of g.R.Ring.negative_of g.R.PhaseRing.HALF g.R.PhaseRing.turned_by
          g.R.PhaseRing.height_of (g.met.R.Ring.ring_laws permitted)
          (g.met.R.PhaseRing.turn_laws permitted) (g.met.R.PhaseRing.height_laws permitted))
          q b c.digit-bit.result (map g.R.Ring.seen c.inputs.state.entries.items) next
          c.inputs.invariant.holds bit long c.in_ok-state-2.ensures.stepped);
    }
