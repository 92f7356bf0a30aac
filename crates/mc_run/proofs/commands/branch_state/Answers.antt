use Rattle.std.proofs.Common.{◌≡◌, ℕ, ◌+◌, ◌≤◌, List, ℤ, [], ◌∷◌, length, map, drop, sym, ap}
use Rattle.std.proofs.Common.{◌∙◌}
use Rattle.std.proofs.Common.{subst, arith}
use Rattle.std.proofs.lemmas.List.{length-map, drop_all}
use Rattle.mc_model.specs.Bits.{Bits, bits_of}
use Rattle.mc_model.specs.Amplitude.{Amps, start, after}
use Rattle.mc_model.specs.Pattern.{Command}
use Rattle.mc_model.specs.Valid.{prepared}
use Rattle.mc_pattern.specs.Commands.{plain_command}
use Rattle.mc_run.specs.Exact.{Exact, exact, phases}
use Rattle.mc_run.specs.Settings.{spelled, numbers_below}
use Rattle.mc_run.specs.Sources.{Holds}
use Rattle.mc_run.proofs.Turns.{obeys}
use Rattle.mc_run.specs.Branches.{CommandsLeft}
use Rattle.mc_run.proofs.CommandsLeft.{command_left_at, command_ready, command_low, command_next}
use Rattle.mc_run.proofs.CommandsLeft.{few_live, commands_over, live_over, commands_begin}
use Rattle.mc_run.proofs.CommandsLeft.{output_unmeasured}
use Rattle.mc_run.proofs.commands.branch_state.Goals as goal

pub commands-init : goal.commands-init
commands-init g c =
    let pattern = c.args.pattern.now in
    let o : Bits = bits_of c.args.outcomes.now in
    let ring : Exact =
    exact g.R.Ring.nought g.R.Ring.unit g.R.Ring.sum_of g.R.Ring.negative_of
    g.R.PhaseRing.turned_by g.R.PhaseRing.HALF g.R.PhaseRing.height_of in
    let b : Bits = bits_of (spelled pattern.inputs c.args.b) in
    let end : Amps (List ℤ) =
    after (phases ring) o pattern.commands (start (phases ring) pattern.inputs b) in
    let v : List (List ℤ) = map g.R.Ring.seen c.in_ok-state.state.entries.items in
    let n : c.inputs.result ≡ pattern.inputs = c.inputs.ensures in
    subst (λ cs. CommandsLeft ring g.R.Ring.IsElement o pattern.inputs pattern.commands end cs
    c.in_ok-state.state.live.items v) (sym c.commands-command-items.ensures)
    (subst (λ live. CommandsLeft ring g.R.Ring.IsElement o pattern.inputs pattern.commands end
    pattern.commands live v) (sym (c.in_ok-state.ensures.live ∙ ap numbers_below n))
    (commands_begin ring g.R.Ring.IsElement o b pattern.inputs pattern.commands v
    (subst (λ k. Holds ring g.R.Ring.IsElement (numbers_below k) 0
    (start (phases ring) k (bits_of (spelled k c.args.b))) v) n c.in_ok-state.ensures.holds)))

pub commanded-requires : goal.commanded-requires
commanded-requires g c =
    let permitted = c.requires.permitted in
    let seen = g.R.Ring.seen in
    let ring : Exact =
    exact g.R.Ring.nought g.R.Ring.unit g.R.Ring.sum_of g.R.Ring.negative_of
    g.R.PhaseRing.turned_by g.R.PhaseRing.HALF g.R.PhaseRing.height_of in
    let laws =
    obeys g.R.Ring.IsElement g.R.Ring.InRange g.R.Ring.nought g.R.Ring.unit g.R.Ring.sum_of
    g.R.Ring.product_of g.R.Ring.negative_of g.R.PhaseRing.HALF g.R.PhaseRing.turned_by
    g.R.PhaseRing.height_of (g.met.R.Ring.ring_laws permitted)
    (g.met.R.PhaseRing.turn_laws permitted) (g.met.R.PhaseRing.height_laws permitted) in
    let pattern = c.args.pattern.now in
    let valid = c.names-names.ensures.valid.valid in
    let o : Bits = bits_of c.args.outcomes.now in
    let end : Amps (List ℤ) =
    after (phases ring) o pattern.commands
    (start (phases ring) pattern.inputs (bits_of (spelled pattern.inputs c.args.b))) in
    let live : List ℕ = c.commands.state.live.items in
    let v : List (List ℤ) = map seen c.commands.state.entries.items in
    let cs = c.commands-command-items.result.now in
    let command : Command = plain_command {h = g.row.H} c.command-item.result in
    let left : List Command =
    map (plain_command {h = g.row.H}) (drop (c.commands.command-index + 1) cs) in
    let here : CommandsLeft ring g.R.Ring.IsElement o pattern.inputs pattern.commands end
    (command ∷ left) live v =
    command_left_at (plain_command {h = g.row.H}) cs c.commands.command-index c.command-item.result
    ring g.R.Ring.IsElement o pattern.inputs pattern.commands end live v c.commands-test.true
    c.command-item.is c.commands.invariant in
    let all : pattern.inputs + prepared pattern.commands ≤ 16 =
    omega (arith, valid.qubits, c.requires.few) in (
      omega arith,
      (
        permitted,
        (
          c.requires.half,
          (
            c.requires.steps,
            (
              command_ready ring g.R.Ring.IsElement laws o pattern.inputs pattern.commands
                  valid.commands end live v command left (length c.args.outcomes.now)
                  (omega (arith, valid.qubits, c.requires.outcomes)) here,
              (
                (let f = few_live ring g.R.Ring.IsElement laws o pattern.inputs pattern.commands
                    valid.commands end live v (command ∷ left) here 16 all in omega arith),
                (
                  sym (length-map c.commands.state.entries.items seen) ∙ here.holds.long,
                  command_low ring g.R.Ring.IsElement laws o pattern.inputs pattern.commands
                      valid.commands end live v command left (omega arith) here,
                ),
              ),
            ),
          ),
        ),
      ),
    )

pub commands-preserved : goal.commands-preserved
commands-preserved g c =
    let permitted = c.requires.permitted in
    let seen = g.R.Ring.seen in
    let ring : Exact =
    exact g.R.Ring.nought g.R.Ring.unit g.R.Ring.sum_of g.R.Ring.negative_of
    g.R.PhaseRing.turned_by g.R.PhaseRing.HALF g.R.PhaseRing.height_of in
    let laws =
    obeys g.R.Ring.IsElement g.R.Ring.InRange g.R.Ring.nought g.R.Ring.unit g.R.Ring.sum_of
    g.R.Ring.product_of g.R.Ring.negative_of g.R.PhaseRing.HALF g.R.PhaseRing.turned_by
    g.R.PhaseRing.height_of (g.met.R.Ring.ring_laws permitted)
    (g.met.R.PhaseRing.turn_laws permitted) (g.met.R.PhaseRing.height_laws permitted) in
    let pattern = c.args.pattern.now in
    let valid = c.names-names.ensures.valid.valid in
    let o : Bits = bits_of c.args.outcomes.now in
    let end : Amps (List ℤ) =
    after (phases ring) o pattern.commands
    (start (phases ring) pattern.inputs (bits_of (spelled pattern.inputs c.args.b))) in
    let live : List ℕ = c.commands.state.live.items in
    let v : List (List ℤ) = map seen c.commands.state.entries.items in
    let cs = c.commands-command-items.result.now in
    let command : Command = plain_command {h = g.row.H} c.command-item.result in
    let left : List Command =
    map (plain_command {h = g.row.H}) (drop (c.commands.command-index + 1) cs) in
    let here : CommandsLeft ring g.R.Ring.IsElement o pattern.inputs pattern.commands end
    (command ∷ left) live v =
    command_left_at (plain_command {h = g.row.H}) cs c.commands.command-index c.command-item.result
    ring g.R.Ring.IsElement o pattern.inputs pattern.commands end live v c.commands-test.true
    c.command-item.is c.commands.invariant in
    let next : List (List ℤ) = map seen c.in_ok-state-2.state.entries.items in
    subst (λ l. CommandsLeft ring g.R.Ring.IsElement o pattern.inputs pattern.commands end left l
    next) (sym c.in_ok-state-2.ensures.live)
    (command_next ring g.R.Ring.IsElement laws o pattern.inputs pattern.commands valid.commands end
    live v command left next here
    (length-map c.in_ok-state-2.state.entries.items seen ∙ c.in_ok-state-2.ensures.long)
    c.in_ok-state-2.ensures.stepped)

pub returns-clause-few : goal.returns-clause-few
returns-clause-few g c =
    let permitted = c.requires.permitted in
    let seen = g.R.Ring.seen in
    let ring : Exact =
    exact g.R.Ring.nought g.R.Ring.unit g.R.Ring.sum_of g.R.Ring.negative_of
    g.R.PhaseRing.turned_by g.R.PhaseRing.HALF g.R.PhaseRing.height_of in
    let laws =
    obeys g.R.Ring.IsElement g.R.Ring.InRange g.R.Ring.nought g.R.Ring.unit g.R.Ring.sum_of
    g.R.Ring.product_of g.R.Ring.negative_of g.R.PhaseRing.HALF g.R.PhaseRing.turned_by
    g.R.PhaseRing.height_of (g.met.R.Ring.ring_laws permitted)
    (g.met.R.PhaseRing.turn_laws permitted) (g.met.R.PhaseRing.height_laws permitted) in
    let pattern = c.args.pattern.now in
    let valid = c.names-names.ensures.valid.valid in
    let o : Bits = bits_of c.args.outcomes.now in
    let end : Amps (List ℤ) =
    after (phases ring) o pattern.commands
    (start (phases ring) pattern.inputs (bits_of (spelled pattern.inputs c.args.b))) in
    let live : List ℕ = c.commands.state.live.items in
    let v : List (List ℤ) = map seen c.commands.state.entries.items in
    let cs = c.commands-command-items.result.now in
    let none : drop c.commands.command-index cs ≡ [] = drop_all _ _ c.commands-test.false in
    let over : CommandsLeft ring g.R.Ring.IsElement o pattern.inputs pattern.commands end [] live v =
    subst (λ t. CommandsLeft ring g.R.Ring.IsElement o pattern.inputs pattern.commands end
    (map (plain_command {h = g.row.H}) t) live v) none c.commands.invariant in
    few_live ring g.R.Ring.IsElement laws o pattern.inputs pattern.commands valid.commands end live v
    [] over 16 (omega (arith, valid.qubits, c.requires.few))

pub returns-clause-living : goal.returns-clause-living
returns-clause-living g c = λ k d h.
    let permitted = c.requires.permitted in
    let seen = g.R.Ring.seen in
    let ring : Exact =
    exact g.R.Ring.nought g.R.Ring.unit g.R.Ring.sum_of g.R.Ring.negative_of
    g.R.PhaseRing.turned_by g.R.PhaseRing.HALF g.R.PhaseRing.height_of in
    let laws =
    obeys g.R.Ring.IsElement g.R.Ring.InRange g.R.Ring.nought g.R.Ring.unit g.R.Ring.sum_of
    g.R.Ring.product_of g.R.Ring.negative_of g.R.PhaseRing.HALF g.R.PhaseRing.turned_by
    g.R.PhaseRing.height_of (g.met.R.Ring.ring_laws permitted)
    (g.met.R.PhaseRing.turn_laws permitted) (g.met.R.PhaseRing.height_laws permitted) in
    let pattern = c.args.pattern.now in
    let valid = c.names-names.ensures.valid.valid in
    let o : Bits = bits_of c.args.outcomes.now in
    let end : Amps (List ℤ) =
    after (phases ring) o pattern.commands
    (start (phases ring) pattern.inputs (bits_of (spelled pattern.inputs c.args.b))) in
    let live : List ℕ = c.commands.state.live.items in
    let v : List (List ℤ) = map seen c.commands.state.entries.items in
    let cs = c.commands-command-items.result.now in
    let none : drop c.commands.command-index cs ≡ [] = drop_all _ _ c.commands-test.false in
    let over : CommandsLeft ring g.R.Ring.IsElement o pattern.inputs pattern.commands end [] live v =
    subst (λ t. CommandsLeft ring g.R.Ring.IsElement o pattern.inputs pattern.commands end
    (map (plain_command {h = g.row.H}) t) live v) none c.commands.invariant in
    let out = output_unmeasured pattern valid k d h in
    live_over ring g.R.Ring.IsElement laws o pattern.inputs pattern.commands valid.commands end live v
    over _ out.0 out.1

pub returns-clause-holds : goal.returns-clause-holds
returns-clause-holds g c =
    let permitted = c.requires.permitted in
    let seen = g.R.Ring.seen in
    let ring : Exact =
    exact g.R.Ring.nought g.R.Ring.unit g.R.Ring.sum_of g.R.Ring.negative_of
    g.R.PhaseRing.turned_by g.R.PhaseRing.HALF g.R.PhaseRing.height_of in
    let laws =
    obeys g.R.Ring.IsElement g.R.Ring.InRange g.R.Ring.nought g.R.Ring.unit g.R.Ring.sum_of
    g.R.Ring.product_of g.R.Ring.negative_of g.R.PhaseRing.HALF g.R.PhaseRing.turned_by
    g.R.PhaseRing.height_of (g.met.R.Ring.ring_laws permitted)
    (g.met.R.PhaseRing.turn_laws permitted) (g.met.R.PhaseRing.height_laws permitted) in
    let pattern = c.args.pattern.now in
    let valid = c.names-names.ensures.valid.valid in
    let o : Bits = bits_of c.args.outcomes.now in
    let end : Amps (List ℤ) =
    after (phases ring) o pattern.commands
    (start (phases ring) pattern.inputs (bits_of (spelled pattern.inputs c.args.b))) in
    let live : List ℕ = c.commands.state.live.items in
    let v : List (List ℤ) = map seen c.commands.state.entries.items in
    let cs = c.commands-command-items.result.now in
    let none : drop c.commands.command-index cs ≡ [] = drop_all _ _ c.commands-test.false in
    let over : CommandsLeft ring g.R.Ring.IsElement o pattern.inputs pattern.commands end [] live v =
    subst (λ t. CommandsLeft ring g.R.Ring.IsElement o pattern.inputs pattern.commands end
    (map (plain_command {h = g.row.H}) t) live v) none c.commands.invariant in
    commands_over ring g.R.Ring.IsElement laws o pattern.inputs pattern.commands valid.commands end
    live v over
