use Rattle.std.proofs.Common.{rules, ◌≡◌, ℕ, ◌+◌, ◌-◌, ◌^◌, ◌<◌, ◌≤◌, true, false, ℤ}
use Rattle.std.proofs.Common.{List, []}
use Rattle.std.proofs.Common.{◌∷◌, ◌++◌, length, map, take, drop, slice_set, sym, subst, ap, ◌∙◌}
use Rattle.std.proofs.Common.{arith}
use Rattle.std.specs.Prelude.{All}
use Rattle.std.proofs.lemmas.List.{length-map, length-set, map-append}
use Rattle.mc_model.specs.Bits.{Bits, replaced, bits_of}
use Rattle.mc_model.proofs.BitLemmas.{replaced_again}
use Rattle.mc_model.specs.Pattern.{Command, measured_order}
use Rattle.mc_model.specs.Valid.{prepared}
use Rattle.mc_pattern.specs.Commands.{plain_command}
use Rattle.mc_model.specs.Amplitude.{Amps, after}
use Rattle.mc_run.specs.Exact.{Exact, exact, phases}
use Rattle.mc_run.specs.Sources.{entry, IsStepped}
use Rattle.mc_run.specs.Gates.{IsReady, IsLiving, IsLowBefore, command_step, live_behind}
use Rattle.mc_run.specs.Settings.{place_spelled}
use Rattle.mc_run.proofs.MeasuringOrder.{order_first}
use Rattle.mc_run.specs.Branches.{CommandsLeft, AreColumns}
use Rattle.mc_run.proofs.Turns.{obeys}
use Rattle.mc_run.proofs.CountsAlong.{listed_few}
use Rattle.mc_run.proofs.CommandsLeft.{command_ready, command_low, command_next, few_live}
use Rattle.mc_run.proofs.CommandsLeft.{live_over, output_unmeasured}
use Rattle.mc_run.proofs.PartedBranches.{first_command, no_command, restored, at_other}
use Rattle.mc_run.proofs.PartedBranches.{columns_none}
use Rattle.mc_run.proofs.PartedBranches.{columns_straight, columns_parted}
use Rattle.mc_run.proofs.tree.+columns.Goals as goal

pub column-requires-clause-short : goal.column-requires-clause-short
column-requires-clause-short g t c =
    omega (
      arith,
      ap length c.outputs.ensures,
      c.requires.few,
      listed_few _ _ _ c.names-names.ensures.valid.valid.outputs,
    )

pub commanded-requires : goal.commanded-requires
commanded-requires g t c =
    let seen = g.R.Ring.seen in
    let ring : Exact =
    exact g.R.Ring.nought g.R.Ring.unit g.R.Ring.sum_of g.R.Ring.negative_of
    g.R.PhaseRing.turned_by g.R.PhaseRing.HALF g.R.PhaseRing.height_of in
    let laws =
    obeys g.R.Ring.IsElement g.R.Ring.InRange g.R.Ring.nought g.R.Ring.unit g.R.Ring.sum_of
    g.R.Ring.product_of g.R.Ring.negative_of g.R.PhaseRing.HALF g.R.PhaseRing.turned_by
    g.R.PhaseRing.height_of (g.met.R.Ring.ring_laws c.requires.permitted)
    (g.met.R.PhaseRing.turn_laws c.requires.permitted)
    (g.met.R.PhaseRing.height_laws c.requires.permitted) in
    let pattern = c.args.pattern.now in
    let valid = c.names-names.ensures.valid.valid in
    let o : Bits = bits_of c.args.outcomes.now in
    let live : List ℕ = c.args.state.live.items in
    let v : List (List ℤ) = map seen c.args.state.entries.items in
    let cs = c.args.commands.now in
    let end = c.requires.here.0 in
    let all16 : pattern.inputs + prepared pattern.commands ≤ 16 =
    omega (arith, valid.qubits, c.requires.few) in
    let command : Command = plain_command {h = g.row.H} c.command-item.result in
    let left : List Command = map (plain_command {h = g.row.H}) (take (length cs - 1) (drop 1 cs)) in
    let split : map (plain_command {h = g.row.H}) cs ≡ command ∷ left =
    first_command (plain_command {h = g.row.H}) cs c.command-item.result c.in-len1-up.len_at_least
    c.command-item.is in
    let here : CommandsLeft ring g.R.Ring.IsElement o pattern.inputs pattern.commands end
    (command ∷ left) live v =
    subst (λ t. CommandsLeft ring g.R.Ring.IsElement o pattern.inputs pattern.commands end t live v)
    split c.requires.here.1 in (
      omega arith,
      (
        c.requires.permitted,
        (
          c.requires.half,
          (
            c.requires.steps,
            (
              command_ready ring g.R.Ring.IsElement laws o pattern.inputs pattern.commands
                  valid.commands end live v command left (length c.args.outcomes.now)
                  (omega (arith, valid.qubits, c.requires.outcomes)) here,
              (
                (let f = few_live ring g.R.Ring.IsElement laws o pattern.inputs pattern.commands
                    valid.commands end live v (command ∷ left) here 16 all16 in omega arith),
                (
                  sym (length-map c.args.state.entries.items seen) ∙ here.holds.long,
                  command_low ring g.R.Ring.IsElement laws o pattern.inputs pattern.commands
                      valid.commands end live v command left (omega arith) here,
                ),
              ),
            ),
          ),
        ),
      ),
    )

pub columns-requires : goal.columns-requires
columns-requires g t c κs within =
    let seen = g.R.Ring.seen in
    let ring : Exact =
    exact g.R.Ring.nought g.R.Ring.unit g.R.Ring.sum_of g.R.Ring.negative_of
    g.R.PhaseRing.turned_by g.R.PhaseRing.HALF g.R.PhaseRing.height_of in
    let laws =
    obeys g.R.Ring.IsElement g.R.Ring.InRange g.R.Ring.nought g.R.Ring.unit g.R.Ring.sum_of
    g.R.Ring.product_of g.R.Ring.negative_of g.R.PhaseRing.HALF g.R.PhaseRing.turned_by
    g.R.PhaseRing.height_of (g.met.R.Ring.ring_laws c.requires.permitted)
    (g.met.R.PhaseRing.turn_laws c.requires.permitted)
    (g.met.R.PhaseRing.height_laws c.requires.permitted) in
    let pattern = c.args.pattern.now in
    let valid = c.names-names.ensures.valid.valid in
    let o : Bits = bits_of c.args.outcomes.now in
    let live : List ℕ = c.args.state.live.items in
    let v : List (List ℤ) = map seen c.args.state.entries.items in
    let cs = c.args.commands.now in
    let end = c.requires.here.0 in
    let all16 : pattern.inputs + prepared pattern.commands ≤ 16 =
    omega (arith, valid.qubits, c.requires.few) in
    let command : Command = plain_command {h = g.row.H} c.command-item.result in
    let left : List Command = map (plain_command {h = g.row.H}) (take (length cs - 1) (drop 1 cs)) in
    let split : map (plain_command {h = g.row.H}) cs ≡ command ∷ left =
    first_command (plain_command {h = g.row.H}) cs c.command-item.result c.in-len1-up.len_at_least
    c.command-item.is in
    let here : CommandsLeft ring g.R.Ring.IsElement o pattern.inputs pattern.commands end
    (command ∷ left) live v =
    subst (λ t. CommandsLeft ring g.R.Ring.IsElement o pattern.inputs pattern.commands end t live v)
    split c.requires.here.1 in
    let there = at_other ring g.R.Ring.IsElement pattern.inputs pattern.commands pattern.outputs o end
    (command ∷ left) live v here (bits_of c.args.outcomes.now) in
    let next_end : Amps (List ℤ) = after (phases ring) (bits_of c.args.outcomes.now)
    (command ∷ left) here.amps in (
      search rules,
      (
        search rules,
        (
          search rules,
          (
            omega arith,
            (
              omega arith,
              (
                c.requires.permitted,
                (
                  c.requires.half,
                  (
                    c.requires.steps,
                    (
                      c.requires.few,
                      (
                        c.requires.outcomes,
                        (
                          next_end,
                          subst (λ l. CommandsLeft ring g.R.Ring.IsElement
                              (bits_of c.args.outcomes.now) pattern.inputs
                              pattern.commands next_end left l
                              (map seen c.in_ok-next-in-len1-up.next.entries.items))
                              (sym c.in_ok-next-in-len1-up.ensures.live)
                              (command_next ring g.R.Ring.IsElement laws
                              (bits_of c.args.outcomes.now) pattern.inputs
                              pattern.commands valid.commands next_end live v command left
                              (map seen c.in_ok-next-in-len1-up.next.entries.items) there
                              (length-map c.in_ok-next-in-len1-up.next.entries.items seen
                              ∙ c.in_ok-next-in-len1-up.ensures.long)
                              c.in_ok-next-in-len1-up.ensures.stepped),
                        ),
                      ),
                    ),
                  ),
                ),
              ),
            ),
          ),
        ),
      ),
    )

pub get-before-requires : goal.get-before-requires
get-before-requires g t c =
    let seen = g.R.Ring.seen in
    let ring : Exact =
    exact g.R.Ring.nought g.R.Ring.unit g.R.Ring.sum_of g.R.Ring.negative_of
    g.R.PhaseRing.turned_by g.R.PhaseRing.HALF g.R.PhaseRing.height_of in
    let laws =
    obeys g.R.Ring.IsElement g.R.Ring.InRange g.R.Ring.nought g.R.Ring.unit g.R.Ring.sum_of
    g.R.Ring.product_of g.R.Ring.negative_of g.R.PhaseRing.HALF g.R.PhaseRing.turned_by
    g.R.PhaseRing.height_of (g.met.R.Ring.ring_laws c.requires.permitted)
    (g.met.R.PhaseRing.turn_laws c.requires.permitted)
    (g.met.R.PhaseRing.height_laws c.requires.permitted) in
    let pattern = c.args.pattern.now in
    let valid = c.names-names.ensures.valid.valid in
    let o : Bits = bits_of c.args.outcomes.now in
    let live : List ℕ = c.args.state.live.items in
    let v : List (List ℤ) = map seen c.args.state.entries.items in
    let cs = c.args.commands.now in
    let end = c.requires.here.0 in
    let all16 : pattern.inputs + prepared pattern.commands ≤ 16 =
    omega (arith, valid.qubits, c.requires.few) in
    let command : Command = plain_command {h = g.row.H} c.command-item.result in
    let left : List Command = map (plain_command {h = g.row.H}) (take (length cs - 1) (drop 1 cs)) in
    let split : map (plain_command {h = g.row.H}) cs ≡ command ∷ left =
    first_command (plain_command {h = g.row.H}) cs c.command-item.result c.in-len1-up.len_at_least
    c.command-item.is in
    let here : CommandsLeft ring g.R.Ring.IsElement o pattern.inputs pattern.commands end
    (command ∷ left) live v =
    subst (λ t. CommandsLeft ring g.R.Ring.IsElement o pattern.inputs pattern.commands end t live v)
    split c.requires.here.1 in
    let is = c.in-Some.ensures.3 in
    let ready = subst (IsReady live (length c.args.outcomes.now)) is
    (command_ready ring g.R.Ring.IsElement laws o pattern.inputs pattern.commands
    valid.commands end live v command left (length c.args.outcomes.now)
    (omega (arith, valid.qubits, c.requires.outcomes)) here) in
    ready.1

pub set-requires : goal.set-requires
set-requires g t c =
    let seen = g.R.Ring.seen in
    let ring : Exact =
    exact g.R.Ring.nought g.R.Ring.unit g.R.Ring.sum_of g.R.Ring.negative_of
    g.R.PhaseRing.turned_by g.R.PhaseRing.HALF g.R.PhaseRing.height_of in
    let laws =
    obeys g.R.Ring.IsElement g.R.Ring.InRange g.R.Ring.nought g.R.Ring.unit g.R.Ring.sum_of
    g.R.Ring.product_of g.R.Ring.negative_of g.R.PhaseRing.HALF g.R.PhaseRing.turned_by
    g.R.PhaseRing.height_of (g.met.R.Ring.ring_laws c.requires.permitted)
    (g.met.R.PhaseRing.turn_laws c.requires.permitted)
    (g.met.R.PhaseRing.height_laws c.requires.permitted) in
    let pattern = c.args.pattern.now in
    let valid = c.names-names.ensures.valid.valid in
    let o : Bits = bits_of c.args.outcomes.now in
    let live : List ℕ = c.args.state.live.items in
    let v : List (List ℤ) = map seen c.args.state.entries.items in
    let cs = c.args.commands.now in
    let end = c.requires.here.0 in
    let all16 : pattern.inputs + prepared pattern.commands ≤ 16 =
    omega (arith, valid.qubits, c.requires.few) in
    let command : Command = plain_command {h = g.row.H} c.command-item.result in
    let left : List Command = map (plain_command {h = g.row.H}) (take (length cs - 1) (drop 1 cs)) in
    let split : map (plain_command {h = g.row.H}) cs ≡ command ∷ left =
    first_command (plain_command {h = g.row.H}) cs c.command-item.result c.in-len1-up.len_at_least
    c.command-item.is in
    let here : CommandsLeft ring g.R.Ring.IsElement o pattern.inputs pattern.commands end
    (command ∷ left) live v =
    subst (λ t. CommandsLeft ring g.R.Ring.IsElement o pattern.inputs pattern.commands end t live v)
    split c.requires.here.1 in
    let is = c.in-Some.ensures.3 in
    let ready = subst (IsReady live (length c.args.outcomes.now)) is
    (command_ready ring g.R.Ring.IsElement laws o pattern.inputs pattern.commands
    valid.commands end live v command left (length c.args.outcomes.now)
    (omega (arith, valid.qubits, c.requires.outcomes)) here) in
    ready.1

pub commanded-requires-in-len1-up : goal.commanded-requires-in-len1-up
commanded-requires-in-len1-up g t c =
    let seen = g.R.Ring.seen in
    let ring : Exact =
    exact g.R.Ring.nought g.R.Ring.unit g.R.Ring.sum_of g.R.Ring.negative_of
    g.R.PhaseRing.turned_by g.R.PhaseRing.HALF g.R.PhaseRing.height_of in
    let laws =
    obeys g.R.Ring.IsElement g.R.Ring.InRange g.R.Ring.nought g.R.Ring.unit g.R.Ring.sum_of
    g.R.Ring.product_of g.R.Ring.negative_of g.R.PhaseRing.HALF g.R.PhaseRing.turned_by
    g.R.PhaseRing.height_of (g.met.R.Ring.ring_laws c.requires.permitted)
    (g.met.R.PhaseRing.turn_laws c.requires.permitted)
    (g.met.R.PhaseRing.height_laws c.requires.permitted) in
    let pattern = c.args.pattern.now in
    let valid = c.names-names.ensures.valid.valid in
    let o : Bits = bits_of c.args.outcomes.now in
    let live : List ℕ = c.args.state.live.items in
    let v : List (List ℤ) = map seen c.args.state.entries.items in
    let cs = c.args.commands.now in
    let end = c.requires.here.0 in
    let all16 : pattern.inputs + prepared pattern.commands ≤ 16 =
    omega (arith, valid.qubits, c.requires.few) in
    let command : Command = plain_command {h = g.row.H} c.command-item.result in
    let left : List Command = map (plain_command {h = g.row.H}) (take (length cs - 1) (drop 1 cs)) in
    let split : map (plain_command {h = g.row.H}) cs ≡ command ∷ left =
    first_command (plain_command {h = g.row.H}) cs c.command-item.result c.in-len1-up.len_at_least
    c.command-item.is in
    let here : CommandsLeft ring g.R.Ring.IsElement o pattern.inputs pattern.commands end
    (command ∷ left) live v =
    subst (λ t. CommandsLeft ring g.R.Ring.IsElement o pattern.inputs pattern.commands end t live v)
    split c.requires.here.1 in
    let long1 : length c.set.new.self ≡ length c.args.outcomes.now =
    ap length c.set.ensures.list ∙ length-set c.args.outcomes.now c.in-Some.q false in (
      omega arith,
      (
        c.requires.permitted,
        (
          c.requires.half,
          (
            c.requires.steps,
            (
              command_ready ring g.R.Ring.IsElement laws o pattern.inputs pattern.commands
                  valid.commands end live v command left (length c.set.new.self)
                  (omega (arith, valid.qubits, c.requires.outcomes, long1)) here,
              (
                (let f = few_live ring g.R.Ring.IsElement laws o pattern.inputs pattern.commands
                    valid.commands end live v (command ∷ left) here 16 all16 in omega arith),
                (
                  sym (length-map c.args.state.entries.items seen) ∙ here.holds.long,
                  command_low ring g.R.Ring.IsElement laws o pattern.inputs pattern.commands
                      valid.commands end live v command left (omega arith) here,
                ),
              ),
            ),
          ),
        ),
      ),
    )

pub columns-requires-in-len1-up : goal.columns-requires-in-len1-up
columns-requires-in-len1-up g t c κs within =
    let seen = g.R.Ring.seen in
    let ring : Exact =
    exact g.R.Ring.nought g.R.Ring.unit g.R.Ring.sum_of g.R.Ring.negative_of
    g.R.PhaseRing.turned_by g.R.PhaseRing.HALF g.R.PhaseRing.height_of in
    let laws =
    obeys g.R.Ring.IsElement g.R.Ring.InRange g.R.Ring.nought g.R.Ring.unit g.R.Ring.sum_of
    g.R.Ring.product_of g.R.Ring.negative_of g.R.PhaseRing.HALF g.R.PhaseRing.turned_by
    g.R.PhaseRing.height_of (g.met.R.Ring.ring_laws c.requires.permitted)
    (g.met.R.PhaseRing.turn_laws c.requires.permitted)
    (g.met.R.PhaseRing.height_laws c.requires.permitted) in
    let pattern = c.args.pattern.now in
    let valid = c.names-names.ensures.valid.valid in
    let o : Bits = bits_of c.args.outcomes.now in
    let live : List ℕ = c.args.state.live.items in
    let v : List (List ℤ) = map seen c.args.state.entries.items in
    let cs = c.args.commands.now in
    let end = c.requires.here.0 in
    let all16 : pattern.inputs + prepared pattern.commands ≤ 16 =
    omega (arith, valid.qubits, c.requires.few) in
    let command : Command = plain_command {h = g.row.H} c.command-item.result in
    let left : List Command = map (plain_command {h = g.row.H}) (take (length cs - 1) (drop 1 cs)) in
    let split : map (plain_command {h = g.row.H}) cs ≡ command ∷ left =
    first_command (plain_command {h = g.row.H}) cs c.command-item.result c.in-len1-up.len_at_least
    c.command-item.is in
    let here : CommandsLeft ring g.R.Ring.IsElement o pattern.inputs pattern.commands end
    (command ∷ left) live v =
    subst (λ t. CommandsLeft ring g.R.Ring.IsElement o pattern.inputs pattern.commands end t live v)
    split c.requires.here.1 in
    let long1 : length c.set.new.self ≡ length c.args.outcomes.now =
    ap length c.set.ensures.list ∙ length-set c.args.outcomes.now c.in-Some.q false in
    let there = at_other ring g.R.Ring.IsElement pattern.inputs pattern.commands pattern.outputs o end
    (command ∷ left) live v here (bits_of c.set.new.self) in
    let next_end : Amps (List ℤ) = after (phases ring) (bits_of c.set.new.self)
    (command ∷ left) here.amps in (
      search rules,
      (
        search rules,
        (
          search rules,
          (
            omega arith,
            (
              omega arith,
              (
                c.requires.permitted,
                (
                  c.requires.half,
                  (
                    c.requires.steps,
                    (
                      c.requires.few,
                      (
                        omega (arith, long1, c.requires.outcomes),
                        (
                          next_end,
                          subst (λ l. CommandsLeft ring g.R.Ring.IsElement
                              (bits_of c.set.new.self) pattern.inputs
                              pattern.commands next_end left l
                              (map seen c.in_ok-low-in-len1-up.low.entries.items))
                              (sym c.in_ok-low-in-len1-up.ensures.live)
                              (command_next ring g.R.Ring.IsElement laws
                              (bits_of c.set.new.self) pattern.inputs
                              pattern.commands valid.commands next_end live v command left
                              (map seen c.in_ok-low-in-len1-up.low.entries.items) there
                              (length-map c.in_ok-low-in-len1-up.low.entries.items seen
                              ∙ c.in_ok-low-in-len1-up.ensures.long)
                              c.in_ok-low-in-len1-up.ensures.stepped),
                        ),
                      ),
                    ),
                  ),
                ),
              ),
            ),
          ),
        ),
      ),
    )

pub set-requires-in-len1-up : goal.set-requires-in-len1-up
set-requires-in-len1-up g t c =
    let seen = g.R.Ring.seen in
    let ring : Exact =
    exact g.R.Ring.nought g.R.Ring.unit g.R.Ring.sum_of g.R.Ring.negative_of
    g.R.PhaseRing.turned_by g.R.PhaseRing.HALF g.R.PhaseRing.height_of in
    let laws =
    obeys g.R.Ring.IsElement g.R.Ring.InRange g.R.Ring.nought g.R.Ring.unit g.R.Ring.sum_of
    g.R.Ring.product_of g.R.Ring.negative_of g.R.PhaseRing.HALF g.R.PhaseRing.turned_by
    g.R.PhaseRing.height_of (g.met.R.Ring.ring_laws c.requires.permitted)
    (g.met.R.PhaseRing.turn_laws c.requires.permitted)
    (g.met.R.PhaseRing.height_laws c.requires.permitted) in
    let pattern = c.args.pattern.now in
    let valid = c.names-names.ensures.valid.valid in
    let o : Bits = bits_of c.args.outcomes.now in
    let live : List ℕ = c.args.state.live.items in
    let v : List (List ℤ) = map seen c.args.state.entries.items in
    let cs = c.args.commands.now in
    let end = c.requires.here.0 in
    let all16 : pattern.inputs + prepared pattern.commands ≤ 16 =
    omega (arith, valid.qubits, c.requires.few) in
    let command : Command = plain_command {h = g.row.H} c.command-item.result in
    let left : List Command = map (plain_command {h = g.row.H}) (take (length cs - 1) (drop 1 cs)) in
    let split : map (plain_command {h = g.row.H}) cs ≡ command ∷ left =
    first_command (plain_command {h = g.row.H}) cs c.command-item.result c.in-len1-up.len_at_least
    c.command-item.is in
    let here : CommandsLeft ring g.R.Ring.IsElement o pattern.inputs pattern.commands end
    (command ∷ left) live v =
    subst (λ t. CommandsLeft ring g.R.Ring.IsElement o pattern.inputs pattern.commands end t live v)
    split c.requires.here.1 in
    let long1 : length c.set.new.self ≡ length c.args.outcomes.now =
    ap length c.set.ensures.list ∙ length-set c.args.outcomes.now c.in-Some.q false in
    let long2 : length c.columns-in-len1-up.new.outcomes ≡ length c.args.outcomes.now =
    ap length c.in_ok-first-in-len1-up.ensures.outcomes ∙ long1 in
    let is = c.in-Some.ensures.3 in
    let ready = subst (IsReady live (length c.args.outcomes.now)) is
    (command_ready ring g.R.Ring.IsElement laws o pattern.inputs pattern.commands
    valid.commands end live v command left (length c.args.outcomes.now)
    (omega (arith, valid.qubits, c.requires.outcomes)) here) in
    omega (arith, ready.1, long2)

pub commanded-requires-in-len1-up-2 : goal.commanded-requires-in-len1-up-2
commanded-requires-in-len1-up-2 g t c =
    let seen = g.R.Ring.seen in
    let ring : Exact =
    exact g.R.Ring.nought g.R.Ring.unit g.R.Ring.sum_of g.R.Ring.negative_of
    g.R.PhaseRing.turned_by g.R.PhaseRing.HALF g.R.PhaseRing.height_of in
    let laws =
    obeys g.R.Ring.IsElement g.R.Ring.InRange g.R.Ring.nought g.R.Ring.unit g.R.Ring.sum_of
    g.R.Ring.product_of g.R.Ring.negative_of g.R.PhaseRing.HALF g.R.PhaseRing.turned_by
    g.R.PhaseRing.height_of (g.met.R.Ring.ring_laws c.requires.permitted)
    (g.met.R.PhaseRing.turn_laws c.requires.permitted)
    (g.met.R.PhaseRing.height_laws c.requires.permitted) in
    let pattern = c.args.pattern.now in
    let valid = c.names-names.ensures.valid.valid in
    let o : Bits = bits_of c.args.outcomes.now in
    let live : List ℕ = c.args.state.live.items in
    let v : List (List ℤ) = map seen c.args.state.entries.items in
    let cs = c.args.commands.now in
    let end = c.requires.here.0 in
    let all16 : pattern.inputs + prepared pattern.commands ≤ 16 =
    omega (arith, valid.qubits, c.requires.few) in
    let command : Command = plain_command {h = g.row.H} c.command-item.result in
    let left : List Command = map (plain_command {h = g.row.H}) (take (length cs - 1) (drop 1 cs)) in
    let split : map (plain_command {h = g.row.H}) cs ≡ command ∷ left =
    first_command (plain_command {h = g.row.H}) cs c.command-item.result c.in-len1-up.len_at_least
    c.command-item.is in
    let here : CommandsLeft ring g.R.Ring.IsElement o pattern.inputs pattern.commands end
    (command ∷ left) live v =
    subst (λ t. CommandsLeft ring g.R.Ring.IsElement o pattern.inputs pattern.commands end t live v)
    split c.requires.here.1 in
    let long1 : length c.set.new.self ≡ length c.args.outcomes.now =
    ap length c.set.ensures.list ∙ length-set c.args.outcomes.now c.in-Some.q false in
    let long2 : length c.columns-in-len1-up.new.outcomes ≡ length c.args.outcomes.now =
    ap length c.in_ok-first-in-len1-up.ensures.outcomes ∙ long1 in
    let long3 : length c.set-in-len1-up.new.self ≡ length c.args.outcomes.now =
    ap length c.set-in-len1-up.ensures.list
    ∙ length-set c.columns-in-len1-up.new.outcomes c.in-Some.q true ∙ long2 in (
      omega arith,
      (
        c.requires.permitted,
        (
          c.requires.half,
          (
            c.requires.steps,
            (
              subst (λ l. IsReady l (length c.set-in-len1-up.new.self) command)
                  (sym c.in_ok-other-in-len1-up.ensures.live)
                  (command_ready ring g.R.Ring.IsElement laws o pattern.inputs pattern.commands
                  valid.commands end live v command left (length c.set-in-len1-up.new.self)
                  (omega (arith, valid.qubits, c.requires.outcomes, long3)) here),
              (
                subst (λ l. length l < 32) (sym c.in_ok-other-in-len1-up.ensures.live)
                    (let f = few_live ring g.R.Ring.IsElement laws o pattern.inputs pattern.commands
                    valid.commands end live v (command ∷ left) here 16 all16 in omega arith),
                (
                  ap length c.in_ok-other-in-len1-up.ensures.entries ∙ sym
                      (length-map c.args.state.entries.items seen) ∙ here.holds.long
                      ∙ ap (λ l. 2 ^ length l) (sym c.in_ok-other-in-len1-up.ensures.live),
                  subst (λ es. IsLowBefore g.R.PhaseRing.height_of (map seen es) command)
                      (sym c.in_ok-other-in-len1-up.ensures.entries)
                      (command_low ring g.R.Ring.IsElement laws o pattern.inputs pattern.commands
                      valid.commands end live v command left (omega arith) here),
                ),
              ),
            ),
          ),
        ),
      ),
    )

pub columns-requires-in-len1-up-2 : goal.columns-requires-in-len1-up-2
columns-requires-in-len1-up-2 g t c κs within =
    let seen = g.R.Ring.seen in
    let ring : Exact =
    exact g.R.Ring.nought g.R.Ring.unit g.R.Ring.sum_of g.R.Ring.negative_of
    g.R.PhaseRing.turned_by g.R.PhaseRing.HALF g.R.PhaseRing.height_of in
    let laws =
    obeys g.R.Ring.IsElement g.R.Ring.InRange g.R.Ring.nought g.R.Ring.unit g.R.Ring.sum_of
    g.R.Ring.product_of g.R.Ring.negative_of g.R.PhaseRing.HALF g.R.PhaseRing.turned_by
    g.R.PhaseRing.height_of (g.met.R.Ring.ring_laws c.requires.permitted)
    (g.met.R.PhaseRing.turn_laws c.requires.permitted)
    (g.met.R.PhaseRing.height_laws c.requires.permitted) in
    let pattern = c.args.pattern.now in
    let valid = c.names-names.ensures.valid.valid in
    let o : Bits = bits_of c.args.outcomes.now in
    let live : List ℕ = c.args.state.live.items in
    let v : List (List ℤ) = map seen c.args.state.entries.items in
    let cs = c.args.commands.now in
    let end = c.requires.here.0 in
    let all16 : pattern.inputs + prepared pattern.commands ≤ 16 =
    omega (arith, valid.qubits, c.requires.few) in
    let command : Command = plain_command {h = g.row.H} c.command-item.result in
    let left : List Command = map (plain_command {h = g.row.H}) (take (length cs - 1) (drop 1 cs)) in
    let split : map (plain_command {h = g.row.H}) cs ≡ command ∷ left =
    first_command (plain_command {h = g.row.H}) cs c.command-item.result c.in-len1-up.len_at_least
    c.command-item.is in
    let here : CommandsLeft ring g.R.Ring.IsElement o pattern.inputs pattern.commands end
    (command ∷ left) live v =
    subst (λ t. CommandsLeft ring g.R.Ring.IsElement o pattern.inputs pattern.commands end t live v)
    split c.requires.here.1 in
    let long1 : length c.set.new.self ≡ length c.args.outcomes.now =
    ap length c.set.ensures.list ∙ length-set c.args.outcomes.now c.in-Some.q false in
    let long2 : length c.columns-in-len1-up.new.outcomes ≡ length c.args.outcomes.now =
    ap length c.in_ok-first-in-len1-up.ensures.outcomes ∙ long1 in
    let long3 : length c.set-in-len1-up.new.self ≡ length c.args.outcomes.now =
    ap length c.set-in-len1-up.ensures.list
    ∙ length-set c.columns-in-len1-up.new.outcomes c.in-Some.q true ∙ long2 in
    let there = at_other ring g.R.Ring.IsElement pattern.inputs pattern.commands pattern.outputs o end
    (command ∷ left) live v here (bits_of c.set-in-len1-up.new.self) in
    let next_end : Amps (List ℤ) = after (phases ring) (bits_of c.set-in-len1-up.new.self)
    (command ∷ left) here.amps in (
      search rules,
      (
        search rules,
        (
          search rules,
          (
            omega arith,
            (
              omega arith,
              (
                c.requires.permitted,
                (
                  c.requires.half,
                  (
                    c.requires.steps,
                    (
                      c.requires.few,
                      (
                        omega (arith, long3, c.requires.outcomes),
                        (
                          next_end,
                          subst (λ l. CommandsLeft ring g.R.Ring.IsElement
                              (bits_of c.set-in-len1-up.new.self) pattern.inputs
                              pattern.commands next_end left l
                              (map seen c.in_ok-high-in-len1-up.high.entries.items))
                              (sym (c.in_ok-high-in-len1-up.ensures.live ∙ ap
                              (λ l. live_behind l command) c.in_ok-other-in-len1-up.ensures.live))
                              (command_next ring g.R.Ring.IsElement laws
                              (bits_of c.set-in-len1-up.new.self) pattern.inputs
                              pattern.commands valid.commands next_end live v command left
                              (map seen c.in_ok-high-in-len1-up.high.entries.items) there
                              (length-map c.in_ok-high-in-len1-up.high.entries.items seen
                              ∙ c.in_ok-high-in-len1-up.ensures.long
                              ∙ ap (λ l. 2 ^ length
                              (live_behind l command)) c.in_ok-other-in-len1-up.ensures.live)
                              (subst (λ l. IsStepped ring g.R.Ring.IsElement
                              (command_step ring.half l (bits_of c.set-in-len1-up.new.self) command) v
                              (map seen c.in_ok-high-in-len1-up.high.entries.items))
                              c.in_ok-other-in-len1-up.ensures.live
                              (subst (λ es. IsStepped ring g.R.Ring.IsElement
                              (command_step ring.half c.in_ok-other-in-len1-up.other.live.items
                              (bits_of c.set-in-len1-up.new.self) command)
                              (map seen es) (map seen c.in_ok-high-in-len1-up.high.entries.items))
                              c.in_ok-other-in-len1-up.ensures.entries
                              c.in_ok-high-in-len1-up.ensures.stepped))),
                        ),
                      ),
                    ),
                  ),
                ),
              ),
            ),
          ),
        ),
      ),
    )

pub set-requires-in-len1-up-2 : goal.set-requires-in-len1-up-2
set-requires-in-len1-up-2 g t c =
    let seen = g.R.Ring.seen in
    let ring : Exact =
    exact g.R.Ring.nought g.R.Ring.unit g.R.Ring.sum_of g.R.Ring.negative_of
    g.R.PhaseRing.turned_by g.R.PhaseRing.HALF g.R.PhaseRing.height_of in
    let laws =
    obeys g.R.Ring.IsElement g.R.Ring.InRange g.R.Ring.nought g.R.Ring.unit g.R.Ring.sum_of
    g.R.Ring.product_of g.R.Ring.negative_of g.R.PhaseRing.HALF g.R.PhaseRing.turned_by
    g.R.PhaseRing.height_of (g.met.R.Ring.ring_laws c.requires.permitted)
    (g.met.R.PhaseRing.turn_laws c.requires.permitted)
    (g.met.R.PhaseRing.height_laws c.requires.permitted) in
    let pattern = c.args.pattern.now in
    let valid = c.names-names.ensures.valid.valid in
    let o : Bits = bits_of c.args.outcomes.now in
    let live : List ℕ = c.args.state.live.items in
    let v : List (List ℤ) = map seen c.args.state.entries.items in
    let cs = c.args.commands.now in
    let end = c.requires.here.0 in
    let all16 : pattern.inputs + prepared pattern.commands ≤ 16 =
    omega (arith, valid.qubits, c.requires.few) in
    let command : Command = plain_command {h = g.row.H} c.command-item.result in
    let left : List Command = map (plain_command {h = g.row.H}) (take (length cs - 1) (drop 1 cs)) in
    let split : map (plain_command {h = g.row.H}) cs ≡ command ∷ left =
    first_command (plain_command {h = g.row.H}) cs c.command-item.result c.in-len1-up.len_at_least
    c.command-item.is in
    let here : CommandsLeft ring g.R.Ring.IsElement o pattern.inputs pattern.commands end
    (command ∷ left) live v =
    subst (λ t. CommandsLeft ring g.R.Ring.IsElement o pattern.inputs pattern.commands end t live v)
    split c.requires.here.1 in
    let long1 : length c.set.new.self ≡ length c.args.outcomes.now =
    ap length c.set.ensures.list ∙ length-set c.args.outcomes.now c.in-Some.q false in
    let long2 : length c.columns-in-len1-up.new.outcomes ≡ length c.args.outcomes.now =
    ap length c.in_ok-first-in-len1-up.ensures.outcomes ∙ long1 in
    let long3 : length c.set-in-len1-up.new.self ≡ length c.args.outcomes.now =
    ap length c.set-in-len1-up.ensures.list
    ∙ length-set c.columns-in-len1-up.new.outcomes c.in-Some.q true ∙ long2 in
    let long4 : length c.columns-in-len1-up-2.new.outcomes ≡ length c.args.outcomes.now =
    ap length c.in_ok-second-in-len1-up.ensures.outcomes ∙ long3 in
    let is = c.in-Some.ensures.3 in
    let ready = subst (IsReady live (length c.args.outcomes.now)) is
    (command_ready ring g.R.Ring.IsElement laws o pattern.inputs pattern.commands
    valid.commands end live v command left (length c.args.outcomes.now)
    (omega (arith, valid.qubits, c.requires.outcomes)) here) in
    omega (arith, ready.1, long4)

pub returns-in-Ok-clause-columns : goal.returns-in-Ok-clause-columns
returns-in-Ok-clause-columns g t c =
    let seen = g.R.Ring.seen in
    let ring : Exact =
    exact g.R.Ring.nought g.R.Ring.unit g.R.Ring.sum_of g.R.Ring.negative_of
    g.R.PhaseRing.turned_by g.R.PhaseRing.HALF g.R.PhaseRing.height_of in
    let laws =
    obeys g.R.Ring.IsElement g.R.Ring.InRange g.R.Ring.nought g.R.Ring.unit g.R.Ring.sum_of
    g.R.Ring.product_of g.R.Ring.negative_of g.R.PhaseRing.HALF g.R.PhaseRing.turned_by
    g.R.PhaseRing.height_of (g.met.R.Ring.ring_laws c.requires.permitted)
    (g.met.R.PhaseRing.turn_laws c.requires.permitted)
    (g.met.R.PhaseRing.height_laws c.requires.permitted) in
    let pattern = c.args.pattern.now in
    let valid = c.names-names.ensures.valid.valid in
    let o : Bits = bits_of c.args.outcomes.now in
    let live : List ℕ = c.args.state.live.items in
    let v : List (List ℤ) = map seen c.args.state.entries.items in
    let cs = c.args.commands.now in
    let end = c.requires.here.0 in
    let all16 : pattern.inputs + prepared pattern.commands ≤ 16 =
    omega (arith, valid.qubits, c.requires.few) in
    let command : Command = plain_command {h = g.row.H} c.command-item.result in
    let left : List Command = map (plain_command {h = g.row.H}) (take (length cs - 1) (drop 1 cs)) in
    let split : map (plain_command {h = g.row.H}) cs ≡ command ∷ left =
    first_command (plain_command {h = g.row.H}) cs c.command-item.result c.in-len1-up.len_at_least
    c.command-item.is in
    let here : CommandsLeft ring g.R.Ring.IsElement o pattern.inputs pattern.commands end
    (command ∷ left) live v =
    subst (λ t. CommandsLeft ring g.R.Ring.IsElement o pattern.inputs pattern.commands end t live v)
    split c.requires.here.1 in
    let o0 : Bits = replaced o c.in-Some.q false in
    let bits0 : bits_of c.set.new.self ≡ o0 = c.set.ensures.bits in
    let o1 : Bits = replaced o c.in-Some.q true in
    let bits1 : bits_of c.set-in-len1-up.new.self ≡ o1 =
    c.set-in-len1-up.ensures.bits
    ∙ ap (λ x. replaced (bits_of x) c.in-Some.q true) c.in_ok-first-in-len1-up.ensures.outcomes
    ∙ ap (λ x. replaced x c.in-Some.q true) bits0
    ∙ replaced_again o c.in-Some.q false true in
    let q : ℕ = c.in-Some.q in
    let low : List (List ℤ) = map seen c.in_ok-low-in-len1-up.low.entries.items in
    let high : List (List ℤ) = map seen c.in_ok-high-in-len1-up.high.entries.items in
    let one : List (List ℤ) = map seen c.in_ok-first-in-len1-up.first.items in
    let two : List (List ℤ) = map seen c.in_ok-second-in-len1-up.second.items in
    let behind : List ℕ = live_behind live command in
    let same : c.in_ok-other-in-len1-up.other.live.items ≡ live =
    c.in_ok-other-in-len1-up.ensures.live in
    let long_low : length low ≡ 2 ^ length behind =
    length-map c.in_ok-low-in-len1-up.low.entries.items seen ∙ c.in_ok-low-in-len1-up.ensures.long in
    let long_high : length high ≡ 2 ^ length behind =
    length-map c.in_ok-high-in-len1-up.high.entries.items seen
    ∙ c.in_ok-high-in-len1-up.ensures.long
    ∙ ap (λ l. 2 ^ length (live_behind l command)) same in
    let at_low : IsStepped ring g.R.Ring.IsElement (command_step ring.half live o0 command) v low =
    subst (λ b. IsStepped ring g.R.Ring.IsElement (command_step ring.half live b command) v low) bits0
    c.in_ok-low-in-len1-up.ensures.stepped in
    let at_high : IsStepped ring g.R.Ring.IsElement (command_step ring.half live o1 command) v high =
    subst (λ b. IsStepped ring g.R.Ring.IsElement (command_step ring.half live b command) v high) bits1
    (subst (λ l. IsStepped ring g.R.Ring.IsElement
    (command_step ring.half l (bits_of c.set-in-len1-up.new.self) command) v high) same
    (subst (λ es. IsStepped ring g.R.Ring.IsElement
    (command_step ring.half c.in_ok-other-in-len1-up.other.live.items
    (bits_of c.set-in-len1-up.new.self) command) (map seen es) high)
    c.in_ok-other-in-len1-up.ensures.entries c.in_ok-high-in-len1-up.ensures.stepped)) in
    let first : AreColumns ring g.R.Ring.IsElement o0 pattern.inputs pattern.commands left
    pattern.outputs behind low one =
    subst (λ l. AreColumns ring g.R.Ring.IsElement o0 pattern.inputs pattern.commands left
    pattern.outputs l low one) c.in_ok-low-in-len1-up.ensures.live
    (subst (λ b. AreColumns ring g.R.Ring.IsElement b pattern.inputs pattern.commands left
    pattern.outputs c.in_ok-low-in-len1-up.low.live.items low one) bits0
    c.in_ok-first-in-len1-up.ensures.columns) in
    let second : AreColumns ring g.R.Ring.IsElement o1 pattern.inputs pattern.commands left
    pattern.outputs behind high two =
    subst (λ l. AreColumns ring g.R.Ring.IsElement o1 pattern.inputs pattern.commands left
    pattern.outputs l high two)
    (c.in_ok-high-in-len1-up.ensures.live ∙ ap (λ l. live_behind l command) same)
    (subst (λ b. AreColumns ring g.R.Ring.IsElement b pattern.inputs pattern.commands left
    pattern.outputs c.in_ok-high-in-len1-up.high.live.items high two) bits1
    c.in_ok-second-in-len1-up.ensures.columns) in
    let items : map seen c.append.new.self.items ≡ one ++ two =
    ap (map seen) c.in-Ok.ensures.items
    ∙ map-append seen c.in_ok-first-in-len1-up.first.items c.in_ok-second-in-len1-up.second.items in
    subst (λ t. AreColumns ring g.R.Ring.IsElement o pattern.inputs pattern.commands t
    pattern.outputs live v (map seen c.append.new.self.items)) (sym split)
    (subst (λ t. AreColumns ring g.R.Ring.IsElement o pattern.inputs pattern.commands
    (command ∷ left) pattern.outputs live v t) (sym items)
    (columns_parted ring g.R.Ring.IsElement pattern.inputs pattern.commands pattern.outputs laws
    valid.commands left live v command q c.in-Some.ensures.0 c.in-Some.ensures.1 c.in-Some.ensures.2
    c.in-Some.ensures.3 o low high one two long_low long_high at_low at_high first second))

pub returns-in-Ok-clause-outcomes : goal.returns-in-Ok-clause-outcomes
returns-in-Ok-clause-outcomes g t c =
    restored c.args.outcomes.now c.set.new.self c.set-in-len1-up.new.self c.set-in-len1-up-2.new.self
    c.in-Some.q c.get-before.result c.get-before.ensures c.set.ensures.list
    (c.set-in-len1-up.ensures.list
    ∙ ap (λ x. slice_set x c.in-Some.q true) c.in_ok-first-in-len1-up.ensures.outcomes)
    (c.set-in-len1-up-2.ensures.list
    ∙ ap (λ x. slice_set x c.in-Some.q c.get-before.result)
    c.in_ok-second-in-len1-up.ensures.outcomes)

pub returns-in_default-clause-columns : goal.returns-in_default-clause-columns
returns-in_default-clause-columns g t c =
    let seen = g.R.Ring.seen in
    let ring : Exact =
    exact g.R.Ring.nought g.R.Ring.unit g.R.Ring.sum_of g.R.Ring.negative_of
    g.R.PhaseRing.turned_by g.R.PhaseRing.HALF g.R.PhaseRing.height_of in
    let laws =
    obeys g.R.Ring.IsElement g.R.Ring.InRange g.R.Ring.nought g.R.Ring.unit g.R.Ring.sum_of
    g.R.Ring.product_of g.R.Ring.negative_of g.R.PhaseRing.HALF g.R.PhaseRing.turned_by
    g.R.PhaseRing.height_of (g.met.R.Ring.ring_laws c.requires.permitted)
    (g.met.R.PhaseRing.turn_laws c.requires.permitted)
    (g.met.R.PhaseRing.height_laws c.requires.permitted) in
    let pattern = c.args.pattern.now in
    let valid = c.names-names.ensures.valid.valid in
    let o : Bits = bits_of c.args.outcomes.now in
    let live : List ℕ = c.args.state.live.items in
    let v : List (List ℤ) = map seen c.args.state.entries.items in
    let cs = c.args.commands.now in
    let end = c.requires.here.0 in
    let all16 : pattern.inputs + prepared pattern.commands ≤ 16 =
    omega (arith, valid.qubits, c.requires.few) in
    let command : Command = plain_command {h = g.row.H} c.command-item.result in
    let left : List Command = map (plain_command {h = g.row.H}) (take (length cs - 1) (drop 1 cs)) in
    let split : map (plain_command {h = g.row.H}) cs ≡ command ∷ left =
    first_command (plain_command {h = g.row.H}) cs c.command-item.result c.in-len1-up.len_at_least
    c.command-item.is in
    let here : CommandsLeft ring g.R.Ring.IsElement o pattern.inputs pattern.commands end
    (command ∷ left) live v =
    subst (λ t. CommandsLeft ring g.R.Ring.IsElement o pattern.inputs pattern.commands end t live v)
    split c.requires.here.1 in
    let next : List (List ℤ) = map seen c.in_ok-next-in-len1-up.next.entries.items in
    let columns : List (List ℤ) = map seen c.in_ok-more-in-len1-up.more.items in
    let none : measured_order (command ∷ []) ≡ [] = c.in_default.ensures in
    let order : measured_order (command ∷ left) ≡ measured_order left =
    order_first command left ∙ ap (λ qs. qs ++ measured_order left) none in
    subst (λ cs. AreColumns ring g.R.Ring.IsElement o pattern.inputs pattern.commands cs
    pattern.outputs live v columns) (sym split)
    (columns_straight ring g.R.Ring.IsElement pattern.inputs pattern.commands pattern.outputs laws
    valid.commands left live v command o next columns order
    (length-map c.in_ok-next-in-len1-up.next.entries.items seen
    ∙ c.in_ok-next-in-len1-up.ensures.long)
    c.in_ok-next-in-len1-up.ensures.stepped
    (subst (λ l. AreColumns ring g.R.Ring.IsElement o pattern.inputs pattern.commands left
    pattern.outputs l next columns) c.in_ok-next-in-len1-up.ensures.live
    c.in_ok-more-in-len1-up.ensures.columns))

pub returns-in_ok-last-in-empty-clause-columns : goal.returns-in_ok-last-in-empty-clause-columns
returns-in_ok-last-in-empty-clause-columns g t c =
    let seen = g.R.Ring.seen in
    let ring : Exact =
    exact g.R.Ring.nought g.R.Ring.unit g.R.Ring.sum_of g.R.Ring.negative_of
    g.R.PhaseRing.turned_by g.R.PhaseRing.HALF g.R.PhaseRing.height_of in
    let laws =
    obeys g.R.Ring.IsElement g.R.Ring.InRange g.R.Ring.nought g.R.Ring.unit g.R.Ring.sum_of
    g.R.Ring.product_of g.R.Ring.negative_of g.R.PhaseRing.HALF g.R.PhaseRing.turned_by
    g.R.PhaseRing.height_of (g.met.R.Ring.ring_laws c.requires.permitted)
    (g.met.R.PhaseRing.turn_laws c.requires.permitted)
    (g.met.R.PhaseRing.height_laws c.requires.permitted) in
    let pattern = c.args.pattern.now in
    let valid = c.names-names.ensures.valid.valid in
    let o : Bits = bits_of c.args.outcomes.now in
    let live : List ℕ = c.args.state.live.items in
    let v : List (List ℤ) = map seen c.args.state.entries.items in
    let cs = c.args.commands.now in
    let end = c.requires.here.0 in
    let all16 : pattern.inputs + prepared pattern.commands ≤ 16 =
    omega (arith, valid.qubits, c.requires.few) in
    let columns : List (List ℤ) = map seen c.in_ok-last-in-empty.last.items in
    let none : map (plain_command {h = g.row.H}) cs ≡ [] =
    no_command (plain_command {h = g.row.H}) cs c.in-empty.len_below in
    let here : CommandsLeft ring g.R.Ring.IsElement o pattern.inputs pattern.commands end [] live v =
    subst (λ t. CommandsLeft ring g.R.Ring.IsElement o pattern.inputs pattern.commands end t live v)
    none c.requires.here.1 in
    let living : All (IsLiving live) pattern.outputs =
    λ k d h.
    let out = output_unmeasured pattern valid k d h in
    live_over ring g.R.Ring.IsElement laws o pattern.inputs pattern.commands valid.commands end live v
    here _ out.0 out.1 in
    let outputs : c.outputs.result.now ≡ pattern.outputs = c.outputs.ensures in
    subst (λ cs. AreColumns ring g.R.Ring.IsElement o pattern.inputs pattern.commands cs
    pattern.outputs live v columns) (sym none)
    (columns_none ring g.R.Ring.IsElement pattern.inputs pattern.commands laws valid.commands live v o
    pattern.outputs columns living
    (length-map c.in_ok-last-in-empty.last.items seen ∙ c.in_ok-last-in-empty.ensures.length
    ∙ ap (λ qs. 2 ^ length qs) outputs)
    (λ y h. c.in_ok-last-in-empty.ensures.values y (subst (λ qs. y < 2 ^ length qs) (sym outputs) h)
    ∙ ap (λ qs. entry v (place_spelled live qs y)) outputs))
