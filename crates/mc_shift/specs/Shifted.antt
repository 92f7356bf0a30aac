-- The shifted form by putting signals in for qubits. That it is the one that has the meaning of a
-- shifted form is the law `has_one_shifted_form`.
use Rattle.std.specs.Prelude.{ℕ, cond, nat_eq, List, [], ◌∷◌}
use Rattle.mc_model.specs.Bits.{◌⊻◌}
use Rattle.mc_model.specs.Signals.{Signal, Signals, no_signal, signal_of, signal_sum}
use Rattle.mc_model.specs.Pattern.{Command, Prep, Ent, Meas, FixX, FixZ, Pattern}

-- each member replaced by itself and its signal
unfoldable pub expanded : Signals → List ℕ → Signal
expanded d [] = no_signal
expanded d (q ∷ qs) = signal_sum (signal_sum (signal_of q) (d q)) (expanded d qs)

abbrev pub shifted_signal : Signals → Signal → Signal
shifted_signal d s = record {
  members = (expanded d s.members).members;
  constant = s.constant ⊻ (expanded d s.members).constant;
}

-- `d` holds the shifted second signal of each qubit that was measured
unfoldable pub shifted : Signals → List Command → List Command
shifted d [] = []
shifted d (Prep q ∷ cs) = Prep q ∷ shifted d cs
shifted d (Ent q r ∷ cs) = Ent q r ∷ shifted d cs
shifted d (FixX q s ∷ cs) = FixX q (shifted_signal d s) ∷ shifted d cs
shifted d (FixZ q s ∷ cs) = FixZ q (shifted_signal d s) ∷ shifted d cs
shifted d (Meas i a s t ∷ cs) =
    Meas i a (shifted_signal d s) no_signal
    ∷ shifted (λ k. cond (nat_eq k i) (shifted_signal d t) (d k)) cs

abbrev pub none_yet : Signals
none_yet = λ k. no_signal

unfoldable pub shifted_form : Pattern → Pattern
shifted_form p = record {
  names = p.names;
  inputs = p.inputs;
  outputs = p.outputs;
  commands = shifted none_yet p.commands;
}
