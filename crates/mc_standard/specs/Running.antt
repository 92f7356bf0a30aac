-- What one pass over a list of commands has come to, and what it leads to.
use Rattle.std.specs.Prelude.{◌≡◌, ℕ, ◌<◌, List, [], ◌∷◌, ◌++◌, length, map, slice_get}
use Rattle.std.specs.Prelude.{unwrap_or, ⊤}
use Rattle.mc_model.specs.Bits.{◌⊻◌}
use Rattle.mc_model.specs.Signals.{Signal, Signals, no_signal}
use Rattle.mc_model.specs.Pattern.{Command, Prep, Ent, Meas, FixX, FixZ}
use Rattle.mc_model.specs.StandardForm.{preparations_of, is_edge}
use Rattle.mc_rules.specs.OnePass.{none_carried, measured_with, carried}
use Rattle.mc_standard.specs.declared.pass.Pass.{Pass}
use Rattle.mc_standard.specs.OddPairs.{is_odd}
use Rattle.mc_standard.specs.Plain.{plain_measure}

-- the signal at each number, and the empty one behind the list's end
abbrev pub signals_of : List Signal → Signals
signals_of signals = λ q. unwrap_or (slice_get signals q) no_signal

-- the operands are below `n`, and those of an entangling differ
abbrev pub OperandsBelow : ℕ → Command → Type 0
OperandsBelow n (Prep q) = ⊤
OperandsBelow n (Ent q r) = (q < n) × (r < n) × (q ≡ r → ⊥)
OperandsBelow n (Meas q a s t) = q < n
OperandsBelow n (FixX q s) = q < n
OperandsBelow n (FixZ q s) = q < n

abbrev pub AllBelow : ℕ → List Command → Type 0
AllBelow n [] = ⊤
AllBelow n (c ∷ cs) = OperandsBelow n c × AllBelow n cs

-- a pass that has made preparations, a table of entangled pairs and measurements, and carries two
-- signals for each qubit, goes on with `rest` and comes to what one pass over `whole` comes to
pub record LeadsOn (ps : List Command) (odd : List ℕ) (ms : List Command) (xs zs : Signals)
    (rest whole : List Command) : Type 0 where
  pub preparations : ps ++ preparations_of rest ≡ preparations_of whole
  pub edges : (i j : ℕ) → i < j → j < 256 →
      (is_odd odd i j ⊻ is_edge rest i j) ≡ is_edge whole i j
  pub measurements : ms ++ measured_with xs zs rest ≡ measured_with none_carried none_carried whole
  pub signals : carried xs zs rest ≡ carried none_carried none_carried whole

abbrev pub LeadsTo : {h : ℕ} → Pass h → List Command → List Command → Type 0
LeadsTo {h} pass rest whole =
    LeadsOn (map Prep pass.preps.items) pass.odd.items
    (map (plain_measure {h = h}) pass.measures.items) (signals_of pass.xs.items)
    (signals_of pass.zs.items) rest whole

-- a bit for each pair, and a signal of each kind for each qubit
abbrev pub IsRoomy : {h : ℕ} → Pass h → Type 0
IsRoomy pass =
    (length pass.odd.items ≡ 1024) × (length pass.xs.items ≡ 256) × (length pass.zs.items ≡ 256)
