-- Signals: sets of measured qubits, which say whether a correction acts.
use Rattle.std.specs.Prelude.{ℕ, ◌<◌, Bool, true, false, cond, not, ◌&&◌, nat_eq, nat_lt, List, []}
use Rattle.std.specs.Prelude.{◌∷◌, ⊤}
use Rattle.mc_model.specs.Bits.{◌⊻◌, Bits, parity}

-- the members, rising, and a constant
pub record Signal : Type 0 where
  pub members : List ℕ
  pub constant : Bool

-- the value: the constant plus the sum of the members' outcomes
unfoldable pub value : Signal → Bits → Bool
value s o = s.constant ⊻ parity s.members o

abbrev pub no_signal : Signal
no_signal = record { members = []; constant = false }

abbrev pub signal_of : ℕ → Signal
signal_of q = record { members = q ∷ []; constant = false }

-- the constant alone, 1 whatever the outcomes
abbrev pub one_signal : Signal
one_signal = record { members = []; constant = true }

abbrev pub is_nil : List ℕ → Bool
is_nil [] = true
is_nil (q ∷ qs) = false

abbrev pub is_empty : Signal → Bool
is_empty s = is_nil s.members && not s.constant

-- a rising list with `q` added where it is not a member, and taken out where it is
unfoldable pub toggled : ℕ → List ℕ → List ℕ
toggled q [] = q ∷ []
toggled q (p ∷ ps) = cond (nat_lt q p) (q ∷ p ∷ ps) (cond (nat_eq q p) ps (p ∷ toggled q ps))

unfoldable pub toggled_all : List ℕ → List ℕ → List ℕ
toggled_all [] ps = ps
toggled_all (q ∷ qs) ps = toggled q (toggled_all qs ps)

-- the sum: the members of just one of the two
abbrev pub signal_sum : Signal → Signal → Signal
signal_sum s t = record {
  members = toggled_all s.members t.members;
  constant = s.constant ⊻ t.constant;
}

-- each number of the list is above `q`
abbrev pub AllAbove : ℕ → List ℕ → Type 0
AllAbove q [] = ⊤
AllAbove q (p ∷ ps) = (q < p) × AllAbove q ps

-- the list is a set, in order
abbrev pub IsRising : List ℕ → Type 0
IsRising [] = ⊤
IsRising (q ∷ qs) = AllAbove q qs × IsRising qs

-- a signal for each qubit
abbrev pub Signals : Type 0
Signals = ℕ → Signal
