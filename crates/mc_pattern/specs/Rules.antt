-- The rules that a builder tests, numbered from 1 to 8: why a command or outputs are refused.
use Rattle.std.specs.Prelude.{ℕ, Bool, true, false, not, ◌&&◌, nat_eq, nat_lt, List, [], ◌∷◌, ◌++◌}
use Rattle.std.specs.Prelude.{length, count_by, Option, None, Some, if◌then◌else◌}
use Rattle.std.specs.List.{list_any}
use Rattle.mc_model.specs.Bits.{Bits, replaced}
use Rattle.mc_model.specs.Numbers.{numbers_from, is_member}
use Rattle.mc_model.specs.Pattern.{Command, Prep, Ent, Meas, FixX, FixZ, Pattern}
use Rattle.mc_model.specs.Valid.{measured}

abbrev pub is_prep : Command → Bool
is_prep (Prep q) = true
is_prep (Ent q r) = false
is_prep (Meas q a s t) = false
is_prep (FixX q s) = false
is_prep (FixZ q s) = false

-- the qubits that a command acts on; a preparation makes its qubit
abbrev pub operands : Command → List ℕ
operands (Prep q) = []
operands (Ent q r) = q ∷ r ∷ []
operands (Meas q a s t) = q ∷ []
operands (FixX q s) = q ∷ []
operands (FixZ q s) = q ∷ []

-- it entangles a qubit with itself
abbrev pub is_loop : Command → Bool
is_loop (Prep q) = false
is_loop (Ent q r) = nat_eq q r
is_loop (Meas q a s t) = false
is_loop (FixX q s) = false
is_loop (FixZ q s) = false

-- the members of its signals
abbrev pub members_of : Command → List ℕ
members_of (Prep q) = []
members_of (Ent q r) = []
members_of (Meas q a s t) = s.members ++ t.members
members_of (FixX q s) = s.members
members_of (FixZ q s) = s.members

-- the qubits of `done`, and one more if there is one
abbrev pub marked : Bits → Option ℕ → Bits
marked done None = done
marked done (Some q) = replaced done q true

-- no number of one of `n` qubits
abbrev pub is_stranger : ℕ → ℕ → Bool
is_stranger n q = not (nat_lt q n)

-- no qubit of `done`
abbrev pub is_undone : Bits → ℕ → Bool
is_undone done q = not (done q)

-- listed more than once
abbrev pub is_twice : List ℕ → ℕ → Bool
is_twice qs q = nat_lt 1 (count_by (nat_eq q) qs)

-- no qubit of `done`, and not listed
abbrev pub is_missing : Bits → List ℕ → ℕ → Bool
is_missing done qs q = not (done q) && not (is_member qs q)

-- the least rule that is broken where there are `n` qubits, of which those of `done` were measured:
-- 1, an operand is no qubit; 2, an operand was measured; 3, both operands are one qubit;
-- 4, a member of a signal was not measured
abbrev pub first_rule : ℕ → Bits → List ℕ → Bool → List ℕ → Option ℕ
first_rule n done operands is_loop members =
    if list_any (is_stranger n) operands then Some 1
    else (if list_any done operands then Some 2
    else (if is_loop then Some 3
    else (if list_any (is_undone done) members then Some 4 else None)))

abbrev pub command_rule : ℕ → Bits → Command → Option ℕ
command_rule n done c = first_rule n done (operands c) (is_loop c) (members_of c)

-- the least rule that outputs break: 5, an output is no qubit; 6, an output was measured;
-- 7, an output is listed twice; 8, a qubit that was not measured is not listed
abbrev pub output_rule : ℕ → Bits → List ℕ → Option ℕ
output_rule n done qs =
    if list_any (is_stranger n) qs then Some 5
    else (if list_any done qs then Some 6
    else (if list_any (is_twice qs) qs then Some 7
    else (if list_any (is_missing done qs) (numbers_from 0 n) then Some 8 else None)))

-- the least rule that a command breaks behind a pattern so far
abbrev pub broken_rule : Pattern → Command → Option ℕ
broken_rule p c = command_rule (length p.names) (measured p.commands) c

-- the least rule that a list of outputs breaks
abbrev pub broken_outputs : Pattern → List ℕ → Option ℕ
broken_outputs p qs = output_rule (length p.names) (measured p.commands) qs
