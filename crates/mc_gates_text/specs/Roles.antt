-- The table of a gate list's section: which record words may follow one another, and what the words
-- behind them are.
use Rattle.std.specs.Prelude.{ℕ, Bool, true, false, ◌&&◌, ◌||◌, ◌==◌, nat_le, if◌then◌else◌, Option}
use Rattle.std.specs.Prelude.{None, Some}
use Rattle.mc_text.specs.declared.head.Head.{Head}
use Rattle.mc_text.specs.declared.head.Head.TheVariants.{In, Plus, Out}
use Rattle.mc_text.specs.declared.point.Point.{Point}
use Rattle.mc_text.specs.Heads.{is_end}
use Rattle.mc_circuit.specs.Roles.{is_input, is_output}
use Rattle.mc_gates_text.specs.Words.{arity, is_gate}

-- a record word; a name that is defined; an operand of a gate; a name that is listed as an output;
-- a word behind a line that is whole
pub data Role : Type 0 where
  record_word : Role
  defined : Role
  operand : Role
  output : Role
  surplus : Role

abbrev pub is_plus : Option Head → Bool
is_plus (Some Plus) = true
is_plus _ = false

-- the record words that may begin the section, or follow one
abbrev pub goes_on : Option Head → Bool
goes_on h = is_gate h || is_output h

abbrev pub may_follow : Option Head → Option Head → Bool
may_follow None h = is_input h
may_follow (Some In) h = is_plus h || goes_on h
may_follow (Some Plus) h = goes_on h
may_follow (Some Out) h = is_end h
may_follow (Some last) h = is_gate (Some last) && goes_on h

-- the role of the n-th word behind a record word, counted from 1
abbrev pub role_in : Option Head → ℕ → Role
role_in (Some In) n = defined
role_in (Some Plus) n = defined
role_in (Some Out) n = output
role_in h n = if nat_le n (arity h) then operand else surplus

abbrev pub role_of : Point → Role
role_of p = if p.count == 0 then record_word else role_in p.head p.count
