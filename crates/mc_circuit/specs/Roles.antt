-- The table of a circuit's section: which record words may follow one another, and what the words
-- behind them are.
use Rattle.std.specs.Prelude.{ℕ, Bool, true, false, ◌==◌, if◌then◌else◌, Option, None, Some}
use Rattle.mc_text.specs.declared.head.Head.{Head}
use Rattle.mc_text.specs.declared.head.Head.TheVariants.{In, Plus, J, Cz, Out, End}
use Rattle.mc_text.specs.declared.point.Point.{Point}

-- a record word; a name that is defined; the first operand of a gate, its angle or its second
-- operand; a name that is listed as an output; a word behind a line that is whole
pub data Role : Type 0 where
  record_word : Role
  defined : Role
  operand : Role
  angle : Role
  second : Role
  output : Role
  surplus : Role

-- the record words that may begin the section, or follow one
abbrev pub may_follow : Option Head → Option Head → Bool
may_follow None (Some In) = true
may_follow (Some In) (Some Plus) = true
may_follow (Some In) (Some J) = true
may_follow (Some In) (Some Cz) = true
may_follow (Some In) (Some Out) = true
may_follow (Some Plus) (Some J) = true
may_follow (Some Plus) (Some Cz) = true
may_follow (Some Plus) (Some Out) = true
may_follow (Some J) (Some J) = true
may_follow (Some J) (Some Cz) = true
may_follow (Some J) (Some Out) = true
may_follow (Some Cz) (Some J) = true
may_follow (Some Cz) (Some Cz) = true
may_follow (Some Cz) (Some Out) = true
may_follow (Some Out) (Some End) = true
may_follow _ _ = false

-- the role of the n-th word behind a record word
abbrev pub role_in : Option Head → ℕ → Role
role_in (Some In) n = defined
role_in (Some Plus) n = defined
role_in (Some J) n = if n == 1 then operand else (if n == 2 then angle else surplus)
role_in (Some Cz) n = if n == 1 then operand else (if n == 2 then second else surplus)
role_in (Some Out) n = output
role_in _ n = surplus

abbrev pub role_of : Point → Role
role_of p = if p.count == 0 then record_word else role_in p.head p.count

-- lines that define wires, inputs among them; lines of gates and of outputs
abbrev pub is_defining : Option Head → Bool
is_defining (Some In) = true
is_defining (Some Plus) = true
is_defining _ = false

abbrev pub is_input : Option Head → Bool
is_input (Some In) = true
is_input _ = false

abbrev pub is_gate : Option Head → Bool
is_gate (Some J) = true
is_gate (Some Cz) = true
is_gate _ = false

abbrev pub is_output : Option Head → Bool
is_output (Some Out) = true
is_output _ = false
