-- The table of a graph's section: which record words may follow one another, and what the words
-- behind them are.
use Rattle.std.specs.Prelude.{ℕ, Bool, true, false, ◌==◌, ◌&&◌, ◌||◌, if◌then◌else◌, Option, None}
use Rattle.std.specs.Prelude.{Some}
use Rattle.mc_text.specs.declared.head.Head.{Head}
use Rattle.mc_text.specs.declared.head.Head.TheVariants.{In, N, E, M, X, Z, Out, End}
use Rattle.mc_text.specs.declared.point.Point.{Point}

-- a record word; a name that is defined as an input, or as another vertex; the first end of an
-- edge, or the second; a vertex that gets an angle; the angle; a vertex that is listed as an
-- output; a vertex that gets a fixed `X`, or a fixed `Z`; a word behind a line that is whole
pub data Role : Type 0 where
  record_word : Role
  input : Role
  vertex : Role
  end : Role
  other_end : Role
  measured : Role
  angle : Role
  output : Role
  fixed_x : Role
  fixed_z : Role
  surplus : Role

-- lines that define vertices, inputs among them; that join two, give one an angle, list the
-- outputs and fix corrections
abbrev pub is_defining : Option Head → Bool
is_defining (Some In) = true
is_defining (Some N) = true
is_defining _ = false

abbrev pub is_input : Option Head → Bool
is_input (Some In) = true
is_input _ = false

abbrev pub is_joining : Option Head → Bool
is_joining (Some E) = true
is_joining _ = false

abbrev pub is_measuring : Option Head → Bool
is_measuring (Some M) = true
is_measuring _ = false

abbrev pub is_output : Option Head → Bool
is_output (Some Out) = true
is_output _ = false

abbrev pub is_fixing_x : Option Head → Bool
is_fixing_x (Some X) = true
is_fixing_x _ = false

abbrev pub is_fixing_z : Option Head → Bool
is_fixing_z (Some Z) = true
is_fixing_z _ = false

abbrev pub is_ending : Option Head → Bool
is_ending (Some End) = true
is_ending _ = false

-- before the outputs, behind the inputs
abbrev pub is_inner : Option Head → Bool
is_inner (Some N) = true
is_inner (Some E) = true
is_inner (Some M) = true
is_inner (Some Out) = true
is_inner _ = false

-- behind the outputs, where fixed corrections may stand or not
abbrev pub is_late : Bool → Option Head → Bool
is_late fixes head = is_ending head || (fixes && (is_fixing_x head || is_fixing_z head))

-- the record words that may begin the section, or follow one
abbrev pub may_follow : Bool → Option Head → Option Head → Bool
may_follow fixes None head = is_input head
may_follow fixes (Some In) head = is_inner head
may_follow fixes (Some N) head = is_inner head
may_follow fixes (Some E) head = is_inner head
may_follow fixes (Some M) head = is_inner head
may_follow fixes (Some Out) head = is_late fixes head
may_follow fixes (Some X) head = is_late fixes head
may_follow fixes (Some Z) head = is_late fixes head
may_follow fixes (Some _) head = false

-- the role of the n-th word behind a record word
abbrev pub role_in : Option Head → ℕ → Role
role_in (Some In) n = input
role_in (Some N) n = if n == 1 then vertex else surplus
role_in (Some E) n = if n == 1 then end else (if n == 2 then other_end else surplus)
role_in (Some M) n = if n == 1 then measured else (if n == 2 then angle else surplus)
role_in (Some Out) n = output
role_in (Some X) n = if n == 1 then fixed_x else surplus
role_in (Some Z) n = if n == 1 then fixed_z else surplus
role_in _ n = surplus

abbrev pub role_of : Point → Role
role_of p = if p.count == 0 then record_word else role_in p.head p.count
