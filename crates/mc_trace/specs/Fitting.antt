-- Whether two commands are those of a rule's line, and what the rule then makes of them.
use Rattle.std.specs.Prelude.{ℕ, Bool, false, cond, not, ◌&&◌, ◌||◌, nat_eq, List, [], ◌∷◌}
use Rattle.mc_model.specs.Numbers.{is_member}
use Rattle.mc_model.specs.Signals.{signal_sum}
use Rattle.mc_model.specs.Pattern.{Command, Prep, Ent, Meas, FixX, FixZ}
use Rattle.mc_model.specs.Derivation.{Rule, XE, ZE, XM, ZM, Swap, Join, EE, Cancel, XZ, Turn}
use Rattle.mc_model.specs.Derivation.{DropEmpty}
use Rattle.mc_trace.specs.declared.fitting.Shape.{Shape}

-- what a rule asks of a command, apart from its signals: the kind, and its operands, one of which
-- may stand twice
abbrev pub shape_of : Command → Shape
shape_of (Prep q) = record { kind = 0; a = q; b = q }
shape_of (Ent q r) = record { kind = 1; a = q; b = r }
shape_of (Meas q a s t) = record { kind = 2; a = q; b = q }
shape_of (FixX q s) = record { kind = 3; a = q; b = q }
shape_of (FixZ q s) = record { kind = 4; a = q; b = q }

-- the signals of the command name the qubit
abbrev pub names_it : ℕ → Command → Bool
names_it i (Prep q) = false
names_it i (Ent q r) = false
names_it i (Meas q a s t) = is_member s.members i || is_member t.members i
names_it i (FixX q s) = is_member s.members i
names_it i (FixZ q s) = is_member s.members i

-- the second uses the outcome of the first
abbrev pub uses_it : Command → Command → Bool
uses_it (Prep q) d = false
uses_it (Ent q r) d = false
uses_it (Meas q a s t) d = names_it q d
uses_it (FixX q s) d = false
uses_it (FixZ q s) d = false

-- the first operand of the one is an operand of the other
abbrev pub meets_shape : Shape → Shape → Bool
meets_shape c d = nat_eq c.a d.a || nat_eq c.a d.b

-- two commands are those of the rule's line
abbrev pub fits_line : Rule → Shape → Shape → Bool → Bool
fits_line XE c d used = nat_eq c.kind 3 && (nat_eq d.kind 1 && meets_shape c d)
fits_line ZE c d used = nat_eq c.kind 4 && (nat_eq d.kind 1 && meets_shape c d)
fits_line XM c d used = nat_eq c.kind 3 && (nat_eq d.kind 2 && meets_shape c d)
fits_line ZM c d used = nat_eq c.kind 4 && (nat_eq d.kind 2 && meets_shape c d)
fits_line Swap c d used =
    not used
    && (not (nat_eq c.a d.a)
    && (not (nat_eq c.a d.b) && (not (nat_eq c.b d.a) && not (nat_eq c.b d.b))))
fits_line Join c d used =
    ((nat_eq c.kind 3 && nat_eq d.kind 3) || (nat_eq c.kind 4 && nat_eq d.kind 4))
    && nat_eq c.a d.a
fits_line EE c d used = nat_eq c.kind 1 && nat_eq d.kind 1
fits_line Cancel c d used =
    nat_eq c.kind 1
    && (nat_eq d.kind 1
    && ((nat_eq c.a d.a && nat_eq c.b d.b) || (nat_eq c.a d.b && nat_eq c.b d.a)))
fits_line XZ c d used =
    ((nat_eq c.kind 3 && nat_eq d.kind 4) || (nat_eq c.kind 4 && nat_eq d.kind 3))
    && nat_eq c.a d.a
fits_line Turn c d used = false
fits_line DropEmpty c d used = false

-- what the rule makes of two commands of its line
abbrev pub made : Rule → Command → Command → List Command
made XE (FixX q s) (Ent i j) = Ent i j ∷ FixX q s ∷ FixZ (cond (nat_eq i q) j i) s ∷ []
made XM (FixX q r) (Meas i a s t) = Meas i a (signal_sum s r) t ∷ []
made ZM (FixZ q r) (Meas i a s t) = Meas i a s (signal_sum t r) ∷ []
made Join (FixX q s) (FixX r t) = FixX q (signal_sum s t) ∷ []
made Join (FixZ q s) (FixZ r t) = FixZ q (signal_sum s t) ∷ []
made Cancel c d = []
made rule c d = d ∷ c ∷ []
