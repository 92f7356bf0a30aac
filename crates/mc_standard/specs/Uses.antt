-- The rules and uses of the code as those of the definitions.
use Rattle.mc_standard.specs.declared.rule.Rule.{Rule}
use Rattle.mc_standard.specs.declared.rule.Rule.TheVariants as rule
use Rattle.mc_standard.specs.declared.rule.Use.{Use}
use Rattle.mc_model.specs.Derivation as plain

abbrev pub plain_rule : Rule → plain.Rule
plain_rule rule.XE = plain.XE
plain_rule rule.ZE = plain.ZE
plain_rule rule.XM = plain.XM
plain_rule rule.ZM = plain.ZM
plain_rule rule.Swap = plain.Swap
plain_rule rule.Join = plain.Join
plain_rule rule.EE = plain.EE
plain_rule rule.Cancel = plain.Cancel
plain_rule rule.XZ = plain.XZ
plain_rule rule.Turn = plain.Turn
plain_rule rule.DropEmpty = plain.DropEmpty

abbrev pub plain_use : Use → plain.Use
plain_use u = record { place = u.place; rule = plain_rule u.rule }
