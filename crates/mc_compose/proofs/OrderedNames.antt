-- The names of two lists in four parts.
use Rattle.std.proofs.Common.{◌≡◌, ℕ, ◌+◌, ◌≤◌, ◌∙◌, List, ◌++◌, take, drop, length, sym}
use Rattle.std.proofs.Common.{append_assoc}
use mathlib.Core.Path.{subst}
use Rattle.mc_model.specs.Names.{Name, AreNames}
use Rattle.mc_compose.specs.Composed.{free_names}
use Rattle.mc_compose.proofs.NewNames.{names_before}
use Rattle.mc_compose.proofs.ValidPatterns.{ordered, ordered_names}

module _ (i j : ℕ) (first second : List Name) (few : length first + length second ≤ 256)
    (are : AreNames first) (also : AreNames second) where
  abbrev pub two : List Name
  two = take i first ++ take j (free_names first second)

  abbrev pub three : List Name
  three = two ++ drop i first

  pub four_are_ordered : three ++ drop j (free_names first second) ≡ ordered i j first second
  four_are_ordered =
      append_assoc two (drop i first) (drop j (free_names first second))
      ∙ append_assoc (take i first) (take j (free_names first second))
      (drop i first ++ drop j (free_names first second))

  pub four_names : AreNames (three ++ drop j (free_names first second))
  four_names =
      subst AreNames (sym four_are_ordered) (ordered_names i j first second few are also)

  pub three_names : AreNames three
  three_names = names_before three (drop j (free_names first second)) four_names

  pub two_names : AreNames two
  two_names = names_before two (drop i first) three_names

  pub one_names : AreNames (take i first)
  one_names = names_before (take i first) (take j (free_names first second)) two_names
