-- What a command is.
use Rattle.std.specs.Prelude.{ℕ, List}
use Rattle.mc_text.specs.Judged.{Place}
use Rattle.mc_document.specs.declared.takes.Takes.{Takes}
use Rattle.mc_document.specs.Documents.{PlainDocument}
use Rattle.mc_top.specs.Due.{Due}

-- the word that asks for it; the kinds of document that it takes; what is due for a document whose
-- first word stands at a place, with angles of so many steps in half a turn; what the answer means,
-- beside what its text says. Nothing is due, and nothing is meant, for a kind that it does not take
pub record Command : Type 1 where
  pub word : List ℕ
  pub takes : Takes
  pub IsDue : ℕ → Place → PlainDocument → Due → Type 0
  pub Means : ℕ → PlainDocument → Type 0
