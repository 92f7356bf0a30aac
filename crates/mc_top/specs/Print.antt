-- `print`: a document in canonical spelling.
use Rattle.std.specs.Prelude.{◌≡◌, ℕ, codes, None, Some, Option}
use Rattle.mc_document.specs.Documents.{PlainDocument}
use Rattle.mc_document.specs.Documents.{document_text}
use Rattle.mc_document.specs.Documents.{every_kind}
use Rattle.mc_document.specs.Sections.{first_in_text, spelled}
use Rattle.mc_top.specs.Due.{Due, holding}
use Rattle.mc_top.specs.Command.{Command}

abbrev pub due_print : ℕ → PlainDocument → Option Due
due_print half d = Some (holding (document_text half d))

-- what is printed has no fault, and spells the document
pub record IsReadBack (half : ℕ) (d : PlainDocument) : Type 0 where
  pub clean : first_in_text half every_kind (document_text half d) ≡ None
  pub same : spelled half (document_text half d) ≡ Some d

abbrev pub print_command : Command
print_command = record {
  word = codes "print";
  takes = every_kind;
  IsDue = λ half place d due. due_print half d ≡ Some due;
  Means = IsReadBack;
}
