-- Requests: what is asked of the text that comes in, and samples, for which nothing is read.
use Rattle.std.specs.Prelude.{ℕ, ◌≤◌, List, [], ◌∷◌, Bool, false, codes, nat_eq, if◌then◌else◌}
use Rattle.std.specs.Prelude.{IsTrue, ⊤, Option, None, Some, is_some}
use Rattle.std.specs.Option.{option_map, option_or}
use Rattle.std.specs.Cmp.Lexicographic.{pointwise}
use Rattle.mc_top.specs.declared.request.Request as code
use Rattle.mc_top.specs.declared.request.Request.TheVariants.{OfText, Sample}
use Rattle.mc_top.specs.Commands.{Asked, asked_in, may_deny, plain_task}
use Rattle.mc_top.specs.Due.{Due}
use Rattle.mc_top.specs.Sample.{IsDueSample, sample_number}
use Rattle.mc_top.specs.Serve.{IsDue, Means}

pub data Request : Type 0 where
  of_text : Asked → Request
  of_sample : ℕ → Request

-- the number of a sample: the word `sample` and the number
abbrev pub sample_in : List (List ℕ) → Option ℕ
sample_in (word ∷ number ∷ []) =
    if pointwise nat_eq word (codes "sample") then sample_number number else None
sample_in _ = None

-- what the words ask for
abbrev pub requested : List (List ℕ) → Option Request
requested words =
    option_or (option_map of_text (asked_in words)) (option_map of_sample (sample_in words))

-- the words are one of the known lists
abbrev pub IsListed : List (List ℕ) → Type 0
IsListed words = IsTrue (is_some (requested words))

-- what a request of the code asks for
abbrev pub plain_request : code.Request → Request
plain_request (OfText task) = of_text (plain_task task)
plain_request (Sample number) = of_sample number

-- the number of a sample is from 1 to 200
abbrev pub IsInRange : code.Request → Type 0
IsInRange (OfText task) = ⊤
IsInRange (Sample number) = (1 ≤ number) × (number ≤ 200)

-- the text that comes in is read
abbrev pub ReadsText : Option Request → Type 0
ReadsText None = ⊥
ReadsText (Some (of_text asked)) = ⊤
ReadsText (Some (of_sample number)) = ⊥

-- the bytes that a request is about, where they are told: a sample is about none
abbrev pub input_for : Request → Option (List ℕ) → Option (List ℕ)
input_for (of_text asked) left = left
input_for (of_sample number) left = Some []

-- what is due to a request
abbrev pub IsDueTo : Request → List ℕ → Due → Type 0
IsDueTo (of_text asked) input = IsDue asked input
IsDueTo (of_sample number) input = IsDueSample number

-- what its answer means: a sample's answer means what its text says
abbrev pub MeansTo : Request → List ℕ → Type 0
MeansTo (of_text asked) input = Means asked input
MeansTo (of_sample number) input = ⊤

-- whether `No` may be answered
abbrev pub may_be_denied : Request → Bool
may_be_denied (of_text asked) = may_deny asked
may_be_denied (of_sample number) = false
