-- Calls in a row on a source or a sink.
use Rattle.std.specs.Prelude.{ℕ, ◌+◌, ◌<◌, List, length, drop, Result, Ok, Err}

-- what a read can do: the source before, the buffer as it left it, its answer, the source after
abbrev pub Reads : Type 0 → Type 0 → Type 1
Reads S E = S → List ℕ → Result ℕ E → S → Type 0

-- reads in a row, each of which gave at least one byte
pub data ReadsOn {S E : Type 0} (reads : Reads S E) (old : S) : S → Type 0 where
  no_read : ReadsOn reads old old
  one_more : {now new : S} → ReadsOn reads old now → (buf : List ℕ) (n : ℕ) → 0 < n
      → reads now buf (Ok n) new → ReadsOn reads old new

-- such reads, and then one into a buffer that is not empty, with this answer
pub record ReadsOnThen {S E : Type 0} (reads : Reads S E)
    (old : S) (last : Result ℕ E) (new : S) : Type 0 where
  pub now : S
  pub before : ReadsOn reads old now
  pub buf : List ℕ
  pub room : 0 < length buf
  pub call : reads now buf last new

-- what a write can do: the sink before, the part, its answer, the sink after
abbrev pub Writes : Type 0 → Type 0 → Type 1
Writes S E = S → List ℕ → Result ℕ E → S → Type 0

-- writes in a row of a text, each of them of what was left of it, which took so many bytes of it
pub data WritesOn {S E : Type 0} (writes : Writes S E) (text : List ℕ) (old : S)
    : ℕ → S → Type 0 where
  no_write : WritesOn writes text old 0 old
  one_more : {done : ℕ} {now new : S} → WritesOn writes text old done now → (n : ℕ) → 0 < n
      → writes now (drop done text) (Ok n) new → WritesOn writes text old (done + n) new

-- such writes, and then one of what was left that failed
pub record WritesOnThenFails {S E : Type 0} (writes : Writes S E) (text : List ℕ)
    (old : S) (new : S) : Type 0 where
  pub done : ℕ
  pub now : S
  pub before : WritesOn writes text old done now
  pub rest : done < length text
  pub error : E
  pub call : writes now (drop done text) (Err error) new
