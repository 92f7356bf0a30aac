-- The words that name the kinds of section.
use Rattle.std.specs.Prelude.{ℕ, List, [], ◌∷◌, nat_eq, find, codes, Option}
use Rattle.std.specs.Cmp.Lexicographic.{pointwise}
use Rattle.mc_lex.specs.declared.kind.Kind.{Kind}
use Rattle.mc_lex.specs.declared.kind.Kind.TheVariants.{Circuit, Pattern, Graph, Change, Flow}
use Rattle.mc_lex.specs.declared.kind.Kind.TheVariants.{NoFlow, NoCausal, Trace, Least, Gates}

abbrev pub spelling : Kind → List ℕ
spelling Circuit = codes "circuit"
spelling Pattern = codes "pattern"
spelling Graph = codes "graph"
spelling Change = codes "change"
spelling Flow = codes "flow"
spelling NoFlow = codes "noflow"
spelling NoCausal = codes "nocausal"
spelling Trace = codes "trace"
spelling Least = codes "least"
spelling Gates = codes "gates"

abbrev pub kinds : List Kind
kinds =
    Circuit ∷ Pattern ∷ Graph ∷ Change ∷ Flow ∷ NoFlow ∷ NoCausal ∷ Trace ∷ Least ∷ Gates ∷ []

-- the kind whose word this is
abbrev pub kind_of : List ℕ → Option Kind
kind_of word = find (λ kind. pointwise nat_eq (spelling kind) word) kinds
