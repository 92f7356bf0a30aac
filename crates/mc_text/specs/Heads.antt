-- The record words at the heads of lines.
use Rattle.std.specs.Prelude.{ℕ, List, [], ◌∷◌, Bool, true, false, nat_eq, find, codes, Option}
use Rattle.std.specs.Prelude.{None, Some}
use Rattle.std.specs.Cmp.Lexicographic.{pointwise}
use Rattle.mc_text.specs.declared.head.Head.{Head}
use Rattle.mc_text.specs.declared.head.Head.TheVariants.{In, Plus, Out, End, J, Cz, N, E, M, X, Z}
use Rattle.mc_text.specs.declared.head.Head.TheVariants.{O, Depth, G, Y, B, U, L, H, S, Sdg, T, Tdg}
use Rattle.mc_text.specs.declared.head.Head.TheVariants.{Cx, Swap, Ccx}

-- whether two words are the same
abbrev pub is_word : List ℕ → List ℕ → Bool
is_word = pointwise nat_eq

abbrev pub spelling : Head → List ℕ
spelling In = codes "in"
spelling Plus = codes "plus"
spelling Out = codes "out"
spelling End = codes "end"
spelling J = codes "j"
spelling Cz = codes "cz"
spelling N = codes "n"
spelling E = codes "e"
spelling M = codes "m"
spelling X = codes "x"
spelling Z = codes "z"
spelling O = codes "o"
spelling Depth = codes "depth"
spelling G = codes "g"
spelling Y = codes "y"
spelling B = codes "b"
spelling U = codes "u"
spelling L = codes "l"
spelling H = codes "h"
spelling S = codes "s"
spelling Sdg = codes "sdg"
spelling T = codes "t"
spelling Tdg = codes "tdg"
spelling Cx = codes "cx"
spelling Swap = codes "swap"
spelling Ccx = codes "ccx"

abbrev pub heads : List Head
heads =
    In ∷ Plus ∷ Out ∷ End ∷ J ∷ Cz ∷ N ∷ E ∷ M ∷ X ∷ Z ∷ O ∷ Depth ∷ G ∷ Y ∷ B ∷ U ∷ L
    ∷ H ∷ S ∷ Sdg ∷ T ∷ Tdg ∷ Cx ∷ Swap ∷ Ccx ∷ []

-- the record word that a word spells
abbrev pub head_of : List ℕ → Option Head
head_of word = find (λ head. is_word (spelling head) word) heads

-- the record word of a line
abbrev pub head_in : List (List ℕ) → Option Head
head_in [] = None
head_in (word ∷ words) = head_of word

abbrev pub is_end : Option Head → Bool
is_end (Some End) = true
is_end _ = false
