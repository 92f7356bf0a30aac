-- The definitions, computed on small texts behind a graph of `a`, `b` and `c`: each fault that a
-- certificate can meet, with its place, and what is written.
use Rattle.std.specs.Prelude.{◌≡◌, ℕ, List, [], ◌∷◌, codes, Option, None, Some, refl}
use Rattle.mc_lex.specs.declared.kind.Kind.{Kind}
use Rattle.mc_lex.specs.declared.kind.Kind.TheVariants.{Flow, NoFlow, NoCausal, Least}
use Rattle.mc_lex.specs.Lines.{lines_of, end_of}
use Rattle.mc_text.specs.declared.fault.Fault.{Fault}
use Rattle.mc_text.specs.declared.fault.Fault.TheVariants.{NotFixed, LineEnds, Surplus, NotName}
use Rattle.mc_text.specs.declared.fault.Fault.TheVariants.{NotNumber, NotDefined, ListedTwice}
use Rattle.mc_text.specs.declared.fault.Fault.TheVariants.{RowTwice, TextEnds}
use Rattle.mc_text.specs.Judged.{Judgement, fault, Place, first_in_section, section_lines}
use Rattle.mc_cert_text.specs.Certs.{PlainCert, flow, noflow, nocausal, least}
use Rattle.mc_cert_text.specs.Kinds.{cert_rules, cert_in}
use Rattle.mc_cert_text.specs.Canonical.{cert_text}

abbrev pub names : List (List ℕ)
names = codes "a" ∷ codes "b" ∷ codes "c" ∷ []

-- the first fault of a section that is the whole text
abbrev pub first : Kind → List ℕ → Option (Judgement × Place)
first kind text = first_in_section (cert_rules kind names) [] (lines_of text) (end_of text)

abbrev pub Breaks : Kind → List ℕ → Fault → ℕ → ℕ → Type 0
Breaks kind text broken line column = first kind text ≡ Some (fault broken, (line, column))

abbrev pub Spells : Kind → List ℕ → PlainCert → Type 0
Spells kind text cert = cert_in kind names (section_lines (lines_of text)) ≡ cert

pub whole : first Flow (codes "depth 2\ng 1 b : c\ng 2 a : c b\nend\n") ≡ None
whole = refl

pub spells_flow : Spells Flow (codes "depth 02\ng 1 b : c\ng 2 a : c b\nend\n") (flow (record {
  depth = 2;
  rows = record { vertex = 1; layer = 1; set = 2 ∷ [] }
      ∷ record { vertex = 0; layer = 2; set = 1 ∷ 2 ∷ [] } ∷ [];
}))
spells_flow = refl

pub spells_refuter : Spells NoFlow (codes "y b :\ny a : b a\nend\n") (noflow (
    record { vertex = 1; set = [] } ∷ record { vertex = 0; set = 0 ∷ 1 ∷ [] } ∷ []))
spells_refuter = refl

pub spells_stuck : Spells NoCausal (codes "b c a\nend\n") (nocausal (0 ∷ 2 ∷ []))
spells_stuck = refl

pub spells_bound : Spells Least (codes "depth 2\nl 01 b\nl 2 a\ny 1 a : b a\nend\n")
    (least (record {
      depth = 2;
      layers = record { vertex = 1; layer = 1 } ∷ record { vertex = 0; layer = 2 } ∷ [];
      rows = record { k = 1; vertex = 0; set = 0 ∷ 1 ∷ [] } ∷ [];
    }))
spells_bound = refl

pub written : cert_text names (noflow (
    record { vertex = 1; set = 0 ∷ 2 ∷ [] } ∷ record { vertex = 0; set = [] } ∷ []))
    ≡ codes "noflow 1\ny b : a c\ny a :\nend\n"
written = refl

pub without_depth : Breaks Flow (codes "g 1 a : b\n") NotFixed 1 1
without_depth = refl

pub second_depth : Breaks Flow (codes "depth 1\ndepth 1\n") NotFixed 2 1
second_depth = refl

pub row_twice : Breaks Flow (codes "depth 2\ng 1 a : b\ng 2 a : c\nend\n") RowTwice 3 5
row_twice = refl

pub no_number : Breaks Flow (codes "depth 10000\n") NotNumber 1 7
no_number = refl

pub behind_depth : Breaks Flow (codes "depth 1 1\n") Surplus 1 9
behind_depth = refl

pub no_colon : Breaks Flow (codes "depth 1\ng 1 a b\n") NotFixed 2 7
no_colon = refl

pub member_twice : Breaks NoFlow (codes "y a : b b\n") ListedTwice 1 9
member_twice = refl

pub undefined_member : Breaks NoFlow (codes "y a : d\n") NotDefined 1 7
undefined_member = refl

pub lacks_colon : Breaks NoFlow (codes "y a\n") LineEnds 1 4
lacks_colon = refl

pub second_refuter_row : Breaks NoFlow (codes "y a :\ny a :\n") RowTwice 2 3
second_refuter_row = refl

pub second_set : Breaks NoCausal (codes "b a\nb b\n") NotFixed 2 1
second_set = refl

pub no_set : Breaks NoCausal (codes "end\n") NotFixed 1 1
no_set = refl

pub no_name : Breaks NoCausal (codes "b a :\n") NotName 1 5
no_name = refl

pub cut : Breaks NoCausal (codes "b a\n") TextEnds 2 1
cut = refl

pub second_layer : Breaks Least (codes "depth 1\nl 1 a\nl 2 a\n") RowTwice 3 5
second_layer = refl

pub second_bound_set : Breaks Least (codes "depth 2\ny 1 a :\ny 2 a :\ny 01 a :\n") RowTwice 4 6
second_bound_set = refl

pub layer_behind_set : Breaks Least (codes "depth 2\ny 1 a :\nl 1 a\n") NotFixed 3 1
layer_behind_set = refl

pub behind_layer : Breaks Least (codes "depth 1\nl 1 a b\n") Surplus 2 7
behind_layer = refl
