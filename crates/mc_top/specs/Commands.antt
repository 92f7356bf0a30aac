-- The commands, and the lists of words that ask for them.
use Rattle.std.specs.Prelude.{ℕ, List, [], ◌∷◌, Bool, ◌&&◌, ◌||◌, find, map, length, nat_eq, nat_le}
use Rattle.std.specs.Prelude.{true, false, if◌then◌else◌, Option, None, Some}
use Rattle.std.specs.List.{list_all}
use Rattle.std.specs.Cmp.Lexicographic.{pointwise}
use Rattle.mc_top.specs.declared.task.Task.{Task}
use Rattle.mc_top.specs.declared.task.Task.TheVariants.{Translate, Print, Standard, Shift, Run}
use Rattle.mc_top.specs.declared.task.Task.TheVariants.{RunBranch, Graph, Flow, Check}
use Rattle.mc_top.specs.declared.task.Task.TheVariants.{Make, Extract, Compile, Trace}
use Rattle.mc_top.specs.declared.task.Task.TheVariants.{Chain, Beside, Lower, Least}
use Rattle.mc_top.specs.Command.{Command}
use Rattle.mc_top.specs.Translate.{translate_command}
use Rattle.mc_top.specs.Print.{print_command}
use Rattle.mc_top.specs.Standard.{standard_command}
use Rattle.mc_top.specs.Shift.{shift_command}
use Rattle.mc_top.specs.Run.{run_command}
use Rattle.mc_top.specs.Branch.{branch_command}
use Rattle.mc_top.specs.Graph.{graph_command}
use Rattle.mc_top.specs.Flow.{flow_command}
use Rattle.mc_top.specs.Check.{check_command}
use Rattle.mc_top.specs.Make.{make_command}
use Rattle.mc_top.specs.Extract.{extract_command}
use Rattle.mc_top.specs.Compile.{compile_command}
use Rattle.mc_top.specs.Trace.{trace_command}
use Rattle.mc_top.specs.Chain.{chain_command}
use Rattle.mc_top.specs.Beside.{beside_command}
use Rattle.mc_top.specs.Lower.{lower_command}
use Rattle.mc_top.specs.Least.{least_command}

-- what may be asked for
pub data Asked : Type 0 where
  translate : Asked
  print : Asked
  standard : Asked
  shift : Asked
  run : Asked
  run_branch : List Bool → Asked
  graph : Asked
  flow : Asked
  check : Asked
  make : Asked
  extract : Asked
  compile : Asked
  trace : Asked
  chain : Asked
  beside : Asked
  lower : Asked
  least : Asked

abbrev pub command_of : Asked → Command
command_of translate = translate_command
command_of print = print_command
command_of standard = standard_command
command_of shift = shift_command
command_of run = run_command
command_of (run_branch outcomes) = branch_command outcomes
command_of graph = graph_command
command_of flow = flow_command
command_of check = check_command
command_of make = make_command
command_of extract = extract_command
command_of compile = compile_command
command_of trace = trace_command
command_of chain = chain_command
command_of beside = beside_command
command_of lower = lower_command
command_of least = least_command

-- whether `No` may be answered
abbrev pub may_deny : Asked → Bool
may_deny translate = false
may_deny print = false
may_deny standard = false
may_deny shift = false
may_deny run = false
may_deny (run_branch outcomes) = false
may_deny graph = false
may_deny flow = true
may_deny check = true
may_deny make = true
may_deny extract = true
may_deny compile = false
may_deny trace = false
may_deny chain = false
may_deny beside = false
may_deny lower = false
may_deny least = true

-- whether the answer is what is chosen of a graph, or a derivation
abbrev pub chooses : Asked → Bool
chooses translate = false
chooses print = false
chooses standard = false
chooses shift = false
chooses run = false
chooses (run_branch outcomes) = false
chooses graph = false
chooses flow = true
chooses check = false
chooses make = true
chooses extract = true
chooses compile = true
chooses trace = true
chooses chain = false
chooses beside = false
chooses lower = false
chooses least = true

-- what one word asks for
abbrev pub alone : List Asked
alone =
    translate ∷ print ∷ standard ∷ shift ∷ run ∷ graph ∷ flow ∷ check
    ∷ make ∷ extract ∷ compile ∷ trace ∷ least ∷ chain ∷ beside ∷ lower ∷ []

-- whether this is the word of a command
abbrev pub is_asked : List ℕ → Asked → Bool
is_asked word asked = pointwise nat_eq word (command_of asked).word

-- a digit of an outcome is 0 or 1
abbrev pub is_one : ℕ → Bool
is_one digit = nat_eq digit 49

abbrev pub is_outcome : ℕ → Bool
is_outcome digit = nat_eq digit 48 || is_one digit

-- one to 256 outcomes
abbrev pub is_count : ℕ → Bool
is_count n = nat_le 1 n && nat_le n 256

abbrev pub are_outcomes : List ℕ → Bool
are_outcomes digits = is_count (length digits) && list_all is_outcome digits

-- what the words ask for: one of those words alone, or `run` with the outcomes of a branch
abbrev pub asked_in : List (List ℕ) → Option Asked
asked_in (word ∷ []) = find (is_asked word) alone
asked_in (word ∷ digits ∷ []) =
    if is_asked word run && are_outcomes digits
    then Some (run_branch (map is_one digits)) else None
asked_in _ = None

-- what a task of the code asks for
abbrev pub plain_task : Task → Asked
plain_task Translate = translate
plain_task Print = print
plain_task Standard = standard
plain_task Shift = shift
plain_task Run = run
plain_task (RunBranch digits) = run_branch (map is_one digits.now)
plain_task Graph = graph
plain_task Flow = flow
plain_task Check = check
plain_task Make = make
plain_task Extract = extract
plain_task Compile = compile
plain_task Trace = trace
plain_task Chain = chain
plain_task Beside = beside
plain_task Lower = lower
plain_task Least = least
