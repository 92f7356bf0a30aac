use Rattle.mc_standard.proofs.SumBits.{sum_of_sums, summed-rising, different}
use Rattle.mc_standard.proofs.sum.Sum.add_sum.Goals as goal

pub returns-clause-sum : goal.returns-clause-sum
returns-clause-sum c =
    rw (← c.self.view_is, ← c.other.view_is)
    (sum_of_sums c.self.inside.words c.other.inside.words c.add_words.new.to c.self.inside.constant
    c.other.inside.constant _ c.add_words.ensures
    (different c.self.inside.constant c.other.inside.constant))

pub returns-clause-rising : goal.returns-clause-rising
returns-clause-rising c = summed-rising c.add_words.new.to _
