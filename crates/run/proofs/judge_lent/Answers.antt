-- By how far the tests came: the laws `lent-..` of Runs.
use Rattle.run.proofs.Runs.{lent_no_input, lent_no_output, lent_short, lent_small, lent_short_output, lent_all}
use borrow.Author.Rules.{rules}
use Rattle.run.proofs.judge_lent.Goals as goal

pub returns-then-not-good_input : goal.returns-then-not-good_input
returns-then-not-good_input c = search (rules, lent_no_input)

pub returns-then-not-good_output : goal.returns-then-not-good_output
returns-then-not-good_output c = search (rules, lent_no_output)

pub returns-then-input_len-input : goal.returns-then-input_len-input
returns-then-input_len-input c = search (rules, lent_short)

pub returns-then-input-need : goal.returns-then-input-need
returns-then-input-need c = search (rules, lent_small)

pub returns-then-output_len-output : goal.returns-then-output_len-output
returns-then-output_len-output c = search (rules, lent_short_output)

pub returns : goal.returns
returns c = search (rules, lent_all)
