-- It calls itself with one digit less.
use Rattle.text.proofs.+push_shown.Given as goal

abbrev pub decreases-push_shown : goal.decreases-push_shown
decreases-push_shown l = l.most
