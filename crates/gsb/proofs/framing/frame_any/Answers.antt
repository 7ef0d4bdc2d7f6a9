-- Each return is a law of `framed`.
use borrow.Author.Rules.{rules}
use Rattle.gsb.proofs.LookupLaws.{framed_header, framed_end, framed_good}
use Rattle.gsb.proofs.framing.frame_any.Goals as goal

pub returns-then-b-at-lt4 : goal.returns-then-b-at-lt4
returns-then-b-at-lt4 c = search (rules, framed_header)

pub returns-then-b-at : goal.returns-then-b-at
returns-then-b-at c = search (rules, framed_end)

pub returns : goal.returns
returns c = search (rules, framed_good)
