-- Zeros, then each field: `header_made`.
use Rattle.store.proofs.Converting.{formed_long, caps_room, caps_fit, header_made}
use mathlib.Core.Path.{◌≡◌, subst}
use Rattle.octets.specs.Bytes.{put, zeros}
use Rattle.store.specs.declared.Layout.{Layout}
use borrow.Author.Rules.{rules}
use Rattle.store.proofs.conversion.copy_header.Goals as goal

pub copy-requires : goal.copy-requires
copy-requires c = (search (rules, caps_room), search (rules, caps_fit))

pub copy_lives-requires : goal.copy_lives-requires
copy_lives-requires c = search (rules, formed_long)

pub copy_marks-requires : goal.copy_marks-requires
copy_marks-requires c = (search rules, search (rules, formed_long), search rules)

pub returns : goal.returns
returns c =
    let a : c.clear.new.dst ≡ put c.args.t.now 0 (zeros c.args.m.size) = subst (λ (x : Layout). c.clear.new.dst ≡ put c.args.t.now 0 (zeros x.size)) c.m.view_is c.clear.ensures in
    search (rules, header_made, a)
