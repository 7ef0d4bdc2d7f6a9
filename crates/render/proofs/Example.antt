-- THEOREM `as_printed`: the listing of 01's example is the text that 01 prints. Beside it, the shortest listings. Each is computed.
-- Assumes nothing.
use mathlib.Core.Path.{◌≡◌, refl}
use mathlib.Core.List.{[], ◌∷◌}
use Rattle.octets.specs.Bytes.{be}
use Rattle.elements.specs.Table.{table, find, kind_of}
use Rattle.elements.specs.Later.{offers}
use Rattle.rules.specs.Rules.{allows, permits, size_fits, rule_of, good_value}
use Rattle.gsb.specs.Walk.{judged, walk_on, walk, first_bad}
use Rattle.text.specs.Text.{ascii, shown}
use Rattle.render.specs.Listing.{first_line, verdict_text, line, on_good, lines, refused_line, last_line, listing, example}

pub as_printed : listing example ≡ ascii "elements 2 bytes 24\n0 4 1003 8 ok\n1 16 0003 4 bad\nanswer 6 index 1 offset 16\n"
unfolding be table find kind_of allows offers permits size_fits rule_of good_value judged walk_on walk first_bad shown first_line verdict_text line on_good lines refused_line last_line listing
as_printed = refl

-- "A length of answer 5 prints only `answer 5`."
pub too_short : listing (0 ∷ 0 ∷ 0 ∷ []) ≡ ascii "answer 5\n"
unfolding listing
too_short = refl

-- "A header that does not fit prints no such line."
pub cut_header : listing (0 ∷ 0 ∷ 0 ∷ 1 ∷ 0x10 ∷ []) ≡ ascii "elements 1 bytes 5\nanswer 7 index 0 offset 4\n"
unfolding be judged walk_on walk first_bad shown first_line lines refused_line last_line listing
cut_header = refl

-- "or `answer 0` alone"
pub no_elements : listing (0 ∷ 0 ∷ 0 ∷ 0 ∷ []) ≡ ascii "elements 0 bytes 4\nanswer 0\n"
unfolding be walk first_bad shown first_line lines last_line listing
no_elements = refl

-- a text is the list of its codes
pub codes_of : ascii "ab\n" ≡ 97 ∷ 98 ∷ 10 ∷ []
codes_of = refl
