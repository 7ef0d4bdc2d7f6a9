-- Worked cases, which compute. Assumes nothing.
use mathlib.Core.Path.{◌≡◌, refl}
use mathlib.Core.Bool.{true, false}
use mathlib.Core.List.{List, [], ◌∷◌, ◌++◌}
use Prim.Native.Nat.{ℕ}
use Rattle.octets.specs.Bytes.{bytes_at, digits, zeros}
use Rattle.octets.specs.Bits.{bit, bits}
use Rattle.elements.specs.Table.{table, below, position, numbered, thread_element}
use Rattle.handover.specs.Form.{size, is_zero, presence, head, kept, body, form, is_shown, next, read, sound, holds, given, opens, begins, values_of}

-- a state that is all zero, and one whose last byte is 1: the bit of ASDR, 16 + 169, is in byte 23
abbrev none : List ℕ
none = 0x10 ∷ 0x0A ∷ zeros 22

abbrev last : List ℕ
last = 0x10 ∷ 0x0A ∷ (zeros 21 ++ (0x40 ∷ (zeros 7 ++ (1 ∷ []))))

pub form_none : form 5 (zeros 1820) ≡ none
unfolding form head digits presence body kept is_zero bytes_at size zeros thread_element numbered table position below
form_none = refl

pub form_last : form 5 (zeros 1819 ++ (1 ∷ [])) ≡ last
unfolding form head digits presence body kept is_zero bytes_at size zeros thread_element numbered table position below
form_last = refl

pub values_last : values_of last ≡ zeros 1819 ++ (1 ∷ [])
unfolding given read next is_shown bit bytes_at size zeros thread_element numbered table
values_last = refl

-- another vCPU's, a cut value, a value that is present and zero, padding
pub wrong_vcpu : begins 6 last ≡ false
unfolding begins opens bits bit zeros
wrong_vcpu = refl

pub cut_value : begins 5 (bytes_at last 0 31) ≡ false
unfolding begins opens bits bit holds sound is_shown next is_zero bytes_at size zeros thread_element numbered table
cut_value = refl

pub zero_value : begins 5 (bytes_at last 0 31 ++ (0 ∷ [])) ≡ false
unfolding begins opens bits bit holds sound is_shown next is_zero bytes_at size zeros thread_element numbered table
zero_value = refl

pub padded : begins 5 (0x10 ∷ 0x0A ∷ (zeros 21 ++ (1 ∷ []))) ≡ false
unfolding begins opens bits bit zeros
padded = refl

-- bytes behind the form are not looked at
pub more_behind : begins 5 (last ++ (7 ∷ [])) ≡ true
unfolding begins opens bits bit holds sound is_shown next is_zero bytes_at size zeros thread_element numbered table
more_behind = refl
